use Rattle.std.proofs.Common.{◌≡◌, ℕ, ◌*◌, ◌/◌, refl, ap, ◌∙◌, slice_set, arith}
use Rattle.sg_words.specs.Address.{word_at}
use Rattle.sg_space.specs.Space.{Contents}
use Rattle.sg_copy.proofs.Changes.{leads_store}
use Rattle.sg_copy.proofs.plain.PlainRoundCopyPort.store.Goals as goal

pub returns-clause-led : goal.returns-clause-led
returns-clause-led c =
    let s = c.args.self.now.space.now in
    let at : c.at_word.result ≡ 8 * (c.args.a / 8) = c.at_word.ensures in
    let same : word_at c.at_word.result ≡ word_at c.args.a = omega arith in
    let with : ℕ → Contents = λ n. record s { words = slice_set s.words n c.args.w } in
    (refl, leads_store s c.write.new.self c.args.self.now.cells (word_at c.args.a) c.args.w c.requires.may.2 (c.write.ensures ∙ ap with same))
