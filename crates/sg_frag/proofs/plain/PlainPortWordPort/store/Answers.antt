use Rattle.std.proofs.Common.{◌≡◌, ℕ, ◌*◌, ◌/◌, refl, ap, ◌∙◌, slice_set, arith}
use Rattle.sg_words.specs.Address.{word_at}
use Rattle.sg_space.specs.Space.{Contents}
use Rattle.sg_frag.proofs.Changes.{led_store}
use Rattle.sg_frag.proofs.plain.PlainPortWordPort.store.Goals as goal

pub returns-clause-led : goal.returns-clause-led
returns-clause-led c =
    let at : c.at_word.result ≡ 8 * (c.args.a / 8) = c.at_word.ensures in
    let same : word_at c.at_word.result ≡ word_at c.args.a = omega arith in
    let with : ℕ → Contents = λ n. record c.args.self.now.space.now { words = slice_set c.args.self.now.space.now.words n c.args.w } in
    (refl, led_store c.args.self.now.space.now c.write.new.self (word_at c.args.a) c.args.w c.requires.may.2 (c.write.ensures ∙ ap with same))
