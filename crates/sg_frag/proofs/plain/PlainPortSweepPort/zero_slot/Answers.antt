use Rattle.std.proofs.Common.{◌≡◌, List, refl, ap, arith}
use Rattle.sg_words.specs.Address.{word_at}
use Rattle.sg_words.specs.Blocks.{slot_from}
use Rattle.sg_words.specs.Sections.{old_base}
use Rattle.sg_words.specs.Words.{Saw}
use Rattle.sg_words.proofs.Blocks.{slot_fits}
use Rattle.sg_words.specs.declared.steps.Step.{Step}
use Rattle.sg_space.specs.Space.{Contents, words_of}
use Rattle.sg_frag.specs.Plain.{Led}
use Rattle.sg_frag.specs.declared.plain.PlainPort.{PlainPort}
use Rattle.sg_frag.proofs.Zeroed.{makes_zero}
use Rattle.sg_frag.proofs.plain.PlainPortSweepPort.zero_slot.Goals as goal

abbrev leads : PlainPort → List Step → PlainPort → Type 0
leads p es q = (q.space.ghost_name ≡ p.space.ghost_name) × Led p.space.now es q.space.now

abbrev sees : PlainPort → Step → Type 0
sees p t = Saw (words_of p.space.now) t

pub returns : goal.returns
returns c =
    let s = c.args.self.now.space.now in
    let from = slot_from (old_base s.layout) c.args.b c.args.size c.args.slot in
    let base = ap old_base c.layout.ensures.layout in
    let whole = c.layout.ensures.contents.words in
    let blocks = c.layout.ensures.contents.blocks in
    let there = c.requires.there in
    let fits = slot_fits c.args.size c.args.slot c.requires.fits in
    let at : word_at c.at_word.result ≡ from = omega (arith, c.at_word.ensures, c.old_word.ensures) in
    makes_zero leads sees (λ (t : Contents). record c.args.self.now { space = record c.args.self.now.space { now = t } }) (λ s t es h. (refl, h)) (λ s x. tt) s
    c.clear.new.self from c.args.size (omega arith) c.clear.ensures.length
    (λ y a b. c.clear.ensures.zero y (omega arith) (omega arith)) (λ y out. c.clear.ensures.others y (λ a b. out (omega arith) (omega arith)))
    c.clear.ensures.still
