use Rattle.std.proofs.Common.{ap, sym, ◌∙◌, arith}
use Rattle.std.proofs.lemmas.Option.{none-some, same_Some}
use Rattle.sg_words.specs.Sections.{old_base}
use Rattle.sg_major.specs.Parts.{IsPointedBehind}
use Rattle.sg_major.proofs.Rooting.{adds_none, adds_one}
use Rattle.sg_major.proofs.roots.add_one.Goals as goal

pub returns-then-v-old_word : goal.returns-then-v-old_word
returns-then-v-old_word c = λ owner sound. adds_none (IsPointedBehind c.args.space.now owner c.args.v) c.args.roots.now.items (λ a q.
    let far = q.0 in let near = c.if-v-old_word.true in let edge = c.old_word.ensures in let same = ap old_base c.layout.ensures.layout in absurd (omega arith))

pub returns-in_ok-push : goal.returns-in_ok-push
returns-in_ok-push c = λ owner sound.
    let s = c.args.space.now in
    let here = c.in-Some.ensures in
    let far = c.if-v-old_word.false in
    let edge = c.old_word.ensures in
    let same = ap old_base c.layout.ensures.layout in
    adds_one (IsPointedBehind s owner c.args.v) c.args.roots.now.items c.push.new.self.items c.in-Some.a c.in_ok-push.ensures.items
    (omega arith, (here.owns owner sound, here.whole))
    (λ d q.
    let word = same_Some _ _ (sym q.1.0 ∙ here.owns owner sound) in
    let first = q.1.1 in
    let second = here.whole in
    omega arith)

pub returns-in_default : goal.returns-in_default
returns-in_default c = λ owner sound. adds_none (IsPointedBehind c.args.space.now owner c.args.v) c.args.roots.now.items (λ a q.
    none-some _ (sym (c.in_default.ensures.none owner sound) ∙ q.1.0))
