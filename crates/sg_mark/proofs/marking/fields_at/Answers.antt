use Rattle.std.proofs.Common.{◌≡◌, ◌+◌, ap, ◌∙◌, arith}
use Rattle.sg_words.specs.Address.{word_at}
use Rattle.sg_space.specs.Standing.{word}
use Rattle.sg_mark.proofs.Objects.{fields_same, fields_few}
use Rattle.sg_mark.proofs.marking.fields_at.Goals as goal

pub overflow_cast-result : goal.overflow_cast-result
overflow_cast-result c =
    let q = c.requires in
    let next = c.plus.ensures in
    let at : word_at c.plus.result ≡ word_at c.args.a + 1 = omega arith in
    let is = c.read.ensures.value ∙ ap (word c.args.space.now) at ∙ fields_same q.0 q.1 q.2 c.args.space.now q.3 c.args.a q.4 in
    let few = fields_few q.0 q.1 q.2 c.args.space.now q.3 c.args.a q.4 in
    omega arith

pub returns : goal.returns
returns c = λ t owner now is at.
    let next = c.plus.ensures in
    let here : word_at c.plus.result ≡ word_at c.args.a + 1 = omega arith in
    c.read.ensures.value ∙ ap (word c.args.space.now) here ∙ fields_same t owner now c.args.space.now is c.args.a at
