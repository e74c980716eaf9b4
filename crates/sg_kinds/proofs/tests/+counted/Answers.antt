use Rattle.std.proofs.Common.{◌≡◌, ◌<◌, ◌+◌, ◌*◌, length, sym, ◌∙◌, subst, arith, rules}
use Rattle.sg_program.specs.declared.program.Item.{out-Item}
use Rattle.sg_program.specs.declared.program.Item.TheOpen.{Repeat}
use Rattle.sg_program.specs.Invariants.{HasOperands}
use Rattle.sg_kinds.proofs.Walks.{opened_repeat, body_length, repeat_all}
use Rattle.sg_kinds.proofs.Depths.{depth, depths, body_below, item_below}
use Rattle.sg_kinds.proofs.tests.+counted.Goals as goal

pub count_one-count-requires : goal.count_one-count-requires
count_one-count-requires t c =
    let item = c.args.item.now in
    let xs = c.as_slice.result.now in
    let e : out-Item item ≡ Repeat c.in-Repeat.times xs = opened_repeat item c.in-Repeat.times c.in-Repeat.body xs c.as_slice.ensures c.in-Repeat.is in
    let below : 2 * depths xs + 1 < 2 * depth item = body_below item c.in-Repeat.times xs e in
    search rules

pub count-count_one-requires : goal.count-count_one-requires
count-count_one-requires t c =
    let xs = c.args.items.now in
    let at = c.loop-item.item-index in
    let item = c.item-item.result in
    let l : at < length xs = omega arith in
    let below : 2 * depth item < 2 * depths xs + 1 = subst (λ x. 2 * depth x < 2 * depths xs + 1) (sym c.item-item.is) (item_below xs at item l) in
    search rules

pub count_one-returns-in-Some-clause-number : goal.count_one-returns-in-Some-clause-number
count_one-returns-in-Some-clause-number t c =
    let item = c.args.item.now in
    let xs = c.as_slice.result.now in
    let e : out-Item item ≡ Repeat c.in-Repeat.times xs = opened_repeat item c.in-Repeat.times c.in-Repeat.body xs c.as_slice.ensures c.in-Repeat.is in
    c.in-Some.ensures.number ∙ sym (body_length item c.in-Repeat.times xs e)

pub count_one-returns-in-Some-clause-operands : goal.count_one-returns-in-Some-clause-operands
count_one-returns-in-Some-clause-operands t c =
    let item = c.args.item.now in
    let xs = c.as_slice.result.now in
    let e : out-Item item ≡ Repeat c.in-Repeat.times xs = opened_repeat item c.in-Repeat.times c.in-Repeat.body xs c.as_slice.ensures c.in-Repeat.is in
    repeat_all HasOperands item c.in-Repeat.times xs e c.in-Some.ensures.operands
