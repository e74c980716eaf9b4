use Rattle.std.proofs.Common.{◌≤◌, ◌++◌, length, map, ap, ◌∙◌, arith}
use Rattle.std.proofs.lemmas.List.{take_all}
use Rattle.sg_copy.specs.declared.gray.Gray.TheVariants.{Slot, Whole}
use Rattle.sg_copy.proofs.RoundLists.{are-items}
use Rattle.sg_copy.proofs.round.items_of.Goals as goal

pub returns-clause-items : goal.returns-clause-items
returns-clause-items c =
    let slots = c.args.slots.now in let wholes = c.args.wholes.now in
    let l : length wholes ≤ c.loop-whole.whole-index = omega arith in
    let whole = take_all c.loop-whole.whole-index wholes l in
    are-items slots wholes c.loop-whole.items.items (c.loop-whole.invariant.0 ∙ ap (λ xs. map (λ x. Slot x) slots ++ map (λ x. Whole x) xs) whole)
