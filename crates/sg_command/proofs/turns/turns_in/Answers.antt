use Rattle.std.proofs.Common.{◌≡◌, ℕ, ◌≤◌, List, length, sym, ap, ◌∙◌, rules, tests, arith, Bor}
use Rattle.std.specs.Fmt.{decimal}
use Rattle.std.proofs.lemmas.List.{length-map, map-append}
use Rattle.std.proofs.lemmas.Iterator.Splits.{YieldsList-from_slice_split}
use Rattle.std.proofs.lemmas.Iterator.Consumers.{YieldsList-turn, YieldsList-end, YieldsList-at}
use Rattle.sg_words.proofs.Everywhere.{all_append}
use Rattle.sg_command.proofs.Spellings.{part_of_turns, no_more_parts, spelled_by_parts}
use Rattle.sg_command.proofs.turns.turns_in.Goals as goal

pub returns-in_default : goal.returns-in_default
returns-in_default c = λ (turns, is).
    let road = YieldsList-at c.into_iter-part-iterator.ensures.into_iter_gives (YieldsList-from_slice_split _ _ c.args.word.now c.split-part-items.ensures.rest c.split-part-items.ensures.done c.split-part-items.ensures.closure (λ x r q k. search (rules, tests))) in
    let turn = YieldsList-turn road c.loop-part.yielded _ c.loop-part.yielded_by _ _ c.in-Some.part c.in-Some.is c.next.ensures.steps in
    c.in_default.ensures (part_of_turns c.args.word.now turns (length c.loop-part.yielded) c.in-Some.part.now is turn.0 turn.1)

pub returns-then-len-ge-MOST : goal.returns-then-len-ge-MOST
returns-then-len-ge-MOST c = λ (turns, is).
    let many : 65536 ≤ length c.loop-part.turns.items = omega arith in
    let count : length c.loop-part.turns.items ≡ length c.loop-part.yielded =
    sym (length-map c.loop-part.turns.items decimal) ∙ ap length c.loop-part.invariant.so_far ∙ length-map c.loop-part.yielded (λ (p : Bor (List ℕ)). p.now) in
    let road = YieldsList-at c.into_iter-part-iterator.ensures.into_iter_gives (YieldsList-from_slice_split _ _ c.args.word.now c.split-part-items.ensures.rest c.split-part-items.ensures.done c.split-part-items.ensures.closure (λ x r q k. search (rules, tests))) in
    let turn = YieldsList-turn road c.loop-part.yielded _ c.loop-part.yielded_by _ _ c.in-Some.part c.in-Some.is c.next.ensures.steps in
    no_more_parts c.args.word.now turns (length c.loop-part.turns.items) (length c.loop-part.yielded) is many count turn.0

pub loop-part-preserved : goal.loop-part-preserved
loop-part-preserved c = record {
  so_far = simp (c.in_ok-push.ensures.items, map-append) (search rules);
  len = search rules;
  few = search rules;
  small = search (rules, all_append);
}

pub returns : goal.returns
returns c =
    let road = YieldsList-at c.into_iter-part-iterator.ensures.into_iter_gives (YieldsList-from_slice_split _ _ c.args.word.now c.split-part-items.ensures.rest c.split-part-items.ensures.done c.split-part-items.ensures.closure (λ x r q k. search (rules, tests))) in
    let end = YieldsList-end road c.loop-part.yielded _ c.loop-part.yielded_by _ _ c.in-None.is c.next.ensures.steps in
    rw c.from_vec.ensures (spelled_by_parts c.args.word.now c.loop-part.turns.items (c.loop-part.invariant.so_far ∙ end.0) c.loop-part.invariant.few c.loop-part.invariant.small)
