use Rattle.std.proofs.Common.{◌≡◌, ℕ, ◌<◌, ◌≤◌, ◌+◌, ◌*◌, [], ◌∷◌, length, take, sym, refl, ◌∙◌, subst, arith, rules}
use Rattle.std.proofs.lemmas.Bool.{false≢true}
use Rattle.std.specs.List.{AllByRecursion}
use Rattle.sg_program.specs.declared.program.Item.{out-Item}
use Rattle.sg_program.specs.declared.program.Item.TheOpen.{Repeat}
use Rattle.sg_program.specs.Scripts.{written}
use Rattle.sg_program.specs.Invariants.{HasOperands}
use Rattle.sg_program.specs.Kinds.{Done, Misuses, Here, Inside}
use Rattle.sg_kinds.specs.Table.{kinds_of}
use Rattle.sg_kinds.proofs.Walks.{opened_one, opened_repeat, body_length, body_all, statement_all, one_length, does, repeats, has_some, ends, further, further_length, found, within, item_all, item_length}
use Rattle.sg_kinds.proofs.Depths.{depth, depths, body_below, item_below}
use Rattle.sg_kinds.proofs.walk.+items.Goals as goal
use Rattle.sg_kinds.proofs.walk.+items.Goals.{pass-After-as_slice}

pub pass-take-requires : goal.pass-take-requires
pass-take-requires t c = statement_all HasOperands c.args.item.now c.in-One.statement (opened_one _ _ c.in-One.is) c.requires.operands

pub pass-walk-requires : goal.pass-walk-requires
pass-walk-requires t c =
    let item = c.args.item.now in
    let xs = c.as_slice.result.now in
    let e : out-Item item ≡ Repeat c.in-Repeat.times xs = opened_repeat item c.in-Repeat.times c.in-Repeat.body xs c.as_slice.ensures c.in-Repeat.is in
    let below : 2 * depths xs + 1 < 2 * depth item = body_below item c.in-Repeat.times xs e in
    let same = body_length item c.in-Repeat.times xs e in
    let few : length (written (item ∷ [])) ≤ 1048576 = c.requires.few in
    (search rules, (omega arith, body_all HasOperands item c.in-Repeat.times xs e c.requires.operands))

pub pass-returns-then-take-clause-count : goal.pass-returns-then-take-clause-count
pass-returns-then-take-clause-count t c = one_length c.args.item.now c.in-One.statement (opened_one _ _ c.in-One.is)

pub pass-returns-then-take-clause-leads : goal.pass-returns-then-take-clause-leads
pass-returns-then-take-clause-leads t c =
    does (kinds_of c.args.table.now) c.args.item.now c.in-One.statement (kinds_of c.take.new.table) (opened_one _ _ c.in-One.is)
    (c.if-take.ensures.needs refl) (c.if-take.ensures.after refl)

pub pass-returns-else-take-clause-misuse : goal.pass-returns-else-take-clause-misuse
pass-returns-else-take-clause-misuse t c =
    Here (kinds_of c.args.table.now) c.args.item.now c.in-One.statement [] (opened_one _ _ c.in-One.is) (c.if-take.ensures.lacks refl)

pub pass-returns-in-Err-clause-misuse : goal.pass-returns-in-Err-clause-misuse
pass-returns-in-Err-clause-misuse t c =
    let item = c.args.item.now in
    let xs = c.as_slice.result.now in
    let e : out-Item item ≡ Repeat c.in-Repeat.times xs = opened_repeat item c.in-Repeat.times c.in-Repeat.body xs c.as_slice.ensures c.in-Repeat.is in
    Inside (kinds_of c.args.table.now) item c.in-Repeat.times xs [] c.in-Err.n e c.in-Err.ensures.misuse

pub pass-overflow_sub-result : goal.pass-overflow_sub-result
pass-overflow_sub-result t c =
    has_some (kinds_of c.args.table.now) c.as_slice.result.now (kinds_of c.walk.new.table) c.in-Ok.count c.in-Ok.ensures.leads
    (λ same. false≢true (c.if-is_same.ensures.1 same)) c.in-Ok.ensures.count

pub pass-returns-then-is_same-clause-count : goal.pass-returns-then-is_same-clause-count
pass-returns-then-is_same-clause-count t c =
    let item = c.args.item.now in
    let xs = c.as_slice.result.now in
    let e : out-Item item ≡ Repeat c.in-Repeat.times xs = opened_repeat item c.in-Repeat.times c.in-Repeat.body xs c.as_slice.ensures c.in-Repeat.is in
    c.in-Ok.ensures.count ∙ sym (body_length item c.in-Repeat.times xs e)

pub pass-returns-then-is_same-clause-leads : goal.pass-returns-then-is_same-clause-leads
pass-returns-then-is_same-clause-leads t c =
    let item = c.args.item.now in
    let xs = c.as_slice.result.now in
    let e : out-Item item ≡ Repeat c.in-Repeat.times xs = opened_repeat item c.in-Repeat.times c.in-Repeat.body xs c.as_slice.ensures c.in-Repeat.is in
    repeats (kinds_of c.args.table.now) item c.in-Repeat.times xs (kinds_of c.walk.new.table) e c.in-Ok.ensures.leads (c.if-is_same.ensures.0 refl)

pub pass-returns-else-is_same-clause-misuse : goal.pass-returns-else-is_same-clause-misuse
pass-returns-else-is_same-clause-misuse t c =
    let item = c.args.item.now in
    let xs = c.as_slice.result.now in
    let e : out-Item item ≡ Repeat c.in-Repeat.times xs = opened_repeat item c.in-Repeat.times c.in-Repeat.body xs c.as_slice.ensures c.in-Repeat.is in
    ends (kinds_of c.args.table.now) item c.in-Repeat.times xs (kinds_of c.walk.new.table) c.in-Ok.count e c.in-Ok.ensures.leads
    (λ same. false≢true (c.if-is_same.ensures.1 same)) c.in-Ok.ensures.count

pub walk-loop-item-init : goal.walk-loop-item-init
walk-loop-item-init t c = (refl, Done (kinds_of c.args.table.now))

pub walk-pass-requires : goal.walk-pass-requires
walk-pass-requires t c =
    let xs = c.args.items.now in
    let at = c.loop-item.item-index in
    let item = c.item-item.result in
    let l : at < length xs = omega arith in
    let below : 2 * depth item < 2 * depths xs + 1 = subst (λ x. 2 * depth x < 2 * depths xs + 1) (sym c.item-item.is) (item_below xs at item l) in
    let long : length (written (take at xs)) + length (written (item ∷ [])) ≤ length (written xs) =
    subst (λ x. length (written (take at xs)) + length (written (x ∷ [])) ≤ length (written xs)) (sym c.item-item.is) (item_length xs at item l) in (
      search rules,
      (omega (arith, c.requires.few), subst (λ x. AllByRecursion HasOperands (written (x ∷ []))) (sym c.item-item.is) (item_all HasOperands xs at item l c.requires.operands)),
    )

pub walk-overflow_add-count : goal.walk-overflow_add-count
walk-overflow_add-count t c =
    let xs = c.args.items.now in
    let at = c.loop-item.item-index in
    let item = c.item-item.result in
    let l : at < length xs = omega arith in
    let long : length (written (take at xs)) + length (written (item ∷ [])) ≤ length (written xs) =
    subst (λ x. length (written (take at xs)) + length (written (x ∷ [])) ≤ length (written xs)) (sym c.item-item.is) (item_length xs at item l) in
    omega (arith, c.requires.few, c.in-Ok.ensures.count, c.loop-item.invariant.0)

pub walk-overflow_add-result : goal.walk-overflow_add-result
walk-overflow_add-result t c =
    let xs = c.args.items.now in
    let at = c.loop-item.item-index in
    let item = c.item-item.result in
    let l : at < length xs = omega arith in
    let long : length (written (take at xs)) + length (written (item ∷ [])) ≤ length (written xs) =
    subst (λ x. length (written (take at xs)) + length (written (x ∷ [])) ≤ length (written xs)) (sym c.item-item.is) (item_length xs at item l) in
    let inside = within (kinds_of c.loop-item.table) (item ∷ []) c.in-Err.n c.in-Err.ensures.misuse in
    omega (arith, c.requires.few, c.loop-item.invariant.0)

pub walk-returns-in-Err-clause-misuse : goal.walk-returns-in-Err-clause-misuse
walk-returns-in-Err-clause-misuse t c =
    let xs = c.args.items.now in
    let at = c.loop-item.item-index in
    let item = c.item-item.result in
    subst (λ (n : ℕ). Misuses (kinds_of c.args.table.now) xs (n + c.in-Err.n)) (sym c.loop-item.invariant.0)
    (found (kinds_of c.args.table.now) (kinds_of c.loop-item.table) xs at item c.in-Err.n (omega arith) c.item-item.is c.loop-item.invariant.1 c.in-Err.ensures.misuse)

pub walk-loop-item-preserved : goal.walk-loop-item-preserved
walk-loop-item-preserved t c =
    let xs = c.args.items.now in
    let at = c.loop-item.item-index in
    let item = c.item-item.result in
    let l : at < length xs = omega arith in
    let more = further_length xs at item l c.item-item.is in (
      omega (arith, c.in-Ok.ensures.count, c.loop-item.invariant.0),
      further (kinds_of c.args.table.now) (kinds_of c.loop-item.table) (kinds_of c.pass.new.table) xs at item l c.item-item.is c.loop-item.invariant.1 c.in-Ok.ensures.leads,
    )
