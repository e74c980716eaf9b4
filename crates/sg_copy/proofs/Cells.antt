-- How a worker loads an offer cell, and takes an item from one, over any port.
use Rattle.std.proofs.Common.{◌≡◌, ℕ, ◌+◌, ◌*◌, ◌<◌, [], ◌∷◌, inl, inr, refl, sym, ap, subst, arith}
use Rattle.sg_words.specs.declared.steps.Place.TheVariants.{Cell}
use Rattle.sg_words.specs.declared.steps.Step.TheVariants.{Load, Won, Lost}
use Rattle.sg_words.specs.declared.steps.Call.TheVariants.{Loads, Swaps}
use Rattle.sg_round.specs.Area.{Area, IsArea}
use Rattle.sg_round.specs.Items.{Item, SlotOf, WholeOf, cell_word, looked_cell}
use Rattle.sg_round.specs.Rules.{Of_cell}
use Rattle.sg_round.specs.Sane.{IsSaneItem, IsSaneAt}
use Rattle.sg_round.specs.Worker.{Idle, Seek, Grab, Took}
use Rattle.sg_copy.specs.Grays.{IsCellItem}
use Rattle.sg_copy.specs.Telling.{Seat, Teller, at}
use Rattle.sg_copy.specs.Turning.{IsNextOf, LooksAt}
use Rattle.sg_copy.proofs.Ports.{Ports, On, Started, Did}
use Rattle.sg_copy.proofs.Seeking.{SeeksHere, HasSought, sought, seeks_here, cell_may, cell_saw, cell_empty, cell_full}
use Rattle.sg_copy.proofs.Swaps.{celled, grab_may, grabbed, grab_lost}

-- a sane item has an address
cell_item : (seat : Seat) (item : Item) → IsArea seat.area seat.team → IsSaneItem seat.area item → IsCellItem item
cell_item seat (SlotOf s) lim h = let a = lim.above in let e = lim.small in let x = h.0 in let y = h.1 in (omega arith, omega arith)
cell_item seat (WholeOf t) lim h =
    let a = lim.above in let e = lim.small in let f = lim.sections in let x = h.0 in let y = h.1 in (omega arith, omega arith)

-- an item that was taken from a cell is the next one
pub next_taken : (t : Teller) (item : Item) → IsNextOf (at t (Took item)) item (at t Idle)
next_taken t item = record { next = Of_cell (at t Idle).worker item; moves = refl; fails = refl }

-- where it was lost, the worker looks at that cell again
pub looks_again : (area : Area) (team : ℕ) (t : Teller) (i : ℕ) (item : Item) →
    IsSaneAt area team t.worker.list t.worker.hand (Grab i item) → LooksAt (at t (Seek i)) i (at t Idle)
looks_again area team t i item sane = record { where_is = inr refl; nothing = (sane.2, sane.3) }

module _ {P : Type 0} (o : Ports P) (seat : Seat) (place : ℕ × ℕ) (in_team : place ≡ (seat.number, seat.team)) where
  -- the i-th cell at which a worker in this place in the team looks
  abbrev pub cell_from : ℕ → ℕ
  cell_from i = looked_cell place.1 place.0 i

  same_cell : (i : ℕ) → cell_from i ≡ looked_cell seat.team seat.number i
  same_cell i = ap (λ (n : ℕ × ℕ). looked_cell n.1 n.0 i) in_team

  -- The worker a looked at the cells from the place `from` on, which were empty up to before i: it looks at the cell in the place i.
  module _ (t : Teller) (from : ℕ) (a : Teller) (x : P) (is : LooksAt a from (at t Idle)) (on : On o seat x a)
      (i : ℕ) (y : P) (l : i < 8 * seat.team) (so_far : HasSought o seat t from a x i y) where
    there : SeeksHere o seat t a x i y
    there = seeks_here o seat t from a x is on i y l so_far

    pub load_may : o.may y (Loads (Cell (cell_from i)))
    load_may =
        let s = there in
        subst (λ k. o.may y (Loads (Cell k))) (sym (same_cell i)) (cell_may o seat t i s.here s.looks y s.on)

    module _ (v : ℕ) (q : P) (saw : o.sees y (Load (Cell (cell_from i)) v)) (led : o.leads y (Load (Cell (cell_from i)) v ∷ []) q) where
      did_load : Did o seat y (Load (Cell (looked_cell seat.team seat.number i)) v) q
      did_load = subst (λ k. Did o seat y (Load (Cell k) v) q) (same_cell i) (saw, led)

      pub load_full : (item : Item) → v ≡ cell_word item → Started o seat a x (at t (Grab i item)) q
      load_full item e =
          let s = there in
          s.started_by (at t (Grab i item)) q (cell_full o seat t i s.here s.looks y s.on v q did_load item e).1

      -- an item there is sane, so that its word has an address
      held_sane : (item : Item) → v ≡ cell_word item → IsSaneItem seat.area item
      held_sane item e =
          let s = there in
          (cell_full o seat t i s.here s.looks y s.on v q did_load item e).0.guided.is_sane.worker.at.1

      held_none : ((item : Item) → IsCellItem item → v ≡ cell_word item → ⊥) → v ≡ 0
      held_none none =
          let s = there in
          elim (cell_saw o seat t i s.here s.looks y s.on v q did_load) [
            | inl e ↦ e
            | inr has ↦ absurd (none has.0 (cell_item seat has.0 on.guided.is_sane.worker.limits (held_sane has.0 has.1)) has.1)
          ]

      -- where no item was read, the cell is empty
      pub load_empty : ((item : Item) → IsCellItem item → v ≡ cell_word item → ⊥) → HasSought o seat t from a x (i + 1) q
      load_empty none =
          let s = there in
          inr (s.started_by (at t (sought seat.team (i + 1))) q (cell_empty o seat t i s.here s.looks y s.on v q did_load (held_none none)))

  -- the exchange of this word, which stands for the item, to 0
  module _ (t : Teller) (i : ℕ) (item : Item) (p : P) (on : On o seat p (at t (Grab i item))) (v : ℕ) (is : v ≡ cell_word item) where
    pub swap_may : o.may p (Swaps (Cell (cell_from i)) v 0)
    swap_may =
        subst (λ k. o.may p (Swaps (Cell k) v 0)) (sym (same_cell i))
        (subst (λ u. o.may p (Swaps (Cell (looked_cell seat.team seat.number i)) u 0)) (sym is) (grab_may o seat t i item p on))

    pub swap_won : (q : P) → o.sees p (Won (Cell (cell_from i)) v 0) → o.leads p (Won (Cell (cell_from i)) v 0 ∷ []) q →
        On o seat q (at t (Took item)) × Started o seat (at t (Grab i item)) p (at t (Took item)) q
    swap_won q saw led = grabbed o seat t i item p on q
        (celled o seat (λ k u. Won (Cell k) u 0) (looked_cell seat.team seat.number i) (cell_word item) (cell_from i) v (same_cell i) is p q saw led)

    pub swap_lost : (found : ℕ) (q : P) → o.sees p (Lost (Cell (cell_from i)) v 0 found) → o.leads p (Lost (Cell (cell_from i)) v 0 found ∷ []) q →
        On o seat q (at t (Seek i)) × Started o seat (at t (Grab i item)) p (at t (Seek i)) q
    swap_lost found q saw led = grab_lost o seat t i item p on found q
        (celled o seat (λ k u. Lost (Cell k) u 0 found) (looked_cell seat.team seat.number i) (cell_word item) (cell_from i) v (same_cell i) is p q saw led)
