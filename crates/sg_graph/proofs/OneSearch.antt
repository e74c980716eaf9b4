-- A search for a slot stops in one way.
use Rattle.std.proofs.Common.{◌≡◌, ℕ, ◌<◌, ◌≤◌, ◌⊎◌, inl, inr, Bool, true, false, Option, Some, None, sym, refl, ap, ◌∙◌, subst, arith}
use Rattle.std.proofs.lemmas.Bool.{cases_lt}
use Rattle.sg_words.specs.Blocks.{IsSizeClass}
use Rattle.sg_words.proofs.Blocks.{class_bounds, class_slots}
use Rattle.sg_program.specs.declared.program.Program.{Program}
use Rattle.sg_graph.specs.Graph.{Graph}
use Rattle.sg_graph.specs.Book.{Book, slot_at, IsInBlock, IsInSlot, IsEmptySlot, IsOpenSlot, IsShut}
use Rattle.sg_graph.specs.Turns.{Position, OpeningBlock, TakingSlot, TakingOver, Board, IsFreeOn, HasSlotOn, IsPassedOver, BeingSwept, OfOtherSize, Shut, ComesTo, SearchesFrom, MeetsFree, MeetsSlot, MeetsOwed, MeetsNone}
use Rattle.sg_graph.specs.Laws.{HasOneSearch}

not_none : {A : Type 0} (o : Option A) (a : A) → o ≡ None → o ≡ Some a → ⊥
not_none o a e q = let z : None ≡ Some a = sym e ∙ q in cc z

not_false : (b : Bool) → b ≡ false → b ≡ true → ⊥
not_false b e q = let z : false ≡ true = sym e ∙ q in cc z

module _ (p : Program) (g : Graph) (b : Book) (j z : ℕ) (class : IsSizeClass z) where
  -- no slot is both empty and an object's
  pub taken_empty : (i name : ℕ) → IsInSlot p g b name j z i → IsEmptySlot p g b j z i → ⊥
  taken_empty i name o empty =
      let at = o.at in
      let least = (class_bounds z class).0 in
      empty name (slot_at p j z i) (record { some = o.some; stands = o.stands; above = omega arith; below = omega arith }) (omega arith) (omega arith)

  -- an object in slot 0 is in the block
  first_in_block : (name : ℕ) → IsInSlot p g b name j z 0 → IsInBlock p b name j
  first_in_block name o =
      let at = o.at in
      record { some = o.some; stands = o.stands; old = o.old; above = omega arith; below = omega arith }

  pub shut_empty : IsShut p g b j z → ((name : ℕ) → IsInBlock p b name j → ⊥) → ⊥
  shut_empty (inl (name, there, other)) empty = empty name there
  shut_empty (inr full) empty = let some = (class_slots z class).0 in let o = full 0 (omega arith) in empty o.0 (first_in_block o.0 o.1)

  pub shut_open : (i : ℕ) → IsShut p g b j z → IsOpenSlot p g b j z i → ⊥
  shut_open i (inl (name, there, other)) o = other (o.size name there)
  shut_open i (inr full) o = let k = full i o.fits in taken_empty i k.0 k.1 o.empty

  pub one_open : (i k : ℕ) → IsOpenSlot p g b j z i → IsOpenSlot p g b j z k → i ≡ k
  one_open i k x y = elim (cases_lt i k) [
    | inl l ↦ absurd (let o = y.lowest i l in taken_empty i o.0 o.1 x.empty)
    | inr above ↦ elim (cases_lt k i) [
      | inl l ↦ absurd (let o = x.lowest k l in taken_empty k o.0 o.1 y.empty)
      | inr below ↦ omega arith
    ]
  ]

module _ (p : Program) (x : Board) (z : ℕ) (class : IsSizeClass z) where
  free_passed : (j : ℕ) → IsFreeOn p x j → IsPassedOver p x z j → ⊥
  free_passed j f (BeingSwept e s) = f.swept.done s
  free_passed j f (OfOtherSize y s e d) = not_none (x.given j) y f.given e
  free_passed j f (Shut s h) = shut_empty p x.graph x.book j z class h f.empty

  slot_passed : (j i : ℕ) → HasSlotOn p x z j i → IsPassedOver p x z j → ⊥
  slot_passed j i h (BeingSwept e s) = h.swept.done s
  slot_passed j i h (OfOtherSize y s e d) = elim (h.sized) [
    | inl q ↦ d (let w : Some y ≡ Some z = sym e ∙ q in cc w)
    | inr q ↦ not_none (x.given j) y q.0 e
  ]
  slot_passed j i h (Shut s q) = shut_open p x.graph x.book j z class i q h.open_slot

  owed_passed : (j : ℕ) → x.owed j ≡ true → IsPassedOver p x z j → ⊥
  owed_passed j o (BeingSwept e s) = not_false (x.owed j) e o
  owed_passed j o (OfOtherSize y s e d) = not_false (x.owed j) s.swept o
  owed_passed j o (Shut s h) = not_false (x.owed j) s.swept o

  free_slot : (j i : ℕ) → IsFreeOn p x j → HasSlotOn p x z j i → ⊥
  free_slot j i f h = elim (h.sized) [
    | inl q ↦ not_none (x.given j) z f.given q
    | inr q ↦ f.empty q.1.0 q.1.1
  ]

  -- what a search meets at a block, if it meets something there
  abbrev Meets : ℕ → Option Position → Type 0
  Meets j None = ⊥
  Meets j (Some (OpeningBlock i)) = (i ≡ j) × IsFreeOn p x j
  Meets j (Some (TakingSlot i slot)) = (i ≡ j) × HasSlotOn p x z j slot
  Meets j (Some (TakingOver i)) = (i ≡ j) × (x.owed j ≡ true)
  Meets j (Some position) = ⊥

  -- what it meets isn't passed over
  met_passed : (j : ℕ) (found : Option Position) → Meets j found → IsPassedOver p x z j → ⊥
  met_passed j (Some (OpeningBlock i)) m passed = free_passed j m.1 passed
  met_passed j (Some (TakingSlot i slot)) m passed = slot_passed j slot m.1 passed
  met_passed j (Some (TakingOver i)) m passed = owed_passed j m.1 passed
  met_passed j found m passed = absurd m

  -- and it is one thing
  one_met : (j : ℕ) (found found' : Option Position) → Meets j found → Meets j found' → found ≡ found'
  one_met j (Some (OpeningBlock i)) (Some (OpeningBlock k)) m n = ap (λ (k : ℕ). Some (OpeningBlock k)) (m.0 ∙ sym n.0)
  one_met j (Some (OpeningBlock i)) (Some (TakingSlot k slot)) m n = absurd (free_slot j slot m.1 n.1)
  one_met j (Some (OpeningBlock i)) (Some (TakingOver k)) m n = absurd (not_false (x.owed j) m.1.swept.swept n.1)
  one_met j (Some (OpeningBlock i)) found' m n = absurd n
  one_met j (Some (TakingSlot i slot)) (Some (OpeningBlock k)) m n = absurd (free_slot j slot n.1 m.1)
  one_met j (Some (TakingSlot i slot)) (Some (TakingSlot k slot')) m n =
      let same = one_open p x.graph x.book j z class slot slot' m.1.open_slot n.1.open_slot in
      ap (λ (k : ℕ). Some (TakingSlot k slot)) (m.0 ∙ sym n.0) ∙ ap (λ (i : ℕ). Some (TakingSlot k i)) same
  one_met j (Some (TakingSlot i slot)) (Some (TakingOver k)) m n = absurd (not_false (x.owed j) m.1.swept.swept n.1)
  one_met j (Some (TakingSlot i slot)) found' m n = absurd n
  one_met j (Some (TakingOver i)) (Some (OpeningBlock k)) m n = absurd (not_false (x.owed j) n.1.swept.swept m.1)
  one_met j (Some (TakingOver i)) (Some (TakingSlot k slot)) m n = absurd (not_false (x.owed j) n.1.swept.swept m.1)
  one_met j (Some (TakingOver i)) (Some (TakingOver k)) m n = ap (λ (k : ℕ). Some (TakingOver k)) (m.0 ∙ sym n.0)
  one_met j (Some (TakingOver i)) found' m n = absurd n
  one_met j found found' m n = absurd m

  -- a search from block j on comes to a block and meets something there, or passes over all
  abbrev Stops : ℕ → Option Position → Type 0
  Stops j found = ((i : ℕ) × ComesTo p x z j i × Meets i found) ⊎ ((found ≡ None) × ((i : ℕ) → j ≤ i → i < p.config.blocks → IsPassedOver p x z i))

  stops : (j : ℕ) (found : Option Position) → SearchesFrom p x z j found → Stops j found
  stops j _ (MeetsFree i comes free) = inl (i, comes, (refl, free))
  stops j _ (MeetsSlot i slot comes has) = inl (i, comes, (refl, has))
  stops j _ (MeetsOwed i comes owed) = inl (i, comes, (refl, owed))
  stops j _ (MeetsNone all) = inr (refl, all)

  one_stop : (j : ℕ) (found found' : Option Position) → Stops j found → Stops j found' → found ≡ found'
  one_stop j found found' (inl (i, comes, m)) (inl (k, comes', n)) = elim (cases_lt i k) [
    | inl l ↦ absurd (met_passed i found m (comes'.passes i comes.from l))
    | inr above ↦ elim (cases_lt k i) [
      | inl l ↦ absurd (met_passed k found' n (comes.passes k comes'.from l))
      | inr below ↦ let e : i ≡ k = omega arith in one_met k found found' (subst (λ (i : ℕ). Meets i found) e m) n
    ]
  ]
  one_stop j found found' (inl (i, comes, m)) (inr (e, all)) = absurd (met_passed i found m (all i comes.from comes.there))
  one_stop j found found' (inr (e, all)) (inl (k, comes, n)) = absurd (met_passed k found' n (all k comes.from comes.there))
  one_stop j found found' (inr (e, all)) (inr (e', all')) = e ∙ sym e'

pub one_search : HasOneSearch
one_search p x z j found found' class a b = one_stop p x z class j found found' (stops p x z class j found a) (stops p x z class j found' b)
