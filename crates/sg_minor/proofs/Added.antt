-- The slots with which a round begins: which they are, and how a list of them grows.
use Rattle.std.proofs.Common.{◌≡◌, ◌≢◌, ℕ, zero, suc, ◌+◌, ◌<◌, ◌≤◌, ◌↔◌, Bool, true, false, inl, inr, List, [], ◌∷◌, ◌++◌, filter, sym, refl, ap, ◌∙◌, subst, arith}
use Rattle.std.specs.List.{flat_map}
use Rattle.std.proofs.lemmas.Bool.{cases_eq, cases_Bool, cond-true, cond-false, false≢true}
use Rattle.std.proofs.lemmas.Bool.Decides.{nat_tests}
use Rattle.std.proofs.lemmas.List.{append_assoc, append-nil, map-append}
use Rattle.std.proofs.lemmas.List.Elements.{filter-append}
use Rattle.sg_words.specs.Address.{byte_at, word_at}
use Rattle.sg_words.specs.Lists.{In}
use Rattle.sg_words.specs.Objects.{strong_slots}
use Rattle.sg_words.specs.declared.layout.Layout.{Layout}
use Rattle.sg_words.specs.Sections.{globals_base}
use Rattle.sg_words.proofs.Members.{in-left, in-right, in-cases, in-last, in-before, last-cases, in-filter, filter-in, in-flat, flat-in, in_map, map_in}
use Rattle.sg_words.proofs.Numbers.{word_at-byte_at}
use Rattle.sg_words.proofs.Objects.{slots-in, slots-are}
use Rattle.sg_program.specs.declared.program.Program.{Program}
use Rattle.sg_program.specs.Scripts.{kind_of}
use Rattle.sg_desc.specs.Shapes.{is_strong as is_strong_by}
use Rattle.sg_graph.specs.Graph.{Graph}
use Rattle.sg_graph.specs.Book.{Book, Old}
use Rattle.sg_graph.specs.Epoch.{numbers_below}
use Rattle.sg_graph.specs.Heap.{layout_of}
use Rattle.sg_round.specs.Area.{Area, IsYoung}
use Rattle.sg_graph.specs.Copies.{StandsOld, AreByAddress}
use Rattle.sg_minor.specs.Joined.{global_slots, is_young_word, holds_young}

-- the slots of an object's strong fields, by number
abbrev pub slots_of_name : Program → Graph → Book → ℕ → List ℕ
slots_of_name p g b n = strong_slots (λ i. is_strong_by (kind_of p (g.class n)) i (g.size n)) (b.address n) 0 (g.size n)

-- the slots outside of the nursery: the globals, and the strong fields of these old objects
abbrev pub slots_outside : Program → Graph → Book → List ℕ → List ℕ
slots_outside p g b old = global_slots (layout_of p) 64 ++ flat_map (slots_of_name p g b) old

-- Those of the slots outside of the nursery that refer to young objects: the globals by number, then the strong fields of the old
-- objects by address and number.
pub record AreSlots (p : Program) (w : ℕ → ℕ) (area : Area) (g : Graph) (b : Book) (slots : List ℕ) : Type 0 where
  pub old : List ℕ
  pub old_are : AreByAddress b (StandsOld b) old
  pub list : slots ≡ filter (holds_young area w) (slots_outside p g b old)

-- a slot outside of the nursery: a global, or a strong field of an old object
pub data IsSeed (p : Program) (g : Graph) (b : Book) (s : ℕ) : Type 0 where
  Global : (x : ℕ) → x < 64 → s ≡ globals_base (layout_of p) + x → IsSeed p g b s
  Field : (n i : ℕ) → n ≢ 0 → b.stands n ≡ true → b.section n ≡ Old → i < g.size n → is_strong_by (kind_of p (g.class n)) i (g.size n) ≡ true →
      s ≡ b.address n + 2 + i → IsSeed p g b s

pub in-below : (n x : ℕ) → In x (numbers_below n) → x < n
in-below zero x h = absurd (let z = h in cc)
in-below (suc n) x h = elim (last-cases x n (numbers_below n) h) [
  | inl e ↦ omega arith
  | inr i ↦ let l = in-below n x i in omega arith
]

pub below-in : (n x : ℕ) → x < n → In x (numbers_below n)
below-in zero x l = absurd (omega arith)
below-in (suc n) x l = elim (cases_eq x n) [
  | inl e ↦ in-last x n (numbers_below n) e
  | inr d ↦ in-before x n (numbers_below n) (below-in n x (omega arith))
]

-- the test of a word
pub young-word : (area : Area) (v x : ℕ) → v ≡ byte_at x → IsYoung area x → is_young_word area v ≡ true
young-word area v x e y =
    let q : word_at v ≡ x = ap word_at e ∙ word_at-byte_at x in
    let low = y.0 in
    let high = y.1 in
    let low-at : area.low ≤ word_at v = omega arith in
    let high-at : word_at v < area.high = omega arith in
    let same : v ≡ byte_at (word_at v) = omega arith in
    grind (arith, nat_tests)

pub young-word-is : (area : Area) (v : ℕ) → is_young_word area v ≡ true → (x : ℕ) × (v ≡ byte_at x) × IsYoung area x
young-word-is area v t = (word_at v, grind (arith, nat_tests), (grind (arith, nat_tests), grind (arith, nat_tests)))

-- the same by what is known of the address of a word
pub tests-young : (area : Area) (v : ℕ) (r : Bool) → (r ≡ true ↔ ((x : ℕ) × (v ≡ byte_at x) × IsYoung area x)) → is_young_word area v ≡ r
tests-young area v true is = let q = is.0 refl in young-word area v q.0 q.1 q.2
tests-young area v false is = elim (cases_Bool (is_young_word area v)) [
  | inl e ↦ absurd (false≢true (is.1 (young-word-is area v e)))
  | inr e ↦ e
]

pub global-more : (layout : Layout) (x : ℕ) → global_slots layout (x + 1) ≡ global_slots layout x ++ (globals_base layout + x) ∷ []
global-more layout x =
    ap (λ (z : ℕ). global_slots layout z) (let e : x + 1 ≡ suc x = omega arith in e) ∙ map-append (λ (z : ℕ). globals_base layout + z) (numbers_below x)
    (x ∷ [])

module _ (p : Program) (w : ℕ → ℕ) (area : Area) (g : Graph) (b : Book) (slots : List ℕ) (seeds : AreSlots p w area g b slots) where
  pub outside-is : (s : ℕ) → In s (slots_outside p g b seeds.old) → IsSeed p g b s
  outside-is s listed =
      elim (in-cases s (global_slots (layout_of p) 64) (flat_map (slots_of_name p g b) seeds.old) listed) [
        | inl i ↦ let q = map_in (λ (x : ℕ). globals_base (layout_of p) + x) s (numbers_below 64) i in Global q.0 (in-below 64 q.0 q.1) (sym q.2)
        | inr i ↦
            let n = in-flat (slots_of_name p g b) s seeds.old i in
            let o = (seeds.old_are.exact n.0).0 n.1 in
            let f = slots-are (λ (i : ℕ). is_strong_by (kind_of p (g.class n.0)) i (g.size n.0)) (b.address n.0) 0 (g.size n.0) s n.2 in
            Field n.0 f.0 o.0 o.1 o.2 (let l = f.1 in omega arith) f.2 f.3
      ]

  pub seeds-each : (s : ℕ) → In s slots → IsSeed p g b s
  seeds-each s h = outside-is s (in-filter (holds_young area w) s (slots_outside p g b seeds.old) (subst (λ (l : List ℕ). In s l) seeds.list h)).0

  outside : (s : ℕ) → IsSeed p g b s → In s (slots_outside p g b seeds.old)
  outside s (Global x l e) = in-left s (global_slots (layout_of p) 64) (flat_map (slots_of_name p g b) seeds.old)
      (subst (λ (z : ℕ). In z (global_slots (layout_of p) 64)) (sym e)
      (in_map (λ (x : ℕ). globals_base (layout_of p) + x) x (numbers_below 64) (below-in 64 x l)))
  outside s (Field n i d st o l e q) = in-right s (global_slots (layout_of p) 64) (flat_map (slots_of_name p g b) seeds.old)
      (flat-in (slots_of_name p g b) n s seeds.old ((seeds.old_are.exact n).1 (d, st, o))
      (subst (λ (z : ℕ). In z (slots_of_name p g b n)) (sym q)
      (slots-in (λ (i : ℕ). is_strong_by (kind_of p (g.class n)) i (g.size n)) (b.address n) 0 (g.size n) i (omega arith) (omega arith) e)))

  pub seeds-all : (s x : ℕ) → IsSeed p g b s → w s ≡ byte_at x → IsYoung area x → In s slots
  seeds-all s x k e y = subst (λ (l : List ℕ). In s l) (sym seeds.list)
      (filter-in (holds_young area w) s (slots_outside p g b seeds.old) (outside s k) (young-word area (w s) x e y))

-- the list grows by what passes the test, one list after another
module _ (f : ℕ → Bool) where
  pub adds-none : (xs : List ℕ) → xs ≡ xs ++ filter f []
  adds-none xs = sym (append-nil xs)

  pub adds-more : (xs ys zs slots more : List ℕ) → ys ≡ xs ++ filter f slots → zs ≡ ys ++ filter f more → zs ≡ xs ++ filter f (slots ++ more)
  adds-more xs ys zs slots more d e =
      e ∙ ap (λ (l : List ℕ). l ++ filter f more) d ∙ append_assoc xs (filter f slots) (filter f more) ∙ ap (λ (l : List ℕ). xs ++ l)
      (sym (filter-append f slots more))

  pub adds-one : (xs ys : List ℕ) (s : ℕ) → f s ≡ true → ys ≡ xs ++ s ∷ [] → ys ≡ xs ++ filter f (s ∷ [])
  adds-one xs ys s is e = e ∙ ap (λ (l : List ℕ). xs ++ l) (sym (cond-true _ _ _ is))

  pub adds-not : (xs : List ℕ) (s : ℕ) → f s ≡ false → xs ≡ xs ++ filter f (s ∷ [])
  adds-not xs s is = sym (append-nil xs) ∙ ap (λ (l : List ℕ). xs ++ l) (sym (cond-false _ (s ∷ []) _ is))
