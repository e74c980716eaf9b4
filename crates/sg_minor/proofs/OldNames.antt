-- The old objects by address, and the seeds as their strong fields.
use Rattle.std.proofs.Common.{◌≡◌, ◌≢◌, ℕ, zero, suc, ◌+◌, ◌*◌, ◌<◌, ◌≤◌, inl, inr, eqb, cond, true, List, [], ◌∷◌, ◌++◌, map, filter, get_or, sym, refl, ap, ◌∙◌, subst, arith}
use Rattle.std.specs.List.{flat_map}
use Rattle.std.specs.List.Sorted.{IsStrictlyIncreasing}
use Rattle.std.proofs.lemmas.Bool.{cases_eq, cases_lt, cond-true, cond-false, eq-eqb, ne_eqb}
use Rattle.std.proofs.lemmas.List.{map-append, get_or-map, length-map}
use Rattle.std.proofs.lemmas.List.Elements.{filter-append, Contains-get_or}
use Rattle.std.proofs.lemmas.Option.{slice_get_read, slice_get_within, get_or_from_slice_get}
use Rattle.std.specs.List.{Contains}
use Rattle.sg_words.specs.Address.{byte_at, word_at}
use Rattle.sg_words.specs.Lists.{In}
use Rattle.sg_words.specs.Sections.{IsYoung}
use Rattle.sg_words.proofs.Members.{has-cases, in-here, in-left, in-right, in-cases, map_in, in-filter, filter-in, in-flat, flat-in, in_contains}
use Rattle.sg_words.proofs.Numbers.{word_at-byte_at}
use Rattle.sg_words.proofs.Objects.{slots-in, slots-are}
use Rattle.sg_desc.specs.Shapes.{is_strong as is_strong_by}
use Rattle.sg_program.specs.declared.program.Program.{Program}
use Rattle.sg_program.specs.Scripts.{kind_of}
use Rattle.sg_graph.specs.Graph.{Graph}
use Rattle.sg_graph.specs.Book.{Book, nursery_end}
use Rattle.sg_graph.specs.Copies.{StandsOld, AreByAddress}
use Rattle.sg_graph.specs.Heap.{Owner, Of, Frag, Buf, Nobody, IsHeap, layout_of}
use Rattle.sg_space.specs.Space.{Contents}
use Rattle.sg_space.specs.Standing.{word}
use Rattle.sg_cards.specs.declared.found.Seed.{Seed}
use Rattle.sg_cards.specs.Seeds.{AreSeeds}
use Rattle.sg_copy.specs.Copying.{area_of}
use Rattle.sg_heap.specs.Fronts.{fronts, IsFronted}
use Rattle.sg_heap.specs.Holding.{IsSpaceOf}
use Rattle.sg_minor.specs.Joined.{global_slots, holds_young, slots_from}
use Rattle.sg_minor.proofs.Added.{slots_of_name, AreSlots, young-word, young-word-is}
use Rattle.sg_minor.proofs.Rises.{Rises, rises-lower, rises-append, rises-filter, rises-slots, rises-flat, rises-one, rises-strict, strict-rises}
use Rattle.sg_minor.proofs.Sown.{IsSown, sown, seeded}

-- the numbers of words whose addresses are in order
pub words_in_order : (bytes : List ℕ) → IsStrictlyIncreasing bytes → ((a : ℕ) → Contains bytes a → byte_at (word_at a) ≡ a) → IsStrictlyIncreasing
    (map word_at bytes)
words_in_order bytes up whole k l =
    let n = length-map bytes word_at in
    let first = get_or-map word_at bytes k 0 0 (omega arith) in
    let second = get_or-map word_at bytes (k + 1) 0 0 (omega arith) in
    let less = up k (omega arith) in
    let first_whole = whole (get_or bytes k 0) (Contains-get_or bytes k 0 (omega arith)) in
    let second_whole = whole (get_or bytes (k + 1) 0) (Contains-get_or bytes (k + 1) 0 (omega arith)) in
    omega arith

-- the name of the object that begins at the word x, by the word's owner
named_at : (ℕ → ℕ) → Owner → ℕ → List ℕ
named_at address (Of n) x = cond (eqb (address n) x) (n ∷ []) []
named_at address (Frag f) x = []
named_at address (Buf k) x = []
named_at address Nobody x = []

at_name : (address : ℕ → ℕ) (o : Owner) (x n : ℕ) → In n (named_at address o x) → (o ≡ Of n) × (address n ≡ x)
unfolding named_at
at_name address (Of m) x n h = elim (cases_eq (address m) x) [
  | inl e ↦ elim (has-cases n m [] (subst (λ (l : List ℕ). In n l) (cond-true _ (m ∷ []) [] (eq-eqb (address m) x e)) h)) [
    | inl k ↦ (ap Of (sym k), ap address k ∙ e)
    | inr k ↦ absurd (let z = k in cc)
  ]
  | inr d ↦ absurd (let z = subst (λ (l : List ℕ). In n l) (cond-false _ (m ∷ []) [] (ne_eqb (address m) x d)) h in cc)
]
at_name address (Frag f) x n h = absurd (let z = h in cc)
at_name address (Buf k) x n h = absurd (let z = h in cc)
at_name address Nobody x n h = absurd (let z = h in cc)

name_at : (address : ℕ → ℕ) (n x : ℕ) → address n ≡ x → In n (named_at address (Of n) x)
unfolding named_at
name_at address n x e = subst (λ (l : List ℕ). In n l) (sym (cond-true _ (n ∷ []) [] (eq-eqb (address n) x e))) (in-here n n [] refl)

name_rises : (address : ℕ → ℕ) (o : Owner) (x : ℕ) → Rises x (map address (named_at address o x))
unfolding named_at
name_rises address (Of m) x = elim (cases_eq (address m) x) [
  | inl e ↦ subst (λ (l : List ℕ). Rises x (map address l)) (sym (cond-true _ (m ∷ []) [] (eq-eqb (address m) x e))) (omega arith, tt)
  | inr d ↦ subst (λ (l : List ℕ). Rises x (map address l)) (sym (cond-false _ (m ∷ []) [] (ne_eqb (address m) x d))) tt
]
name_rises address (Frag f) x = tt
name_rises address (Buf k) x = tt
name_rises address Nobody x = tt

-- the objects that begin in the k words from x on, by address
module _ (address : ℕ → ℕ) (owner : ℕ → Owner) where
  pub names : ℕ → ℕ → List ℕ
  names x zero = []
  names x (suc k) = named_at address (owner x) x ++ names (suc x) k

  in_names : (x k n : ℕ) → In n (names x k) → (owner (address n) ≡ Of n) × (x ≤ address n) × (address n < x + k)
  unfolding names
  in_names x zero n h = absurd (let z = h in cc)
  in_names x (suc k) n h = elim (in-cases n (named_at address (owner x) x) (names (suc x) k) h) [
    | inl i ↦ let q = at_name address (owner x) x n i in let at = q.1 in (ap owner at ∙ q.0, omega arith, omega arith)
    | inr i ↦ let q = in_names (suc x) k n i in let from = q.1 in let to = q.2 in (q.0, omega arith, omega arith)
  ]

  names_in : (x k n : ℕ) → owner (address n) ≡ Of n → x ≤ address n → address n < x + k → In n (names x k)
  unfolding names
  names_in x zero n e from to = absurd (omega arith)
  names_in x (suc k) n e from to = elim (cases_eq (address n) x) [
    | inl at ↦ in-left n (named_at address (owner x) x) (names (suc x) k)
        (subst (λ (o : Owner). In n (named_at address o x)) (sym (ap owner (sym at) ∙ e)) (name_at address n x at))
    | inr other ↦ in-right n (named_at address (owner x) x) (names (suc x) k) (names_in (suc x) k n e (omega arith) (omega arith))
  ]

  names_rise : (x k : ℕ) → Rises x (map address (names x k))
  unfolding names
  names_rise x zero = tt
  names_rise x (suc k) = subst (λ (l : List ℕ). Rises x l) (sym (map-append address (named_at address (owner x) x) (names (suc x) k)))
      (rises-append x (suc x) (map address (named_at address (owner x) x)) (map address (names (suc x) k)) (name_rises address (owner x) x) (omega arith)
      (λ a i. let q = map_in address a (named_at address (owner x) x) i in let at = (at_name address (owner x) x q.0 q.1).1 in let same = q.2 in omega arith)
      (names_rise (suc x) k))

module _ (p : Program) (s : Contents) (g : Graph) (b : Book) (owner : ℕ → Owner) (front : IsFronted p s g b owner) where
  -- an object that begins below another one ends there or below
  pub apart : (m n : ℕ) → b.stands m ≡ true → b.stands n ≡ true → b.address m < b.address n → b.address m + (g.size m + 2) ≤ b.address n
  apart m n standing stands below = elim (cases_lt (b.address n) (b.address m + (g.size m + 2))) [
    | inl over ↦
        let same = front.one_owner m n (b.address n) (front.owns m (b.address n) standing (omega arith) over)
        (front.owns_first n stands) in
        let at = ap b.address same in
        absurd (omega arith)
    | inr up ↦ up
  ]

  pub same_object : (m n : ℕ) → b.stands m ≡ true → b.stands n ≡ true → b.address m ≡ b.address n → m ≡ n
  same_object m n standing stands e = front.one_owner m n (b.address n)
      (subst (λ z. owner z ≡ Of m) e (front.owns_first m standing)) (front.owns_first n stands)

module _ (p : Program) (s : Contents) (g : Graph) (b : Book) (is : IsSpaceOf p s b) (owner : ℕ → Owner) (heap : IsHeap p (word s) g b owner)
    (front : IsFronted p s g b owner) where
  abbrev pub old_names : List ℕ
  old_names = names b.address owner (nursery_end p) (256 * p.config.blocks)

  pub old_named : (n : ℕ) → In n old_names → StandsOld b n
  old_named n i =
      let q = in_names b.address owner (nursery_end p) (256 * p.config.blocks) n i in
      let from = q.1 in
      let stands = (front.owned n (b.address n) q.0).0 in
      let some : n ≢ 0 = λ z. (let nil = ap b.address z ∙ heap.laid.nothing.at_nil in absurd (omega arith)) in
      (some, stands, front.old_there n some stands from)

  pub named_old : (n : ℕ) → StandsOld b n → In n old_names
  named_old n o =
      let place = front.old_inside n o.0 o.1 o.2 in
      let to = place.1 in
      names_in b.address owner (nursery_end p) (256 * p.config.blocks) n (front.owns_first n o.1) place.0 (omega arith)

  pub old_by_address : AreByAddress b (StandsOld b) old_names
  old_by_address = record {
    in_order = rises-strict (nursery_end p) (map b.address old_names) (names_rise b.address owner (nursery_end p) (256 * p.config.blocks));
    exact = λ n. (old_named n, named_old n);
  }

  -- the strong fields of a list of standing objects by address rise
  pub fields_rise : (lo at : ℕ) (ns : List ℕ) → Rises lo (map b.address ns) → ((n : ℕ) → In n ns → b.stands n ≡ true) → ((n : ℕ) → In n ns → at ≤ b.address n) →
      Rises at (flat_map (slots_of_name p g b) ns)
  fields_rise lo at ns r each from =
      rises-flat b.address (λ n. b.address n + (g.size n + 2)) (slots_of_name p g b) lo ns r
      (λ n i. rises-lower (b.address n + 2 + 0) (b.address n) (slots_of_name p g b n) (omega arith)
      (rises-slots (λ j. is_strong_by (kind_of p (g.class n)) j (g.size n)) (b.address n) 0 (g.size n)))
      (λ n i a h. let q = slots-are (λ j. is_strong_by (kind_of p (g.class n)) j (g.size n)) (b.address n) 0 (g.size n) a h in let l = q.1 in let e = q.3 in
      omega arith)
      (λ n i. omega arith)
      (λ m n i j less. apart p s g b owner front m n (each m i) (each n j) less)
      at from

  module _ (found : List Seed) (seeds : AreSeeds s (fronts b.address owner) found) where
    abbrev pub found_slots : List ℕ
    found_slots = map (λ (seed : Seed). word_at seed.slot) found

    slot_bytes : map word_at (map (λ (seed : Seed). seed.slot) found) ≡ found_slots
    slot_bytes = map_twice found
      where
        map_twice : (xs : List Seed) → map word_at (map (λ (seed : Seed). seed.slot) xs) ≡ map (λ (seed : Seed). word_at seed.slot) xs
        map_twice [] = refl
        map_twice (x ∷ xs) = ap (λ (l : List ℕ). word_at x.slot ∷ l) (map_twice xs)

    -- the seed of a slot, and the slot of a seed
    seed_of : (xs : List Seed) (a : ℕ) → In a (map (λ (seed : Seed). word_at seed.slot) xs) → (seed : Seed) × Contains xs seed × (word_at seed.slot ≡ a)
    seed_of [] a h = absurd (let z = h in cc)
    seed_of (x ∷ xs) a h = elim (has-cases a (word_at x.slot) (map (λ (seed : Seed). word_at seed.slot) xs) h) [
      | inl e ↦ (x, (0, omega arith, refl), sym e)
      | inr i ↦ let q = seed_of xs a i in (q.0, (suc q.1.0, (let l = q.1.1 in omega arith), q.1.2), q.2)
    ]

    slot_in : (xs : List Seed) (seed : Seed) → Contains xs seed → In (word_at seed.slot) (map (λ (seed : Seed). word_at seed.slot) xs)
    slot_in xs seed h = subst (λ (z : ℕ). In z (map (λ (seed : Seed). word_at seed.slot) xs))
        (get_or-map (λ (seed : Seed). word_at seed.slot) xs h.0 seed 0 h.1 ∙ ap (λ (z : Seed). word_at z.slot) h.2)
        (in_contains (get_or (map (λ (seed : Seed). word_at seed.slot) xs) h.0 0) (map (λ (seed : Seed). word_at seed.slot) xs)
        (Contains-get_or (map (λ (seed : Seed). word_at seed.slot) xs) h.0 0
        (let n = length-map xs (λ (seed : Seed). word_at seed.slot) in let l = h.1 in omega arith)))

    at_seed : (seed : Seed) → Contains found seed → (x : ℕ) × IsSown p s g b is owner heap front x × (seed.slot ≡ byte_at x) ×
        ((y : ℕ) × (word s x ≡ byte_at y) × IsYoung s.layout y)
    at_seed seed h =
        let q = seeds.each h.0 seed (slice_get_read found _ h.0 seed refl h.1 (sym h.2)) in (
          q.0,
          sown p s g b is owner heap front (fronts b.address owner) (front.sound) q.0 q.1,
          q.2,
          q.1.young,
        )

    young_is : (y : ℕ) → IsYoung s.layout y → (512 ≤ y) × (y < nursery_end p)
    young_is y h = let nursery = front.nursery_is in let to = h.1 in (h.0, omega arith)

    found_field : (a : ℕ) → In a found_slots → In a (filter (holds_young (area_of s) (word s)) (flat_map (slots_of_name p g b) old_names))
    found_field a h =
        let q = seed_of found a h in
        let k = at_seed q.0 q.1 in
        let x = k.0 in
        let same : x ≡ a = let e = k.2 in let f = q.2 in omega arith in
        let f = k.1 in
        subst (λ (z : ℕ). In z (filter (holds_young (area_of s) (word s)) (flat_map (slots_of_name p g b) old_names))) same
        (filter-in (holds_young (area_of s) (word s)) x (flat_map (slots_of_name p g b) old_names)
        (flat-in (slots_of_name p g b) f.name x old_names (named_old f.name (f.some, f.stands, f.old))
        (subst (λ (z : ℕ). In z (slots_of_name p g b f.name)) (sym f.at)
        (slots-in (λ i. is_strong_by (kind_of p (g.class f.name)) i (g.size f.name)) (b.address f.name) 0 (g.size f.name) f.field (omega arith)
        (let l = f.within in omega arith) f.strong)))
        (young-word (area_of s) (word s x) k.3.0 k.3.1 k.3.2))

    field_found : (a : ℕ) → In a (filter (holds_young (area_of s) (word s)) (flat_map (slots_of_name p g b) old_names)) → In a found_slots
    field_found a h =
        let q = in-filter (holds_young (area_of s) (word s)) a (flat_map (slots_of_name p g b) old_names) h in
        let n = in-flat (slots_of_name p g b) a old_names q.0 in
        let f = slots-are (λ i. is_strong_by (kind_of p (g.class n.0)) i (g.size n.0)) (b.address n.0) 0 (g.size n.0) a n.2 in
        let o = old_named n.0 n.1 in
        let y = young-word-is (area_of s) (word s a) q.1 in
        let k = seeds.all a (seeded p s g b is owner heap front a (record {
          name = n.0;
          field = f.0;
          some = o.0;
          stands = o.1;
          old = o.2;
          within = let l = f.1 in omega arith;
          strong = f.2;
          at = f.3;
        }) y) in
        subst (λ (z : ℕ). In z found_slots) (ap word_at k.3 ∙ word_at-byte_at a)
        (slot_in found k.1 (k.0, slice_get_within found k.0 k.1 k.2, get_or_from_slice_get found k.0 k.1 k.1 k.2))

    pub found_rise : Rises 0 found_slots
    found_rise = strict-rises 0 found_slots
        (subst (λ (l : List ℕ). IsStrictlyIncreasing l) slot_bytes (words_in_order (map (λ (seed : Seed). seed.slot) found) seeds.in_order
        (λ a h. whole a (in_contains a (map (λ (seed : Seed). seed.slot) found) h))))
        (λ a i. omega arith)
      where
        of_slot : (xs : List Seed) (a : ℕ) → In a (map (λ (seed : Seed). seed.slot) xs) → (seed : Seed) × Contains xs seed × (seed.slot ≡ a)
        of_slot [] a h = absurd (let z = h in cc)
        of_slot (x ∷ xs) a h = elim (has-cases a x.slot (map (λ (seed : Seed). seed.slot) xs) h) [
          | inl e ↦ (x, (0, omega arith, refl), sym e)
          | inr i ↦ let q = of_slot xs a i in (q.0, (suc q.1.0, (let l = q.1.1 in omega arith), q.1.2), q.2)
        ]

        whole : (a : ℕ) → In a (map (λ (seed : Seed). seed.slot) found) → byte_at (word_at a) ≡ a
        whole a h = let q = of_slot found a h in let k = at_seed q.0 q.1 in let e = k.2 in let f = q.2 in omega arith

    pub found_are : found_slots ≡ filter (holds_young (area_of s) (word s)) (flat_map (slots_of_name p g b) old_names)
    found_are = rises-one 0 found_slots (filter (holds_young (area_of s) (word s)) (flat_map (slots_of_name p g b) old_names)) found_rise
        (rises-filter (holds_young (area_of s) (word s)) 0 (flat_map (slots_of_name p g b) old_names)
        (fields_rise (nursery_end p) 0 old_names (names_rise b.address owner (nursery_end p) (256 * p.config.blocks)) (λ n i. (old_named n i).1)
        (λ n i. omega arith)))
        found_field field_found

    -- the slots with which a round begins
    pub are_slots : AreSlots p (word s) (area_of s) g b (slots_from s found)
    are_slots = record {
      old = old_names;
      old_are = old_by_address;
      list = ap (λ l. filter (holds_young (area_of s) (word s)) (global_slots l 64) ++ found_slots) is.layout
          ∙ ap (λ (l : List ℕ). filter (holds_young (area_of s) (word s)) (global_slots (layout_of p) 64) ++ l) found_are
          ∙ sym (filter-append (holds_young (area_of s) (word s)) (global_slots (layout_of p) 64) (flat_map (slots_of_name p g b) old_names));
    }
