-- What block words, bits and page words say of one word of the blocks or of the pages.
use Rattle.std.proofs.Common.{◌≡◌, ℕ, ◌+◌, ◌-◌, ◌/◌, ◌<◌, ◌≤◌, ◌⊎◌, inl, inr, MatchOption, Option, Some, None, refl, sym, ap, ◌∙◌, subst, le_refl, arith}
use Rattle.std.proofs.lemmas.Nat.{mul-le}
use Rattle.std.proofs.Math.Nat.{mul-div-le, lt-mul-div-succ}
use Rattle.sg_words.specs.Blocks.{slot_size, slots, block_base, slot_base, IsOf, is_taken}
use Rattle.sg_words.specs.declared.steps.BlockWord.{BlockWord}
use Rattle.sg_words.specs.declared.steps.BlockWord.TheVariants.{Free, Swept, Need, Sweeping}
use Rattle.sg_words.specs.Sections.{nursery_base, old_base, large_base, globals_base, IsOld}
use Rattle.sg_words.proofs.Blocks.{class_bounds, slot_size-holds, slot_fits, slot_in, slot_once}
use Rattle.sg_space.specs.declared.objects.Object.{Object}
use Rattle.sg_space.specs.Space.{Contents}
use Rattle.sg_space.specs.Laws.{IsInside, PlacingLaw}
use Rattle.sg_space.specs.Standing.{block_in, used_in, marks_in, page_in, page_base, size_at, IsInNursery, IsInSlot, IsInPages, IsPlaced, IsSoundBy, IsSound}
use Rattle.sg_space.specs.Standing.{IsFree, IsFront}

-- a block has slots of one size
pub of_once : (state : BlockWord) (y z : ℕ) → IsOf state y → IsOf state z → y ≡ z
of_once Free y z a b = elim a [ ]
of_once (Swept size) y z a b = sym a ∙ b
of_once (Need size) y z a b = sym a ∙ b
of_once (Sweeping size) y z a b = sym a ∙ b

-- what holds where none was found leads on
pub none_weaker : {P Q : Type 0} (R : Object → Type 0) (o : Option Object) → (P → Q) → MatchOption o P R → MatchOption o Q R
none_weaker R None f h = f h
none_weaker R (Some x) f h = h

slot_inside : (s : Contents) (h : ℕ) → (p : IsInSlot s h) → (old_base s.layout ≤ h) × (h + size_at s h ≤ large_base s.layout)
slot_inside s h p =
    let z = slot_size (size_at s h) in
    let f = slot_fits z p.slot p.fits in
    let holds = slot_size-holds (size_at s h) p.small in
    let front = p.front in
    let there = p.there in
    (omega arith, omega arith)

pub place_inside : (s : Contents) (h : ℕ) → IsPlaced s h → IsInside s h
place_inside s h p = elim p [
  | inl y ↦ let a = y.above in let w = y.within in record { above = a; within = omega arith }
  | inr q ↦ elim q [
    | inl o ↦ let i = slot_inside s h o in let a = i.0 in let w = i.1 in record { above = omega arith; within = omega arith }
    | inr l ↦ let f = l.front in let w = l.within in record { above = omega arith; within = w }
  ]
]

module _ (s : Contents) (owner : ℕ → Option ℕ) (sound : IsSoundBy s owner) where
  -- what has a word of the nursery lies in it
  pub young_place : (x h : ℕ) → owner x ≡ Some h → x < old_base s.layout → IsInNursery s h
  young_place x h e l = let o = sound.owned x h e in let a = o.0 in elim (sound.places h o.2) [
    | inl y ↦ y
    | inr q ↦ elim q [
      | inl p ↦ let i = slot_inside s h p in let b = i.0 in absurd (omega arith)
      | inr p ↦ let f = p.front in absurd (omega arith)
    ]
  ]

  -- what has a word of the blocks stands in a slot
  pub old_place : (x h : ℕ) → owner x ≡ Some h → IsOld s.layout x → IsInSlot s h
  old_place x h e old = let o = sound.owned x h e in let a = o.0 in let b = o.1 in let from = old.0 in let to = old.1 in elim (sound.places h o.2) [
    | inl y ↦ let w = y.within in absurd (omega arith)
    | inr q ↦ elim q [
      | inl p ↦ p
      | inr p ↦ let f = p.front in absurd (omega arith)
    ]
  ]

  -- what has a word of the pages stands in pages
  pub large_place : (x h : ℕ) → owner x ≡ Some h → large_base s.layout ≤ x → IsInPages s h
  large_place x h e from = let o = sound.owned x h e in let b = o.1 in elim (sound.places h o.2) [
    | inl y ↦ let w = y.within in absurd (omega arith)
    | inr q ↦ elim q [
      | inl p ↦ let i = slot_inside s h p in let w = i.1 in absurd (omega arith)
      | inr p ↦ p
    ]
  ]

  -- no object has a word behind the pages, nor one below the nursery
  pub none_outside : (x : ℕ) → (x < nursery_base) ⊎ (globals_base s.layout ≤ x) → (o : Option ℕ) → owner x ≡ o → owner x ≡ None
  none_outside x out None e = e
  none_outside x out (Some h) e =
      let o = sound.owned x h e in
      let i = place_inside s h (sound.places h o.2) in
      let a = o.0 in
      let b = o.1 in
      let above = i.above in
      let within = i.within in
      elim out [ inl l ↦ absurd (omega arith) | inr l ↦ absurd (omega arith) ]

-- the slot of block c, with slots of z words, that has the word x
abbrev pub slot_with : Contents → ℕ → ℕ → ℕ → ℕ
slot_with s c z x = (x - block_base s.layout c) / z

-- x is a word of block c, whose slots have z words
pub record IsIn (s : Contents) (c z x : ℕ) : Type 0 where
  pub there : c < s.layout.blocks
  pub sized : IsOf (block_in s c) z
  pub some : 0 < z
  pub from : block_base s.layout c ≤ x
  pub to : x < block_base s.layout c + 256

module _ (s : Contents) (c z x : ℕ) (is : IsIn s c z x) where
  pub slot_from_to : (slot_base s.layout c z (slot_with s c z x) ≤ x) × (x < slot_base s.layout c z (slot_with s c z x) + z)
  slot_from_to =
      let y = x - block_base s.layout c in
      let low = mul-div-le y z in
      let high = lt-mul-div-succ y is.some in
      let from = is.from in
      (omega arith, omega arith)

  is_old : IsOld s.layout x
  is_old = let there = is.there in let from = is.from in let to = is.to in (omega arith, omega arith)

  -- what has the word x stands at the front of that slot, and its bit is set
  pub at_slot : (owner : ℕ → Option ℕ) → IsSoundBy s owner → (h : ℕ) → owner x ≡ Some h → (h ≡ slot_base s.layout c z (slot_with s c z x)) ×
      (is_taken (block_in s c) (used_in s c) (marks_in s c) (slot_with s c z x) ≡ 1) × (size_at s h ≤ z)
  at_slot owner sound h e =
      let p = old_place s owner sound x h e is_old in
      let y = slot_size (size_at s h) in
      let o = sound.owned x h e in
      let a = o.0 in
      let b = o.1 in
      let front = p.front in
      let fits = slot_fits y p.slot p.fits in
      let holds = slot_size-holds (size_at s h) p.small in
      let from = is.from in
      let to = is.to in
      let same : p.block ≡ c = omega arith in
      let size : y ≡ z = of_once (block_in s c) y z (subst (λ (k : ℕ). IsOf (block_in s k) y) same p.sized) is.sized in
      let front_c : h ≡ slot_base s.layout c z p.slot = front ∙ ap (λ (k : ℕ). slot_base s.layout k y p.slot) same ∙
      ap (λ (k : ℕ). slot_base s.layout c k p.slot) size in
      let slot : p.slot ≡ slot_with s c z x = slot_once (old_base s.layout) c z p.slot (slot_with s c z x) x (omega arith)
      (omega arith) slot_from_to.0 slot_from_to.1 in (
        front_c ∙ ap (λ (k : ℕ). slot_base s.layout c z k) slot,
        subst (λ (k : ℕ). is_taken (block_in s c) (used_in s c) (marks_in s c) k ≡ 1) slot
            (subst (λ (k : ℕ). is_taken (block_in s k) (used_in s k) (marks_in s k) p.slot ≡ 1) same p.taken),
        subst (λ (k : ℕ). size_at s h ≤ k) size holds,
      )

  not_taken : (owner : ℕ → Option ℕ) → IsSoundBy s owner → is_taken (block_in s c) (used_in s c) (marks_in s c) (slot_with s c z x) ≡ 0 → (o : Option ℕ) →
      owner x ≡ o → owner x ≡ None
  not_taken owner sound clear None e = e
  not_taken owner sound clear (Some h) e = let t = (at_slot owner sound h e).1 in absurd (omega arith)

  -- where the bit is clear, no object has the word
  pub slot_free : is_taken (block_in s c) (used_in s c) (marks_in s c) (slot_with s c z x) ≡ 0 → IsFree s x
  slot_free clear = record { none = λ owner sound. not_taken owner sound clear (owner x) refl }

  -- where it is set, an object begins at the slot's front
  pub slot_front : is_taken (block_in s c) (used_in s c) (marks_in s c) (slot_with s c z x) ≡ 1 → IsFront s (slot_base s.layout c z (slot_with s c z x))
  slot_front set = record { begins = λ owner sound. ((sound.blocks c is.there).filled z (slot_with s c z x) is.sized set).1 }

  past : (owner : ℕ → Option ℕ) → IsSoundBy s owner → (h : ℕ) → h ≡ slot_base s.layout c z (slot_with s c z x) → h + size_at s h ≤ x → (o : Option ℕ) →
      owner x ≡ o → owner x ≡ None
  past owner sound h at behind None e = e
  past owner sound h at behind (Some g) e =
      let same : g ≡ h = (at_slot owner sound g e).0 ∙ sym at in
      let b = (sound.owned x g e).1 in
      let size = ap (size_at s) same in
      absurd (omega arith)

  -- behind that object no object has a word of the slot
  pub slot_behind : (h : ℕ) → h ≡ slot_base s.layout c z (slot_with s c z x) → h + size_at s h ≤ x → IsFree s x
  slot_behind h at behind = record { none = λ owner sound. past owner sound h at behind (owner x) refl }

-- no object has a word of a free block
module _ (s : Contents) (c x : ℕ) (there : c < s.layout.blocks) (free : block_in s c ≡ Free) (from : block_base s.layout c ≤ x)
    (to : x < block_base s.layout c + 256) where
  pub not_free : (owner : ℕ → Option ℕ) → IsSoundBy s owner → (o : Option ℕ) → owner x ≡ o → owner x ≡ None
  not_free owner sound None e = e
  not_free owner sound (Some h) e =
      let p = old_place s owner sound x h e (omega arith, omega arith) in
      let y = slot_size (size_at s h) in
      let o = sound.owned x h e in
      let a = o.0 in
      let b = o.1 in
      let front = p.front in
      let fits = slot_fits y p.slot p.fits in
      let holds = slot_size-holds (size_at s h) p.small in
      let same : p.block ≡ c = omega arith in
      absurd (subst (λ (state : BlockWord). IsOf state y) free (subst (λ (k : ℕ). IsOf (block_in s k) y) same p.sized))

  pub block_free : IsFree s x
  block_free = record { none = λ owner sound. not_free owner sound (owner x) refl }

-- x is a word of page j
pub record IsOnPage (s : Contents) (j x : ℕ) : Type 0 where
  pub there : j < s.layout.pages
  pub from : page_base s.layout j ≤ x
  pub to : x < page_base s.layout j + 128

module _ (s : Contents) (j x : ℕ) (is : IsOnPage s j x) where
  pub named_by : (owner : ℕ → Option ℕ) → IsSoundBy s owner → (h : ℕ) → owner x ≡ Some h → (p : ℕ) × (h ≡ page_base s.layout p) × (page_in s j ≡ p + 1)
  named_by owner sound h e =
      let from = is.from in
      let to = is.to in
      let p = large_place s owner sound x h e (omega arith) in
      let o = sound.owned x h e in
      let a = o.0 in
      let b = o.1 in
      let front = p.front in
      (p.page, front, p.takes j (omega arith) (omega arith))

  not_named : (owner : ℕ → Option ℕ) → IsSoundBy s owner → page_in s j ≡ 0 → (o : Option ℕ) → owner x ≡ o → owner x ≡ None
  not_named owner sound clear None e = e
  not_named owner sound clear (Some h) e = let t = (named_by owner sound h e).2 in absurd (omega arith)

  -- no object has a word of a free page
  pub page_free : page_in s j ≡ 0 → IsFree s x
  page_free clear = record { none = λ owner sound. not_named owner sound clear (owner x) refl }

  -- else an object begins at the page that its word names
  pub page_front : (q : ℕ) → page_in s j ≡ q + 1 → IsFront s (page_base s.layout q)
  page_front q e = record { begins = λ owner sound. ((sound.pages j is.there).named q e).0 }

  pub page_above : IsSound s → (q : ℕ) → page_in s j ≡ q + 1 → page_base s.layout q ≤ x
  page_above sound q e = let l = ((sound.1.pages j is.there).named q e).1 in let from = is.from in omega arith

  beyond : (owner : ℕ → Option ℕ) → IsSoundBy s owner → (q h : ℕ) → page_in s j ≡ q + 1 → h ≡ page_base s.layout q → h + size_at s h ≤ x → (o : Option ℕ) →
      owner x ≡ o → owner x ≡ None
  beyond owner sound q h e at behind None n = n
  beyond owner sound q h e at behind (Some g) n =
      let named = named_by owner sound g n in
      let k = named.2 in
      let p : named.0 ≡ q = omega arith in
      let same : g ≡ h = named.1 ∙ ap (page_base s.layout) p ∙ sym at in
      let b = (sound.owned x g n).1 in
      let size = ap (size_at s) same in
      absurd (omega arith)

  -- behind that object no object has a word of its pages
  pub page_behind : (q h : ℕ) → page_in s j ≡ q + 1 → h ≡ page_base s.layout q → h + size_at s h ≤ x → IsFree s x
  page_behind q h e at behind = record { none = λ owner sound. beyond owner sound q h e at behind (owner x) refl }

-- what has a word of slot i stands at its front
in_slot : (s : Contents) (owner : ℕ → Option ℕ) → IsSoundBy s owner → (c z i x h : ℕ) → c < s.layout.blocks → IsOf (block_in s c) z → i < slots z →
    slot_base s.layout c z i ≤ x → x < slot_base s.layout c z i + z → owner x ≡ Some h →
    (h ≡ slot_base s.layout c z i) × (is_taken (block_in s c) (used_in s c) (marks_in s c) i ≡ 1) × (size_at s h ≤ z)
in_slot s owner sound c z i x h there of fits from to e =
    let some = (class_bounds z ((sound.blocks c there).sized z of)).0 in
    let inside = slot_in (old_base s.layout) c z i x fits from to in
    let is : IsIn s c z x = record { there = there; sized = of; some = omega arith; from = inside.0; to = inside.1 } in
    let at = at_slot s c z x is owner sound h e in
    let span = slot_from_to s c z x is in
    let same : slot_with s c z x ≡ i = slot_once (old_base s.layout) c z (slot_with s c z x) i x span.0 span.1 from to in (
      at.0 ∙ ap (slot_base s.layout c z) same,
      subst (λ (k : ℕ). is_taken (block_in s c) (used_in s c) (marks_in s c) k ≡ 1) same at.1,
      at.2,
    )

in_rest : (s : Contents) (owner : ℕ → Option ℕ) → IsSoundBy s owner → (c z x : ℕ) → c < s.layout.blocks → IsOf (block_in s c) z →
    slot_base s.layout c z (slots z) ≤ x → x < block_base s.layout c + 256 → (o : Option ℕ) → owner x ≡ o → owner x ≡ None
in_rest s owner sound c z x there of from to None e = e
in_rest s owner sound c z x there of from to (Some h) e =
    let some = (class_bounds z ((sound.blocks c there).sized z of)).0 in
    let is : IsIn s c z x = record { there = there; sized = of; some = omega arith; from = omega arith; to = to } in
    let at = at_slot s c z x is owner sound h e in
    let fits = ((sound.blocks c there).filled z (slot_with s c z x) of at.1).0 in
    let span = slot_from_to s c z x is in
    let high = span.1 in
    let more = mul-le z (slot_with s c z x + 1) z (slots z) (le_refl z) (omega arith) in
    absurd (omega arith)

pub placing : PlacingLaw
placing = record {
  inside = λ s owner sound h e. place_inside s h (sound.places h e);
  in_slot = in_slot;
  in_rest = λ s owner sound c z x there of from to. in_rest s owner sound c z x there of from to (owner x) refl;
  in_free = λ s owner sound c x there free from to. not_free s c x there free from to owner sound (owner x) refl;
  on_page = λ s owner sound j x h there from to e. named_by s j x (record { there = there; from = from; to = to }) owner sound h e;
}
