-- What a sound space says of its pages: free runs, and the runs of its large objects.
use Rattle.std.proofs.Common.{◌≡◌, ◌≢◌, ℕ, ◌+◌, ◌-◌, ◌/◌, ◌<◌, ◌≤◌, ◌⊎◌, inl, inr, length, Option, Some, None, refl, ap, sym, ◌∙◌, subst, arith}
use Rattle.std.proofs.lemmas.Bool.{cases_lt, cases_eq}
use Rattle.std.proofs.lemmas.List.{get_or_past}
use Rattle.sg_words.specs.Address.{byte_at}
use Rattle.sg_words.specs.Blocks.{slot_size, slots, slot_base}
use Rattle.sg_words.specs.Sections.{large_base}
use Rattle.sg_words.proofs.Blocks.{slot_fits, class_bounds}
use Rattle.sg_space.specs.Space.{Contents, IsContents}
use Rattle.sg_space.specs.Laws.{PlacingLaw}
use Rattle.sg_space.specs.Standing.{word, page_in, page_base, size_at, IsInPages, IsGarbage, IsSoundBy}
use Rattle.sg_los.specs.Pages.{IsFreeRun, IsLargeAt, IsWordOf}

-- the page that has the word x
abbrev pub page_of : Contents → ℕ → ℕ
page_of s x = (x - large_base s.layout) / 128

-- a slot ends below the pages
pub slot_below : (s : Contents) (c z i : ℕ) → c < s.layout.blocks → i < slots z → slot_base s.layout c z i + z ≤ large_base s.layout
slot_below s c z i there fits = let f = slot_fits z i fits in omega (arith, there, f)

-- a page that names one is a page of the space
pub named_there : (s : Contents) → IsContents s → (j q : ℕ) → page_in s j ≡ q + 1 → j < s.layout.pages
named_there s contents j q e = elim (cases_lt j (length s.pages)) [
  | inl below ↦ let n = contents.pages in omega (arith, below, n)
  | inr past ↦ let z = get_or_past s.pages j 0 past in absurd (omega (arith, z, e))
]

-- what may be anything lies below the pages
pub garbage_below : (s : Contents) (x : ℕ) → IsGarbage s x → x < large_base s.layout
garbage_below s x g = let b = slot_below s g.block g.size g.slot g.there g.fits in let to = g.to in omega (arith, b, to)

module _ (law : PlacingLaw) (s : Contents) (owner : ℕ → Option ℕ) (sound : IsSoundBy s owner) where
  -- an object that begins above the blocks stands in pages
  pub in_pages : (h : ℕ) → owner h ≡ Some h → large_base s.layout ≤ h → IsInPages s h
  in_pages h e above = elim (sound.places h e) [
    | inl y ↦ let w = y.within in absurd (omega (arith, w, above))
    | inr q ↦ elim q [
      | inl p ↦
          let b = slot_below s p.block (slot_size (size_at s h)) p.slot p.there p.fits in
          let front = p.front in
          let z = slot_size (size_at s h) in
          let least = (class_bounds z ((sound.blocks p.block p.there).sized z p.sized)).0 in
          absurd (omega (arith, b, front, above, least))
      | inr p ↦ p
    ]
  ]

  unowned : (x k : ℕ) → k < s.layout.pages → page_base s.layout k ≤ x → x < page_base s.layout k + 128 → page_in s k ≡ 0 → (o : Option ℕ) →
      owner x ≡ o → owner x ≡ None
  unowned x k there from to free None e = e
  unowned x k there from to free (Some g) e = let on = (law.on_page s owner sound k x g there from to e).2 in absurd (omega (arith, free, on))

  -- no object has a word of a free run, and its words are zero
  pub run_apart : (j n x : ℕ) → IsFreeRun s j n → page_base s.layout j ≤ x → x < page_base s.layout (j + n) → (owner x ≡ None) × (word s x ≡ 0)
  run_apart j n x run from to =
      let k = page_of s x in
      let within = run.within in
      let none = unowned x k (omega (arith, from, to, within)) (omega (arith, from)) (omega (arith, from))
      (run.free k (omega (arith, from)) (omega (arith, from, to))) (owner x) refl in
      (none, sound.clear x none (omega (arith, from)) (omega (arith, to, within)) (λ g. let b = garbage_below s x g in absurd (omega (arith, b, from))))

  module _ (contents : IsContents s) (h : ℕ) (e : owner h ≡ Some h) (p : IsInPages s h) where
    -- a page that names the object's first one has a word of it
    pub named_by : (j : ℕ) → page_in s j ≡ p.page + 1 → (p.page ≤ j) × (page_base s.layout j < h + size_at s h)
    named_by j named =
        let n = (sound.pages j (named_there s contents j p.page named)).named p.page named in
        let front = p.front in
        let size = ap (size_at s) front in
        let to = n.2 in
        (n.1, omega (arith, front, size, to))

    -- its pages are a run
    pub stands_at : IsLargeAt s (byte_at h)
    stands_at =
        let front = p.front in
        let large = p.large in
        let within = p.within in
        record {
          first = p.page;
          end = p.page + (size_at s h + 127) / 128;
          address = ap byte_at front;
          run = record {
            some = omega (arith, large);
            within = omega (arith, front, within);
            named = λ j from to. p.takes j from (omega (arith, front, to));
            only = λ j named. let n = named_by j named in let to = n.1 in (n.0, omega (arith, front, to));
          };
        }

    -- whoever has a word of a page that names the object's first one is the object
    pub owner_is : (x g : ℕ) → IsWordOf s p.page x → owner x ≡ Some g → g ≡ h
    owner_is x g of own =
        let on = law.on_page s owner sound of.page x g (named_there s contents of.page p.page of.named) of.from of.to own in
        let named = of.named in
        let other = on.2 in
        let same : on.0 ≡ p.page = omega (arith, named, other) in
        on.1 ∙ ap (page_base s.layout) same ∙ sym p.front

    -- each of its words is one of such a page
    pub word_is : (x : ℕ) → h ≤ x → x < h + size_at s h → IsWordOf s p.page x
    word_is x from to =
        let front = p.front in
        record {
          page = page_of s x;
          named = p.takes (page_of s x) (omega (arith, front, from)) (omega (arith, front, from, to));
          from = omega (arith, front, from);
          to = omega (arith, front, from);
        }

module _ (s : Contents) (q x : ℕ) where
  at_page : large_base s.layout ≤ x → (page_in s (page_of s x) ≡ q + 1) ⊎ (page_in s (page_of s x) ≢ q + 1) → IsWordOf s q x ⊎ (IsWordOf s q x → ⊥)
  at_page above (inl named) = inl (record { page = page_of s x; named = named; from = omega (arith, above); to = omega (arith, above) })
  at_page above (inr other) = inr (λ of.
      let from = of.from in
      let to = of.to in
      let same : of.page ≡ page_of s x = omega (arith, from, to) in
      other (subst (λ (k : ℕ). page_in s k ≡ q + 1) same of.named))

  -- a word is one of such a page, or not
  pub word_cases : IsWordOf s q x ⊎ (IsWordOf s q x → ⊥)
  word_cases = elim (cases_lt x (large_base s.layout)) [
    | inl below ↦ inr (λ of. let from = of.from in omega (arith, below, from))
    | inr above ↦ at_page above (cases_eq (page_in s (page_of s x)) (q + 1))
  ]
