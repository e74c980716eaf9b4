-- A space stays sound where a large object goes: its pages become free and their words zero.
use Rattle.std.proofs.Common.{◌≡◌, ◌≢◌, ℕ, ◌+◌, ◌<◌, ◌≤◌, ◌⊎◌, inl, inr, true, Option, Some, None, ap, sym, ◌∙◌, subst, arith}
use Rattle.std.proofs.lemmas.Bool.{cases_eq}
use Rattle.sg_words.specs.Blocks.{slot_size, slots, slot_base, IsOf}
use Rattle.sg_desc.specs.Shapes.{holds_reference}
use Rattle.sg_words.specs.Sections.{ready_base, links_base, nursery_base, old_base, large_base, globals_base}
use Rattle.sg_words.proofs.Blocks.{class_bounds}
use Rattle.sg_space.specs.Space.{Contents, IsContents}
use Rattle.sg_space.specs.Laws.{PlacingLaw}
use Rattle.sg_space.specs.Standing.{word, block_in, page_in, page_base, size_at, IsObject, IsInNursery, IsInSlot}
use Rattle.sg_space.specs.Standing.{IsInPages, IsPlaced, IsSoundBlock, IsGarbage, IsSoundBy, Refers, Links, RefersSoundly, AreRows}
use Rattle.sg_los.specs.Pages.{FreesRun}
use Rattle.sg_los.specs.Laws.{unless, without}
use Rattle.sg_los.proofs.Owners.{unless_some, unless_keeps, unless_none}
use Rattle.sg_los.proofs.Standing.{named_there, slot_below, owner_is, word_is, word_cases}

module _ (law : PlacingLaw) (s : Contents) (contents : IsContents s) (owner : ℕ → Option ℕ) (sound : IsSoundBy s owner) (h : ℕ) (e : owner h ≡ Some h)
    (above : large_base s.layout ≤ h) (p : IsInPages s h) (t : Contents) (run : FreesRun s p.page t) where
  -- the space afterwards
  abbrev after : Contents
  after = record s { words = t.words; pages = t.pages }

  -- another object's words are as they were
  pub others_kept : (x g : ℕ) → owner x ≡ Some g → g ≢ h → word t x ≡ word s x
  others_kept x g own other = run.kept x (λ of. other (owner_is law s owner sound contents h e p x g of own))

  still : (g : ℕ) → without owner h g ≡ Some g → (owner g ≡ Some g) × (g ≢ h) × (word t g ≡ word s g) × (word t (g + 1) ≡ word s (g + 1))
  still g own =
      let was = unless_some h g (owner g) own in
      let second = sound.whole g (g + 1) was.0 (omega arith) (omega arith) in
      (was.0, was.1, others_kept g g was.0 was.1, others_kept (g + 1) g second was.1)

  keeps : (x g : ℕ) → owner x ≡ Some g → g ≢ h → without owner h x ≡ Some g
  keeps x g own other = unless_keeps h g (owner x) own other

  object_after : (g : ℕ) → without owner h g ≡ Some g → IsObject after g
  object_after g own =
      let is = still g own in
      let o = sound.objects g is.0 in
      let size = is.3 in
      record {
        class = o.class;
        shape = o.shape;
        shape_is = o.shape_is;
        tag = is.2 ∙ o.tag;
        size = λ v. size ∙ o.size v;
      }

  page_after : (j k : ℕ) → page_in s j ≡ k + 1 → k ≢ p.page → page_in t j ≡ k + 1
  page_after j k named other = run.others j (λ same. other (omega (arith, named, same))) ∙ named

  -- another object stands where it stood
  module _ (g : ℕ) (other : g ≢ h) (same : word t (g + 1) ≡ word s (g + 1)) where
    nursery_after : IsInNursery s g → IsInNursery after g
    nursery_after y = record {
      above = y.above;
      within = subst (λ (n : ℕ). g + (n + 2) ≤ old_base s.layout) (sym same) y.within;
      small = subst (λ (n : ℕ). n + 2 ≤ 64) (sym same) y.small;
    }

    slot_after : IsInSlot s g → IsInSlot after g
    slot_after y = record {
      block = y.block;
      slot = y.slot;
      there = y.there;
      sized = subst (λ (n : ℕ). IsOf (block_in s y.block) (slot_size (n + 2))) (sym same) y.sized;
      fits = subst (λ (n : ℕ). y.slot < slots (slot_size (n + 2))) (sym same) y.fits;
      front = subst (λ (n : ℕ). g ≡ slot_base s.layout y.block (slot_size (n + 2)) y.slot) (sym same) y.front;
      taken = y.taken;
      small = subst (λ (n : ℕ). n + 2 ≤ 64) (sym same) y.small;
    }

    pages_after : IsInPages s g → IsInPages after g
    pages_after y = record {
      page = y.page;
      front = y.front;
      large = subst (λ (n : ℕ). 64 < n + 2) (sym same) y.large;
      within = subst (λ (n : ℕ). g + (n + 2) ≤ globals_base s.layout) (sym same) y.within;
      takes = λ j from to. page_after j y.page (y.takes j from (subst (λ (n : ℕ). page_base s.layout j < g + (n + 2)) same to))
          (λ k. other (y.front ∙ ap (page_base s.layout) k ∙ sym p.front));
    }

    place_after : IsPlaced s g → IsPlaced after g
    place_after y = elim y [ inl z ↦ inl (nursery_after z) | inr q ↦ inr (elim q [ inl z ↦ inl (slot_after z) | inr z ↦ inr (pages_after z) ]) ]

  slot_is_other : (c z i : ℕ) → c < s.layout.blocks → i < slots z → 4 ≤ z → slot_base s.layout c z i ≢ h
  slot_is_other c z i there fits some same = let b = slot_below s c z i there fits in omega (arith, b, some, same, above)

  block_after : (c : ℕ) → c < s.layout.blocks → IsSoundBlock after (without owner h) c
  block_after c there = let b = sound.blocks c there in record {
    settled = b.settled;
    sized = b.sized;
    bare = b.bare;
    filled = λ z i of set.
        let f = b.filled z i of set in
        (f.0, keeps (slot_base s.layout c z i) (slot_base s.layout c z i) f.1 (slot_is_other c z i there f.0 (class_bounds z (b.sized z of)).0));
    marked = b.marked;
  }

  named_after : (j k : ℕ) → j < s.layout.pages → page_in t j ≡ k + 1 → (page_in s j ≡ p.page + 1) ⊎ (page_in s j ≢ p.page + 1) →
      (without owner h (page_base s.layout k) ≡ Some (page_base s.layout k)) × (k ≤ j) ×
      (page_base s.layout j < page_base s.layout k + size_at after (page_base s.layout k))
  named_after j k there named (inl gone) = let free = run.freed j gone in absurd (omega (arith, free, named))
  named_after j k there named (inr other) =
      let was : page_in s j ≡ k + 1 = sym (run.others j other) ∙ named in
      let n = (sound.pages j there).named k was in
      let front = p.front in
      let apart : page_base s.layout k ≢ h = λ same. other (omega (arith, was, same, front)) in
      let own = keeps (page_base s.layout k) (page_base s.layout k) n.0 apart in
      let size = (still (page_base s.layout k) own).3 in
      let to = n.2 in
      (own, n.1, omega (arith, to, size))

  -- a word that was zero is zero
  zero_after : (x : ℕ) → word s x ≡ 0 → word t x ≡ 0
  zero_after x zero = elim (word_cases s p.page x) [ inl of ↦ run.zero x of | inr not ↦ run.kept x not ∙ zero ]

  clear_after : (x : ℕ) → (owner x ≡ None) ⊎ (owner x ≡ Some h) → nursery_base ≤ x → x < globals_base s.layout → (IsGarbage after x → ⊥) → word t x ≡ 0
  clear_after x (inl none) low high garbage = zero_after x (sound.clear x none low high (λ g. garbage (record {
    block = g.block;
    size = g.size;
    slot = g.slot;
    there = g.there;
    owing = g.owing;
    fits = g.fits;
    unmarked = g.unmarked;
    from = g.from;
    to = g.to;
  })))
  clear_after x (inr own) low high garbage = let o = sound.owned x h own in run.zero x (word_is law s owner sound contents h e p x o.0 o.1)

  sound_after : IsSoundBy after (without owner h)
  sound_after = record {
    words = run.words ∙ sound.words;
    classes = sound.classes;
    owned = λ x g own.
        let was = unless_some h g (owner x) own in
        let o = sound.owned x g was.0 in
        let front = keeps g g o.2 was.1 in
        let size = (still g front).3 in
        let to = o.1 in
        (o.0, omega (arith, to, size), front);
    whole = λ g x own from to.
        let is = still g own in
        let size = is.3 in
        keeps x g (sound.whole g x is.0 from (omega (arith, to, size))) is.1;
    objects = object_after;
    places = λ g own. let is = still g own in place_after g is.1 is.3 (sound.places g is.0);
    blocks = block_after;
    pages = λ j there. record { named = λ k named. named_after j k there named (cases_eq (page_in s j) (p.page + 1)) };
    clear = λ x none low high garbage. clear_after x (unless_none h (owner x) none) low high garbage;
    fragments = sound.fragments;
    ordered = sound.ordered;
    apart = sound.apart;
    addresses = sound.addresses;
    free = λ f x below from to. ap (unless h) (sound.free f x below from to);
  }

  pub freed_is_sound : IsSoundBy t (without owner h)
  freed_is_sound = subst (λ (z : Contents). IsSoundBy z (without owner h)) (sym run.still) sound_after

  -- the words behind the pages are as they were
  behind_kept : (x : ℕ) → globals_base s.layout ≤ x → word t x ≡ word s x
  behind_kept x from = run.kept x (λ of.
      let there = named_there s contents of.page p.page of.named in
      let to = of.to in
      omega (arith, there, to, from))

  refers_after : RefersSoundly s (without owner h) → RefersSoundly after (without owner h)
  refers_after r = record {
    fields = λ g i class shape own shape_is tag below holds.
        let is = still g own in
        let few : i < word s (g + 1) = subst (λ (n : ℕ). i < n) is.3 below in
        let same = others_kept (g + 2 + i) g (sound.whole g (g + 2 + i) is.0 (omega arith) (omega (arith, few))) is.1 in
        subst (Refers (without owner h)) (sym same)
        (r.fields g i class shape own shape_is (sym is.2 ∙ tag) few (subst (λ (n : ℕ). holds_reference shape.kind i n ≡ true) is.3 holds));
    globals = λ x below. subst (Refers (without owner h)) (sym (behind_kept (globals_base s.layout + x) (omega arith))) (r.globals x below);
    links = λ x below. subst (Links (without owner h)) (sym (behind_kept (links_base s.layout + x) (omega arith))) (r.links x below);
    ready = λ j from below. subst (Refers (without owner h)) (sym (behind_kept (ready_base s.layout + j) (omega arith))) (r.ready j from below);
    registered = r.registered;
    pairs = r.pairs;
  }

  rows_after : AreRows s → AreRows after
  rows_after r = record {
    head = r.head;
    made = λ j from below zero. r.made j from below (sym (behind_kept (ready_base s.layout + j) (omega arith)) ∙ zero);
    rest = λ j from below. behind_kept (ready_base s.layout + j) (omega arith) ∙ r.rest j from below;
  }

  pub refers_kept : RefersSoundly s (without owner h) → RefersSoundly t (without owner h)
  refers_kept r = subst (λ (z : Contents). RefersSoundly z (without owner h)) (sym run.still) (refers_after r)

  pub rows_kept : AreRows s → AreRows t
  rows_kept r = subst AreRows (sym run.still) (rows_after r)
