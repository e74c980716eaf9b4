-- How the parts of a pause meet.
use Rattle.std.proofs.Common.{◌≡◌, ◌≢◌, ℕ, zero, suc, ◌+◌, ◌*◌, ◌<◌, ◌≤◌, ◌⊎◌, Bool, true, false, List, [], ◌∷◌, ◌++◌, map, filter, length, slice_index, slice_index_or, cond, sym, ap, ◌∙◌, subst, inl, inr, arith}
use Rattle.std.specs.List.{flat_map}
use Rattle.std.specs.List.Sorted.{IsStrictlyIncreasing}
use Rattle.std.specs.Int.{bit_at}
use Rattle.std.proofs.lemmas.List.{map-append}
use Rattle.sg_words.specs.Address.{byte_at}
use Rattle.sg_words.specs.Blocks.{slot_size, slots, card_of, card_from}
use Rattle.sg_words.specs.Found.{IsSearched}
use Rattle.sg_words.specs.Lists.{In}
use Rattle.sg_words.specs.Objects.{size_of, sent}
use Rattle.sg_words.specs.Reach.{AreDistinct}
use Rattle.sg_words.specs.Sections.{globals_base}
use Rattle.sg_words.specs.declared.layout.Layout.{Layout}
use Rattle.sg_words.specs.declared.pieces.Move.{Move}
use Rattle.sg_words.specs.declared.steps.BlockWord.TheVariants.{Free, Swept}
use Rattle.sg_words.proofs.Members.{map_in, in-filter, in-flat, last-cases, out}
use Rattle.sg_words.proofs.Blocks.{slot_size-holds, slot_fits, bit_cases}
use Rattle.std.proofs.lemmas.Bool.{cases_lt}
use Rattle.sg_words.proofs.Objects.{sent-at, slots-are}
use Rattle.sg_program.specs.declared.program.Program.{Program}
use Rattle.sg_program.specs.Scripts.{kind_of}
use Rattle.sg_desc.specs.Shapes.{is_strong as is_strong_by}
use Rattle.sg_graph.specs.Graph.{Graph}
use Rattle.sg_graph.specs.Book.{Book, Old, nursery_end, old_end, IsEmptySlot}
use Rattle.sg_graph.specs.Epoch.{numbers_below}
use Rattle.sg_graph.specs.Heap.{Owner, layout_of, IsHeap}
use Rattle.sg_graph.specs.Blocks.{AreSettled}
use Rattle.sg_graph.specs.Pause.{IsPinned}
use Rattle.sg_space.specs.Space.{Contents, words_of}
use Rattle.sg_space.specs.Standing.{word, block_in, used_in}
use Rattle.sg_space.specs.Changes.{contents_still}
use Rattle.sg_cards.specs.declared.found.Seed.{Seed}
use Rattle.sg_cards.specs.Seeds.{AreSeeds}
use Rattle.sg_round.specs.Area.{Area, IsYoung, is_strong, Traces, card_at}
use Rattle.sg_round.specs.Image.{IsImage}
use Rattle.sg_round.specs.Order.{strong_of, leads, Fits}
use Rattle.sg_round.specs.Round.{IsOpening, AreZoned, IsPassed, IsClear, Slot, Given, Copied}
use Rattle.sg_copy.specs.Copying.{area_of, items_of, card_in, CanCopy, HasCopiedTo}
use Rattle.sg_heap.specs.Fronts.{fronts, IsFronted}
use Rattle.sg_heap.specs.Laws.{FrontLaw}
use Rattle.sg_minor.specs.Joined.{global_slots, holds_young, slots_from, IsHome, IsPicture, IsTraced, HasSwept, HasBlocksOf, IsBegun, IsOrdered, IsOldField, OfOld, OfCopy, AreRisen, IsEnded, JoinLaw}
use Rattle.sg_minor.proofs.Areas.{area_for, area_is, classes_are}
use Rattle.sg_minor.proofs.Added.{AreSlots, slots_of_name, slots_outside, IsSeed, Global, Field, outside-is, seeds-each}
use Rattle.sg_minor.proofs.InOrder.{IsNamedSearch, named-search, names-of, slots-named, in-names, fits-same}
use Rattle.sg_minor.proofs.Keeps.{fail-loose, traced}
use Rattle.sg_minor.proofs.Mirrors.{clear_empty}
use Rattle.sg_minor.proofs.Named.{byte-same, field-name, inner, inner-field, outer, in-nursery, in-old, length as length-of, size-at, strong, strong-of}
use Rattle.sg_minor.proofs.OldNames.{old_names, old_named, are_slots, found_slots, found_are, found_rise, fields_rise}
use Rattle.sg_minor.proofs.Opens.{named, traced-young, opening}
use Rattle.sg_minor.proofs.Pictures.{picture}
use Rattle.sg_minor.proofs.Rises.{Rises, rises-append, rises-filter, rises-distinct, strict-rises, distinct-append}
use Rattle.sg_minor.proofs.Starts.{AtField, AreStarts, starts}
use Rattle.sg_minor.proofs.Sown.{fronted_heap}
use Rattle.sg_minor.proofs.Zoned.{zone_in, zone_zero, zoned, blocks_by}

-- the globals' slots rise
rises-globals : (layout : Layout) (n : ℕ) → Rises 0 (global_slots layout n)
rises-globals layout zero = tt
rises-globals layout (suc n) = subst (Rises 0) (sym (map-append (λ (x : ℕ). globals_base layout + x) (numbers_below n) (n ∷ [])))
    (rises-append 0 (globals_base layout + n) (global_slots layout n) ((globals_base layout + n) ∷ []) (rises-globals layout n) (omega arith) (below n)
    (omega arith, tt))
  where
    in-below : (n x : ℕ) → In x (numbers_below n) → x < n
    in-below zero x h = absurd (let z = h in cc)
    in-below (suc n) x h = elim (last-cases x n (numbers_below n) h) [
      | inl e ↦ omega arith
      | inr i ↦ let l = in-below n x i in omega arith
    ]

    below : (n a : ℕ) → In a (global_slots layout n) → a < globals_base layout + n
    below n a h = let q = map_in (λ (x : ℕ). globals_base layout + x) a (numbers_below n) h in let l = in-below n q.0 q.1 in let e = q.2 in omega arith

module _ (p : Program) (s : Contents) (g : Graph) (b : Book) (ambiguous pins : List ℕ) (found : List Seed) (tagged : Contents)
    (begun : IsBegun p s g b ambiguous pins found tagged) (front : IsFronted p s g b begun.heap.1.0) where
  abbrev pub owner : ℕ → Owner
  owner = begun.heap.1.0

  abbrev pub heap : IsHeap p (word s) g b owner
  heap = begun.heap.1.1

  abbrev settled : AreSettled p (words_of s) g b owner
  settled = begun.heap.1.2

  abbrev pub slots_before : List ℕ
  slots_before = slots_from s found

  abbrev pub items : List ℕ
  items = items_of tagged slots_before pins

  pub area_before : area_of s ≡ area_for p
  area_before = area_is p s b begun.heap.0

  pub area_tagged : area_of tagged ≡ area_for p
  area_tagged = ap area_of begun.still.0 ∙ area_before

  layout_is : tagged.layout ≡ layout_of p
  layout_is = ap (λ (z : Contents). z.layout) begun.still.0 ∙ begun.heap.0.layout

  few : length p.classes ≤ 256
  few = let count = classes_are p s b begun.heap.0 in let most = begun.contents.shapes.classes in omega arith

  of-owner : AreSeeds s (fronts b.address owner) found
  of-owner = begun.seeds (fronts b.address owner) (front.sound)

  slots-for : AreSlots p (word s) (area_for p) g b slots_before
  slots-for = subst (λ (a : Area). AreSlots p (word s) a g b slots_before) area_before
      (are_slots p s g b begun.heap.0 owner heap front found of-owner)

  pub begins : AreStarts p (word s) g b pins items
  begins = starts p (word s) g b owner heap ambiguous pins slots_before begun.pinned tagged area_tagged begun.tags slots-for

  -- the pinned objects by their names
  abbrev PinNames : Type 0
  PinNames = (ns : List ℕ) × (map b.address ns ≡ pins) × ((n : ℕ) → In n ns → IsPinned g b ambiguous n)

  pin-names : PinNames
  pin-names = names-of b (IsPinned g b ambiguous) pins begun.pinned.each

  fields-are : (names : PinNames) → strong_of (area_of tagged) (word tagged) pins ≡ flat_map (slots_of_name p g b) names.0
  fields-are names =
      ap (λ (a : Area). strong_of a (word tagged) pins) area_tagged ∙ ap (λ (l : List ℕ). strong_of (area_for p) (word tagged) l) (sym names.1)
      ∙ slots-named p (word s) g b owner heap ambiguous pins begun.pinned (word tagged) begun.tags names.0 (λ n i. let k = names.2 n i in (k.0.0, k.0.1))

  -- no slot comes twice
  seed-above : (a : ℕ) → IsSeed p g b a → nursery_end p ≤ a
  seed-above a (Global x l e) = let z = e in omega arith
  seed-above a (Field n i d st o l e q) = let from = (in-old p (word s) g b owner heap n st d o).0 in let z = q in omega arith

  pin-field-below : (names : PinNames) (a : ℕ) → In a (flat_map (slots_of_name p g b) names.0) → a < nursery_end p
  pin-field-below names a h =
      let n = in-flat (slots_of_name p g b) a names.0 h in
      let k = names.2 n.0 n.1 in
      let f = slots-are (λ i. is_strong_by (kind_of p (g.class n.0)) i (g.size n.0)) (b.address n.0) 0 (g.size n.0) a n.2 in
      let to = (in-nursery p (word s) g b owner heap n.0 k.0.1 k.0.0 k.0.2).1 in
      let l = f.1 in
      let at = f.3 in
      omega arith

  once-slots : AreDistinct slots_before
  once-slots =
      distinct-append (filter (holds_young (area_of s) (word s)) (global_slots s.layout 64))
      (found_slots p s g b begun.heap.0 owner heap front found of-owner)
      (rises-distinct 0 (filter (holds_young (area_of s) (word s)) (global_slots s.layout 64))
      (rises-filter (holds_young (area_of s) (word s)) 0 (global_slots s.layout 64) (rises-globals s.layout 64)))
      (rises-distinct 0 (found_slots p s g b begun.heap.0 owner heap front found of-owner)
      (found_rise p s g b begun.heap.0 owner heap front found of-owner))
      (λ a i j.
      let from = globals-above a (in-filter (holds_young (area_of s) (word s)) a (global_slots s.layout 64) i).0 in
      let q = in-filter (holds_young (area_of s) (word s)) a (flat_map (slots_of_name p g b) (old_names p s g b begun.heap.0 owner heap front))
      (subst (λ (l : List ℕ). In a l) (found_are p s g b begun.heap.0 owner heap front found of-owner) j) in
      let n = in-flat (slots_of_name p g b) a (old_names p s g b begun.heap.0 owner heap front) q.0 in
      let f = slots-are (λ k. is_strong_by (kind_of p (g.class n.0)) k (g.size n.0)) (b.address n.0) 0 (g.size n.0) a n.2 in
      let o = old_named p s g b begun.heap.0 owner heap front n.0 n.1 in
      let to = (in-old p (word s) g b owner heap n.0 o.1 o.0 o.2).1 in
      let l = f.1 in
      let at = f.3 in
      omega arith)
    where
      globals-above : (a : ℕ) → In a (global_slots s.layout 64) → old_end p ≤ a
      globals-above a h =
          let q = map_in (λ (x : ℕ). globals_base s.layout + x) a (numbers_below 64) h in
          let e = q.2 in
          let base = ap globals_base begun.heap.0.layout in
          omega arith

  once : AreDistinct items
  once =
      let names = pin-names in
      let fields = fields-are names in
      distinct-append slots_before (strong_of (area_of tagged) (word tagged) pins) once-slots
      (subst AreDistinct (sym fields) (rises-distinct 0 (flat_map (slots_of_name p g b) names.0)
      (fields_rise p s g b begun.heap.0 owner heap front 0 0 names.0
      (subst (Rises 0) (sym names.1) (strict-rises 0 pins begun.in_order (λ a i. omega arith)))
      (λ n i. (names.2 n i).0.1) (λ n i. omega arith))))
      (λ a i j.
      let above = seed-above a (seeds-each p (word s) (area_for p) g b slots_before slots-for a i) in
      let below = pin-field-below names a (subst (λ (l : List ℕ). In a l) fields j) in
      omega arith)

  pub opens : CanCopy tagged slots_before pins
  opens = record {
    contents = contents_still s tagged begun.still begun.contents;
    zone = zone_in p owner;
    opening = subst (λ (a : Area). IsOpening a (word tagged) items pins (zone_in p owner)) (sym area_tagged)
        (opening p (word s) g b owner heap ambiguous pins begun.pinned (word tagged) begun.tags items begins few (zone_in p owner)
        (zone_zero p s g b begun.heap.0 owner heap front settled begun.owes));
    zoned = subst (λ (a : Area). AreZoned a (block_in tagged) (used_in tagged) (zone_in p owner)) (sym area_tagged)
        (subst (λ (z : Contents). AreZoned (area_for p) (block_in z) (used_in z) (zone_in p owner)) (sym begun.still.0)
        (zoned p s g b begun.heap.0 owner heap front settled begun.owes));
    once = once;
  }

  items-are : (names : PinNames) → items ≡ filter (holds_young (area_for p) (word s)) (slots_outside p g b slots-for.old) ++ flat_map (slots_of_name p g b)
      names.0
  items-are names =
      ap (λ (l : List ℕ). l ++ strong_of (area_of tagged) (word tagged) pins) slots-for.list
      ∙ ap (λ (l : List ℕ). filter (holds_young (area_for p) (word s)) (slots_outside p g b slots-for.old) ++ l) (fields-are names)

  outside-same : (t : ℕ) → IsSeed p g b t → word tagged t ≡ word s t
  outside-same t (Global x l e) = outer p (word s) g b owner heap ambiguous pins begun.pinned (word tagged) begun.tags t
      (λ y. (let u = e in let v = y.1 in omega arith))
  outside-same t (Field n i d st o l e q) = ap (word tagged) q ∙ inner-field p (word s) g b owner heap ambiguous pins begun.pinned (word tagged) begun.tags n i
      st l ∙ ap (word s) (sym q)

  search-for : (names : PinNames) (objects : List ℕ) → IsSearched (λ _. Unit {0}) (leads (area_for p) (word tagged) items) objects →
      IsNamedSearch p (word s) g b owner heap ambiguous pins begun.pinned (word tagged) begun.tags slots-for.old names.0
      (λ n i. ((slots-for.old_are.exact n).0 i).1) (λ n i. (names.2 n i).0.1) items (items-are names)
      (λ t i. outside-same t (outside-is p (word s) (area_for p) g b slots_before slots-for t i)) objects
  search-for names objects searched = named-search p (word s) g b owner heap ambiguous pins begun.pinned (word tagged) begun.tags slots-for.old names.0
      (λ n i. ((slots-for.old_are.exact n).0 i).1) (λ n i. (names.2 n i).0.1) items (items-are names)
      (λ t i. outside-same t (outside-is p (word s) (area_for p) g b slots_before slots-for t i)) objects searched

  module _ (round : Contents) (told_moves : List Move) (told_fails : List ℕ) (copied : HasCopiedTo tagged slots_before pins round told_moves told_fails) where
    pub image_for : IsImage (area_for p) (word tagged) items (λ _. true) copied.went copied.stayed copied.m (word round) (λ _. false)
    image_for = subst (λ (a : Area). IsImage a (word tagged) items (λ _. true) copied.went copied.stayed copied.m (word round) (λ _. false)) area_tagged
        copied.image

    traced-named : (a : ℕ) → Traces (area_for p) (word tagged) items a → (n : ℕ) × (n ≢ 0) × (b.stands n ≡ true) × (b.address n ≡ a)
    traced-named = named p (word s) g b owner heap ambiguous pins begun.pinned (word tagged) begun.tags items begins

    -- the length of what is traced was no tag
    length-back : (a : ℕ) → Traces (area_for p) (word tagged) items a → word tagged (a + 1) ≡ word s (a + 1)
    length-back a h =
        let n = traced-named a h in
        size-at p (word s) g b owner heap ambiguous pins begun.pinned (word tagged) begun.tags a n.0 n.2 n.1 n.3
        ∙ sym (length-of p (word s) g b owner heap n.0 n.2 n.1) ∙ ap (λ (z : ℕ). word s (z + 1)) n.3

    slot-back : (a : ℕ) → Traces (area_for p) (word tagged) items a → slot_size (size_of (word tagged) a) ≡ slot_size (size_of (word s) a)
    slot-back a h = ap (λ (z : ℕ). slot_size (z + 2)) (length-back a h)

    block-before : (c : ℕ) → block_in tagged c ≡ block_in s c
    block-before c = ap (λ (z : Contents). block_in z c) begun.still.0

    used-before : (c : ℕ) → used_in tagged c ≡ used_in s c
    used-before c = ap (λ (z : Contents). used_in z c) begun.still.0

    -- a copy is in a slot that was clear
    clear-slot : (c z i : ℕ) → block_in round c ≡ Swept z → bit_at (used_in tagged c) i ≡ 0 → IsClear (block_in s) (used_in s) c z i
    clear-slot c z i state clear = elim (copied.blocks.opened c) [
      | inl same ↦ inr (sym (block-before c) ∙ sym same ∙ state, ap (λ (u : ℕ). bit_at u i) (sym (used-before c)) ∙ clear)
      | inr q ↦ inl (sym (block-before c) ∙ q.1)
    ]

    pub homes : (a : ℕ) → In a copied.went → IsHome p (word s) g b copied.m a
    homes a h =
        let tr = (image_for.moved a h).0 in
        let q = copied.blocks.homes a h in
        let n = traced-named a tr in
        let size = slot-back a tr in
        let nursery-is = ap (λ (l : Layout). l.nursery) layout_is in
        let blocks-is = ap (λ (l : Layout). l.blocks) layout_is in
        let there = q.there in
        let fields = (heap.laid.objects.shaped n.0 (let d = n.1 in omega arith) n.2).1.0 in
        let length = length-of p (word s) g b owner heap n.0 n.2 n.1 in
        let at-n : word s (b.address n.0 + 1) ≡ word s (a + 1) = ap (λ (z : ℕ). word s (z + 1)) n.3 in
        record {
          block = q.b;
          slot = q.i;
          there = omega arith;
          small = omega arith;
          fits = subst (λ (z : ℕ). q.i < slots z) size q.fits;
          at = subst (λ (z : ℕ). copied.m a ≡ nursery_end p + 256 * q.b + z * q.i) size (let e = q.is in omega arith);
          empty = subst (λ (z : ℕ). IsEmptySlot p g b q.b z q.i) size
              (clear_empty p g b (block_in s) (used_in s) (blocks_by p s g b begun.heap.0 owner heap front settled begun.owes) q.b
              (slot_size (size_of (word tagged) a)) q.i q.fits
              (clear-slot q.b (slot_size (size_of (word tagged) a)) q.i q.state q.clear));
        }

    module _ (v : Contents) (blocks : HasBlocksOf round v) (swept : HasSwept (area_of s) (word s) (pins ++ copied.stayed) (word round) (word v)) where
      swept_for : HasSwept (area_for p) (word s) (pins ++ copied.stayed) (word round) (word v)
      swept_for = subst (λ (a : Area). HasSwept a (word s) (pins ++ copied.stayed) (word round) (word v)) area_before swept

      picture_for : IsPicture p (area_for p) (word s) g b (pins ++ copied.stayed) copied.went copied.m (word v)
      picture_for = picture p (word s) g b owner heap ambiguous pins begun.pinned (word tagged) begun.tags items begins copied.went copied.stayed copied.m
          (word round) image_for (word v) swept_for homes

      block-after : (c : ℕ) → block_in v c ≡ block_in round c
      block-after c = ap (λ l. slice_index_or l c Free) blocks.blocks

      used-after : (c : ℕ) → used_in v c ≡ used_in round c
      used-after c = ap (λ l. slice_index l c) blocks.used

      full_for : (a c : ℕ) → In a copied.stayed → c < p.config.blocks → IsPassed (block_in v) (used_in v) (slot_size (size_of (word s) a)) c
      full_for a c h there =
          let tr = (image_for.failed a h).0 in
          let blocks-is = ap (λ (l : Layout). l.blocks) layout_is in
          let q = subst (λ (z : ℕ). IsPassed (block_in round) (used_in round) z c) (slot-back a tr) (copied.full a c h (omega arith)) in
          record {
            taken = λ e. q.taken (sym (block-after c) ∙ e);
            full = λ e i l. ap (λ (u : ℕ). bit_at u i) (used-after c) ∙ q.full (sym (block-after c) ∙ e) i l;
          }

      ordered : IsOrdered p s g b ambiguous copied.went copied.stayed copied.m v
      ordered =
          let names = pin-names in
          let o = copied.order in
          let q = search-for names o.found (subst (λ (a : Area). IsSearched (λ _. Unit {0}) (leads a (word tagged) items) o.found) area_tagged o.searched) in
          record {
            old = slots-for.old;
            pinned = names.0;
            found = q.names;
            old_are = slots-for.old_are;
            pinned_are = record {
              in_order = subst IsStrictlyIncreasing (sym names.1) begun.in_order;
              exact = λ n. (
                names.2 n,
                λ k. in-names p (word s) g b owner heap ambiguous pins begun.pinned (word tagged) begun.tags names.0 (λ m i. (names.2 m i).0.1) n k.0.1
                    (subst (λ (l : List ℕ). In (b.address n) l) (sym names.1) (begun.pinned.all n k)),
              );
            };
            each = q.each;
            searched = q.searched;
            parts = subst (λ (l : List ℕ). Fits (area_of s) (word s) copied.m (block_in s) (used_in s) copied.went copied.stayed l (block_in v) (used_in v))
                (sym q.at)
                (subst (λ (a : Area). Fits a (word s) copied.m (block_in s) (used_in s) copied.went copied.stayed o.found (block_in v) (used_in v))
                (sym area_before)
                (fits-same (area_for p) (word tagged) (word s) copied.m (block_in s) (block_in v) (used_in s) (used_in v) copied.went copied.stayed o.found
                (λ a i.
                let k = map_in b.address a q.names (subst (λ (l : List ℕ). In a l) (sym q.at) i) in
                let m = q.each k.0 k.1 in
                ap (λ (z : ℕ). word tagged (z + 1)) (sym k.2) ∙ inner p (word s) g b owner heap ambiguous pins begun.pinned (word tagged) begun.tags k.0 1 m.0.1
                (omega arith) (omega arith)
                ∙ ap (λ (z : ℕ). word s (z + 1)) k.2)
                (subst (λ (a : Area). Fits a (word tagged) copied.m (block_in s) (used_in s) copied.went copied.stayed o.found (block_in v) (used_in v))
                area_tagged
                (subst (λ (z : Contents). Fits (area_of tagged) (word tagged) copied.m (block_in z) (used_in z) copied.went copied.stayed o.found (block_in v)
                (used_in v)) begun.still.0
                (subst (λ l. Fits (area_of tagged) (word tagged) copied.m (block_in tagged) (used_in tagged) copied.went copied.stayed o.found
                (λ c. slice_index_or l c Free) (used_in v)) (sym blocks.blocks)
                (subst (λ l. Fits (area_of tagged) (word tagged) copied.m (block_in tagged) (used_in tagged) copied.went copied.stayed o.found (block_in round)
                (λ c. slice_index l c)) (sym blocks.used)
                o.parts))))));
          }

      young-of : (a : ℕ) → Traces (area_for p) (word tagged) items a → IsYoung (area_for p) a
      young-of = traced-young p (word s) g b owner heap ambiguous pins begun.pinned (word tagged) begun.tags items begins

      -- a strong field of an old object, or of a copy, that refers to a young object is a slot of the round
      old-slot : (n i x y : ℕ) → n ≢ 0 → b.stands n ≡ true → b.section n ≡ Old → i < g.size n → is_strong_by (kind_of p (g.class n)) i (g.size n) ≡ true → x ≡
          b.address n + 2 + i →
          word v x ≡ byte_at y → IsYoung (area_for p) y → In x items
      old-slot n i x y d st o l e at refers young =
          let k = field-name p (word s) g b owner heap n i st l e in
          let place = in-old p (word s) g b owner heap n st d o in
          let above = place.0 in
          let still : copied.m (b.address n) ≡ b.address n = picture_for.others (b.address n)
          (out (b.address n) copied.went (λ h. let yo = (young-of (b.address n) (image_for.moved (b.address n) h).0).1 in omega arith)) in
          let len = length-of p (word s) g b owner heap n st d in
          let now : word v x ≡ byte_at (copied.m (b.address k.0)) =
          ap (word v) (at ∙ ap (λ (z : ℕ). z + 2 + i) (sym still)) ∙ (picture_for.old n d st o).fields i (omega arith)
          ∙ ap (λ (z : Bool). cond z (sent copied.m (word s (b.address n + 2 + i))) (word s (b.address n + 2 + i)))
          (strong-of p (word s) g b owner heap n i st d ∙ e)
          ∙ sent-at copied.m (word s (b.address n + 2 + i)) (b.address k.0) k.2 in
          let target : copied.m (b.address k.0) ≡ y = byte-same (copied.m (b.address k.0)) y (sym now ∙ refers) in
          elim (young-or (b.address k.0)) [
            | inl yes_young ↦ begins.all x (b.address k.0) (AtField n i d st (inl o) l e at) (ap (word s) at ∙ k.2) yes_young
            | inr no_young ↦ absurd (no_young (subst (IsYoung (area_for p))
                (sym target ∙ picture_for.others (b.address k.0) (out (b.address k.0) copied.went
                (λ h. no_young (young-of (b.address k.0) (image_for.moved (b.address k.0) h).0)))) young))
          ]
        where
          young-or : (a : ℕ) → IsYoung (area_for p) a ⊎ (IsYoung (area_for p) a → ⊥)
          young-or a = elim (cases_lt a 512) [
            | inl l ↦ inr (λ y. let u = y.0 in omega arith)
            | inr l ↦ elim (cases_lt a (nursery_end p)) [
              | inl q ↦ inl (l, q)
              | inr q ↦ inr (λ y. let u = y.1 in omega arith)
            ]
          ]

      field-slot : (x y : ℕ) → IsOldField p (area_for p) (word s) g b copied.went copied.m x → word v x ≡ byte_at y → IsYoung (area_for p) y →
          Slot (area_for p) (word tagged) items copied.m copied.went copied.stayed x
      field-slot x y (OfOld n i d st o l e at) refers young = Given (old-slot n i x y d st o l e at refers young)
      field-slot x y (OfCopy a i h l e at) refers young =
          let tr = (image_for.moved a h).0 in
          let n = traced-named a tr in
          let length = length-back a tr in
          let strong-same : is_strong (area_for p) (word tagged) a i ≡ is_strong (area_for p) (word s) a i =
          ap (λ (z : ℕ). is_strong (area_for p) (word tagged) z i) (sym n.3) ∙ strong p (word s) g b owner heap ambiguous pins begun.pinned (word tagged)
          begun.tags n.0 i n.2 n.1
          ∙ sym (strong-of p (word s) g b owner heap n.0 i n.2 n.1) ∙ ap (λ (z : ℕ). is_strong (area_for p) (word s) z i) n.3 in
          Copied a i h (omega arith) (strong-same ∙ e) at

      field-high : (x : ℕ) → IsOldField p (area_for p) (word s) g b copied.went copied.m x → (nursery_end p ≤ x) × (x < globals_base (layout_of p))
      field-high x (OfOld n i d st o l e at) = let place = in-old p (word s) g b owner heap n st d o in let from = place.0 in let to = place.1 in let z = at in
          (omega arith, omega arith)
      field-high x (OfCopy a i h l e at) =
          let q = homes a h in
          let holds = slot_size-holds (size_of (word s) a) q.small in
          let fit = slot_fits (slot_size (size_of (word s) a)) q.slot q.fits in
          let there = q.there in
          let home = q.at in
          let z = at in
          (omega arith, omega arith)

      carded_for : (x y : ℕ) → IsOldField p (area_for p) (word s) g b copied.went copied.m x → word v x ≡ byte_at y → IsYoung (area_for p) y → card_in v
          (card_of (layout_of p) x) ≡ 1
      carded_for x y f refers young =
          let high = field-high x f in
          let from = high.0 in
          let to = high.1 in
          let same : word v x ≡ word round x = swept_for.others x (λ y. let u = y.1 in omega arith) in
          let base = ap (λ (a : Area). a.high) area_tagged in
          let rows = ap (λ (a : Area). a.rows) area_tagged in
          let slot = subst (λ (a : Area). Slot a (word tagged) items copied.m copied.went copied.stayed x) (sym area_tagged) (field-slot x y f refers young) in
          let marked = copied.cards.dirty x slot (record {
            card = (omega arith, omega arith);
            target = y;
            young = subst (λ (a : Area). IsYoung a y) (sym area_tagged) young;
            refers = sym same ∙ refers;
          }) in
          let card : card_at (area_of tagged) x ≡ card_of (layout_of p) x = ap (λ (h : ℕ). card_from h x) base in
          ap (λ l. slice_index l (card_of (layout_of p) x)) blocks.cards ∙ ap (card_in round) (sym card)
          ∙ elim (copied.cards.others (card_at (area_of tagged) x)) [
            | inl e ↦ (let bit = (contents_still s tagged begun.still begun.contents).bits (card_at (area_of tagged) x) in omega arith)
            | inr q ↦ q.0
          ]

      risen-bits : AreRisen s v
      risen-bits = record {
        opened = λ c. elim (copied.blocks.opened c) [
          | inl same ↦ inl (block-after c ∙ same ∙ block-before c)
          | inr q ↦ inr (sym (block-before c) ∙ q.1)
        ];
        risen = λ c i set. ap (λ (u : ℕ). bit_at u i) (used-after c) ∙ elim (bit_cases (used_in round c) i) [
          | inl e ↦ e
          | inr e ↦ absurd (let clear = copied.blocks.risen c i e in let before = ap (λ (u : ℕ). bit_at u i) (used-before c) in omega arith)
        ];
      }

      pub closes : IsEnded p s g b ambiguous pins copied.went copied.stayed copied.m v
      closes = record {
        traced = subst (λ (a : Area). IsTraced p a (word s) g b ambiguous (pins ++ copied.stayed) copied.went) (sym area_before)
            (traced p (word s) g b owner heap ambiguous pins begun.pinned (word tagged) begun.tags items begins copied.went copied.stayed copied.m (word round)
            image_for);
        picture = subst (λ (a : Area). IsPicture p a (word s) g b (pins ++ copied.stayed) copied.went copied.m (word v)) (sym area_before) picture_for;
        failed = fail-loose p (word s) g b owner heap ambiguous pins begun.pinned (word tagged) begun.tags items begins copied.went copied.stayed copied.m
            (word round) image_for;
        full = full_for;
        order = ordered;
        risen = risen-bits;
        carded = λ x y f refers young. carded_for x y (subst (λ (a : Area). IsOldField p a (word s) g b copied.went copied.m x) area_before f) refers
            (subst (λ (a : Area). IsYoung a y) area_before young);
      }

pub join_law : FrontLaw → JoinLaw
join_law law = record {
  opens = λ p s g b ambiguous pins found tagged begun. opens p s g b ambiguous pins found tagged begun (fronted_heap law p s g b begun.heap begun.contents);
  closes = λ p s g b ambiguous pins found tagged round told_moves told_fails begun copied v blocks swept.
      closes p s g b ambiguous pins found tagged begun (fronted_heap law p s g b begun.heap begun.contents) round told_moves told_fails copied v blocks swept;
}
