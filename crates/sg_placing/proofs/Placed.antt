-- A new object at the front of a fragment, or in a slot of the major heap, at a stop. What the mutators have enters into nothing of it.
use Rattle.std.proofs.Common.{◌≡◌, ◌≢◌, ℕ, suc, ◌+◌, ◌^◌, ◌<◌, ◌≤◌, ◌⊎◌, cond, Bool, true, false, length, slice_index, inl, inr, sym, refl, ap, ◌∙◌, subst, arith, le_refl}
use Rattle.std.specs.Int.{bit_at}
use Rattle.std.specs.Int.Bits.{bit_or}
use Rattle.std.proofs.lemmas.Bool.{cases_eq, cases_lt}
use Rattle.std.proofs.lemmas.Nat.Bits.{bit_at-zero}
use Rattle.sg_words.specs.Address.{byte_at}
use Rattle.sg_words.specs.Blocks.{card_of, slots}
use Rattle.sg_words.specs.Sections.{nursery_base, globals_base}
use Rattle.sg_words.specs.Tags.{plain_word}
use Rattle.sg_words.specs.Words.{put}
use Rattle.sg_words.specs.declared.steps.BlockWord.{BlockWord}
use Rattle.sg_words.specs.declared.steps.BlockWord.TheVariants.{Free, Swept, Sweeping}
use Rattle.sg_words.proofs.Blocks.{slot_size-class, class_bounds, slot_fits, bit_same}
use Rattle.sg_words.proofs.Puts.{put-at, put-same, put-other, put-all, within_range, range-in, range-below, range-above, range-keeps}
use Rattle.sg_desc.specs.Shapes.{holds_reference, is_strong}
use Rattle.sg_program.specs.declared.program.Program.{Program}
use Rattle.sg_program.specs.Scripts.{kind_of, IsSizeOf, words_for}
use Rattle.sg_graph.specs.Graph.{Entry, Ref, Int, Inner, Mutator, Graph, empty_field, grown}
use Rattle.sg_graph.specs.Book.{Book, Section, Young, Old, placed_in, nursery_end, old_end, word_of, block_at, slot_at, slot_words}
use Rattle.sg_graph.specs.Blocks.{IsOldAt, IsTakenAt, AreBlocks, AreCarded, AreSettled}
use Rattle.sg_graph.specs.Laws.{BlocksGo, IsOldNow, KeepsRest}
use Rattle.sg_graph.specs.Heap.{Owner, Of, Frag, Buf, IsHeaded, IsKnown, IsKnownEntry, IsOfSort, Nothing, Objects, Fields, layout_of, Globals, Clear, Fragments, Buffers, IsHeap}
use Rattle.sg_space.specs.Space.{Contents, words_of}
use Rattle.sg_space.specs.Standing.{word, block_in, used_in, marks_in}
use Rattle.sg_heap.specs.Holding.{IsSpaceOf, HoldsHeap, OwesNothing}

-- A new object of this class, with so many fields, has its header at the word x; no other word has changed.
pub record HasHeader (s : Contents) (x class fields : ℕ) (t : Contents) : Type 0 where
  pub tag : word t x ≡ plain_word class
  pub length_is : word t (x + 1) ≡ fields
  pub same : (y : ℕ) → y ≢ x → y ≢ x + 1 → word t y ≡ word s y

-- The n words from x on are zero and no object's, and lie in this section. No buffer has them, and no fragment has them from its word in
-- `next` on.
pub record IsPlace (p : Program) (s : Contents) (b : Book) (owner : ℕ → Owner) (section : Section) (x n : ℕ) (next : ℕ → ℕ) : Type 0 where
  pub free : (y m : ℕ) → x ≤ y → y < x + n → owner y ≡ Of m → ⊥
  pub zero : (y : ℕ) → x ≤ y → y < x + n → word s y ≡ 0
  pub inside : ((section ≡ Young) × (nursery_base ≤ x) × (x + n ≤ nursery_end p)) ⊎ ((section ≡ Old) × (nursery_end p ≤ x) × (x + n ≤ old_end p))
  pub buffers : (i y : ℕ) → b.from i ≤ y → y < b.to i → x ≤ y → y < x + n → ⊥
  pub rises : (i : ℕ) → b.next i ≤ next i
  pub within : (i : ℕ) → i < b.fragments → next i ≤ b.limit i
  pub fragments : (i y : ℕ) → i < b.fragments → next i ≤ y → y < b.limit i → x ≤ y → y < x + n → ⊥

-- a slot of z words of block j is occupied now, and the block has such slots
pub record HasOccupied (s : Contents) (j z i : ℕ) (t : Contents) : Type 0 where
  pub still : t ≡ record s { words = t.words; blocks = t.blocks; used = t.used }
  pub block : (c : ℕ) → block_in t c ≡ put (block_in s) j (Swept z) c
  pub used : (c : ℕ) → used_in t c ≡ put (used_in s) j (bit_or (used_in s j) (2 ^ i)) c

pub of_sort_empty : (sort : Bool) → IsOfSort sort (cond sort (Ref 0) (Int 0))
of_sort_empty true = tt
of_sort_empty false = tt

pub empty_cond : (P : Entry → Type 0) (sort : Bool) → P (Ref 0) → P (Int 0) → P (cond sort (Ref 0) (Int 0))
empty_cond P true r i = r
empty_cond P false r i = i

-- an empty field refers to no object
pub empty_none : (sort : Bool) (m : ℕ) → cond sort (Ref 0) (Int 0) ≡ Ref m → 1 ≤ m → ⊥
empty_none true m e l = let same : 0 ≡ m = cc e in omega arith
empty_none false m e l = cc e

not_sweeping : (z y : ℕ) → Swept z ≡ Sweeping y → ⊥
not_sweeping z y e = cc e

swept_once : (z y : ℕ) → Swept z ≡ Swept y → z ≡ y
swept_once z y e = cc e

module _ (p : Program) (s : Contents) (g : Graph) (b : Book) (owner : ℕ → Owner) (sp : IsSpaceOf p s b) (heap : IsHeap p (word s) g b owner)
    (settled : AreSettled p (words_of s) g b owner)
    (k class n x : ℕ) (section : Section) (next : ℕ → ℕ) (mutator : ℕ → Mutator) (t : Contents) (known : class < length p.classes)
    (sized : IsSizeOf p class n) (place : IsPlace p s b owner section x (words_for n) next) (header : HasHeader s x class n t) where
  abbrev new : ℕ
  new = suc g.count

  abbrev h : Graph
  h = record (grown p g k class n) { mutator = mutator }

  abbrev c : Book
  c = record (placed_in b section new x) { next = next }

  abbrev owner' : ℕ → Owner
  owner' = within_range owner x (x + words_for n) (Of new)

  not_new : (m : ℕ) → b.stands m ≡ true → m ≢ new
  not_new m q e = let l = heap.laid.objects.given m q in absurd (omega arith)

  at_old : (m : ℕ) → b.stands m ≡ true → c.address m ≡ b.address m
  at_old m q = put-other b.address new x m (not_new m q)

  section_old : (m : ℕ) → b.stands m ≡ true → c.section m ≡ b.section m
  section_old m q = put-other b.section new section m (not_new m q)

  size_old : (m : ℕ) → b.stands m ≡ true → h.size m ≡ g.size m
  size_old m q = put-other g.size new n m (not_new m q)

  class_old : (m : ℕ) → b.stands m ≡ true → h.class m ≡ g.class m
  class_old m q = put-other g.class new class m (not_new m q)

  stands_old : (m : ℕ) → b.stands m ≡ true → c.stands m ≡ true
  stands_old m q = put-other b.stands new true m (not_new m q) ∙ q

  field_new : (m i : ℕ) → m ≡ new → h.field m i ≡ cond (holds_reference (kind_of p class) i n) (Ref 0) (Int 0)
  field_new m i e = ap (λ (u : ℕ → Entry). u i) (put-at g.field new (empty_field (kind_of p class) n) m e)

  field_old : (m i : ℕ) → b.stands m ≡ true → h.field m i ≡ g.field m i
  field_old m i q = ap (λ (u : ℕ → Entry). u i) (put-other g.field new (empty_field (kind_of p class) n) m (not_new m q))

  old_or_new : (m : ℕ) → c.stands m ≡ true → (m ≡ new) ⊎ (b.stands m ≡ true)
  old_or_new m q = elim (cases_eq m new) [ inl e ↦ inl e | inr e ↦ inr (sym (put-other b.stands new true m e) ∙ q) ]

  -- a word outside of the place is as it was
  same_word : (y : ℕ) → (x ≤ y → y < x + words_for n → ⊥) → word t y ≡ word s y
  same_word y out = header.same y (λ e. out (omega arith) (omega arith)) (λ e. out (omega arith) (omega arith))

  same_of : (m y : ℕ) → owner y ≡ Of m → word t y ≡ word s y
  same_of m y o = same_word y (λ l q. place.free y m l q o)

  clear_word : (y : ℕ) → x ≤ y → y < x + words_for n → y ≢ x → y ≢ x + 1 → word t y ≡ 0
  clear_word y l q a d = header.same y a d ∙ place.zero y l q

  owner_old : (m y : ℕ) → owner y ≡ Of m → owner' y ≡ Of m
  owner_old m y o = range-keeps owner x (x + words_for n) (Of new) (Of m) y o (λ l q. absurd (place.free y m l q o))

  old_owner : (m y : ℕ) → m ≢ new → owner' y ≡ Of m → owner y ≡ Of m
  old_owner m y d o = elim (cases_lt y x) [
    | inl l ↦ sym (range-below owner x (x + words_for n) (Of new) y l) ∙ o
    | inr l ↦ elim (cases_lt y (x + words_for n)) [
      | inl q ↦ absurd (d (let u : Of new ≡ Of m = sym (range-in owner x (x + words_for n) (Of new) y l q) ∙ o in cc))
      | inr q ↦ sym (range-above owner x (x + words_for n) (Of new) y q) ∙ o
    ]
  ]

  own : (m y : ℕ) → b.stands m ≡ true → b.address m ≤ y → y < b.address m + words_for (g.size m) → owner y ≡ Of m
  own = heap.laid.objects.owns

  headed_old : (m : ℕ) → b.stands m ≡ true → IsHeaded (word s) g b m → IsHeaded (word t) h c m
  headed_old m q d = (
    ap (word t) (at_old m q) ∙ same_of m (b.address m) (own m (b.address m) q (le_refl _) (omega arith)) ∙ d.0 ∙ sym (ap plain_word (class_old m q)),
    ap (λ a. word t (a + 1)) (at_old m q) ∙ same_of m (b.address m + 1) (own m (b.address m + 1) q (omega arith) (omega arith)) ∙ d.1 ∙ sym (size_old m q),
  )

  known_old : (m : ℕ) → IsKnown (word s) g b m → IsKnown (word t) h c m
  known_old m q = (stands_old m q.0, elim q.1 [ inl z ↦ inl z | inr d ↦ inr (headed_old m q.0 d) ])

  entry_old : (e : Entry) → IsKnownEntry (word s) g b e → IsKnownEntry (word t) h c e
  entry_old (Ref m) q = known_old m q
  entry_old (Int v) q = tt
  entry_old (Inner m offset) q = known_old m q

  word_old : (e : Entry) → IsKnownEntry (word s) g b e → word_of c.address e ≡ word_of b.address e
  word_old (Ref m) q = ap byte_at (at_old m q.0)
  word_old (Int v) q = refl
  word_old (Inner m offset) q = ap (λ a. byte_at a + offset) (at_old m q.0)

  nil_stands : b.stands 0 ≡ true
  nil_stands = heap.laid.nothing.stands_nil

  nil_known : IsKnown (word t) h c 0
  nil_known = (stands_old 0 nil_stands, inl refl)

  word_empty : (sort : Bool) → 0 ≡ word_of c.address (cond sort (Ref 0) (Int 0))
  word_empty sort = empty_cond (λ e. 0 ≡ word_of c.address e) sort (let u = at_old 0 nil_stands in let v = heap.laid.nothing.at_nil in omega arith) refl

  at_new : (m : ℕ) → m ≡ new → c.address m ≡ x
  at_new m e = put-at b.address new x m e

  size_new : (m : ℕ) → m ≡ new → h.size m ≡ n
  size_new m e = put-at g.size new n m e

  class_new : (m : ℕ) → m ≡ new → h.class m ≡ class
  class_new m e = put-at g.class new class m e

  nothing' : Nothing c.stands c.address h.size
  nothing' = record {
    stands_nil = stands_old 0 nil_stands;
    at_nil = at_old 0 nil_stands ∙ heap.laid.nothing.at_nil;
    no_size = size_old 0 nil_stands ∙ heap.laid.nothing.no_size;
  }

  sized_as : (m e u : ℕ) → h.class m ≡ e → h.size m ≡ u → IsSizeOf p e u → IsSizeOf p (h.class m) (h.size m)
  sized_as m e u a d i = subst (λ z. IsSizeOf p z (h.size m)) (sym a) (subst (λ z. IsSizeOf p e z) (sym d) i)

  sized_at : (m : ℕ) → m ≡ new → IsSizeOf p (h.class m) (h.size m)
  sized_at m e = sized_as m class n (class_new m e) (size_new m e) sized

  objects' : Objects p h.count h.class h.size c.stands c.address c.section owner'
  objects' = record {
    given = λ m q. elim (old_or_new m q) [ inl e ↦ omega arith | inr o ↦ (let l = heap.laid.objects.given m o in omega arith) ];
    shaped = λ m l q. elim (old_or_new m q) [
      | inl e ↦ (subst (λ z. z < length p.classes) (sym (class_new m e)) known, sized_at m e)
      | inr o ↦ let i = heap.laid.objects.shaped m l o in
          (subst (λ z. z < length p.classes) (sym (class_old m o)) i.0, sized_as m (g.class m) (g.size m) (class_old m o) (size_old m o) i.1)
    ];
    owns = λ m y q i d. elim (old_or_new m q) [
      | inl e ↦ let u = at_new m e in let v = size_new m e in range-in owner x (x + words_for n) (Of new) y (omega arith) (omega arith) ∙ ap Of (sym e)
      | inr o ↦ let u = at_old m o in let v = size_old m o in owner_old m y (own m y o (omega arith) (omega arith))
    ];
    owned = λ m y o. elim (cases_eq m new) [
      | inl e ↦ new_owned m y e o
      | inr d ↦ let i = heap.laid.objects.owned m y (old_owner m y d o) in let u = at_old m i.0 in let v = size_old m i.0 in
          (stands_old m i.0, (let w = i.1 in omega arith), (let w = i.2 in omega arith))
    ];
    inside = λ m l q. elim (old_or_new m q) [
      | inl e ↦ let u = at_new m e in let v = size_new m e in let q = put-at b.section new section m e in elim place.inside [
        | inl i ↦ inl (q ∙ i.0, (let w = i.1 in omega arith), (let w = i.2 in omega arith))
        | inr i ↦ inr (q ∙ i.0, (let w = i.1 in omega arith), (let w = i.2 in omega arith))
      ]
      | inr o ↦ let u = at_old m o in let v = size_old m o in elim (heap.laid.objects.inside m l o) [
        | inl i ↦ inl (section_old m o ∙ i.0, (let w = i.1 in omega arith), (let w = i.2 in omega arith))
        | inr i ↦ inr (section_old m o ∙ i.0, (let w = i.1 in omega arith), (let w = i.2 in omega arith))
      ]
    ];
  }
    where
      new_owned : (m y : ℕ) → m ≡ new → owner' y ≡ Of m → (c.stands m ≡ true) × (c.address m ≤ y) × (y < c.address m + words_for (h.size m))
      new_owned m y e o =
          let u = at_new m e in let v = size_new m e in
          let below : y < x → ⊥ = λ l. let i = heap.laid.objects.owned m y (sym (range-below owner x (x + words_for n) (Of new) y l) ∙ o) in not_new m i.0 e in
          let above : x + words_for n ≤ y → ⊥ = λ l. let i =
          heap.laid.objects.owned m y (sym (range-above owner x (x + words_for n) (Of new) y l) ∙ o) in not_new m i.0 e in
          elim (cases_lt y x) [
            | inl l ↦ absurd (below l)
            | inr l ↦ elim (cases_lt y (x + words_for n)) [
              | inl q ↦ (put-at b.stands new true m e, (omega arith), (omega arith))
              | inr q ↦ absurd (above q)
            ]
          ]

  fields' : Fields p (word t) h c
  fields' = record {
    holds = λ m i q d. elim (old_or_new m q) [
      | inl e ↦ let u = at_new m e in let v = size_new m e in
          clear_word (c.address m + 2 + i) (omega arith) (omega arith) (λ z. absurd (omega arith)) (λ z. absurd (omega arith))
          ∙ word_empty (holds_reference (kind_of p class) i n) ∙ sym (ap (word_of c.address) (field_new m i e))
      | inr o ↦ let u = at_old m o in let v = size_old m o in
          ap (λ a. word t (a + 2 + i)) u ∙ same_of m (b.address m + 2 + i) (own m (b.address m + 2 + i) o (omega arith) (omega arith))
          ∙ heap.laid.fields.holds m i o (omega arith)
          ∙ sym (ap (word_of c.address) (field_old m i o) ∙ word_old (g.field m i) (heap.laid.fields.known m i o (omega arith)))
    ];
    known = λ m i q d. elim (old_or_new m q) [
      | inl e ↦ subst (λ u. IsKnownEntry (word t) h c u) (sym (field_new m i e))
          (empty_cond (λ u. IsKnownEntry (word t) h c u) (holds_reference (kind_of p class) i n) nil_known tt)
      | inr o ↦ let v = size_old m o in subst (λ u. IsKnownEntry (word t) h c u) (sym (field_old m i o))
          (entry_old (g.field m i) (heap.laid.fields.known m i o (omega arith)))
    ];
    sorted = λ m i q d. elim (old_or_new m q) [
      | inl e ↦ subst (λ z. IsOfSort (holds_reference (kind_of p z) i (h.size m)) (h.field m i)) (sym (class_new m e))
          (subst (λ z. IsOfSort (holds_reference (kind_of p class) i z) (h.field m i)) (sym (size_new m e))
          (subst (λ z. IsOfSort (holds_reference (kind_of p class) i n) z) (sym (field_new m i e)) (of_sort_empty (holds_reference (kind_of p class) i n))))
      | inr o ↦ let v = size_old m o in subst (λ z. IsOfSort (holds_reference (kind_of p z) i (h.size m)) (h.field m i)) (sym (class_old m o))
          (subst (λ z. IsOfSort (holds_reference (kind_of p (g.class m)) i z) (h.field m i)) (sym v)
          (subst (λ z. IsOfSort (holds_reference (kind_of p (g.class m)) i (g.size m)) z) (sym (field_old m i o))
          (heap.laid.fields.sorted m i o (omega arith))))
    ];
  }

  -- the place ends in the major heap, or before it
  ends : x + words_for n ≤ old_end p
  ends = elim place.inside [
    | inl i ↦ let u = i.2 in omega arith
    | inr i ↦ i.2
  ]

  behind : (y : ℕ) → old_end p ≤ y → word t y ≡ word s y
  behind y l = same_word y (λ from to. let u = ends in absurd (omega arith))

  globals' : Globals p (word t) h c
  globals' = record {
    holds = λ y l. behind (globals_base (layout_of p) + y) (omega arith) ∙ heap.laid.globals.holds y l
        ∙ sym (ap byte_at (at_old (g.global y) (heap.laid.globals.known y l).0));
    known = λ y l. known_old (g.global y) (heap.laid.globals.known y l);
    empty = λ y l q. behind y (omega arith) ∙ heap.laid.globals.empty y l q;
  }

  clear' : Clear p (word t) owner'
  clear' = record {
    large = λ y l q. behind y (omega arith) ∙ heap.laid.clear.large y l q;
    clear = λ y l q none.
        let out : x ≤ y → y < x + words_for n → ⊥ = λ i d. none new (range-in owner x (x + words_for n) (Of new) y i d) in
        same_word y out ∙ heap.laid.clear.clear y l q (λ m o. none m (owner_old m y o));
  }

  fragments' : Fragments p c.fragments c.next c.limit owner'
  fragments' = record {
    owns = λ i y l from to. let r = place.rises i in let o = heap.laid.fragments.owns i y l (omega arith) to in
        range-keeps owner x (x + words_for n) (Of new) (Frag i) y o (λ u v. absurd (place.fragments i y l from to u v));
    inside = λ i l. let o = heap.laid.fragments.inside i l in let r = place.rises i in ((let u = o.0 in omega arith), place.within i l, o.2);
    ordered = λ i y l q. let r = place.rises y in let o = heap.laid.fragments.ordered i y l q in omega arith;
  }

  buffers' : Buffers p c.from c.to owner'
  buffers' = record {
    owns = λ i y from to. range-keeps owner x (x + words_for n) (Of new) (Buf i) y (heap.laid.buffers.owns i y from to)
        (λ u v. absurd (place.buffers i y from to u v));
    inside = heap.laid.buffers.inside;
  }

  headed' : (m : ℕ) → 1 ≤ m → c.stands m ≡ true → IsHeaded (word t) h c m
  headed' m l q = elim (old_or_new m q) [
    | inl e ↦ (
      ap (word t) (at_new m e) ∙ header.tag ∙ sym (ap plain_word (class_new m e)),
      ap (λ a. word t (a + 1)) (at_new m e) ∙ header.length_is
          ∙ sym (size_new m e),
    )
    | inr o ↦ headed_old m o (heap.headed m l o)
  ]

  heap' : IsHeap p (word t) h c owner'
  heap' = record {
    laid = record {
      nothing = nothing';
      objects = objects';
      fields = fields';
      globals = globals';
      clear = clear';
      fragments = fragments';
      buffers = buffers';
    };
    headed = headed';
  }

  stands_new : c.stands new ≡ true
  stands_new = put-same b.stands new true

  section_new : c.section new ≡ section
  section_new = put-same b.section new section

  -- a young object to which an old one refers stood before
  cards' : AreCarded p (words_of s).card h c
  cards' = record {
    dirty = λ m i r l q old below strong refers some young. elim (old_or_new m q) [
      | inl e ↦ absurd (empty_none (holds_reference (kind_of p class) i n) r (sym (field_new m i e) ∙ refers) some)
      | inr o ↦
          let size = size_old m o in
          let within : i < g.size m = omega arith in
          let ref : g.field m i ≡ Ref r = sym (field_old m i o) ∙ refers in
          let there : IsKnownEntry (word s) g b (Ref r) = subst (IsKnownEntry (word s) g b) ref (heap.laid.fields.known m i o within) in
          let before : is_strong (kind_of p (g.class m)) i (g.size m) ≡ true =
          sym (λ j. is_strong (kind_of p (class_old m o j)) i (size_old m o j)) ∙ strong in
          ap (λ a. (words_of s).card (card_of (layout_of p) (a + 2 + i))) (at_old m o)
          ∙ settled.cards.dirty m i r l o (sym (section_old m o) ∙ old) within before ref some (sym (section_old r there.0) ∙ young)
    ];
  }

  -- at the front of a fragment, whose next word is the one behind the object
  module _ (young : section ≡ Young) (still : t ≡ record s { words = t.words; next = t.next }) (nexts : length t.next ≡ length s.next)
      (next_is : (i : ℕ) → i < b.fragments → slice_index t.next i ≡ byte_at (next i)) where
    abbrev u : Contents
    u = record s { words = t.words; next = t.next }

    not_old : (m : ℕ) → m ≡ new → c.section m ≡ Old → ⊥
    not_old m e old = let q : Young ≡ Old = sym young ∙ (sym (put-at b.section new section m e) ∙ old) in cc q

    -- an old object is where it was
    old_at : (m y z : ℕ) → IsOldAt g.size b.stands b.address b.section m y z → IsOldAt h.size c.stands c.address c.section m y z
    old_at m y z o = record {
      some = o.some;
      standing = stands_old m o.standing;
      old = section_old m o.standing ∙ o.old;
      at = at_old m o.standing ∙ o.at;
      sized = ap slot_words (size_old m o.standing) ∙ o.sized;
    }

    taken_old : (m j : ℕ) → b.stands m ≡ true → IsTakenAt p (marks_in s j) (b.address m) (slot_words (g.size m)) j (block_in s j) (used_in s j) →
        IsTakenAt p (marks_in s j) (c.address m) (slot_words (h.size m)) j (block_in s j) (used_in s j)
    taken_old m j o i = subst (λ a. IsTakenAt p (marks_in s j) a (slot_words (h.size m)) j (block_in s j) (used_in s j)) (sym (at_old m o))
        (subst (λ z. IsTakenAt p (marks_in s j) (b.address m) (slot_words z) j (block_in s j) (used_in s j)) (sym (size_old m o)) i)

    in_nursery : x + words_for n ≤ nursery_end p
    in_nursery = elim place.inside [
      | inl i ↦ i.2
      | inr i ↦ absurd (let q : Young ≡ Old = sym young ∙ i.0 in cc q)
    ]

    blocks_young : AreBlocks p (words_of s).marks (words_of s).block (words_of s).used (word t) h.size c.stands c.address c.section c.owed owner'
    blocks_young = record {
      placed = λ m l q old. elim (old_or_new m q) [
        | inl e ↦ absurd (not_old m e old)
        | inr o ↦ let i = settled.blocks.placed m l o (sym (section_old m o) ∙ old) in (i.0, i.1, taken_old m i.0 o i.2)
      ];
      each = λ j l. let e = settled.blocks.each j l in record {
        filled = λ z i of fits bit. let f = e.filled z i of fits bit in (f.0, old_at f.0 (slot_at p j z i) z f.1);
        bare = e.bare;
        owing = e.owing;
        kept = e.kept;
        unmarked = e.unmarked;
        within = e.within;
      };
      clear = λ j l y from to none waste. same_word y (λ above below. let r = in_nursery in absurd (omega arith))
          ∙ settled.blocks.clear j l y from to (λ m o. none m (owner_old m y o)) waste;
      sized = settled.blocks.sized;
    }

    settled_young : AreSettled p (words_of u) h c owner'
    settled_young = record {
      blocks = blocks_young;
      settled = settled.settled;
      inhabited = λ j z l e. let i = settled.inhabited j z l e in
          let at = at_old i.0 i.2 in let from = i.3 in let to = i.4 in (i.0, i.1, stands_old i.0 i.2, omega arith, omega arith);
      owes = settled.owes;
      cards = cards';
    }

    space_young : IsSpaceOf p u c
    space_young = record {
      layout = sp.layout;
      shapes = sp.shapes;
      fragments = sp.fragments;
      same = nexts ∙ sp.same;
      next = next_is;
      limit = sp.limit;
      fits = sp.fits;
      pages = sp.pages;
      head = sp.head;
      made = sp.made;
      registered = sp.registered;
      pairs = sp.pairs;
    }

    -- the space holds the graph with the new object
    pub holds_young : HoldsHeap p t h c
    holds_young = subst (λ v. HoldsHeap p v h c) (sym still) (space_young, (owner', heap', settled_young))

  -- in a slot, which is occupied now
  module _ (laws : BlocksGo) (old : section ≡ Old) (unowed : OwesNothing p b) (j i : ℕ) (there : j < p.config.blocks) (fits : i < slots (slot_words n))
      (at : x ≡ slot_at p j (slot_words n) i) (state : (block_in s j ≡ Free) ⊎ (block_in s j ≡ Swept (slot_words n))) (clear : bit_at (used_in s j) i ≡ 0)
      (next_same : (f : ℕ) → next f ≡ b.next f) (gets : HasOccupied s j (slot_words n) i t) where
    abbrev z : ℕ
    z = slot_words n

    abbrev v : Contents
    v = record s { words = t.words; blocks = t.blocks; used = t.used }

    abbrev block' : ℕ → BlockWord
    block' = put (block_in s) j (Swept z)

    abbrev used' : ℕ → ℕ
    used' = put (used_in s) j (bit_or (used_in s j) (2 ^ i))

    was_swept : block_in s j ≡ Swept z → (c : ℕ) → block_in s c ≡ block' c
    was_swept swept = put-all (λ (c : ℕ) (w : BlockWord). block_in s c ≡ w) (block_in s) j (Swept z) swept (λ c d. refl)

    -- the block has slots of the object's size
    opened : AreBlocks p (marks_in s) block' (used_in s) (word s) g.size b.stands b.address b.section b.owed owner
    opened = elim state [
      | inl free ↦ laws.block_opens p (marks_in s) (used_in s) (word s) g.size b.address (block_in s) b.stands b.owed b.section owner j z settled.blocks free
          (slot_size-class (words_for n))
      | inr swept ↦ subst (λ (f : ℕ → BlockWord). AreBlocks p (marks_in s) f (used_in s) (word s) g.size b.stands b.address b.section b.owed owner)
          (λ q c. was_swept swept c q) settled.blocks
    ]

    is_now : IsOldNow g.size h.size b.stands c.stands b.address c.address b.section c.section new (slot_at p j z i) z
    is_now = record {
      here = record {
        some = omega arith;
        standing = stands_new;
        old = section_new ∙ old;
        at = at_new new refl ∙ at;
        sized = ap slot_words (size_new new refl);
      };
      new = λ q o. not_new new q refl;
      others = λ m d o. record {
        same_size = put-other g.size new n m d;
        same_stands = put-other b.stands new true m d;
        same_address = put-other b.address new x m d;
        same_section = put-other b.section new section m d;
      };
    }

    keeps_rest : KeepsRest p (word s) (word t) owner owner'
    keeps_rest d y l from to none = (
      same_word y (λ above below. none new (range-in owner x (x + words_for n) (Of new) y above below)),
      λ m o. none m (owner_old m y o),
    )

    got : AreBlocks p (marks_in s) block' used' (word t) h.size c.stands c.address c.section b.owed owner'
    got = laws.slot_gets p (marks_in s) (used_in s) (word s) (word t) g.size h.size b.address c.address block' b.stands c.stands b.owed b.section c.section
        owner owner' new j z i opened there (put-same (block_in s) j (Swept z)) fits clear is_now keeps_rest

    blocks_old : AreBlocks p (marks_in s) (block_in t) (used_in t) (word t) h.size c.stands c.address c.section b.owed owner'
    blocks_old = subst (λ (f : ℕ → BlockWord). AreBlocks p (marks_in s) f (used_in t) (word t) h.size c.stands c.address c.section b.owed owner')
        (λ q d. sym (gets.block d) q)
        (subst (λ (f : ℕ → ℕ). AreBlocks p (marks_in s) block' f (word t) h.size c.stands c.address c.section b.owed owner') (λ q d. sym (gets.used d) q) got)

    never_sweeping : (y d : ℕ) → d < p.config.blocks → block' d ≡ Sweeping y → ⊥
    never_sweeping y = put-all (λ (d : ℕ) (w : BlockWord). d < p.config.blocks → w ≡ Sweeping y → ⊥) (block_in s) j (Swept z)
        (λ l e. not_sweeping z y e) (λ d other l e. settled.settled d y l e)

    -- an object stands in each swept block: in this one it is the new one
    lives : (y d : ℕ) → d < p.config.blocks → block' d ≡ Swept y → (m : ℕ) × (1 ≤ m) × (c.stands m ≡ true) × (block_at p d ≤ c.address m) ×
        (c.address m < block_at p d + 256)
    lives y = put-all (λ (d : ℕ) (w : BlockWord). d < p.config.blocks → w ≡ Swept y → (m : ℕ) × (1 ≤ m) × (c.stands m ≡ true) × (block_at p d ≤ c.address m) ×
        (c.address m < block_at p d + 256)) (block_in s) j (Swept z)
        (λ l e. let front = at_new new refl ∙ at in let fit = slot_fits z i fits in let some = (class_bounds z (slot_size-class (words_for n))).0 in
        (new, omega arith, stands_new, omega arith, omega arith))
        (λ d other l e. let i = settled.inhabited d y l e in
        let here = at_old i.0 i.2 in let from = i.3 in let to = i.4 in (i.0, i.1, stands_old i.0 i.2, omega arith, omega arith))

    settled_old : AreSettled p (words_of v) h c owner'
    settled_old = record {
      blocks = blocks_old;
      settled = λ d y l e. never_sweeping y d l (sym (gets.block d) ∙ e);
      inhabited = λ d y l e. lives y d l (sym (gets.block d) ∙ e);
      owes = λ d l e. absurd (let q : false ≡ true = sym (unowed d l) ∙ e in cc q);
      cards = cards';
    }

    -- where block j had a size, it was this one, and its occupancy has one bit more
    fits_old : (y k d : ℕ) → d < p.config.blocks → block' d ≡ Swept y → bit_at (used' d) k ≡ 1 → k < slots y
    fits_old y k d l e q = elim (cases_eq d j) [
      | inr other ↦ sp.fits d y k l (sym (put-other (block_in s) j (Swept z) d other) ∙ e)
          (ap (λ w. bit_at w k) (sym (put-other (used_in s) j (bit_or (used_in s j) (2 ^ i)) d other)) ∙ q)
      | inl here ↦
          let size : z ≡ y = swept_once z y (sym (put-at (block_in s) j (Swept z) d here) ∙ e) in
          let set : bit_at (bit_or (used_in s j) (2 ^ i)) k ≡ 1 = ap (λ w. bit_at w k) (sym (put-at (used_in s) j (bit_or (used_in s j) (2 ^ i)) d here)) ∙ q in
          subst (λ (w : ℕ). k < slots w) size (elim (cases_eq k i) [
            | inl e ↦ subst (λ (w : ℕ). w < slots z) (sym e) fits
            | inr d ↦ let was : bit_at (used_in s j) k ≡ 1 = sym (bit_same (used_in s j) i k d) ∙ set in elim state [
              | inl free ↦ absurd (let bare = ap (λ w. bit_at w k) ((settled.blocks.each j there).bare free) in let none = bit_at-zero k in omega arith)
              | inr swept ↦ sp.fits j z k there swept was
            ]
          ])
    ]

    space_old : IsSpaceOf p v c
    space_old = record {
      layout = sp.layout;
      shapes = sp.shapes;
      fragments = sp.fragments;
      same = sp.same;
      next = λ f l. sp.next f l ∙ ap byte_at (sym (next_same f));
      limit = sp.limit;
      fits = λ d y k l e q. fits_old y k d l (sym (gets.block d) ∙ e) (ap (λ w. bit_at w k) (sym (gets.used d)) ∙ q);
      pages = sp.pages;
      head = sp.head;
      made = sp.made;
      registered = sp.registered;
      pairs = sp.pairs;
    }

    -- the space holds the graph with the new object
    pub holds_old : HoldsHeap p t h c
    holds_old = subst (λ w. HoldsHeap p w h c) (sym gets.still) (space_old, (owner', heap', settled_old))
