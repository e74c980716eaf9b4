-- A space that holds a graph by a book is sound by the first words of the standing objects.
use Rattle.std.proofs.Common.{◌≡◌, ◌≢◌, ℕ, zero, suc, ◌+◌, ◌*◌, ◌-◌, ◌/◌, ◌<◌, ◌≤◌, ◌⊎◌, inl, inr, List, [], ◌∷◌, map, length, Some, None, true, false, refl, sym, ap, ◌∙◌, subst, arith, slice_get}
use Rattle.std.specs.Int.{bit_at}
use Rattle.std.proofs.lemmas.Bool.{cases_eq, cases_lt}
use Rattle.std.proofs.lemmas.Nat.Bits.{bit_at-zero}
use Rattle.std.proofs.lemmas.List.{length-map}
use Rattle.sg_words.specs.Tags.{plain_word}
use Rattle.sg_words.specs.Blocks.{IsOf, IsOwing, is_taken, slots, slot_base}
use Rattle.sg_words.specs.Sections.{globals_base}
use Rattle.sg_words.specs.declared.steps.BlockWord.{BlockWord}
use Rattle.sg_words.specs.declared.steps.BlockWord.TheVariants.{Free, Swept, Need, Sweeping}
use Rattle.sg_program.specs.declared.program.Class.{Class}
use Rattle.sg_program.specs.declared.program.Program.{Program}
use Rattle.sg_desc.specs.declared.shapes.Shape.{Shape}
use Rattle.sg_desc.specs.Shapes.{is_vector}
use Rattle.sg_program.specs.Scripts.{shape_at, shape_of, kind_of, fields_of}
use Rattle.sg_graph.specs.Graph.{Graph}
use Rattle.sg_graph.specs.Book.{Book, Young, Old, nursery_end, old_end}
use Rattle.sg_graph.specs.Blocks.{IsDirty, AreSettled}
use Rattle.sg_graph.specs.Heap.{Owner, Of, IsHeap}
use Rattle.sg_space.specs.Space.{Contents, IsContents, words_of}
use Rattle.sg_space.specs.Standing.{word, block_in, used_in, marks_in, size_at, IsObject, IsInSlot, IsPlaced, IsSoundBlock, IsGarbage, IsSoundBy}
use Rattle.sg_heap.specs.Fronts.{front_of, fronts}
use Rattle.sg_heap.specs.Holding.{IsSpaceOf}
use Rattle.sg_heap.proofs.Names.{of-same, front_named, named_front, unnamed_front, fragment_is}

shape_there : (cs : List Class) (c : ℕ) → c < length cs → slice_get (map (λ (class : Class). class.shape) cs) c ≡ Some (shape_at (slice_get cs c))
shape_there [] c l = absurd (omega arith)
shape_there (x ∷ cs) zero l = refl
shape_there (x ∷ cs) (suc c) l = shape_there cs c (omega arith)

same_section : Old ≡ Young → ⊥
same_section e = let z = e in cc

module _ (p : Program) (s : Contents) (g : Graph) (b : Book) (is : IsSpaceOf p s b) (owner : ℕ → Owner) (heap : IsHeap p (word s) g b owner)
    (contents : IsContents s) where
  pub nursery_is : s.layout.nursery ≡ p.config.nursery
  nursery_is = ap (λ l. l.nursery) is.layout

  pub blocks_is : s.layout.blocks ≡ p.config.blocks
  blocks_is = ap (λ l. l.blocks) is.layout

  -- an object is headed, and its words are its own
  pub length_is : (n : ℕ) → n ≢ 0 → b.stands n ≡ true → word s (b.address n + 1) ≡ g.size n
  length_is n some stands = (heap.headed n (omega (arith, some)) stands).1

  pub class_is : (n : ℕ) → n ≢ 0 → b.stands n ≡ true → word s (b.address n) ≡ plain_word (g.class n)
  class_is n some stands = (heap.headed n (omega (arith, some)) stands).0

  pub owns : (n x : ℕ) → b.stands n ≡ true → b.address n ≤ x → x < b.address n + (g.size n + 2) → owner x ≡ Of n
  owns n x stands from to = heap.laid.objects.owns n x stands from to

  pub owned : (n x : ℕ) → owner x ≡ Of n → (b.stands n ≡ true) × (b.address n ≤ x) × (x < b.address n + (g.size n + 2))
  owned n x e = heap.laid.objects.owned n x e

  pub owns_first : (n : ℕ) → b.stands n ≡ true → owner (b.address n) ≡ Of n
  owns_first n stands = owns n (b.address n) stands (omega arith) (omega arith)

  -- a word of two objects
  pub one_owner : (m n x : ℕ) → owner x ≡ Of m → owner x ≡ Of n → m ≡ n
  one_owner m n x e f = of-same m n (sym e ∙ f)

  pub known_class : (n : ℕ) → n ≢ 0 → b.stands n ≡ true → g.class n < length s.shapes
  known_class n some stands =
      let known = (heap.laid.objects.shaped n (omega (arith, some)) stands).0 in
      let lengths = length-map p.classes (λ (class : Class). class.shape) in
      let same = ap length is.shapes in
      omega arith

  pub shape_is : (n : ℕ) → n ≢ 0 → b.stands n ≡ true → slice_get s.shapes (g.class n) ≡ Some (shape_of p (g.class n))
  shape_is n some stands = ap (λ (l : List Shape). slice_get l (g.class n)) is.shapes ∙ shape_there p.classes (g.class n)
      (heap.laid.objects.shaped n (omega (arith, some)) stands).0

  pub size_is : (n : ℕ) → n ≢ 0 → b.stands n ≡ true → is_vector (kind_of p (g.class n)) ≡ false → g.size n ≡ fields_of p (g.class n)
  size_is n some stands = (heap.laid.objects.shaped n (omega (arith, some)) stands).1.1

  pub few_fields : (n : ℕ) → n ≢ 0 → b.stands n ≡ true → g.size n ≤ 62
  few_fields n some stands = (heap.laid.objects.shaped n (omega (arith, some)) stands).1.0

  pub few_classes : (n : ℕ) → n ≢ 0 → b.stands n ≡ true → g.class n < 256
  few_classes n some stands = let known = known_class n some stands in let few = contents.shapes.classes in omega arith

  pub inside : (n : ℕ) → n ≢ 0 → b.stands n ≡ true →
      ((b.section n ≡ Young) × (512 ≤ b.address n) × (b.address n + (g.size n + 2) ≤ nursery_end p))
      ⊎ ((b.section n ≡ Old) × (nursery_end p ≤ b.address n) × (b.address n + (g.size n + 2) ≤ old_end p))
  inside n some stands = heap.laid.objects.inside n (omega (arith, some)) stands

  -- a young object lies in the nursery, and an old one in the major heap
  pub young_inside : (n : ℕ) → n ≢ 0 → b.stands n ≡ true → b.section n ≡ Young → (512 ≤ b.address n) × (b.address n + (g.size n + 2) ≤ nursery_end p)
  young_inside n some stands young = elim (inside n some stands) [
    | inl in_nursery ↦ (in_nursery.1, in_nursery.2)
    | inr in_heap ↦ absurd (same_section (sym in_heap.0 ∙ young))
  ]

  pub old_inside : (n : ℕ) → n ≢ 0 → b.stands n ≡ true → b.section n ≡ Old → (nursery_end p ≤ b.address n) × (b.address n + (g.size n + 2) ≤ old_end p)
  old_inside n some stands old = elim (inside n some stands) [
    | inl in_nursery ↦ absurd (same_section (sym old ∙ in_nursery.0))
    | inr in_heap ↦ (in_heap.1, in_heap.2)
  ]

  pub young_there : (n : ℕ) → n ≢ 0 → b.stands n ≡ true → b.address n < nursery_end p → b.section n ≡ Young
  young_there n some stands below = elim (inside n some stands) [
    | inl in_nursery ↦ in_nursery.0
    | inr in_heap ↦ let from = in_heap.1 in absurd (omega arith)
  ]

  pub old_there : (n : ℕ) → n ≢ 0 → b.stands n ≡ true → nursery_end p ≤ b.address n → b.section n ≡ Old
  old_there n some stands above = elim (inside n some stands) [
    | inl in_nursery ↦ let to = in_nursery.2 in absurd (omega arith)
    | inr in_heap ↦ in_heap.0
  ]

  pub is_owned : (n x : ℕ) → n ≢ 0 → owner x ≡ Of n → fronts b.address owner x ≡ Some (b.address n)
  is_owned n x some e = ap (front_of b.address) e ∙ front_named b.address n some

  owned_at : (n x : ℕ) → n ≢ 0 → owner x ≡ Of n → (b.address n ≤ x) × (x < b.address n + size_at s (b.address n)) ×
      (fronts b.address owner (b.address n) ≡ Some (b.address n))
  owned_at n x some e =
      let o = owned n x e in
      let size = length_is n some o.0 in
      let to = o.2 in
      (o.1, omega arith, is_owned n (b.address n) some (owns_first n o.0))

  pub object_at : (n : ℕ) → n ≢ 0 → b.stands n ≡ true → IsObject s (b.address n)
  object_at n some stands = record {
    class = g.class n;
    shape = shape_of p (g.class n);
    shape_is = shape_is n some stands;
    tag = class_is n some stands;
    size = λ v. length_is n some stands ∙ size_is n some stands v;
  }

  taken_fits : (state : BlockWord) (used marks z i : ℕ) → (state ≡ Swept z → bit_at used i ≡ 1 → i < slots z) →
      (IsOwing state z → bit_at marks i ≡ 1 → i < slots z) → IsOf state z → is_taken state used marks i ≡ 1 → i < slots z
  taken_fits Free used marks z i fits kept h e = absurd h
  taken_fits (Swept y) used marks z i fits kept h e = fits (ap Swept h) e
  taken_fits (Need y) used marks z i fits kept h e = kept h e
  taken_fits (Sweeping y) used marks z i fits kept h e = kept h e

  -- marks are on occupied slots
  marks_used : (state : BlockWord) (used marks i : ℕ) → (state ≡ Free → marks ≡ 0) → ((z : ℕ) → state ≡ Swept z → bit_at marks i ≡ 1 → bit_at used i ≡ 1) →
      ((z : ℕ) → IsOwing state z → bit_at marks i ≡ 1 → bit_at used i ≡ 1) → bit_at marks i ≡ 1 → bit_at used i ≡ 1
  marks_used Free used marks i bare within kept e = absurd (let k = ap (λ m. bit_at m i) (bare refl) ∙ bit_at-zero i in omega arith)
  marks_used (Swept y) used marks i bare within kept e = within y refl e
  marks_used (Need y) used marks i bare within kept e = kept y refl e
  marks_used (Sweeping y) used marks i bare within kept e = kept y refl e

  module _ (settled : AreSettled p (words_of s) g b owner) where
    pub in_slot : (n : ℕ) → n ≢ 0 → b.stands n ≡ true → b.section n ≡ Old → IsInSlot s (b.address n)
    in_slot n some stands old =
        let q = settled.blocks.placed n (omega (arith, some)) stands old in
        let size : size_at s (b.address n) ≡ g.size n + 2 = ap (λ z. z + 2) (length_is n some stands) in
        let few = few_fields n some stands in
        let nursery = nursery_is in
        let blocks = blocks_is in
        record {
          block = q.0;
          slot = q.2.slot;
          there = let l = q.1 in omega arith;
          sized = rw size q.2.of;
          fits = rw size q.2.fits;
          front = rw size (let e = q.2.address in omega arith);
          taken = q.2.taken;
          small = omega arith;
        }

    pub placed_at : (n : ℕ) → n ≢ 0 → b.stands n ≡ true → IsPlaced s (b.address n)
    placed_at n some stands =
        let size : size_at s (b.address n) ≡ g.size n + 2 = ap (λ z. z + 2) (length_is n some stands) in
        let few = few_fields n some stands in
        let nursery = nursery_is in
        elim (inside n some stands) [
          | inl in_nursery ↦ let from = in_nursery.1 in let to = in_nursery.2 in
              inl (record { above = omega arith; within = omega arith; small = omega arith })
          | inr in_heap ↦ inr (inl (in_slot n some stands in_heap.0))
        ]

    -- in each slot whose bit is set an old object stands
    pub taken_named : (c z i : ℕ) → c < s.layout.blocks → IsOf (block_in s c) z → is_taken (block_in s c) (used_in s c) (marks_in s c) i ≡ 1 →
        (i < slots z) × ((n : ℕ) × (n ≢ 0) × (b.stands n ≡ true) × (b.section n ≡ Old) × (b.address n ≡ slot_base s.layout c z i))
    taken_named c z i there of e =
        let blocks = blocks_is in
        let nursery = nursery_is in
        let block = settled.blocks.each c (omega arith) in
        let fits = taken_fits (block_in s c) (used_in s c) (marks_in s c) z i (is.fits c z i (omega arith)) (λ owing set. (block.kept z i owing set).0) of e in
        let n = block.filled z i of fits e in
        let some = n.1.some in
        let at = n.1.at in
        (fits, (n.0, (λ k. absurd (omega arith)), n.1.standing, n.1.old, omega arith))

    block_sound : (c : ℕ) → c < s.layout.blocks → IsSoundBlock s (fronts b.address owner) c
    block_sound c there =
        let blocks = blocks_is in
        let here : c < p.config.blocks = omega arith in
        let block = settled.blocks.each c here in
        record {
          settled = λ z e. settled.settled c z here e;
          sized = λ z of. settled.blocks.sized c z here of;
          bare = λ e. (block.bare e, block.unmarked e);
          filled = λ z i of e.
              let q = taken_named c z i there of e in
              let n = q.1 in
              let at = n.4 in
              (q.0, ap (fronts b.address owner) (sym at) ∙ is_owned n.0 (b.address n.0) n.1 (owns_first n.0 n.2) ∙ ap Some at);
          marked = λ i e. marks_used (block_in s c) (used_in s c) (marks_in s c) i block.unmarked (λ z state set. block.within z state i set)
              (λ z owing set. (block.kept z i owing set).1) e;
        }

    -- a word that is to be zeroed
    pub garbage : (c x : ℕ) → c < p.config.blocks → IsDirty p (marks_in s c) (block_in s c) c x → IsGarbage s x
    garbage c x there d =
        let nursery = nursery_is in
        let blocks = blocks_is in
        let from = d.from in
        let to = d.to in
        record {
          block = c;
          size = d.size;
          slot = d.slot;
          there = omega arith;
          owing = d.owing;
          fits = d.fits;
          unmarked = d.unmarked;
          from = omega arith;
          to = omega arith;
        }

    -- the block of a word of the major heap
    pub block_of : (x : ℕ) → nursery_end p ≤ x → x < old_end p → (c : ℕ) × (c < p.config.blocks) × (nursery_end p + 256 * c ≤ x) ×
        (x < nursery_end p + 256 * c + 256)
    block_of x from to = ((x - nursery_end p) / 256, omega arith, omega arith, omega arith)

    unnamed : (x n : ℕ) → fronts b.address owner x ≡ None → nursery_end p ≤ x → owner x ≢ Of n
    unnamed x n none above e = elim (cases_eq n 0) [
      | inl z ↦ let o = owned n x e in let end = o.2 in let at = ap b.address z ∙ heap.laid.nothing.at_nil in let size = ap g.size z ∙
          heap.laid.nothing.no_size in absurd (omega arith)
      | inr some ↦ unnamed_front b.address (owner x) none n some e
    ]

    clear_word : (x : ℕ) → fronts b.address owner x ≡ None → 512 ≤ x → x < globals_base s.layout → (IsGarbage s x → ⊥) → word s x ≡ 0
    clear_word x none from to clean =
        let nursery = nursery_is in
        let blocks = blocks_is in
        let pages : s.layout.pages ≡ p.config.pages = ap (λ l. l.pages) is.layout in
        elim (cases_lt x (nursery_end p)) [
          | inl young ↦ heap.laid.clear.clear x from young (λ n e. elim (cases_eq n 0) [
            | inl z ↦ let o = owned n x e in let end = o.2 in let at = ap b.address z ∙ heap.laid.nothing.at_nil in let size = ap g.size z ∙
                heap.laid.nothing.no_size in absurd (omega arith)
            | inr some ↦ unnamed_front b.address (owner x) none n some e
          ])
          | inr above ↦ elim (cases_lt x (old_end p)) [
            | inl old ↦
                let q = block_of x above old in
                settled.blocks.clear q.0 q.1 x q.2 q.3 (λ n. unnamed x n none above) (λ d. clean (garbage q.0 x q.1 d))
            | inr large ↦ heap.laid.clear.large x large (omega arith)
          ]
        ]

    pub sound_by : IsSoundBy s (fronts b.address owner)
    sound_by = record {
      words = contents.words;
      classes = contents.shapes.classes;
      owned = λ x h e.
          let q = named_front b.address (owner x) h e in
          subst (λ z. (z ≤ x) × (x < z + size_at s z) × (fronts b.address owner z ≡ Some z)) q.3 (owned_at q.0 x q.1 q.2);
      whole = λ h x e from to.
          let q = named_front b.address (owner h) h e in
          let o = owned q.0 h q.2 in
          let at = q.3 in
          let size = length_is q.0 q.1 o.0 in
          let there = ap (word s) (ap (λ z. z + 1) at) in
          is_owned q.0 x q.1 (owns q.0 x o.0 (omega arith) (omega arith)) ∙ ap Some at;
      objects = λ h e.
          let q = named_front b.address (owner h) h e in
          subst (IsObject s) q.3 (object_at q.0 q.1 (owned q.0 h q.2).0);
      places = λ h e.
          let q = named_front b.address (owner h) h e in
          subst (IsPlaced s) q.3 (placed_at q.0 q.1 (owned q.0 h q.2).0);
      blocks = block_sound;
      pages = λ j there. record { named = λ q e. absurd (let none = is.pages j in omega arith) };
      clear = λ x none from to clean. clear_word x none from to clean;
      fragments = contents.fragments;
      ordered = λ f there.
          let n = is.fragments in
          let next = is.next f (omega arith) in
          let limit = is.limit f (omega arith) in
          let place = heap.laid.fragments.inside f (omega arith) in
          let low = place.0 in
          let order = place.1 in
          let high = place.2 in
          let nursery = nursery_is in
          (omega arith, omega arith, omega arith);
      apart = λ f j less there.
          let n = is.fragments in
          let next = is.next j (omega arith) in
          let limit = is.limit f (omega arith) in
          let order = heap.laid.fragments.ordered f j less (omega arith) in
          omega arith;
      addresses = λ f there.
          let n = is.fragments in
          let next = is.next f (omega arith) in
          let limit = is.limit f (omega arith) in
          (omega arith, omega arith);
      free = λ f x there from to.
          let n = is.fragments in
          let next = is.next f (omega arith) in
          let limit = is.limit f (omega arith) in
          let mine = heap.laid.fragments.owns f x (omega arith) (omega arith) (omega arith) in
          ap (front_of b.address) mine ∙ fragment_is b.address f;
    }
