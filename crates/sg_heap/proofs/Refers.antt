-- A space that holds a graph by a book refers soundly.
use Rattle.std.proofs.Common.{◌≡◌, ◌≢◌, ℕ, ◌+◌, ◌<◌, ◌≤◌, inl, inr, Bool, length, Option, Some, true, sym, ap, ◌∙◌, subst, arith, slice_get, le_refl}
use Rattle.std.proofs.lemmas.Bool.{cases_eq}
use Rattle.std.proofs.lemmas.Option.{same_Some}
use Rattle.sg_words.specs.Address.{byte_at}
use Rattle.sg_words.specs.Blocks.{slot_size}
use Rattle.sg_words.specs.Sections.{old_base, globals_base, ready_base, links_base}
use Rattle.sg_words.specs.Tags.{plain_word}
use Rattle.sg_desc.specs.declared.shapes.Shape.{Shape}
use Rattle.sg_desc.specs.Shapes.{holds_reference, is_strong, strong_holds}
use Rattle.sg_program.specs.declared.program.Program.{Program}
use Rattle.sg_program.specs.Scripts.{shape_of, kind_of}
use Rattle.sg_graph.specs.Graph.{Graph, Entry, Ref}
use Rattle.sg_graph.specs.Book.{Book, Old, word_of}
use Rattle.sg_graph.specs.Blocks.{AreSettled}
use Rattle.sg_graph.specs.Heap.{Owner, IsOfSort, IsKnownEntry, IsHeap, layout_of}
use Rattle.sg_graph.specs.Pause.{IsTarget}
use Rattle.sg_space.specs.Space.{Contents, IsContents, words_of}
use Rattle.sg_space.specs.Standing.{word, size_at, IsSoundBy, Refers, RefersSoundly, AreRows}
use Rattle.sg_heap.specs.Fronts.{fronts, StandsAt, HoldsStrong}
use Rattle.sg_heap.specs.Holding.{IsSpaceOf}
use Rattle.sg_heap.proofs.Names.{ref-of, named_front}
use Rattle.sg_heap.proofs.Sound.{is_owned, owns_first, owned, length_is, class_is, shape_is, taken_named}

module _ (p : Program) (s : Contents) (g : Graph) (b : Book) (is : IsSpaceOf p s b) (owner : ℕ → Owner) (heap : IsHeap p (word s) g b owner)
    (contents : IsContents s) where
  -- what a reference field refers to
  pub reference : (n i : ℕ) → b.stands n ≡ true → i < g.size n → holds_reference (kind_of p (g.class n)) i (g.size n) ≡ true →
      (k : ℕ) × (g.field n i ≡ Ref k) × (b.stands k ≡ true) × (word s (b.address n + 2 + i) ≡ byte_at (b.address k))
  reference n i stands l holds =
      let k = ref-of (g.field n i) (subst (λ (z : Bool). IsOfSort z (g.field n i)) holds (heap.laid.fields.sorted n i stands l)) in (
        k.0,
        k.1,
        (subst (λ (z : Entry). IsKnownEntry (word s) g b z) k.1 (heap.laid.fields.known n i stands l)).0,
        heap.laid.fields.holds n i stands l ∙ ap (λ (z : Entry). word_of b.address z) k.1,
      )

  refers_to : (v k : ℕ) → v ≡ byte_at (b.address k) → b.stands k ≡ true → Refers (fronts b.address owner) v
  refers_to v k e stands = elim (cases_eq k 0) [
    | inl z ↦ inl (let nil = ap b.address z ∙ heap.laid.nothing.at_nil in omega arith)
    | inr some ↦ inr (b.address k, is_owned p s g b is owner heap contents k (b.address k) some (owns_first p s g b is owner heap contents k stands), e)
  ]

  globals_are : globals_base s.layout ≡ globals_base (layout_of p)
  globals_are = ap globals_base is.layout

  row_zero : (x : ℕ) → ready_base s.layout ≤ x → x < ready_base s.layout + 1088 → word s x ≡ 0
  row_zero x from to = let base = globals_are in heap.laid.globals.empty x (omega arith) (omega arith)

  pub refers : RefersSoundly s (fronts b.address owner)
  refers = record {
    fields = λ h i class shape e shape_is_it tag within holds.
        let q = named_front b.address (owner h) h e in
        let n = q.0 in
        let at = q.3 in
        let o = owned p s g b is owner heap contents n h q.2 in
        let length : word s (h + 1) ≡ g.size n = ap (λ z. word s (z + 1)) (sym at) ∙ length_is p s g b is owner heap contents n q.1 o.0 in
        let first : word s h ≡ plain_word (g.class n) = ap (word s) (sym at) ∙ class_is p s g b is owner heap contents n q.1 o.0 in
        let class_same : class ≡ g.class n = omega arith in
        let shape_same : shape ≡ shape_of p (g.class n) =
        same_Some _ _ (sym shape_is_it ∙ ap (λ c. slice_get s.shapes c) class_same ∙ shape_is p s g b is owner heap contents n q.1 o.0) in
        let r = reference n i o.0 (omega arith)
        (ap (λ (z : ℕ). holds_reference (kind_of p (g.class n)) i z) (sym length) ∙ ap (λ (z : Shape). holds_reference z.kind i (word s (h + 1)))
        (sym shape_same) ∙ holds) in
        refers_to (word s (h + 2 + i)) r.0 (ap (λ z. word s (z + 2 + i)) (sym at) ∙ r.3) r.2;
    globals = λ x l. refers_to (word s (globals_base s.layout + x)) (g.global x) (ap (λ z. word s (z + x)) globals_are ∙ heap.laid.globals.holds x l)
        (heap.laid.globals.known x l).0;
    links = λ x l. inl (row_zero (links_base s.layout + x) (omega arith) (omega arith));
    ready = λ j from to. inl (row_zero (ready_base s.layout + j) (omega arith) (omega arith));
    registered = λ j l. absurd (let none = ap length is.registered in omega arith);
    pairs = λ j l. absurd (let none = ap length is.pairs in omega arith);
  }

  pub rows : AreRows s
  rows =
      let head = is.head in
      let made = is.made in
      record {
        head = omega arith;
        made = λ j from to. absurd (omega arith);
        rest = λ j from to. row_zero (ready_base s.layout + j) (omega arith) (omega arith);
      }

  -- a strong field of a name is one of its first word, and the other way round
  pub target_held : (m n : ℕ) → m ≢ 0 → b.stands m ≡ true → IsTarget p g m n → (b.stands n ≡ true) × HoldsStrong s (b.address m) (b.address n)
  target_held m n some stands target =
      let i = target.1.0 in
      let length = length_is p s g b is owner heap contents m some stands in
      let within = target.1.1 in
      let known = subst (λ (z : Entry). IsKnownEntry (word s) g b z) target.1.3 (heap.laid.fields.known m i stands within) in (
        known.0,
        record {
          class = g.class m;
          shape = shape_of p (g.class m);
          field = i;
          shape_is = shape_is p s g b is owner heap contents m some stands;
          tag = class_is p s g b is owner heap contents m some stands;
          within = omega arith;
          strong = ap (λ (z : ℕ). is_strong (kind_of p (g.class m)) i z) length ∙ target.1.2;
          holds = heap.laid.fields.holds m i stands within ∙ ap (λ (z : Entry). word_of b.address z) target.1.3;
        },
      )

  pub held_target : (m k : ℕ) → m ≢ 0 → b.stands m ≡ true → k ≢ 0 → HoldsStrong s (b.address m) k → (n : ℕ) × StandsAt b n k × IsTarget p g m n
  held_target m k some stands there h =
      let i = h.field in
      let length = length_is p s g b is owner heap contents m some stands in
      let first = class_is p s g b is owner heap contents m some stands in
      let tag = h.tag in
      let class : h.class ≡ g.class m = omega arith in
      let shape : h.shape ≡ shape_of p (g.class m) =
      same_Some _ _ (sym h.shape_is ∙ ap (λ c. slice_get s.shapes c) class ∙ shape_is p s g b is owner heap contents m some stands) in
      let inside = h.within in
      let within : i < g.size m = omega arith in
      let strong : is_strong (kind_of p (g.class m)) i (g.size m) ≡ true =
      ap (λ (z : ℕ). is_strong (kind_of p (g.class m)) i z) (sym length) ∙ ap (λ (z : Shape). is_strong z.kind i (word s (b.address m + 1))) (sym shape) ∙
      h.strong in
      let r = reference m i stands within (strong_holds (kind_of p (g.class m)) i (g.size m) strong) in
      let held = h.holds in
      let word_is = r.3 in
      let at : b.address r.0 ≡ k = omega arith in
      let named : r.0 ≢ 0 = λ z. there (sym at ∙ ap b.address z ∙ heap.laid.nothing.at_nil) in
      (r.0, record { some = named; stands = r.2; at = at }, (named, (i, within, strong, r.1)))

  module _ (settled : AreSettled p (words_of s) g b owner) where
    -- the old object that begins at a word, by whichever owners the space is sound
    pub old_front : (o : ℕ → Option ℕ) → IsSoundBy s o → (h : ℕ) → o h ≡ Some h → old_base s.layout ≤ h → (n : ℕ) × StandsAt b n h × (b.section n ≡ Old)
    old_front o sound h e above = elim (sound.places h e) [
      | inl q ↦ let within = q.within in absurd (omega arith)
      | inr more ↦ elim more [
        | inl q ↦
            let n = (taken_named p s g b is owner heap contents settled q.block (slot_size (size_at s h)) q.slot q.there q.sized q.taken).1 in
            (n.0, record { some = n.1; stands = n.2; at = n.4 ∙ sym q.front }, n.3)
        | inr q ↦ absurd (let front = q.front in let none = is.pages q.page in let taken = q.takes q.page (le_refl _) (omega arith) in omega arith)
      ]
    ]
