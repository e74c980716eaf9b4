-- A new object gets its place: what the place has to be, and what the object leaves of the relation.
use Rattle.std.proofs.Common.{◌≡◌, ◌≢◌, ℕ, suc, ◌+◌, ◌<◌, ◌≤◌, cond, Bool, true, false, List, ◌∷◌, length, map, ◌⊎◌, inl, inr, sym, refl, ap, ◌∙◌, subst, arith}
use Rattle.std.proofs.lemmas.Bool.{cases_eq}
use Rattle.sg_words.specs.Address.{byte_at}
use Rattle.sg_words.specs.Tags.{plain_word}
use Rattle.sg_words.specs.Words.{put, Words}
use Rattle.sg_program.specs.declared.program.Statement.{Statement}
use Rattle.sg_program.specs.declared.program.Program.{Program}
use Rattle.sg_program.specs.declared.answers.Answer.{Answer}
use Rattle.sg_program.specs.declared.answers.Answer.TheVariants.{At}
use Rattle.sg_words.specs.Blocks.{card_of}
use Rattle.sg_desc.specs.Shapes.{holds_reference, is_strong}
use Rattle.sg_program.specs.Scripts.{kind_of, IsSizeOf, MakesObject, made_in, made_class, made_fields, made_words}
use Rattle.sg_program.specs.Kinds.{kinds_after}
use Rattle.sg_graph.specs.Graph.{Entry, Ref, Int, Inner, Graph, grown, empty_field}
use Rattle.sg_graph.specs.Statements.{Does}
use Rattle.sg_graph.specs.Book.{Book, Section, Books, placed_in, word_of, Young, Old, nursery_end, old_end}
use Rattle.sg_words.specs.Sections.{nursery_base, large_base}
use Rattle.sg_graph.specs.Pause.{is_pair}
use Rattle.sg_graph.specs.Invariants.{IsPlain}
use Rattle.sg_graph.specs.Heap.{Owner, Of, Frag, Buf, IsKnown, IsKnownEntry, IsOfSort, Objects, Fields, layout_of}
use Rattle.sg_graph.specs.Blocks.{AreBlocks}
use Rattle.sg_rules.specs.Rules.{Constants, Mid, Idle, StoreLength, Actor, within, owning, sections_of}
use Rattle.sg_order.specs.Rest.{kind_of_entry}
use Rattle.sg_rules.specs.Resting.{IsRunnable}
use Rattle.sg_words.proofs.Puts.{put-at, put-same, put-other}
use Rattle.sg_order.proofs.Frame.{answers_later, given_later, offset_later}
use Rattle.sg_order.proofs.Relation.{Ground, IsMutator, Stands, Later, IsNeeded, IsQuiet, Kept}
use Rattle.sg_order.proofs.Moves.{Change, handed, no_header, goes, kinds_of, kinds_along, turned, is_after, stack_after, stack_kept, fits_after, fits_as, runnable_after, runnable_as}
use Rattle.sg_order.proofs.Emptied.{of_sort_empty, empty_cond}

-- What a place for a new object of m words at x has to be: the words are no object's. Next, from and to are the other parts of the book.
pub record Place (p : Program) (g : Graph) (b : Book) (k m x : ℕ) (next from to : ℕ → ℕ) (owner owner' : ℕ → Owner) : Type 0 where
  pub free : (y : ℕ) → x ≤ y → y < x + m → (o : ℕ) → owner y ≢ Of o
  pub new : (y : ℕ) → x ≤ y → y < x + m → owner' y ≡ Of (suc g.count)
  pub old : (o y : ℕ) → owner y ≡ Of o → owner' y ≡ Of o
  pub only : (o y : ℕ) → owner' y ≡ Of o → ((o ≡ suc g.count) × (x ≤ y) × (y < x + m)) ⊎ (owner y ≡ Of o)
  pub buffers : (j y : ℕ) → from j ≤ y → y < to j → owner' y ≡ Buf j
  pub frags : (f y : ℕ) → f < b.fragments → next f ≤ y → y < b.limit f → owner' y ≡ Frag f
  pub in_buffers : (j : ℕ) → from j < to j → (nursery_base ≤ from j) × (to j ≤ nursery_end p)
  pub within : (f : ℕ) → f < b.fragments → next f ≤ b.limit f
  pub rises : (f : ℕ) → b.next f ≤ next f
  pub other_from : (j : ℕ) → j ≢ k → from j ≡ b.from j
  pub other_to : (j : ℕ) → j ≢ k → to j ≡ b.to j

-- m words at x lie in the nursery, or in the major heap
abbrev pub IsInside : Program → Section → ℕ → ℕ → Type 0
IsInside p section x m =
    ((section ≡ Young) × (nursery_base ≤ x) × (x + m ≤ nursery_end p)) ⊎ ((section ≡ Old) × (nursery_end p ≤ x) × (x + m ≤ old_end p))

module _ (p : Program) (lay : Constants) (w : Words) (g : Graph) (b : Book) (said : ℕ → List Answer) (k : ℕ) (owner : ℕ → Owner) (t : Ground p lay w g b owner)
    (class n x : ℕ) (next wnext from to : ℕ → ℕ) (owner' : ℕ → Owner) (pl : Place p g b k (n + 2) x next from to owner owner')
    (section : Section) (in_section : IsInside p section x (n + 2)) (zero_there : (y : ℕ) → x ≤ y → y < x + (n + 2) → w.word y ≡ 0) (used : ℕ → ℕ)
    (blocks_new : AreBlocks p lay.marks w.block used w.word (put g.size (suc g.count) n) (put b.stands (suc g.count) true)
    (put b.address (suc g.count) x) (put b.section (suc g.count) section) b.owed owner')
    (is_class : class < length p.classes) (sized : IsSizeOf p class n) (single : is_pair (kind_of p class) ≡ false)
    (nexts : (f : ℕ) → f < b.fragments → wnext f ≡ byte_at (next f)) where
  abbrev pub new : ℕ
  new = suc g.count

  -- the words and the book then
  abbrev pub new_words : Words
  new_words = record w { next = wnext; used = used }

  abbrev pub new_book : Book
  new_book = record (placed_in b section (suc g.count) x) { next = next; from = from; to = to }

  not_new : (m : ℕ) → b.stands m ≡ true → m ≢ suc g.count
  not_new m q e = let l = t.laid.objects.given m q in absurd (omega arith)

  pub at_old : (m : ℕ) → b.stands m ≡ true → put b.address (suc g.count) x m ≡ b.address m
  at_old m q = put-other b.address (suc g.count) x m (not_new m q)

  pub size_old : (m : ℕ) → b.stands m ≡ true → put g.size (suc g.count) (n) m ≡ g.size m
  size_old m q = put-other g.size (suc g.count) (n) m (not_new m q)

  class_old : (m : ℕ) → b.stands m ≡ true → put g.class (suc g.count) class m ≡ g.class m
  class_old m q = put-other g.class (suc g.count) class m (not_new m q)

  pub stands_old : (m : ℕ) → b.stands m ≡ true → put b.stands (suc g.count) true m ≡ true
  stands_old m q = put-other b.stands (suc g.count) true m (not_new m q) ∙ q

  known_old : (m : ℕ) → IsKnown w.word g b m → IsKnown w.word (grown p g k class n) new_book m
  known_old m q = (
    stands_old m q.0,
    elim q.1 [
      | inl z ↦ inl z
      | inr h ↦ inr (
        ap w.word (at_old m q.0) ∙ h.0 ∙ sym (ap plain_word (class_old m q.0)),
        ap (λ a. w.word (a + 1)) (at_old m q.0) ∙ h.1 ∙ sym
            (size_old m q.0),
      )
    ],
  )

  pub entry_old : (e : Entry) → IsKnownEntry w.word g b e → IsKnownEntry w.word (grown p g k class n) new_book e
  entry_old (Ref m) q = known_old m q
  entry_old (Int v) q = tt
  entry_old (Inner m o) q = known_old m q

  pub word_old : (e : Entry) → IsKnownEntry w.word g b e → word_of (put b.address (suc g.count) x) e ≡ word_of b.address e
  word_old (Ref m) q = ap byte_at (at_old m q.0)
  word_old (Int v) q = refl
  word_old (Inner m o) q = ap (λ a. byte_at a + o) (at_old m q.0)

  -- a standing name is the new one or an old one
  pub old_or_new : (m : ℕ) → put b.stands (suc g.count) true m ≡ true → (m ≡ suc g.count) ⊎ (b.stands m ≡ true)
  old_or_new m q = elim (cases_eq m (suc g.count)) [ inl e ↦ inl e | inr e ↦ inr (sym (put-other b.stands (suc g.count) true m e) ∙ q) ]

  nil_stands : b.stands 0 ≡ true
  nil_stands = t.laid.nothing.stands_nil

  field_new : (m i : ℕ) → m ≡ suc g.count →
      put g.field (suc g.count) (empty_field (kind_of p class) (n)) m i ≡ cond (holds_reference (kind_of p class) i (n)) (Ref 0) (Int 0)
  field_new m i e = ap (λ (f : ℕ → Entry). f i) (put-at g.field (suc g.count) (empty_field (kind_of p class) (n)) m e)

  field_old : (m i : ℕ) → b.stands m ≡ true → put g.field (suc g.count) (empty_field (kind_of p class) (n)) m i ≡ g.field m i
  field_old m i q = ap (λ (f : ℕ → Entry). f i) (put-other g.field (suc g.count) (empty_field (kind_of p class) (n)) m (not_new m q))

  word_empty : (sort : Bool) → 0 ≡ word_of (put b.address (suc g.count) x) (cond sort (Ref 0) (Int 0))
  word_empty sort = empty_cond (λ e. 0 ≡ word_of (put b.address (suc g.count) x) e) sort
      (let u = at_old 0 nil_stands in let v = t.laid.nothing.at_nil in omega arith) refl

  sized_as : (m e u : ℕ) → put g.class (suc g.count) class m ≡ e → put g.size (suc g.count) n m ≡ u → IsSizeOf p e u →
      IsSizeOf p (put g.class (suc g.count) class m) (put g.size (suc g.count) n m)
  sized_as m e u a d i = subst (λ z. IsSizeOf p z (put g.size (suc g.count) n m)) (sym a) (subst (λ z. IsSizeOf p e z) (sym d) i)

  objects_new : Objects p (suc g.count) (put g.class (suc g.count) class) (put g.size (suc g.count) (n)) (put b.stands (suc g.count) true)
      (put b.address (suc g.count) x) (put b.section (suc g.count) section) owner'
  objects_new = record {
    given = λ m q. elim (old_or_new m q) [ inl e ↦ omega arith | inr o ↦ (let l = t.laid.objects.given m o in omega arith) ];
    shaped = λ m l q. elim (old_or_new m q) [
      | inl e ↦ let u = put-at g.class (suc g.count) class m e in
          (subst (λ c. c < length p.classes) (sym u) is_class, sized_as m class n u (put-at g.size (suc g.count) n m e) sized)
      | inr o ↦ let i = t.laid.objects.shaped m l o in let u = class_old m o in
          (subst (λ c. c < length p.classes) (sym u) i.0, sized_as m (g.class m) (g.size m) u (size_old m o) i.1)
    ];
    owns = λ m y q i j. elim (old_or_new m q) [
      | inl e ↦ let u = put-at b.address (suc g.count) x m e in let v = put-at g.size (suc g.count) (n) m e in pl.new y (omega arith) (omega arith) ∙ ap Of
          (sym e)
      | inr o ↦ let u = at_old m o in let v = size_old m o in pl.old m y (t.laid.objects.owns m y o (omega arith) (omega arith))
    ];
    owned = λ m y q. elim (pl.only m y q) [
      | inl here ↦ let e = here.0 in let lo = here.1 in let hi = here.2 in let u = put-at b.address (suc g.count) x m e in let v = put-at g.size (suc g.count)
          (n) m e in
          (put-at b.stands (suc g.count) true m e, omega arith, omega arith)
      | inr e ↦ let s = t.laid.objects.owned m y e in let lo = s.1 in let hi = s.2 in let u = at_old m s.0 in let v = size_old m s.0 in
          (stands_old m s.0, omega arith, omega arith)
    ];
    inside = λ m l q. elim (old_or_new m q) [
      | inl e ↦ let u = put-at b.address (suc g.count) x m e in let v = put-at g.size (suc g.count) (n) m e in
          let z = put-at b.section (suc g.count) section m e in elim in_section [
            | inl i ↦ let lo = i.1 in let hi = i.2 in inl (z ∙ i.0, omega arith, omega arith)
            | inr i ↦ let lo = i.1 in let hi = i.2 in inr (z ∙ i.0, omega arith, omega arith)
          ]
      | inr o ↦ let u = at_old m o in let v = size_old m o in let z = put-other b.section (suc g.count) section m (not_new m o) in elim
          (t.laid.objects.inside m l o) [
            | inl i ↦ let lo = i.1 in let hi = i.2 in inl (z ∙ i.0, omega arith, omega arith)
            | inr i ↦ let lo = i.1 in let hi = i.2 in inr (z ∙ i.0, omega arith, omega arith)
          ]
    ];
  }

  fields_new : Fields p w.word (grown p g k class n) new_book
  fields_new = record {
    holds = λ m i q j. elim (old_or_new m q) [
      | inl e ↦ let u = put-at b.address (suc g.count) x m e in let v = put-at g.size (suc g.count) (n) m e in
          zero_there (put b.address (suc g.count) x m + 2 + i) (omega arith) (omega arith)
          ∙ word_empty (holds_reference (kind_of p class) i (n)) ∙ sym (ap (word_of (put b.address (suc g.count) x)) (field_new m i e))
      | inr o ↦ let v = size_old m o in ap (λ a. w.word (a + 2 + i)) (at_old m o) ∙ t.laid.fields.holds m i o (omega arith)
          ∙ sym (ap (word_of (put b.address (suc g.count) x)) (field_old m i o) ∙ word_old (g.field m i) (t.laid.fields.known m i o (omega arith)))
    ];
    known = λ m i q j. elim (old_or_new m q) [
      | inl e ↦ subst (λ f. IsKnownEntry w.word (grown p g k class n) new_book f) (sym (field_new m i e))
          (empty_cond (λ f. IsKnownEntry w.word (grown p g k class n) new_book f) (holds_reference (kind_of p class) i (n))
          (stands_old 0 nil_stands, inl refl) tt)
      | inr o ↦ let v = size_old m o in subst (λ f. IsKnownEntry w.word (grown p g k class n) new_book f) (sym (field_old m i o))
          (entry_old (g.field m i) (t.laid.fields.known m i o (omega arith)))
    ];
    sorted = λ m i q j. elim (old_or_new m q) [
      | inl e ↦ let u = put-at g.class (suc g.count) class m e in let v = put-at g.size (suc g.count) (n) m e in
          subst (λ c. IsOfSort (holds_reference (kind_of p c) i (put g.size (suc g.count) (n) m))
          (put g.field (suc g.count) (empty_field (kind_of p class) (n)) m i)) (sym u)
          (subst (λ l. IsOfSort (holds_reference (kind_of p class) i l) (put g.field (suc g.count) (empty_field (kind_of p class) (n)) m i)) (sym v)
          (subst (λ f. IsOfSort (holds_reference (kind_of p class) i (n)) f) (sym (field_new m i e)) (of_sort_empty (holds_reference (kind_of p class) i (n)))))
      | inr o ↦ let u = class_old m o in let v = size_old m o in
          subst (λ c. IsOfSort (holds_reference (kind_of p c) i (put g.size (suc g.count) (n) m))
          (put g.field (suc g.count) (empty_field (kind_of p class) (n)) m i)) (sym u)
          (subst (λ l. IsOfSort (holds_reference (kind_of p (g.class m)) i l) (put g.field (suc g.count) (empty_field (kind_of p class) (n)) m i)) (sym v)
          (subst (λ f. IsOfSort (holds_reference (kind_of p (g.class m)) i (g.size m)) f) (sym (field_old m i o)) (t.laid.fields.sorted m i o (omega arith))))
    ];
  }

  section_old : (m : ℕ) → b.stands m ≡ true → put b.section (suc g.count) section m ≡ b.section m
  section_old m q = put-other b.section (suc g.count) section m (not_new m q)

  -- an empty field refers to nothing
  refers_none : (sort : Bool) (target : ℕ) → 1 ≤ target → cond sort (Ref 0) (Int 0) ≡ Ref target → ⊥
  refers_none sort target one = empty_cond (λ e. e ≡ Ref target → ⊥) sort (λ e. let z : 0 ≡ target = cc in absurd (omega arith)) (λ e. cc)

  -- an object that needs a card is none that is new
  needs_old : (m i target : ℕ) → put b.stands (suc g.count) true m ≡ true → 1 ≤ target →
      put g.field (suc g.count) (empty_field (kind_of p class) n) m i ≡ Ref target → b.stands m ≡ true
  needs_old m i target q one refers = elim (old_or_new m q) [
    | inl e ↦ absurd (refers_none (holds_reference (kind_of p class) i n) target one (sym (field_new m i e) ∙ refers))
    | inr h ↦ h
  ]

  -- and no card is needed for it, since its fields are empty, and no field refers to it
  needs_new : (card : ℕ) → IsNeeded p (grown p g k class n) new_book card → IsNeeded p g b card
  needs_new card q =
      let stood = needs_old q.name q.index q.target q.standing q.one q.refers in
      let size = size_old q.name stood in
      let inside : q.index < g.size q.name = let l = q.inside in omega arith in
      let refers : g.field q.name q.index ≡ Ref q.target = sym (field_old q.name q.index stood) ∙ q.refers in
      let target = subst (λ e. IsKnownEntry w.word g b e) refers (t.laid.fields.known q.name q.index stood inside) in
      record {
        name = q.name;
        index = q.index;
        target = q.target;
        some = q.some;
        standing = stood;
        old = sym (section_old q.name stood) ∙ q.old;
        inside = inside;
        strong = ap (λ s. is_strong (kind_of p (g.class q.name)) q.index s) (sym size)
            ∙ ap (λ c. is_strong (kind_of p c) q.index (put g.size (suc g.count) n q.name)) (sym (class_old q.name stood)) ∙ q.strong;
        refers = refers;
        one = q.one;
        young = sym (section_old q.target target.0) ∙ q.young;
        at = ap (λ a. card_of (layout_of p) (a + 2 + q.index)) (sym (at_old q.name stood)) ∙ q.at;
      }

  plain_new : IsPlain p (grown p g k class n)
  plain_new = record {
    links = t.plain.links;
    registered = t.plain.registered;
    ready = t.plain.ready;
    pairs = λ m l u. elim (cases_eq m (suc g.count)) [
      | inl e ↦ ap (λ c. is_pair (kind_of p c)) (put-at g.class (suc g.count) class m e) ∙ single
      | inr o ↦ ap (λ c. is_pair (kind_of p c)) (put-other g.class (suc g.count) class m o) ∙ t.plain.pairs m l (omega arith)
    ];
  }

  ground_new : Ground p lay (new_words) (grown p g k class n) new_book owner'
  ground_new = record {
    laid = record {
      nothing = record {
        stands_nil = stands_old 0 nil_stands;
        at_nil = at_old 0 nil_stands ∙ t.laid.nothing.at_nil;
        no_size = size_old 0 nil_stands ∙ t.laid.nothing.no_size;
      };
      objects = objects_new;
      fields = fields_new;
      globals = record {
        holds = λ y l. t.laid.globals.holds y l ∙ ap byte_at (sym (at_old (g.global y) (t.laid.globals.known y l).0));
        known = λ y l. known_old (g.global y) (t.laid.globals.known y l);
        empty = t.laid.globals.empty;
      };
      clear = record { large = t.laid.clear.large; clear = λ y i j none. t.laid.clear.clear y i j (λ o e. none o (pl.old o y e)) };
      fragments = record {
        owns = pl.frags;
        inside = λ f l. let i = t.laid.fragments.inside f l in let u = pl.rises f in let lo = i.0 in (omega arith, pl.within f l, i.2);
        ordered = λ f j l r. let u = pl.rises j in let o = t.laid.fragments.ordered f j l r in omega arith;
      };
      buffers = record { owns = pl.buffers; inside = pl.in_buffers };
    };
    blocks = blocks_new;
    plain = plain_new;
    number = t.number;
    limits = t.limits;
    words = nexts;
    marks = t.marks;
  }

  later_new : Later p w g b said (new_words) (grown p g k class n) new_book said k
  later_new = record {
    stands = stands_old;
    known = known_old;
    address = at_old;
    size = size_old;
    class = class_old;
    next = pl.rises;
    limit = λ f. refl;
    length_word = λ m q z e. e;
    owed = refl;
    zeros = λ y l none e. e;
    dirty = λ y e. e;
    mutator = λ j n. refl;
    says = λ j n. refl;
    from = pl.other_from;
    to = pl.other_to;
  }

  pub change_new : {after : Mid} → Change p lay w g b said k after (new_words) (grown p g k class n) new_book
  change_new = record { owner = owner'; later = later_new; needs = λ card q. inl (needs_new card q); ground = ground_new; mutators = refl }

  pub heading_from : (ax : ℕ) → ax ≡ x → nursery_base ≤ ax
  heading_from ax ex = elim in_section [ inl i ↦ let lo = i.1 in omega arith | inr i ↦ let lo = i.1 in omega arith ]

  pub heading_inside : (ax : ℕ) (s : Statement) → ax ≡ x → n ≡ made_fields p s → ax + made_words p s ≤ large_base (sections_of p)
  heading_inside ax s ex en = elim in_section [ inl i ↦ let hi = i.2 in omega arith | inr i ↦ let hi = i.2 in omega arith ]

  -- a deciding step that gives a new object its place
  unfoldable pub places : (mid : Mid) → IsQuiet mid → (a : Actor) (rest : List Statement) (s : Statement) (st : Stands p lay w g b said k a) →
      IsRunnable p s → MakesObject s → class ≡ made_class s → n ≡ made_fields p s →
      IsMutator g said k st.entry (s ∷ rest) st.answers →
      Does p g k (record (g.mutator k) { register = st.entry; script = s ∷ rest }) s rest (At (suc g.count))
      (handed (grown p g k class n) k rest (put st.entry (made_in s) (Ref (suc g.count)))) →
      Books p g b k s (At (suc g.count)) new_book →
      ((r : ℕ) → (kinds_after (kinds_of st.entry (g.mutator k).stack) s).register r ≡ kind_of_entry (put st.entry (made_in s) (Ref (suc g.count)) r)) →
      (kinds_after (kinds_of st.entry (g.mutator k).stack) s).stack ≡ map kind_of_entry (g.mutator k).stack →
      (ax af at : ℕ) → ax ≡ x → af ≡ from k → at ≡ to k →
      Kept p lay w g b said k mid true (new_words) (within (owning a af at) rest (StoreLength s ax))
  places mid quiet a rest s st run made ec en m does books kinds piled ax af at ex ef et =
      turned p lay w g b said k mid quiet (new_words) (grown p g k class n) new_book (within (owning a af at) rest (StoreLength s ax))
      change_new
      (record {
        begun = λ m q. elim (old_or_new m q) [ inl e ↦ inr (put-at b.address (suc g.count) x m e ∙ sym ex) | inr o ↦ inl o ];
        done = λ m q y. absurd (no_header mid quiet (b.address m) y);
      })
      s rest st.entry st.answers (put st.entry (made_in s) (Ref (suc g.count))) (g.mutator k).stack (At (suc g.count)) m does books (record {
        entry = st.entry;
        answers = st.answers;
        regs = λ q. st.regs q ∙ sym (word_old (st.entry q) (st.known q));
        known = λ q. entry_old (st.entry q) (st.known q);
        offsets = λ q. offset_later g b (grown p g k class n) new_book (a.offset q) (st.entry q) stands_old size_old (st.offsets q);
        stack = stack_after p lay w g b said k (new_words) (grown p g k class n) new_book rest
            (put st.entry (made_in s) (Ref (suc g.count))) a.stack (g.mutator k).stack
            (stack_kept p lay w g b said k (new_words) (grown p g k class n) new_book (change_new {after = Idle}) a.stack st.stack);
        told = st.told ∙ sym (answers_later b new_book st.answers st.given at_old);
        given = given_later b.stands new_book.stands st.answers stands_old st.given;
        from_is = ef;
        to_is = et;
        at = record {
          name = suc g.count;
          some = λ e. absurd (omega arith);
          stands = put-same b.stands (suc g.count) true;
          address = put-same b.address (suc g.count) x ∙ sym ex;
          size = put-same g.size (suc g.count) n ∙ en;
          class_is = put-same g.class (suc g.count) class ∙ ec;
          heading = record { runnable = run; makes = made; from = heading_from ax ex; inside = heading_inside ax s ex en };
          ahead = is_after p lay w g b said k (grown p g k class n) rest (put st.entry (made_in s) (Ref (suc g.count))) (g.mutator k).stack st.answers
              (At (suc g.count)) m.says
              (goes g said k st.entry s rest st.answers m);
        };
        fits = fits_after p lay w g b said k (grown p g k class n) rest (put st.entry (made_in s) (Ref (suc g.count))) (g.mutator k).stack
            (kinds_along (kinds_after (kinds_of st.entry (g.mutator k).stack) s)
            (kinds_of (put st.entry (made_in s) (Ref (suc g.count))) (g.mutator k).stack) rest kinds piled
            (fits_as p lay w g b said k st.entry (s ∷ rest) st.answers m st.fits).1);
        runnable = runnable_after p lay w g b said k (grown p g k class n) rest (put st.entry (made_in s) (Ref (suc g.count))) (g.mutator k).stack
            (runnable_as p lay w g b said k st.entry (s ∷ rest) st.answers m st.runnable).1;
      })
