-- Each rule by which a mutator goes on keeps the relation: the load and the store of a field.
use Rattle.std.proofs.Common.{◌≡◌, ◌≢◌, ℕ, ◌+◌, ◌<◌, ◌≤◌, ◌⊎◌, ◌&&◌, not, nat_lt, Bool, true, false, Option, Some, None, List, ◌∷◌, inl, inr, sym, refl, ap, ◌∙◌, subst, le_refl, ap₂, arith}
use Rattle.std.proofs.lemmas.Bool.{cases_eq, eq-eqb, ne_eqb, cond-true, cond-false, ltb-true}
use Rattle.sg_words.specs.Address.{byte_at}
use Rattle.sg_words.specs.declared.steps.Place.TheVariants.{Word}
use Rattle.sg_words.specs.Words.{put, Words, write}
use Rattle.sg_program.specs.declared.program.Statement.{Statement}
use Rattle.sg_program.specs.declared.program.Statement.TheVariants.{Put, Get, PutD, GetD}
use Rattle.sg_program.specs.declared.program.Program.{Program}
use Rattle.sg_desc.specs.declared.shapes.Descriptor.{Descriptor}
use Rattle.sg_program.specs.declared.answers.Answer.{Answer}
use Rattle.sg_program.specs.declared.answers.Answer.TheVariants.{At, Nil, Number, Fine}
use Rattle.sg_desc.specs.Shapes.{Reference, Plain, has_field, holds_reference}
use Rattle.sg_program.specs.Scripts.{kind_of}
use Rattle.sg_program.specs.Kinds.{IsRef, IsInt}
use Rattle.sg_graph.specs.Graph.{Entry, Ref, Int, Inner, Mutator, Graph, stored}
use Rattle.sg_graph.specs.Statements.{Finds, name_in}
use Rattle.sg_program.specs.Tests.{Test, test_of}
use Rattle.sg_graph.specs.Book.{Book, Young, Old, word_of, old_end}
use Rattle.sg_words.specs.Sections.{globals_base}
use Rattle.sg_words.specs.Blocks.{card_of, HasCard}
use Rattle.sg_graph.specs.Heap.{Owner, IsKnown, IsKnownEntry, IsOfSort, layout_of}
use Rattle.sg_rules.specs.Rules.{Constants, Mid, Idle, Access, Actor, within, over, reference_answer, object_in, sections_of}
use Rattle.sg_order.specs.Rest.{kind_of_entry}
use Rattle.sg_order.specs.Rest.{StandsAt}
use Rattle.sg_words.proofs.Puts.{put-at, put-other, put-all, put-along}
use Rattle.sg_order.proofs.Frame.{entry_later}
use Rattle.sg_order.proofs.Relation.{Ground, Tested, Stands, Later, IsNeeded, Marks, Kept}
use Rattle.sg_order.proofs.Moves.{Change, handed, offsets_put, unchanged, decided, fits_as}
use Rattle.sg_order.proofs.Loads.{is_ref, is_int, same_object, name_nil, object_at, known_at, known_put}

both : (x y : Bool) → x && y ≡ true → (x ≡ true) × (y ≡ true)
both true y e = (refl, e)
both false y e = cc

not_true : (x : Bool) → not x ≡ true → x ≡ false
not_true true e = cc
not_true false e = refl

-- a field of this sort is within the length, and of the sort
pub reference_field : (kind : Descriptor) (n i : ℕ) → has_field Reference kind n i ≡ true → (i < n) × (holds_reference kind i n ≡ true)
reference_field kind n i e = let x = both (nat_lt i n) (holds_reference kind i n) e in (ltb-true i n x.0, x.1)

pub plain_field : (kind : Descriptor) (n i : ℕ) → has_field Plain kind n i ≡ true → (i < n) × (holds_reference kind i n ≡ false)
plain_field kind n i e = let x = both (nat_lt i n) (not (holds_reference kind i n)) e in (ltb-true i n x.0, not_true (holds_reference kind i n) x.1)

-- what a field of a sort holds
pub of_reference : (sort : Bool) (e : Entry) → sort ≡ true → IsOfSort sort e → (n : ℕ) × (e ≡ Ref n)
of_reference sort e q s = go e (subst (λ x. IsOfSort x e) q s)
  where
    go : (e : Entry) → IsOfSort true e → (n : ℕ) × (e ≡ Ref n)
    go (Ref n) s = (n, refl)
    go (Int v) s = absurd s
    go (Inner n o) s = absurd s

pub of_number : (sort : Bool) (e : Entry) → sort ≡ false → IsOfSort sort e → (v : ℕ) × (e ≡ Int v)
of_number sort e q s = go e (subst (λ x. IsOfSort x e) q s)
  where
    go : (e : Entry) → IsOfSort false e → (v : ℕ) × (e ≡ Int v)
    go (Ref n) s = absurd s
    go (Int v) s = (v, refl)
    go (Inner n o) s = absurd s

the_test : Test → Option Test → Test
the_test d None = d
the_test d (Some t) = t

-- the test of a statement is the one that it has
pub tested_as : (p : Program) (g : Graph) (entry : ℕ → Entry) (s : Statement) (test own : Test) → test_of s ≡ Some own → Tested p g entry s test →
    Tested p g entry s own
unfolding the_test
tested_as p g entry s test own e t = subst (λ x. Tested p g entry s x) (ap (the_test own) (sym t.tests ∙ e)) t

pub finds_as : (p : Program) (g : Graph) (m : Mutator) (entry : ℕ → Entry) (script : List Statement) (s : Statement) (test : Test) →
    (t : Tested p g entry s test) → Finds p g (record m { register = entry; script = script }) s t.name
finds_as p g m entry script s test t = record { test = test; tests = t.tests; holds = t.holds; some = t.some; finds = t.finds }

module _ (p : Program) (lay : Constants) (w : Words) (g : Graph) (b : Book) (said : ℕ → List Answer) (k : ℕ) (owner : ℕ → Owner)
    (t : Ground p lay w g b owner) where
  -- an object's words stand before the large space, and so before the globals
  pub below_large : (n y : ℕ) → b.stands n ≡ true → y < b.address n + (g.size n + 2) → y < old_end p
  below_large n y sn to = elim (cases_eq n 0) [
    | inl z ↦ let u : b.address n ≡ 0 = ap b.address z ∙ t.laid.nothing.at_nil in let v : g.size n ≡ 0 = ap g.size z ∙ t.laid.nothing.no_size in omega arith
    | inr some ↦ elim (t.laid.objects.inside n (omega arith) sn) [ inl i ↦ (let l = i.2 in omega arith) | inr i ↦ (let l = i.2 in omega arith) ]
  ]

  pub below_globals : (n y : ℕ) → b.stands n ≡ true → y < b.address n + (g.size n + 2) → y < globals_base (layout_of p)
  below_globals n y sn to = let l = below_large n y sn to in omega arith

  -- a store of a word of a standing object
  module _ (n y val : ℕ) (sn : b.stands n ≡ true) (from : b.address n ≤ y) (to : y < b.address n + (g.size n + 2)) where
    pub same_there : (m x : ℕ) → b.stands m ≡ true → b.address m ≤ x → x < b.address m + (g.size m + 2) → x ≡ y → m ≡ n
    same_there m x q e r s = same_object p lay w g b said k owner t m n x q sn e r (omega arith) (omega arith)

    pub ground_stored : (fld : ℕ → ℕ → Entry) → ((m : ℕ) → IsKnown w.word g b m → IsKnown (put w.word y val) g b m) →
        ((m i : ℕ) → b.stands m ≡ true → i < g.size m → put w.word y val (b.address m + 2 + i) ≡ word_of b.address (fld m i)) →
        ((m i : ℕ) → b.stands m ≡ true → i < g.size m → IsKnownEntry (put w.word y val) g b (fld m i)) →
        ((m i : ℕ) → b.stands m ≡ true → i < g.size m → IsOfSort (holds_reference (kind_of p (g.class m)) i (g.size m)) (fld m i)) →
        Ground p lay (write w (Word y) val) (record g { field = fld }) b owner
    ground_stored fld on holds known sorted = record {
      laid = record {
        nothing = t.laid.nothing;
        objects = t.laid.objects;
        fields = record { holds = holds; known = known; sorted = sorted };
        globals = record {
          holds = λ x l. put-other w.word y val (globals_base (layout_of p) + x) (λ e. let u = below_globals n y sn to in absurd (omega arith))
              ∙ t.laid.globals.holds x l;
          known = λ x l. on (g.global x) (t.laid.globals.known x l);
          empty = λ x l m. put-other w.word y val x (λ e. let u = below_globals n y sn to in absurd (omega arith)) ∙ t.laid.globals.empty x l m;
        };
        clear = record {
          large = λ x l m. put-other w.word y val x (λ e. let u = below_large n y sn to in absurd (omega arith)) ∙ t.laid.clear.large x l m;
          clear = λ x l m none. put-other w.word y val x (λ e. none n (t.laid.objects.owns n x sn (omega arith) (omega arith)))
              ∙ t.laid.clear.clear x l m none;
        };
        fragments = t.laid.fragments;
        buffers = t.laid.buffers;
      };
      blocks = record {
        placed = t.blocks.placed;
        each = t.blocks.each;
        clear = λ c l x q r none clean. put-other w.word y val x (λ e. none n (t.laid.objects.owns n x sn (omega arith) (omega arith)))
            ∙ t.blocks.clear c l x q r none clean;
        sized = t.blocks.sized;
      };
      plain = record { links = t.plain.links; registered = t.plain.registered; ready = t.plain.ready; pairs = t.plain.pairs };
      number = t.number;
      limits = t.limits;
      words = t.words;
      marks = t.marks;
    }

    pub later_stored : (fld : ℕ → ℕ → Entry) → ((m : ℕ) → IsKnown w.word g b m → IsKnown (put w.word y val) g b m) →
        ((m : ℕ) → b.stands m ≡ true → w.word (b.address m + 1) ≡ g.size m → put w.word y val (b.address m + 1) ≡ g.size m) →
        Later p w g b said (write w (Word y) val) (record g { field = fld }) b said k
    later_stored fld known length_word = record {
      stands = λ n q. q;
      known = known;
      address = λ n q. refl;
      size = λ n q. refl;
      class = λ n q. refl;
      next = λ f. le_refl _;
      limit = λ f. refl;
      length_word = λ m q z e. length_word m q e;
      owed = refl;
      zeros = λ x l none e. put-other w.word y val x (λ q. none n sn (omega arith) (omega arith)) ∙ e;
      dirty = λ x e. e;
      mutator = λ j n. refl;
      says = λ j n. refl;
      from = λ j n. refl;
      to = λ j n. refl;
    }

    -- a field or a tag: no length
    pub length_off : y ≢ b.address n + 1 → (m : ℕ) → b.stands m ≡ true → put w.word y val (b.address m + 1) ≡ w.word (b.address m + 1)
    length_off ne m q = put-other w.word y val (b.address m + 1)
        (λ e. ne (sym e ∙ ap (λ i. b.address i + 1) (same_there m (b.address m + 1) q (omega arith) (omega arith) e)))

    -- a field or a length: no tag
    pub tag_off : y ≢ b.address n → (m : ℕ) → b.stands m ≡ true → put w.word y val (b.address m) ≡ w.word (b.address m)
    tag_off ne m q = put-other w.word y val (b.address m) (λ e. ne (sym e ∙ ap b.address (same_there m (b.address m) q (omega arith) (omega arith) e)))

    -- a tag or a length: no field
    pub fields_off : y < b.address n + 2 → (m i : ℕ) → b.stands m ≡ true → i < g.size m →
        put w.word y val (b.address m + 2 + i) ≡ word_of b.address (g.field m i)
    fields_off l m i q r = put-other w.word y val (b.address m + 2 + i)
        (λ e. let s : b.address m ≡ b.address n = ap b.address (same_there m (b.address m + 2 + i) q (omega arith) (omega arith) e) in omega arith)
        ∙ t.laid.fields.holds m i q r

  -- the store of a field of a known object: e is what it holds then
  module _ (n i : ℕ) (e : Entry) (sn : b.stands n ≡ true) (inside : i < g.size n) (ke : IsKnownEntry w.word g b e)
      (se : IsOfSort (holds_reference (kind_of p (g.class n)) i (g.size n)) e) where
    abbrev at : ℕ
    at = b.address n + 2 + i

    abbrev val : ℕ
    val = word_of b.address e

    pub known_stored : (m : ℕ) → IsKnown w.word g b m → IsKnown (put w.word (b.address n + 2 + i) (word_of b.address e)) g b m
    known_stored m q = (
      q.0,
      elim q.1 [
        | inl z ↦ inl z
        | inr h ↦ inr (
          tag_off n at val sn (omega arith) (omega arith) (omega arith) m q.0 ∙ h.0,
          length_off n at val sn (omega arith) (omega arith)
              (omega arith) m q.0 ∙ h.1,
        )
      ],
    )

    pub entry_stored : (x : Entry) → IsKnownEntry w.word g b x → IsKnownEntry (put w.word (b.address n + 2 + i) (word_of b.address e)) (stored g n i e) b x
    entry_stored (Ref m) q = known_stored m q
    entry_stored (Int v) q = tt
    entry_stored (Inner m o) q = known_stored m q

    holds_stored : (m j : ℕ) → b.stands m ≡ true → j < g.size m →
        put w.word at val (b.address m + 2 + j) ≡ word_of b.address (put g.field n (put (g.field n) i e) m j)
    holds_stored m j p q = elim (cases_eq m n) [
      | inl same ↦ elim (cases_eq j i) [
        | inl here ↦ put-at w.word at val (b.address m + 2 + j) (let u : b.address m ≡ b.address n = ap b.address same in omega arith)
            ∙ sym (ap (word_of b.address) (ap (λ (f : ℕ → Entry). f j) (put-at g.field n (put (g.field n) i e) m same) ∙ put-at (g.field n) i e j here))
        | inr there ↦ put-other w.word at val (b.address m + 2 + j) (λ c. there (let u : b.address m ≡ b.address n = ap b.address same in omega arith))
            ∙ t.laid.fields.holds m j p q
            ∙ sym (ap (word_of b.address) (ap (λ (f : ℕ → Entry). f j) (put-at g.field n (put (g.field n) i e) m same) ∙ put-other (g.field n) i e j there
            ∙ ap (λ x. g.field x j) (sym same)))
      ]
      | inr other ↦ put-other w.word at val (b.address m + 2 + j)
          (λ c. other (same_there n at val sn (omega arith) (omega arith) m (b.address m + 2 + j) p (omega arith) (omega arith) c))
          ∙ t.laid.fields.holds m j p q
          ∙ sym (ap (word_of b.address) (ap (λ (f : ℕ → Entry). f j) (put-other g.field n (put (g.field n) i e) m other)))
    ]

    -- what holds of e at (n, i) and of the fields elsewhere
    field_all : (P : ℕ → ℕ → Entry → Type 0) → P n i e → ((m j : ℕ) → P m j (g.field m j)) → (m j : ℕ) → P m j (put g.field n (put (g.field n) i e) m j)
    field_all P here there m = put-all (λ m f. (j : ℕ) → P m j (f j)) g.field n (put (g.field n) i e)
        (put-all (λ j x. P n j x) (g.field n) i e here (λ j _. there n j)) (λ m _. there m) m

    -- a card that is needed then was needed before, or it is that of this field
    pub needs_stored : (card : ℕ) → IsNeeded p (stored g n i e) b card →
        IsNeeded p g b card ⊎ ((b.section n ≡ Old) × ((target : ℕ) × (e ≡ Ref target)) × (card_of (layout_of p) (b.address n + 2 + i) ≡ card))
    needs_stored card q = elim (cases_eq q.name n) [
      | inl same ↦
          let field = ap (λ (f : ℕ → Entry). f q.index) (put-at g.field n (put (g.field n) i e) q.name same) in
          elim (cases_eq q.index i) [
            | inl here ↦ inr (
              ap b.section (sym same) ∙ q.old,
              (q.target, sym (put-at (g.field n) i e q.index here) ∙ sym field ∙ q.refers),
              ap (λ m. card_of (layout_of p) (b.address m + 2 + i)) (sym same) ∙ ap (λ j. card_of (layout_of p) (b.address q.name + 2 + j)) (sym here) ∙ q.at,
            )
            | inr there ↦ inl (before q (ap (λ m. g.field m q.index) same ∙ sym (put-other (g.field n) i e q.index there) ∙ sym field ∙ q.refers))
          ]
      | inr other ↦ inl (before q (sym (ap (λ (f : ℕ → Entry). f q.index) (put-other g.field n (put (g.field n) i e) q.name other)) ∙ q.refers))
    ]
      where
        before : (q : IsNeeded p (stored g n i e) b card) → g.field q.name q.index ≡ Ref q.target → IsNeeded p g b card
        before q refers = record {
          name = q.name;
          index = q.index;
          target = q.target;
          some = q.some;
          standing = q.standing;
          old = q.old;
          inside = q.inside;
          strong = q.strong;
          refers = refers;
          one = q.one;
          young = q.young;
          at = q.at;
        }

    pub field_stored : {after : Mid} → ((card : ℕ) → IsNeeded p (stored g n i e) b card → IsNeeded p g b card ⊎ Marks card after) →
        Change p lay w g b said k after (write w (Word (b.address n + 2 + i)) (word_of b.address e)) (stored g n i e) b
    field_stored needs = record {
      owner = owner;
      later = later_stored n at val sn (omega arith) (omega arith) (put g.field n (put (g.field n) i e)) known_stored
          (λ m q x. length_off n at val sn (omega arith) (omega arith) (omega arith) m q ∙ x);
      needs = needs;
      ground = ground_stored n at val sn (omega arith) (omega arith) (put g.field n (put (g.field n) i e)) known_stored holds_stored
          (λ m j q r. field_all (λ m j x. b.stands m ≡ true → j < g.size m → IsKnownEntry (put w.word at val) g b x)
          (λ _ _. entry_later w g b (write w (Word at) val) g b e known_stored ke)
          (λ m j s l. entry_later w g b (write w (Word at) val) g b (g.field m j) known_stored (t.laid.fields.known m j s l)) m j q r)
          (λ m j q r. field_all (λ m j x. b.stands m ≡ true → j < g.size m → IsOfSort (holds_reference (kind_of p (g.class m)) j (g.size m)) x)
          (λ _ _. se) t.laid.fields.sorted m j q r);
      mutators = refl;
    }

  -- the fields of an old object have cards
  pub old_has_card : (n i : ℕ) → n ≢ 0 → b.stands n ≡ true → i < g.size n → b.section n ≡ Old → HasCard (layout_of p) (b.address n + 2 + i)
  old_has_card n i some sn inside old = elim (t.laid.objects.inside n (omega (arith, some)) sn) [
    | inl young ↦ absurd (let e : Young ≡ Old = sym young.0 ∙ old in cc)
    | inr there ↦ let lo = there.1 in let hi = there.2 in (omega arith, omega arith)
  ]

  module _ (a : Actor) (rest : List Statement) where
    -- the deciding store of a reference into a slot that has no card
    pub puts : (r i s : ℕ) → ¬ HasCard (sections_of p) (object_in a r + 2 + i) → Stands p lay w g b said k (within a rest (Access (Put r i s))) →
        Kept p lay w g b said k (Access (Put r i s)) true (write w (Word (object_in a r + 2 + i)) (a.reg s)) (over a rest a.reg Fine)
    puts r i s cardless st =
        let test : Test = record { register = r; field = i; sort = Reference } in
        let x = tested_as p g st.entry (Put r i s) st.at.0 test refl st.at.1 in
        let n = x.name in
        let sn = (known_at p lay w g b said k owner t _ st r n x.holds).0 in
        let f = reference_field (kind_of p (g.class n)) (g.size n) i x.finds in
        let target = is_ref (st.entry s) (fits_as p lay w g b said k st.entry (Put r i s ∷ rest) st.answers st.at.2 st.fits).0.1 in
        let ea = object_at p lay w g b said k owner t _ st r n x.holds in
        let es = st.regs s in
        let kt : IsKnownEntry w.word g b (Ref target.0) = subst (IsKnownEntry w.word g b) target.1 (st.known s) in
        let sort : IsOfSort (holds_reference (kind_of p (g.class n)) i (g.size n)) (Ref target.0) = subst (λ q. IsOfSort q (Ref target.0)) (sym f.1) tt in
        let needs : (card : ℕ) → IsNeeded p (stored g n i (Ref target.0)) b card → IsNeeded p g b card ⊎ Marks card Idle = λ card q.
        elim (needs_stored n i (Ref target.0) sn f.0 kt sort card q) [
          | inl old ↦ inl old
          | inr own ↦ absurd (cardless (subst (λ z. HasCard (sections_of p) (z + 2 + i)) (sym ea) (old_has_card n i x.some sn f.0 own.0)))
        ] in
        let ch = field_stored n i (Ref target.0) sn f.0 kt sort needs in
        let known = entry_stored n i (Ref target.0) sn f.0 kt sort in
        subst (λ z. Kept p lay w g b said k (Access (Put r i s)) true (write w (Word (z + 2 + i)) (a.reg s)) (over a rest a.reg Fine)) (sym ea)
        (subst (λ z. Kept p lay w g b said k (Access (Put r i s)) true (write w (Word (b.address n + 2 + i)) z) (over a rest a.reg Fine))
        (sym (es ∙ ap (word_of b.address) target.1))
        (decided p lay w g b said k _ tt (write w (Word (b.address n + 2 + i)) (word_of b.address (Ref target.0))) (stored g n i (Ref target.0)) ch _
        (Put r i s) rest st st.entry Fine a.reg Fine st.at.2 (
          (n, target.0, finds_as p g (g.mutator k) st.entry (Put r i s ∷ rest) (Put r i s) test x, target.1),
          ap₂ (λ o e. handed (stored g (name_in o) i e) k rest st.entry) (sym x.holds) (sym target.1),
        ) refl st.regs
        (λ q. known (st.entry q) (st.known q)) st.offsets refl tt (λ q. refl) refl))

    -- the deciding store of a number
    pub puts_number : (r i s : ℕ) → Stands p lay w g b said k (within a rest (Access (PutD r i s))) →
        Kept p lay w g b said k (Access (PutD r i s)) true (write w (Word (object_in a r + 2 + i)) (a.reg s)) (over a rest a.reg Fine)
    puts_number r i s st =
        let test : Test = record { register = r; field = i; sort = Plain } in
        let x = tested_as p g st.entry (PutD r i s) st.at.0 test refl st.at.1 in
        let n = x.name in
        let sn = (known_at p lay w g b said k owner t _ st r n x.holds).0 in
        let f = plain_field (kind_of p (g.class n)) (g.size n) i x.finds in
        let number = is_int (st.entry s) (fits_as p lay w g b said k st.entry (PutD r i s ∷ rest) st.answers st.at.2 st.fits).0.1 in
        let ea = object_at p lay w g b said k owner t _ st r n x.holds in
        let es = st.regs s in
        let sort : IsOfSort (holds_reference (kind_of p (g.class n)) i (g.size n)) (Int number.0) = subst (λ q. IsOfSort q (Int number.0)) (sym f.1) tt in
        let needs : (card : ℕ) → IsNeeded p (stored g n i (Int number.0)) b card → IsNeeded p g b card ⊎ Marks card Idle = λ card q.
        elim (needs_stored n i (Int number.0) sn f.0 tt sort card q) [ inl old ↦ inl old | inr own ↦ absurd (let e = own.1.1 in cc) ] in
        let ch = field_stored n i (Int number.0) sn f.0 tt sort needs in
        let known = entry_stored n i (Int number.0) sn f.0 tt sort in
        subst (λ z. Kept p lay w g b said k (Access (PutD r i s)) true (write w (Word (z + 2 + i)) (a.reg s)) (over a rest a.reg Fine)) (sym ea)
        (subst (λ z. Kept p lay w g b said k (Access (PutD r i s)) true (write w (Word (b.address n + 2 + i)) z) (over a rest a.reg Fine))
        (sym (es ∙ ap (word_of b.address) number.1))
        (decided p lay w g b said k _ tt (write w (Word (b.address n + 2 + i)) (word_of b.address (Int number.0))) (stored g n i (Int number.0)) ch _
        (PutD r i s) rest st st.entry Fine a.reg Fine st.at.2 (
          (n, number.0, finds_as p g (g.mutator k) st.entry (PutD r i s ∷ rest) (PutD r i s) test x, number.1),
          ap₂ (λ o e. handed (stored g (name_in o) i e) k rest st.entry) (sym x.holds) (sym number.1),
        ) refl st.regs
        (λ q. known (st.entry q) (st.known q)) st.offsets refl tt (λ q. refl) refl))

    -- the object of a statement that loads a field for references, and the known one that the field holds
    pub field_of : (d r i : ℕ) (st : Stands p lay w g b said k (within a rest (Access (Get d r i)))) →
        (n target : ℕ) × Finds p g (record (g.mutator k) { register = st.entry; script = Get d r i ∷ rest }) (Get d r i) n × (g.field n i ≡ Ref target)
        × IsKnown w.word g b target × (w.word (object_in a r + 2 + i) ≡ byte_at (b.address target))
    field_of d r i st =
        let test : Test = record { register = r; field = i; sort = Reference } in
        let x = tested_as p g st.entry (Get d r i) st.at.0 test refl st.at.1 in
        let n = x.name in
        let sn = (known_at p lay w g b said k owner t _ st r n x.holds).0 in
        let f = reference_field (kind_of p (g.class n)) (g.size n) i x.finds in
        let target = of_reference _ (g.field n i) f.1 (t.laid.fields.sorted n i sn f.0) in (
          n,
          target.0,
          finds_as p g (g.mutator k) st.entry (Get d r i ∷ rest) (Get d r i) test x,
          target.1,
          subst (IsKnownEntry w.word g b) target.1 (t.laid.fields.known n i sn f.0),
          ap (λ z. w.word (z + 2 + i)) (object_at p lay w g b said k owner t _ st r n x.holds) ∙ t.laid.fields.holds n i sn f.0
              ∙ ap (word_of b.address) target.1,
        )

    -- the deciding load of a reference
    pub gets : (d r i v : ℕ) → w.word (object_in a r + 2 + i) ≡ v → Stands p lay w g b said k (within a rest (Access (Get d r i))) →
        Kept p lay w g b said k (Access (Get d r i)) true w (over a rest (put a.reg d v) (reference_answer v))
    gets d r i v e st =
        let x = field_of d r i st in
        let target = x.1 in
        let kt = x.4 in
        let ev : v ≡ word_of b.address (Ref target) = sym e ∙ x.5 in
        let regs = put-along (word_of b.address) a.reg st.entry d v (Ref target) st.regs ev in
        let known = known_put p lay w g b said k owner t _ st d (Ref target) kt in
        let offsets = offsets_put g b a.offset st.entry d (Ref target) (λ o. kt.0) st.offsets in
        let kinds = put-along kind_of_entry (λ r. kind_of_entry (st.entry r)) st.entry d IsRef (Ref target) (λ r. refl) refl in
        elim (cases_eq target 0) [
          | inl z ↦ decided p lay w g b said k _ tt w g (unchanged p lay w g b said k owner t) _ (Get d r i) rest st (put st.entry d (Ref 0)) Nil
              (put a.reg d v) (reference_answer v) st.at.2
              ((x.0, x.2, x.3 ∙ ap Ref z), refl) refl
              (subst (λ m. (q : ℕ) → put a.reg d v q ≡ word_of b.address (put st.entry d (Ref m) q)) z regs)
              (subst (λ m. (q : ℕ) → IsKnownEntry w.word g b (put st.entry d (Ref m) q)) z known)
              (subst (λ m. (q : ℕ) → StandsAt g b (a.offset q) (put st.entry d (Ref m) q)) z offsets)
              (cond-true _ _ _ (eq-eqb v 0 (ev ∙ ap (λ m. byte_at (b.address m)) z ∙ (let u = t.laid.nothing.at_nil in omega arith)))) tt
              (subst (λ m. (q : ℕ) → put (λ r. kind_of_entry (st.entry r)) d IsRef q ≡ kind_of_entry (put st.entry d (Ref m) q)) z kinds) refl
          | inr z ↦ decided p lay w g b said k _ tt w g (unchanged p lay w g b said k owner t) _ (Get d r i) rest st (put st.entry d (Ref target))
              (At target) (put a.reg d v) (reference_answer v) st.at.2
              ((x.0, x.2, x.3, z), refl) refl regs known offsets
              (cond-false _ _ _ (ne_eqb v 0 (λ q. z (name_nil p lay w g b said k owner t target kt.0 (omega arith)))) ∙ ap At ev) kt.0 kinds refl
        ]

    -- the deciding load of a number
    pub gets_number : (d r i v : ℕ) → w.word (object_in a r + 2 + i) ≡ v → Stands p lay w g b said k (within a rest (Access (GetD d r i))) →
        Kept p lay w g b said k (Access (GetD d r i)) true w (over a rest (put a.reg d v) (Number v))
    gets_number d r i v e st =
        let test : Test = record { register = r; field = i; sort = Plain } in
        let x = tested_as p g st.entry (GetD d r i) st.at.0 test refl st.at.1 in
        let n = x.name in
        let sn = (known_at p lay w g b said k owner t _ st r n x.holds).0 in
        let f = plain_field (kind_of p (g.class n)) (g.size n) i x.finds in
        let number = of_number _ (g.field n i) f.1 (t.laid.fields.sorted n i sn f.0) in
        let ev : v ≡ number.0 = sym e ∙ ap (λ z. w.word (z + 2 + i)) (object_at p lay w g b said k owner t _ st r n x.holds) ∙ t.laid.fields.holds n i sn f.0
        ∙ ap (word_of b.address) number.1 in
        decided p lay w g b said k _ tt w g (unchanged p lay w g b said k owner t) _ (GetD d r i) rest st (put st.entry d (Int number.0))
        (Number number.0) (put a.reg d v) (Number v) st.at.2
        ((n, finds_as p g (g.mutator k) st.entry (GetD d r i ∷ rest) (GetD d r i) test x, number.1), refl) refl
        (put-along (word_of b.address) a.reg st.entry d v (Int number.0) st.regs ev)
        (known_put p lay w g b said k owner t _ st d (Int number.0) tt) (offsets_put g b a.offset st.entry d (Int number.0) (λ o. tt) st.offsets)
        (ap Number ev) tt
        (put-along kind_of_entry (λ r. kind_of_entry (st.entry r)) st.entry d IsInt (Int number.0) (λ r. refl) refl) refl
