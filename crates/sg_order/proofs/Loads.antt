-- Each rule by which a mutator goes on keeps the relation: the rules that change no word.
use Rattle.std.proofs.Common.{◌≡◌, ◌≢◌, ℕ, ◌+◌, ◌<◌, ◌≤◌, true, false, Option, Some, None, List, ◌∷◌, map, inl, inr, sym, refl, ap, ◌∙◌, subst, zero-le, nat_lt, Bool, arith}
use Rattle.std.proofs.lemmas.Bool.{cases_eq, cases_lt, cond-true, cond-false, lt-ltb, le-ltb}
use Rattle.sg_words.specs.Address.{byte_at, word_at}
use Rattle.sg_words.specs.Sections.{nursery_base}
use Rattle.sg_words.specs.Tags.{plain_word}
use Rattle.sg_words.specs.Words.{put, Words, write}
use Rattle.sg_program.specs.declared.program.Statement.{Statement}
use Rattle.sg_program.specs.declared.program.Statement.TheVariants.{Get, GetD, Num, Drop}
use Rattle.sg_program.specs.declared.program.Program.{Program}
use Rattle.sg_program.specs.declared.answers.Answer.{Answer}
use Rattle.sg_program.specs.declared.answers.Answer.TheVariants.{Null, Fine, Field}
use Rattle.sg_desc.specs.Shapes.{has_field}
use Rattle.sg_program.specs.declared.answers.Request.{Request}
use Rattle.sg_program.specs.Scripts.{kind_of, IsMaking, IsCollecting, made_words}
use Rattle.sg_program.specs.Kinds.{Kinds, IsRef, IsInt, IsInner, Needs, kinds_after}
use Rattle.sg_graph.specs.Graph.{Entry, Ref, Int, Inner, Mutator, Graph, advanced}
use Rattle.sg_graph.specs.Statements.{FindsNone, Misses, Does}
use Rattle.sg_program.specs.Tests.{Test, test_of}
use Rattle.sg_graph.specs.Book.{Book, Books, word_of}
use Rattle.sg_graph.specs.Heap.{Owner, IsKnown, IsKnownEntry}
use Rattle.sg_words.specs.declared.steps.Place.TheVariants.{Stop}
use Rattle.sg_rules.specs.Rules.{Constants, Mid, Idle, TestTag, TestLength, Access, Look, Claim, Ask, Left, Yielded, Actor, before, within, over, cleared, object_in, looking}
use Rattle.sg_order.specs.Rest.{kind_of_entry}
use Rattle.sg_order.specs.Rest.{StandsAt}
use Rattle.sg_words.proofs.Puts.{put-all, put-along}
use Rattle.sg_order.proofs.Relation.{Ground, IsMutator, Tight, AsksForRoom, AtMid, Stands, Kept}
use Rattle.sg_order.proofs.Cases.{by_test, by_making, by_collecting}
use Rattle.sg_order.proofs.Moves.{kinds_of, offsets_put, unchanged, silent, still, no_heads, ground_aside, later_aside, again, fits_as, decided}

-- the word at the byte address of a word
pub word_at-byte_at : (x : ℕ) → word_at (byte_at x) ≡ x
word_at-byte_at x = omega arith

-- what holds a reference holds a name, and what holds a number a number
pub is_ref : (e : Entry) → kind_of_entry e ≡ IsRef → (n : ℕ) × (e ≡ Ref n)
is_ref (Ref n) q = (n, refl)
is_ref (Int v) q = cc
is_ref (Inner n o) q = cc

pub is_int : (e : Entry) → kind_of_entry e ≡ IsInt → (v : ℕ) × (e ≡ Int v)
is_int (Ref n) q = cc
is_int (Int v) q = (v, refl)
is_int (Inner n o) q = cc

pub is_inner : (e : Entry) → kind_of_entry e ≡ IsInner → (n o : ℕ) × (e ≡ Inner n o)
is_inner (Ref n) q = cc
is_inner (Int v) q = cc
is_inner (Inner n o) q = (n, o, refl)

-- the registers after a statement that found no object or no such field
abbrev pub emptied : Statement → (ℕ → Entry) → ℕ → Entry
emptied (Get d r i) register = put register d (Ref 0)
emptied (GetD d r i) register = put register d (Int 0)
emptied s register = register

tested_register : Option Test → ℕ
tested_register None = 0
tested_register (Some t) = t.register

-- the tested register holds a reference
pub needs_ref : (kinds : Kinds) (s : Statement) (test : Test) → Needs kinds s → test_of s ≡ Some test → kinds.register test.register ≡ IsRef
unfolding tested_register
needs_ref kinds s test n e = by_test (λ s. Needs kinds s → test_of s ≡ Some test → kinds.register test.register ≡ IsRef)
    (λ r i s n e. subst (λ x. kinds.register x ≡ IsRef) (ap tested_register e) n.0)
    (λ d r i n e. subst (λ x. kinds.register x ≡ IsRef) (ap tested_register e) n)
    (λ r i s n e. subst (λ x. kinds.register x ≡ IsRef) (ap tested_register e) n.0)
    (λ d r i n e. subst (λ x. kinds.register x ≡ IsRef) (ap tested_register e) n)
    s test e n e

-- the kinds after a statement that failed its test
pub kinds_emptied : (s : Statement) (test : Test) → test_of s ≡ Some test → (entry : ℕ → Entry) (stack : List Entry) (r : ℕ) →
    (kinds_after (kinds_of entry stack) s).register r ≡ kind_of_entry (emptied s entry r)
kinds_emptied s test e entry stack = by_test (λ s. (r : ℕ) → (kinds_after (kinds_of entry stack) s).register r ≡ kind_of_entry (emptied s entry r))
    (λ r i s q. refl)
    (λ d r i. put-along kind_of_entry (λ r. kind_of_entry (entry r)) entry d IsRef (Ref 0) (λ r. refl) refl)
    (λ r i s q. refl)
    (λ d r i. put-along kind_of_entry (λ r. kind_of_entry (entry r)) entry d IsInt (Int 0) (λ r. refl) refl)
    s test e

-- a statement with a test leaves the stack
pub kinds_piled : (s : Statement) (test : Test) → test_of s ≡ Some test → (entry : ℕ → Entry) (stack : List Entry) →
    (kinds_after (kinds_of entry stack) s).stack ≡ map kind_of_entry stack
kinds_piled s test e entry stack = by_test (λ s. (kinds_after (kinds_of entry stack) s).stack ≡ map kind_of_entry stack) (λ r i s. refl) (λ d r i. refl)
    (λ r i s. refl) (λ d r i. refl) s test e

does_null : (p : Program) (g : Graph) (k : ℕ) (m : Mutator) (s : Statement) (rest : List Statement) (test : Test) → test_of s ≡ Some test → FindsNone m s →
    Does p g k m s rest Null (advanced g k (record m { register = emptied s m.register }) rest)
does_null p g k m s rest test e = by_test (λ s. FindsNone m s → Does p g k m s rest Null (advanced g k (record m { register = emptied s m.register }) rest))
    (λ r i s f. (f, refl)) (λ d r i f. (f, refl)) (λ r i s f. (f, refl)) (λ d r i f. (f, refl)) s test e

does_field : (p : Program) (g : Graph) (k : ℕ) (m : Mutator) (s : Statement) (rest : List Statement) (test : Test) → test_of s ≡ Some test → Misses p g m s →
    Does p g k m s rest Field (advanced g k (record m { register = emptied s m.register }) rest)
does_field p g k m s rest test e = by_test
    (λ s. Misses p g m s → Does p g k m s rest Field (advanced g k (record m { register = emptied s m.register }) rest)) (λ r i s f. (f, refl))
    (λ d r i f. (f, refl)) (λ r i s f. (f, refl)) (λ d r i f. (f, refl)) s test e

books_null : (p : Program) (g : Graph) (b : Book) (k : ℕ) (s : Statement) (test : Test) → test_of s ≡ Some test → Books p g b k s Null b
books_null p g b k s test e = by_test (λ s. Books p g b k s Null b) (λ r i s. refl) (λ d r i. refl) (λ r i s. refl) (λ d r i. refl) s test e

books_field : (p : Program) (g : Graph) (b : Book) (k : ℕ) (s : Statement) (test : Test) → test_of s ≡ Some test → Books p g b k s Field b
books_field p g b k s test e = by_test (λ s. Books p g b k s Field b) (λ r i s. refl) (λ d r i. refl) (λ r i s. refl) (λ d r i. refl) s test e

-- who finds no room asks
to_ask : (p : Program) (lay : Constants) (b : Book) (k : ℕ) (s : Statement) → IsMaking s → Tight b k (made_words p s) lay.fragments → AsksForRoom p lay b k s
to_ask p lay b k s e = by_making (λ s. Tight b k (made_words p s) lay.fragments → AsksForRoom p lay b k s) (λ r class t. t) (λ r class count t. t) s e

-- and who asks in any case
asks_anyhow : (p : Program) (lay : Constants) (b : Book) (k : ℕ) (s : Statement) (request : Request) → IsCollecting s request → AsksForRoom p lay b k s
asks_anyhow p lay b k s request e = by_collecting (AsksForRoom p lay b k) (λ major. tt) tt s request e

module _ (p : Program) (lay : Constants) (w : Words) (g : Graph) (b : Book) (said : ℕ → List Answer) (k : ℕ) (owner : ℕ → Owner)
    (t : Ground p lay w g b owner) where
  -- two standing objects that share a word are one
  pub same_object : (m n x : ℕ) → b.stands m ≡ true → b.stands n ≡ true → b.address m ≤ x → x < b.address m + (g.size m + 2) → b.address n ≤ x →
      x < b.address n + (g.size n + 2) → m ≡ n
  same_object m n x p q e f i j = let u = t.laid.objects.owns m x p e f in let v = t.laid.objects.owns n x q i j in cc

  pub name_nil : (n : ℕ) → b.stands n ≡ true → b.address n ≡ 0 → n ≡ 0
  name_nil n p e = same_object n 0 0 p t.laid.nothing.stands_nil (omega arith) (omega arith) (let u = t.laid.nothing.at_nil in omega arith)
      (let u = t.laid.nothing.at_nil in omega arith)

  pub known_nil : IsKnown w.word g b 0
  known_nil = (t.laid.nothing.stands_nil, inl refl)

  pub word_nil : 0 ≡ word_of b.address (Ref 0)
  word_nil = let u = t.laid.nothing.at_nil in omega arith

  -- the header of a known object that isn't nothing
  pub headed : (n : ℕ) → n ≢ 0 → IsKnown w.word g b n → (w.word (b.address n) ≡ plain_word (g.class n)) × (w.word (b.address n + 1) ≡ g.size n)
  headed n z q = elim q.1 [ inl e ↦ absurd (z e) | inr h ↦ h ]

  -- which class the tag says, and which number of fields the length
  pub tag_says : (n class : ℕ) → n ≢ 0 → IsKnown w.word g b n → w.word (b.address n) ≡ plain_word class → class ≡ g.class n
  tag_says n class z q c = let h = (headed n z q).0 in omega arith

  pub length_says : (n len : ℕ) → n ≢ 0 → IsKnown w.word g b n → w.word (b.address n + 1) ≡ len → len ≡ g.size n
  length_says n len z q l = sym l ∙ (headed n z q).1

  module _ (a : Actor) (st : Stands p lay w g b said k a) where
    pub reg_at : (r n : ℕ) → st.entry r ≡ Ref n → a.reg r ≡ byte_at (b.address n)
    reg_at r n e = st.regs r ∙ ap (word_of b.address) e

    pub object_at : (r n : ℕ) → st.entry r ≡ Ref n → object_in a r ≡ b.address n
    object_at r n e = ap word_at (reg_at r n e) ∙ word_at-byte_at (b.address n)

    pub known_at : (r n : ℕ) → st.entry r ≡ Ref n → IsKnown w.word g b n
    known_at r n e = subst (IsKnownEntry w.word g b) e (st.known r)

    pub is_nil : (r n : ℕ) → st.entry r ≡ Ref n → a.reg r ≡ 0 → n ≡ 0
    is_nil r n e z = name_nil n (known_at r n e).0 (let u = reg_at r n e in omega arith)

    pub not_nil : (r n : ℕ) → st.entry r ≡ Ref n → a.reg r ≢ 0 → n ≢ 0
    not_nil r n e z q = z (reg_at r n e ∙ ap (λ x. byte_at (b.address x)) q ∙ (let u = t.laid.nothing.at_nil in omega arith))

    -- a register that became empty
    pub regs_emptied : (s : Statement) (test : Test) → test_of s ≡ Some test → (r : ℕ) → cleared s a.reg r ≡ word_of b.address (emptied s st.entry r)
    regs_emptied s test e = by_test (λ s. (r : ℕ) → cleared s a.reg r ≡ word_of b.address (emptied s st.entry r))
        (λ r i s. st.regs)
        (λ d r i. put-along (word_of b.address) a.reg st.entry d 0 (Ref 0) st.regs word_nil)
        (λ r i s. st.regs)
        (λ d r i. put-along (word_of b.address) a.reg st.entry d 0 (Int 0) st.regs refl)
        s test e

    pub known_put : (d : ℕ) (e : Entry) → IsKnownEntry w.word g b e → (r : ℕ) → IsKnownEntry w.word g b (put st.entry d e r)
    known_put d e q = put-all (λ _ x. IsKnownEntry w.word g b x) st.entry d e q (λ j _. st.known j)

    pub known_emptied : (s : Statement) (test : Test) → test_of s ≡ Some test → (r : ℕ) → IsKnownEntry w.word g b (emptied s st.entry r)
    known_emptied s test e = by_test (λ s. (r : ℕ) → IsKnownEntry w.word g b (emptied s st.entry r))
        (λ r i s. st.known) (λ d r i. known_put d (Ref 0) known_nil) (λ r i s. st.known) (λ d r i. known_put d (Int 0) tt) s test e

    pub offsets_emptied : (s : Statement) (test : Test) → test_of s ≡ Some test → (r : ℕ) → StandsAt g b (a.offset r) (emptied s st.entry r)
    offsets_emptied s test e = by_test (λ s. (r : ℕ) → StandsAt g b (a.offset r) (emptied s st.entry r))
        (λ r i s. st.offsets) (λ d r i. offsets_put g b a.offset st.entry d (Ref 0) (λ o. t.laid.nothing.stands_nil) st.offsets)
        (λ r i s. st.offsets) (λ d r i. offsets_put g b a.offset st.entry d (Int 0) (λ o. tt) st.offsets) s test e

  module _ (a : Actor) (rest : List Statement) where
    -- the statement finds the kinds that it needs
    pub needs_now : (s : Statement) (st : Stands p lay w g b said k (before a s rest)) → Needs (kinds_of st.entry (g.mutator k).stack) s
    needs_now s st = (fits_as p lay w g b said k st.entry (s ∷ rest) st.answers st.at st.fits).0

    -- the tested register holds a name
    tested_name : (s : Statement) (test : Test) (st : Stands p lay w g b said k (before a s rest)) → test_of s ≡ Some test →
        (n : ℕ) × (st.entry test.register ≡ Ref n)
    tested_name s test st e = is_ref (st.entry test.register) (needs_ref (kinds_of st.entry (g.mutator k).stack) s test (needs_now s st) e)

    pub nulls : (s : Statement) (test : Test) → test_of s ≡ Some test → a.reg test.register ≡ 0 → Stands p lay w g b said k (before a s rest) →
        Kept p lay w g b said k Idle true w (over a rest (cleared s a.reg) Null)
    nulls s test e z st =
        let n = tested_name s test st e in
        decided p lay w g b said k _ tt w g (unchanged p lay w g b said k owner t) _ s rest st (emptied s st.entry) Null (cleared s a.reg) Null st.at
        (does_null p g k (record (g.mutator k) { register = st.entry; script = s ∷ rest }) s rest test e
        (record { test = test; tests = e; holds = n.1 ∙ ap Ref (is_nil _ st test.register n.0 n.1 z) }))
        (books_null p g b k s test e) (regs_emptied _ st s test e) (known_emptied _ st s test e) (offsets_emptied _ st s test e) refl tt
        (kinds_emptied s test e st.entry (g.mutator k).stack) (kinds_piled s test e st.entry (g.mutator k).stack)

    -- the load of the stop word of a statement with a test
    pub begins : (s : Statement) (test : Test) → test_of s ≡ Some test → a.reg test.register ≢ 0 → Stands p lay w g b said k (before a s rest) →
        Kept p lay w g b said k Idle false w (within a rest (TestTag s test))
    begins s test e z st =
        let n = tested_name s test st e in
        still p lay w g b said k _ tt owner t _ (again p lay w g b said k _ st rest (TestTag s test)
        (record { tests = e; name = n.0; holds = n.1; some = not_nil _ st test.register n.0 n.1 z }, st.at))

    -- the load of the tag
    pub sees_tag : (s : Statement) (test : Test) (class : ℕ) → w.word (object_in a test.register) ≡ plain_word class →
        Stands p lay w g b said k (within a rest (TestTag s test)) →
        Kept p lay w g b said k (TestTag s test) false w (within a rest (TestLength s test class))
    sees_tag s test class c st =
        let n = st.at.0 in
        let is = tag_says n.name class n.some (known_at _ st test.register n.name n.holds)
        (ap w.word (sym (object_at _ st test.register n.name n.holds)) ∙ c) in
        still p lay w g b said k _ tt owner t _ (again p lay w g b said k _ st rest (TestLength s test class) (n, is, st.at.1))

    -- what the header says of the field
    field_says : (s : Statement) (test : Test) (class len : ℕ) (has : Bool) → has_field test.sort (kind_of p class) len test.field ≡ has →
        w.word (object_in a test.register + 1) ≡ len →
        (st : Stands p lay w g b said k (within a rest (TestLength s test class))) →
        has_field test.sort (kind_of p (g.class st.at.0.name)) (g.size st.at.0.name) test.field ≡ has
    field_says s test class len has f l st =
        let n = st.at.0 in
        let is = length_says n.name len n.some (known_at _ st test.register n.name n.holds)
        (ap (λ x. w.word (x + 1)) (sym (object_at _ st test.register n.name n.holds)) ∙ l) in
        ap (λ c. has_field test.sort (kind_of p c) (g.size n.name) test.field) (sym st.at.1) ∙ ap (λ m. has_field test.sort (kind_of p class) m test.field)
        (sym is) ∙ f

    -- the load of the length: there is such a field
    pub sees_length : (s : Statement) (test : Test) (class len : ℕ) → has_field test.sort (kind_of p class) len test.field ≡ true →
        w.word (object_in a test.register + 1) ≡ len →
        Stands p lay w g b said k (within a rest (TestLength s test class)) →
        Kept p lay w g b said k (TestLength s test class) false w (within a rest (Access s))
    sees_length s test class len f l st =
        let n = st.at.0 in
        still p lay w g b said k _ tt owner t _ (again p lay w g b said k _ st rest (Access s)
        (test, record { tests = n.tests; name = n.name; holds = n.holds; some = n.some; finds = field_says s test class len true f l st }, st.at.2))

    -- or there is none, which decides the statement
    pub fails : (s : Statement) (test : Test) (class len : ℕ) → has_field test.sort (kind_of p class) len test.field ≡ false →
        w.word (object_in a test.register + 1) ≡ len →
        Stands p lay w g b said k (within a rest (TestLength s test class)) →
        Kept p lay w g b said k (TestLength s test class) true w (over a rest (cleared s a.reg) Field)
    fails s test class len f l st =
        let n = st.at.0 in
        let e = n.tests in
        decided p lay w g b said k _ tt w g (unchanged p lay w g b said k owner t) _ s rest st (emptied s st.entry) Field
        (cleared s a.reg) Field st.at.2
        (does_field p g k (record (g.mutator k) { register = st.entry; script = s ∷ rest }) s rest test e
        (record { test = test; tests = e; name = n.name; holds = n.holds; some = n.some; misses = field_says s test class len false f l st }))
        (books_field p g b k s test e) (regs_emptied _ st s test e) (known_emptied _ st s test e) (offsets_emptied _ st s test e) refl tt
        (kinds_emptied s test e st.entry (g.mutator k).stack) (kinds_piled s test e st.entry (g.mutator k).stack)

    pub sets_number : (d n : ℕ) → Stands p lay w g b said k (before a (Num d n) rest) → Kept p lay w g b said k Idle true w (over a rest (put a.reg d n) Fine)
    sets_number d n st = decided p lay w g b said k _ tt w g (unchanged p lay w g b said k owner t) _ (Num d n) rest st (put st.entry d (Int n)) Fine
        (put a.reg d n) Fine st.at
        (tt, refl) refl (put-along (word_of b.address) a.reg st.entry d n (Int n) st.regs refl) (known_put _ st d (Int n) tt)
        (offsets_put g b a.offset st.entry d (Int n) (λ o. tt) st.offsets) refl tt
        (put-along kind_of_entry (λ r. kind_of_entry (st.entry r)) st.entry d IsInt (Int n) (λ r. refl) refl) refl

    pub clears : (r : ℕ) → Stands p lay w g b said k (before a (Drop r) rest) → Kept p lay w g b said k Idle true w (over a rest (put a.reg r 0) Fine)
    clears r st = decided p lay w g b said k _ tt w g (unchanged p lay w g b said k owner t) _ (Drop r) rest st (put st.entry r (Ref 0)) Fine
        (put a.reg r 0) Fine st.at
        (tt, refl) refl (put-along (word_of b.address) a.reg st.entry r 0 (Ref 0) st.regs word_nil) (known_put _ st r (Ref 0) known_nil)
        (offsets_put g b a.offset st.entry r (Ref 0) (λ o. t.laid.nothing.stands_nil) st.offsets) refl tt
        (put-along kind_of_entry (λ r. kind_of_entry (st.entry r)) st.entry r IsRef (Ref 0) (λ r. refl) refl) refl

    -- the search goes on from fragment f, or there is none, and the mutator asks
    looks_on : (s : Statement) (f : ℕ) → IsMaking s → f ≤ lay.fragments → Tight b k (made_words p s) f → (entry : ℕ → Entry) (answers : List Answer) →
        IsMutator g said k entry (s ∷ rest) answers →
        AtMid p lay w g b said k entry answers rest (looking lay s f)
    looks_on s f making most h entry answers is = elim (cases_lt f lay.fragments) [
      | inl l ↦ subst (λ (mid : Mid). AtMid p lay w g b said k entry answers rest mid)
          (sym (cond-true (nat_lt f lay.fragments) (Look s f) (Ask s) (lt-ltb f lay.fragments l))) (making, l, h, is)
      | inr l ↦ subst (λ (mid : Mid). AtMid p lay w g b said k entry answers rest mid)
          (sym (cond-false (nat_lt f lay.fragments) (Look s f) (Ask s) (le-ltb f lay.fragments l)))
          (to_ask p lay b k s making (record { short = h.short; below = λ j q. h.below j (omega arith) }), is)
    ]

    -- the search for a fragment
    pub searches : (s : Statement) → IsMaking s → a.to < a.from + made_words p s → Stands p lay w g b said k (before a s rest) →
        Kept p lay w g b said k Idle false w (within a rest (looking lay s 0))
    searches s making l st = still p lay w g b said k _ tt owner t _ (again p lay w g b said k _ st rest (looking lay s 0)
        (looks_on s 0 making zero-le (record {
          short = (let x = st.from_is in let y = st.to_is in omega arith);
          below = λ j h. absurd
              (omega arith);
        }) st.entry st.answers st.at))

    -- the word that was seen is the book's
    seen_is : (f next : ℕ) → f < lay.fragments → w.next f ≡ byte_at next → next ≡ b.next f
    seen_is f next lf e =
        let there : f < b.fragments = (let x = t.number in omega arith) in
        let x = t.words f there in
        omega arith

    seen_in : (f next : ℕ) → f < lay.fragments → w.next f ≡ byte_at next → nursery_base ≤ next
    seen_in f next lf e =
        let z = seen_is f next lf e in
        let inside = (t.laid.fragments.inside f (let x = t.number in omega arith)).0 in
        omega arith

    pub finds_room : (s : Statement) (f next : ℕ) → next + made_words p s ≤ lay.limit f → w.next f ≡ byte_at next → Stands p lay w g b said k (within a rest (Look s f)) →
        Kept p lay w g b said k (Look s f) false w (within a rest (Claim s f next))
    finds_room s f next l e st = still p lay w g b said k _ tt owner t _ (again p lay w g b said k _ st rest (Claim s f next)
        (st.at.0, st.at.1, st.at.2, l, st.at.3, (let z = seen_is f next st.at.1 e in omega arith), seen_in f next st.at.1 e))

    -- one more fragment is too small, by the word that was seen
    tighter : (n f next : ℕ) → f < lay.fragments → w.next f ≡ byte_at next → lay.limit f < next + n → Tight b k n f → Tight b k n (f + 1)
    tighter n f next lf e l h =
        let there : f < b.fragments = (let x = t.number in omega arith) in
        let x = t.words f there in
        let y = t.limits f there in
        record {
          short = h.short;
          below = λ j q. elim (cases_eq j f) [
            | inl s ↦ (let u = ap b.next s in let v = ap b.limit s in omega arith)
            | inr s ↦ h.below j (omega arith)
          ];
        }

    pub finds_small : (s : Statement) (f next : ℕ) → lay.limit f < next + made_words p s → w.next f ≡ byte_at next →
        Stands p lay w g b said k (within a rest (Look s f)) →
        Kept p lay w g b said k (Look s f) false w (within a rest (looking lay s (f + 1)))
    finds_small s f next l e st = still p lay w g b said k _ tt owner t _ (again p lay w g b said k _ st rest (looking lay s (f + 1))
        (looks_on s (f + 1) st.at.0 (let u = st.at.1 in omega arith) (tighter (made_words p s) f next st.at.1 e l st.at.2) st.entry st.answers st.at.3))

    -- a claim that is lost: the word that was found leaves room in the same fragment, or it doesn't
    pub claims_again : (s : Statement) (f seen next : ℕ) → next + made_words p s ≤ lay.limit f → w.next f ≡ byte_at next → Stands p lay w g b said k (within a rest (Claim s f seen)) →
        Kept p lay w g b said k (Claim s f seen) false w (within a rest (Claim s f next))
    claims_again s f seen next l e st = still p lay w g b said k _ tt owner t _ (again p lay w g b said k _ st rest (Claim s f next)
        (st.at.0, st.at.1, st.at.2, l, st.at.4, (let z = seen_is f next st.at.1 e in omega arith), seen_in f next st.at.1 e))

    pub claims_on : (s : Statement) (f seen next : ℕ) → lay.limit f < next + made_words p s → w.next f ≡ byte_at next → Stands p lay w g b said k (within a rest (Claim s f seen)) →
        Kept p lay w g b said k (Claim s f seen) false w (within a rest (looking lay s (f + 1)))
    claims_on s f seen next l e st = still p lay w g b said k _ tt owner t _ (again p lay w g b said k _ st rest (looking lay s (f + 1))
        (looks_on s (f + 1) st.at.0 (let u = st.at.1 in omega arith) (tighter (made_words p s) f next st.at.1 e l st.at.2) st.entry st.answers st.at.4))

    -- a collection, or what stands in each section
    pub wants : (s : Statement) (request : Request) → IsCollecting s request → Stands p lay w g b said k (before a s rest) →
        Kept p lay w g b said k Idle false w (within a rest (Ask s))
    wants s request e st = still p lay w g b said k _ tt owner t _ (again p lay w g b said k _ st rest (Ask s) (asks_anyhow p lay b k s request e, st.at))

    -- another one asks for a stop
    pub gives_way : (s : Statement) → Stands p lay w g b said k (before a s rest) → Kept p lay w g b said k Idle false w (within a (s ∷ rest) Yielded)
    gives_way s st = still p lay w g b said k _ tt owner t _ (again p lay w g b said k _ st (s ∷ rest) Yielded st.at)

    -- the stop word is set: it enters into nothing
    pub leaves : (s : Statement) → Stands p lay w g b said k (within a rest (Ask s)) →
        Kept p lay w g b said k (Ask s) false (write w Stop 1) (within a rest (Left s))
    leaves s st = silent p lay w g b said k (Ask s) (write w Stop 1) g b (within a rest (Left s)) (record {
      owner = owner;
      later = later_aside p w g b said k 1 w.card (λ x e. e);
      needs = λ x q. inl q;
      ground = ground_aside p lay w g b owner 1 w.card t;
      mutators = refl;
    }) refl refl (no_heads w g b (Ask s) (write w Stop 1) g b (Left s) (λ n q. q) tt) (λ x m. absurd m) (record {
      entry = st.entry;
      answers = st.answers;
      regs = st.regs;
      known = st.known;
      offsets = st.offsets;
      stack = st.stack;
      told = st.told;
      given = st.given;
      from_is = st.from_is;
      to_is = st.to_is;
      at = st.at;
      fits = st.fits;
      runnable = st.runnable;
    })
