-- A step of one mutator keeps what the others rest on.
use Rattle.std.proofs.Common.{◌≡◌, ◌≢◌, ℕ, ◌+◌, subst, Bool, true, List, [], ◌∷◌, ◌++◌, map, sym, refl, ap, ◌∙◌, ap₂, arith, inl, inr}
use Rattle.std.specs.List.{AllByRecursion}
use Rattle.sg_words.specs.Address.{byte_at}
use Rattle.sg_words.specs.Words.{Words}
use Rattle.sg_program.specs.declared.program.Statement.{Statement}
use Rattle.sg_program.specs.declared.program.Statement.TheVariants.{New, NewV, Mature, Put, Get, PutD, GetD, Num, Move, Hide, Unhide, Drop, Push, Pop, GPut, GGet, WSet, WGet, Final, NextFin, Same, Collect, Sections}
use Rattle.sg_program.specs.declared.program.Program.{Program}
use Rattle.sg_program.specs.declared.answers.Answer.{Answer}
use Rattle.sg_program.specs.declared.answers.Answer.TheVariants.{At, Nil, Null, Number, Fine, Yes, No, Field, Full}
use Rattle.sg_desc.specs.Shapes.{has_field}
use Rattle.sg_program.specs.Scripts.{kind_of, made_words}
use Rattle.sg_program.specs.Invariants.{FindKinds}
use Rattle.sg_graph.specs.Graph.{Entry, Ref, Int, Inner, Mutator, Graph}
use Rattle.sg_program.specs.Tests.{Test}
use Rattle.sg_graph.specs.Book.{Book, word_of}
use Rattle.sg_graph.specs.Epoch.{by_address}
use Rattle.sg_rules.specs.Rules.{Constants, StackWord, Mid, Idle, TestTag, TestLength, Access, MarkCard, AccessGlobal, Look, Claim, StoreLength, StoreTag, HideLength, Ask, Left, Yielded, Actor}
use Rattle.sg_rules.specs.Rules.{Task, Search, Roam, SeeBlock, TakeBlock, SeeUsed, TakeSlot, TakeOver, StoreOccupancy, ClearSlots, ClearWords, Retired}
use Rattle.sg_order.specs.Rest.{kinds_in}
use Rattle.sg_rules.specs.Resting.{IsRunnable}
use Rattle.sg_order.specs.Rest.{StandsAt}
use Rattle.sg_graph.specs.Heap.{IsKnown, IsKnownEntry}
use Rattle.sg_order.proofs.Relation.{IsGiven, AreGiven, IsMutator, Tight, AsksForRoom, Tested, Placed, AtTask, AtMid, Keeps, Stacked, Stands, Later}

address_later : (b c : Book) (answer : Answer) → IsGiven b.stands answer → ((n : ℕ) → b.stands n ≡ true → c.address n ≡ b.address n) →
    by_address c answer ≡ by_address b answer
address_later b c (At n) g e = ap (λ x. At (byte_at x)) (e n g)
address_later b c Nil g e = refl
address_later b c Null g e = refl
address_later b c (Number v) g e = refl
address_later b c Fine g e = refl
address_later b c Yes g e = refl
address_later b c No g e = refl
address_later b c Field g e = refl
address_later b c Full g e = refl

pub answers_later : (b c : Book) (said : List Answer) → AreGiven b.stands said → ((n : ℕ) → b.stands n ≡ true → c.address n ≡ b.address n) →
    map (by_address c) said ≡ map (by_address b) said
answers_later b c [] g e = refl
answers_later b c (answer ∷ said) g e = ap₂ (λ x s. x ∷ s) (address_later b c answer g.0 e) (answers_later b c said g.1 e)

is_given_later : (s t : ℕ → Bool) (answer : Answer) → ((n : ℕ) → s n ≡ true → t n ≡ true) → IsGiven s answer → IsGiven t answer
is_given_later s t (At n) l g = l n g
is_given_later s t Nil l g = tt
is_given_later s t Null l g = tt
is_given_later s t (Number v) l g = tt
is_given_later s t Fine l g = tt
is_given_later s t Yes l g = tt
is_given_later s t No l g = tt
is_given_later s t Field l g = tt
is_given_later s t Full l g = tt

pub given_later : (s t : ℕ → Bool) (said : List Answer) → ((n : ℕ) → s n ≡ true → t n ≡ true) → AreGiven s said → AreGiven t said
given_later s t [] l g = tt
given_later s t (answer ∷ said) l g = (is_given_later s t answer l g.0, given_later s t said l g.1)

-- one more answer at the end
pub answers_push : (b : Book) (said : List Answer) (answer : Answer) →
    map (by_address b) (said ++ answer ∷ []) ≡ map (by_address b) said ++ by_address b answer ∷ []
answers_push b [] answer = refl
answers_push b (x ∷ said) answer = ap (λ s. by_address b x ∷ s) (answers_push b said answer)

pub given_push : (s : ℕ → Bool) (said : List Answer) (answer : Answer) → AreGiven s said → IsGiven s answer → AreGiven s (said ++ answer ∷ [])
given_push s [] answer g i = (i, tt)
given_push s (x ∷ said) answer g i = (g.0, given_push s said answer g.1 i)

-- the word of a known entry stays
pub word_later : (w : Words) (g : Graph) (b c : Book) (entry : Entry) → IsKnownEntry w.word g b entry →
    ((n : ℕ) → b.stands n ≡ true → c.address n ≡ b.address n) → word_of c.address entry ≡ word_of b.address entry
word_later w g b c (Ref n) q e = ap byte_at (e n q.0)
word_later w g b c (Int v) q e = refl
word_later w g b c (Inner n o) q e = ap (λ a. byte_at a + o) (e n q.0)

pub entry_later : (w : Words) (g : Graph) (b : Book) (v : Words) (h : Graph) (c : Book) (entry : Entry) →
    ((n : ℕ) → IsKnown w.word g b n → IsKnown v.word h c n) → IsKnownEntry w.word g b entry → IsKnownEntry v.word h c entry
entry_later w g b v h c (Ref n) l q = l n q
entry_later w g b v h c (Int x) l q = tt
entry_later w g b v h c (Inner n o) l q = l n q

-- what an entry refers to stands on, and an offset is still below the object's end
pub offset_later : (g : Graph) (b : Book) (h : Graph) (c : Book) (offset : ℕ) (entry : Entry) → ((n : ℕ) → b.stands n ≡ true → c.stands n ≡ true) →
    ((n : ℕ) → b.stands n ≡ true → h.size n ≡ g.size n) →
    StandsAt g b offset entry → StandsAt h c offset entry
offset_later g b h c offset (Ref n) stands size q = stands n q
offset_later g b h c offset (Int x) stands size q = tt
offset_later g b h c offset (Inner n o) stands size q = (
  stands n q.0,
  q.1,
  elim q.2 [
    | inl none ↦ inl none
    | inr some ↦ inr (some.0, (let u = size n q.0 in let l = some.1 in omega arith))
  ],
)

pub keeps_later : (w : Words) (g : Graph) (b : Book) (v : Words) (h : Graph) (c : Book) → ((n : ℕ) → IsKnown w.word g b n → IsKnown v.word h c n) →
    ((n : ℕ) → b.stands n ≡ true → c.stands n ≡ true) →
    ((n : ℕ) → b.stands n ≡ true → c.address n ≡ b.address n) → ((n : ℕ) → b.stands n ≡ true → h.size n ≡ g.size n) →
    (word offset : ℕ) (entry : Entry) → Keeps w.word g b word offset entry → Keeps v.word h c word offset entry
keeps_later w g b v h c known stands address size word offset entry q = record {
  holds = record {
    word_is = q.holds.word_is ∙ sym (word_later w g b c entry q.known address);
    stands = offset_later g b h c offset entry stands size q.holds.stands;
  };
  known = entry_later w g b v h c entry known q.known;
}

pub stack_later : (w : Words) (g : Graph) (b : Book) (v : Words) (h : Graph) (c : Book) → ((n : ℕ) → IsKnown w.word g b n → IsKnown v.word h c n) →
    ((n : ℕ) → b.stands n ≡ true → c.stands n ≡ true) →
    ((n : ℕ) → b.stands n ≡ true → c.address n ≡ b.address n) → ((n : ℕ) → b.stands n ≡ true → h.size n ≡ g.size n) →
    (slots : List StackWord) (entries : List Entry) → Stacked w.word g b slots entries → Stacked v.word h c slots entries
stack_later w g b v h c known stands address size [] [] q = tt
stack_later w g b v h c known stands address size [] (y ∷ ys) q = absurd q
stack_later w g b v h c known stands address size (x ∷ xs) [] q = absurd q
stack_later w g b v h c known stands address size (x ∷ xs) (y ∷ ys) q = (
  keeps_later w g b v h c known stands address size x.word x.offset y q.0,
  stack_later w g b v h c known stands address size xs ys q.1,
)

module _ (p : Program) (lay : Constants) (w : Words) (g : Graph) (b : Book) (said : ℕ → List Answer) (v : Words) (h : Graph) (c : Book)
    (said' : ℕ → List Answer) (k j : ℕ) (l : Later p w g b said v h c said' k) (n : j ≢ k) where
  -- the same, at another graph
  moved : (register : ℕ → Entry) (script : List Statement) (answers : List Answer) → IsMutator g said j register script answers →
      IsMutator h said' j register script answers
  moved register script answers m =
      let e : h.mutator j ≡ g.mutator j = l.mutator j n in
      record {
        register_is = ap (λ (m : Mutator). m.register) e ∙ m.register_is;
        script_is = ap (λ (m : Mutator). m.script) e ∙ m.script_is;
        asleep = λ q. m.asleep (sym (ap (λ (m : Mutator). m.ended) e) ∙ q);
        says = l.says j n ∙ m.says;
      }

  -- what holds a known name holds one that stands
  stands_of : (e : Entry) (name : ℕ) → e ≡ Ref name → IsKnownEntry w.word g b e → b.stands name ≡ true
  stands_of (Ref m) name eq q = ap b.stands (sym (the_name eq)) ∙ q.0
    where
      the_name : Ref m ≡ Ref name → m ≡ name
      the_name eq = cc
  stands_of (Int x) name eq q = cc
  stands_of (Inner m o) name eq q = cc

  tested : (entry : ℕ → Entry) (s : Statement) (test : Test) → ((r : ℕ) → IsKnownEntry w.word g b (entry r)) → Tested p g entry s test → Tested p h entry s test
  tested entry s test q t = record {
    tests = t.tests;
    name = t.name;
    holds = t.holds;
    some = t.some;
    finds = let stood : b.stands t.name ≡ true = stands_of (entry test.register) t.name t.holds (q test.register) in
        ap (λ class. has_field test.sort (kind_of p class) (h.size t.name) test.field) (l.class t.name stood) ∙ ap
        (λ size. has_field test.sort (kind_of p (g.class t.name)) size test.field) (l.size t.name stood) ∙ t.finds;
  }

  tight : (m f : ℕ) → Tight b j m f → Tight c j m f
  tight m f t = record {
    short = let x = l.from j n in let y = l.to j n in let u = t.short in omega arith;
    below = λ i e. let x = l.next i in let y = l.limit i in let u = t.below i e in omega arith;
  }

  placed : (entry : ℕ → Entry) (answers : List Answer) (rest : List Statement) (s : Statement) (x : ℕ) → Placed p g b said j entry answers rest s x →
      Placed p h c said' j entry answers rest s x
  placed entry answers rest s x m = record {
    name = m.name;
    some = m.some;
    stands = l.stands m.name m.stands;
    address = l.address m.name m.stands ∙ m.address;
    size = l.size m.name m.stands ∙ m.size;
    class_is = l.class m.name m.stands ∙ m.class_is;
    heading = m.heading;
    ahead = moved _ _ _ m.ahead;
  }

  asked : (s : Statement) → AsksForRoom p lay b j s → AsksForRoom p lay c j s
  asked (New r class) t = tight (made_words p (New r class)) lay.fragments t
  asked (NewV r class count) t = tight (made_words p (NewV r class count)) lay.fragments t
  asked (Mature r class) t = tt
  asked (Put r i x) t = absurd t
  asked (Get d r i) t = absurd t
  asked (PutD r i x) t = absurd t
  asked (GetD d r i) t = absurd t
  asked (Num d x) t = absurd t
  asked (Move d x) t = absurd t
  asked (Hide d x offset) t = absurd t
  asked (Unhide d x) t = absurd t
  asked (Drop r) t = absurd t
  asked (Push r) t = absurd t
  asked (Pop r) t = absurd t
  asked (GPut x r) t = absurd t
  asked (GGet r x) t = absurd t
  asked (WSet x r long) t = absurd t
  asked (WGet r x) t = absurd t
  asked (Final r) t = absurd t
  asked (NextFin r) t = absurd t
  asked (Same r x) t = absurd t
  asked (Collect major) t = tt
  asked Sections t = tt

  task : (entry : ℕ → Entry) (answers : List Answer) (rest : List Statement) (t : Task) → AtTask p g said j entry answers rest t →
      AtTask p h said' j entry answers rest t
  task entry answers rest (Search s) m = (m.0, moved _ _ _ m.1)
  task entry answers rest Roam m = moved _ _ _ m

  pub mid_later : (entry : ℕ → Entry) (answers : List Answer) (rest : List Statement) (mid : Mid) → ((r : ℕ) → IsKnownEntry w.word g b (entry r)) →
      AtMid p lay w g b said j entry answers rest mid → AtMid p lay v h c said' j entry answers rest mid
  mid_later entry answers rest Idle q m = moved _ _ _ m
  mid_later entry answers rest Yielded q m = moved _ _ _ m
  mid_later entry answers rest (TestTag s test) q m = (m.0, moved _ _ _ m.1)
  mid_later entry answers rest (TestLength s test class) q m = (
    m.0,
    m.1 ∙ sym
        (l.class m.0.name (stands_of (entry test.register) m.0.name m.0.holds (q test.register))),
    moved _ _ _ m.2,
  )
  mid_later entry answers rest (Access s) q m = (m.0, tested entry s m.0 q m.1, moved _ _ _ m.2)
  mid_later entry answers rest (MarkCard s card) q m = (m.0, moved _ _ _ m.1)
  mid_later entry answers rest (AccessGlobal s) q m = (m.0, moved _ _ _ m.1)
  mid_later entry answers rest (Look s f) q m = (m.0, m.1, tight _ f m.2, moved _ _ _ m.3)
  mid_later entry answers rest (Claim s f next) q m = (m.0, m.1, tight _ f m.2, m.3, moved _ _ _ m.4, (let r = l.next f in let n = m.5 in omega arith), m.6)
  mid_later entry answers rest (StoreLength s x) q m = placed entry answers rest s x m
  mid_later entry answers rest (StoreTag s x) q m = (
    placed entry answers rest s x m.0,
    (let at = m.0.address in let size = m.0.size in
        ap (λ y. v.word (y + 1)) (sym at) ∙ l.length_word m.0.name m.0.stands m.0.some (ap (λ y. w.word (y + 1)) at ∙ m.1 ∙ sym size) ∙ size),
  )
  mid_later entry answers rest (HideLength d s offset) q m = (m.0, m.1, m.2, moved _ _ _ m.3)
  mid_later entry answers rest (SeeBlock t begins i) q m = task _ _ _ t m
  mid_later entry answers rest (TakeBlock s i) q m = task _ _ _ (Search s) m
  mid_later entry answers rest (SeeUsed s i) q m = task _ _ _ (Search s) m
  mid_later entry answers rest (TakeSlot s i x) q m = task _ _ _ (Search s) m
  mid_later entry answers rest (TakeOver t i z) q m = task _ _ _ t m
  mid_later entry answers rest (StoreOccupancy t i z) q m = task _ _ _ t m
  mid_later entry answers rest (ClearSlots t i z x) q m = task _ _ _ t m
  mid_later entry answers rest (ClearWords t i z x f) q m = task _ _ _ t m
  mid_later entry answers rest Retired q m = moved _ _ _ m
  mid_later entry answers rest (Ask s) q m = (asked s m.0, moved _ _ _ m.1)
  mid_later entry answers rest (Left s) q m = (asked s m.0, moved _ _ _ m.1)

  fits_later : FindKinds (kinds_in (g.mutator j)) (g.mutator j).script → FindKinds (kinds_in (h.mutator j)) (h.mutator j).script
  fits_later f = subst (λ m. FindKinds (kinds_in m) m.script) (sym (l.mutator j n)) f

  runnable_later : AllByRecursion (IsRunnable p) (g.mutator j).script → AllByRecursion (IsRunnable p) (h.mutator j).script
  runnable_later f = subst (λ (m : Mutator). AllByRecursion (IsRunnable p) m.script) (sym (l.mutator j n)) f

  pub stands_later : (a : Actor) → Stands p lay w g b said j a → Stands p lay v h c said' j a
  stands_later a s = record {
    entry = s.entry;
    answers = s.answers;
    regs = λ r. s.regs r ∙ sym (word_later w g b c (s.entry r) (s.known r) l.address);
    known = λ r. entry_later w g b v h c (s.entry r) l.known (s.known r);
    offsets = λ r. offset_later g b h c (a.offset r) (s.entry r) l.stands l.size (s.offsets r);
    stack = subst (λ (m : Mutator). Stacked v.word h c a.stack m.stack) (sym (l.mutator j n))
        (stack_later w g b v h c l.known l.stands l.address l.size a.stack (g.mutator j).stack s.stack);
    told = s.told ∙ sym (answers_later b c s.answers s.given l.address);
    given = given_later b.stands c.stands s.answers l.stands s.given;
    from_is = s.from_is ∙ sym (l.from j n);
    to_is = s.to_is ∙ sym (l.to j n);
    at = mid_later s.entry s.answers a.script a.mid s.known s.at;
    fits = fits_later s.fits;
    runnable = runnable_later s.runnable;
  }
