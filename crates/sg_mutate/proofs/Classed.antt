-- Where a mutator holds an object, its program has a class: without one no object ever stands.
use Rattle.std.proofs.Common.{◌≡◌, ◌≢◌, ℕ, ◌<◌, true, Some, None, List, [], ◌∷◌, length, inl, inr, refl, ap, sym, ◌∙◌, subst, arith}
use Rattle.std.specs.List.{AllByRecursion}
use Rattle.std.proofs.lemmas.Bool.{cases_eq}
use Rattle.sg_words.specs.Words.{Words}
use Rattle.sg_words.proofs.Puts.{put-all}
use Rattle.sg_program.specs.declared.program.Statement.{Statement}
use Rattle.sg_program.specs.declared.program.Statement.TheVariants.{New, NewV, Mature, Put, Get, PutD, GetD, GPut, WSet, NextFin, Collect, Sections}
use Rattle.sg_program.specs.declared.program.Program.{Program}
use Rattle.sg_program.specs.declared.answers.Answer.{Answer}
use Rattle.sg_program.specs.declared.answers.Answer.TheVariants.{At, Fine}
use Rattle.sg_program.specs.Kinds.{Kinds, IsRef, Needs}
use Rattle.sg_program.specs.Invariants.{FindKinds}
use Rattle.sg_program.specs.Tests.{Test, test_of}
use Rattle.sg_graph.specs.Graph.{Entry, Ref, Int, Inner, Mutator, Graph}
use Rattle.sg_graph.specs.Statements.{hands_after, heap_after}
use Rattle.sg_graph.specs.Book.{Book, Books}
use Rattle.sg_graph.specs.Epoch.{Said, Turn, Explains}
use Rattle.sg_rules.specs.Rules.{Constants, Mid, Idle, Actor}
use Rattle.sg_rules.specs.Resting.{IsRunnable}
use Rattle.sg_order.specs.Rest.{kind_of_entry, kinds_in, Holds, IsReady, IsEpochOpening, before_it}
use Rattle.sg_order.specs.OneOrder.{IsSoFar, IsOneOrder}

-- no object stands
abbrev NoneStands : Book → Type 0
NoneStands b = (n : ℕ) → b.stands n ≡ true → b.address n ≡ 0

-- every mutator's statements are run now
abbrev AreRunnable : Program → Graph → Type 0
AreRunnable p g = (k : ℕ) → AllByRecursion (IsRunnable p) (g.mutator k).script

-- the tested register of a statement holds a reference
test_needs : (k : Kinds) (s : Statement) (test : Test) → test_of s ≡ Some test → Needs k s → k.register test.register ≡ IsRef
test_needs k (Put r i s) test e h = let z : r ≡ test.register = cc in let y = h.0 in subst (λ q. k.register q ≡ IsRef) z y
test_needs k (Get d r i) test e h = let z : r ≡ test.register = cc in subst (λ q. k.register q ≡ IsRef) z h
test_needs k (PutD r i s) test e h = let z : r ≡ test.register = cc in let y = h.0 in subst (λ q. k.register q ≡ IsRef) z y
test_needs k (GetD d r i) test e h = let z : r ≡ test.register = cc in subst (λ q. k.register q ≡ IsRef) z h
test_needs k s test e h = let z : None ≡ Some test = e in cc

-- where nothing stands, the word of a reference is 0
no_word : (g : Graph) (b : Book) (word offset : ℕ) (entry : Entry) → Holds g b word offset entry → kind_of_entry entry ≡ IsRef → NoneStands b → word ≡ 0
no_word g b word offset (Ref n) h e none = let z = none n h.stands in let w = h.word_is in omega arith
no_word g b word offset (Int v) h e none = cc
no_word g b word offset (Inner n o) h e none = cc

heap_mutators : (p : Program) (g : Graph) (k : ℕ) (m : Mutator) (s : Statement) (answer : Answer) → (heap_after p g k m s answer).mutator ≡ g.mutator
heap_mutators p g k m (New r class) (At name) = refl
heap_mutators p g k m (NewV r class count) (At name) = refl
heap_mutators p g k m (Mature r class) (At name) = refl
heap_mutators p g k m (Put r i s) Fine = refl
heap_mutators p g k m (PutD r i s) Fine = refl
heap_mutators p g k m (GPut x r) Fine = refl
heap_mutators p g k m (WSet w r long) Fine = refl
heap_mutators p g k m (NextFin r) (At name) = refl
heap_mutators p g k m s answer = refl

module _ (p : Program) (no_class : length p.classes ≡ 0) where
  no_such : (class : ℕ) → class < length p.classes → ⊥
  no_such class l = omega arith

  -- no statement makes an object, so the book stays
  book_stays : (g : Graph) (b c : Book) (k : ℕ) (s : Statement) (answer : Answer) → IsRunnable p s → Books p g b k s answer c → c ≡ b
  book_stays g b c k (New r class) answer run h = absurd (no_such class run.good.names)
  book_stays g b c k (NewV r class count) answer run h = absurd (no_such class run.good.names)
  book_stays g b c k (Mature r class) answer run h = absurd (no_such class run.good.names)
  book_stays g b c k (Collect major) answer run h = absurd h
  book_stays g b c k Sections answer run h = absurd h
  book_stays g b c k s answer run h = h

  still_none : (order : List Said) (g h : Graph) (b c : Book) → Explains p g b order h c → AreRunnable p g → NoneStands b → NoneStands c
  still_none [] g h b c e runs none = subst NoneStands (sym e.1) none
  still_none (said ∷ order) g h b c e runs none = still_none order e.0 h e.1 c e.3 later (subst NoneStands (sym same) none)
    where
      turn : Turn p g b said e.0 e.1
      turn = e.2

      mine : AllByRecursion (IsRunnable p) (turn.statement ∷ turn.rest)
      mine = subst (AllByRecursion (IsRunnable p)) turn.next (runs said.by)

      same : e.1 ≡ b
      same = book_stays g b e.1 said.by turn.statement said.answer mine.0 turn.books

      later : AreRunnable p e.0
      later k = subst (λ (q : Graph). AllByRecursion (IsRunnable p) (q.mutator k).script) (sym turn.does.1)
          (put-all (λ j (m : Mutator). AllByRecursion (IsRunnable p) m.script)
          (heap_after p g said.by (g.mutator said.by) turn.statement said.answer).mutator said.by
          (record (hands_after (g.mutator said.by) turn.statement said.answer) { script = turn.rest }) mine.1
          (λ j o. subst (λ (f : ℕ → Mutator). AllByRecursion (IsRunnable p) (f j).script)
          (sym (heap_mutators p g said.by (g.mutator said.by) turn.statement said.answer)) (runs j)) k)

  none_opens : (lay : Constants) (w : Words) (g : Graph) (b : Book) (actors : ℕ → Actor) → IsEpochOpening p lay w g b actors → NoneStands b
  none_opens lay w g b actors opens n stands =
      let laid = opens.held.heap.laid in
      elim (cases_eq n 0) [
        | inl z ↦ ap b.address z ∙ laid.nothing.at_nil
        | inr o ↦ absurd (no_such (g.class n) (laid.objects.shaped n (omega (arith, o)) stands).0)
      ]

  runnable_opens : (lay : Constants) (w : Words) (g : Graph) (b : Book) (actors : ℕ → Actor) → IsEpochOpening p lay w g b actors → AreRunnable p g
  runnable_opens lay w g b actors opens k =
      let ready = opens.ready k in subst (AllByRecursion (IsRunnable p)) (sym ready.script_is) ready.runnable

-- a mutator before a statement that tests its object
pub has_class : (p : Program) (lay : Constants) (g : Graph) (b : Book) (w : Words) (actors : ℕ → Actor) (so : IsSoFar p lay g b w actors) →
    IsOneOrder p lay so.opened g b so.events w actors → (k : ℕ) → (actors k).mid ≡ Idle → (s : Statement) (rest : List Statement) →
    (actors k).script ≡ s ∷ rest → (test : Test) → test_of s ≡ Some test → (actors k).reg test.register ≢ 0 → 0 < length p.classes
has_class p lay g b w actors so one k idle s rest script test tests holds = elim (cases_eq (length p.classes) 0) [
  | inl z ↦ absurd (holds (no_word one.graph one.book ((actors k).reg test.register) ((actors k).offset test.register) _ (ready.regs test.register)
      (test_needs (kinds_in (one.graph.mutator k)) s test tests needs)
      (still_none p z one.order g one.graph b one.book one.explains (runnable_opens p z lay so.opened g b so.first so.opening)
      (none_opens p z lay so.opened g b so.first so.opening))))
  | inr o ↦ omega (arith, o)
]
  where
    ready : IsReady p one.graph one.book k (actors k) (before_it (actors k).mid (actors k).script)
    ready = one.ready k (inl idle)

    before : before_it (actors k).mid (actors k).script ≡ s ∷ rest
    before = ap (λ (m : Mid). before_it m (actors k).script) idle ∙ script

    needs : Needs (kinds_in (one.graph.mutator k)) s
    needs = (subst (FindKinds (kinds_in (one.graph.mutator k))) before ready.kinds).0
