-- A mutator's next statement has one answer, but for a want of room.
use Rattle.std.proofs.Common.{◌≡◌, ◌≢◌, ℕ, zero, suc, ◌*◌, Bool, true, false, ltb, eqb, if◌then◌else◌, Some, None, List, [], ◌∷◌, sym, refl, ap, ◌∙◌, lt-ltb, le-ltb, eq-eqb, ne_eqb}
use Rattle.sg_desc.specs.Shapes.{Sort, Reference, Plain, has_field}
use Rattle.sg_program.specs.declared.program.Statement.{Statement}
use Rattle.sg_program.specs.declared.program.Statement.TheVariants.{New, NewV, Mature, Put, Get, PutD, GetD, Num, Move, Hide, Unhide, Drop, Push, Pop, GPut, GGet, WSet, WGet, Final, NextFin, Same, Collect, Sections}
use Rattle.sg_program.specs.declared.program.Program.{Program}
use Rattle.sg_program.specs.declared.answers.Answer.{Answer}
use Rattle.sg_program.specs.declared.answers.Answer.TheVariants.{At, Nil, Null, Number, Fine, Yes, No, Field, Full}
use Rattle.sg_program.specs.Scripts.{kind_of, words_for}
use Rattle.sg_program.specs.Tests.{Test, test_of}
use Rattle.sg_graph.specs.Graph.{Entry, Ref, Int, Inner, Mutator, Graph}
use Rattle.sg_graph.specs.Statements.{FindsNone, Misses, Finds, Answers}

-- the answer where an entry holds no object, and where it holds this one
named : Entry → Answer → (ℕ → Answer) → Answer
named (Ref zero) none some = none
named (Ref (suc n)) none some = some (suc n)
named (Int n) none some = Full
named (Inner zero offset) none some = none
named (Inner (suc n) offset) none some = some (suc n)

-- the same for a name
nameable : ℕ → Answer → (ℕ → Answer) → Answer
nameable zero none some = none
nameable (suc n) none some = some (suc n)

-- what a load answers by what the field holds
loaded : Entry → Answer
loaded (Ref zero) = Nil
loaded (Ref (suc n)) = At (suc n)
loaded (Int n) = Number n
loaded (Inner n offset) = Full

name_of : Entry → ℕ
name_of (Ref n) = n
name_of (Int n) = 0
name_of (Inner n offset) = 0

first_of_row : List ℕ → Answer
first_of_row [] = Nil
first_of_row (n ∷ ready) = At n

by_test : Bool → Answer → Answer → Answer
by_test b x y = if b then x else y

named-none : (e : Entry) (none : Answer) (some : ℕ → Answer) → e ≡ Ref 0 → none ≡ named e none some
unfolding named
named-none e none some h = rw h

named-some : (e : Entry) (none : Answer) (some : ℕ → Answer) (n : ℕ) → e ≡ Ref n → n ≢ 0 → some n ≡ named e none some
unfolding named
named-some e none some zero h k = absurd (k refl)
named-some e none some (suc n) h k = rw h

named-no_inner : (e : Entry) (none : Answer) (some : ℕ → Answer) (offset : ℕ) → e ≡ Inner 0 offset → none ≡ named e none some
unfolding named
named-no_inner e none some offset h = rw h

named-inner : (e : Entry) (none : Answer) (some : ℕ → Answer) (n offset : ℕ) → e ≡ Inner n offset → n ≢ 0 → some n ≡ named e none some
unfolding named
named-inner e none some zero offset h k = absurd (k refl)
named-inner e none some (suc n) offset h k = rw h

nameable-none : (e : ℕ) (none : Answer) (some : ℕ → Answer) → e ≡ 0 → none ≡ nameable e none some
unfolding nameable
nameable-none e none some h = rw h

nameable-some : (e : ℕ) (none : Answer) (some : ℕ → Answer) (n : ℕ) → e ≡ n → n ≢ 0 → some n ≡ nameable e none some
unfolding nameable
nameable-some e none some zero h k = absurd (k refl)
nameable-some e none some (suc n) h k = rw h

loaded-nil : (e : Entry) → e ≡ Ref 0 → Nil ≡ loaded e
unfolding loaded
loaded-nil e h = rw h

loaded-at : (e : Entry) (n : ℕ) → e ≡ Ref n → n ≢ 0 → At n ≡ loaded e
unfolding loaded
loaded-at e zero h k = absurd (k refl)
loaded-at e (suc n) h k = rw h

loaded-number : (e : Entry) (n : ℕ) → e ≡ Int n → Number n ≡ loaded e
unfolding loaded
loaded-number e n h = rw h

by-true : (b : Bool) (x y : Answer) → b ≡ true → x ≡ by_test b x y
unfolding by_test
by-true b x y h = rw h

by-false : (b : Bool) (x y : Answer) → b ≡ false → y ≡ by_test b x y
unfolding by_test
by-false b x y h = rw h

no_test : (t : Test) → None ≡ Some t → ⊥
no_test t e = absurd (cc e)

-- What the object test of this register and field answers, and what follows where it passes.
module _ (p : Program) (g : Graph) (m : Mutator) where
  tested : Sort → ℕ → ℕ → (ℕ → Answer) → Answer
  tested sort r i found = named (m.register r) Null (λ n. by_test (has_field sort (kind_of p (g.class n)) (g.size n) i) (found n) Field)

  tested-none : (s : Statement) (t : Test) (found : ℕ → Answer) → test_of s ≡ Some t → FindsNone m s → Null ≡ tested t.sort t.register t.field found
  unfolding tested
  tested-none s t found e h = named-none (m.register t.register) Null _ (ap (λ (u : Test). m.register u.register) same ∙ h.holds)
    where
      same : t ≡ h.test
      same = let q : Some t ≡ Some h.test = sym e ∙ h.tests in cc q

  tested-misses : (s : Statement) (t : Test) (found : ℕ → Answer) → test_of s ≡ Some t → Misses p g m s → Field ≡ tested t.sort t.register t.field found
  unfolding tested
  tested-misses s t found e h =
      by-false _ (found h.name) Field (ap (λ (u : Test). has_field u.sort (kind_of p (g.class h.name)) (g.size h.name) u.field) same ∙ h.misses)
      ∙ named-some (m.register t.register) Null (λ n. by_test (has_field t.sort (kind_of p (g.class n)) (g.size n) t.field) (found n) Field) h.name
      (ap (λ (u : Test). m.register u.register) same ∙ h.holds) h.some
    where
      same : t ≡ h.test
      same = let q : Some t ≡ Some h.test = sym e ∙ h.tests in cc q

  tested-finds : (s : Statement) (t : Test) (found : ℕ → Answer) (name : ℕ) → test_of s ≡ Some t → Finds p g m s name →
      found name ≡ tested t.sort t.register t.field found
  unfolding tested
  tested-finds s t found name e h =
      by-true _ (found name) Field (ap (λ (u : Test). has_field u.sort (kind_of p (g.class name)) (g.size name) u.field) same ∙ h.finds)
      ∙ named-some (m.register t.register) Null (λ n. by_test (has_field t.sort (kind_of p (g.class n)) (g.size n) t.field) (found n) Field) name
      (ap (λ (u : Test). m.register u.register) same ∙ h.holds) h.some
    where
      same : t ≡ h.test
      same = let q : Some t ≡ Some h.test = sym e ∙ h.tests in cc q

  -- the answer of a statement, where it isn't a want of room
  pub the_answer : Statement → Answer
  the_answer (New r class) = At (suc g.count)
  the_answer (NewV r class count) = At (suc g.count)
  the_answer (Mature r class) = At (suc g.count)
  the_answer (Put r i s) = tested Reference r i (λ n. Fine)
  the_answer (PutD r i s) = tested Plain r i (λ n. Fine)
  the_answer (Get d r i) = tested Reference r i (λ n. loaded (g.field n i))
  the_answer (GetD d r i) = tested Plain r i (λ n. loaded (g.field n i))
  the_answer (Hide d s offset) = named (m.register s) Null (λ n. by_test (ltb offset (8 * words_for (g.size n))) Fine Field)
  the_answer (Unhide d s) = named (m.register s) Nil (λ n. At n)
  the_answer (GGet r x) = nameable (g.global x) Nil (λ n. At n)
  the_answer (WGet r w) = nameable (g.link w).target Nil (λ n. At n)
  the_answer (Final r) = named (m.register r) Null (λ n. Fine)
  the_answer (NextFin r) = first_of_row g.ready
  the_answer (Same r s) = by_test (eqb (name_of (m.register r)) (name_of (m.register s))) Yes No
  the_answer s = Fine

  pub one_answer : (s : Statement) (a : Answer) → Answers p g m s a → a ≢ Full → a ≡ the_answer s
  unfolding the_answer first_of_row name_of
  one_answer (New r class) (At name) h k = ap (λ n. At n) h
  one_answer (New r class) Full h k = absurd (k refl)
  one_answer (NewV r class count) (At name) h k = ap (λ n. At n) h
  one_answer (NewV r class count) Full h k = absurd (k refl)
  one_answer (Mature r class) (At name) h k = ap (λ n. At n) h
  one_answer (Mature r class) Full h k = absurd (k refl)
  one_answer (Put r i s) Fine h k = tested-finds (Put r i s) (record { register = r; field = i; sort = Reference }) (λ n. Fine) h.0 refl h.2
  one_answer (Put r i s) Null h k = tested-none (Put r i s) (record { register = r; field = i; sort = Reference }) (λ n. Fine) refl h
  one_answer (Put r i s) Field h k = tested-misses (Put r i s) (record { register = r; field = i; sort = Reference }) (λ n. Fine) refl h
  one_answer (PutD r i s) Fine h k = tested-finds (PutD r i s) (record { register = r; field = i; sort = Plain }) (λ n. Fine) h.0 refl h.2
  one_answer (PutD r i s) Null h k = tested-none (PutD r i s) (record { register = r; field = i; sort = Plain }) (λ n. Fine) refl h
  one_answer (PutD r i s) Field h k = tested-misses (PutD r i s) (record { register = r; field = i; sort = Plain }) (λ n. Fine) refl h
  one_answer (Get d r i) (At target) h k =
      loaded-at (g.field h.0 i) target h.2 h.3
      ∙ tested-finds (Get d r i) (record { register = r; field = i; sort = Reference }) (λ n. loaded (g.field n i)) h.0 refl h.1
  one_answer (Get d r i) Nil h k =
      loaded-nil (g.field h.0 i) h.2
      ∙ tested-finds (Get d r i) (record { register = r; field = i; sort = Reference }) (λ n. loaded (g.field n i)) h.0 refl h.1
  one_answer (Get d r i) Null h k = tested-none (Get d r i) (record { register = r; field = i; sort = Reference }) (λ n. loaded (g.field n i)) refl h
  one_answer (Get d r i) Field h k = tested-misses (Get d r i) (record { register = r; field = i; sort = Reference }) (λ n. loaded (g.field n i)) refl h
  one_answer (GetD d r i) (Number n) h k =
      loaded-number (g.field h.0 i) n h.2
      ∙ tested-finds (GetD d r i) (record { register = r; field = i; sort = Plain }) (λ n. loaded (g.field n i)) h.0 refl h.1
  one_answer (GetD d r i) Null h k = tested-none (GetD d r i) (record { register = r; field = i; sort = Plain }) (λ n. loaded (g.field n i)) refl h
  one_answer (GetD d r i) Field h k = tested-misses (GetD d r i) (record { register = r; field = i; sort = Plain }) (λ n. loaded (g.field n i)) refl h
  one_answer (Hide d s offset) Fine h k =
      by-true _ Fine Field (lt-ltb offset (8 * words_for (g.size h.0)) h.3)
      ∙ named-some (m.register s) Null (λ n. by_test (ltb offset (8 * words_for (g.size n))) Fine Field) h.0 h.1 h.2
  one_answer (Hide d s offset) Field h k =
      by-false _ Fine Field (le-ltb offset (8 * words_for (g.size h.0)) h.3)
      ∙ named-some (m.register s) Null (λ n. by_test (ltb offset (8 * words_for (g.size n))) Fine Field) h.0 h.1 h.2
  one_answer (Hide d s offset) Null h k = named-none (m.register s) Null (λ n. by_test (ltb offset (8 * words_for (g.size n))) Fine Field) h
  one_answer (Unhide d s) (At name) h k = named-inner (m.register s) Nil (λ n. At n) name h.0 h.1 h.2
  one_answer (Unhide d s) Nil h k = named-no_inner (m.register s) Nil (λ n. At n) h.0 h.1
  one_answer (GGet r x) (At name) h k = nameable-some (g.global x) Nil (λ n. At n) name h.0 h.1
  one_answer (GGet r x) Nil h k = nameable-none (g.global x) Nil (λ n. At n) h
  one_answer (WGet r w) (At name) h k = nameable-some (g.link w).target Nil (λ n. At n) name h.0 h.1
  one_answer (WGet r w) Nil h k = nameable-none (g.link w).target Nil (λ n. At n) h
  one_answer (Final r) Fine h k = named-some (m.register r) Null (λ n. Fine) h.0 h.1 h.2
  one_answer (Final r) Null h k = named-none (m.register r) Null (λ n. Fine) h
  one_answer (NextFin r) (At name) h k = rw h.1
  one_answer (NextFin r) Nil h k = rw h
  one_answer (Same r s) Yes h k = by-true _ Yes No (eq-eqb _ _ (ap name_of h.1 ∙ ap name_of (sym h.2)))
  one_answer (Same r s) No h k = by-false _ Yes No (ne_eqb _ _ (λ e. h.4 (sym (ap name_of h.2) ∙ e ∙ ap name_of h.3)))
  one_answer (Num d n) Fine h k = refl
  one_answer (Move d s) Fine h k = refl
  one_answer (Drop r) Fine h k = refl
  one_answer (Push r) Fine h k = refl
  one_answer (Pop r) Fine h k = refl
  one_answer (GPut x r) Fine h k = refl
  one_answer (WSet w r long) Fine h k = refl
  one_answer (Collect major) Fine h k = refl
  one_answer Sections Fine h k = refl
  one_answer s Null h k = absurd (no_test h.test h.tests)
  one_answer s Field h k = absurd (no_test h.test h.tests)
  one_answer s a h k = absurd h
