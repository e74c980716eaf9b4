-- What the statements of moves are answered.
use Rattle.std.proofs.Common.{◌≡◌, ◌≢◌, ℕ, suc, true, Some, None, List, [], ◌∷◌, take, drop, refl, sym, ap, ◌∙◌, arith, true≢false}
use Rattle.sg_desc.specs.declared.shapes.Descriptor.{Descriptor}
use Rattle.sg_desc.specs.declared.shapes.Descriptor.TheVariants.{Bitmap}
use Rattle.sg_desc.specs.Shapes.{Reference, Plain, has_field}
use Rattle.sg_program.specs.declared.program.Program.{Program}
use Rattle.sg_program.specs.declared.program.Statement.{Statement}
use Rattle.sg_program.specs.declared.program.Statement.TheVariants.{New, Put, Get, PutD, GetD, Num, Drop, GPut, GGet}
use Rattle.sg_program.specs.declared.answers.Answer.{Answer}
use Rattle.sg_program.specs.declared.answers.Answer.TheVariants.{At, Nil, Null, Number, Fine, Yes, No, Field, Full}
use Rattle.sg_program.specs.Scripts.{kind_of}
use Rattle.sg_program.specs.Tests.{Test, test_of}
use Rattle.sg_graph.specs.Graph.{Graph, Mutator, Entry, Ref, Int}
use Rattle.sg_graph.specs.Statements.{Answers, FindsNone, Misses, Finds, setting, hands_after}
use Rattle.sg_load.specs.Summary.{number_in}
use Rattle.sg_load.proofs.Chains.{IsNode, Chain, sum}

module _ (p : Program) (kind : kind_of p 0 ≡ Bitmap 3) (g : Graph) (m : Mutator) where
  -- a node has its fields
  has_reference : (k b n : ℕ) → IsNode g k b n → has_field Reference (kind_of p (g.class n)) (g.size n) 0 ≡ true
  has_reference k b n is =
      ap (λ (d : Descriptor). has_field Reference d (g.size n) 0) (ap (kind_of p) is.class ∙ kind) ∙ ap (λ (z : ℕ). has_field Reference (Bitmap 3) z 0) is.size

  has_number : (k b n : ℕ) → IsNode g k b n → has_field Plain (kind_of p (g.class n)) (g.size n) 2 ≡ true
  has_number k b n is =
      ap (λ (d : Descriptor). has_field Plain d (g.size n) 2) (ap (kind_of p) is.class ∙ kind) ∙ ap (λ (z : ℕ). has_field Plain (Bitmap 3) z 2) is.size

  -- so its test doesn't fail
  module _ (s : Statement) (test : Test) (tests : test_of s ≡ Some test) (n : ℕ) (holds : m.register test.register ≡ Ref n) where
    finds : n ≢ 0 → FindsNone m s → ⊥
    finds some f =
        let other = f.tests in
        let none = f.holds in
        let same : test ≡ f.test = cc in
        let clash : Ref n ≡ Ref 0 = sym holds ∙ ap (λ (t : Test). m.register t.register) same ∙ none in
        some cc

    has : has_field test.sort (kind_of p (g.class n)) (g.size n) test.field ≡ true → Misses p g m s → ⊥
    has e f =
        let other = f.tests in
        let held = f.holds in
        let same : test ≡ f.test = cc in
        let both : Ref n ≡ Ref f.name = sym holds ∙ ap (λ (t : Test). m.register t.register) same ∙ held in
        let one : n ≡ f.name = cc in
        let lacks = f.misses in
        let there = ap (λ (t : Test). has_field t.sort (kind_of p (g.class n)) (g.size n) t.field) same in
        let that = ap (λ (x : ℕ). has_field f.test.sort (kind_of p (g.class x)) (g.size x) f.test.field) one in
        true≢false (sym e ∙ there ∙ that ∙ lacks)

    -- nor is there another object
    found : (name : ℕ) → Finds p g m s name → name ≡ n
    found name f =
        let other = f.tests in
        let held = f.holds in
        let same : test ≡ f.test = cc in
        let both : Ref n ≡ Ref name = sym holds ∙ ap (λ (t : Test). m.register t.register) same ∙ held in
        cc

  no_test : (s : Statement) → test_of s ≡ None → FindsNone m s → ⊥
  no_test s e f = let other = f.tests in absurd cc

  no_field : (s : Statement) → test_of s ≡ None → Misses p g m s → ⊥
  no_field s e f = let other = f.tests in absurd cc

  pub new_answer : (r c : ℕ) (a : Answer) → Answers p g m (New r c) a → a ≢ Full → a ≡ At (suc g.count)
  new_answer r c (At name) e n = ap At e
  new_answer r c Nil e n = absurd e
  new_answer r c Null e n = absurd (no_test (New r c) refl e)
  new_answer r c (Number i) e n = absurd e
  new_answer r c Fine e n = absurd e
  new_answer r c Yes e n = absurd e
  new_answer r c No e n = absurd e
  new_answer r c Field e n = absurd (no_field (New r c) refl e)
  new_answer r c Full e n = absurd (n refl)

  pub num_answer : (r n : ℕ) (a : Answer) → Answers p g m (Num r n) a → a ≡ Fine
  num_answer r n (At name) e = absurd e
  num_answer r n Nil e = absurd e
  num_answer r n Null e = absurd (no_test (Num r n) refl e)
  num_answer r n (Number i) e = absurd e
  num_answer r n Fine e = refl
  num_answer r n Yes e = absurd e
  num_answer r n No e = absurd e
  num_answer r n Field e = absurd (no_field (Num r n) refl e)
  num_answer r n Full e = absurd e

  pub drop_answer : (r : ℕ) (a : Answer) → Answers p g m (Drop r) a → a ≡ Fine
  drop_answer r (At name) e = absurd e
  drop_answer r Nil e = absurd e
  drop_answer r Null e = absurd (no_test (Drop r) refl e)
  drop_answer r (Number i) e = absurd e
  drop_answer r Fine e = refl
  drop_answer r Yes e = absurd e
  drop_answer r No e = absurd e
  drop_answer r Field e = absurd (no_field (Drop r) refl e)
  drop_answer r Full e = absurd e

  pub gput_answer : (x r : ℕ) (a : Answer) → Answers p g m (GPut x r) a → a ≡ Fine
  gput_answer x r (At name) e = absurd e
  gput_answer x r Nil e = absurd e
  gput_answer x r Null e = absurd (no_test (GPut x r) refl e)
  gput_answer x r (Number i) e = absurd e
  gput_answer x r Fine e = refl
  gput_answer x r Yes e = absurd e
  gput_answer x r No e = absurd e
  gput_answer x r Field e = absurd (no_field (GPut x r) refl e)
  gput_answer x r Full e = absurd e

  -- what a global holds comes to the register
  pub gget_answer : (r x : ℕ) (a : Answer) → Answers p g m (GGet r x) a → (number_in a ≡ 0) × (hands_after m (GGet r x) a ≡ setting m r (Ref (g.global x)))
  gget_answer r x (At name) (e, some) = (refl, ap (λ (n : ℕ). setting m r (Ref n)) (sym e))
  gget_answer r x Nil e = (refl, ap (λ (n : ℕ). setting m r (Ref n)) (sym e))
  gget_answer r x Null e = absurd (no_test (GGet r x) refl e)
  gget_answer r x (Number i) e = absurd e
  gget_answer r x Fine e = absurd e
  gget_answer r x Yes e = absurd e
  gget_answer r x No e = absurd e
  gget_answer r x Field e = absurd (no_field (GGet r x) refl e)
  gget_answer r x Full e = absurd e

  module _ (k b n : ℕ) (is : IsNode g k b n) (holds : m.register 0 ≡ Ref n) where
    some : n ≢ 0
    some e = let l = is.some in omega (arith, e, l)

    pub putd_answer : (a : Answer) → Answers p g m (PutD 0 2 1) a → a ≡ Fine
    putd_answer (At name) e = absurd e
    putd_answer Nil e = absurd e
    putd_answer Null e = absurd (finds (PutD 0 2 1) (record { register = 0; field = 2; sort = Plain }) refl n holds some e)
    putd_answer (Number i) e = absurd e
    putd_answer Fine e = refl
    putd_answer Yes e = absurd e
    putd_answer No e = absurd e
    putd_answer Field e = absurd (has (PutD 0 2 1) (record { register = 0; field = 2; sort = Plain }) refl n holds (has_number k b n is) e)
    putd_answer Full e = absurd e

    pub put_answer : (a : Answer) → Answers p g m (Put 0 0 2) a → a ≡ Fine
    put_answer (At name) e = absurd e
    put_answer Nil e = absurd e
    put_answer Null e = absurd (finds (Put 0 0 2) (record { register = 0; field = 0; sort = Reference }) refl n holds some e)
    put_answer (Number i) e = absurd e
    put_answer Fine e = refl
    put_answer Yes e = absurd e
    put_answer No e = absurd e
    put_answer Field e = absurd (has (Put 0 0 2) (record { register = 0; field = 0; sort = Reference }) refl n holds (has_reference k b n is) e)
    put_answer Full e = absurd e

  -- where register 2 has the first node of a list, its number is read, and no number where there is no node
  pub getd_answer : (k b name : ℕ) (numbers : List ℕ) → m.register 2 ≡ Ref name → Chain g k b name numbers → (a : Answer) → Answers p g m (GetD 3 2 2) a →
      (number_in a ≡ sum (take 1 numbers)) × ((e : Entry) × (hands_after m (GetD 3 2 2) a ≡ setting m 3 e))
  getd_answer k b name [] holds none Null e = (refl, (Int 0, refl))
  getd_answer k b name [] holds none (Number i) (n, f, is) = absurd (f.some (found (GetD 3 2 2) (record { register = 2; field = 2; sort = Plain }) refl name holds n f ∙ none))
  getd_answer k b name [] holds none Field f = absurd (f.some (missed f))
    where
      missed : (f : Misses p g m (GetD 3 2 2)) → f.name ≡ 0
      missed f =
          let other = f.tests in
          let held = f.holds in
          let same : record { register = 2; field = 2; sort = Plain } ≡ f.test = cc in
          let both : Ref name ≡ Ref f.name = sym holds ∙ ap (λ (t : Test). m.register t.register) same ∙ held in
          cc
  getd_answer k b name (x ∷ numbers) holds chain Null e =
      absurd (finds (GetD 3 2 2) (record { register = 2; field = 2; sort = Plain }) refl name holds (λ z. let l = chain.0.some in omega (arith, l, z)) e)
  getd_answer k b name (x ∷ numbers) holds chain (Number i) (n, f, is) =
      let one = found (GetD 3 2 2) (record { register = 2; field = 2; sort = Plain }) refl name holds n f in
      let both : Int i ≡ Int x = sym is ∙ ap (λ (y : ℕ). g.field y 2) one ∙ chain.1 in
      let same : i ≡ x = cc in
      (omega (arith, same), (Int i, refl))
  getd_answer k b name (x ∷ numbers) holds chain Field e =
      absurd (has (GetD 3 2 2) (record { register = 2; field = 2; sort = Plain }) refl name holds (has_number k b name chain.0) e)
  getd_answer k b name numbers holds chain (At target) e = absurd e
  getd_answer k b name numbers holds chain Nil e = absurd e
  getd_answer k b name numbers holds chain Fine e = absurd e
  getd_answer k b name numbers holds chain Yes e = absurd e
  getd_answer k b name numbers holds chain No e = absurd e
  getd_answer k b name numbers holds chain Full e = absurd e

  -- and the next node comes to it, or none
  pub get_answer : (k b name : ℕ) (numbers : List ℕ) → m.register 2 ≡ Ref name → Chain g k b name numbers → (a : Answer) → Answers p g m (Get 2 2 0) a →
      (number_in a ≡ 0) × ((next : ℕ) × (hands_after m (Get 2 2 0) a ≡ setting m 2 (Ref next)) × Chain g k b next (drop 1 numbers))
  get_answer k b name [] holds none Null e = (refl, (0, refl, refl))
  get_answer k b name [] holds none (At target) (n, f, is, there) = absurd (f.some (found (Get 2 2 0) (record { register = 2; field = 0; sort = Reference }) refl name holds n f ∙ none))
  get_answer k b name [] holds none Nil (n, f, is) = absurd (f.some (found (Get 2 2 0) (record { register = 2; field = 0; sort = Reference }) refl name holds n f ∙ none))
  get_answer k b name [] holds none Field f = absurd (f.some (missed f))
    where
      missed : (f : Misses p g m (Get 2 2 0)) → f.name ≡ 0
      missed f =
          let other = f.tests in
          let held = f.holds in
          let same : record { register = 2; field = 0; sort = Reference } ≡ f.test = cc in
          let both : Ref name ≡ Ref f.name = sym holds ∙ ap (λ (t : Test). m.register t.register) same ∙ held in
          cc
  get_answer k b name (x ∷ numbers) holds chain Null e =
      absurd (finds (Get 2 2 0) (record { register = 2; field = 0; sort = Reference }) refl name holds (λ z. let l = chain.0.some in omega (arith, l, z)) e)
  get_answer k b name (x ∷ numbers) holds chain (At target) (n, f, is, there) =
      let one = found (Get 2 2 0) (record { register = 2; field = 0; sort = Reference }) refl name holds n f in
      let both : Ref target ≡ Ref chain.2.0 = sym is ∙ ap (λ (y : ℕ). g.field y 0) one ∙ chain.2.1 in
      (refl, (chain.2.0, ap (setting m 2) both, chain.2.2))
  get_answer k b name (x ∷ numbers) holds chain Nil (n, f, is) =
      let one = found (Get 2 2 0) (record { register = 2; field = 0; sort = Reference }) refl name holds n f in
      let both : Ref 0 ≡ Ref chain.2.0 = sym is ∙ ap (λ (y : ℕ). g.field y 0) one ∙ chain.2.1 in
      (refl, (chain.2.0, ap (setting m 2) both, chain.2.2))
  get_answer k b name (x ∷ numbers) holds chain Field e =
      absurd (has (Get 2 2 0) (record { register = 2; field = 0; sort = Reference }) refl name holds (has_reference k b name chain.0) e)
  get_answer k b name numbers holds chain (Number i) e = absurd e
  get_answer k b name numbers holds chain Fine e = absurd e
  get_answer k b name numbers holds chain Yes e = absurd e
  get_answer k b name numbers holds chain No e = absurd e
  get_answer k b name numbers holds chain Full e = absurd e
