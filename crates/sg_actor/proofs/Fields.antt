-- The ways through an object test and the access behind it, over any port.
use Rattle.std.proofs.Common.{◌≡◌, ℕ, ◌+◌, ◌*◌, ◌<◌, Bool, true, false, Some, List, length, refl, sym, ap, ◌∙◌, subst, inl, inr, arith}
use Rattle.std.proofs.lemmas.Bool.{cases_Bool}
use Rattle.sg_words.specs.Address.{word_at}
use Rattle.sg_words.proofs.Numbers.{word_at-plus}
use Rattle.sg_words.specs.Tags.{plain_word}
use Rattle.sg_words.specs.Sections.{large_base}
use Rattle.sg_words.specs.declared.steps.Place.TheVariants.{Word}
use Rattle.sg_words.specs.declared.steps.Step.TheVariants.{Load, Store}
use Rattle.sg_words.specs.declared.steps.Call.TheVariants.{Loads}
use Rattle.sg_words.specs.Words.{put}
use Rattle.sg_desc.specs.Shapes.{has_field}
use Rattle.sg_program.specs.declared.program.Program.{Program}
use Rattle.sg_program.specs.declared.program.Statement.{Statement}
use Rattle.sg_program.specs.declared.program.Statement.TheVariants.{Get, PutD, GetD}
use Rattle.sg_program.specs.declared.answers.Answer.TheVariants.{Number, Fine, Field}
use Rattle.sg_program.specs.Scripts.{kind_of}
use Rattle.sg_program.specs.Tests.{Test, test_of}
use Rattle.sg_rules.specs.Rules.{Constants, TestTag, TestLength, Access, Actor, Comes, IsLength, IsReference, IsInHeap, sections_of, object_in, within, over, cleared, reference_answer}
use Rattle.sg_rules.specs.Rules.Comes.{loads_tag, loads_length, test_fails, putd_stores, get_loads, getd_loads}
use Rattle.sg_rules.specs.Sane.{IsAccessing}
use Rattle.sg_actor.specs.State.{Mutating, actor_of}
use Rattle.sg_actor.specs.Turning.{tested}
use Rattle.sg_actor.proofs.Ports.{Ports, On, Gone, Did, none_yet, loads_may, loads_saw, loads_done}

-- the test: two loads
module _ {P : Type 0} (o : Ports P) (m : Mutating) (lay : Constants) (s : Statement) (t : Test) (x : P)
    (on : On o m.program lay x (within (actor_of m) m.script (TestTag s t))) where
  abbrev there : Actor
  there = within (actor_of m) m.script (TestTag s t)

  abbrev object : ℕ
  object = object_in (actor_of m) t.register

  start : Gone o m.program lay there x there x
  start = none_yet o m.program lay there x on

  pub tag_may : 0 < length m.program.classes → (place : ℕ) → place ≡ object → o.may x (Loads (Word place))
  tag_may some place e = loads_may o m.program lay there there x x on start (Word object) (Word place) (ap (λ n. Word n) e) false _ (plain_word 0) (loads_tag (actor_of m) s m.script t 0 some)

  pub tag_saw : 0 < length m.program.classes → (place v : ℕ) → place ≡ object → o.sees x (Load (Word place) v) → (class : ℕ) × (class < length m.program.classes) × (v ≡ plain_word class)
  tag_saw some place v e w = loads_saw o m.program lay there there x x on start (Word object) (Word place) (ap (λ n. Word n) e) false _ (plain_word 0) v (loads_tag (actor_of m) s m.script t 0 some) w

  pub tag_done : (y : P) (place v class : ℕ) → place ≡ object → class < length m.program.classes → v ≡ plain_word class → Did o m.program lay x (Load (Word place) v) y →
      Gone o m.program lay there x (within (actor_of m) m.script (TestLength s t class)) y
  tag_done y place v class e l is did =
      loads_done o m.program lay there there x x on start (Word object) (Word place) (ap (λ n. Word n) e) false _ y (plain_word class) _ (λ r. r) (loads_tag (actor_of m) s m.script t class l) refl
      (subst (λ u. Did o m.program lay x (Load (Word place) u) y) is did)

  module _ (y : P) (class : ℕ) (gone : Gone o m.program lay there x (within (actor_of m) m.script (TestLength s t class)) y) where
    abbrev halfway : Actor
    halfway = within (actor_of m) m.script (TestLength s t class)

    -- the load of the length 0 has a rule
    none : (c : Actor) × (d : Bool) × Comes m.program lay halfway (Load (Word (object + 1)) 0) d c
    none = elim (cases_Bool (has_field t.sort (kind_of m.program class) 0 t.field)) [
      | inl has ↦ (within (actor_of m) m.script (Access s), false, loads_length (actor_of m) s m.script t class 0 (omega arith) has)
      | inr not ↦ (over (actor_of m) m.script (cleared s (actor_of m).reg) Field, true, test_fails (actor_of m) s m.script t class 0 (omega arith) not)
    ]

    pub length_may : (place : ℕ) → place ≡ object + 1 → o.may y (Loads (Word place))
    length_may place e = loads_may o m.program lay there halfway x y on gone (Word (object + 1)) (Word place) (ap (λ n. Word n) e) none.1 none.0 0 none.2

    pub length_saw : (place len : ℕ) → place ≡ object + 1 → o.sees y (Load (Word place) len) → IsLength len
    length_saw place len e w = loads_saw o m.program lay there halfway x y on gone (Word (object + 1)) (Word place) (ap (λ n. Word n) e) none.1 none.0 0 len none.2 w

    pub length_done : (has : Bool) (z : P) (place len : ℕ) → place ≡ object + 1 → IsLength len → has_field t.sort (kind_of m.program class) len t.field ≡ has → Did o m.program lay y (Load (Word place) len) z →
        Gone o m.program lay there x (tested m s has) z
    length_done true z place len e l is did =
        loads_done o m.program lay there halfway x y on gone (Word (object + 1)) (Word place) (ap (λ n. Word n) e) false _ z len _ (λ r. r) (loads_length (actor_of m) s m.script t class len l is) refl did
    length_done false z place len e l is did =
        loads_done o m.program lay there halfway x y on gone (Word (object + 1)) (Word place) (ap (λ n. Word n) e) true _ z len _ (λ r. r) (test_fails (actor_of m) s m.script t class len l is) refl did

pub some_of : {u v : Test} → Some u ≡ Some v → u ≡ v
some_of e = cc

-- the field that an access reaches, and the object that has it, lie in the heap
module _ (p : Program) (a : Actor) (s : Statement) (t : Test) (is : test_of s ≡ Some t) (at : IsAccessing p a s) where
  same : at.test ≡ t
  same = some_of (sym at.testing.tests ∙ is)

  pub field_inside : object_in a t.register + 2 + t.field < large_base (sections_of p)
  field_inside = subst (λ (u : Test). object_in a u.register + 2 + u.field < large_base (sections_of p)) same at.inside

  pub field_object : IsInHeap p (a.reg t.register)
  field_object = subst (λ (u : Test). IsInHeap p (a.reg u.register)) same at.testing.object

-- the number of the word that the code reaches
pub field_at : (a : Actor) (t u : Test) (held : ℕ) → t ≡ u → held ≡ a.reg t.register → word_at (held + 8 * (2 + t.field)) ≡ object_in a u.register + 2 + u.field
field_at a t u held same e =
    let at : word_at held ≡ object_in a t.register = ap word_at e in
    let is : word_at (held + 8 * (2 + t.field)) ≡ object_in a t.register + 2 + t.field = omega (arith, word_at-plus held (2 + t.field), at) in
    is ∙ ap (λ (v : Test). object_in a v.register + 2 + v.field) same

-- the rule of each access
module _ (p : Program) (lay : Constants) (a : Actor) (rest : List Statement) (s : Statement) where
  pub putd_comes : (r i v : ℕ) → s ≡ PutD r i v → Comes p lay (within a rest (Access s)) (Store (Word (object_in a r + 2 + i)) (a.reg v)) true (over a rest a.reg Fine)
  putd_comes r i v is = subst (λ (u : Statement). Comes p lay (within a rest (Access u)) (Store (Word (object_in a r + 2 + i)) (a.reg v)) true (over a rest a.reg Fine)) (sym is) (putd_stores a rest r i v)

  pub get_comes : (d r i v : ℕ) → s ≡ Get d r i → IsReference p v → Comes p lay (within a rest (Access s)) (Load (Word (object_in a r + 2 + i)) v) true (over a rest (put a.reg d v) (reference_answer v))
  get_comes d r i v is ref =
      subst (λ (u : Statement). Comes p lay (within a rest (Access u)) (Load (Word (object_in a r + 2 + i)) v) true (over a rest (put a.reg d v) (reference_answer v))) (sym is) (get_loads a rest d r i v ref)

  pub getd_comes : (d r i v : ℕ) → s ≡ GetD d r i → Comes p lay (within a rest (Access s)) (Load (Word (object_in a r + 2 + i)) v) true (over a rest (put a.reg d v) (Number v))
  getd_comes d r i v is =
      subst (λ (u : Statement). Comes p lay (within a rest (Access u)) (Load (Word (object_in a r + 2 + i)) v) true (over a rest (put a.reg d v) (Number v))) (sym is) (getd_loads a rest d r i v)
