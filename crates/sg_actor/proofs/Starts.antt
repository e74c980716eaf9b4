-- How a mutator between two statements begins the next one.
use Rattle.std.proofs.Common.{◌≡◌, ◌≢◌, ◌↔◌, ℕ, ◌<◌, Bool, true, false, List, [], ◌∷◌, length, inl, inr, refl, sym, ap, ◌∙◌, subst, arith}
use Rattle.std.proofs.lemmas.Bool.{cases_eq, false≢true}
use Rattle.sg_words.specs.declared.steps.Place.TheVariants.{Stop}
use Rattle.sg_words.specs.declared.steps.Step.TheVariants.{Load}
use Rattle.sg_words.specs.declared.steps.Call.TheVariants.{Loads}
use Rattle.sg_program.specs.declared.program.Program.{Program}
use Rattle.sg_program.specs.declared.program.Statement.{Statement}
use Rattle.sg_program.specs.declared.program.Statement.TheVariants.{New, NewV, Put, Get, PutD, GetD, Hide, Unhide, Push, Pop}
use Rattle.sg_rules.specs.Rules.{Constants, Actor, Yielded as HasYielded, before, within}
use Rattle.sg_rules.specs.Rules.Comes.{yields}
use Rattle.sg_rules.specs.Sane.{RestsOn, MayBegin, IsSaneAt}
use Rattle.sg_rules.specs.Acting.{Acts, RestsAt}
use Rattle.sg_actor.specs.declared.mutator.Stage.{Stage}
use Rattle.sg_actor.specs.declared.mutator.Stage.TheVariants.{Between, Within, Claiming, OpeningBlock, TakingSlot, TakingOver, Sweeping, BehindSweep, Ended, Asking, Yielded}
use Rattle.sg_actor.specs.State.{Mutating, mid_of, actor_of, IsSameMutator}
use Rattle.sg_actor.specs.Turning.{before_this, IsResting, IsBehindTurn, HasClassFor}
use Rattle.sg_actor.proofs.Ports.{Ports, On, Did, none_yet, may_act}
use Rattle.sg_actor.proofs.Turnings.{Begun, Ran, Turned, first_on, turned, turned_by}

-- a list that isn't empty has a first element
pub none_left : (xs : List Statement) (more : Bool) → ((more ≡ true) ↔ (xs ≢ [])) → more ≡ false → xs ≡ []
none_left [] more is not = refl
none_left (x ∷ xs) more is not = absurd (false≢true (sym not ∙ is.1 (λ e. cc)))

pub first_left : (xs : List Statement) → xs ≢ [] → (s : Statement) × (rest : List Statement) × (xs ≡ s ∷ rest)
first_left [] some = absurd (some refl)
first_left (x ∷ xs) some = (x, xs, refl)

-- no stop was asked for
pub not_set : (saw : ℕ) (stop : Bool) → ((stop ≡ true) ↔ (saw ≢ 0)) → stop ≡ false → saw ≡ 0
not_set saw stop is not = elim (cases_eq saw 0) [
  | inl zero ↦ zero
  | inr some ↦ absurd (false≢true (sym not ∙ is.1 some))
]

some_set : (n : ℕ) → n ≡ 1 → n ≢ 0
some_set n is none = absurd (omega arith)

-- where a mutator rests behind its turn, a turn ends
pub rests_at : (p : Program) (stage : Stage) → IsResting p stage → RestsAt (mid_of stage)
rests_at p Between is = tt
rests_at p Within is = tt
rests_at p (Claiming statement fragment next) is = tt
rests_at p (OpeningBlock statement block) is = tt
rests_at p (TakingSlot statement block slot) is = tt
rests_at p (TakingOver statement block size) is = tt
rests_at p (Sweeping statement block size) is = tt
rests_at p (BehindSweep statement block) is = tt
rests_at p Ended is = tt
rests_at p (Asking statement request) is = tt
rests_at p Yielded is = tt

-- what a statement rests on has nothing to do with those behind it
rests_alike : (p : Program) (a : Actor) (rest : List Statement) (s : Statement) → RestsOn p a s → RestsOn p (record a { script = rest }) s
rests_alike p a rest (New r class) h = h
rests_alike p a rest (NewV r class count) h = h
rests_alike p a rest (Put r i s) h = h
rests_alike p a rest (Get d r i) h = h
rests_alike p a rest (PutD r i s) h = h
rests_alike p a rest (GetD d r i) h = h
rests_alike p a rest (Hide d s offset) h = h
rests_alike p a rest (Unhide d s) h = h
rests_alike p a rest (Push r) h = h
rests_alike p a rest (Pop r) h = h
rests_alike p a rest s h = tt

-- a mutator between two statements, the next of which is s
module _ (m : Mutating) (between : m.stage ≡ Between) (s : Statement) (rest : List Statement) (is : m.script ≡ s ∷ rest) where
  pub before_is : actor_of m ≡ before (actor_of m) s rest
  before_is = ap (λ (stage : Stage). record (actor_of m) { mid = mid_of stage }) between ∙ ap (λ script. record (actor_of m) { script = script; mid = mid_of Between }) is

  pub may_next : (lay : Constants) → IsSaneAt m.program lay (actor_of m) (mid_of m.stage) → MayBegin m.program (actor_of m) s
  may_next lay sane = subst (λ (stage : Stage). IsSaneAt m.program lay (actor_of m) (mid_of stage)) between sane s rest is

  -- which has begun it
  module _ (n : Mutating) (begins : actor_of n ≡ record (actor_of m) { script = rest }) (same : n.program ≡ m.program) where
    pub before_begun : before_this n s ≡ actor_of m
    before_begun = ap (λ (a : Actor). before a s a.script) begins ∙ sym before_is

    pub classed_begun : HasClassFor m s → HasClassFor n s
    classed_begun classed test tests some =
        let reg : (actor_of n).reg test.register ≡ (actor_of m).reg test.register = ap (λ (a : Actor). a.reg test.register) begins in
        subst (λ (p : Program). 0 < length p.classes) (sym same) (classed test tests (λ z. some (reg ∙ z)))

    pub may_begun : MayBegin m.program (actor_of m) s → MayBegin n.program (actor_of n) s
    may_begun may =
        let here : MayBegin m.program (record (actor_of m) { script = rest }) s = record { runnable = may.runnable; rests = rests_alike m.program (actor_of m) rest s may.rests } in
        subst (λ (p : Program). MayBegin p (actor_of n) s) (sym same) (subst (λ (a : Actor). MayBegin m.program a s) (sym begins) here)

    module _ {P : Type 0} (o : Ports P) (lay : Constants) (x y : P) (on : On o m.program lay x (actor_of m)) (did : Did o m.program lay x (Load Stop 0) y) where
      pub begun_on : Begun o n.program lay y (before_this n s)
      begun_on b acts =
          let acts : Acts m.program lay (actor_of m) (Load Stop 0) b = subst (λ (a : Actor). Acts m.program lay a (Load Stop 0) b) before_begun (subst (λ (p : Program). Acts p lay (before_this n s) (Load Stop 0) b) same acts) in
          subst (λ (p : Program). On o p lay y b) (sym same) (first_on o m.program lay (actor_of m) b x y (Load Stop 0) on acts did)

      pub turn_begun : (k : Actor) (z : P) → Ran o n.program lay (before_this n s) y k z → RestsAt k.mid → Turned o m.program lay (actor_of m) x k z
      turn_begun k z ran rests =
          turned_by o m.program lay (actor_of m) k x y z on did
          (subst (λ (a : Actor). Ran o m.program lay a y k z) before_begun (subst (λ (p : Program). Ran o p lay (before_this n s) y k z) same ran)) rests

  -- or it gives way
  module _ {P : Type 0} (o : Ports P) (lay : Constants) (x : P) (on : On o m.program lay x (actor_of m)) where
    yields_now : (saw : ℕ) → saw ≢ 0 → Acts m.program lay (actor_of m) (Load Stop saw) (within (actor_of m) m.script HasYielded)
    yields_now saw set =
        subst (λ (a : Actor). Acts m.program lay a (Load Stop saw) (within (actor_of m) m.script HasYielded)) (sym before_is)
        (subst (λ script. Acts m.program lay (before (actor_of m) s rest) (Load Stop saw) (within (actor_of m) script HasYielded)) (sym is) (false, inl (yields (actor_of m) s rest saw set)))

    pub stop_seen : o.may x (Loads Stop)
    stop_seen =
        let set = some_set 1 refl in
        may_act o m.program lay (actor_of m) (actor_of m) x x on (none_yet o m.program lay (actor_of m) x on) (Load Stop 1) (yields_now 1 set).0
        (within (actor_of m) m.script HasYielded) (yields_now 1 set).1

    pub gives_way : (y : P) (saw : ℕ) (k : Actor) → saw ≢ 0 → Did o m.program lay x (Load Stop saw) y → k ≡ within (actor_of m) m.script HasYielded → Turned o m.program lay (actor_of m) x k y
    gives_way y saw k set did e =
        let b = within (actor_of m) m.script HasYielded in
        let at = first_on o m.program lay (actor_of m) b x y (Load Stop saw) on (yields_now saw set) did in
        subst (λ (c : Actor). Turned o m.program lay (actor_of m) x c y) (sym e)
        (turned o m.program lay (actor_of m) b x y (Load Stop saw) on (yields_now saw set) did b y (none_yet o m.program lay b y at) tt)

-- behind its turn, seen from before it began its statement
pub behind_since : (m n k : Mutating) → IsSameMutator m n → IsBehindTurn n k → IsBehindTurn m k
behind_since m n k since behind = record {
  rests = subst (λ (p : Program). IsResting p k.stage) since.program behind.rests;
  same = record { program = behind.same.program ∙ since.program; number = behind.same.number ∙ since.number; first = behind.same.first ∙ since.first };
}
