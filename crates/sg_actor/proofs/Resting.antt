-- A mutator that rests in the midst of a statement.
use Rattle.std.proofs.Common.{◌≡◌, sym, ap, subst}
use Rattle.sg_rules.specs.Rules.{Constants, Actor, within}
use Rattle.sg_actor.specs.declared.mutator.Stage.{Stage}
use Rattle.sg_actor.specs.State.{Mutating, actor_of, mid_of}
use Rattle.sg_actor.proofs.Ports.{Ports, On}
use Rattle.sg_actor.proofs.Turnings.{Turned}

module _ (m : Mutating) (at : Stage) (stage : m.stage ≡ at) where
  abbrev pub there : Actor
  there = within (actor_of m) m.script (mid_of at)

  pub rests_there : actor_of m ≡ within (actor_of m) m.script (mid_of at)
  rests_there = ap (λ (st : Stage). record (actor_of m) { mid = mid_of st }) stage

  module _ {P : Type 0} (o : Ports P) (lay : Constants) (x : P) where
    pub on_there : On o m.program lay x (actor_of m) → On o m.program lay x (within (actor_of m) m.script (mid_of at))
    on_there on = subst (λ (a : Actor). On o m.program lay x a) rests_there on

    pub turned_there : (b : Actor) (y : P) → Turned o m.program lay (within (actor_of m) m.script (mid_of at)) x b y →
        Turned o m.program lay (actor_of m) x b y
    turned_there b y turn = subst (λ (a : Actor). Turned o m.program lay a x b y) (sym rests_there) turn
