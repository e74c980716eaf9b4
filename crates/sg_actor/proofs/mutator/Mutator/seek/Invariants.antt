use Rattle.std.proofs.Common.{◌≡◌}
use Rattle.sg_rules.specs.Rules.{Constants, looking, within}
use Rattle.sg_rules.specs.Acting.{HasGoneOn}
use Rattle.sg_actor.specs.State.{actor_of}
use Rattle.sg_actor.specs.Turning.{IsOnPort}
use Rattle.sg_actor.proofs.mutator.Mutator.seek.Given as goal

-- the mutator has looked at the fragments before this one
abbrev pub invariant-loop-fragment : goal.invariant-loop-fragment
invariant-loop-fragment g l =
    let m = l.initial.self in
    let s = l.making.statement in
    record {
      self_is : l.self ≡ m;
      gone : (lay : Constants) →
          IsOnPort m.program lay g.P.Port.leads g.P.Port.may g.P.Port.sees g.P.FragPort.fragments g.P.FragPort.limit g.P.BlockPort.blocks g.P.SweepPort.heap g.P.SweepPort.marks
          l.initial.port (within (actor_of m) m.script (looking lay s l.first)) →
          HasGoneOn m.program lay g.P.Port.leads (within (actor_of m) m.script (looking lay s l.first)) l.initial.port (within (actor_of m) m.script (looking lay s l.fragment)) l.port;
    }
