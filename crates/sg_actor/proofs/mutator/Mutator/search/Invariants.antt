use Rattle.std.proofs.Common.{◌≡◌}
use Rattle.sg_rules.specs.Rules.{Constants, Search, onward, within}
use Rattle.sg_rules.specs.Acting.{HasGoneOn}
use Rattle.sg_actor.specs.State.{actor_of}
use Rattle.sg_actor.specs.Turning.{IsOnPort}
use Rattle.sg_actor.proofs.mutator.Mutator.search.Given as goal

-- the mutator has looked at the blocks before this one
abbrev pub invariant-loop-block : goal.invariant-loop-block
invariant-loop-block g l =
    let m = l.fn.self in
    let p = m.program in
    let s = l.making.statement in
    record {
      self_is : l.self ≡ m;
      gone : (lay : Constants) →
          IsOnPort p lay g.P.Port.leads g.P.Port.may g.P.Port.sees g.P.FragPort.fragments g.P.FragPort.limit g.P.BlockPort.blocks g.P.SweepPort.heap g.P.SweepPort.marks
          l.fn.port (within (actor_of m) m.script (onward p (Search s) l.first)) →
          HasGoneOn p lay g.P.Port.leads (within (actor_of m) m.script (onward p (Search s) l.first)) l.fn.port
          (within (actor_of m) m.script (onward p (Search s) l.block)) l.port;
    }
