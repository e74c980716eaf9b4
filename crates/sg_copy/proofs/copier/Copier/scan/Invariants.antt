use Rattle.std.proofs.Common.{◌≡◌, ◌-◌}
use Rattle.sg_copy.specs.declared.copier.Stage.TheVariants.{Between}
use Rattle.sg_copy.specs.Telling.{HasGoneOn}
use Rattle.sg_copy.specs.State.{teller_of, seat_of, IsSameCopier}
use Rattle.sg_copy.proofs.copier.Copier.scan.Given as goal

-- the slots before this one are handled
abbrev pub invariant-loop-slot : goal.invariant-loop-slot
invariant-loop-slot g l = record {
  gone : HasGoneOn (seat_of l.initial.self) g.P.Port.leads (teller_of l.initial.self) l.initial.port (teller_of l.self) l.port;
  same : IsSameCopier l.initial.self l.self;
  between : l.self.stage ≡ Between;
}

abbrev pub decreases-loop-slot : goal.decreases-loop-slot
decreases-loop-slot g l = l.self.hand.fields - l.self.hand.from
