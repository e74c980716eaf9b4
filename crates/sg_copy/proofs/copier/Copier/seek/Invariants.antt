use Rattle.std.proofs.Common.{◌≡◌, ◌⊎◌}
use Rattle.sg_round.specs.Worker.{Idle}
use Rattle.sg_copy.specs.Telling.{Teller, IsOn, HasStarted, at}
use Rattle.sg_copy.specs.State.{teller_of, seat_of}
use Rattle.sg_copy.specs.Turning.{LooksAt}
use Rattle.sg_copy.proofs.Seeking.{sought}
use Rattle.sg_copy.proofs.copier.Copier.seek.Given as goal

-- the cells before this one were seen empty
abbrev pub invariant-loop-cell : goal.invariant-loop-cell
invariant-loop-cell g l =
    let m = l.initial.self in
    let x = l.initial.port in
    record {
      self_is : l.self ≡ m;
      sought_so_far : (a : Teller) → LooksAt a l.fn.from (at (teller_of m) Idle) →
          IsOn (seat_of m) g.P.Port.leads g.P.Port.may g.P.Port.sees g.P.BlockPort.blocks x a →
          ((l.cell ≡ l.fn.from) × (l.port ≡ x)) ⊎ HasStarted (seat_of m) g.P.Port.leads a x (at (teller_of m) (sought m.team l.cell)) l.port;
    }
