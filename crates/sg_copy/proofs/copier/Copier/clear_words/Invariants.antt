use Rattle.std.proofs.Common.{◌+◌}
use Rattle.sg_round.specs.Worker.{On, Body}
use Rattle.sg_copy.specs.Telling.{HasGoneOn, at}
use Rattle.sg_copy.specs.State.{teller_of, seat_of, object_of}
use Rattle.sg_copy.proofs.copier.Copier.clear_words.Given as goal

-- the words before this one are written
abbrev pub invariant-loop-j : goal.invariant-loop-j
invariant-loop-j g l =
    HasGoneOn (seat_of l.self) g.P.Port.leads (at (teller_of l.self) (On l.fn.job.slot (Body (object_of l.fn.job) l.to (l.fn.job.fields + 2)))) l.initial.port
    (at (teller_of l.self) (On l.fn.job.slot (Body (object_of l.fn.job) l.to l.j))) l.port
