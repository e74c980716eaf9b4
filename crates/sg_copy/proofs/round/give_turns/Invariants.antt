use Rattle.std.proofs.Common.{ℕ, List}
use Rattle.sg_copy.specs.State.{seat_of, teller_of}
use Rattle.sg_copy.specs.Plain.{words_with}
use Rattle.sg_copy.specs.Rounds.{IsReady}
use Rattle.sg_copy.proofs.RoundMeasure.{left}
use Rattle.sg_copy.proofs.RoundMidst.{IsMidst}
use Rattle.sg_copy.proofs.round.give_turns.Given as goal

-- the round stands in its midst
abbrev pub invariant-loop-copier : goal.invariant-loop-copier
invariant-loop-copier l = (slots wholes : List ℕ) → (ready : IsReady l.fn.port.space.now slots wholes l.fn.copier) →
    IsMidst l.fn.port slots wholes ready.items ready.can.zone l.port l.copier

abbrev pub decreases-loop-copier : goal.decreases-loop-copier
decreases-loop-copier l = left (seat_of l.copier).area (words_with l.port.space.now l.port.cells) (teller_of l.copier)
