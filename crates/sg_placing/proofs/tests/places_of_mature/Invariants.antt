use Rattle.sg_placing.specs.Tried.{CanAnswer}
use Rattle.sg_placing.proofs.tests.places_of_mature.Given as goal

-- the space still answers
abbrev pub invariant-loop-word : goal.invariant-loop-word
invariant-loop-word g l = CanAnswer l.space

abbrev pub invariant-loop-slot : goal.invariant-loop-slot
invariant-loop-slot g l = CanAnswer l.space
