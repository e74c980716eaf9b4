use Rattle.sg_placing.specs.Tried.{CanAnswer}
use Rattle.sg_placing.proofs.tests.places_of_vectors.Given as goal

-- the space still answers
abbrev pub invariant-loop-case : goal.invariant-loop-case
invariant-loop-case g l = CanAnswer l.space
