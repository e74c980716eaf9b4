-- No block that was looked at is still to be swept.
use Rattle.sg_space.specs.Space.{words_of}
use Rattle.sg_slots.specs.Claims.{IsSettled}
use Rattle.sg_claims.proofs.tests.is_settled.Given as goal

abbrev pub invariant-loop-block : goal.invariant-loop-block
invariant-loop-block l = IsSettled (words_of l.space) l.block
