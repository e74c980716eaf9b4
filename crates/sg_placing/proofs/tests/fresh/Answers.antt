use Rattle.sg_placing.proofs.Fresh.{begun}
use Rattle.sg_placing.proofs.tests.fresh.Goals as goal

pub returns : goal.returns
returns c = begun c.first_opening.ensures c.in_ok-space.space c.as_slice.result.now c.as_slice.ensures c.in_ok-space.ensures.clear c.in_ok-space.ensures.contents
