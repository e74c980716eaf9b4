-- The law is proved in `proofs/OneTurn.antt`.
use Rattle.sg_graph.proofs.OneTurn.{has_one_turn}
use Rattle.sg_graph.proofs.laws.one_turn.Goals as goal

pub returns : goal.returns
returns c = has_one_turn
