-- The law is proved in `proofs/Turns.antt`.
use Rattle.sg_graph.proofs.Turns.{runs_by_turns}
use Rattle.sg_graph.proofs.laws.runs_by_turns.Goals as goal

pub returns : goal.returns
returns c = runs_by_turns
