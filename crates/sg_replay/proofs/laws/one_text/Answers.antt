-- The law is proved in `proofs/Running.antt`.
use Rattle.sg_replay.proofs.Running.{has_one_text}
use Rattle.sg_replay.proofs.laws.one_text.Goals as goal

pub returns : goal.returns
returns c = has_one_text c.one_turn.ensures c.one_search.ensures c.one_report.ensures
