-- The law is proved in `proofs/OneReport.antt`.
use Rattle.sg_graph.proofs.OneReport.{one_report}
use Rattle.sg_graph.proofs.laws.one_report.Goals as goal

pub returns : goal.returns
returns c = one_report
