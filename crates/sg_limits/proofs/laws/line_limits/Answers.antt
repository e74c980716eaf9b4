use Rattle.sg_limits.proofs.LineBreaks.{have_line_limits}
use Rattle.sg_limits.proofs.laws.line_limits.Goals as goal

pub returns : goal.returns
returns c = have_line_limits
