use Rattle.sg_program.proofs.Runs.{items_do_what_is_written}
use Rattle.sg_program.proofs.laws.items_do_what_is_written.Goals as goal

pub returns : goal.returns
returns c = items_do_what_is_written
