use Rattle.sg_grammar.proofs.Uniqueness.{have_one_program}
use Rattle.sg_grammar.proofs.laws.one_program.Goals as goal

pub returns : goal.returns
returns c = have_one_program
