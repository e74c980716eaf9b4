use Rattle.sg_grammar.proofs.Uniqueness.{has_one_reading}
use Rattle.sg_grammar.proofs.laws.one_reading.Goals as goal

pub returns : goal.returns
returns c = has_one_reading c.one_saying.ensures c.one_program.ensures
