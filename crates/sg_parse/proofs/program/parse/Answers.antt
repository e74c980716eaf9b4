use Rattle.sg_parse.proofs.Conclusions.{only-one, none-reads}
use Rattle.sg_parse.proofs.program.parse.Goals as goal

pub returns-clause-one : goal.returns-clause-one
returns-clause-one c = only-one c.args.bytes.now c.text.result c.one_reading.ensures c.text.ensures.read

pub returns-clause-wrong : goal.returns-clause-wrong
returns-clause-wrong c = none-reads c.one_saying.ensures c.args.bytes.now c.text.result c.text.ensures.refused
