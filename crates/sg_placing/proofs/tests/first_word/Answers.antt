use Rattle.std.proofs.Common.{◌+◌, refl}
use Rattle.sg_program.specs.declared.answers.Request.TheVariants.{Need}
use Rattle.sg_placing.proofs.tests.first_word.Goals as goal

pub answer-requires-clause-asks : goal.answer-requires-clause-asks
answer-requires-clause-asks c = (Need (c.args.count + 2), refl)
