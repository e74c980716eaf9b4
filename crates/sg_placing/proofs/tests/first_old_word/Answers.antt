use Rattle.std.proofs.Common.{refl}
use Rattle.sg_words.specs.Blocks.{slot_size}
use Rattle.sg_program.specs.declared.answers.Request.TheVariants.{Slot}
use Rattle.sg_placing.proofs.tests.first_old_word.Goals as goal

pub answer-requires-clause-asks : goal.answer-requires-clause-asks
answer-requires-clause-asks c = (Slot (slot_size 4), refl)
