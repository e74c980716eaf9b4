use Rattle.std.proofs.Common.{sym, subst}
use Rattle.sg_words.specs.Blocks.{IsSizeClass}
use Rattle.sg_words.proofs.Blocks.{slot_size-class}
use Rattle.sg_actor.proofs.making.Making.slot.Goals as goal

pub returns-clause-class : goal.returns-clause-class
returns-clause-class c = subst IsSizeClass (sym c.in-Some.ensures.2) (slot_size-class c.words.result)
