-- The cards that were looked at are cleaned, and the space is still sound.
use Rattle.sg_space.specs.Standing.{IsSound}
use Rattle.sg_cards.proofs.Cleaned.{IsCleanedTo}
use Rattle.sg_cards.proofs.cards.clean_range.Given as goal

abbrev pub invariant-loop-card : goal.invariant-loop-card
invariant-loop-card g l = record {
  sound : IsSound l.space;
  cleaned : IsCleanedTo l.fn.space l.space l.card;
}
