-- The cards are cleaned in a ledger of their own.
use Rattle.sg_cards.proofs.cards.clean.Given as goal

abbrev pub ghosts-clean_range : goal.ghosts-clean_range
ghosts-clean_range a = record { name = a.blank.name; parts = a.blank.parts }
