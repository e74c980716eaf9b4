-- The seeds are counted in a ledger of their own.
use Rattle.sg_cards.proofs.tests.seeds_of.Given as goal

abbrev pub ghosts-seeds_by : goal.ghosts-seeds_by
ghosts-seeds_by a = record { name = a.blank.name; parts = a.blank.parts }
