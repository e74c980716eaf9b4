use Rattle.sg_minor.proofs.found.found_in.Given as goal

abbrev pub ghosts-seeds_by : goal.ghosts-seeds_by
ghosts-seeds_by a = record { name = a.blank.name; parts = a.blank.parts }
