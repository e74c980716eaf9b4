use Rattle.std.proofs.Common.{[]}
use Rattle.sg_minor.proofs.Empty.{empty_some}
use Rattle.sg_minor.proofs.tests.a_pause_without_objects.Goals as goal

pub found_in-requires : goal.found_in-requires
found_in-requires g c = empty_some (record {
  config = record { nursery = 256; blocks = 1; pages = 0; buffer = 32; workers = 1; cement = 1 };
  classes = [];
  mutators = [];
}) c.in_ok-space.space c.in_ok-space.ensures.clear

pub minor-requires-clause-some : goal.minor-requires-clause-some
minor-requires-clause-some g c = empty_some (record {
  config = record { nursery = 256; blocks = 1; pages = 0; buffer = 32; workers = 1; cement = 1 };
  classes = [];
  mutators = [];
}) c.in_ok-space.space c.in_ok-space.ensures.clear
