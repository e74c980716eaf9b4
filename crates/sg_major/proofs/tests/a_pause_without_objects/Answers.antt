use Rattle.std.proofs.Common.{[]}
use Rattle.sg_major.proofs.Empty.{empty_some}
use Rattle.sg_major.proofs.tests.a_pause_without_objects.Goals as goal

pub major-requires : goal.major-requires
major-requires g c = record {
  some = empty_some (record {
    config = record { nursery = 256; blocks = 2; pages = 0; buffer = 32; workers = 1; cement = 1 };
    classes = [];
    mutators = [];
  }) c.in_ok-space.space c.in_ok-space.ensures.clear;
}
