use Rattle.std.proofs.Common.{map, take}
use Rattle.sg_words.specs.Address.{word_at}
use Rattle.sg_space.specs.Standing.{word}
use Rattle.sg_space.specs.Changes.{IsStill}
use Rattle.sg_nursery.specs.Parts.{HasTagged}
use Rattle.sg_nursery.proofs.tag.tag.Given as goal

abbrev pub invariant-loop-pin : goal.invariant-loop-pin
invariant-loop-pin l = record {
  still : IsStill l.fn.space l.space;
  tagged : HasTagged (word l.fn.space) (map word_at (take l.pin-index l.pins)) (word l.space);
}
