use Rattle.std.proofs.Common.{◌≡◌, map, take}
use Rattle.sg_parse.specs.Building.{config_of}
use Rattle.sg_text.specs.Reading.{sentence_of}
use Rattle.sg_parse.proofs.build.config.Given as goal

abbrev pub invariant-loop-line : goal.invariant-loop-line
invariant-loop-line l = l.config ≡ config_of (take l.line-index (map sentence_of l.lines))
