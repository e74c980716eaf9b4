use Rattle.std.proofs.Common.{map}
use Rattle.sg_limits.specs.Faults.{IsLater}
use Rattle.sg_text.specs.Reading.{sentence_of}
use Rattle.sg_parse.proofs.Firsts.{HasNoneBelow}
use Rattle.sg_parse.proofs.later.later.Given as goal

abbrev pub invariant-loop-index : goal.invariant-loop-index
invariant-loop-index l = HasNoneBelow IsLater (map sentence_of l.lines) l.index
