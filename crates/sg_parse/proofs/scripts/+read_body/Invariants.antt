use Rattle.std.proofs.Common.{length, map, ◌-◌, ◌≤◌}
use Rattle.sg_parse.specs.Names.{classes_of}
use Rattle.sg_text.specs.Reading.{sentence_of}
use Rattle.sg_parse.proofs.Bodies.{IsInBody}
use Rattle.sg_parse.proofs.scripts.+read_body.Given as goal

abbrev pub decreases-read_body : goal.decreases-read_body
decreases-read_body l = length l.lines.now

abbrev pub invariant-loop-at : goal.invariant-loop-at
invariant-loop-at l = record { within : l.at ≤ length l.lines; state : IsInBody (classes_of l.names) (map sentence_of l.lines) l.at l.items.items }

abbrev pub decreases-loop-at : goal.decreases-loop-at
decreases-loop-at l = length l.lines - l.at
