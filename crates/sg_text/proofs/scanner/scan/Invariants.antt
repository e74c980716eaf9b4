use Rattle.std.proofs.Common.{◌+◌, ◌≤◌, suc, length, map}
use Rattle.sg_text.specs.Words.{lines_of}
use Rattle.sg_text.specs.Reading.{sentence_of}
use Rattle.sg_text.specs.Steps.{lines_left}
use Rattle.sg_text.proofs.ScanLemmas.{size_behind, ScanSoFar}
use Rattle.sg_text.proofs.scanner.scan.Given as goal

abbrev pub invariant-loop-rest : goal.invariant-loop-rest
invariant-loop-rest l = record {
  so_far : ScanSoFar (lines_of l.bytes) (lines_left l.rest) l.number l.numbers.items (map sentence_of l.lines.items);
  few : l.number + size_behind l.rest ≤ suc (length l.bytes);
}

abbrev pub decreases-loop-rest : goal.decreases-loop-rest
decreases-loop-rest l = size_behind l.rest
