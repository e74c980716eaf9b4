use Rattle.std.proofs.Common.{◌≡◌, ◌≤◌, ◌++◌, true, length, take, map}
use Rattle.sg_text.specs.Words.{is_proper, words_of}
use Rattle.sg_text.specs.Steps.{first_line, lines_below}
use Rattle.sg_text.proofs.lines.split_line.Given as goal

abbrev pub invariant-loop-rest : goal.invariant-loop-rest
invariant-loop-rest l = record {
  words : is_proper (first_line l.rest) ≡ true → words_of (first_line l.bytes) ≡ map (λ w. w.now) (take l.count l.words) ++ words_of (first_line l.rest);
  proper : is_proper (first_line l.bytes) ≡ is_proper (first_line l.rest);
  below : lines_below l.bytes ≡ lines_below l.rest;
  few : l.count ≤ 6;
  six : length l.words ≡ 6;
  shorter : length l.rest ≤ length l.bytes;
}

abbrev pub decreases-loop-rest : goal.decreases-loop-rest
decreases-loop-rest l = length l.rest
