use Rattle.std.proofs.Common.{◌≡◌, ℕ, ◌<◌, true, get_or}
use Rattle.sg_text.specs.Steps.{is_word_byte}
use Rattle.sg_text.proofs.lines.word_len.Given as goal

abbrev pub invariant-loop-at : goal.invariant-loop-at
invariant-loop-at l = (k : ℕ) → k < l.at → is_word_byte (get_or l.text k 0) ≡ true
