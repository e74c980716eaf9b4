-- The words before this one stand.
use Rattle.std.proofs.Common.{◌≡◌, ◌+◌, ◌<◌, ◌≤◌, ◌⊎◌, ℕ, length, slice_index}
use Rattle.sg_space.specs.Standing.{word}
use Rattle.sg_mark.proofs.tests.fill.Given as goal

abbrev pub invariant-loop-i : goal.invariant-loop-i
invariant-loop-i l = record {
  still : l.space ≡ record l.fn.space { words = l.space.words };
  long : length l.space.words ≡ length l.fn.space.words;
  written : (k : ℕ) → k < l.i → word l.space (512 + k) ≡ slice_index l.words k;
  others : (x : ℕ) → (x < 512) ⊎ (512 + length l.words ≤ x) → word l.space x ≡ word l.fn.space x;
}
