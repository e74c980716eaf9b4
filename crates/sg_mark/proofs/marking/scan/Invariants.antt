-- The strong fields before this one were visited.
use Rattle.std.proofs.Common.{◌≡◌, ◌-◌, ◌<◌, ◌≤◌, ℕ, Bool, true, Option, vec_capacity}
use Rattle.sg_words.specs.Address.{word_at}
use Rattle.sg_desc.specs.Shapes.{is_strong}
use Rattle.sg_space.specs.Space.{Contents}
use Rattle.sg_space.specs.Standing.{IsStanding}
use Rattle.sg_mark.specs.Gray.{IsGray, HasScannedTo}
use Rattle.sg_mark.proofs.marking.scan.Given as goal

abbrev pub invariant-loop-i : goal.invariant-loop-i
invariant-loop-i l = record {
  room : vec_capacity l.gray ≡ vec_capacity l.fn.gray;
  layout : l.space.layout ≡ l.fn.space.layout;
  within : l.i ≤ l.fields;
  strong : l.i < l.fields → is_strong l.kind l.i l.fields ≡ true;
  scanned : (t : Contents) (owner : ℕ → Option ℕ) (marked : ℕ → Bool) → IsGray t owner marked l.fn.space l.fn.gray.items → IsStanding owner l.a →
      HasScannedTo t owner marked l.fn.gray.items (word_at l.a) l.i l.space l.gray.items;
}

abbrev pub decreases-loop-i : goal.decreases-loop-i
decreases-loop-i l = l.fields - l.i
