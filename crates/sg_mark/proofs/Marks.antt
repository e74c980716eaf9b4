-- The laws of marks.
use Rattle.std.proofs.Common.{◌≡◌, ℕ, Bool, true, Option, List, inl, inr, sym, subst}
use Rattle.std.specs.List.{Contains}
use Rattle.sg_words.specs.Reach.{Next}
use Rattle.sg_space.specs.Space.{Contents}
use Rattle.sg_space.specs.Standing.{IsStanding}
use Rattle.sg_mark.specs.Marking.{HasMarks, CanMark, HasMarked, IsStrongTarget}
use Rattle.sg_mark.specs.Laws.{MarkingLaw}
use Rattle.sg_mark.proofs.Places.{place_of, has_mark}
use Rattle.sg_mark.proofs.Marked.{is_now, now_is}
use Rattle.sg_mark.proofs.Unmarked.{without_word, without_block, is_bare}

pub go_on : (t : Contents) (owner : ℕ → Option ℕ) (marked : ℕ → Bool) (before after : Contents) (roots more : List ℕ) → CanMark t owner marked before roots →
    (marks : HasMarked t owner marked roots after) → ((a : ℕ) → Contains more a → IsStanding owner a) → CanMark t owner marks.now after more
go_on t owner marked before after roots more can marks stand = record {
  contents = can.contents;
  sound = can.sound;
  refers = can.refers;
  unmarked = can.unmarked;
  has = marks.has;
  closed = closed;
  stand = stand;
}
  where
    closed : (h k : ℕ) → marks.now h ≡ true → IsStrongTarget t owner h k → marks.now k ≡ true
    closed h k y target = elim ((marks.exact h target.stands).0 y) [
      | inl e ↦ (marks.exact k target.target).1 (inl (can.closed h k e target))
      | inr r ↦ (marks.exact k target.target).1 (inr (Next h k r target))
    ]

pub law : MarkingLaw
law = record {
  again = go_on;
  told = λ t owner now s sound marks h stands. (has_mark t owner now s marks h (place_of t owner sound h stands), (is_now t owner sound h stands now s marks, now_is t owner sound h stands now s marks));
  without = λ t owner now less s new h contents sound marks stands itself m keeps drops here. without_word t owner now less s marks keeps contents sound h stands itself drops here new m;
  cleared = λ t owner now less s new c marks e keeps drops none. subst (HasMarks t owner less) (sym e) (without_block t owner now less s marks keeps c drops none);
  bare = λ t owner now s unmarked marks none. is_bare t owner now s unmarked marks none;
}
