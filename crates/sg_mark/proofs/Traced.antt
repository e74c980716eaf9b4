-- The roots one by one, and then the gray list one by one.
use Rattle.std.proofs.Common.{◌≡◌, ℕ, ◌+◌, ◌<◌, inl, inr, Bool, true, false, Option, Some, List, [], length, slice_index, sym, ap, ◌∙◌, subst, arith}
use Rattle.std.proofs.lemmas.Bool.{cases_lt, cases_Bool, cond-true, cond-false}
use Rattle.std.proofs.lemmas.List.{get_or_append_left, get_or_default}
use Rattle.sg_words.specs.Address.{byte_at, word_at}
use Rattle.sg_words.specs.Lists.{In}
use Rattle.sg_words.specs.Reach.{Root, Next}
use Rattle.sg_words.proofs.Members.{in_contains, contains_in}
use Rattle.sg_words.proofs.Closure.{within_closed}
use Rattle.sg_space.specs.Space.{Contents}
use Rattle.sg_mark.specs.Marking.{IsStrongTarget, IsRootAt, CanMark, HasMarked}
use Rattle.sg_mark.specs.Gray.{marked_with, IsGray, HasVisited, HasScanned, HasVisitedRoots, IsTraced, IsTracedTo}
use Rattle.sg_mark.proofs.Places.{word_of_byte}
use Rattle.sg_mark.proofs.Marked.{marks_as}
use Rattle.sg_mark.proofs.Grays.{with_marked, with_cases, with_grown, grown_none, grown_on, grown_as, grown_cases}

module _ (t : Contents) (owner : ℕ → Option ℕ) (marked : ℕ → Bool) (roots : List ℕ) where
  module _ (old : List ℕ) where
    pub roots_none : (s : Contents) → IsGray t owner marked s old → HasVisitedRoots t owner marked old roots 0 s old
    roots_none s gray = record {
      gray = gray;
      grown = grown_none _ old;
      visited = λ i k l o e. absurd (omega arith);
    }

    pub roots_more : (s new : Contents) (mid next : List ℕ) (n a : ℕ) → HasVisitedRoots t owner marked old roots n s mid → n < length roots → slice_index roots n ≡ a →
        HasVisited t owner marked mid a new next → HasVisitedRoots t owner marked old roots (n + 1) new next
    roots_more s new mid next n a before l at visited = record {
      gray = visited.gray;
      grown = grown_on _ old mid next before.grown (grown_as (λ v. v ≡ a) _ mid next (λ v i e. (n, l, get_or_default roots n v 0 l ∙ at ∙ sym e)) visited.grown);
      visited = λ i k m o e. elim (cases_lt i n) [
        | inl low ↦ with_grown marked _ mid next k visited.grown (before.visited i k low o e)
        | inr high ↦ let same : i ≡ n = omega arith in visited.visited k o (sym at ∙ ap (slice_index roots) (sym same) ∙ e)
      ];
    }

    pub traced_none : (s : Contents) → IsTraced t owner marked roots s old → IsTracedTo t owner marked roots old 0 s old
    traced_none s traced = record {
      traced = traced;
      grown = grown_none _ old;
      closed = λ i h k l e target. absurd (omega arith);
    }

    pub traced_more : (s new : Contents) (mid next : List ℕ) (n a : ℕ) → IsTracedTo t owner marked roots old n s mid → n < length mid → slice_index mid n ≡ a →
        HasScanned t owner marked mid (word_at a) new next → IsTracedTo t owner marked roots old (n + 1) new next
    traced_more s new mid next n a before l at scanned = record {
      traced = record {
        is_gray = scanned.gray;
        reached = λ h i. elim (grown_cases _ mid next (byte_at h) scanned.grown i) [
          | inl j ↦ before.traced.reached h j
          | inr q ↦
              let e = q.1 in
              let same : q.0 ≡ h = omega arith in
              Next (word_at a) h (before.traced.reached (word_at a) here) (subst (IsStrongTarget t owner (word_at a)) same q.2)
        ];
      };
      grown = grown_on _ old mid next before.grown (grown_as _ _ mid next (λ v i e. tt) scanned.grown);
      closed = λ i h k m e target.
          let there : i < length mid = omega arith in
          let is : slice_index mid i ≡ byte_at h = sym (get_or_append_left mid scanned.grown.0 0 i there) ∙ ap (λ (xs : List ℕ). slice_index xs i) (sym scanned.grown.1) ∙ e in
          elim (cases_lt i n) [
            | inl low ↦ with_grown marked _ mid next k scanned.grown (before.closed i h k low is target)
            | inr high ↦
                let same : i ≡ n = omega arith in
                let address : a ≡ byte_at h = sym at ∙ ap (slice_index mid) (sym same) ∙ is in
                scanned.closed k (subst (λ (m : ℕ). IsStrongTarget t owner m k) (sym (word_of_byte a h address)) target)
          ];
    }
      where
        here : In (byte_at (word_at a)) mid
        here =
            let member : In a mid = in_contains a mid (n, l, get_or_default mid n a 0 l ∙ at) in
            let stand = before.traced.is_gray.stand a member in
            let e = stand.2 in
            let same : byte_at (word_at a) ≡ a = omega arith in
            subst (λ (v : ℕ). In v mid) (sym same) member

  -- before the first root
  pub begin : (s : Contents) → CanMark t owner marked s roots → IsGray t owner marked s []
  begin s can = record {
    partly = record {
      contents = can.contents;
      sound = can.sound;
      refers = can.refers;
      has = marks_as t owner marked (marked_with marked []) s same can.has;
    };
    stand = λ a i. absurd (let z = i in cc);
    distinct = tt;
  }
    where
      same : (x : ℕ) → marked x ≡ marked_with marked [] x
      same x = elim (cases_Bool (marked x)) [
        | inl e ↦ e ∙ sym (cond-true (marked x) true false e)
        | inr e ↦ e ∙ sym (cond-false (marked x) true false e)
      ]

  -- behind the last one
  pub rooted : (s : Contents) (new : List ℕ) (n : ℕ) → HasVisitedRoots t owner marked [] roots n s new → IsTraced t owner marked roots s new
  rooted s new n all = record {
    is_gray = all.gray;
    reached = λ h i. elim (grown_cases _ [] new (byte_at h) all.grown i) [
      | inl j ↦ absurd (let z = j in cc)
      | inr c ↦ Root h c
    ];
  }

  -- and behind the last of the list
  pub done : (before s new : Contents) (old list : List ℕ) → CanMark t owner marked before roots → HasVisitedRoots t owner marked [] roots (length roots) s old →
      IsTracedTo t owner marked roots old (length list) new list → HasMarked t owner marked roots new
  done before s new old list can first all = record {
    now = marked_with marked list;
    has = all.traced.is_gray.partly.has;
    exact = λ h o. (
      (λ y. elim (with_cases marked list h y) [ inl e ↦ inl e | inr i ↦ inr (all.traced.reached h i) ]),
      (λ e. elim e [
        | inl y ↦ with_marked marked list h y
        | inr r ↦ within_closed (IsStrongTarget t owner) (IsRootAt roots) (λ k. marked_with marked list k ≡ true) from on h r
      ]),
    );
  }
    where
      from : (k : ℕ) → IsRootAt roots k → marked_with marked list k ≡ true
      from k c =
          let q = can.stand (byte_at k) c in
          let e = q.2 in
          let same : q.0 ≡ k = omega arith in
          with_grown marked _ old list k all.grown
          (first.visited c.0 k c.1 (subst (λ (n : ℕ). owner n ≡ Some n) same q.1) (get_or_default roots c.0 0 (byte_at k) c.1 ∙ c.2))

      on : (m k : ℕ) → marked_with marked list m ≡ true → IsStrongTarget t owner m k → marked_with marked list k ≡ true
      on m k y target = elim (with_cases marked list m y) [
        | inl e ↦ with_marked marked list k (can.closed m k e target)
        | inr i ↦ let w = contains_in (byte_at m) list i in all.closed w.0 m k w.1 (get_or_default list w.0 0 (byte_at m) w.1 ∙ w.2) target
      ]
