-- The search for the lowest free run: what a count of free pages, one behind another, says of the pages that were passed.
use Rattle.std.proofs.Common.{◌≡◌, ◌≢◌, ℕ, ◌+◌, ◌-◌, ◌<◌, ◌≤◌, ◌⊎◌, inl, inr, subst, sym, ◌∙◌, arith}
use Rattle.std.proofs.lemmas.Bool.{cases_lt, cases_eq}
use Rattle.sg_space.specs.Space.{Contents}
use Rattle.sg_space.specs.Standing.{page_in}
use Rattle.sg_los.specs.Pages.{IsFreeRun, IsLowestRun, IsNoRun}

-- the `count` pages before page p are free, and no more than these
pub record IsCounted (s : Contents) (p count : ℕ) : Type 0 where
  pub within : count ≤ p
  pub free : (i : ℕ) → p ≤ i + count → i < p → page_in s i ≡ 0
  pub longest : (k : ℕ) → ((i : ℕ) → k ≤ i → i < p → page_in s i ≡ 0) → p ≤ k + count

-- no free run of n pages ends at page p or before it
abbrev pub IsPast : Contents → ℕ → ℕ → Type 0
IsPast s n p = (k : ℕ) → IsFreeRun s k n → p < k + n

module _ (s : Contents) (p count : ℕ) (is : IsCounted s p count) where
  counted_at : page_in s p ≡ 0 → (i : ℕ) → i < p + 1 → p + 1 ≤ i + (count + 1) → (i ≡ p) ⊎ (i ≢ p) → page_in s i ≡ 0
  counted_at e i below above (inl same) = subst (λ (k : ℕ). page_in s k ≡ 0) (sym same) e
  counted_at e i below above (inr other) = is.free i (omega arith) (omega arith)

  -- one more page is free
  pub counted_free : page_in s p ≡ 0 → IsCounted s (p + 1) (count + 1)
  counted_free e = let within = is.within in record {
    within = omega arith;
    free = λ i above below. counted_at e i below above (cases_eq i p);
    longest = λ k all. let l = is.longest k (λ i from to. all i from (omega arith)) in omega arith;
  }

  longest_none : page_in s p ≢ 0 → (k : ℕ) → ((i : ℕ) → k ≤ i → i < p + 1 → page_in s i ≡ 0) → (k < p + 1) ⊎ (p + 1 ≤ k) → p + 1 ≤ k + 0
  longest_none e k all (inl below) = absurd (e (all p (omega arith) (omega arith)))
  longest_none e k all (inr above) = omega arith

  -- one more page, which is not free
  pub counted_used : page_in s p ≢ 0 → IsCounted s (p + 1) 0
  counted_used e = record {
    within = omega arith;
    free = λ i above below. absurd (omega arith);
    longest = λ k all. longest_none e k all (cases_lt k (p + 1));
  }

-- one more page, whose word is v, and the count behind it
pub counted_next : (s : Contents) (p count v after : ℕ) → v ≡ page_in s p → IsCounted s p count →
    ((v ≡ 0) × (after ≡ count + 1)) ⊎ ((v ≢ 0) × (after ≡ 0)) → IsCounted s (p + 1) after
counted_next s p count v after is counted (inl free) = subst (IsCounted s (p + 1)) (sym free.1) (counted_free s p count counted (sym is ∙ free.0))
counted_next s p count v after is counted (inr used) = subst (IsCounted s (p + 1)) (sym used.1) (counted_used s p count counted (λ e. used.0 (is ∙ e)))

-- before the first page
pub counted_none : (s : Contents) → IsCounted s 0 0
counted_none s = record { within = omega arith; free = λ i a b. absurd (omega arith); longest = λ k all. omega arith }

-- behind the last page there is no free run
pub no_run : (s : Contents) (n p : ℕ) → s.layout.pages ≤ p → IsPast s n p → IsNoRun s n
no_run s n p end past k run = let l = past k run in let w = run.within in omega arith

module _ (s : Contents) (n p count : ℕ) (is : IsCounted s (p + 1) count) (past : IsPast s n p) where
  past_at : count < n → (k : ℕ) → IsFreeRun s k n → (k + n ≡ p + 1) ⊎ (k + n ≢ p + 1) → p + 1 < k + n
  past_at few k run (inl same) =
      let l = is.longest k (λ i from to. run.free i from (omega arith)) in
      absurd (omega arith)
  past_at few k run (inr other) = let l = past k run in omega arith

  -- too few pages are free before the next one
  pub past_more : count < n → IsPast s n (p + 1)
  past_more few k run = past_at few k run (cases_eq (k + n) (p + 1))

  -- so many pages as were asked for are free before the next one
  pub lowest_found : count ≡ n → p + 1 ≤ s.layout.pages → IsLowestRun s (p + 1 - n) n
  lowest_found e there =
      let within = is.within in
      record {
        run = record {
          within = omega arith;
          free = λ i from to. is.free i (omega arith) (omega arith);
        };
        lowest = λ k run. let l = past k run in omega arith;
      }
