-- Counts of faults: when one rose, and what a call may do to it.
use Rattle.std.specs.Prelude.{◌≡◌, ℕ, ◌+◌, ◌-◌, ◌^◌, ◌≤◌, min, Result, IsErr, MatchResult}

-- the number after n, and the last value of a u64 after itself
abbrev pub next_number : ℕ → ℕ
next_number n = min (n + 1) (2 ^ 64 - 1)

-- a count of faults rose, or stands at its last value
abbrev pub Rose : ℕ → ℕ → Type 0
Rose before now = next_number before ≤ now

-- a count of faults never falls, and rose where the call failed
pub record CountsFaults {T E : Type 0} (before now : ℕ) (result : Result T E) : Type 0 where
  pub never_falls : before ≤ now
  pub rose : IsErr result → Rose before now

-- a failed call counts one fault, and any other call none
abbrev pub CountsEach : {T E : Type 0} → ℕ → ℕ → Result T E → Type 0
CountsEach before now result = MatchResult result (λ _. now ≡ before) (λ _. now ≡ next_number before)
