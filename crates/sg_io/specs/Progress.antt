-- What a write takes of its piece.
use Rattle.std.specs.Prelude.{ℕ, ◌<◌, ◌≤◌, List, length, take, Option, Result, MatchResult}
use Rattle.std.specs.Io.KnownBytes.{Appends}

-- some first bytes of the piece were taken, possibly none or all
abbrev pub TakesSome : Option (List ℕ) → Option (List ℕ) → List ℕ → Type 0
TakesSome old new piece = (n : ℕ) × (n ≤ length piece) × Appends old new (take n piece)

-- `Ok(n)` took exactly the first n bytes of the piece, and a failure some first bytes
abbrev pub Takes : {E : Type 0} → Option (List ℕ) → Option (List ℕ) → Result ℕ E → List ℕ → Type 0
Takes old new result piece = MatchResult result (λ n. Appends old new (take n piece)) (λ _. TakesSome old new piece)

-- `Ok(n)` stays within the piece, and is not 0 for a piece that is not empty
abbrev pub Progresses : {E : Type 0} → Result ℕ E → List ℕ → Type 0
Progresses result piece = MatchResult result (λ n. (n ≤ length piece) × (0 < length piece → 0 < n)) (λ _. Unit {0})
