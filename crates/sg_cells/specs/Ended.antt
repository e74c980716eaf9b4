-- Which actors have ended, by the bits of a number.
use Rattle.std.specs.Prelude.{◌≡◌, ℕ, ◌<◌}
use Rattle.std.specs.Int.{bit_at}

-- actor k has ended
abbrev pub HasEnded : ℕ → ℕ → Type 0
HasEnded ended k = bit_at ended k ≡ 1

-- of these actors, some hasn't ended
abbrev pub SomeIsLeft : ℕ → ℕ → Type 0
SomeIsLeft actors ended = (k : ℕ) × (k < actors) × ¬ HasEnded ended k
