-- How a read tells the end of the input.
use Rattle.std.specs.Prelude.{◌≡◌, ℕ, ◌<◌, ◌↔◌, List, [], length, Option, IfSome, Result, IfOk}

-- for a buffer with room, `Ok(0)` comes exactly where no known byte is left
abbrev pub EndsExactly : {E : Type 0} → Option (List ℕ) → Result ℕ E → List ℕ → Type 0
EndsExactly left result buffer =
    IfOk result (λ n. 0 < length buffer → IfSome left (λ bytes. (n ≡ 0) ↔ (bytes ≡ [])))
