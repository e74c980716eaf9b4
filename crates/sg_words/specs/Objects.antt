-- Objects in words, which are a function of their numbers: an object's words, its strong slots, and where it goes.
use Rattle.std.specs.Prelude.{◌≡◌, ℕ, zero, suc, ◌+◌, ◌==◌, Bool, if◌then◌else◌, List, [], ◌∷◌}
use Rattle.sg_words.specs.Address.{byte_at, word_at}

-- the words of the object whose first word is a
abbrev pub size_of : (ℕ → ℕ) → ℕ → ℕ
size_of w a = w (a + 1) + 2

-- the slots of the strong ones among the n fields from i on, of an object at `at`
abbrev pub strong_slots : (ℕ → Bool) → ℕ → ℕ → ℕ → List ℕ
strong_slots strong at i zero = []
strong_slots strong at i (suc n) = if strong i then (at + 2 + i) ∷ strong_slots strong at (suc i) n else strong_slots strong at (suc i) n

-- where a word leads once each object x is at m x: an address of x becomes that of m x, any other number stays
abbrev pub sent : (ℕ → ℕ) → ℕ → ℕ
sent m v = if v == byte_at (word_at v) then byte_at (m (word_at v)) else v

-- the moved objects stand one behind another from the word `at` on, to before `end`
abbrev pub Placed : (ℕ → ℕ) → ℕ → List ℕ → (ℕ → ℕ) → ℕ → Type 0
Placed w at [] m end = end ≡ at
Placed w at (a ∷ moves) m end = (m a ≡ at) × Placed w (at + size_of w a) moves m end
