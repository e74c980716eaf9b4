-- What a set of objects reaches: by rounds, and as a closure.
use Rattle.std.specs.Prelude.{◌≢◌, ℕ, zero, suc, ◌≤◌, ◌⊎◌, List, [], ◌∷◌}

-- one round adds the targets of all members
abbrev pub Round : (ℕ → ℕ → Type 0) → (ℕ → Type 0) → ℕ → Type 0
Round target members n = members n ⊎ ((m : ℕ) × members m × target m n)

-- the members after this many rounds
abbrev pub Rounds : (ℕ → ℕ → Type 0) → (ℕ → Type 0) → ℕ → ℕ → Type 0
Rounds target root zero n = root n
Rounds target root (suc k) n = Round target (Rounds target root k) n

-- a root, or a target of what was reached
pub data Reached (target : ℕ → ℕ → Type 0) (root : ℕ → Type 0) : ℕ → Type 0 where
  Root : (n : ℕ) → root n → Reached target root n
  Next : (m n : ℕ) → Reached target root m → target m n → Reached target root n

-- x is none of these
abbrev pub IsFreshIn : ℕ → List ℕ → Type 0
IsFreshIn x [] = Unit {0}
IsFreshIn x (y ∷ ys) = (x ≢ y) × IsFreshIn x ys

-- no number comes twice
abbrev pub AreDistinct : List ℕ → Type 0
AreDistinct [] = Unit {0}
AreDistinct (x ∷ xs) = IsFreshIn x xs × AreDistinct xs

-- each is one of 1 to n
abbrev pub AreAmong : ℕ → List ℕ → Type 0
AreAmong n [] = Unit {0}
AreAmong n (x ∷ xs) = (1 ≤ x) × (x ≤ n) × AreAmong n xs
