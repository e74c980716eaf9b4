-- Whose turn comes next, by a list of numbers and then in rotation.
use Rattle.std.specs.Prelude.{◌≡◌, ℕ, ◌+◌, ◌%◌, ◌<◌, List, [], ◌∷◌}

-- The place in a schedule: the numbers of its list that weren't spent, and the actor that is next in rotation once none is left.
pub record Schedule : Type 0 where
  pub left : List ℕ
  pub next : ℕ

-- a phase begins: the place in the list stays, and the rotation begins with 0
abbrev pub begun : Schedule → Schedule
begun s = record s { next = 0 }

-- actor k is the first, from `first` on and round, that hasn't ended
pub record IsFirstGoing (first actors : ℕ) (ended : ℕ → Type 0) (k : ℕ) : Type 0 where
  pub steps : ℕ
  pub few : steps < actors
  pub is : k ≡ (first + steps) % actors
  pub going : ¬ ended k
  pub passed : (i : ℕ) → i < steps → ended ((first + i) % actors)

-- With so many actors, of which those have ended, this actor has the next turn, and the schedule is there then. A number of the list
-- stands for the actor that it is modulo the number of actors; it is spent, also where that one has ended. Where none is left, the
-- turns go round, beginning with 0, and pass over the ended ones.
pub data Gives (actors : ℕ) (ended : ℕ → Type 0) : Schedule → ℕ → Schedule → Type 0 where
  Listed : (n : ℕ) (rest : List ℕ) (next : ℕ) → ¬ ended (n % actors) →
      Gives actors ended (record { left = n ∷ rest; next = next }) (n % actors) (record { left = rest; next = next })
  Spent : (n : ℕ) (rest : List ℕ) (next k : ℕ) (t : Schedule) → ended (n % actors) → Gives actors ended (record { left = rest; next = next }) k t →
      Gives actors ended (record { left = n ∷ rest; next = next }) k t
  Rotates : (next k : ℕ) → IsFirstGoing next actors ended k → Gives actors ended (record { left = []; next = next }) k (record { left = []; next = (k + 1) % actors })
