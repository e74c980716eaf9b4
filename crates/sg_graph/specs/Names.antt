-- The name of an object as its maker and the count of what that mutator had made.
use Rattle.std.specs.Prelude.{◌≡◌, ℕ, zero, suc, ◌+◌, ◌≤◌, ◌==◌, if◌then◌else◌}
use Rattle.sg_graph.specs.Graph.{Graph}

-- how many of the names up to n are of objects that mutator k made
abbrev pub made_up_to : (ℕ → ℕ) → ℕ → ℕ → ℕ
made_up_to maker k zero = 0
made_up_to maker k (suc n) = (if maker (suc n) == k then 1 else 0) + made_up_to maker k n

-- which of its maker's objects an object is: 1 for the first one
abbrev pub allocation : Graph → ℕ → ℕ
allocation g n = made_up_to g.maker (g.maker n) n

-- Two objects with one maker, which are the same one in the order of what it made, are one. So a name stands for the pair of
-- a mutator's number and the count of its allocations, and for each count up to an object's there is an object of its maker.
pub record NamesArePairs : Type 0 where
  pub one : (g : Graph) (m n : ℕ) → 1 ≤ m → 1 ≤ n → g.maker m ≡ g.maker n → allocation g m ≡ allocation g n → m ≡ n
  pub counted : (g : Graph) (n : ℕ) → 1 ≤ n → 1 ≤ allocation g n
  pub filled : (g : Graph) (n i : ℕ) → 1 ≤ n → 1 ≤ i → i ≤ allocation g n → (m : ℕ) × (1 ≤ m) × (m ≤ n) × (g.maker m ≡ g.maker n) × (allocation g m ≡ i)
