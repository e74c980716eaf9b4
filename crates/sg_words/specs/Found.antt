-- How a search finds numbers one after another: each is the first new one to which those before it lead.
use Rattle.std.specs.Prelude.{◌≡◌, ℕ, false, List, [], ◌∷◌, ◌++◌}
use Rattle.sg_words.specs.Lists.{has, In}

-- x is of this sort, and the first of the candidates of this sort that isn't among those before
pub record IsFirstNew (sort : ℕ → Type 0) (candidates before : List ℕ) (x : ℕ) : Type 0 where
  pub passed : List ℕ
  pub rest : List ℕ
  pub split : candidates ≡ passed ++ x ∷ rest
  pub of_sort : sort x
  pub new : has x before ≡ false
  pub known : (y : ℕ) → In y passed → sort y → In y before

-- each number of the list is the first new one of the candidates to which those before it lead
pub data IsFoundBy (sort : ℕ → Type 0) (leads : List ℕ → List ℕ) : List ℕ → Type 0 where
  Begins : IsFoundBy sort leads []
  Finds : (before : List ℕ) (x : ℕ) → IsFoundBy sort leads before → IsFirstNew sort (leads before) before x → IsFoundBy sort leads (before ++ x ∷ [])

-- the list is found one after another, and leads to no new one
pub record IsSearched (sort : ℕ → Type 0) (leads : List ℕ → List ℕ) (found : List ℕ) : Type 0 where
  pub each : IsFoundBy sort leads found
  pub all : (y : ℕ) → In y (leads found) → sort y → In y found
