-- What a look at a fragment finds, and how a claim of its words ends.
use Rattle.std.specs.Prelude.{◌≡◌, ℕ, ◌+◌, ◌-◌, ◌<◌, ◌≤◌, min, Option, Some, None, List, [], ◌∷◌}
use Rattle.sg_words.specs.Address.{byte_at, word_at}
use Rattle.sg_words.specs.declared.steps.Place.TheVariants.{Next}
use Rattle.sg_words.specs.declared.steps.Step.{Step}
use Rattle.sg_words.specs.declared.steps.Step.TheVariants.{Won, Lost}
use Rattle.sg_frag.specs.declared.claims.Looked.{Looked}
use Rattle.sg_frag.specs.declared.claims.Looked.TheVariants.{Ready, Small as SmallSeen}
use Rattle.sg_frag.specs.declared.claims.Claimed.{Claimed}
use Rattle.sg_frag.specs.declared.claims.Claimed.TheVariants.{Got, Moved, Small}

-- from the byte address `next` on there are `least` words before the word `limit`, or so many, fewer ones
abbrev pub IsRest : ℕ → ℕ → ℕ → Option ℕ → Type 0
IsRest limit least next None = word_at next + least ≤ limit
IsRest limit least next (Some rest) = (limit < word_at next + least) × (rest ≡ limit - word_at next)

-- what was found of a fragment that ends before the word `limit`, and whose next word was seen to be `seen`
abbrev pub IsLooked : ℕ → ℕ → ℕ → Looked → Type 0
IsLooked limit least seen (Ready next) = (next ≡ seen) × IsRest limit least seen None
IsLooked limit least seen (SmallSeen rest) = IsRest limit least seen (Some rest)

-- the byte address behind what is claimed from `seen` on: the smaller of the rest and of what is wanted
abbrev pub end_of_claim : ℕ → ℕ → ℕ → ℕ
end_of_claim limit seen want = byte_at (word_at seen + min (limit - word_at seen) want)

-- The exchange was won, and exactly these words were claimed; or it was lost to another next word, from which on there are still
-- enough words, or fewer.
abbrev pub IsClaimed : {P : Type 0} → (P → List Step → P → Type 0) → (P → Step → Type 0) → P → ℕ → ℕ → ℕ → ℕ → ℕ → P → Claimed → Type 0
IsClaimed {P} leads sees p f limit seen want least q (Got start end) =
    (start ≡ seen) × (end ≡ end_of_claim limit seen want) × leads p (Won (Next f) seen (end_of_claim limit seen want) ∷ []) q × sees p (Won (Next f) seen (end_of_claim limit seen want))
IsClaimed {P} leads sees p f limit seen want least q (Moved next) =
    IsRest limit least next None × leads p (Lost (Next f) seen (end_of_claim limit seen want) next ∷ []) q × sees p (Lost (Next f) seen (end_of_claim limit seen want) next)
IsClaimed {P} leads sees p f limit seen want least q (Small rest) =
    (next : ℕ) × IsRest limit least next (Some rest) × leads p (Lost (Next f) seen (end_of_claim limit seen want) next ∷ []) q × sees p (Lost (Next f) seen (end_of_claim limit seen want) next)
