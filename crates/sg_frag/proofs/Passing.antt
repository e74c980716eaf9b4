-- A search over a space passes over blocks that are known to have no slot for it, without looking at them one by one: the loads that see so are
-- steps that leave the space as it is.
use Rattle.std.proofs.Common.{◌≡◌, ◌≢◌, ℕ, zero, suc, ◌+◌, ◌<◌, ◌≤◌, List, [], ◌∷◌, ◌++◌, refl, sym, subst, arith}
use Rattle.sg_words.specs.declared.steps.BlockWord.TheVariants.{Swept}
use Rattle.sg_words.specs.declared.steps.BlockStep.TheVariants.{LoadBlock, LoadUsed}
use Rattle.sg_words.specs.declared.steps.Step.{Step}
use Rattle.sg_words.specs.declared.steps.Step.TheVariants.{OnBlock}
use Rattle.sg_words.specs.Words.{Saw}
use Rattle.sg_cells.specs.Made.{Makes, makes_then}
use Rattle.sg_cells.specs.Passing.{PassesBlock, SeesOther, SeesFull, PassBlocks}
use Rattle.sg_space.specs.Space.{Contents, words_of}
use Rattle.sg_space.specs.Standing.{block_in, used_in}
use Rattle.sg_space.specs.Passed.{IsPassed, OfOtherSize, IsFull, IsPassedIn}
use Rattle.sg_frag.specs.Plain.{Led}
use Rattle.sg_frag.specs.Leading.{keeps_none}

-- a load changes nothing
pub led_saw : (s : Contents) (b : ℕ) → Led s (OnBlock (LoadBlock b (block_in s b)) ∷ []) s
led_saw s b = record { legal = (refl, tt); words = refl; keeps = keeps_none s }

pub led_saw_used : (s : Contents) (b : ℕ) → Led s (OnBlock (LoadUsed b (used_in s b)) ∷ []) s
led_saw_used s b = record { legal = (refl, tt); words = refl; keeps = keeps_none s }

-- a port in a state p in which loads of this space's blocks may be made, and lead to p again
module _ {P : Type 0} (leads : P → List Step → P → Type 0) (sees : P → Step → Type 0) (p : P) (s : Contents)
    (block : (b : ℕ) → leads p (OnBlock (LoadBlock b (block_in s b)) ∷ []) p × sees p (OnBlock (LoadBlock b (block_in s b))))
    (used : (b : ℕ) → leads p (OnBlock (LoadUsed b (used_in s b)) ∷ []) p × sees p (OnBlock (LoadUsed b (used_in s b)))) where
  -- one block that is passed over
  one : (z c : ℕ) → IsPassedIn s z c → (ts : List Step) × PassesBlock z c ts × Makes leads sees p ts p
  one z c (OfOtherSize size state other) =
      let look = block c in (
        OnBlock (LoadBlock c (Swept size)) ∷ [],
        SeesOther size other,
        subst (λ w. Makes leads sees p (OnBlock (LoadBlock c w) ∷ []) p) state (p, look.0, look.1, refl),
      )
  one z c (IsFull state full) =
      let look = block c in
      let look_in = used c in (
        OnBlock (LoadBlock c (Swept z)) ∷ OnBlock (LoadUsed c (used_in s c)) ∷ [],
        SeesFull (used_in s c) full,
        subst (λ w. Makes leads sees p (OnBlock (LoadBlock c w) ∷ OnBlock (LoadUsed c (used_in s c)) ∷ []) p) state
            (p, look.0, look.1, (p, look_in.0, look_in.1, refl)),
      )

  -- so many blocks from one on
  pub passing : (z from n : ℕ) → ((c : ℕ) → from ≤ c → c < from + n → IsPassedIn s z c) → (es : List Step) × PassBlocks z from n es × Makes leads sees p es p
  passing z from zero all = ([], refl, refl)
  passing z from (suc n) all =
      let before = passing z from n (λ c l m. all c l (omega arith)) in
      let last = one z (from + n) (all (from + n) (omega arith) (omega arith)) in (
        before.0 ++ last.0,
        (before.0, last.0, before.1, last.1, refl),
        makes_then leads sees p before.0 p last.0 p before.2 last.2,
      )
