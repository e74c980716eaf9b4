use Rattle.std.proofs.Common.{◌≡◌, ℕ, ◌<◌, false, Option, Some, None, MatchOption, not, sym, subst, ap, ◌∙◌, true≢false}
use Rattle.std.specs.Option.{is_some}
use Rattle.sg_words.specs.declared.steps.BlockWord.TheVariants.{Swept}
use Rattle.sg_space.specs.Passed.{OfOtherSize, IsFull}
use Rattle.sg_space.proofs.blocks.is_passed.Goals as goal

-- where there is none, the first case holds
at_none : {X : Type 0} (o : Option ℕ) (P : ℕ → Type 0) → is_some o ≡ false → MatchOption o X P → X
at_none None P e x = x
at_none (Some n) P e x = absurd (true≢false e)

pub returns-then-found-size : goal.returns-then-found-size
returns-then-found-size c = λ set. OfOtherSize c.in-Swept.found c.in-Swept.is c.if-found-size.true

pub returns : goal.returns
returns c = λ set. IsFull (c.in-Swept.is ∙ ap Swept c.if-found-size.false)
    (λ i l. at_none c.first_clear.result _ (c.is_none.ensures ∙ ap not set) c.first_clear.ensures i (subst (λ n. i < n) (sym c.requires.of) l))
