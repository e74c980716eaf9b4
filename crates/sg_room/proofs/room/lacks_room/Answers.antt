use Rattle.std.proofs.Common.{inl, inr, refl}
use Rattle.std.proofs.lemmas.Result.{IfOk-weaker}
use Rattle.sg_room.proofs.room.lacks_room.Goals as goal

pub returns-then-words : goal.returns-then-words
returns-then-words c = record { told = λ p g b holds. (λ _. inl ((c.in_ok-words.ensures.told p g b holds).0 c.if-words.true), λ _. refl) }

pub returns : goal.returns
returns c = record {
  told = IfOk-weaker c.lacks_slots.result _ _ (λ lacks is p g b holds. (
    λ e. inr ((is p g b holds).0 e),
    λ either. elim either [
      | inl words ↦ absurd (let told = (c.in_ok-words.ensures.told p g b holds).1 words in let not = c.if-words.false in cc)
      | inr slots ↦ (is p g b holds).1 slots
    ],
  )) c.lacks_slots.ensures.told;
}
