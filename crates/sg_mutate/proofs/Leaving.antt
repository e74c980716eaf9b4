-- No step of a mutator takes a ready entry.
use Rattle.std.proofs.Common.{◌≡◌, Bool, List, [], ◌∷◌, inl, inr, refl, sym, ap, ◌∙◌, subst}
use Rattle.sg_words.specs.Programs.{FollowsBy}
use Rattle.sg_words.specs.Words.{Words, after_step, replayed}
use Rattle.sg_words.specs.declared.steps.Step.{Step}
use Rattle.sg_program.specs.declared.program.Program.{Program}
use Rattle.sg_space.specs.Space.{Contents, words_of}
use Rattle.sg_frag.specs.Plain.{Led}
use Rattle.sg_rules.specs.Acting.{ActsOn, IsTurn}
use Rattle.sg_rules.specs.Rules.{Constants, Actor, Comes, BlockComes, NextStep}
use Rattle.sg_rules.specs.Rules.BlockComes.{mature_begins}
use Rattle.sg_rules.specs.Rules.Comes.{test_null}
use Rattle.sg_actor.specs.State.{Mutating, actor_of}
use Rattle.sg_actor.specs.Turning.{TakesTurn}

-- the words v have the head of the ready row of the words w
abbrev HasHead : Words → Words → Type 0
HasHead w v = v.head ≡ w.head

module _ (p : Program) (lay : Constants) where
  head_stays : (a : Actor) (step : Step) (d : Bool) (b : Actor) → Comes p lay a step d b → (w : Words) → HasHead w (after_step w step)
  head_stays _ _ _ _ (test_null a s rest test e z) w = refl
  head_stays a step d b comes w = refl

  head_stays_block : (a : Actor) (step : Step) (d : Bool) (b : Actor) → BlockComes p lay a step d b → (w : Words) → HasHead w (after_step w step)
  head_stays_block _ _ _ _ (mature_begins a s rest is) w = refl
  head_stays_block a step d b comes w = refl

  head_next : (a : Actor) (step : Step) (d : Bool) (b : Actor) → NextStep p lay a step d b → (w : Words) → HasHead w (after_step w step)
  head_next a step d b (inl comes) w = head_stays a step d b comes w
  head_next a step d b (inr comes) w = head_stays_block a step d b comes w

  head_more : (a : Actor) (steps : List Step) (b : Actor) → FollowsBy (ActsOn p lay) a steps b → (w : Words) → HasHead w (replayed w steps)
  head_more a [] b f w = refl
  head_more a (step ∷ steps) b f w = head_more f.0 steps b f.2 (after_step w step) ∙ head_next a step f.1.1.0 f.0 f.1.1.1 w

  head_turn : (a : Actor) (steps : List Step) (b : Actor) → IsTurn p lay a steps b → (w : Words) → HasHead w (replayed w steps)
  head_turn a steps b turn w = subst (λ (ss : List Step). HasHead w (replayed w ss)) (sym turn.steps_are)
      (head_more turn.then turn.more b turn.goes (after_step w turn.first) ∙ head_next a turn.first turn.begins.0 turn.then turn.begins.1 w)

-- a turn leaves it
pub keeps_head : (lay : Constants) (m n : Mutating) (s t : Contents) → TakesTurn lay Led m s n t → t.head ≡ s.head
keeps_head lay m n s t (inl e) = ap (λ (w : Words). w.head) e.led.words
keeps_head lay m n s t (inr h) =
    ap (λ (w : Words). w.head) h.1.led.words ∙ head_turn m.program lay (actor_of m) h.1.steps (actor_of n) h.1.turn (words_of s)
