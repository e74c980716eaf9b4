-- The actors of an epoch, and one of them over the space.
use Rattle.std.specs.Prelude.{◌≡◌, ℕ, ◌≤◌, Bool, true, false, Option, Some, None, List, length, filter, take, slice_get}
use Rattle.sg_words.specs.Words.{Saw}
use Rattle.sg_program.specs.declared.program.Program.{Program}
use Rattle.sg_graph.specs.Epoch.{numbers_below}
use Rattle.sg_space.specs.Space.{Contents, words_of}
use Rattle.sg_frag.specs.Plain.{Led, MayCall}
use Rattle.sg_frag.specs.Leading.{limit_of, marks_of}
use Rattle.sg_words.specs.Sections.{old_base}
use Rattle.sg_rules.specs.Rules.{Constants, Actor}
use Rattle.sg_actor.specs.declared.mutator.Stage.{Stage}
use Rattle.sg_actor.specs.declared.mutator.Stage.TheVariants.{Ended}
use Rattle.sg_actor.specs.State.{Mutating}
use Rattle.sg_actor.specs.Turning.{IsOnPort}
use Rattle.sg_mutate.specs.declared.epochs.Actors.{Actors}

-- the mutator has statements to do, as far as its stage says
abbrev pub goes_on : Stage → Bool
goes_on Ended = false
goes_on stage = true

abbrev pub is_going : Option Mutating → Bool
is_going None = false
is_going (Some m) = goes_on m.stage

-- the numbers below n of the mutators that haven't ended, in order
abbrev pub going_below : List Mutating → ℕ → List ℕ
going_below mutators n = filter (λ k. is_going (slice_get mutators k)) (numbers_below n)

-- the actors are the mutators below n that haven't ended
pub record AreActorsBelow (mutators : List Mutating) (n : ℕ) (actors : Actors) : Type 0 where
  pub count : actors.count ≡ length (going_below mutators n)
  pub few : actors.count ≤ n
  pub numbers : take actors.count actors.numbers ≡ going_below mutators n
  pub room : length actors.numbers ≡ 16

-- the actors are the mutators that haven't ended
abbrev pub AreActors : List Mutating → Actors → Type 0
AreActors mutators actors = AreActorsBelow mutators (length mutators) actors

-- a mutator of the program, which is a, may make each next step on the space from here on
abbrev pub IsOnSpace : Program → Constants → Contents → Actor → Type 0
IsOnSpace p lay s a =
    IsOnPort p lay Led MayCall (λ t step. Saw (words_of t) step) (λ t. length t.ends) (λ t. limit_of t.ends) (λ t. length t.blocks) (λ t. old_base t.layout)
    (λ t. marks_of t.marks) s a
