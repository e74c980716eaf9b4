-- Which statements are run, what they ask for, and what a stop's answer leaves of a mutator.
use Rattle.std.specs.Prelude.{ℕ, ◌≤◌, Option, Some, None, List}
use Rattle.sg_words.specs.Words.{put}
use Rattle.sg_program.specs.declared.program.Statement.{Statement}
use Rattle.sg_program.specs.declared.program.Statement.TheVariants.{New, NewV, Mature, Collect, Sections}
use Rattle.sg_program.specs.declared.program.Program.{Program}
use Rattle.sg_program.specs.declared.answers.Answer.{Answer}
use Rattle.sg_program.specs.declared.answers.Answer.TheVariants.{At, Fine, Full}
use Rattle.sg_program.specs.Scripts.{made_fields}
use Rattle.sg_program.specs.Invariants.{IsGood, IsBuilt}
use Rattle.sg_rules.specs.Rules.{Idle, Actor}

-- a statement of the program that is run now: an object that it makes is small
pub record IsRunnable (p : Program) (s : Statement) : Type 0 where
  pub good : IsGood p s
  pub run : IsBuilt p s
  pub small : made_fields p s ≤ 62

-- the register that the answer to a statement which asked sets, where it sets one
abbrev pub answered_register : Statement → Option ℕ
answered_register (New r class) = Some r
answered_register (NewV r class count) = Some r
answered_register (Mature r class) = Some r
answered_register s = None

-- the word of the object in an answer, or 0 where it has none
abbrev pub word_in : Answer → ℕ
word_in (At a) = a
word_in answer = 0

-- the registers with this word in this one, where it is one
abbrev pub with_word : Option ℕ → ℕ → (ℕ → ℕ) → ℕ → ℕ
with_word None word reg = reg
with_word (Some r) word reg = put reg r word

-- the mutator before these statements, after the one with which it left was answered
abbrev pub served : Actor → Statement → List Statement → Answer → Actor
served a s rest answer = record a { reg = with_word (answered_register s) (word_in answer) a.reg; script = rest; mid = Idle }

-- a statement that asks gets such an answer at a stop
abbrev pub IsServiceOf : Statement → Answer → Type 0
IsServiceOf (New r class) (At a) = Unit {0}
IsServiceOf (New r class) Full = Unit {0}
IsServiceOf (NewV r class count) (At a) = Unit {0}
IsServiceOf (NewV r class count) Full = Unit {0}
IsServiceOf (Mature r class) (At a) = Unit {0}
IsServiceOf (Mature r class) Full = Unit {0}
IsServiceOf (Collect major) Fine = Unit {0}
IsServiceOf Sections Fine = Unit {0}
IsServiceOf s answer = ⊥
