-- What a contract sees of a mutator.
use Rattle.std.specs.Prelude.{◌≡◌, ℕ, ◌+◌, ◌<◌, ◌≤◌, true, Option, Some, None, List, [], ◌++◌, length, map, reverse, slice_index}
use Rattle.sg_program.specs.declared.program.Program.{Program}
use Rattle.sg_program.specs.declared.program.Statement.{Statement}
use Rattle.sg_program.specs.declared.answers.Answer.{Answer}
use Rattle.sg_program.specs.declared.answers.Leave.{Leave}
use Rattle.sg_program.specs.declared.answers.Leave.TheVariants.{Ended as HasEnded, Yield, Wants}
use Rattle.sg_program.specs.Scripts.{script_of, made_in, IsRequestOf}
use Rattle.sg_program.specs.Invariants.{IsWithinLimits}
use Rattle.sg_rules.specs.Rules.{Mid, Idle, Claim, Left, Yielded as HasYielded, StackWord, Actor}
use Rattle.sg_rules.specs.Rules.{Search, SeeBlock, TakeBlock, TakeSlot, TakeOver, StoreOccupancy}
use Rattle.sg_rules.specs.Resting.{IsServiceOf, served}
use Rattle.sg_actor.specs.declared.mutator.Held.{Held}
use Rattle.sg_actor.specs.declared.mutator.Stage.{Stage}
use Rattle.sg_actor.specs.declared.mutator.Stage.TheVariants.{Between, Within, Claiming, OpeningBlock, TakingSlot, TakingOver, Sweeping, BehindSweep, Ended, Asking, Yielded}

-- Its program and its number in it; the number of its epoch's first statement; where it stands; its register words, the offsets
-- beside them, its stack with the top last, and its buffer as numbers of words; the statements to come, without the one in whose
-- midst it is or with which it has left; and its epoch's answers.
pub record Mutating : Type 0 where
  pub program : Program
  pub number : ℕ
  pub first : ℕ
  pub stage : Stage
  pub registers : List ℕ
  pub offsets : List ℕ
  pub stack : List Held
  pub from : ℕ
  pub to : ℕ
  pub script : List Statement
  pub told : List Answer

abbrev pub slot_of : Held → StackWord
slot_of held = record { word = held.word; offset = held.offset }

-- where the rules see it; in the midst of a statement a contract says itself where
abbrev pub mid_of : Stage → Mid
mid_of Between = Idle
mid_of Within = Idle
mid_of (Claiming statement fragment next) = Claim statement fragment next
mid_of (OpeningBlock statement block) = TakeBlock statement block
mid_of (TakingSlot statement block slot) = TakeSlot statement block slot
mid_of (TakingOver statement block size) = TakeOver (Search statement) block size
mid_of (Sweeping statement block size) = StoreOccupancy (Search statement) block size
mid_of (BehindSweep statement block) = SeeBlock (Search statement) true block
mid_of Ended = Idle
mid_of (Asking statement request) = Left statement
mid_of Yielded = HasYielded

-- the mutator as the rules see it; their stack has its top first
abbrev pub actor_of : Mutating → Actor
actor_of m = record {
  reg = λ r. slice_index m.registers r;
  offset = λ r. slice_index m.offsets r;
  stack = reverse (map slot_of m.stack);
  from = m.from;
  to = m.to;
  script = m.script;
  told = m.told;
  mid = mid_of m.stage;
}

-- how it has left its epoch, where it has
abbrev pub leave_of : Stage → Option Leave
leave_of Between = None
leave_of Within = None
leave_of (Claiming statement fragment next) = None
leave_of (OpeningBlock statement block) = None
leave_of (TakingSlot statement block slot) = None
leave_of (TakingOver statement block size) = None
leave_of (Sweeping statement block size) = None
leave_of (BehindSweep statement block) = None
leave_of Ended = Some HasEnded
leave_of (Asking statement request) = Some (Wants request)
leave_of Yielded = Some Yield

-- the statement with which it has left, where it asks for something
abbrev pub asking_of : Stage → Option Statement
asking_of (Asking statement request) = Some statement
asking_of stage = None

-- how many of its statements have begun and wait for their answer
abbrev pub waiting : Stage → ℕ
waiting Between = 0
waiting Within = 1
waiting (Claiming statement fragment next) = 1
waiting (OpeningBlock statement block) = 1
waiting (TakingSlot statement block slot) = 1
waiting (TakingOver statement block size) = 1
waiting (Sweeping statement block size) = 1
waiting (BehindSweep statement block) = 1
waiting Ended = 0
waiting (Asking statement request) = 1
waiting Yielded = 0

-- the statements of its script are those before this epoch, its answers, the one that has begun, and those to come
abbrev pub IsCounted : Mutating → Type 0
IsCounted m = m.first + (length m.told + (waiting m.stage + length m.script)) ≡ length (script_of m.program m.number)

-- it is the same mutator, in the same epoch
pub record IsSameMutator (m n : Mutating) : Type 0 where
  pub program : n.program ≡ m.program
  pub number : n.number ≡ m.number
  pub first : n.first ≡ m.first

-- the mutator m has become this actor, and stands there
pub record Becomes (m n : Mutating) (a : Actor) (at : Stage) : Type 0 where
  pub actor : actor_of n ≡ a
  pub stage : n.stage ≡ at
  pub same : IsSameMutator m n

-- the words of a stack, from its top down
abbrev pub words_down : List Held → List ℕ
words_down stack = map (λ (h : Held). h.word) (reverse stack)

-- the words in its hands: those in its registers, and those on its stack from the top down
abbrev pub words_in : Mutating → List ℕ
words_in m = m.registers ++ words_down m.stack

-- its statement waits for no answer, and it isn't in the midst of one
abbrev pub WaitsForNone : Stage → Type 0
WaitsForNone Between = Unit {0}
WaitsForNone Within = ⊥
WaitsForNone (Claiming statement fragment next) = ⊥
WaitsForNone (OpeningBlock statement block) = ⊥
WaitsForNone (TakingSlot statement block slot) = ⊥
WaitsForNone (TakingOver statement block size) = ⊥
WaitsForNone (Sweeping statement block size) = ⊥
WaitsForNone (BehindSweep statement block) = ⊥
WaitsForNone Ended = Unit {0}
WaitsForNone (Asking statement request) = ⊥
WaitsForNone Yielded = Unit {0}

-- where it stands as an epoch begins: who has ended stays so, and who has yielded goes on
abbrev pub stage_anew : Stage → Stage
stage_anew Yielded = Between
stage_anew stage = stage

-- the mutator is before the next epoch: it has no answers in it
pub record BeginsEpoch (m n : Mutating) : Type 0 where
  pub actor : actor_of n ≡ record (actor_of m) { told = []; mid = mid_of (stage_anew m.stage) }
  pub stage : n.stage ≡ stage_anew m.stage
  pub first : n.first ≡ m.first + length m.told
  pub program : n.program ≡ m.program
  pub number : n.number ≡ m.number

-- the mutator has no buffer, and all else is as it was
abbrev pub DropsBuffer : Mutating → Mutating → Type 0
DropsBuffer m n = Becomes m n (record (actor_of m) { from = 0; to = 0 }) m.stage

-- the statement with which the mutator has left may be answered so
abbrev pub MayServe : Stage → Answer → Type 0
MayServe (Asking statement request) answer = IsServiceOf statement answer
MayServe stage answer = ⊥

-- the statement with which the mutator has left was answered, and it goes on behind it, without answers
pub record HasServed (m : Mutating) (statement : Statement) (answer : Answer) (n : Mutating) : Type 0 where
  pub actor : actor_of n ≡ record (served (actor_of m) statement m.script answer) { told = [] }
  pub stage : n.stage ≡ Between
  pub first : n.first ≡ m.first + (length m.told + 1)
  pub program : n.program ≡ m.program
  pub number : n.number ≡ m.number

-- a request is one that its statement makes, and the statement's register, where it has one, is one of the 16
abbrev pub IsStageOf : Program → Stage → Type 0
IsStageOf p (Asking statement request) = IsRequestOf p statement request × (made_in statement < 16)
IsStageOf p stage = Unit {0}

-- what is true of every mutator, whose program this is, by its parts
pub record IsSoundMutator (p : Program) (number first : ℕ) (stage : Stage) (stack : List Held) (script : List Statement) (told : List Answer) (stack_room told_room : ℕ) : Type 0 where
  pub limits : IsWithinLimits p
  pub there : number < length p.mutators
  pub counted : first + (length told + (waiting stage + length script)) ≡ length (script_of p number)
  pub few : length (script_of p number) ≤ 1048576
  pub room : length (script_of p number) ≤ told_room
  pub piled : length stack ≤ 64
  pub high : 64 ≤ stack_room
  pub stage_is : IsStageOf p stage
