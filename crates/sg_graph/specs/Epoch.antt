-- An epoch: each mutator that hasn't ended does some of its next statements and then leaves.
use Rattle.std.specs.Prelude.{◌≡◌, ◌≢◌, ℕ, zero, suc, ◌+◌, ◌<◌, ◌≤◌, ◌==◌, ◌↔◌, Bool, true, false, not, IsTrue, if◌then◌else◌, List, [], ◌∷◌, ◌++◌, length, map, filter}
use Rattle.std.specs.List.{Contains}
use Rattle.sg_words.specs.Address.{byte_at}
use Rattle.sg_words.specs.Lists.{Pairwise}
use Rattle.sg_program.specs.declared.program.Statement.{Statement}
use Rattle.sg_program.specs.declared.program.Statement.TheVariants.{New, NewV, Mature}
use Rattle.sg_program.specs.declared.program.Program.{Program}
use Rattle.sg_program.specs.declared.answers.Answer.{Answer}
use Rattle.sg_program.specs.declared.answers.Answer.TheVariants.{At, Nil, Null, Number, Fine, Yes, No, Field, Full}
use Rattle.sg_program.specs.declared.answers.Leave.{Leave}
use Rattle.sg_program.specs.declared.answers.Leave.TheVariants.{Ended, Yield, Wants}
use Rattle.sg_program.specs.declared.answers.Request.{Request}
use Rattle.sg_program.specs.declared.answers.Request.TheVariants.{Need, Slot}
use Rattle.sg_graph.specs.declared.reports.Part.{Part}
use Rattle.sg_graph.specs.declared.reports.EpochReport.{EpochReport}
use Rattle.sg_words.specs.Reach.{AreDistinct}
use Rattle.sg_program.specs.Scripts.{script_of, fields_of, words_for, IsSmall, IsCollecting}
use Rattle.sg_graph.specs.Graph.{Graph, Mutator, Ref}
use Rattle.sg_graph.specs.Statements.{Does}
use Rattle.sg_graph.specs.Book.{Book, Old, Books, HasNoPlace, words_of_class, slot_words, block_at, swept_in, IsClosed, IsSoundBook}

-- mutator `by` did its next statement and got this answer, in which a name stands for an address
pub record Said : Type 0 where
  pub by : ℕ
  pub answer : Answer

-- a whole statement of the mutator that said this
pub record Turn (p : Program) (g : Graph) (b : Book) (said : Said) (h : Graph) (c : Book) : Type 0 where
  pub statement : Statement
  pub rest : List Statement
  pub next : (g.mutator said.by).script ≡ statement ∷ rest
  pub does : Does p g said.by (g.mutator said.by) statement rest said.answer h
  pub books : Books p g b said.by statement said.answer c

-- whole statements in one order lead from g and b to h and c
abbrev pub Explains : Program → Graph → Book → List Said → Graph → Book → Type 0
Explains p g b [] h c = (h ≡ g) × (c ≡ b)
Explains p g b (said ∷ order) h c = (h1 : Graph) × (c1 : Book) × Turn p g b said h1 c1 × Explains p h1 c1 order h c

-- the answers of mutator k, in the order in which they came
abbrev pub answers_of : ℕ → List Said → List Answer
answers_of k [] = []
answers_of k (said ∷ order) = if said.by == k then said.answer ∷ answers_of k order else answers_of k order

-- an answer with the address of its object in the place of the name
abbrev pub by_address : Book → Answer → Answer
by_address b (At name) = At (byte_at (b.address name))
by_address b Nil = Nil
by_address b Null = Null
by_address b (Number n) = Number n
by_address b Fine = Fine
by_address b Yes = Yes
by_address b No = No
by_address b Field = Field
by_address b Full = Full

-- Which statement asks for what: a small new object asks for its words, where neither the buffer nor, as the epoch ends, any
-- fragment has them, and a large one for nothing yet; one of the major heap asks for a slot; a collection, and the question what stands in each
-- section, in any case.
abbrev pub Asks : Program → Book → ℕ → Statement → Request → Type 0
Asks p b k (New r class) (Need words) = (words ≡ words_of_class p class) × IsSmall words × HasNoPlace b k words
Asks p b k (NewV r class count) (Need words) = (words ≡ words_for count) × IsSmall words × HasNoPlace b k words
Asks p b k (Mature r class) (Slot size) = size ≡ slot_words (fields_of p class)
Asks p b k s request = IsCollecting s request

-- how mutator k leaves: it has ended exactly where no statement is left; else it yields, or its next statement asks for something
abbrev pub Leaves : Program → Book → ℕ → Leave → List Statement → Type 0
Leaves p b k Ended script = script ≡ []
Leaves p b k Yield script = script ≢ []
Leaves p b k (Wants request) script = (statement : Statement) × (rest : List Statement) × (script ≡ statement ∷ rest) × Asks p b k statement request

-- what the report says of mutator k: its first statement's number, its answers and how it left
pub record IsPart (p : Program) (g : Graph) (order : List Said) (h : Graph) (c : Book) (k : ℕ) (part : Part) : Type 0 where
  pub number : part.mutator ≡ k
  pub first : part.first + length (g.mutator k).script ≡ length (script_of p k)
  pub answers : part.answers ≡ map (by_address c) (answers_of k order)
  pub leaves : Leaves p c k part.leave (h.mutator k).script

-- some of these parts is of a mutator that asks for something
abbrev pub SomeAsks : List Part → Type 0
SomeAsks parts = (part : Part) × Contains parts part × ((request : Request) × (part.leave ≡ Wants request))

-- the numbers below n, in order
abbrev pub numbers_below : ℕ → List ℕ
numbers_below zero = []
numbers_below (suc n) = numbers_below n ++ n ∷ []

-- the mutators that haven't ended, in order of numbers
abbrev pub running : Program → Graph → List ℕ
running p g = filter (λ k. not (g.mutator k).ended) (numbers_below (length p.mutators))

abbrev pub is_done : List Statement → Bool
is_done [] = true
is_done (s ∷ rest) = false

-- a mutator as an epoch ends: where it has ended, nothing is in its hands any more
abbrev pub parted : Mutator → Bool → Mutator
parted m true = record m { register = λ _. Ref 0; stack = []; ended = true }
parted m false = record m { ended = false }

-- as an epoch ends, the mutators without a statement left have ended
abbrev pub left : Graph → Graph
left g = record g { mutator = λ k. parted (g.mutator k) (is_done (g.mutator k).script) }

-- every mutator has ended
abbrev pub AllEnded : Program → Graph → Type 0
AllEnded p g = (k : ℕ) → k < length p.mutators → (g.mutator k).ended ≡ true

-- the new object with this name, of an epoch that began with so many objects, stands in the major heap
pub record IsNewOld (count : ℕ) (c : Book) (name : ℕ) : Type 0 where
  pub new : count < name
  pub stands : c.stands name ≡ true
  pub old : c.section name ≡ Old

-- some part is of a mutator that asks for a slot of z words
abbrev pub AsksSlot : List Part → ℕ → Type 0
AsksSlot parts z = (part : Part) × Contains parts part × (part.leave ≡ Wants (Slot z))

-- Epoch number e leads from g and b to h and c, and this is its report: this order of whole statements explains every answer,
-- each mutator left as it may, and the book is sound. `swept` are the blocks that mutators swept in it, in no order.
pub record IsEpoch (p : Program) (e : ℕ) (g : Graph) (b : Book) (order : List Said) (swept : List ℕ) (report : EpochReport) (h : Graph) (c : Book) : Type 0 where
  pub going : ¬ AllEnded p g
  pub last : Graph
  pub book : Book
  pub explains : Explains p g b order last book
  pub after : h ≡ left last
  pub number : report.number ≡ e
  pub parts : Pairwise (IsPart p g order last c) (running p g) report.parts
  -- who yields does so since another one asks
  pub yields : (part : Part) → Contains report.parts part → part.leave ≡ Yield → SomeAsks report.parts
  pub ends : IsTrue report.last ↔ AllEnded p h
  -- what was swept had been owed, and was swept once
  pub sweeps : c ≡ swept_in book swept
  pub were_owed : (j : ℕ) → Contains swept j → (j < p.config.blocks) × (b.owed j ≡ true)
  pub once : AreDistinct swept
  -- as the epoch ends, no block below a new object of the major heap is owed, and none that wasn't owed as the epoch began has a place for it; where
  -- a slot is asked for, that is so of each block
  pub lowest : (n j : ℕ) → IsNewOld g.count c n → block_at p j + 256 ≤ c.address n → IsClosed p b.owed last c j (slot_words (last.size n))
  pub searched : (z j : ℕ) → AsksSlot report.parts z → j < p.config.blocks → IsClosed p b.owed last c j z
  pub sound : IsSoundBook p h c
