-- What a run comes to: for each mutator how many statements were answered, and the sum of the numbers that it read.
use Rattle.std.specs.Prelude.{◌≡◌, ℕ, suc, ◌+◌, ◌*◌, ◌^◌, ◌<◌, ◌≤◌, ◌==◌, if◌then◌else◌, List, [], ◌∷◌, ◌++◌, length, codes}
use Rattle.std.specs.List.{flat_map, sum_by}
use Rattle.std.specs.Fmt.{decimal}
use Rattle.sg_program.specs.declared.answers.Answer.{Answer}
use Rattle.sg_program.specs.declared.answers.Answer.TheVariants.{Number}
use Rattle.sg_program.specs.declared.program.Program.{Program}
use Rattle.sg_program.specs.Scripts.{script_of}
use Rattle.sg_graph.specs.declared.reports.Part.{Part}
use Rattle.sg_graph.specs.declared.reports.Service.{Service}
use Rattle.sg_graph.specs.Run.{Phase, Epoch, Stop, IsRun, IsWholeRun}
use Rattle.sg_load.specs.declared.summary.Tally.{Tally}

-- the answers of mutator k in a part of an epoch, or in what a stop served
abbrev pub answers_in_part : ℕ → Part → List Answer
answers_in_part k part = if part.mutator == k then part.answers else []

abbrev pub answers_in_service : ℕ → Service → List Answer
answers_in_service k service = if service.mutator == k then service.answer ∷ [] else []

-- the same in all parts of an epoch, in all that a stop served, in a phase and in a run, in order
abbrev pub answers_in_parts : ℕ → List Part → List Answer
answers_in_parts k parts = flat_map (answers_in_part k) parts

abbrev pub answers_in_services : ℕ → List Service → List Answer
answers_in_services k served = flat_map (answers_in_service k) served

abbrev pub answers_in : ℕ → Phase → List Answer
answers_in k (Epoch report order swept) = answers_in_parts k report.parts
answers_in k (Stop report) = answers_in_services k report.served

abbrev pub answers_in_run : ℕ → List Phase → List Answer
answers_in_run k phases = flat_map (answers_in k) phases

-- the number that an answer is, or 0 where it is none; of all statements `getd` alone is answered by a number
abbrev pub number_in : Answer → ℕ
number_in (Number n) = n
number_in answer = 0

-- the tally of nothing, and one with these answers more
abbrev pub empty_tally : Tally
empty_tally = record { statements = 0; sum = 0 }

abbrev pub counted : Tally → List Answer → Tally
counted tally answers = record { statements = tally.statements + length answers; sum = tally.sum + sum_by number_in answers }

-- the tallies of the mutators from k on, with each one's answers more
abbrev pub counted_from : ℕ → List Tally → (ℕ → List Answer) → List Tally
counted_from k [] answers = []
counted_from k (tally ∷ tallies) answers = counted tally (answers k) ∷ counted_from (suc k) tallies answers

abbrev pub empty_tallies : List Tally
empty_tallies = empty_tally ∷ empty_tally ∷ empty_tally ∷ empty_tally ∷ []

-- the tallies of the four mutators of a generated program in a run
abbrev pub tallies_of : List Phase → List Tally
tallies_of phases = counted_from 0 empty_tallies (λ k. answers_in_run k phases)

abbrev pub line_feed : List ℕ
line_feed = 10 ∷ []

-- `mutator I statements N sum S`
abbrev pub tally_line : ℕ → Tally → List ℕ
tally_line k tally =
    codes "mutator " ++ decimal k ++ codes " statements " ++ decimal tally.statements ++ codes " sum " ++ decimal tally.sum ++ line_feed

-- such lines for the mutators from k on
abbrev pub tally_lines : ℕ → List Tally → List ℕ
tally_lines k [] = []
tally_lines k (tally ∷ tallies) = tally_line k tally ++ tally_lines (suc k) tallies

-- the line `gen SEED SIZE`, a line for each mutator, and `end`
abbrev pub summary_text : ℕ → ℕ → List Tally → List ℕ
summary_text seed size tallies =
    codes "gen " ++ decimal seed ++ codes " " ++ decimal size ++ line_feed ++ tally_lines 0 tallies ++ codes "end" ++ line_feed

-- the summary of a run of the program of this seed and size
abbrev pub summary : ℕ → ℕ → List Phase → List ℕ
summary seed size phases = summary_text seed size (tallies_of phases)

-- A sum is below 2^64 for each statement that was answered, since a number has 64 bits; so it doesn't overflow 128 bits.
abbrev pub IsLow : Tally → Type 0
IsLow tally = tally.sum ≤ tally.statements * 2 ^ 64

-- In a run as far as it went a mutator has at most as many answers as its script has statements, and in a whole one as many; and tallies are added up
-- phase by phase.
pub record AnswersAreCounted : Type 0 where
  pub most : (p : Program) (phases : List Phase) (k : ℕ) → k < length p.mutators → IsRun p phases → length (answers_in_run k phases) ≤ length (script_of p k)
  pub all : (p : Program) (phases : List Phase) (k : ℕ) → k < length p.mutators → IsWholeRun p phases → length (answers_in_run k phases) ≡ length (script_of p k)
  pub added : (phases : List Phase) (phase : Phase) → tallies_of (phases ++ phase ∷ []) ≡ counted_from 0 (tallies_of phases) (λ k. answers_in k phase)
