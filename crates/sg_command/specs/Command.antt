-- The words of a command, and the lines that are written where the words are none.
use Rattle.std.specs.Prelude.{◌≡◌, ℕ, ◌^◌, ◌<◌, ◌≤◌, List, [], ◌∷◌, ◌++◌, length, codes}
use Rattle.std.specs.List.{AllByRecursion}
use Rattle.std.specs.Fmt.{decimal}
use Rattle.sg_command.specs.declared.job.Job.{Job}
use Rattle.sg_command.specs.declared.job.Job.TheVariants.{Run, Replay, Gen}

-- how a word spells a list of numbers: each in decimal, with commas between them
abbrev pub spelled : List ℕ → List ℕ
spelled [] = []
spelled (n ∷ []) = decimal n
spelled (n ∷ m ∷ more) = decimal n ++ (codes "," ++ spelled (m ∷ more))

-- a list of turns has 1 to 65,536 numbers, each from 0 to 63
pub record AreTurns (turns : List ℕ) : Type 0 where
  pub some : 1 ≤ length turns
  pub few : length turns ≤ 65536
  pub small : AllByRecursion (λ n. n ≤ 63) turns

-- the word spells this list of turns
abbrev pub Spells : List ℕ → List ℕ → Type 0
Spells word turns = (word ≡ spelled turns) × AreTurns turns

-- a seed has 64 bits, and a size is 24 to 80,000
pub record IsLoad (seed size : ℕ) : Type 0 where
  pub seed_fits : seed < 2 ^ 64
  pub large : 24 ≤ size
  pub small : size ≤ 80000

-- the words ask for this job: for a run by the one word `run`, for a replay by `replay` and the word of a list of turns, for the run of a program that is
-- made by `gen` and two words, the seed and the size in decimal
abbrev pub IsCommand : List (List ℕ) → Job → Type 0
IsCommand words Run = words ≡ codes "run" ∷ []
IsCommand words (Replay turns) = (words ≡ codes "replay" ∷ spelled turns ∷ []) × AreTurns turns
IsCommand words (Gen seed size) = (words ≡ codes "gen" ∷ decimal seed ∷ decimal size ∷ []) × IsLoad seed size

-- the words ask for some job
abbrev pub IsAnyCommand : List (List ℕ) → Type 0
IsAnyCommand words = (job : Job) × IsCommand words job

-- no words ask for two jobs
abbrev pub HasOneJob : Type 0
HasOneJob = (words : List (List ℕ)) (first second : Job) → IsCommand words first → IsCommand words second → first ≡ second

abbrev pub line_feed : List ℕ
line_feed = 10 ∷ []

-- what is written where the words are no command: a line for each command
abbrev pub usage_lines : List ℕ
usage_lines =
    codes "usage: sgenlab run" ++ line_feed ++ codes "usage: sgenlab replay N,N,N" ++ line_feed ++ codes "usage: sgenlab gen SEED SIZE" ++ line_feed
