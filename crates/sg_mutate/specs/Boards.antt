-- The midst of an epoch as a board: after whole turns, the graph, the book and where each mutator stands.
use Rattle.std.specs.Prelude.{◌≡◌, ◌≢◌, ℕ, ◌+◌, ◌-◌, ◌*◌, ◌^◌, ◌<◌, ◌≤◌, ◌⊎◌, true, false, Option, Some, None, List, [], ◌++◌, length}
use Rattle.std.specs.Int.{bit_at}
use Rattle.sg_words.specs.Blocks.{slots}
use Rattle.sg_words.specs.declared.steps.BlockWord.{BlockWord}
use Rattle.sg_words.specs.declared.steps.BlockWord.TheVariants.{Free, Swept, Need, Sweeping}
use Rattle.sg_words.specs.declared.steps.Step.{Step}
use Rattle.sg_words.specs.Words.{put, Words, replayed, IsLegal}
use Rattle.sg_program.specs.declared.program.Statement.{Statement}
use Rattle.sg_program.specs.declared.program.Program.{Program}
use Rattle.sg_program.specs.declared.answers.Leave.TheVariants.{Ended, Yield, Wants}
use Rattle.sg_graph.specs.Graph.{Graph}
use Rattle.sg_graph.specs.Book.{Book, IsInBlock, swept_in}
use Rattle.sg_graph.specs.Epoch.{Said}
use Rattle.sg_graph.specs.Turns.{Position, Between, Claiming, OpeningBlock, TakingSlot, TakingOver, SweepingBlock, BehindSweep, HasLeft, Board, opening, HasGone, moved_on, TakesTurn}
use Rattle.sg_rules.specs.Rules.{Constants, Actor, Mid, Idle, Look, Claim, Search, SeeBlock, TakeBlock, TakeSlot, TakeOver, StoreOccupancy, Left, Yielded}
use Rattle.sg_program.specs.Scripts.{IsRequestOf}
use Rattle.sg_rules.specs.Sane.{IsSane}
use Rattle.sg_rules.specs.Acting.{IsTurn}
use Rattle.sg_order.specs.Rest.{IsEpochOpening}
use Rattle.sg_order.specs.Sweep.{swept_of}
use Rattle.sg_order.specs.Knowing.{IsPast}
use Rattle.sg_order.specs.OneOrder.{IsSoFar, IsOneOrder}

-- a mutator with this script, which the rules see there, stands on the board here
abbrev pub IsAt : Program → List Statement → Mid → Position → Type 0
IsAt p script Idle Between = Unit {0}
IsAt p script Idle (HasLeft Ended) = script ≡ []
IsAt p script (Claim s f seen) (Claiming fragment found) = (fragment ≡ f) × (found ≡ seen)
IsAt p script (TakeBlock s c) (OpeningBlock block) = block ≡ c
IsAt p script (TakeSlot s c i) (TakingSlot block slot) = (block ≡ c) × (slot ≡ i)
IsAt p script (TakeOver (Search s) c z) (TakingOver block) = block ≡ c
IsAt p script (StoreOccupancy (Search s) c z) (SweepingBlock block) = block ≡ c
IsAt p script (SeeBlock (Search s) true c) (BehindSweep block) = block ≡ c
IsAt p script (Left s) (HasLeft (Wants request)) = IsRequestOf p s request
IsAt p script Yielded (HasLeft Yield) = Unit {0}
IsAt p script mid position = ⊥

-- what the board says of block j, whose word this is: whether it is still to be swept, and whether it was given to a size in this epoch
abbrev pub SaysOf : Program → Board → ℕ → BlockWord → Type 0
SaysOf p x j Free = (x.owed j ≡ false) × (x.given j ≡ None)
SaysOf p x j (Swept z) = (x.owed j ≡ false) × ((x.given j ≡ Some z) ⊎ ((x.given j ≡ None) × ((name : ℕ) × IsInBlock p x.book name j)))
SaysOf p x j (Need z) = (x.owed j ≡ true) × (x.given j ≡ None)
SaysOf p x j (Sweeping z) = (x.owed j ≡ false) × (x.given j ≡ None)

-- What a mutator saw of the block at which its search stands: who is about to open it saw it free, and nobody but another one who opened it has
-- changed it since; who has swept it knows that it is past its sweep; and who is about to take it over, which slots it has as long as it is owed.
abbrev pub HasSeen : Words → (ℕ → Option ℕ) → Mid → Type 0
HasSeen w given (TakeBlock s c) = (w.block c ≡ Free) ⊎ ((z : ℕ) × (w.block c ≡ Swept z) × (given c ≡ Some z))
HasSeen w given (SeeBlock t true c) = IsPast (w.block c)
HasSeen w given (TakeOver t c z) = (size : ℕ) → w.block c ≡ Need size → size ≡ z
HasSeen w given mid = Unit {0}

-- only slots of a swept block are occupied
abbrev pub OccupiesSlots : Program → Words → Type 0
OccupiesSlots p w = (c z i : ℕ) → c < p.config.blocks → w.block c ≡ Swept z → bit_at (w.used c) i ≡ 1 → i < slots z

-- An epoch that opened with g and b is in its midst, behind whole turns: this order of whole statements has led to the board's graph
-- and book, each mutator stands where the board says, the stop word is set where somebody asks for a stop, and the blocks are as the board says.
pub record IsBoarded (p : Program) (lay : Constants) (g : Graph) (b : Book) (order : List Said) (x : Board) (w : Words) (actors : ℕ → Actor) : Type 0 where
  pub so : IsSoFar p lay g b w actors
  pub one : IsOneOrder p lay so.opened g b so.events w actors
  pub order_is : one.order ≡ order
  pub graph_is : one.graph ≡ x.graph
  pub book_is : one.book ≡ x.book
  pub at : (k : ℕ) → IsAt p (actors k).script (actors k).mid (x.position k)
  pub asked : x.stopping ≡ true → w.stop ≢ 0
  pub going : x.stopping ≡ false → w.stop ≡ 0
  -- the blocks that are still to be swept are those owed as the epoch opened and not taken over since
  pub owed_is : x.owed ≡ (swept_in b (swept_of so.events)).owed
  pub says : (j : ℕ) → j < p.config.blocks → SaysOf p x j (w.block j)
  pub seen : (k : ℕ) → HasSeen w x.given (actors k).mid
  pub fits : OccupiesSlots p w

-- a turn of mutator k over the words is one over graph and book; where it leaves the mutator between two statements, it stands so
pub record HasTaken (p : Program) (lay : Constants) (g : Graph) (b : Book) (order : List Said) (x : Board) (k : ℕ) (v : Words)
    (actors : ℕ → Actor) : Type 0 where
  pub said : List Said
  pub board : Board
  pub takes : TakesTurn p x k said board
  pub boarded : IsBoarded p lay g b (order ++ said) board v actors
  pub stays : (actors k).mid ≡ Idle → board.position k ≡ Between

-- as an epoch of mutators alone opens, everybody is between two statements
abbrev pub OpensBoarded : Type 0
OpensBoarded = (p : Program) (lay : Constants) (w : Words) (g : Graph) (b : Book) (actors : ℕ → Actor) → IsEpochOpening p lay w g b actors →
    ((k : ℕ) → (actors k).mid ≡ Idle) → OccupiesSlots p w → IsBoarded p lay g b [] (opening g b) w actors

-- the steps of one turn of a mutator that hasn't left
abbrev pub TurnsAreTaken : Type 0
TurnsAreTaken =
    (p : Program) (lay : Constants) (g : Graph) (b : Book) (order : List Said) (x : Board) (w : Words) (actors : ℕ → Actor) →
    IsBoarded p lay g b order x w actors → (k : ℕ) → ¬ HasGone (x.position k) → (steps : List Step) (a : Actor) →
    IsTurn p lay (actors k) steps a → IsLegal w steps → HasTaken p lay g b order x k (replayed w steps) (put actors k a)

-- who has no statement left ends in its turn, without a step
pub record HasEnded (p : Program) (lay : Constants) (g : Graph) (b : Book) (order : List Said) (x : Board) (k : ℕ) (w : Words)
    (actors : ℕ → Actor) : Type 0 where
  pub takes : TakesTurn p x k [] (moved_on x k (HasLeft Ended))
  pub boarded : IsBoarded p lay g b order (moved_on x k (HasLeft Ended)) w actors

abbrev pub EndsAreTaken : Type 0
EndsAreTaken =
    (p : Program) (lay : Constants) (g : Graph) (b : Book) (order : List Said) (x : Board) (w : Words) (actors : ℕ → Actor) →
    IsBoarded p lay g b order x w actors → (k : ℕ) → x.position k ≡ Between → (actors k).script ≡ [] → HasEnded p lay g b order x k w actors

-- How much a search for a slot has still to do at block c, at most, where it stands at this one of the points that it can pass there, counted
-- from the last on; and in the blocks behind it. A block has at most 64 slots.
abbrev pub owed_in_search : Program → ℕ → ℕ → ℕ
owed_in_search p c point = 2 + ((p.config.blocks - c) * 128 + point)

-- How much a mutator has still to do in its epoch, at most: its statements, and within one that searches the fragments from the one
-- on at which it is, and the words of that one where an exchange is prepared; within one that searches the blocks those from the one on at which it
-- is, and the slots of that one where a claim is prepared. Each fragment has less than 2^37 words, there are less than 2^20 fragments, and at most
-- 65,536 blocks.
abbrev pub owed_at : Program → Constants → Mid → ℕ
owed_at p lay Idle = 1
owed_at p lay (Look s f) = 2 + ((lay.fragments - f) * 2 ^ 37 + 2 ^ 37)
owed_at p lay (Claim s f seen) = 2 + ((lay.fragments - f) * 2 ^ 37 + (lay.limit f - seen))
owed_at p lay (TakeOver t c z) = owed_in_search p c 100
owed_at p lay (StoreOccupancy t c z) = owed_in_search p c 99
owed_at p lay (SeeBlock t true c) = owed_in_search p c 98
owed_at p lay (TakeBlock s c) = owed_in_search p c 97
owed_at p lay (TakeSlot s c i) = owed_in_search p c (96 - i)
owed_at p lay (Left s) = 0
owed_at p lay Yielded = 0
owed_at p lay mid = 2

abbrev pub owed : Program → Constants → Actor → ℕ
owed p lay a = 2 ^ 60 * length a.script + owed_at p lay a.mid

-- in the midst of an epoch each turn of a mutator leaves it less
abbrev pub TurnsOweLess : Type 0
TurnsOweLess =
    (p : Program) (lay : Constants) (g : Graph) (b : Book) (order : List Said) (x : Board) (w : Words) (actors : ℕ → Actor) → p.config.nursery ≤ 65536 →
    p.config.blocks ≤ 65536 → lay.fragments ≤ 2048 → IsBoarded p lay g b order x w actors → (k : ℕ) (steps : List Step) (a : Actor) →
    IsSane p lay (actors k) → IsSane p lay a → IsTurn p lay (actors k) steps a → IsLegal w steps → owed p lay a < owed p lay (actors k)
