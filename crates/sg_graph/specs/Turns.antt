-- Turns: which whole statements an epoch does, and in which order, where one mutator after another is given a turn.
use Rattle.std.specs.Prelude.{◌≡◌, ◌≢◌, ℕ, ◌≤◌, ◌<◌, ◌⊎◌, Bool, true, false, Option, Some, None, List, [], ◌∷◌, ◌++◌, length, slice_get}
use Rattle.std.specs.List.{Contains}
use Rattle.sg_words.specs.Words.{put}
use Rattle.sg_words.specs.Lists.{Pairwise}
use Rattle.sg_words.specs.Schedule.{Schedule, begun, Gives}
use Rattle.sg_program.specs.declared.program.Statement.{Statement}
use Rattle.sg_program.specs.declared.program.Program.{Program}
use Rattle.sg_program.specs.declared.answers.Request.{Request}
use Rattle.sg_program.specs.declared.answers.Request.TheVariants.{Need, Slot}
use Rattle.sg_program.specs.declared.answers.Leave.{Leave}
use Rattle.sg_program.specs.declared.answers.Leave.TheVariants.{Ended, Yield, Wants}
use Rattle.sg_program.specs.declared.answers.Answer.TheVariants.{At}
use Rattle.sg_program.specs.Scripts.{IsMaking, IsMature, IsCollecting, made_words, made_slot}
use Rattle.sg_graph.specs.declared.reports.Part.{Part}
use Rattle.sg_graph.specs.Graph.{Graph}
use Rattle.sg_graph.specs.Book.{Book, IsShort, HasRoom, LacksRoom, slot_at, IsInBlock, IsInSlot, IsOpenSlot, IsShut}
use Rattle.sg_graph.specs.Epoch.{Said, Turn, running}

-- where a mutator stands between two of its turns
pub data Position : Type 0 where
  -- between two statements
  Between : Position
  -- before the claim of a fragment whose next word it saw
  Claiming : (fragment seen : ℕ) → Position
  -- in its search for a slot: before it makes a free block one of slots of its size; before the claim of a slot; before it takes over an owed block;
  -- with a block that it took over and is still to sweep; and behind that sweep
  OpeningBlock : (block : ℕ) → Position
  TakingSlot : (block slot : ℕ) → Position
  TakingOver : (block : ℕ) → Position
  SweepingBlock : (block : ℕ) → Position
  BehindSweep : (block : ℕ) → Position
  -- it has left
  HasLeft : (leave : Leave) → Position

-- The graph, the book, whether somebody asks for a stop, where each mutator stands, which blocks nobody has taken over yet of those that are
-- owed, and to slots of which size a free block was given in this epoch.
pub record Board : Type 0 where
  pub graph : Graph
  pub book : Book
  pub stopping : Bool
  pub position : ℕ → Position
  pub owed : ℕ → Bool
  pub given : ℕ → Option ℕ

-- an epoch begins: nobody asks, and each mutator is between two statements
abbrev pub opening : Graph → Book → Board
opening g b = record { graph = g; book = b; stopping = false; position = λ _. Between; owed = b.owed; given = λ _. None }

abbrev pub HasGone : Position → Type 0
HasGone Between = ⊥
HasGone (Claiming fragment seen) = ⊥
HasGone (OpeningBlock block) = ⊥
HasGone (TakingSlot block slot) = ⊥
HasGone (TakingOver block) = ⊥
HasGone (SweepingBlock block) = ⊥
HasGone (BehindSweep block) = ⊥
HasGone (HasLeft leave) = Unit {0}

abbrev pub moved_on : Board → ℕ → Position → Board
moved_on x k position = record x { position = put x.position k position }

-- mutator k leaves with this request, and asks for a stop
abbrev pub asking : Board → ℕ → Request → Board
asking x k request = record x { stopping = true; position = put x.position k (HasLeft (Wants request)) }

-- fragment j is the lowest from f on with n words left
pub record IsLowestFrom (b : Book) (n f j : ℕ) : Type 0 where
  pub from : f ≤ j
  pub there : j < b.fragments
  pub room : HasRoom b n j
  pub lowest : (i : ℕ) → f ≤ i → i < j → LacksRoom b n i

-- no fragment from f on has n words left
abbrev pub HasNoneFrom : Book → ℕ → ℕ → Type 0
HasNoneFrom b n f = (i : ℕ) → f ≤ i → i < b.fragments → LacksRoom b n i

-- the statement makes an object for which the mutator's buffer is too short: it goes through the fragments
pub record Searches (p : Program) (b : Book) (k : ℕ) (s : Statement) : Type 0 where
  pub makes : IsMaking s
  pub short : IsShort b k (made_words p s)

-- some mutator has taken over block j, and is still to sweep it
abbrev pub IsBeingSwept : Board → ℕ → Type 0
IsBeingSwept x j = (k : ℕ) × (x.position k ≡ SweepingBlock j)

-- block j isn't to be swept, and nobody sweeps it
pub record IsSweptOn (x : Board) (j : ℕ) : Type 0 where
  pub swept : x.owed j ≡ false
  pub done : ¬ IsBeingSwept x j

-- block j is free: it was given to no size, and no object stands in it
pub record IsFreeOn (p : Program) (x : Board) (j : ℕ) : Type 0 where
  pub swept : IsSweptOn x j
  pub given : x.given j ≡ None
  pub empty : (name : ℕ) → IsInBlock p x.book name j → ⊥

-- block j has slots of z words, by what it was given to or by an object that stands in it, and i is the lowest open one
pub record HasSlotOn (p : Program) (x : Board) (z j i : ℕ) : Type 0 where
  pub swept : IsSweptOn x j
  pub sized : (x.given j ≡ Some z) ⊎ ((x.given j ≡ None) × ((name : ℕ) × IsInBlock p x.book name j))
  pub open_slot : IsOpenSlot p x.graph x.book j z i

-- a search for a slot of z words passes over block j: another mutator sweeps it, it was given to another size, or it has no place
pub data IsPassedOver (p : Program) (x : Board) (z j : ℕ) : Type 0 where
  BeingSwept : x.owed j ≡ false → IsBeingSwept x j → IsPassedOver p x z j
  OfOtherSize : (y : ℕ) → IsSweptOn x j → x.given j ≡ Some y → y ≢ z → IsPassedOver p x z j
  Shut : IsSweptOn x j → IsShut p x.graph x.book j z → IsPassedOver p x z j

-- a search for a slot of z words from block j on passes over the blocks below block i, and looks at this one
pub record ComesTo (p : Program) (x : Board) (z j i : ℕ) : Type 0 where
  pub from : j ≤ i
  pub there : i < p.config.blocks
  pub passes : (m : ℕ) → j ≤ m → m < i → IsPassedOver p x z m

-- where a search for a slot of z words from block j on stops: before an exchange or a claim at the first block that it doesn't pass over, or
-- nowhere
pub data SearchesFrom (p : Program) (x : Board) (z j : ℕ) : Option Position → Type 0 where
  MeetsFree : (i : ℕ) → ComesTo p x z j i → IsFreeOn p x i → SearchesFrom p x z j (Some (OpeningBlock i))
  MeetsSlot : (i slot : ℕ) → ComesTo p x z j i → HasSlotOn p x z i slot → SearchesFrom p x z j (Some (TakingSlot i slot))
  MeetsOwed : (i : ℕ) → ComesTo p x z j i → x.owed i ≡ true → SearchesFrom p x z j (Some (TakingOver i))
  MeetsNone : ((i : ℕ) → j ≤ i → i < p.config.blocks → IsPassedOver p x z i) → SearchesFrom p x z j None

-- the search of mutator k for a slot of z words stops there; where it stops nowhere, the mutator asks for a slot
abbrev pub stopped_at : Board → ℕ → ℕ → Option Position → Board
stopped_at x k z (Some position) = moved_on x k position
stopped_at x k z None = asking x k (Slot z)

-- A mutator that stands there, in a search for a slot of z words, goes on with it at block j: its exchange or its claim is lost, or it has swept
-- the block.
abbrev pub SearchesOnAt : Program → Board → ℕ → Position → ℕ → Type 0
SearchesOnAt p x z (OpeningBlock block) j = (j ≡ block) × ((y : ℕ) × (x.given block ≡ Some y))
SearchesOnAt p x z (TakingSlot block slot) j = (j ≡ block) × ((name : ℕ) × IsInSlot p x.graph x.book name block z slot)
SearchesOnAt p x z (TakingOver block) j = (j ≡ block) × (x.owed block ≡ false)
SearchesOnAt p x z (BehindSweep block) j = j ≡ block
SearchesOnAt p x z position j = ⊥

-- the free block is one of slots of z words from now on
abbrev pub giving : Board → ℕ → ℕ → Board
giving x block z = record x { given = put x.given block (Some z) }

-- A turn of mutator k: which whole statement is done in it, if one is, and where all stand then. A turn that begins a statement ends
-- with it, or right before its claim of a fragment; a turn with a prepared claim makes it, and one that is lost looks again at the
-- same fragment and then at those above it. A search for a slot ends a turn right before each exchange and each claim, the sweep of a block that
-- was taken over is a turn of its own, and behind each of these the search goes on at the same block.
pub data TakesTurn (p : Program) (x : Board) (k : ℕ) : List Said → Board → Type 0 where
  Ends : x.position k ≡ Between → (x.graph.mutator k).script ≡ [] → TakesTurn p x k [] (moved_on x k (HasLeft Ended))
  Yields : (s : Statement) (rest : List Statement) → x.position k ≡ Between → (x.graph.mutator k).script ≡ s ∷ rest → x.stopping ≡ true →
      TakesTurn p x k [] (moved_on x k (HasLeft Yield))
  Collects : (s : Statement) (rest : List Statement) (request : Request) → x.position k ≡ Between → (x.graph.mutator k).script ≡ s ∷ rest → x.stopping ≡ false →
      IsCollecting s request → TakesTurn p x k [] (asking x k request)
  Does : (s : Statement) (rest : List Statement) (said : Said) (h : Graph) (c : Book) → x.position k ≡ Between → (x.graph.mutator k).script ≡ s ∷ rest →
      x.stopping ≡ false → ¬ Searches p x.book k s → ¬ IsMature s → said.by ≡ k → Turn p x.graph x.book said h c →
      TakesTurn p x k (said ∷ []) (record x { graph = h; book = c })
  Prepares : (s : Statement) (rest : List Statement) (f : ℕ) → x.position k ≡ Between → (x.graph.mutator k).script ≡ s ∷ rest → x.stopping ≡ false →
      Searches p x.book k s → IsLowestFrom x.book (made_words p s) 0 f → TakesTurn p x k [] (moved_on x k (Claiming f (x.book.next f)))
  Needs : (s : Statement) (rest : List Statement) → x.position k ≡ Between → (x.graph.mutator k).script ≡ s ∷ rest → x.stopping ≡ false →
      Searches p x.book k s → HasNoneFrom x.book (made_words p s) 0 → TakesTurn p x k [] (asking x k (Need (made_words p s)))
  Claims : (f seen : ℕ) (said : Said) (h : Graph) (c : Book) → x.position k ≡ Claiming f seen → x.book.next f ≡ seen → said.by ≡ k →
      Turn p x.graph x.book said h c → TakesTurn p x k (said ∷ []) (record x { graph = h; book = c; position = put x.position k Between })
  LooksAgain : (s : Statement) (rest : List Statement) (f seen j : ℕ) → x.position k ≡ Claiming f seen → x.book.next f ≢ seen →
      (x.graph.mutator k).script ≡ s ∷ rest → IsLowestFrom x.book (made_words p s) f j → TakesTurn p x k [] (moved_on x k (Claiming j (x.book.next j)))
  FindsNone : (s : Statement) (rest : List Statement) (f seen : ℕ) → x.position k ≡ Claiming f seen → x.book.next f ≢ seen →
      (x.graph.mutator k).script ≡ s ∷ rest → HasNoneFrom x.book (made_words p s) f → TakesTurn p x k [] (asking x k (Need (made_words p s)))
  Matures : (s : Statement) (rest : List Statement) (found : Option Position) → x.position k ≡ Between → (x.graph.mutator k).script ≡ s ∷ rest →
      x.stopping ≡ false → IsMature s → SearchesFrom p x (made_slot p s) 0 found → TakesTurn p x k [] (stopped_at x k (made_slot p s) found)
  SearchesOn : (s : Statement) (rest : List Statement) (j : ℕ) (found : Option Position) → (x.graph.mutator k).script ≡ s ∷ rest →
      SearchesOnAt p x (made_slot p s) (x.position k) j → SearchesFrom p x (made_slot p s) j found →
      TakesTurn p x k [] (stopped_at x k (made_slot p s) found)
  Opens : (s : Statement) (rest : List Statement) (block : ℕ) (found : Option Position) → (x.graph.mutator k).script ≡ s ∷ rest →
      x.position k ≡ OpeningBlock block → x.given block ≡ None → SearchesFrom p (giving x block (made_slot p s)) (made_slot p s) block found →
      TakesTurn p x k [] (stopped_at (giving x block (made_slot p s)) k (made_slot p s) found)
  ClaimsSlot : (s : Statement) (rest : List Statement) (block slot name : ℕ) (said : Said) (h : Graph) (c : Book) → (x.graph.mutator k).script ≡ s ∷ rest →
      x.position k ≡ TakingSlot block slot → said.by ≡ k → said.answer ≡ At name → c.address name ≡ slot_at p block (made_slot p s) slot →
      Turn p x.graph x.book said h c → TakesTurn p x k (said ∷ []) (record x { graph = h; book = c; position = put x.position k Between })
  TakesOver : (block : ℕ) → x.position k ≡ TakingOver block → x.owed block ≡ true →
      TakesTurn p x k [] (record x { owed = put x.owed block false; position = put x.position k (SweepingBlock block) })
  Sweeps : (block : ℕ) → x.position k ≡ SweepingBlock block → TakesTurn p x k [] (moved_on x k (BehindSweep block))

-- these mutators are the actors of an epoch, by number; the actor with this number has left
abbrev pub ActorLeft : Board → List ℕ → ℕ → Type 0
ActorLeft x actors i = (k : ℕ) × (slice_get actors i ≡ Some k) × HasGone (x.position k)

-- turns, as the schedule gives them, lead from one board to another in which every actor has left; these whole statements are done
pub data Plays (p : Program) (actors : List ℕ) : Schedule → Board → List Said → Schedule → Board → Type 0 where
  Over : (s : Schedule) (x : Board) → ((k : ℕ) → Contains actors k → HasGone (x.position k)) → Plays p actors s x [] s x
  Goes : (s t u : Schedule) (x y z : Board) (i k : ℕ) (said order : List Said) → Gives (length actors) (ActorLeft x actors) s i t → slice_get actors i ≡ Some k →
      TakesTurn p x k said y → Plays p actors t y order u z → Plays p actors s x (said ++ order) u z

-- An epoch from g and b on follows the schedule: this is the order of its whole statements, these parts say how each mutator left, and c is the book
-- then, by which exactly the blocks are owed that nobody took over.
pub record FollowsEpoch (p : Program) (g : Graph) (b : Book) (s : Schedule) (order : List Said) (parts : List Part) (c : Book) (t : Schedule) : Type 0 where
  pub last : Board
  pub plays : Plays p (running p g) (begun s) (opening g b) order t last
  pub leaves : Pairwise (λ (k : ℕ) (part : Part). last.position k ≡ HasLeft part.leave) (running p g) parts
  pub book : c ≡ record last.book { owed = last.owed }
