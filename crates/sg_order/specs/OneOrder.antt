-- The law of one order: what the atomic steps of any number of mutators, in any legal list, say of whole statements.
use Rattle.std.specs.Prelude.{◌≡◌, ℕ, ◌+◌, ◌<◌, ◌≤◌, ◌⊎◌, true, List, ◌∷◌, map}
use Rattle.sg_words.specs.Address.{byte_at}
use Rattle.sg_words.specs.declared.steps.Step.{Step}
use Rattle.sg_words.specs.Calls.{call_of}
use Rattle.sg_words.specs.Words.{put, Words, Saw, after, Legal}
use Rattle.sg_words.specs.Events.{Event, ticks, part, order_of}
use Rattle.sg_words.specs.Blocks.{slots, IsOf, is_taken}
use Rattle.sg_words.specs.declared.steps.BlockWord.{BlockWord}
use Rattle.sg_words.specs.declared.steps.BlockWord.TheVariants.{Swept, Sweeping}
use Rattle.sg_program.specs.declared.program.Statement.{Statement}
use Rattle.sg_program.specs.declared.program.Statement.TheVariants.{Mature}
use Rattle.sg_program.specs.declared.program.Program.{Program}
use Rattle.sg_graph.specs.Graph.{Graph}
use Rattle.sg_program.specs.Scripts.{IsMaking, IsMature, made_words, made_slot}
use Rattle.sg_graph.specs.Book.{Book, IsShort, LacksRoom, HasNoPlace, IsApart, IsWordOf, slot_at, IsClosed, block_at, slot_words, swept_in}
use Rattle.sg_graph.specs.Blocks.{AreBlocks}
use Rattle.sg_graph.specs.Epoch.{Said, Explains, IsNewOld, answers_of, by_address}
use Rattle.sg_graph.specs.Heap.{Owner}
use Rattle.sg_rules.specs.Rules.{Constants, Actor, Claim, Left, Yielded, Follows, Went}
use Rattle.sg_rules.specs.Sane.{IsSane}
use Rattle.sg_rules.specs.Acting.{Acts}
use Rattle.sg_order.specs.Rest.{IsReady, IsHeld, IsEpochOpening, before_it, IsOver, AreOver, IsWanted}
use Rattle.sg_order.specs.Sweep.{no_winner, winners, Runs, IsSweep, swept_of}
use Rattle.sg_order.specs.Knowing.{HasObject, KnowsAt, IsInSweep, IsInSearch, Seeks}

-- Mutator k, which is a, has prepared the exchange of the next word of fragment f, which it saw: the statement s makes an object, for
-- which its buffer and the fragments below f are too short.
pub record HasPrepared (p : Program) (g : Graph) (b : Book) (k : ℕ) (a : Actor) (s : Statement) (f seen : ℕ) : Type 0 where
  pub makes : IsMaking s
  pub script : (g.mutator k).script ≡ s ∷ a.script
  pub short : IsShort b k (made_words p s)
  pub there : f < b.fragments
  pub below : (j : ℕ) → j < f → LacksRoom b (made_words p s) j
  pub behind : seen ≤ b.next f

-- Mutator k, which is a, looks for a slot for the object of the statement s, which is its next one.
pub record IsSeeking (g : Graph) (k : ℕ) (a : Actor) (s : Statement) : Type 0 where
  pub makes : IsMature s
  pub script : (g.mutator k).script ≡ s ∷ a.script

-- the word x is one of a slot of block c whose bit is set, by the block's word and its occupancy
pub record IsHoused (p : Program) (lay : Constants) (state : BlockWord) (used c x : ℕ) : Type 0 where
  pub size : ℕ
  pub slot : ℕ
  pub of : IsOf state size
  pub fits : slot < slots size
  pub from : slot_at p c size slot ≤ x
  pub to : x < slot_at p c size slot + size
  pub taken : is_taken state used (lay.marks c) slot ≡ 1

-- How the blocks stand in the midst of an epoch, behind these events: their own words say where old objects stand; each that is being swept has one
-- sweeper; each swept one has an object, or somebody's search for a slot is at it; and what each actor knows of them.
pub record AreBlocksSoFar (p : Program) (lay : Constants) (g : Graph) (b : Book) (es : List Event) (v : Words) (last : ℕ → Actor) : Type 0 where
  pub owner : ℕ → Owner
  pub blocks : AreBlocks p lay.marks v.block v.used v.word g.size b.stands b.address b.section b.owed owner
  pub marks : v.marks ≡ lay.marks
  -- an object that has a word in a block has it in a slot whose bit is set
  pub housed : (c name x : ℕ) → c < p.config.blocks → IsWordOf g b name x → block_at p c ≤ x → x < block_at p c + 256 →
      IsHoused p lay (v.block c) (v.used c) c x
  pub swept_by : (c z : ℕ) → c < p.config.blocks → v.block c ≡ Sweeping z → IsInSweep c z (last (winners no_winner es c)).mid
  pub one_sweeper : (j k c y z : ℕ) → IsInSweep c y (last j).mid → IsInSweep c z (last k).mid → j ≡ k
  pub inhabited : (c z : ℕ) → c < p.config.blocks → v.block c ≡ Swept z → HasObject p b.stands b.address c ⊎ ((k : ℕ) × IsInSearch p c z (last k).mid)
  pub known : (k : ℕ) → KnowsAt p lay v b.owed (winners no_winner es) k (last k).mid
  pub seeking : (k : ℕ) (s : Statement) → Seeks s (last k).mid → IsSeeking g k (last k) s

-- Where all actors are over, the words hold the graph by the book c, which differs from that of the last statement only in what is owed: what was swept
-- isn't any more; each actor stands by it where the graph's mutator stands. By it no block is owed, and none that wasn't owed at the opening has a place, for
-- who left since it found no slot; nor is or has a block below a new object of the major heap for that object.
pub record IsAtEnd (p : Program) (lay : Constants) (count : ℕ) (b : Book) (graph : Graph) (book c : Book) (v : Words) (last : ℕ → Actor) : Type 0 where
  pub only_owed : c ≡ record book { owed = c.owed }
  pub ready : (k : ℕ) → IsReady p graph c k (last k) (before_it (last k).mid (last k).script)
  pub held : IsHeld p lay v graph c
  pub searched : (k r class j : ℕ) → (last k).mid ≡ Left (Mature r class) → j < p.config.blocks → IsClosed p b.owed graph c j (made_slot p (Mature r class))
  pub lowest : (n j : ℕ) → IsNewOld count c n → block_at p j + 256 ≤ c.address n → IsClosed p b.owed graph c j (slot_words (graph.size n))

-- Whole statements, in the order of the deciding steps of the list, lead to a graph and a book; each step is lawful, and does no harm; the standing
-- objects are apart, and the fragments and the blocks of the words v, to which the list led from w, are the book's. A mutator that is between two
-- statements, or has left, has the answers of the graph, read through the book, and stands where the graph's mutator stands; who left with a new object
-- had no room in its buffer and in no fragment, and who left without a statement did so since another one asked for a stop.
pub record IsOneOrder (p : Program) (lay : Constants) (w : Words) (g : Graph) (b : Book) (es : List Event) (v : Words) (last : ℕ → Actor) : Type 0 where
  pub order : List Said
  pub graph : Graph
  pub book : Book
  pub explains : Explains p g b order graph book
  pub deciding : map (λ (s : Said). s.by) order ≡ order_of es
  pub apart : IsApart p graph book
  pub fragments : book.fragments ≡ lay.fragments
  pub limits : (f : ℕ) → f < book.fragments → book.limit f ≡ lay.limit f
  pub nexts : (f : ℕ) → f < book.fragments → v.next f ≡ byte_at (book.next f)
  pub answers : (k : ℕ) → IsOver (last k).mid → (last k).told ≡ map (by_address book) (answers_of k order)
  pub ready : (k : ℕ) → IsOver (last k).mid → IsReady p graph book k (last k) (before_it (last k).mid (last k).script)
  pub tight : (k : ℕ) (s : Statement) → IsMaking s → (last k).mid ≡ Left s → HasNoPlace book k (made_words p s)
  pub prepared : (k : ℕ) (s : Statement) (f seen : ℕ) → (last k).mid ≡ Claim s f seen → HasPrepared p graph book k (last k) s f seen
  pub yielded : (k : ℕ) → (last k).mid ≡ Yielded → IsWanted last
  -- what stands has one of the graph's names; and no turn changes which blocks are owed
  pub given : (name : ℕ) → book.stands name ≡ true → name ≤ graph.count
  pub owed : book.owed ≡ b.owed
  pub runs : Runs p lay w no_winner g b es order graph book
  pub sweep : IsSweep p lay w b.owed es
  pub blocks : AreBlocksSoFar p lay graph book es v last
  pub ended : AreOver last → IsAtEnd p lay g.count b graph book (swept_in book (swept_of es)) v last

-- every legal list of steps of mutators that follow their programs from an epoch's opening on has one order
abbrev pub OneOrder : Type 0
OneOrder =
    (p : Program) (lay : Constants) (w : Words) (g : Graph) (b : Book) (es : List Event) (actors last : ℕ → Actor) →
    IsEpochOpening p lay w g b actors → Legal w (ticks es) → ((k : ℕ) → Follows p lay (actors k) (part k es) (last k)) →
    IsOneOrder p lay w g b es (after w (ticks es)) last

-- An epoch in its midst: a legal list of steps of mutators that follow their programs has led from its opening, with g and b, to
-- the words w and to these mutators.
pub record IsSoFar (p : Program) (lay : Constants) (g : Graph) (b : Book) (w : Words) (actors : ℕ → Actor) : Type 0 where
  pub opened : Words
  pub first : ℕ → Actor
  pub events : List Event
  pub opening : IsEpochOpening p lay opened g b first
  pub legal : Legal opened (ticks events)
  pub is : after opened (ticks events) ≡ w
  pub follows : (k : ℕ) → Follows p lay (first k) (part k events) (actors k)

-- an epoch's opening is so far
abbrev pub OpensSoFar : Type 0
OpensSoFar = (p : Program) (lay : Constants) (w : Words) (g : Graph) (b : Book) (actors : ℕ → Actor) → IsEpochOpening p lay w g b actors →
    IsSoFar p lay g b w actors

-- from there the next steps of any one mutator lead on
abbrev pub GoesSoFar : Type 0
GoesSoFar =
    (p : Program) (lay : Constants) (g : Graph) (b : Book) (w : Words) (actors : ℕ → Actor) (k : ℕ) (a : Actor) (v : Words) →
    IsSoFar p lay g b w actors → Went p lay (actors k) w a v → IsSoFar p lay g b v (put actors k a)

-- and what is so far has one order
abbrev pub OrdersSoFar : Type 0
OrdersSoFar =
    (p : Program) (lay : Constants) (g : Graph) (b : Book) (w : Words) (actors : ℕ → Actor) → (so : IsSoFar p lay g b w actors) →
    IsOneOrder p lay so.opened g b so.events w actors

-- In the midst of an epoch each mutator is sane, and whatever a call for a next step of it sees then, a step comes next.
pub record AreGoing (p : Program) (lay : Constants) (w : Words) (actors : ℕ → Actor) : Type 0 where
  pub sane : (k : ℕ) → IsSane p lay (actors k)
  pub goes_on : (k : ℕ) (step : Step) (a : Actor) (other : Step) → Acts p lay (actors k) step a → call_of other ≡ call_of step → Saw w other →
      (b : Actor) × Acts p lay (actors k) other b

abbrev pub GoesAlways : Type 0
GoesAlways =
    (p : Program) (lay : Constants) (g : Graph) (b : Book) (w : Words) (actors : ℕ → Actor) → IsSoFar p lay g b w actors → AreGoing p lay w actors
