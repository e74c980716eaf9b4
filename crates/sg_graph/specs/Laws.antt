-- Laws of the definitions: that they mean what their names say.
use Rattle.std.specs.Prelude.{◌≡◌, ◌≢◌, ℕ, ◌+◌, ◌^◌, ◌<◌, ◌≤◌, ◌⊎◌, ◌↔◌, Bool, true, false, Option, Some, List, [], ◌∷◌, ◌++◌, length, map}
use Rattle.std.specs.List.{Contains, AllByRecursion}
use Rattle.std.specs.Int.{bit_at}
use Rattle.std.specs.Int.Bits.{bit_or}
use Rattle.sg_words.specs.Blocks.{slots, IsSizeClass, IsOwing}
use Rattle.sg_words.specs.Words.{put}
use Rattle.sg_words.specs.declared.steps.BlockWord.{BlockWord}
use Rattle.sg_words.specs.declared.steps.BlockWord.TheVariants.{Free, Swept}
use Rattle.sg_words.specs.Reach.{Reached, AreDistinct}
use Rattle.sg_desc.specs.Shapes.{holds_reference, is_strong}
use Rattle.sg_program.specs.declared.program.Program.{Program}
use Rattle.sg_program.specs.declared.program.Statement.{Statement}
use Rattle.sg_program.specs.Scripts.{kind_of, made_words, IsSmall, IsRequestOf}
use Rattle.sg_program.specs.declared.answers.Answer.TheVariants.{Full}
use Rattle.sg_program.specs.declared.answers.Request.{Request}
use Rattle.sg_program.specs.declared.answers.Request.TheVariants.{Need, Slot}
use Rattle.sg_program.specs.declared.answers.Leave.{Leave}
use Rattle.sg_graph.specs.declared.reports.Part.{Part}
use Rattle.sg_graph.specs.declared.reports.EpochReport.{EpochReport}
use Rattle.sg_graph.specs.declared.reports.MinorReport.{MinorReport}
use Rattle.sg_graph.specs.declared.reports.Service.{Service}
use Rattle.sg_graph.specs.declared.reports.StopReport.{StopReport}
use Rattle.sg_graph.specs.Graph.{Graph}
use Rattle.sg_graph.specs.Blocks.{IsOldAt, AreBlocks}
use Rattle.sg_graph.specs.Swept.{AreSwept, AreAtRest, AreInhabited}
use Rattle.sg_graph.specs.Heap.{Owner, Of, Objects, Fragments}
use Rattle.sg_graph.specs.Book.{Book, Section, Old, block_at, slot_at, slot_words, IsOpenSlot, IsApart}
use Rattle.sg_graph.specs.Epoch.{Said, Turn, IsNewOld, AsksSlot, IsEpoch}
use Rattle.sg_graph.specs.Turns.{Position, Board, SearchesFrom}
use Rattle.sg_graph.specs.Pause.{IsTarget, IsReached, IsPause, IsPointedInto, IsRoot}
use Rattle.sg_graph.specs.Minor.{IsMinorPause}
use Rattle.sg_graph.specs.declared.reports.MajorReport.{MajorReport}
use Rattle.sg_graph.specs.Major.{IsMajorRoot, IsMajorPause}
use Rattle.sg_graph.specs.Invariants.{IsPlain}
use Rattle.sg_graph.specs.Stop.{Asked, InFragments, LacksOne, IsStop}
use Rattle.sg_graph.specs.Run.{Phase, Epoch, Goes, IsRun, IsWholeRun}
use Rattle.sg_graph.specs.Follows.{FollowsTo, IsRunBy, IsWholeRunBy}
use Rattle.sg_words.specs.Schedule.{Schedule}

-- a run ends behind the epoch that is told to be the last one
pub record EndsBehindLast : Type 0 where
  pub none : (p : Program) (phases more : List Phase) (report : EpochReport) (order : List Said) (swept : List ℕ) →
      IsRun p (phases ++ Epoch report order swept ∷ more) → report.last ≡ true → more ≡ []

-- how the mutators of an epoch left, in order
abbrev pub leaves_of : EpochReport → List Leave
leaves_of report = map (λ (part : Part). part.leave) report.parts

-- an object behind the first `count` names that is an old one by both books has the same address in them
abbrev pub AgreeOnNew : ℕ → Book → Book → Type 0
AgreeOnNew count c d = (name : ℕ) → IsNewOld count c name → IsNewOld count d name → c.address name ≡ d.address name

-- One order of whole statements, from one graph and one book on, leads to one graph; with the same places for the new objects of the major heap
-- and the same blocks swept it leads to one book; and then it has one report, where the mutators leave in one way.
pub record HasOneReport : Type 0 where
  pub graph : (p : Program) (e : ℕ) (g : Graph) (b : Book) (order : List Said) (swept swept' : List ℕ) (r s : EpochReport)
      (h i : Graph) (c d : Book) → IsEpoch p e g b order swept r h c → IsEpoch p e g b order swept' s i d → h ≡ i
  pub book : (p : Program) (e : ℕ) (g : Graph) (b : Book) (order : List Said) (swept : List ℕ) (r s : EpochReport)
      (h i : Graph) (c d : Book) → IsEpoch p e g b order swept r h c → IsEpoch p e g b order swept s i d → AgreeOnNew g.count c d → c ≡ d
  pub report : (p : Program) (e : ℕ) (g : Graph) (b : Book) (order : List Said) (swept swept' : List ℕ) (r s : EpochReport) (h i : Graph) (c d : Book) →
      IsEpoch p e g b order swept r h c → IsEpoch p e g b order swept' s i d → AgreeOnNew g.count c d → leaves_of r ≡ leaves_of s → r ≡ s

-- what an ambiguous word points into stands after a minor pause, where it stood
pub record KeepsPointedInto : Type 0 where
  pub stands : (p : Program) (g : Graph) (b : Book) (ambiguous : List ℕ) (report : MinorReport) (h : Graph) (c : Book) →
      IsApart p g b → IsMinorPause p g b ambiguous report h c →
      (n : ℕ) → n ≢ 0 → b.stands n ≡ true → IsPointedInto g b ambiguous n → c.stands n ≡ true
  pub stays : (p : Program) (g : Graph) (b : Book) (ambiguous : List ℕ) (report : MinorReport) (h : Graph) (c : Book) →
      IsApart p g b → IsMinorPause p g b ambiguous report h c →
      (n : ℕ) → n ≢ 0 → b.stands n ≡ true → IsPointedInto g b ambiguous n → c.address n ≡ b.address n

-- what an ambiguous word points into stands after a major pause, which moves nothing
abbrev pub KeepsInMajor : Type 0
KeepsInMajor =
    (p : Program) (g : Graph) (b : Book) (ambiguous : List ℕ) (report : MajorReport) (h : Graph) (c : Book) → IsMajorPause p g b ambiguous report h c →
    (n : ℕ) → n ≢ 0 → b.stands n ≡ true → IsPointedInto g b ambiguous n → c.stands n ≡ true

-- `full` is told only behind a major pause
abbrev pub FullIsLast : Type 0
FullIsLast =
    (p : Program) (e : ℕ) (g : Graph) (b : Book) (requests : List Asked) (report : StopReport) (h : Graph) (c : Book) → IsStop p e g b requests report h c →
    (service : Service) → Contains report.served service → service.answer ≡ Full → (major : MajorReport) × (report.major ≡ Some major)

-- giving each of these numbers of words in turn at the front of the lowest fragment that has them, one finds no room
pub data LacksWords (fragments : ℕ) (limit : ℕ → ℕ) : (ℕ → ℕ) → List ℕ → Type 0 where
  NoRoom : (next : ℕ → ℕ) (n : ℕ) (more : List ℕ) → ((f : ℕ) → f < fragments → limit f < next f + n) → LacksWords fragments limit next (n ∷ more)
  RoomBefore : (next : ℕ → ℕ) (n : ℕ) (more : List ℕ) (f : ℕ) → f < fragments → next f + n ≤ limit f → ((j : ℕ) → j < f → limit j < next j + n) →
      LacksWords fragments limit (put next f (next f + n)) more → LacksWords fragments limit next (n ∷ more)

-- the words for which a request asks, before these
abbrev pub needed_by : Request → List ℕ → List ℕ
needed_by (Need words) more = words ∷ more
needed_by request more = more

-- No request is one for a slot: then a place is a fragment's.
abbrev pub AsksNoSlot : List Asked → Type 0
AsksNoSlot requests = (asked : Asked) (size : ℕ) → Contains requests asked → asked.request ≢ Slot size

-- the words for which requests ask, in order
abbrev pub needs_of : List Asked → List ℕ
needs_of [] = []
needs_of (asked ∷ more) = needed_by asked.request (needs_of more)

-- the mutator asks for this at its next statement, which makes a small object where it makes one
pub record IsAsking (p : Program) (g : Graph) (asked : Asked) : Type 0 where
  pub statement : Statement
  pub rest : List Statement
  pub next : (g.mutator asked.by).script ≡ statement ∷ rest
  pub asks : IsRequestOf p statement asked.request
  pub small : IsSmall (made_words p statement)

-- each of these mutators asks, and each once
pub record AreAsking (p : Program) (g : Graph) (requests : List Asked) : Type 0 where
  pub each : AllByRecursion (IsAsking p g) requests
  pub once : AreDistinct (map (λ (asked : Asked). asked.by) requests)

-- Where no slot is asked for, placing the requests by fragments alone leaves one without a place exactly where giving the words for which they ask
-- finds no room.
abbrev pub PlacesByWords : Type 0
PlacesByWords =
    (p : Program) (g : Graph) (b : Book) (requests : List Asked) → AreAsking p g requests → AsksNoSlot requests →
    LacksOne p InFragments g b requests ↔ LacksWords b.fragments b.limit b.next (needs_of requests)

-- slot i of z words is the lowest clear one of a block with this word and this occupancy, which is free or has such slots
pub record IsClearAt (state : BlockWord) (used z i : ℕ) : Type 0 where
  pub sized : (state ≡ Free) ⊎ (state ≡ Swept z)
  pub fits : i < slots z
  pub clear : bit_at used i ≡ 0
  pub lowest : (j : ℕ) → j < i → bit_at used j ≡ 1

-- and no slot of z words is
abbrev pub HasNoClear : BlockWord → ℕ → ℕ → Type 0
HasNoClear state used z = (i : ℕ) → ¬ IsClearAt state used z i

-- giving each of these sizes in turn the lowest clear slot of the first block that has one, one finds no slot
pub data LacksSlots (blocks : ℕ) : (ℕ → BlockWord) → (ℕ → ℕ) → List ℕ → Type 0 where
  NoSlot : (state : ℕ → BlockWord) (used : ℕ → ℕ) (z : ℕ) (more : List ℕ) → ((c : ℕ) → c < blocks → HasNoClear (state c) (used c) z) →
      LacksSlots blocks state used (z ∷ more)
  SlotBefore : (state : ℕ → BlockWord) (used : ℕ → ℕ) (z : ℕ) (more : List ℕ) (c i : ℕ) → c < blocks → IsClearAt (state c) (used c) z i →
      ((d : ℕ) → d < c → HasNoClear (state d) (used d) z) →
      LacksSlots blocks (put state c (Swept z)) (put used c (bit_or (used c) (2 ^ i))) more → LacksSlots blocks state used (z ∷ more)

-- the size of the slot for which a request asks, before these
abbrev pub sized_by : Request → List ℕ → List ℕ
sized_by (Slot size) more = size ∷ more
sized_by request more = more

-- the sizes of the slots for which requests ask, in order
abbrev pub sizes_of : List Asked → List ℕ
sizes_of [] = []
sizes_of (asked ∷ more) = sized_by asked.request (sizes_of more)

-- no block is to be swept or being swept
abbrev pub AreUnowed : Program → (ℕ → BlockWord) → Type 0
AreUnowed p state = (c s : ℕ) → c < p.config.blocks → IsOwing (state c) s → ⊥

-- Where no block is owed, placing the requests by fragments alone leaves one without a place exactly where giving the words for which they ask finds
-- no room, or giving the slots finds none.
abbrev pub PlacesByRoom : Type 0
PlacesByRoom =
    (p : Program) (g : Graph) (b : Book) (marks used word : ℕ → ℕ) (state : ℕ → BlockWord) (owner : ℕ → Owner) (requests : List Asked) →
    AreAsking p g requests → Objects p g.count g.class g.size b.stands b.address b.section owner → Fragments p b.fragments b.next b.limit owner →
    AreBlocks p marks state used word g.size b.stands b.address b.section b.owed owner → AreInhabited p state b.stands b.address → AreUnowed p state →
    LacksOne p InFragments g b requests ↔
    (LacksWords b.fragments b.limit b.next (needs_of requests) ⊎ LacksSlots p.config.blocks state used (sizes_of requests))

-- the roots of a minor pause reach only objects of the graph
abbrev pub ReachesObjects : Program → Graph → Book → List ℕ → Type 0
ReachesObjects p g b ambiguous = (n : ℕ) → Reached (IsTarget p g) (IsRoot p g b ambiguous) n → (1 ≤ n) × (n ≤ g.count)

-- In a graph without pairs, weak links and registrations each field of an object that holds a reference is strong, what the
-- roots reach in as many rounds as there are objects is all that they ever reach, and a pause that keeps exactly this
-- changes nothing of the graph.
pub record QuietPause : Type 0 where
  pub none_ready : (p : Program) (g : Graph) → IsPlain p g → (n : ℕ) → Contains g.ready n → ⊥
  pub strong : (p : Program) (g : Graph) → IsPlain p g → (n i : ℕ) → 1 ≤ n → n ≤ g.count →
      is_strong (kind_of p (g.class n)) i (g.size n) ≡ holds_reference (kind_of p (g.class n)) i (g.size n)
  pub reaches : (p : Program) (g : Graph) (b : Book) (ambiguous : List ℕ) → IsPlain p g → ReachesObjects p g b ambiguous →
      (n : ℕ) → IsReached p g (IsRoot p g b ambiguous) n ↔ Reached (IsTarget p g) (IsRoot p g b ambiguous) n
  pub pause : (p : Program) (g : Graph) (b : Book) (ambiguous : List ℕ) → IsPlain p g → (kept : ℕ → Bool) →
      ((n : ℕ) → kept n ≡ true → (1 ≤ n) × (n ≤ g.count)) →
      ((n : ℕ) → n ≢ 0 → kept n ≡ true ↔ IsReached p g (IsRoot p g b ambiguous) n) → IsPause p g (IsRoot p g b ambiguous) g kept
  -- the same for a major pause
  pub reaches_major : (p : Program) (g : Graph) (b : Book) (ambiguous : List ℕ) → IsPlain p g →
      ((n : ℕ) → Reached (IsTarget p g) (IsMajorRoot p g b ambiguous) n → (1 ≤ n) × (n ≤ g.count)) →
      (n : ℕ) → IsReached p g (IsMajorRoot p g b ambiguous) n ↔ Reached (IsTarget p g) (IsMajorRoot p g b ambiguous) n
  pub pause_major : (p : Program) (g : Graph) (b : Book) (ambiguous : List ℕ) → IsPlain p g → (kept : ℕ → Bool) →
      ((n : ℕ) → kept n ≡ true → (1 ≤ n) × (n ≤ g.count)) →
      ((n : ℕ) → n ≢ 0 → kept n ≡ true ↔ IsReached p g (IsMajorRoot p g b ambiguous) n) → IsPause p g (IsMajorRoot p g b ambiguous) g kept

-- A mutator's next statement has one answer, and so leads to one graph; with the same place for a new object of the major heap, to one book.
abbrev pub HasOneTurn : Type 0
HasOneTurn = (p : Program) (g : Graph) (b : Book) (said said' : Said) (h h' : Graph) (c c' : Book) → Turn p g b said h c → Turn p g b said' h' c' →
    said.by ≡ said'.by → AgreeOnNew g.count c c' → (said ≡ said') × (h ≡ h') × (c ≡ c')

-- from g and b to h and c the graph only grows, and the objects that there were stand as they stood
pub record KeepsOld (g h : Graph) (b c : Book) : Type 0 where
  pub counts : g.count ≤ h.count
  pub stands : (name : ℕ) → name ≤ g.count → c.stands name ≡ b.stands name
  pub section : (name : ℕ) → name ≤ g.count → c.section name ≡ b.section name
  pub address : (name : ℕ) → name ≤ g.count → c.address name ≡ b.address name

-- a whole statement lets the objects that there were stand as they stood
abbrev pub TurnsKeepOld : Type 0
TurnsKeepOld = (p : Program) (g : Graph) (b : Book) (said : Said) (h : Graph) (c : Book) → Turn p g b said h c → KeepsOld g h b c

-- a search for a slot of a size class stops in one way
abbrev pub HasOneSearch : Type 0
HasOneSearch = (p : Program) (x : Board) (z j : ℕ) (found found' : Option Position) → IsSizeClass z → SearchesFrom p x z j found →
    SearchesFrom p x z j found' → found ≡ found'

-- By the book c block j isn't owed any more, and it has no open slot of z words where it wasn't owed by the book b either.
pub record HasNoOpen (p : Program) (b : Book) (h : Graph) (c : Book) (j z : ℕ) : Type 0 where
  pub swept : c.owed j ≡ false
  pub none : b.owed j ≡ false → (i : ℕ) → ¬ IsOpenSlot p h c j z i

-- Where a mutator asks for a slot as an epoch ends, no block has been left out: none is owed, and none that wasn't owed as the epoch began has an
-- open slot. And so it is with the blocks below a new object of the major heap.
pub record SearchesAll : Type 0 where
  pub asked : (p : Program) (e : ℕ) (g : Graph) (b : Book) (order : List Said) (swept : List ℕ) (r : EpochReport) (h : Graph) (c : Book) →
      IsEpoch p e g b order swept r h c → (z j : ℕ) → IsSizeClass z → AsksSlot r.parts z → j < p.config.blocks → HasNoOpen p b h c j z
  pub below : (p : Program) (e : ℕ) (g : Graph) (b : Book) (order : List Said) (swept : List ℕ) (r : EpochReport) (h : Graph) (c : Book) →
      IsEpoch p e g b order swept r h c → (n j : ℕ) → IsNewOld g.count c n → block_at p j + 256 ≤ c.address n → HasNoOpen p b h c j (slot_words (h.size n))

-- As an epoch ends, exactly the blocks are owed that were as it began and that no mutator swept; and no more blocks were swept than there are.
pub record SweepsOnce : Type 0 where
  pub owed : (p : Program) (e : ℕ) (g : Graph) (b : Book) (order : List Said) (swept : List ℕ) (r : EpochReport) (h : Graph) (c : Book) →
      IsEpoch p e g b order swept r h c → (j : ℕ) → c.owed j ≡ true ↔ ((b.owed j ≡ true) × (¬ Contains swept j))
  pub few : (p : Program) (e : ℕ) (g : Graph) (b : Book) (order : List Said) (swept : List ℕ) (r : EpochReport) (h : Graph) (c : Book) →
      IsEpoch p e g b order swept r h c → length swept ≤ p.config.blocks

-- a run that follows a list of turns is a run
pub record RunsByTurns : Type 0 where
  pub goes : (p : Program) (turns : List ℕ) (n : ℕ) (phases : List Phase) (g : Graph) (b : Book) (s : Schedule) → FollowsTo p turns n phases g b s → Goes p n phases g b
  pub run : (p : Program) (turns : List ℕ) (phases : List Phase) → IsRunBy p turns phases → IsRun p phases
  pub whole : (p : Program) (turns : List ℕ) (phases : List Phase) → IsWholeRunBy p turns phases → IsWholeRun p phases

-- the object n stands in two books alike, and has one size by both graphs
pub record StandsAlike (size size' : ℕ → ℕ) (stands stands' : ℕ → Bool) (address address' : ℕ → ℕ) (section section' : ℕ → Section) (n : ℕ) : Type 0 where
  pub same_size : size' n ≡ size n
  pub same_stands : stands' n ≡ stands n
  pub same_address : address' n ≡ address n
  pub same_section : section' n ≡ section n

-- The object n, which was no old one that stood, stands in a slot of z words at x; each other object that is old before or after stands as
-- it stood.
pub record IsOldNow (size size' : ℕ → ℕ) (stands stands' : ℕ → Bool) (address address' : ℕ → ℕ) (section section' : ℕ → Section) (n x z : ℕ) : Type 0 where
  pub here : IsOldAt size' stands' address' section' n x z
  pub new : stands n ≡ true → section n ≡ Old → ⊥
  pub others : (m : ℕ) → m ≢ n → (section m ≡ Old) ⊎ (section' m ≡ Old) → StandsAlike size size' stands stands' address address' section section' m

-- each word of a block that is no object's was none's, and is as it was
abbrev pub KeepsRest : Program → (ℕ → ℕ) → (ℕ → ℕ) → (ℕ → Owner) → (ℕ → Owner) → Type 0
KeepsRest p word word' owner owner' = (c x : ℕ) → c < p.config.blocks → block_at p c ≤ x → x < block_at p c + 256 → ((n : ℕ) → owner' x ≢ Of n) →
    (word' x ≡ word x) × ((n : ℕ) → owner x ≢ Of n)

-- A slot of a swept block whose bit is clear gets an object, and its bit is set: the blocks are as their words say.
abbrev pub SlotGets : Type 0
SlotGets =
    (p : Program) (marks used word word' size size' address address' : ℕ → ℕ) (state : ℕ → BlockWord) (stands stands' owed : ℕ → Bool)
    (section section' : ℕ → Section) (owner owner' : ℕ → Owner) (n j z i : ℕ) → AreBlocks p marks state used word size stands address section owed owner →
    j < p.config.blocks → state j ≡ Swept z → i < slots z → bit_at (used j) i ≡ 0 →
    IsOldNow size size' stands stands' address address' section section' n (slot_at p j z i) z → KeepsRest p word word' owner owner' →
    AreBlocks p marks state (put used j (bit_or (used j) (2 ^ i))) word' size' stands' address' section' owed owner'

-- A free block becomes a swept one of some size, without an object as yet.
abbrev pub BlockOpens : Type 0
BlockOpens =
    (p : Program) (marks used word size address : ℕ → ℕ) (state : ℕ → BlockWord) (stands owed : ℕ → Bool) (section : ℕ → Section) (owner : ℕ → Owner)
    (j z : ℕ) → AreBlocks p marks state used word size stands address section owed owner → state j ≡ Free → IsSizeClass z →
    AreBlocks p marks (put state j (Swept z)) used word size stands address section owed owner

-- how the blocks change as objects come into the major heap
pub record BlocksGo : Type 0 where
  pub slot_gets : SlotGets
  pub block_opens : BlockOpens

-- Where all blocks that were to be swept were swept, the blocks are as their words say and none is owed; none is being swept, and an object still
-- stands in each swept one.
pub record BlocksAreSwept : Type 0 where
  pub blocks : (p : Program) (marks used used' word word' size address : ℕ → ℕ) (state state' : ℕ → BlockWord) (stands owed : ℕ → Bool)
      (section : ℕ → Section) (owner : ℕ → Owner) → AreBlocks p marks state used word size stands address section owed owner → AreAtRest p state →
      AreSwept p marks used used' word word' state state' → AreBlocks p marks state' used' word' size stands address section (λ _. false) owner
  pub settled : (p : Program) (marks used used' word word' : ℕ → ℕ) (state state' : ℕ → BlockWord) → AreAtRest p state →
      AreSwept p marks used used' word word' state state' → AreAtRest p state'
  pub inhabited : (p : Program) (marks used used' word word' size address : ℕ → ℕ) (state state' : ℕ → BlockWord) (stands owed : ℕ → Bool)
      (section : ℕ → Section) (owner : ℕ → Owner) → AreBlocks p marks state used word size stands address section owed owner → AreAtRest p state →
      AreSwept p marks used used' word word' state state' → AreInhabited p state stands address → AreInhabited p state' stands address
