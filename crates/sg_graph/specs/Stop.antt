-- A stop, in five steps: the sweep of what is owed; a minor pause; a major pause; another sweep; and the answers to the requests of the epoch
-- before it.
use Rattle.std.specs.Prelude.{◌≡◌, ◌≢◌, ℕ, ◌+◌, ◌<◌, ◌||◌, ◌⊎◌, Bool, true, false, Option, Some, None, List, [], ◌∷◌, length, IsTrue}
use Rattle.std.specs.List.{flat_map}
use Rattle.sg_words.specs.Words.{put}
use Rattle.sg_program.specs.declared.program.Statement.{Statement}
use Rattle.sg_program.specs.declared.program.Statement.TheVariants.{New, NewV, Mature, Collect, Sections as AsksSections}
use Rattle.sg_program.specs.declared.program.Program.{Program}
use Rattle.sg_program.specs.declared.answers.Answer.{Answer}
use Rattle.sg_program.specs.declared.answers.Answer.TheVariants.{At, Fine, Full}
use Rattle.sg_program.specs.declared.answers.Request.{Request}
use Rattle.sg_program.specs.declared.answers.Request.TheVariants.{Need, Slot, Minor, Major, Sections as AllSections}
use Rattle.sg_program.specs.declared.answers.Leave.{Leave}
use Rattle.sg_program.specs.declared.answers.Leave.TheVariants.{Ended, Yield, Wants}
use Rattle.sg_graph.specs.declared.reports.Part.{Part}
use Rattle.sg_graph.specs.declared.reports.MinorReport.{MinorReport}
use Rattle.sg_graph.specs.declared.reports.MajorReport.{MajorReport}
use Rattle.sg_graph.specs.declared.reports.Sections.{Sections}
use Rattle.sg_graph.specs.declared.reports.Service.{Service}
use Rattle.sg_graph.specs.declared.reports.StopReport.{StopReport}
use Rattle.sg_program.specs.Scripts.{words_for, fields_of, IsSmall}
use Rattle.sg_graph.specs.Graph.{Graph}
use Rattle.sg_graph.specs.Statements.{Does}
use Rattle.sg_graph.specs.Book.{Book, Old, placed, placed_in, swept_out, HasRoom, LacksRoom, slot_words, slot_at, IsShut, IsFirstSlot, IsSoundBook}
use Rattle.sg_graph.specs.Epoch.{by_address}
use Rattle.sg_graph.specs.Pause.{ambiguous_words}
use Rattle.sg_graph.specs.Minor.{IsMinorPause}
use Rattle.sg_graph.specs.Major.{IsMajorPause}
use Rattle.sg_graph.specs.Sections.{TellsSections}

-- mutator `by` asks for this at its statement with this number
pub record Asked : Type 0 where
  pub by : ℕ
  pub statement : ℕ
  pub request : Request

-- what a part of an epoch's report asks for: at the statement behind its last answered one
abbrev pub asked_by : Part → Leave → List Asked
asked_by part Ended = []
asked_by part Yield = []
asked_by part (Wants request) = record { by = part.mutator; statement = part.first + length part.answers; request = request } ∷ []

-- the requests of an epoch, in order of mutators
abbrev pub requests_in : List Part → List Asked
requests_in parts = flat_map (λ (part : Part). asked_by part part.leave) parts

-- which request wants a minor pause, whatever has room
abbrev pub wants_minor : Request → Bool
wants_minor (Need words) = true
wants_minor Minor = true
wants_minor Major = true
wants_minor request = false

-- which wants a major one
abbrev pub wants_major : Request → Bool
wants_major Major = true
wants_major request = false

-- which wants that no block is owed
abbrev pub wants_blocks : Request → Bool
wants_blocks (Slot size) = true
wants_blocks AllSections = true
wants_blocks request = false

-- whether some request does
abbrev pub some_wants : (Request → Bool) → List Asked → Bool
some_wants wants [] = false
some_wants wants (asked ∷ more) = wants asked.request || some_wants wants more

-- the new object of n words stands at the front of fragment f, the lowest one with n words left
pub record Takes (b : Book) (n name f : ℕ) (c : Book) : Type 0 where
  pub there : f < b.fragments
  pub room : HasRoom b n f
  pub lowest : (j : ℕ) → j < f → LacksRoom b n j
  pub after : c ≡ record (placed b name (b.next f)) { next = put b.next f (b.next f + n) }

-- no fragment has n words left
pub record HasNoFragment (b : Book) (n : ℕ) : Type 0 where
  pub none : (f : ℕ) → f < b.fragments → LacksRoom b n f

-- the new object with so many fields stands in slot i of block j, the lowest one without a standing object of the first block that has one
pub record TakesSlot (p : Program) (g : Graph) (b : Book) (fields name j i : ℕ) (c : Book) : Type 0 where
  pub first : IsFirstSlot p g b j (slot_words fields) i
  pub after : c ≡ placed_in b Old name (slot_at p j (slot_words fields) i)

-- no block has a slot for an object with so many fields
pub record HasNoSlot (p : Program) (g : Graph) (b : Book) (fields : ℕ) : Type 0 where
  pub none : (j : ℕ) → j < p.config.blocks → IsShut p g b j (slot_words fields)

-- Where an object of the nursery may be placed at a stop: in a fragment alone, or, behind a major pause, in a slot too where no fragment has
-- room.
pub data Placing : Type 0 where
  InFragments : Placing
  InSlotsToo : Placing

-- behind which pauses what is allowed
abbrev pub placing_behind : Option MajorReport → Placing
placing_behind None = InFragments
placing_behind (Some report) = InSlotsToo

-- where a new object of the nursery with so many fields is placed
abbrev pub PlacesNew : Program → Placing → Graph → Book → ℕ → ℕ → Book → Type 0
PlacesNew p InFragments g b fields name c = (f : ℕ) × Takes b (words_for fields) name f c
PlacesNew p InSlotsToo g b fields name c =
    ((f : ℕ) × Takes b (words_for fields) name f c) ⊎ (HasNoFragment b (words_for fields) × ((j i : ℕ) × TakesSlot p g b fields name j i c))

-- and when it has no place
abbrev pub LacksPlace : Program → Placing → Graph → Book → ℕ → Type 0
LacksPlace p InFragments g b fields = HasNoFragment b (words_for fields)
LacksPlace p InSlotsToo g b fields = HasNoFragment b (words_for fields) × HasNoSlot p g b fields

-- a new object of the nursery with so many fields, which is small, gets this answer
abbrev pub PlacesYoung : Program → Placing → Graph → Book → ℕ → Answer → Book → Type 0
PlacesYoung p how g b fields (At name) c = IsSmall (words_for fields) × PlacesNew p how g b fields name c
PlacesYoung p how g b fields Full c = IsSmall (words_for fields) × LacksPlace p how g b fields × (c ≡ b)
PlacesYoung p how g b fields answer c = ⊥

-- and one of the major heap
abbrev pub PlacesOld : Program → Graph → Book → ℕ → Answer → Book → Type 0
PlacesOld p g b fields (At name) c = (j i : ℕ) × TakesSlot p g b fields name j i c
PlacesOld p g b fields Full c = HasNoSlot p g b fields × (c ≡ b)
PlacesOld p g b fields answer c = ⊥

-- where the object of a statement that is answered with this at a stop stands; no other statement changes the book
abbrev pub Places : Program → Placing → Graph → Book → Statement → Answer → Book → Type 0
Places p how g b (New r class) answer c = PlacesYoung p how g b (fields_of p class) answer c
Places p how g b (NewV r class count) answer c = PlacesYoung p how g b count answer c
Places p how g b (Mature r class) answer c = PlacesOld p g b (fields_of p class) answer c
Places p how g b (Collect major) Fine c = c ≡ b
Places p how g b AsksSections Fine c = c ≡ b
Places p how g b statement answer c = ⊥

-- what is told of the sections, to who asks for it
abbrev pub Shows : Program → Graph → Book → Statement → Option Sections → Type 0
Shows p g b AsksSections (Some told) = TellsSections p g b told
Shows p g b AsksSections None = ⊥
Shows p g b statement told = told ≡ None

-- the statement that asked is answered, and its mutator goes on behind it
pub record IsServed (p : Program) (how : Placing) (g : Graph) (b : Book) (asked : Asked) (service : Service) (h : Graph) (c : Book) : Type 0 where
  pub mutator : service.mutator ≡ asked.by
  pub number : service.statement ≡ asked.statement
  pub statement : Statement
  pub rest : List Statement
  pub next : (g.mutator asked.by).script ≡ statement ∷ rest
  pub answer : Answer
  pub does : Does p g asked.by (g.mutator asked.by) statement rest answer h
  pub places : Places p how g b statement answer c
  pub shows : Shows p g b statement service.sections
  pub told : service.answer ≡ by_address c answer

-- the requests are answered in order, each by a service, and so lead from g and b to h and c
abbrev pub Serves : Program → Placing → Graph → Book → List Asked → List Service → Graph → Book → Type 0
Serves p how g b [] [] h c = (h ≡ g) × (c ≡ b)
Serves p how g b (asked ∷ more) (service ∷ services) h c =
    (h1 : Graph) × (c1 : Book) × IsServed p how g b asked service h1 c1 × Serves p how h1 c1 more services h c
Serves p how g b requests services h c = ⊥

-- the statement that asked gets this answer, whatever is told of it
pub record IsAnswered (p : Program) (how : Placing) (g : Graph) (b : Book) (asked : Asked) (answer : Answer) (h : Graph) (c : Book) : Type 0 where
  pub statement : Statement
  pub rest : List Statement
  pub next : (g.mutator asked.by).script ≡ statement ∷ rest
  pub does : Does p g asked.by (g.mutator asked.by) statement rest answer h
  pub places : Places p how g b statement answer c

-- placing the requests in order, each taking its place before the next, leaves one without a place
pub data LacksOne (p : Program) (how : Placing) : Graph → Book → List Asked → Type 0 where
  ThisOne : (g : Graph) (b : Book) (asked : Asked) (more : List Asked) (h : Graph) (c : Book) → IsAnswered p how g b asked Full h c →
      LacksOne p how g b (asked ∷ more)
  OneBehind : (g : Graph) (b : Book) (asked : Asked) (more : List Asked) (answer : Answer) (h : Graph) (c : Book) → IsAnswered p how g b asked answer h c →
      LacksOne p how h c more → LacksOne p how g b (asked ∷ more)

-- A minor pause is made exactly where some request wants one, or placing the requests leaves one without a place.
abbrev pub WantsMinor : Program → Graph → Book → List Asked → Type 0
WantsMinor p g b requests = IsTrue (some_wants wants_minor requests) ⊎ LacksOne p InFragments g b requests

abbrev pub MakesMinor : Program → Graph → Book → List ℕ → List Asked → Option MinorReport → Graph → Book → Type 0
MakesMinor p g b words requests (Some report) h c = WantsMinor p g b requests × IsMinorPause p g b words report h c
MakesMinor p g b words requests None h c = (¬ WantsMinor p g b requests) × (h ≡ g) × (c ≡ b)

-- Behind it a major pause is made exactly where some request wants one, an object failed, or placing the requests leaves one without a place.
abbrev pub WantsMajor : Program → Graph → Book → List Asked → MinorReport → Type 0
WantsMajor p g b requests minor = IsTrue (some_wants wants_major requests) ⊎ ((minor.fails ≢ []) ⊎ LacksOne p InFragments g b requests)

abbrev pub MakesMajor : Program → Graph → Book → List ℕ → List Asked → Option MinorReport → Option MajorReport → Graph → Book → Type 0
MakesMajor p g b words requests (Some minor) (Some report) h c = WantsMajor p g b requests minor × IsMajorPause p g b words report h c
MakesMajor p g b words requests (Some minor) None h c = (¬ WantsMajor p g b requests minor) × (h ≡ g) × (c ≡ b)
MakesMajor p g b words requests None (Some report) h c = ⊥
MakesMajor p g b words requests None None h c = (h ≡ g) × (c ≡ b)

-- The owed sweep is finished again behind a major pause exactly where a request wants a slot or is about the sections, or where fragments alone
-- leave one without a place.
abbrev pub WantsBlocks : Program → Graph → Book → List Asked → Type 0
WantsBlocks p g b requests = IsTrue (some_wants wants_blocks requests) ⊎ LacksOne p InFragments g b requests

abbrev pub MakesRoom : Program → Graph → Book → List Asked → Option MajorReport → Book → Type 0
MakesRoom p g b requests None c = c ≡ b
MakesRoom p g b requests (Some report) c =
    (WantsBlocks p g b requests × (c ≡ swept_out b)) ⊎ ((¬ WantsBlocks p g b requests) × (c ≡ b))

-- The stop behind epoch e leads from g and b to h and c, and this is its report. The ambiguous words of both pauses are those as the stop
-- begins: what they point into stays where it is.
pub record IsStop (p : Program) (e : ℕ) (g : Graph) (b : Book) (requests : List Asked) (report : StopReport) (h : Graph) (c : Book) : Type 0 where
  pub number : report.number ≡ e
  pub minor_graph : Graph
  pub minor_book : Book
  pub minor : MakesMinor p g (swept_out b) (ambiguous_words p g b) requests report.minor minor_graph minor_book
  pub major_graph : Graph
  pub major_book : Book
  pub major : MakesMajor p minor_graph minor_book (ambiguous_words p g b) requests report.minor report.major major_graph major_book
  pub book : Book
  pub room : MakesRoom p major_graph major_book requests report.major book
  pub serves : Serves p (placing_behind report.major) major_graph book requests report.served h c
  pub sound : IsSoundBook p h c
