-- What a contract sees of a worker.
use Rattle.std.specs.Prelude.{◌≡◌, ℕ, ◌+◌, ◌-◌, ◌^◌, ◌<◌, ◌≤◌, nat_le, nat_lt, if◌then◌else◌, List, [], length, replicate, map, slice_index, slice_get}
use Rattle.sg_words.specs.Address.{byte_at, word_at}
use Rattle.sg_words.specs.Objects.{strong_slots}
use Rattle.sg_words.specs.Sections.{IsLayout}
use Rattle.sg_space.specs.Space.{Contents}
use Rattle.sg_words.specs.declared.layout.Layout.{Layout}
use Rattle.sg_words.specs.declared.pieces.Move.{Move}
use Rattle.sg_desc.specs.declared.shapes.Shape.{Shape}
use Rattle.sg_desc.specs.declared.shapes.Descriptor.{Descriptor}
use Rattle.sg_desc.specs.declared.shapes.Descriptor.TheVariants.{PtrFree}
use Rattle.sg_desc.specs.Shapes.{is_strong}
use Rattle.sg_round.specs.Area.{Area, class_of}
use Rattle.sg_round.specs.Worker.{Object, Take, Mark, Swap, Pin, Dirty, Mid, Idle, On, Grab, Over, Worker}
use Rattle.sg_copy.specs.Copying.{is_strong_in, area_by}
use Rattle.sg_copy.specs.Telling.{Seat, Teller}
use Rattle.sg_copy.specs.declared.gray.Gray.{Gray}
use Rattle.sg_copy.specs.Grays.{item_of}
use Rattle.sg_copy.specs.declared.copier.Job.{Job}
use Rattle.sg_copy.specs.declared.copier.Hand.{Hand}
use Rattle.sg_copy.specs.declared.copier.Stage.{Stage}
use Rattle.sg_copy.specs.declared.copier.Stage.TheVariants.{Between, Taking, Claiming, Forwarding, Pinning, Grabbing, Ended}

-- Its place in the team; the layout and the shapes of the space; how many items it was given at most; its items to come; the object in
-- hand; by slot size the places to spare and the blocks that can't take it; where it stands; and what it has moved and failed.
pub record Copying : Type 0 where
  pub layout : Layout
  pub shapes : List Shape
  pub number : ℕ
  pub team : ℕ
  pub most : ℕ
  pub queue : List Gray
  pub hand : Hand
  pub spares : List ℕ
  pub passed : List ℕ
  pub stage : Stage
  pub moves : List Move
  pub fails : List ℕ

-- the slots to come of an object in hand
abbrev pub slots_in_hand : Hand → List ℕ
slots_in_hand hand = strong_slots (λ i. is_strong hand.kind i hand.fields) hand.at hand.from (hand.fields - hand.from)

abbrev pub object_of : Job → Object
object_of job = record { x = job.from; class = job.class; n = job.fields }

abbrev pub mid_of : Stage → Mid
mid_of Between = Idle
mid_of (Taking job block) = On (job.slot) (Take (object_of job) block)
mid_of (Claiming job block slot) = On (job.slot) (Mark (object_of job) block slot)
mid_of (Forwarding job to) = On (job.slot) (Swap (object_of job) to)
mid_of (Pinning job) = On (job.slot) (Pin (object_of job))
mid_of (Grabbing cell item) = Grab cell (item_of item)
mid_of Ended = Over

-- the worker as the rules see it
abbrev pub worker_of : Copying → Worker
worker_of c = record {
  list = map item_of c.queue;
  hand = slots_in_hand c.hand;
  spare = λ z. slice_index c.spares z;
  passed = λ z. slice_index c.passed z;
  mid = mid_of c.stage;
}

abbrev pub teller_of : Copying → Teller
teller_of c = record { worker = worker_of c; moves = map (λ (m : Move). word_at m.from) c.moves; fails = map word_at c.fails }

abbrev pub seat_of : Copying → Seat
seat_of c = record { area = area_by c.layout c.shapes; team = c.team; most = c.most; number = c.number }

-- it is the same worker
pub record IsSameCopier (c d : Copying) : Type 0 where
  pub layout : d.layout ≡ c.layout
  pub shapes : d.shapes ≡ c.shapes
  pub number : d.number ≡ c.number
  pub team : d.team ≡ c.team
  pub most : d.most ≡ c.most

-- and the same object is in its hand
pub record IsSameHanded (c d : Copying) : Type 0 where
  pub copier : IsSameCopier c d
  pub hand : d.hand ≡ c.hand

-- a worker of this number and team over this space, with these items, before its first turn
abbrev pub fresh_copying : Contents → ℕ → ℕ → List Gray → Copying
fresh_copying s number team items = record {
  layout = s.layout;
  shapes = s.shapes;
  number = number;
  team = team;
  most = length items;
  queue = items;
  hand = record { at = 0; kind = PtrFree; from = 0; fields = 0 };
  spares = replicate 65 0;
  passed = replicate 65 0;
  stage = Between;
  moves = [];
  fails = [];
}

-- What is true of every worker: it has room for all that it will be told, and its sizes are in range.
pub record IsSoundCopier (layout : Layout) (hand : Hand) (most moves fails items taken items_room moves_room fails_room : ℕ) : Type 0 where
  pub layout_is : IsLayout layout
  pub known : taken ≤ items
  pub few : items ≤ most + moves + fails
  pub room : most + layout.nursery ≤ items_room
  pub room_of_moves : layout.nursery ≤ moves_room
  pub room_of_fails : layout.nursery ≤ fails_room
  pub hand_from : hand.from ≤ hand.fields
  pub hand_at : hand.at < 2 ^ 37

-- an object of this class has such fields
abbrev pub IsKindOf : List Shape → ℕ → Descriptor → Type 0
IsKindOf shapes class kind = (i n : ℕ) → is_strong kind i n ≡ is_strong_in (slice_get shapes class) i

-- the object at this word is in hand, with all of its fields
pub record TakesInHand (c : Copying) (at first fields : ℕ) (d : Copying) : Type 0 where
  pub same : d ≡ record c { hand = d.hand }
  pub is_at : d.hand.at ≡ at
  pub kind : IsKindOf c.shapes (class_of first) d.hand.kind
  pub from : d.hand.from ≡ 0
  pub fields_are : d.hand.fields ≡ fields

-- no exchange is prepared, or one on a slot
abbrev pub IsOnSlot : Stage → Type 0
IsOnSlot Between = Unit {0}
IsOnSlot (Taking job block) = Unit {0}
IsOnSlot (Claiming job block slot) = Unit {0}
IsOnSlot (Forwarding job to) = Unit {0}
IsOnSlot (Pinning job) = Unit {0}
IsOnSlot (Grabbing cell item) = ⊥
IsOnSlot Ended = ⊥

-- where a worker stands that has seen that the slot's target stays: the slot's card comes next, where it has one
abbrev pub staying : Area → ℕ → Mid
staying area s = if nat_le area.high s then (if nat_lt s area.rows then On s Dirty else Idle) else Idle

-- an object that moved, by the numbers of its first words
abbrev pub move_of : ℕ → ℕ → Move
move_of from to = record { from = byte_at from; to = byte_at to }
