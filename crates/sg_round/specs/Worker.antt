-- The private state of a copying worker.
use Rattle.std.specs.Prelude.{ℕ, ◌+◌, nat_lt, if◌then◌else◌, List, []}
use Rattle.sg_words.specs.Blocks.{slot_size}
use Rattle.sg_round.specs.Area.{Area}
use Rattle.sg_round.specs.Items.{Item}

-- a plain object as it was read: its first word's number, its class and its number of fields
pub record Object : Type 0 where
  pub x : ℕ
  pub class : ℕ
  pub n : ℕ

-- the size class of its copy
abbrev pub size_for : Object → ℕ
size_for o = slot_size (o.n + 2)

-- What the next step on the slot in hand is for. x is the slot's target, and o the same object once it was read; `at` is where its
-- copy is to stand.
pub data Stage : Type 0 where
  -- the load of the target's first word, and of its length
  Look : (x : ℕ) → Stage
  Size : (x class : ℕ) → Stage
  -- the load of the word of block b; the exchange of Free to Swept; the load of its occupancy; the claim of its slot i
  Room : (o : Object) (b : ℕ) → Stage
  Take : (o : Object) (b : ℕ) → Stage
  Slots : (o : Object) (b : ℕ) → Stage
  Mark : (o : Object) (b i : ℕ) → Stage
  -- the load of word j, the store of a zero behind the object, or the store of the first word where j is past the slot; the store of
  -- word j
  Body : (o : Object) (at j : ℕ) → Stage
  Puts : (o : Object) (at j v : ℕ) → Stage
  -- the exchange to Forwarded; where no block has room, the exchange to Pinned
  Swap : (o : Object) (at : ℕ) → Stage
  Pin : (o : Object) → Stage
  -- the store of the slot; the store of its card
  Send : (t : ℕ) → Stage
  Dirty : Stage

pub data Mid : Type 0 where
  -- between two slots, or two items
  Idle : Mid
  -- an item was taken from a cell: next comes its first load
  Took : (item : Item) → Mid
  -- the class of the object t was loaded: next comes the load of its length
  Count : (t class : ℕ) → Mid
  -- with the slot s in hand
  On : (s : ℕ) (stage : Stage) → Mid
  -- before the exchange that offers the list's last item in the i-th own cell; then the worker stands where it stood before
  Offer : (i : ℕ) (next : Mid) → Mid
  -- before the load of the i-th cell, and before the exchange that takes the item from there
  Seek : (i : ℕ) → Mid
  Grab : (i : ℕ) (item : Item) → Mid
  -- ended
  Over : Mid

-- Its items to come, the oldest first; the slots to come of the object in hand; its spare place for each size, or 0; for each size
-- how many of the lowest blocks can't take it; and where it stands.
pub record Worker : Type 0 where
  pub list : List Item
  pub hand : List ℕ
  pub spare : ℕ → ℕ
  pub passed : ℕ → ℕ
  pub mid : Mid

-- a worker with these items
abbrev pub starting : List Item → Worker
starting items = record { list = items; hand = []; spare = λ _. 0; passed = λ _. 0; mid = Idle }

abbrev pub idle : Worker → Worker
idle a = record a { mid = Idle }

abbrev pub on : Worker → ℕ → Stage → Worker
on a s stage = record a { mid = On s stage }

-- where a worker stands that looks for a place from block b on: there is one more block, or the object is to be pinned
abbrev pub looking : Area → Object → ℕ → Stage
looking area o b = if nat_lt b area.blocks then Room o b else Pin o
