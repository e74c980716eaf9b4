-- The program of a copying worker: which atomic step comes next, what it is for the round, and what the worker is after it.
use Rattle.std.specs.Prelude.{◌≡◌, ◌≢◌, ℕ, ◌+◌, ◌*◌, ◌<◌, ◌≤◌, ◌⊎◌, ◌==◌, if◌then◌else◌, List, [], ◌∷◌, ◌++◌}
use Rattle.std.specs.Int.{bit_at}
use Rattle.sg_words.specs.Address.{byte_at}
use Rattle.sg_words.specs.Tags.{plain_word, pinned_word, forward_word}
use Rattle.sg_words.specs.Words.{put}
use Rattle.sg_words.specs.Blocks.{slots}
use Rattle.sg_words.specs.declared.steps.Place.TheVariants.{Word, Card, Cell}
use Rattle.sg_words.specs.declared.steps.BlockWord.{BlockWord}
use Rattle.sg_words.specs.declared.steps.BlockWord.TheVariants.{Free, Swept}
use Rattle.sg_words.specs.declared.steps.BlockStep.TheVariants.{LoadBlock, WonBlock, LostBlock, LoadUsed, OrUsed}
use Rattle.sg_words.specs.declared.steps.Step.{Step}
use Rattle.sg_words.specs.declared.steps.Step.TheVariants.{Load, Store, Won, Lost, OnBlock}
use Rattle.sg_round.specs.Area.{Area, IsYoung, IsFixed, HasCard, place, card_at, class_of}
use Rattle.sg_round.specs.Items.{Item, SlotOf, WholeOf, cell_word, own_cell, looked_cell, slots_by}
use Rattle.sg_round.specs.Worker.{Object, Look, Size, Room, Take, Slots, Mark, Body, Puts, Swap, Pin, Send, Dirty, Mid, Idle, Took, Count, On, Offer, Seek}
use Rattle.sg_round.specs.Worker.{Grab, Over, Worker, size_for, idle, on, looking}

-- What a step is for the round: it ends the handling of the slot s; it moves the object x; x fails; x fails and with it the handling
-- of s ends; or none of these.
pub data Effect : Type 0 where
  Nothing : Effect
  Ends : (s : ℕ) → Effect
  Moves : (x : ℕ) → Effect
  Fails : (x : ℕ) → Effect
  FailsEnding : (x s : ℕ) → Effect

-- the item is the next one to be looked at, a slot of the object in hand as its own item; without it the worker is so
pub data IsNext : Worker → Item → Worker → Type 0 where
  Of_hand : (a : Worker) (s : ℕ) (rest : List ℕ) → IsNext (record a { hand = s ∷ rest; mid = Idle }) (SlotOf s) (record a { hand = rest; mid = Idle })
  Of_list : (a : Worker) (item : Item) (rest : List Item) →
      IsNext (record a { list = item ∷ rest; hand = []; mid = Idle }) item (record a { list = rest; hand = []; mid = Idle })
  Of_cell : (a : Worker) (item : Item) → IsNext (record a { mid = Took item }) item (record a { mid = Idle })

-- an item may be offered: between two slots, or where only the store of the slot or of its card is left
abbrev pub MayOffer : Mid → Type 0
MayOffer Idle = Unit {0}
MayOffer (On s (Send t)) = Unit {0}
MayOffer (On s Dirty) = Unit {0}
MayOffer mid = ⊥

-- the worker, which has nothing to do, looks at the i-th cell next
pub record IsLooking (a : Worker) (i : ℕ) : Type 0 where
  pub nothing : (a.list ≡ []) × (a.hand ≡ [])
  pub at : ((a.mid ≡ Idle) × (i ≡ 0)) ⊎ (a.mid ≡ Seek i)

-- of this many workers, this step comes next for worker k, and then it is so
pub data Comes (area : Area) (team k : ℕ) : Worker → Step → Effect → Worker → Type 0 where
  -- the first word of an object whose slots are to come, and its length
  opens : (a b : Worker) (t v : ℕ) → IsNext a (WholeOf t) b → Comes area team k a (Load (Word t) v) Nothing (record b { mid = Count t (class_of v) })
  counts : (a : Worker) (t class n : ℕ) → n ≤ 62 →
      Comes area team k (record a { mid = Count t class }) (Load (Word (t + 1)) n) Nothing (record a { hand = slots_by area class t n; mid = Idle })
  -- a slot with no young reference, and one with
  sees_none : (a b : Worker) (s v : ℕ) → IsNext a (SlotOf s) b → ((x : ℕ) → v ≡ byte_at x → IsYoung area x → ⊥) →
      Comes area team k a (Load (Word s) v) (Ends s) (idle b)
  sees : (a b : Worker) (s x : ℕ) → IsNext a (SlotOf s) b → IsYoung area x → Comes area team k a (Load (Word s) (byte_at x)) Nothing (on b s (Look x))
  -- by the target's first word
  looks_forwarded : (a : Worker) (s x t : ℕ) →
      Comes area team k (on a s (Look x)) (Load (Word x) (forward_word (byte_at t))) Nothing (on a s (Send t))
  looks_fixed : (a : Worker) (s x class v : ℕ) → IsFixed class v → HasCard area s →
      Comes area team k (on a s (Look x)) (Load (Word x) v) Nothing (on a s Dirty)
  looks_bare : (a : Worker) (s x class v : ℕ) → IsFixed class v → (HasCard area s → ⊥) →
      Comes area team k (on a s (Look x)) (Load (Word x) v) (Ends s) (idle a)
  looks_plain : (a : Worker) (s x class : ℕ) → Comes area team k (on a s (Look x)) (Load (Word x) (plain_word class)) Nothing (on a s (Size x class))
  -- a place for the copy: the spare one of its size, or else the first slot of its size that is found clear
  has_spare : (a : Worker) (s : ℕ) (o : Object) → a.spare (size_for o) ≢ 0 →
      Comes area team k (on a s (Size o.x o.class)) (Load (Word (o.x + 1)) o.n) Nothing
      (record a { spare = put a.spare (size_for o) 0; mid = On s (Body o (a.spare (size_for o)) 1) })
  has_none : (a : Worker) (s : ℕ) (o : Object) → a.spare (size_for o) ≡ 0 →
      Comes area team k (on a s (Size o.x o.class)) (Load (Word (o.x + 1)) o.n) Nothing (on a s (looking area o (a.passed (size_for o))))
  finds_free : (a : Worker) (s : ℕ) (o : Object) (b : ℕ) →
      Comes area team k (on a s (Room o b)) (OnBlock (LoadBlock b Free)) Nothing (on a s (Take o b))
  finds_swept : (a : Worker) (s : ℕ) (o : Object) (b : ℕ) →
      Comes area team k (on a s (Room o b)) (OnBlock (LoadBlock b (Swept (size_for o)))) Nothing (on a s (Slots o b))
  finds_other : (a : Worker) (s : ℕ) (o : Object) (b : ℕ) (state : BlockWord) → state ≢ Free → state ≢ Swept (size_for o) →
      Comes area team k (on a s (Room o b)) (OnBlock (LoadBlock b state)) Nothing (on a s (looking area o (b + 1)))
  takes : (a : Worker) (s : ℕ) (o : Object) (b : ℕ) →
      Comes area team k (on a s (Take o b)) (OnBlock (WonBlock b Free (Swept (size_for o)))) Nothing (on a s (Room o b))
  takes_not : (a : Worker) (s : ℕ) (o : Object) (b : ℕ) (found : BlockWord) →
      Comes area team k (on a s (Take o b)) (OnBlock (LostBlock b Free (Swept (size_for o)) found)) Nothing (on a s (Room o b))
  finds_clear : (a : Worker) (s : ℕ) (o : Object) (b i saw : ℕ) → i < slots (size_for o) → bit_at saw i ≡ 0 → ((j : ℕ) → j < i → bit_at saw j ≡ 1) →
      Comes area team k (on a s (Slots o b)) (OnBlock (LoadUsed b saw)) Nothing (on a s (Mark o b i))
  finds_full : (a : Worker) (s : ℕ) (o : Object) (b saw : ℕ) → ((j : ℕ) → j < slots (size_for o) → bit_at saw j ≡ 1) →
      Comes area team k (on a s (Slots o b)) (OnBlock (LoadUsed b saw)) Nothing (on a s (looking area o (b + 1)))
  marks : (a : Worker) (s : ℕ) (o : Object) (b i found : ℕ) → bit_at found i ≡ 0 →
      Comes area team k (on a s (Mark o b i)) (OnBlock (OrUsed b i found)) Nothing
      (record a { passed = put a.passed (size_for o) b; mid = On s (Body o (place area b (size_for o) i) 1) })
  marks_not : (a : Worker) (s : ℕ) (o : Object) (b i found : ℕ) → bit_at found i ≡ 1 →
      Comes area team k (on a s (Mark o b i)) (OnBlock (OrUsed b i found)) Nothing (on a s (Room o b))
  -- the words of the copy, one by one, zeros behind it, and its first word last
  reads : (a : Worker) (s : ℕ) (o : Object) (at j v : ℕ) → j < o.n + 2 →
      Comes area team k (on a s (Body o at j)) (Load (Word (o.x + j)) v) Nothing (on a s (Puts o at j v))
  writes : (a : Worker) (s : ℕ) (o : Object) (at j v : ℕ) →
      Comes area team k (on a s (Puts o at j v)) (Store (Word (at + j)) v) Nothing (on a s (Body o at (j + 1)))
  clears : (a : Worker) (s : ℕ) (o : Object) (at j : ℕ) → o.n + 2 ≤ j → j < size_for o →
      Comes area team k (on a s (Body o at j)) (Store (Word (at + j)) 0) Nothing (on a s (Body o at (j + 1)))
  heads : (a : Worker) (s : ℕ) (o : Object) (at j : ℕ) → size_for o ≤ j →
      Comes area team k (on a s (Body o at j)) (Store (Word at) (plain_word o.class)) Nothing (on a s (Swap o at))
  -- the exchange of the target's first word: to Forwarded, or, where there is no place for a copy, to Pinned
  forwards : (a : Worker) (s : ℕ) (o : Object) (at : ℕ) →
      Comes area team k (on a s (Swap o at)) (Won (Word o.x) (plain_word o.class) (forward_word (byte_at at))) (Moves o.x)
      (record a { list = a.list ++ WholeOf at ∷ []; mid = On s (Send at) })
  loses : (a : Worker) (s : ℕ) (o : Object) (at found : ℕ) →
      Comes area team k (on a s (Swap o at)) (Lost (Word o.x) (plain_word o.class) (forward_word (byte_at at)) found) Nothing
      (record a { spare = put a.spare (size_for o) at; mid = On s (Look o.x) })
  fails : (a : Worker) (s : ℕ) (o : Object) → HasCard area s →
      Comes area team k (on a s (Pin o)) (Won (Word o.x) (plain_word o.class) (pinned_word o.class)) (Fails o.x)
      (record a { list = a.list ++ WholeOf o.x ∷ []; passed = put a.passed (size_for o) area.blocks; mid = On s Dirty })
  fails_bare : (a : Worker) (s : ℕ) (o : Object) → (HasCard area s → ⊥) →
      Comes area team k (on a s (Pin o)) (Won (Word o.x) (plain_word o.class) (pinned_word o.class)) (FailsEnding o.x s)
      (record a { list = a.list ++ WholeOf o.x ∷ []; passed = put a.passed (size_for o) area.blocks; mid = Idle })
  fails_not : (a : Worker) (s : ℕ) (o : Object) (found : ℕ) →
      Comes area team k (on a s (Pin o)) (Lost (Word o.x) (plain_word o.class) (pinned_word o.class) found) Nothing (on a s (Look o.x))
  -- the slot is stored, or its card
  sends : (a : Worker) (s t : ℕ) → Comes area team k (on a s (Send t)) (Store (Word s) (byte_at t)) (Ends s) (idle a)
  dirties : (a : Worker) (s : ℕ) → Comes area team k (on a s Dirty) (Store (Card (card_at area s)) 1) (Ends s) (idle a)
  -- the last item is offered to the others, in an own cell that was seen empty
  keeps : (a : Worker) (items : List Item) (item : Item) (i v : ℕ) → 1 < team → i < 8 → MayOffer a.mid → a.list ≡ items ++ item ∷ [] → v ≢ 0 →
      Comes area team k a (Load (Cell (own_cell k i)) v) Nothing a
  prepares : (a : Worker) (items : List Item) (item : Item) (i : ℕ) → 1 < team → i < 8 → MayOffer a.mid → a.list ≡ items ++ item ∷ [] →
      Comes area team k a (Load (Cell (own_cell k i)) 0) Nothing (record a { mid = Offer i a.mid })
  offers : (a : Worker) (items : List Item) (item : Item) (i : ℕ) (next : Mid) →
      Comes area team k (record a { list = items ++ item ∷ []; mid = Offer i next }) (Won (Cell (own_cell k i)) 0 (cell_word item)) Nothing
      (record a { list = items; mid = next })
  offers_not : (a : Worker) (items : List Item) (item : Item) (i : ℕ) (next : Mid) (found : ℕ) →
      Comes area team k (record a { list = items ++ item ∷ []; mid = Offer i next }) (Lost (Cell (own_cell k i)) 0 (cell_word item) found) Nothing
      (record a { list = items ++ item ∷ []; mid = next })
  -- with nothing to do a worker looks at the cells, its own first, and takes an item that it finds
  seeks : (a : Worker) (i : ℕ) → IsLooking a i → i + 1 < 8 * team →
      Comes area team k a (Load (Cell (looked_cell team k i)) 0) Nothing (record a { mid = Seek (i + 1) })
  ends : (a : Worker) (i : ℕ) → IsLooking a i → 8 * team ≤ i + 1 → Comes area team k a (Load (Cell (looked_cell team k i)) 0) Nothing (record a { mid = Over })
  finds : (a : Worker) (i : ℕ) (item : Item) → IsLooking a i →
      Comes area team k a (Load (Cell (looked_cell team k i)) (cell_word item)) Nothing (record a { mid = Grab i item })
  grabs : (a : Worker) (i : ℕ) (item : Item) →
      Comes area team k (record a { mid = Grab i item }) (Won (Cell (looked_cell team k i)) (cell_word item) 0) Nothing (record a { mid = Took item })
  grabs_not : (a : Worker) (i : ℕ) (item : Item) (found : ℕ) →
      Comes area team k (record a { mid = Grab i item }) (Lost (Cell (looked_cell team k i)) (cell_word item) 0 found) Nothing (record a { mid = Seek i })

-- a step of a worker, and what it is for the round
pub record Deed : Type 0 where
  pub step : Step
  pub effect : Effect

-- the worker with this number did this
pub record WorkEvent : Type 0 where
  pub by : ℕ
  pub deed : Deed

-- the steps of all workers, in order
abbrev pub steps : List WorkEvent → List Step
steps [] = []
steps (e ∷ es) = e.deed.step ∷ steps es

-- the deeds of one worker, in order
abbrev pub part : ℕ → List WorkEvent → List Deed
part k [] = []
part k (e ∷ es) = if k == e.by then e.deed ∷ part k es else part k es

-- these are deeds of worker k
abbrev pub by_one : ℕ → List Deed → List WorkEvent
by_one k [] = []
by_one k (d ∷ ds) = record { by = k; deed = d } ∷ by_one k ds

-- these deeds are the next ones of worker k, which is `last` after them
abbrev pub Follows : Area → ℕ → ℕ → Worker → List Deed → Worker → Type 0
Follows area team k a [] last = last ≡ a
Follows area team k a (d ∷ ds) last = (mid : Worker) × Comes area team k a d.step d.effect mid × Follows area team k mid ds last

-- the slots whose handling an effect ends, the objects that it moves, and those that it fails
abbrev pub ended : Effect → List ℕ
ended Nothing = []
ended (Ends s) = s ∷ []
ended (Moves x) = []
ended (Fails x) = []
ended (FailsEnding x s) = s ∷ []

abbrev pub moved : Effect → List ℕ
moved Nothing = []
moved (Ends s) = []
moved (Moves x) = x ∷ []
moved (Fails x) = []
moved (FailsEnding x s) = []

abbrev pub failed : Effect → List ℕ
failed Nothing = []
failed (Ends s) = []
failed (Moves x) = []
failed (Fails x) = x ∷ []
failed (FailsEnding x s) = x ∷ []

-- after such ones before: the slots whose handling ended, the latest first; the objects that moved, and those that failed, in order
abbrev pub ended_by : List ℕ → List WorkEvent → List ℕ
ended_by before [] = before
ended_by before (e ∷ es) = ended_by (ended e.deed.effect ++ before) es

abbrev pub moved_by : List ℕ → List WorkEvent → List ℕ
moved_by before [] = before
moved_by before (e ∷ es) = moved_by (before ++ moved e.deed.effect) es

abbrev pub failed_by : List ℕ → List WorkEvent → List ℕ
failed_by before [] = before
failed_by before (e ∷ es) = failed_by (before ++ failed e.deed.effect) es
