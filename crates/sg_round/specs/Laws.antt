-- The laws of racing copiers.
use Rattle.std.specs.Prelude.{◌-◌, length, ◌≡◌, ◌≢◌, ℕ, ◌+◌, ◌<◌, ◌≤◌, ◌⊎◌, Bool, true, List, [], ◌∷◌, ◌++◌}
use Rattle.std.specs.Int.{bit_at}
use Rattle.sg_words.specs.Address.{byte_at}
use Rattle.sg_words.specs.Lists.{In}
use Rattle.sg_words.specs.Objects.{size_of}
use Rattle.sg_words.specs.Reach.{AreDistinct}
use Rattle.sg_words.specs.Blocks.{IsSizeClass, slot_size, slots}
use Rattle.sg_words.specs.Calls.{call_of}
use Rattle.sg_words.specs.Words.{put, Words, Saw, replayed, IsLegal}
use Rattle.sg_words.specs.declared.steps.Step.{Step}
use Rattle.sg_words.specs.declared.steps.BlockWord.{BlockWord}
use Rattle.sg_words.specs.declared.steps.BlockWord.TheVariants.{Free, Swept}
use Rattle.sg_round.specs.Area.{Area, IsYoung, HasCard, place, card_at}
use Rattle.sg_round.specs.Items.{slots_of}
use Rattle.sg_round.specs.Worker.{Worker, Over}
use Rattle.sg_round.specs.Rules.{Deed, WorkEvent, steps, part, by_one, Follows, ended_by, moved_by, failed_by}
use Rattle.sg_round.specs.Acting.{Acts}
use Rattle.sg_round.specs.Sane.{IsSane}
use Rattle.sg_round.specs.Image.{IsImage}
use Rattle.sg_round.specs.Order.{IsInOrder}
use Rattle.sg_round.specs.Round.{Start, IsRoundOpening, IsOpening, Owner, Nobody, Round, Slot, IsGoing, Owns, IsPassed, IsTaken}

-- A round in its midst: a legal list of steps of workers that follow their programs has led from its opening to the words v and to
-- these workers.
pub record IsSoFar (t : Start) (v : Words) (workers : ℕ → Worker) : Type 0 where
  pub events : List WorkEvent
  pub opening : IsRoundOpening t
  pub legal : IsLegal t.words (steps events)
  pub is : replayed t.words (steps events) ≡ v
  pub follows : (k : ℕ) → Follows t.area t.team k (t.workers k) (part k events) (workers k)

-- the steps of these deeds
abbrev pub steps_of : List Deed → List Step
steps_of [] = []
steps_of (d ∷ ds) = d.step ∷ steps_of ds

-- worker k, a on the words w, takes next steps of its program, and so becomes b and leaves the words v
pub record Went (area : Area) (team k : ℕ) (a : Worker) (w : Words) (b : Worker) (v : Words) : Type 0 where
  pub deeds : List Deed
  pub legal : IsLegal w (steps_of deeds)
  pub after : v ≡ replayed w (steps_of deeds)
  pub follows : Follows area team k a deeds b

-- Cards: each slot of the round that has one and still refers to a young object has a dirty one; a dirty card stays dirty; and no
-- other card changes.
pub record AreMarked (t : Start) (m : ℕ → ℕ) (moves fails : List ℕ) (v : Words) : Type 0 where
  pub held : (s x : ℕ) → Slot t.area t.words.word t.items m moves fails s → HasCard t.area s → v.word s ≡ byte_at x → IsYoung t.area x →
      v.card (card_at t.area s) ≢ 0
  pub kept : (c : ℕ) → t.words.card c ≢ 0 → v.card c ≢ 0
  pub others : (c : ℕ) → (v.card c ≡ t.words.card c) ⊎ ((v.card c ≡ 1) × ((s : ℕ) × (x : ℕ) × Slot t.area t.words.word t.items m moves fails s ×
      HasCard t.area s × (c ≡ card_at t.area s) × (v.word s ≡ byte_at x) × IsYoung t.area x))

-- Blocks: a word changes from Free to Swept alone, and no bit falls; each moved object is at a slot of its size that was clear, and
-- each slot that was clear and isn't is the place of one moved object, or one worker's spare.
pub record AreFilled (t : Start) (m : ℕ → ℕ) (moves : List ℕ) (v : Words) (workers : ℕ → Worker) : Type 0 where
  pub opened : (b : ℕ) → (v.block b ≡ t.words.block b) ⊎ ((b < t.area.blocks) × (t.words.block b ≡ Free) × ((z : ℕ) × IsSizeClass z × (v.block b ≡ Swept z)))
  pub risen : (b i : ℕ) → bit_at (v.used b) i ≡ 0 → bit_at (t.words.used b) i ≡ 0
  pub homes : (a : ℕ) → In a moves → IsTaken t.area v.block t.words.used v.used (m a) (slot_size (size_of t.words.word a))
  pub bits : (b i : ℕ) → bit_at (v.used b) i ≡ 1 → bit_at (t.words.used b) i ≡ 0 →
      (z : ℕ) × IsSizeClass z × (b < t.area.blocks) × (i < slots z) × (v.block b ≡ Swept z) ×
      (((a : ℕ) × In a moves × (m a ≡ place t.area b z i)) ⊎ ((k : ℕ) × ((workers k).spare z ≡ place t.area b z i)))

-- Spares: `is_spare` says which words are in one; only workers of the team have any, at slots of their size that were clear.
pub record AreSpares (t : Start) (v : Words) (workers : ℕ → Worker) (is_spare : ℕ → Bool) : Type 0 where
  pub spares : (y : ℕ) → is_spare y ≡ true → (k : ℕ) × (z : ℕ) × ((workers k).spare z ≢ 0) × ((workers k).spare z ≤ y) × (y < (workers k).spare z + z)
  pub spared : (k z y : ℕ) → (workers k).spare z ≢ 0 → (workers k).spare z ≤ y → y < (workers k).spare z + z → is_spare y ≡ true
  pub placed : (k z : ℕ) → (workers k).spare z ≢ 0 → (k < t.team) × IsTaken t.area v.block t.words.used v.used ((workers k).spare z) z
  pub apart : (j k y z : ℕ) → (workers j).spare y ≢ 0 → (workers j).spare y ≡ (workers k).spare z → (j ≡ k) × (y ≡ z)

-- The words are the image of the opening by one map of its objects, where those moved and failed to which the steps did so; the
-- handling of each slot of the round ended once; an object failed only where no block can take it, and then some worker has no spare
-- of its size; and the other sections stay.
pub record IsDone (t : Start) (es : List WorkEvent) (v : Words) (workers : ℕ → Worker) : Type 0 where
  pub m : ℕ → ℕ
  pub is_spare : ℕ → Bool
  pub image : IsImage t.area t.words.word t.items t.zone (moved_by [] es) (failed_by [] es) m v.word is_spare
  pub once : AreDistinct (ended_by [] es)
  pub slots : (s : ℕ) → In s (ended_by [] es) → Slot t.area t.words.word t.items m (moved_by [] es) (failed_by [] es) s
  pub every : (s : ℕ) → Slot t.area t.words.word t.items m (moved_by [] es) (failed_by [] es) s → In s (ended_by [] es)
  pub cards : AreMarked t m (moved_by [] es) (failed_by [] es) v
  pub blocks : AreFilled t m (moved_by [] es) v workers
  pub spares : AreSpares t v workers is_spare
  pub full : (a b : ℕ) → In a (failed_by [] es) → b < t.area.blocks → IsPassed v.block v.used (slot_size (size_of t.words.word a)) b
  pub short : (a : ℕ) → In a (failed_by [] es) → (k : ℕ) × (k < t.team) × ((workers k).spare (slot_size (size_of t.words.word a)) ≡ 0)
  pub cells : (i : ℕ) → v.cell i ≡ 0
  pub still : (v.stop ≡ t.words.stop) × (v.head ≡ t.words.head) × (v.next ≡ t.words.next) × (v.marks ≡ t.words.marks)

-- an opening is so far
abbrev pub OpensSoFar : Type 0
OpensSoFar = (t : Start) → IsRoundOpening t → IsSoFar t t.words t.workers

-- from there the next steps of any one worker lead on
abbrev pub GoesSoFar : Type 0
GoesSoFar = (t : Start) (v : Words) (workers : ℕ → Worker) (k : ℕ) (a : Worker) (v' : Words) → IsSoFar t v workers →
    Went t.area t.team k (workers k) v a v' → IsSoFar t v' (put workers k a)

-- and then its steps are the last ones
abbrev pub TellsSoFar : Type 0
TellsSoFar = (t : Start) (v : Words) (workers : ℕ → Worker) (k : ℕ) (a : Worker) (v' : Words) → (so : IsSoFar t v workers) →
    (went : Went t.area t.team k (workers k) v a v') → (later : IsSoFar t v' (put workers k a)) × (later.events ≡ so.events ++ by_one k went.deeds)

-- and where all workers have ended the round is done
abbrev pub RacingLaw : Type 0
RacingLaw = (t : Start) (v : Words) (workers : ℕ → Worker) → (so : IsSoFar t v workers) → ((k : ℕ) → (workers k).mid ≡ Over) → IsDone t so.events v workers

-- One worker alone, that is done: it has no spare, since no exchange of a first word was lost, and it has found the objects in order.
pub record IsDoneAlone (t : Start) (es : List WorkEvent) (v : Words) (workers : ℕ → Worker) : Type 0 where
  pub done : IsDone t es v workers
  pub none : (k z : ℕ) → (workers k).spare z ≡ 0
  pub order : IsInOrder t.area t.words.word (slots_of t.area t.words.word (λ x. x) (t.workers 0).list) done.m t.words.block t.words.used
      (moved_by [] es) (failed_by [] es) v.block v.used

abbrev pub OneWorkerLaw : Type 0
OneWorkerLaw = (t : Start) (v : Words) (workers : ℕ → Worker) → (so : IsSoFar t v workers) → t.team ≡ 1 →
    (workers 0).mid ≡ Over → IsDoneAlone t so.events v workers

-- A round of one worker over the same slots of the same words is one: two such find the same objects, move and fail the same ones, to
-- the same places, and leave the same block words and occupancies.
abbrev pub OneOrderLaw : Type 0
OneOrderLaw = (area : Area) (w : ℕ → ℕ) (items : List ℕ) (m m' : ℕ → ℕ) (block : ℕ → BlockWord) (used : ℕ → ℕ) (moves moves' fails fails' : List ℕ)
    (block1 block2 : ℕ → BlockWord) (used1 used2 : ℕ → ℕ) →
    (x : IsInOrder area w items m block used moves fails block1 used1) → (y : IsInOrder area w items m' block used moves' fails' block2 used2) →
    (x.found ≡ y.found) × (moves ≡ moves') × (fails ≡ fails') × ((a : ℕ) → In a moves → m a ≡ m' a) × (block1 ≡ block2) × (used1 ≡ used2)

-- In the midst of a round each worker is sane; whatever a call for a next step of it sees, a step comes next; and a worker that hasn't
-- ended can take one.
pub record AreGoing (t : Start) (v : Words) (workers : ℕ → Worker) : Type 0 where
  pub sane : (k : ℕ) → IsSane t.area t.team t.most k (workers k)
  pub goes_on : (k : ℕ) (step : Step) (a : Worker) (other : Step) → Acts t.area t.team k (workers k) step a → call_of other ≡ call_of step → Saw v other →
      (b : Worker) × Acts t.area t.team k (workers k) other b
  pub can_go : (k : ℕ) → (workers k).mid ≢ Over → (step : Step) × (b : Worker) × Saw v step × Acts t.area t.team k (workers k) step b

abbrev pub GoesAlways : Type 0
GoesAlways = (t : Start) (v : Words) (workers : ℕ → Worker) → IsSoFar t v workers → AreGoing t v workers

-- No more slots have ended than there are words, and no more objects have moved or failed than the nursery has words.
pub record IsBounded (t : Start) (es : List WorkEvent) : Type 0 where
  pub ended : length (ended_by [] es) ≤ t.area.end - t.area.low
  pub settled : length (moved_by [] es) + length (failed_by [] es) ≤ t.area.high - t.area.low

abbrev pub BoundedLaw : Type 0
BoundedLaw = (t : Start) (v : Words) (workers : ℕ → Worker) → (so : IsSoFar t v workers) → IsBounded t so.events

-- From one round to the next over the same opening: a claimed place whose words are zero again is given back ..
abbrev pub Released : Type 0
Released = (area : Area) (w : ℕ → ℕ) (items wholes : List ℕ) (zone : ℕ → Bool) → IsOpening area w items wholes zone →
    (word : ℕ → ℕ) (todo : List ℕ) (r : Round) → IsGoing area w items zone word (λ s. In s todo) r →
    (k at z : ℕ) → Owns r.owner k at z → ((y : ℕ) → at ≤ y → y < at + z → word y ≡ 0) →
    (owner : ℕ → Owner) → ((y : ℕ) → at ≤ y → y < at + z → owner y ≡ Nobody) → ((y : ℕ) → (at ≤ y → y < at + z → ⊥) → owner y ≡ r.owner y) →
    IsGoing area w items zone word (λ s. In s todo) (record r { owner = owner })

-- .. and more slots come
abbrev pub MoreItems : Type 0
MoreItems = (area : Area) (w : ℕ → ℕ) (items new : List ℕ) (zone : ℕ → Bool) (word : ℕ → ℕ) (todo : List ℕ) (r : Round) →
    IsGoing area w items zone word (λ s. In s todo) r →
    IsGoing area w (items ++ new) zone word (λ s. In s (todo ++ new)) r
