-- How a turn ends, by where it begins.
use Rattle.std.proofs.Common.{◌≡◌, ◌≢◌, ℕ, ◌+◌, ◌^◌, ◌<◌, ◌≤◌, ◌⊎◌, nat_lt, cond, Bool, true, false, Some, None, List, [], ◌∷◌, inl, inr, refl, ap, sym, ◌∙◌, subst, arith}
use Rattle.std.proofs.lemmas.Bool.{cases_eq, cases_lt, cond-true, cond-false, lt-ltb, le-ltb}
use Rattle.sg_words.specs.Address.{byte_at}
use Rattle.sg_words.specs.declared.steps.Step.{Step}
use Rattle.sg_words.specs.declared.steps.Step.TheVariants.{Load, Store, Won, Lost, OnBlock}
use Rattle.sg_words.specs.declared.steps.BlockStep.TheVariants.{OrUsed}
use Rattle.sg_words.specs.declared.steps.Place.{Place}
use Rattle.sg_words.specs.declared.steps.Place.TheVariants.{Stop, Next, Word, Card, Head, Cell}
use Rattle.sg_words.specs.declared.steps.Tick.{Tick}
use Rattle.sg_words.specs.Words.{put, Words, Saw, after_step, replayed, IsLegal, steps_of}
use Rattle.std.specs.Int.{bit_at}
use Rattle.std.specs.Int.Bits.{bit_or}
use Rattle.sg_words.specs.Blocks.{IsSizeClass, slots}
use Rattle.sg_words.specs.Sweeps.{swept_word}
use Rattle.sg_words.specs.declared.steps.BlockWord.{BlockWord}
use Rattle.sg_words.specs.declared.steps.BlockWord.TheVariants.{Free, Swept, Need, Sweeping}
use Rattle.sg_words.specs.Events.{by_one, order_of}
use Rattle.sg_words.specs.Programs.{FollowsBy}
use Rattle.sg_program.specs.declared.program.Statement.{Statement}
use Rattle.sg_program.specs.declared.program.Statement.TheVariants.{New, NewV, Mature, Hide}
use Rattle.sg_program.specs.declared.program.Program.{Program}
use Rattle.sg_program.specs.declared.answers.Request.{Request}
use Rattle.sg_program.specs.Scripts.{IsMaking, IsMature, IsCollecting, made_words, made_slot}
use Rattle.sg_program.specs.Tests.{Test, test_of}
use Rattle.sg_rules.specs.Rules.{Constants, Mid, Idle, TestTag, TestLength, Access, MarkCard, AccessGlobal, Look, Claim, StoreLength, StoreTag, HideLength, Ask, Left, Yielded, Actor, IsGlobal, looking, Comes, Follows}
use Rattle.sg_rules.specs.Rules.{Task, Search, Roam, SeeBlock, TakeBlock, SeeUsed, TakeSlot, TakeOver, StoreOccupancy, ClearSlots, ClearWords, Retired, ends_at, onward, AreTaken, BlockComes, NextStep}
use Rattle.sg_rules.specs.Rules.BlockComes.{mature_begins, sees_free, takes_block, misses_block, sees_size, sees_full, sees_slot, takes_slot, misses_slot, sees_other, sees_sweeping, sees_need, takes_over, misses_sweep, stores_occupancy, clears_first, clears_next, clears_last, ends_sweep, roams_on, retires, roams_free, roams_swept}
use Rattle.sg_order.specs.Sweep.{swept_of, taken_over}
use Rattle.sg_rules.specs.Rules.Comes.{test_null, test_begins, loads_tag, loads_length, test_fails, put_stores, put_stores_old, marks_card, putd_stores, get_loads, getd_loads, global_begins, gput_stores, gget_loads, num_sets, drop_clears, move_sets, push_sets, pop_sets, hide_null, hide_begins, hide_fits, hide_misses, unhide_sets, same_tells, new_bumps, new_looks, look_finds, look_goes_on, stop_asks, asks, yields, claim_wins, claim_moves, claim_goes_on, stores_length, stores_tag}
use Rattle.sg_rules.specs.Acting.{ActsOn, RestsAt, IsTurn}

-- fragment i of these words has fewer than n words left
abbrev pub Lacks : Constants → Words → ℕ → ℕ → Type 0
Lacks lay w n i = (next : ℕ) × (w.next i ≡ byte_at next) × (lay.limit i < next + n)

-- fragment j is the lowest from f on with n words left, and these are its next ones
pub record Finds (lay : Constants) (w : Words) (n f j next : ℕ) : Type 0 where
  pub from : f ≤ j
  pub there : j < lay.fragments
  pub is : w.next j ≡ byte_at next
  pub room : next + n ≤ lay.limit j
  pub lowest : (i : ℕ) → f ≤ i → i < j → Lacks lay w n i

-- how a search from fragment f on ends: right before an exchange, or with leaving
abbrev pub Searched : Program → Constants → Words → Statement → ℕ → Mid → Words → Type 0
Searched p lay w s f m v =
    ((j : ℕ) × (next : ℕ) × Finds lay w (made_words p s) f j next × (m ≡ Claim s j next) × (v.stop ≡ w.stop)) ⊎
    (((i : ℕ) → f ≤ i → i < lay.fragments → Lacks lay w (made_words p s) i) × (m ≡ Left s) × (v.stop ≢ 0))

-- a search for a slot of z words passes over block j of these words: it is being swept, has other slots, or is full
pub data IsPassedBy (w : Words) (z j : ℕ) : Type 0 where
  Busy : (size : ℕ) → w.block j ≡ Sweeping size → IsPassedBy w z j
  Other : (size : ℕ) → w.block j ≡ Swept size → size ≢ z → IsPassedBy w z j
  Full : w.block j ≡ Swept z → AreTaken (w.used j) (slots z) → IsPassedBy w z j

-- what the search for a slot for the object of s meets at block j, and right before which step it is then
pub data Meets (p : Program) (w : Words) (s : Statement) (j : ℕ) (m : Mid) : Type 0 where
  AFree : w.block j ≡ Free → m ≡ TakeBlock s j → Meets p w s j m
  ASlot : (i : ℕ) → w.block j ≡ Swept (made_slot p s) → i < slots (made_slot p s) → bit_at (w.used j) i ≡ 0 → AreTaken (w.used j) i → m ≡ TakeSlot s j i →
      Meets p w s j m
  AnOwed : (size : ℕ) → IsSizeClass size → w.block j ≡ Need size → m ≡ TakeOver (Search s) j size → Meets p w s j m

-- block j is the first one from c on that the search doesn't pass over
pub record IsFirstMet (p : Program) (w : Words) (s : Statement) (c j : ℕ) (m : Mid) : Type 0 where
  pub from : c ≤ j
  pub there : j < p.config.blocks
  pub passes : (i : ℕ) → c ≤ i → i < j → IsPassedBy w (made_slot p s) i
  pub meets : Meets p w s j m

-- how a search for a slot from block c on ends: right before an exchange or a claim, or with leaving
abbrev pub SearchedBlocks : Program → Words → Statement → ℕ → Mid → Words → Type 0
SearchedBlocks p w s c m v =
    ((j : ℕ) × IsFirstMet p w s c j m × (v.stop ≡ w.stop)) ⊎
    (((i : ℕ) → c ≤ i → i < p.config.blocks → IsPassedBy w (made_slot p s) i) × (m ≡ Left s) × (v.stop ≢ 0))

-- no block's word and no occupancy changes, and no block's sweep is taken over
pub record Kept (w v : Words) (swept : List ℕ) : Type 0 where
  pub block : v.block ≡ w.block
  pub used : v.used ≡ w.used
  pub none : swept ≡ []

-- the turn ends here
abbrev Stops : Words → List ℕ → Mid → Mid → Words → Type 0
Stops w ks at m v = (ks ≡ []) × (m ≡ at) × (v.stop ≡ w.stop)

-- the statement is decided by one more step
abbrev Decides : ℕ → Words → List ℕ → Mid → Words → Type 0
Decides k w ks m v = (ks ≡ k ∷ []) × (m ≡ Idle) × (v.stop ≡ w.stop)

-- how a turn of mutator k that has come to here goes on: who decides, where it ends, and with which words
abbrev Ends : Program → Constants → ℕ → Words → Mid → List ℕ → Mid → Words → Type 0
Ends p lay k w Idle ks m v = Stops w ks Idle m v
Ends p lay k w (TestTag s test) ks m v = Decides k w ks m v
Ends p lay k w (TestLength s test class) ks m v = Decides k w ks m v
Ends p lay k w (Access s) ks m v = Decides k w ks m v
Ends p lay k w (MarkCard s card) ks m v = Stops w ks Idle m v
Ends p lay k w (AccessGlobal s) ks m v = Decides k w ks m v
Ends p lay k w (Look s f) ks m v = f < lay.fragments → (ks ≡ []) × Searched p lay w s f m v
Ends p lay k w (Claim s f seen) ks m v = Stops w ks (Claim s f seen) m v
Ends p lay k w (StoreLength s x) ks m v = Stops w ks Idle m v
Ends p lay k w (StoreTag s x) ks m v = Stops w ks Idle m v
Ends p lay k w (HideLength d s offset) ks m v = Decides k w ks m v
Ends p lay k w (SeeBlock t true c) ks m v = Stops w ks (SeeBlock t true c) m v
Ends p lay k w (SeeBlock (Search s) false c) ks m v = c < p.config.blocks → (ks ≡ []) × SearchedBlocks p w s c m v
Ends p lay k w (SeeBlock Roam false c) ks m v = Unit {0}
Ends p lay k w (TakeBlock s c) ks m v = Stops w ks (TakeBlock s c) m v
Ends p lay k w (SeeUsed s c) ks m v = w.block c ≡ Swept (made_slot p s) → c < p.config.blocks → (ks ≡ []) × SearchedBlocks p w s c m v
Ends p lay k w (TakeSlot s c i) ks m v = Stops w ks (TakeSlot s c i) m v
Ends p lay k w (TakeOver t c z) ks m v = Stops w ks (TakeOver t c z) m v
Ends p lay k w (StoreOccupancy t c z) ks m v = Stops w ks (StoreOccupancy t c z) m v
Ends p lay k w (ClearSlots t c z i) ks m v = Stops w ks (SeeBlock t true c) m v
Ends p lay k w (ClearWords t c z i f) ks m v = Stops w ks (SeeBlock t true c) m v
Ends p lay k w Retired ks m v = Stops w ks Retired m v
Ends p lay k w (Ask s) ks m v = (ks ≡ []) × (m ≡ Left s) × (v.stop ≢ 0)
Ends p lay k w (Left s) ks m v = Stops w ks (Left s) m v
Ends p lay k w Yielded ks m v = Stops w ks Yielded m v

-- the background sweeper's points
abbrev pub IsRoaming : Mid → Type 0
IsRoaming (SeeBlock Roam begins c) = Unit {0}
IsRoaming (TakeOver Roam c z) = Unit {0}
IsRoaming (StoreOccupancy Roam c z) = Unit {0}
IsRoaming Retired = Unit {0}
IsRoaming mid = ⊥

-- with these words of blocks, these occupancies
abbrev pub opened : Program → Words → Statement → ℕ → Words
opened p w s c = record w { block = put w.block c (Swept (made_slot p s)) }

abbrev pub claimed : Words → ℕ → ℕ → Words
claimed w c i = record w { used = put w.used c (bit_or (w.used c) (2 ^ i)) }

abbrev pub owned : Words → ℕ → ℕ → Words
owned w c z = record w { block = put w.block c (Sweeping z) }

-- a whole turn of mutator k, which was a, whose first step is t; `swept` are the blocks whose sweep it took over
pub data Turned (p : Program) (lay : Constants) (k : ℕ) (w : Words) (a : Actor) (t : Step) (d : Bool) (ks swept : List ℕ) (m : Mid) (v : Words) : Type 0 where
  GivesWay : (s : Statement) (rest : List Statement) → a.mid ≡ Idle → a.script ≡ s ∷ rest → w.stop ≢ 0 → ks ≡ [] → m ≡ Yielded → v.stop ≡ w.stop →
      Kept w v swept → Turned p lay k w a t d ks swept m v
  IsDone : (s : Statement) (rest : List Statement) → a.mid ≡ Idle → a.script ≡ s ∷ rest → w.stop ≡ 0 → (IsMaking s → a.from + made_words p s ≤ a.to) →
      ¬ IsMature s → Decides k w ks m v → Kept w v swept → Turned p lay k w a t d ks swept m v
  Gathers : (s : Statement) (rest : List Statement) (request : Request) → IsCollecting s request → a.mid ≡ Idle → a.script ≡ s ∷ rest → w.stop ≡ 0 → ks ≡ [] →
      m ≡ Left s → v.stop ≢ 0 → Kept w v swept → Turned p lay k w a t d ks swept m v
  Looks : (s : Statement) (rest : List Statement) → a.mid ≡ Idle → a.script ≡ s ∷ rest → w.stop ≡ 0 → IsMaking s → a.to < a.from + made_words p s → ks ≡ [] →
      Searched p lay w s 0 m v → Kept w v swept → Turned p lay k w a t d ks swept m v
  Wins : (s : Statement) (f seen : ℕ) → a.mid ≡ Claim s f seen → w.next f ≡ byte_at seen → Decides k w ks m v → Kept w v swept → Turned p lay k w a t d ks swept m v
  Loses : (s : Statement) (f seen : ℕ) → a.mid ≡ Claim s f seen → w.next f ≢ byte_at seen → ks ≡ [] → (f < lay.fragments → Searched p lay w s f m v) →
      Kept w v swept → Turned p lay k w a t d ks swept m v
  Matures : (s : Statement) (rest : List Statement) → a.mid ≡ Idle → a.script ≡ s ∷ rest → w.stop ≡ 0 → IsMature s → ks ≡ [] → SearchedBlocks p w s 0 m v →
      Kept w v swept → Turned p lay k w a t d ks swept m v
  WinsBlock : (s : Statement) (c : ℕ) → a.mid ≡ TakeBlock s c → w.block c ≡ Free →
      (c < p.config.blocks → (ks ≡ []) × SearchedBlocks p (opened p w s c) s c m v) → Kept (opened p w s c) v swept → Turned p lay k w a t d ks swept m v
  LosesBlock : (s : Statement) (c : ℕ) → a.mid ≡ TakeBlock s c → w.block c ≢ Free → (c < p.config.blocks → (ks ≡ []) × SearchedBlocks p w s c m v) →
      Kept w v swept → Turned p lay k w a t d ks swept m v
  WinsSlot : (s : Statement) (c i found : ℕ) → a.mid ≡ TakeSlot s c i → t ≡ OnBlock (OrUsed c i found) → d ≡ true → bit_at (w.used c) i ≡ 0 → Decides k w ks m v →
      Kept (claimed w c i) v swept →
      Turned p lay k w a t d ks swept m v
  LosesSlot : (s : Statement) (c i : ℕ) → a.mid ≡ TakeSlot s c i → bit_at (w.used c) i ≡ 1 →
      (c < p.config.blocks → (ks ≡ []) × SearchedBlocks p (claimed w c i) s c m v) → Kept (claimed w c i) v swept → Turned p lay k w a t d ks swept m v
  WinsSweep : (s : Statement) (c z : ℕ) (more : List ℕ) → a.mid ≡ TakeOver (Search s) c z → w.block c ≡ Need z → ks ≡ [] →
      m ≡ StoreOccupancy (Search s) c z → v.stop ≡ w.stop → swept ≡ c ∷ more → Kept (owned w c z) v more → Turned p lay k w a t d ks swept m v
  LosesSweep : (s : Statement) (c z : ℕ) → a.mid ≡ TakeOver (Search s) c z → w.block c ≢ Need z →
      (c < p.config.blocks → (ks ≡ []) × SearchedBlocks p w s c m v) → Kept w v swept → Turned p lay k w a t d ks swept m v
  SweepsOne : (s : Statement) (c z : ℕ) → a.mid ≡ StoreOccupancy (Search s) c z → ks ≡ [] → m ≡ SeeBlock (Search s) true c → v.stop ≡ w.stop →
      v.block ≡ put w.block c (swept_word (Need z) (lay.marks c)) → v.used ≡ put w.used c (lay.marks c) → swept ≡ [] → Turned p lay k w a t d ks swept m v
  GoesOn : (s : Statement) (c : ℕ) → a.mid ≡ SeeBlock (Search s) true c → (c < p.config.blocks → (ks ≡ []) × SearchedBlocks p w s c m v) → Kept w v swept →
      Turned p lay k w a t d ks swept m v
  Roams : IsRoaming a.mid → Turned p lay k w a t d ks swept m v

-- the actor is in the midst of the stores of the sweep of block c, of slots of z words
abbrev IsClearingAt : ℕ → ℕ → Mid → Type 0
IsClearingAt c z (ClearSlots t d y i) = (c ≡ d) × (z ≡ y)
IsClearingAt c z (ClearWords t d y i f) = (c ≡ d) × (z ≡ y)
IsClearingAt c z mid = ⊥

abbrev IsOut : Mid → Type 0
IsOut mid = (c z : ℕ) → IsClearingAt c z mid → ⊥

-- what the steps to come in the turn make of the blocks: nothing, but for the stores of a sweep
pub record Effect (lay : Constants) (w : Words) (mid : Mid) (swept : List ℕ) (v : Words) : Type 0 where
  pub kept : IsOut mid → Kept w v swept
  pub clears : (c z : ℕ) → IsClearingAt c z mid → Kept (record w { block = put w.block c (swept_word (Need z) (lay.marks c)) }) v swept

-- a step on no block
abbrev IsOff : Step → Type 0
IsOff (OnBlock step) = ⊥
IsOff step = Unit {0}

off_written : (w : Words) (place : Place) (x : ℕ) (t : Step) → t ≡ Store place x → (v : Words) (swept : List ℕ) → Kept (after_step w (Store place x)) v swept → Kept w v swept
off_written w Stop x t e v swept k = record { block = k.block; used = k.used; none = k.none }
off_written w (Next f) x t e v swept k = record { block = k.block; used = k.used; none = k.none }
off_written w (Word n) x t e v swept k = record { block = k.block; used = k.used; none = k.none }
off_written w (Card c) x t e v swept k = record { block = k.block; used = k.used; none = k.none }
off_written w Head x t e v swept k = record { block = k.block; used = k.used; none = k.none }
off_written w (Cell j) x t e v swept k = record { block = k.block; used = k.used; none = k.none }

off_kept : (w : Words) (t : Step) → IsOff t → (v : Words) (swept : List ℕ) → Kept (after_step w t) v swept → Kept w v (taken_over t swept)
off_kept w (Load place saw) o v swept k = k
off_kept w (Store place new) o v swept k = off_written w place new (Store place new) refl v swept k
off_kept w (Won place seen new) o v swept k = off_written w place new (Store place new) refl v swept k
off_kept w (Lost place seen new found) o v swept k = k
off_kept w (OnBlock step) o v swept k = absurd o

no_test : (s : Statement) (test : Test) → test_of s ≡ Some test → IsMaking s → ⊥
no_test (New r class) test e m = let z : None ≡ Some test = e in cc
no_test (NewV r class count) test e m = let z : None ≡ Some test = e in cc
no_test s test e m = m

no_test_mature : (s : Statement) (test : Test) → test_of s ≡ Some test → ¬ IsMature s
no_test_mature (Mature r class) test e m = let z : None ≡ Some test = e in cc
no_test_mature s test e m = m

no_global_mature : (s : Statement) → IsGlobal s → ¬ IsMature s
no_global_mature (Mature r class) e m = e
no_global_mature s e m = m

no_making_mature : (s : Statement) → IsMaking s → ¬ IsMature s
no_making_mature (New r class) e m = m
no_making_mature (NewV r class count) e m = m
no_making_mature s e m = e

no_global : (s : Statement) → IsGlobal s → IsMaking s → ⊥
no_global (New r class) e m = e
no_global (NewV r class count) e m = e
no_global s e m = m

module _ (p : Program) (lay : Constants) (k : ℕ) where
  -- where no step comes any more
  stops : (w : Words) (mid m : Mid) → m ≡ mid → RestsAt m → Ends p lay k w mid [] m w
  stops w Idle m e r = (refl, e, refl)
  stops w (TestTag s test) m e r = absurd (subst RestsAt e r)
  stops w (TestLength s test class) m e r = absurd (subst RestsAt e r)
  stops w (Access s) m e r = absurd (subst RestsAt e r)
  stops w (MarkCard s card) m e r = absurd (subst RestsAt e r)
  stops w (AccessGlobal s) m e r = absurd (subst RestsAt e r)
  stops w (Look s f) m e r = absurd (subst RestsAt e r)
  stops w (Claim s f seen) m e r = (refl, e, refl)
  stops w (StoreLength s x) m e r = absurd (subst RestsAt e r)
  stops w (StoreTag s x) m e r = absurd (subst RestsAt e r)
  stops w (HideLength d s offset) m e r = absurd (subst RestsAt e r)
  stops w (SeeBlock t true c) m e r = (refl, e, refl)
  stops w (SeeBlock (Search s) false c) m e r = absurd (subst RestsAt e r)
  stops w (SeeBlock Roam false c) m e r = tt
  stops w (TakeBlock s c) m e r = (refl, e, refl)
  stops w (SeeUsed s c) m e r = absurd (subst RestsAt e r)
  stops w (TakeSlot s c i) m e r = (refl, e, refl)
  stops w (TakeOver t c z) m e r = (refl, e, refl)
  stops w (StoreOccupancy t c z) m e r = (refl, e, refl)
  stops w (ClearSlots t c z i) m e r = absurd (subst RestsAt e r)
  stops w (ClearWords t c z i f) m e r = absurd (subst RestsAt e r)
  stops w Retired m e r = (refl, e, refl)
  stops w (Ask s) m e r = absurd (subst RestsAt e r)
  stops w (Left s) m e r = (refl, e, refl)
  stops w Yielded m e r = (refl, e, refl)

  module _ (w : Words) (ks : List ℕ) (m : Mid) (v : Words) where
    decided : Stops w ks Idle m v → Decides k w (k ∷ ks) m v
    decided h = (ap (λ js. k ∷ js) h.0, h.1, h.2)

    -- a search that begins behind the last fragment is over
    searching : (s : Statement) (f : ℕ) → Ends p lay k w (looking lay s f) ks m v → (ks ≡ []) × Searched p lay w s f m v
    searching s f h = elim (cases_lt f lay.fragments) [
      | inl l ↦ subst (λ (mid : Mid). Ends p lay k w mid ks m v) (cond-true (nat_lt f lay.fragments) (Look s f) (Ask s) (lt-ltb f lay.fragments l)) h l
      | inr l ↦
          let e : Ends p lay k w (Ask s) ks m v =
          subst (λ (mid : Mid). Ends p lay k w mid ks m v) (cond-false (nat_lt f lay.fragments) (Look s f) (Ask s) (le-ltb f lay.fragments l)) h in
          (e.0, inr (λ i from there. absurd (omega arith), e.1, e.2))
    ]

    lacks_more : (n f : ℕ) (j : ℕ) → Lacks lay w n f → ((i : ℕ) → f + 1 ≤ i → i < j → Lacks lay w n i) → (i : ℕ) → f ≤ i → i < j → Lacks lay w n i
    lacks_more n f j here there i from below = elim (cases_eq i f) [
      | inl z ↦ subst (λ x. Lacks lay w n x) (sym z) here
      | inr o ↦ there i (omega (arith, o)) below
    ]

    -- a fragment without room, and the search behind it
    behind : (s : Statement) (f : ℕ) → Lacks lay w (made_words p s) f → Searched p lay w s (f + 1) m v → Searched p lay w s f m v
    behind s f here (inl (j, next, found, is, same)) = inl (
      j,
      next,
      record {
        from = let l = found.from in omega arith;
        there = found.there;
        is = found.is;
        room = found.room;
        lowest = lacks_more (made_words p s) f j here found.lowest;
      },
      is,
      same,
    )
    behind s f here (inr (none, is, set)) = inr (lacks_more (made_words p s) f lay.fragments here none, is, set)

    -- it is found at once
    at_once : (s : Statement) (f next : ℕ) → f < lay.fragments → w.next f ≡ byte_at next → next + made_words p s ≤ lay.limit f →
        Stops w ks (Claim s f next) m v →
        Searched p lay w s f m v
    at_once s f next l is room h = inl (
      f,
      next,
      record { from = omega arith; there = l; is = is; room = room; lowest = λ i from below. absurd (omega arith) },
      h.1,
      h.2,
    )

    -- a search for a slot that begins behind the last block is over
    searching_blocks : (s : Statement) (c : ℕ) → Ends p lay k w (onward p (Search s) c) ks m v → (ks ≡ []) × SearchedBlocks p w s c m v
    searching_blocks s c h = elim (cases_lt c p.config.blocks) [
      | inl l ↦
          let e : Ends p lay k w (SeeBlock (Search s) false c) ks m v =
          subst (λ (mid : Mid). Ends p lay k w mid ks m v)
          (cond-true (nat_lt c p.config.blocks) (SeeBlock (Search s) false c) (Ask s) (lt-ltb c p.config.blocks l)) h in
          e l
      | inr l ↦
          let e : Ends p lay k w (Ask s) ks m v =
          subst (λ (mid : Mid). Ends p lay k w mid ks m v)
          (cond-false (nat_lt c p.config.blocks) (SeeBlock (Search s) false c) (Ask s) (le-ltb c p.config.blocks l)) h in
          (e.0, inr (λ i from there. absurd (omega arith), e.1, e.2))
    ]

    passed_more : (z c j : ℕ) → IsPassedBy w z c → ((i : ℕ) → c + 1 ≤ i → i < j → IsPassedBy w z i) → (i : ℕ) → c ≤ i → i < j → IsPassedBy w z i
    passed_more z c j here there i from below = elim (cases_eq i c) [
      | inl e ↦ subst (λ x. IsPassedBy w z x) (sym e) here
      | inr o ↦ there i (omega (arith, o)) below
    ]

    behind_block : (s : Statement) (c : ℕ) → IsPassedBy w (made_slot p s) c → SearchedBlocks p w s (c + 1) m v → SearchedBlocks p w s c m v
    behind_block s c here (inl (j, met, same)) = inl (
      j,
      record {
        from = let l = met.from in omega arith;
        there = met.there;
        passes = passed_more (made_slot p s) c j here met.passes;
        meets = met.meets;
      },
      same,
    )
    behind_block s c here (inr (none, is, set)) = inr (passed_more (made_slot p s) c p.config.blocks here none, is, set)

    -- a block that is passed over, and one that isn't
    passes : (s : Statement) (c : ℕ) → IsPassedBy w (made_slot p s) c → Ends p lay k w (onward p (Search s) (c + 1)) ks m v → (ks ≡ []) × SearchedBlocks p w s c m v
    passes s c by h = let on = searching_blocks s (c + 1) h in (on.0, behind_block s c by on.1)

    meets : (s : Statement) (c : ℕ) → Meets p w s c m → ks ≡ [] → v.stop ≡ w.stop → c < p.config.blocks → (ks ≡ []) × SearchedBlocks p w s c m v
    meets s c met e same there =
        (e, inl (c, record { from = omega arith; there = there; passes = λ i from below. absurd (omega arith); meets = met }, same))

  -- one step on: who begins a turn has none before it
  on : (w : Words) (ks : List ℕ) (m : Mid) (v : Words) (a : Actor) (t : Step) (d : Bool) (b : Actor) → Comes p lay a t d b → ¬ RestsAt a.mid → Saw w t →
      Ends p lay k (after_step w t) b.mid ks m v → Ends p lay k w a.mid (cond d (k ∷ ks) ks) m v
  on w ks m v _ _ _ _ (test_null a s rest test e z) r saw h = absurd (r tt)
  on w ks m v _ _ _ _ (test_begins a s rest test e z) r saw h = absurd (r tt)
  on w ks m v _ _ _ _ (loads_tag a s rest test class there) r saw h = h
  on w ks m v _ _ _ _ (loads_length a s rest test class len short f) r saw h = h
  on w ks m v _ _ _ _ (test_fails a s rest test class len short f) r saw h = decided w ks m v h
  on w ks m v _ _ _ _ (put_stores a rest r' i s cardless) r saw h = decided w ks m v h
  on w ks m v _ _ _ _ (put_stores_old a rest r' i s has) r saw h = decided w ks m v h
  on w ks m v _ _ _ _ (marks_card a rest s card) r saw h = h
  on w ks m v _ _ _ _ (putd_stores a rest r' i s) r saw h = decided w ks m v h
  on w ks m v _ _ _ _ (get_loads a rest d r' i u ref) r saw h = decided w ks m v h
  on w ks m v _ _ _ _ (getd_loads a rest d r' i u) r saw h = decided w ks m v h
  on w ks m v _ _ _ _ (global_begins a s rest is) r saw h = absurd (r tt)
  on w ks m v _ _ _ _ (gput_stores a rest x r') r saw h = decided w ks m v h
  on w ks m v _ _ _ _ (gget_loads a rest r' x u ref) r saw h = decided w ks m v h
  on w ks m v _ _ _ _ (num_sets a rest d n) r saw h = absurd (r tt)
  on w ks m v _ _ _ _ (drop_clears a rest r') r saw h = absurd (r tt)
  on w ks m v _ _ _ _ (move_sets a rest d s) r saw h = absurd (r tt)
  on w ks m v _ _ _ _ (push_sets a rest r') r saw h = absurd (r tt)
  on w ks m v _ _ _ _ (pop_sets a rest r' top stack e) r saw h = absurd (r tt)
  on w ks m v _ _ _ _ (hide_null a rest d s offset z) r saw h = absurd (r tt)
  on w ks m v _ _ _ _ (hide_begins a rest d s offset z) r saw h = absurd (r tt)
  on w ks m v _ _ _ _ (hide_fits a rest d s offset len short f) r saw h = decided w ks m v h
  on w ks m v _ _ _ _ (hide_misses a rest d s offset len short f) r saw h = decided w ks m v h
  on w ks m v _ _ _ _ (unhide_sets a rest d s) r saw h = absurd (r tt)
  on w ks m v _ _ _ _ (same_tells a rest r' s) r saw h = absurd (r tt)
  on w ks m v _ _ _ _ (new_bumps a s rest making l) r saw h = absurd (r tt)
  on w ks m v _ _ _ _ (new_looks a s rest making l) r saw h = absurd (r tt)
  on w ks m v _ _ _ _ (look_finds a s rest f next l) r saw h = λ there. (h.0, at_once w ks m v s f next there saw l h)
  on w ks m v _ _ _ _ (look_goes_on a s rest f next l) r saw h = λ there.
      let on = searching w ks m v s (f + 1) h in
      (on.0, behind w ks m v s f (next, saw, l) on.1)
  on w ks m v _ _ _ _ (stop_asks a s rest request is) r saw h = absurd (r tt)
  on w ks m v _ _ _ _ (asks a rest s) r saw h = (h.0, h.1, λ z. let e : 1 ≡ 0 = sym h.2 ∙ z in absurd (omega arith))
  on w ks m v _ _ _ _ (yields a s rest word set) r saw h = absurd (r tt)
  on w ks m v _ _ _ _ (claim_wins a s rest f next) r saw h = absurd (r tt)
  on w ks m v _ _ _ _ (claim_moves a s rest f seen next later l) r saw h = absurd (r tt)
  on w ks m v _ _ _ _ (claim_goes_on a s rest f seen next later l) r saw h = absurd (r tt)
  on w ks m v _ _ _ _ (stores_length a s rest x) r saw h = h
  on w ks m v _ _ _ _ (stores_tag a s rest x) r saw h = h

  -- the same of a step on blocks
  on_block : (w : Words) (ks : List ℕ) (m : Mid) (v : Words) (a : Actor) (t : Step) (d : Bool) (b : Actor) → BlockComes p lay a t d b → ¬ RestsAt a.mid → Saw w t →
      Ends p lay k (after_step w t) b.mid ks m v → Ends p lay k w a.mid (cond d (k ∷ ks) ks) m v
  on_block w ks m v _ _ _ _ (mature_begins a s rest is) r saw h = absurd (r tt)
  on_block w ks m v _ _ _ _ (sees_free a s rest true c) r saw h = absurd (r tt)
  on_block w ks m v _ _ _ _ (sees_free a s rest false c) r saw h = λ there. meets w ks m v s c (AFree saw h.1) h.0 h.2 there
  on_block w ks m v _ _ _ _ (takes_block a s rest c) r saw h = absurd (r tt)
  on_block w ks m v _ _ _ _ (misses_block a s rest c found) r saw h = absurd (r tt)
  on_block w ks m v _ _ _ _ (sees_size a s rest true c) r saw h = absurd (r tt)
  on_block w ks m v _ _ _ _ (sees_size a s rest false c) r saw h = λ there. h saw there
  on_block w ks m v _ _ _ _ (sees_full a s rest c seen full) r saw h =
      λ word there. passes w ks m v s c (Full word (subst (λ u. AreTaken u (slots (made_slot p s))) (sym saw) full)) h
  on_block w ks m v _ _ _ _ (sees_slot a s rest c i seen fits clear taken) r saw h =
      λ word there. meets w ks m v s c (ASlot i word fits (ap (λ u. bit_at u i) saw ∙ clear) (subst (λ u. AreTaken u i) (sym saw) taken) h.1) h.0 h.2 there
  on_block w ks m v _ _ _ _ (takes_slot a s rest c i found clear) r saw h = absurd (r tt)
  on_block w ks m v _ _ _ _ (misses_slot a s rest c i found set) r saw h = absurd (r tt)
  on_block w ks m v _ _ _ _ (sees_other a s rest true c z differs) r saw h = absurd (r tt)
  on_block w ks m v _ _ _ _ (sees_other a s rest false c z differs) r saw h = λ there. passes w ks m v s c (Other z saw differs) h
  on_block w ks m v _ _ _ _ (sees_sweeping a t rest true c z may) r saw h = absurd (r tt)
  on_block w ks m v _ _ _ _ (sees_sweeping a (Search s) rest false c z may) r saw h = λ there. passes w ks m v s c (Busy z saw) h
  on_block w ks m v _ _ _ _ (sees_sweeping a Roam rest false c z may) r saw h = tt
  on_block w ks m v _ _ _ _ (sees_need a t rest true c z may class) r saw h = absurd (r tt)
  on_block w ks m v _ _ _ _ (sees_need a (Search s) rest false c z may class) r saw h = λ there. meets w ks m v s c (AnOwed z class saw h.1) h.0 h.2 there
  on_block w ks m v _ _ _ _ (sees_need a Roam rest false c z may class) r saw h = tt
  on_block w ks m v _ _ _ _ (takes_over a t rest c z) r saw h = absurd (r tt)
  on_block w ks m v _ _ _ _ (misses_sweep a t rest c z found) r saw h = absurd (r tt)
  on_block w ks m v _ _ _ _ (stores_occupancy a t rest c z) r saw h = absurd (r tt)
  on_block w ks m v _ _ _ _ (clears_first a t rest c z i j from fits marked clear more) r saw h = h
  on_block w ks m v _ _ _ _ (clears_next a t rest c z i f more) r saw h = h
  on_block w ks m v _ _ _ _ (clears_last a t rest c z i f last) r saw h = h
  on_block w ks m v _ _ _ _ (ends_sweep a t rest c z i marked) r saw h = h
  on_block w ks m v _ _ _ _ (roams_on a rest c) r saw h = absurd (r tt)
  on_block w ks m v _ _ _ _ (retires a rest c seen set) r saw h = absurd (r tt)
  on_block w ks m v _ _ _ _ (roams_free a rest c) r saw h = tt
  on_block w ks m v _ _ _ _ (roams_swept a rest c z) r saw h = tt

  out_looking : (s : Statement) (f : ℕ) → IsOut (looking lay s f)
  out_looking s f = elim (cases_lt f lay.fragments) [
    | inl l ↦ subst IsOut (sym (cond-true (nat_lt f lay.fragments) (Look s f) (Ask s) (lt-ltb f lay.fragments l))) (λ c z q. q)
    | inr l ↦ subst IsOut (sym (cond-false (nat_lt f lay.fragments) (Look s f) (Ask s) (le-ltb f lay.fragments l))) (λ c z q. q)
  ]

  out_onward : (t : Task) (c : ℕ) → IsOut (onward p t c)
  out_onward t c = elim (cases_lt c p.config.blocks) [
    | inl l ↦ subst IsOut (sym (cond-true (nat_lt c p.config.blocks) (SeeBlock t false c) (ends_at t) (lt-ltb c p.config.blocks l))) (λ d z q. q)
    | inr l ↦ subst IsOut (sym (cond-false (nat_lt c p.config.blocks) (SeeBlock t false c) (ends_at t) (le-ltb c p.config.blocks l))) (last t)
  ]
    where
      last : (t : Task) → IsOut (ends_at t)
      last (Search s) = λ d z q. q
      last Roam = λ d z q. q

  -- the first step of a turn
  begins : (w : Words) (ks swept : List ℕ) (m : Mid) (v : Words) (a : Actor) (t : Step) (d : Bool) (b : Actor) → Comes p lay a t d b → RestsAt a.mid → Saw w t →
      Ends p lay k (after_step w t) b.mid ks m v →
      Effect lay (after_step w t) b.mid swept v → Turned p lay k w a t d (cond d (k ∷ ks) ks) (taken_over t swept) m v
  begins w ks swept m v _ _ _ _ (test_null a s rest test e z) r saw h e' = IsDone s rest refl refl saw (λ n. absurd (no_test s test e n)) (no_test_mature s test e) (decided w ks m v h) (e'.kept (λ c z q. q))
  begins w ks swept m v _ _ _ _ (test_begins a s rest test e z) r saw h e' = IsDone s rest refl refl saw (λ n. absurd (no_test s test e n)) (no_test_mature s test e) h (e'.kept (λ c z q. q))
  begins w ks swept m v _ _ _ _ (loads_tag a s rest test class there) r saw h e' = absurd r
  begins w ks swept m v _ _ _ _ (loads_length a s rest test class len short f) r saw h e' = absurd r
  begins w ks swept m v _ _ _ _ (test_fails a s rest test class len short f) r saw h e' = absurd r
  begins w ks swept m v _ _ _ _ (put_stores a rest r' i s cardless) r saw h e' = absurd r
  begins w ks swept m v _ _ _ _ (put_stores_old a rest r' i s has) r saw h e' = absurd r
  begins w ks swept m v _ _ _ _ (marks_card a rest s card) r saw h e' = absurd r
  begins w ks swept m v _ _ _ _ (putd_stores a rest r' i s) r saw h e' = absurd r
  begins w ks swept m v _ _ _ _ (get_loads a rest d r' i u ref) r saw h e' = absurd r
  begins w ks swept m v _ _ _ _ (getd_loads a rest d r' i u) r saw h e' = absurd r
  begins w ks swept m v _ _ _ _ (global_begins a s rest is) r saw h e' = IsDone s rest refl refl saw (λ n. absurd (no_global s is n)) (no_global_mature s is) h (e'.kept (λ c z q. q))
  begins w ks swept m v _ _ _ _ (gput_stores a rest x r') r saw h e' = absurd r
  begins w ks swept m v _ _ _ _ (gget_loads a rest r' x u ref) r saw h e' = absurd r
  begins w ks swept m v _ _ _ _ (num_sets a rest d n) r saw h e' = IsDone _ rest refl refl saw (λ n. absurd n) (λ n. n) (decided w ks m v h) (e'.kept (λ c z q. q))
  begins w ks swept m v _ _ _ _ (drop_clears a rest r') r saw h e' = IsDone _ rest refl refl saw (λ n. absurd n) (λ n. n) (decided w ks m v h) (e'.kept (λ c z q. q))
  begins w ks swept m v _ _ _ _ (move_sets a rest d s) r saw h e' = IsDone _ rest refl refl saw (λ n. absurd n) (λ n. n) (decided w ks m v h) (e'.kept (λ c z q. q))
  begins w ks swept m v _ _ _ _ (push_sets a rest r') r saw h e' = IsDone _ rest refl refl saw (λ n. absurd n) (λ n. n) (decided w ks m v h) (e'.kept (λ c z q. q))
  begins w ks swept m v _ _ _ _ (pop_sets a rest r' top stack e) r saw h e' = IsDone _ rest refl refl saw (λ n. absurd n) (λ n. n) (decided w ks m v h) (e'.kept (λ c z q. q))
  begins w ks swept m v _ _ _ _ (hide_null a rest d s offset z) r saw h e' = IsDone _ rest refl refl saw (λ n. absurd n) (λ n. n) (decided w ks m v h) (e'.kept (λ c z q. q))
  begins w ks swept m v _ _ _ _ (hide_begins a rest d s offset z) r saw h e' = IsDone (Hide d s offset) rest refl refl saw (λ n. absurd n) (λ n. n) h (e'.kept (λ c z q. q))
  begins w ks swept m v _ _ _ _ (hide_fits a rest d s offset len short f) r saw h e' = absurd r
  begins w ks swept m v _ _ _ _ (hide_misses a rest d s offset len short f) r saw h e' = absurd r
  begins w ks swept m v _ _ _ _ (unhide_sets a rest d s) r saw h e' = IsDone _ rest refl refl saw (λ n. absurd n) (λ n. n) (decided w ks m v h) (e'.kept (λ c z q. q))
  begins w ks swept m v _ _ _ _ (same_tells a rest r' s) r saw h e' = IsDone _ rest refl refl saw (λ n. absurd n) (λ n. n) (decided w ks m v h) (e'.kept (λ c z q. q))
  begins w ks swept m v _ _ _ _ (new_bumps a s rest making l) r saw h e' = IsDone s rest refl refl saw (λ n. l) (no_making_mature s making) (decided w ks m v h) (e'.kept (λ c z q. q))
  begins w ks swept m v _ _ _ _ (new_looks a s rest making l) r saw h e' =
      let on = searching w ks m v s 0 h in
      Looks s rest refl refl saw making l on.0 on.1 (e'.kept (out_looking s 0))
  begins w ks swept m v _ _ _ _ (look_finds a s rest f next l) r saw h e' = absurd r
  begins w ks swept m v _ _ _ _ (look_goes_on a s rest f next l) r saw h e' = absurd r
  begins w ks swept m v _ _ _ _ (stop_asks a s rest request is) r saw h e' = Gathers s rest request is refl refl saw h.0 h.1 h.2 (e'.kept (λ c z q. q))
  begins w ks swept m v _ _ _ _ (asks a rest s) r saw h e' = absurd r
  begins w ks swept m v _ _ _ _ (yields a s rest word set) r saw h e' = GivesWay s rest refl refl (λ z. set (sym saw ∙ z)) h.0 h.1 h.2 (e'.kept (λ c z q. q))
  begins w ks swept m v _ _ _ _ (claim_wins a s rest f next) r saw h e' = Wins s f next refl saw (decided w ks m v h) (off_written w (Next f) _ _ refl v swept (e'.kept (λ c z q. q)))
  begins w ks swept m v _ _ _ _ (claim_moves a s rest f seen next later l) r saw h e' =
      Loses s f seen refl (λ z. saw.1 (sym saw.0 ∙ z)) h.0 (λ there. at_once w ks m v s f next there saw.0 l h) (e'.kept (λ c z q. q))
  begins w ks swept m v _ _ _ _ (claim_goes_on a s rest f seen next later l) r saw h e' =
      let on = searching w ks m v s (f + 1) h in
      Loses s f seen refl (λ z. saw.1 (sym saw.0 ∙ z)) on.0 (λ there. behind w ks m v s f (next, saw.0, l) on.1) (e'.kept (out_looking s (f + 1)))
  begins w ks swept m v _ _ _ _ (stores_length a s rest x) r saw h e' = absurd r
  begins w ks swept m v _ _ _ _ (stores_tag a s rest x) r saw h e' = absurd r

  -- and where it is one on blocks
  begins_block : (w : Words) (ks swept : List ℕ) (m : Mid) (v : Words) (a : Actor) (t : Step) (d : Bool) (b : Actor) → BlockComes p lay a t d b → RestsAt a.mid → Saw w t →
      Ends p lay k (after_step w t) b.mid ks m v → Effect lay (after_step w t) b.mid swept v → Turned p lay k w a t d (cond d (k ∷ ks) ks) (taken_over t swept) m v
  begins_block w ks swept m v _ _ _ _ (mature_begins a s rest is) r saw h e' =
      let on = searching_blocks w ks m v s 0 h in
      Matures s rest refl refl saw is on.0 on.1 (e'.kept (out_onward (Search s) 0))
  begins_block w ks swept m v _ _ _ _ (sees_free a s rest true c) r saw h e' =
      GoesOn s c refl (λ there. meets w ks m v s c (AFree saw h.1) h.0 h.2 there) (e'.kept (λ d z q. q))
  begins_block w ks swept m v _ _ _ _ (sees_free a s rest false c) r saw h e' = absurd r
  begins_block w ks swept m v _ _ _ _ (takes_block a s rest c) r saw h e' = WinsBlock s c refl saw h (e'.kept (λ d z q. q))
  begins_block w ks swept m v _ _ _ _ (misses_block a s rest c found) r saw h e' =
      LosesBlock s c refl (λ z. saw.1 (sym saw.0 ∙ z)) h (e'.kept (λ d z q. q))
  begins_block w ks swept m v _ _ _ _ (sees_size a s rest true c) r saw h e' = GoesOn s c refl (λ there. h saw there) (e'.kept (λ d z q. q))
  begins_block w ks swept m v _ _ _ _ (sees_size a s rest false c) r saw h e' = absurd r
  begins_block w ks swept m v _ _ _ _ (sees_full a s rest c seen full) r saw h e' = absurd r
  begins_block w ks swept m v _ _ _ _ (sees_slot a s rest c i seen fits clear taken) r saw h e' = absurd r
  begins_block w ks swept m v _ _ _ _ (takes_slot a s rest c i found clear) r saw h e' =
      WinsSlot s c i found refl refl refl (ap (λ u. bit_at u i) saw ∙ clear) (decided w ks m v h) (e'.kept (λ d z q. q))
  begins_block w ks swept m v _ _ _ _ (misses_slot a s rest c i found set) r saw h e' =
      LosesSlot s c i refl (ap (λ u. bit_at u i) saw ∙ set) h (e'.kept (λ d z q. q))
  begins_block w ks swept m v _ _ _ _ (sees_other a s rest true c z differs) r saw h e' =
      GoesOn s c refl (λ there. passes w ks m v s c (Other z saw differs) h) (e'.kept (out_onward (Search s) (c + 1)))
  begins_block w ks swept m v _ _ _ _ (sees_other a s rest false c z differs) r saw h e' = absurd r
  begins_block w ks swept m v _ _ _ _ (sees_sweeping a (Search s) rest true c z may) r saw h e' =
      GoesOn s c refl (λ there. passes w ks m v s c (Busy z saw) h) (e'.kept (out_onward (Search s) (c + 1)))
  begins_block w ks swept m v _ _ _ _ (sees_sweeping a Roam rest true c z may) r saw h e' = Roams tt
  begins_block w ks swept m v _ _ _ _ (sees_sweeping a t rest false c z may) r saw h e' = absurd r
  begins_block w ks swept m v _ _ _ _ (sees_need a (Search s) rest true c z may class) r saw h e' =
      GoesOn s c refl (λ there. meets w ks m v s c (AnOwed z class saw h.1) h.0 h.2 there) (e'.kept (λ d y q. q))
  begins_block w ks swept m v _ _ _ _ (sees_need a Roam rest true c z may class) r saw h e' = Roams tt
  begins_block w ks swept m v _ _ _ _ (sees_need a t rest false c z may class) r saw h e' = absurd r
  begins_block w ks swept m v _ _ _ _ (takes_over a (Search s) rest c z) r saw h e' =
      WinsSweep s c z swept refl saw h.0 h.1 h.2 refl (e'.kept (λ d y q. q))
  begins_block w ks swept m v _ _ _ _ (takes_over a Roam rest c z) r saw h e' = Roams tt
  begins_block w ks swept m v _ _ _ _ (misses_sweep a (Search s) rest c z found) r saw h e' =
      LosesSweep s c z refl (λ e. saw.1 (sym saw.0 ∙ e)) h (e'.kept (λ d y q. q))
  begins_block w ks swept m v _ _ _ _ (misses_sweep a Roam rest c z found) r saw h e' = Roams tt
  begins_block w ks swept m v _ _ _ _ (stores_occupancy a (Search s) rest c z) r saw h e' =
      let made = e'.clears c z (refl, refl) in
      SweepsOne s c z refl h.0 h.1 h.2 made.block made.used made.none
  begins_block w ks swept m v _ _ _ _ (stores_occupancy a Roam rest c z) r saw h e' = Roams tt
  begins_block w ks swept m v _ _ _ _ (clears_first a t rest c z i j from fits marked clear more) r saw h e' = absurd r
  begins_block w ks swept m v _ _ _ _ (clears_next a t rest c z i f more) r saw h e' = absurd r
  begins_block w ks swept m v _ _ _ _ (clears_last a t rest c z i f last) r saw h e' = absurd r
  begins_block w ks swept m v _ _ _ _ (ends_sweep a t rest c z i marked) r saw h e' = absurd r
  begins_block w ks swept m v _ _ _ _ (roams_on a rest c) r saw h e' = Roams tt
  begins_block w ks swept m v _ _ _ _ (retires a rest c seen set) r saw h e' = Roams tt
  begins_block w ks swept m v _ _ _ _ (roams_free a rest c) r saw h e' = absurd r
  begins_block w ks swept m v _ _ _ _ (roams_swept a rest c z) r saw h e' = absurd r

  -- no step but one on a block changes blocks, and none of them stands in the midst of a sweep
  off : (a : Actor) (t : Step) (d : Bool) (b : Actor) → Comes p lay a t d b → IsOff t × IsOut a.mid × IsOut b.mid
  off _ _ _ _ (test_null a s rest test e z) = (tt, (λ c z q. q), (λ c z q. q))
  off _ _ _ _ (test_begins a s rest test e z) = (tt, (λ c z q. q), (λ c z q. q))
  off _ _ _ _ (loads_tag a s rest test class there) = (tt, (λ c z q. q), (λ c z q. q))
  off _ _ _ _ (loads_length a s rest test class len short f) = (tt, (λ c z q. q), (λ c z q. q))
  off _ _ _ _ (test_fails a s rest test class len short f) = (tt, (λ c z q. q), (λ c z q. q))
  off _ _ _ _ (put_stores a rest r' i s cardless) = (tt, (λ c z q. q), (λ c z q. q))
  off _ _ _ _ (put_stores_old a rest r' i s has) = (tt, (λ c z q. q), (λ c z q. q))
  off _ _ _ _ (marks_card a rest s card) = (tt, (λ c z q. q), (λ c z q. q))
  off _ _ _ _ (putd_stores a rest r' i s) = (tt, (λ c z q. q), (λ c z q. q))
  off _ _ _ _ (get_loads a rest d r' i u ref) = (tt, (λ c z q. q), (λ c z q. q))
  off _ _ _ _ (getd_loads a rest d r' i u) = (tt, (λ c z q. q), (λ c z q. q))
  off _ _ _ _ (global_begins a s rest is) = (tt, (λ c z q. q), (λ c z q. q))
  off _ _ _ _ (gput_stores a rest x r') = (tt, (λ c z q. q), (λ c z q. q))
  off _ _ _ _ (gget_loads a rest r' x u ref) = (tt, (λ c z q. q), (λ c z q. q))
  off _ _ _ _ (num_sets a rest d n) = (tt, (λ c z q. q), (λ c z q. q))
  off _ _ _ _ (drop_clears a rest r') = (tt, (λ c z q. q), (λ c z q. q))
  off _ _ _ _ (move_sets a rest d s) = (tt, (λ c z q. q), (λ c z q. q))
  off _ _ _ _ (push_sets a rest r') = (tt, (λ c z q. q), (λ c z q. q))
  off _ _ _ _ (pop_sets a rest r' top stack e) = (tt, (λ c z q. q), (λ c z q. q))
  off _ _ _ _ (hide_null a rest d s offset z) = (tt, (λ c z q. q), (λ c z q. q))
  off _ _ _ _ (hide_begins a rest d s offset z) = (tt, (λ c z q. q), (λ c z q. q))
  off _ _ _ _ (hide_fits a rest d s offset len short f) = (tt, (λ c z q. q), (λ c z q. q))
  off _ _ _ _ (hide_misses a rest d s offset len short f) = (tt, (λ c z q. q), (λ c z q. q))
  off _ _ _ _ (unhide_sets a rest d s) = (tt, (λ c z q. q), (λ c z q. q))
  off _ _ _ _ (same_tells a rest r' s) = (tt, (λ c z q. q), (λ c z q. q))
  off _ _ _ _ (new_bumps a s rest making l) = (tt, (λ c z q. q), (λ c z q. q))
  off _ _ _ _ (new_looks a s rest making l) = (tt, (λ c z q. q), out_looking s 0)
  off _ _ _ _ (look_finds a s rest f next l) = (tt, (λ c z q. q), (λ c z q. q))
  off _ _ _ _ (look_goes_on a s rest f next l) = (tt, (λ c z q. q), out_looking s (f + 1))
  off _ _ _ _ (stop_asks a s rest request is) = (tt, (λ c z q. q), (λ c z q. q))
  off _ _ _ _ (asks a rest s) = (tt, (λ c z q. q), (λ c z q. q))
  off _ _ _ _ (yields a s rest word set) = (tt, (λ c z q. q), (λ c z q. q))
  off _ _ _ _ (claim_wins a s rest f next) = (tt, (λ c z q. q), (λ c z q. q))
  off _ _ _ _ (claim_moves a s rest f seen next later l) = (tt, (λ c z q. q), (λ c z q. q))
  off _ _ _ _ (claim_goes_on a s rest f seen next later l) = (tt, (λ c z q. q), out_looking s (f + 1))
  off _ _ _ _ (stores_length a s rest x) = (tt, (λ c z q. q), (λ c z q. q))
  off _ _ _ _ (stores_tag a s rest x) = (tt, (λ c z q. q), (λ c z q. q))

  effect : (w : Words) (swept : List ℕ) (v : Words) (a : Actor) (t : Step) (d : Bool) (b : Actor) → Comes p lay a t d b → Effect lay (after_step w t) b.mid swept v →
      Effect lay w a.mid (taken_over t swept) v
  effect w swept v a t d b comes e =
      let o = off a t d b comes in
      record { kept = λ out. off_kept w t o.0 v swept (e.kept o.2); clears = λ c z q. absurd (o.1 c z q) }

  effect_block : (w : Words) (swept : List ℕ) (v : Words) (a : Actor) (t : Step) (d : Bool) (b : Actor) → BlockComes p lay a t d b → ¬ RestsAt a.mid →
      Effect lay (after_step w t) b.mid swept v → Effect lay w a.mid (taken_over t swept) v
  effect_block w swept v _ _ _ _ (mature_begins a s rest is) r e = absurd (r tt)
  effect_block w swept v _ _ _ _ (sees_free a s rest begins c) r e = record { kept = λ out. e.kept (λ d z q. q); clears = λ d z q. absurd q }
  effect_block w swept v _ _ _ _ (takes_block a s rest c) r e = absurd (r tt)
  effect_block w swept v _ _ _ _ (misses_block a s rest c found) r e = absurd (r tt)
  effect_block w swept v _ _ _ _ (sees_size a s rest begins c) r e = record { kept = λ out. e.kept (λ d z q. q); clears = λ d z q. absurd q }
  effect_block w swept v _ _ _ _ (sees_full a s rest c seen full) r e =
      record { kept = λ out. e.kept (out_onward (Search s) (c + 1)); clears = λ d z q. absurd q }
  effect_block w swept v _ _ _ _ (sees_slot a s rest c i seen fits clear taken) r e = record { kept = λ out. e.kept (λ d z q. q); clears = λ d z q. absurd q }
  effect_block w swept v _ _ _ _ (takes_slot a s rest c i found clear) r e = absurd (r tt)
  effect_block w swept v _ _ _ _ (misses_slot a s rest c i found set) r e = absurd (r tt)
  effect_block w swept v _ _ _ _ (sees_other a s rest begins c z differs) r e =
      record { kept = λ out. e.kept (out_onward (Search s) (c + 1)); clears = λ d y q. absurd q }
  effect_block w swept v _ _ _ _ (sees_sweeping a t rest begins c z may) r e =
      record { kept = λ out. e.kept (out_onward t (c + 1)); clears = λ d y q. absurd q }
  effect_block w swept v _ _ _ _ (sees_need a t rest begins c z may class) r e = record { kept = λ out. e.kept (λ d y q. q); clears = λ d y q. absurd q }
  effect_block w swept v _ _ _ _ (takes_over a t rest c z) r e = absurd (r tt)
  effect_block w swept v _ _ _ _ (misses_sweep a t rest c z found) r e = absurd (r tt)
  effect_block w swept v _ _ _ _ (stores_occupancy a t rest c z) r e = absurd (r tt)
  effect_block w swept v _ _ _ _ (clears_first a t rest c z i j from fits marked clear more) r e =
      record { kept = λ out. absurd (out c z (refl, refl)); clears = λ d y q. let made = e.clears d y q in record { block = made.block; used = made.used; none = made.none } }
  effect_block w swept v _ _ _ _ (clears_next a t rest c z i f more) r e =
      record { kept = λ out. absurd (out c z (refl, refl)); clears = λ d y q. let made = e.clears d y q in record { block = made.block; used = made.used; none = made.none } }
  effect_block w swept v _ _ _ _ (clears_last a t rest c z i f last) r e =
      record { kept = λ out. absurd (out c z (refl, refl)); clears = λ d y q. let made = e.clears d y q in record { block = made.block; used = made.used; none = made.none } }
  effect_block w swept v _ _ _ _ (ends_sweep a t rest c z i marked) r e = record {
    kept = λ out. absurd (out c z (refl, refl));
    clears = λ d y q. subst (λ x. Kept (record w { block = put w.block x (swept_word (Need y) (lay.marks x)) }) v swept) (sym q.0)
        (subst (λ x. Kept (record w { block = put w.block c (swept_word (Need x) (lay.marks c)) }) v swept) (sym q.1) (e.kept (λ d y q. q)));
  }
  effect_block w swept v _ _ _ _ (roams_on a rest c) r e = absurd (r tt)
  effect_block w swept v _ _ _ _ (retires a rest c seen set) r e = absurd (r tt)
  effect_block w swept v _ _ _ _ (roams_free a rest c) r e = record { kept = λ out. e.kept (out_onward Roam (c + 1)); clears = λ d z q. absurd q }
  effect_block w swept v _ _ _ _ (roams_swept a rest c z) r e = record { kept = λ out. e.kept (out_onward Roam (c + 1)); clears = λ d y q. absurd q }

  out_resting : (mid : Mid) → RestsAt mid → IsOut mid
  out_resting (ClearSlots t c z i) r = absurd r
  out_resting (ClearWords t c z i f) r = absurd r
  out_resting mid r = λ c z q. q

  -- a step of either sort
  on_step : (w : Words) (ks : List ℕ) (m : Mid) (v : Words) (a : Actor) (t : Step) (d : Bool) (b : Actor) → NextStep p lay a t d b → ¬ RestsAt a.mid → Saw w t →
      Ends p lay k (after_step w t) b.mid ks m v → Ends p lay k w a.mid (cond d (k ∷ ks) ks) m v
  on_step w ks m v a t d b (inl comes) r saw h = on w ks m v a t d b comes r saw h
  on_step w ks m v a t d b (inr comes) r saw h = on_block w ks m v a t d b comes r saw h

  effect_step : (w : Words) (swept : List ℕ) (v : Words) (a : Actor) (t : Step) (d : Bool) (b : Actor) → NextStep p lay a t d b → ¬ RestsAt a.mid →
      Effect lay (after_step w t) b.mid swept v → Effect lay w a.mid (taken_over t swept) v
  effect_step w swept v a t d b (inl comes) r e = effect w swept v a t d b comes e
  effect_step w swept v a t d b (inr comes) r e = effect_block w swept v a t d b comes r e

  begins_step : (w : Words) (ks swept : List ℕ) (m : Mid) (v : Words) (a : Actor) (t : Step) (d : Bool) (b : Actor) → NextStep p lay a t d b → RestsAt a.mid → Saw w t →
      Ends p lay k (after_step w t) b.mid ks m v → Effect lay (after_step w t) b.mid swept v → Turned p lay k w a t d (cond d (k ∷ ks) ks) (taken_over t swept) m v
  begins_step w ks swept m v a t d b (inl comes) r saw h e = begins w ks swept m v a t d b comes r saw h e
  begins_step w ks swept m v a t d b (inr comes) r saw h e = begins_block w ks swept m v a t d b comes r saw h e

  -- the steps that end a turn, with marks
  record Ended (w : Words) (a : Actor) (steps : List Step) (b : Actor) : Type 0 where
    ticks : List Tick
    steps_are : steps_of ticks ≡ steps
    follows : Follows p lay a ticks b
    ends : Ends p lay k w a.mid (order_of (by_one k ticks)) b.mid (replayed w steps)
    effects : Effect lay w a.mid (swept_of (by_one k ticks)) (replayed w steps)

  ends_so : (steps : List Step) (w : Words) (a b : Actor) → FollowsBy (ActsOn p lay) a steps b → RestsAt b.mid → IsLegal w steps → Ended w a steps b
  ends_so [] w a b f r l = record { ticks = []; steps_are = refl; follows = f; ends = stops w a.mid b.mid (ap (λ (x : Actor). x.mid) f) r; effects = record { kept = λ out. record { block = refl; used = refl; none = refl }; clears = λ c z q. absurd (out_resting a.mid (subst RestsAt (ap (λ (x : Actor). x.mid) f) r) c z q) } }
  ends_so (t ∷ steps) w a b f r l =
      let more = ends_so steps (after_step w t) f.0 b f.2 r l.1 in
      record {
        ticks = record { step = t; decides = f.1.1.0 } ∷ more.ticks;
        steps_are = ap (λ ss. t ∷ ss) more.steps_are;
        follows = (f.0, f.1.1.1, more.follows);
        ends = on_step w (order_of (by_one k more.ticks)) b.mid (replayed (after_step w t) steps) a t f.1.1.0 f.0 f.1.1.1 f.1.0 l.0 more.ends;
        effects = effect_step w (swept_of (by_one k more.ticks)) (replayed (after_step w t) steps) a t f.1.1.0 f.0 f.1.1.1 f.1.0 more.effects;
      }

  -- the steps of a turn, with marks
  pub record HasRun (w : Words) (a : Actor) (steps : List Step) (b : Actor) : Type 0 where
    pub ticks : List Tick
    pub first : Step
    pub decides : Bool
    pub more : List Tick
    pub ticks_are : ticks ≡ record { step = first; decides = decides } ∷ more
    pub steps_are : steps_of ticks ≡ steps
    pub follows : Follows p lay a ticks b
    pub turned : Turned p lay k w a first decides (order_of (by_one k ticks)) (swept_of (by_one k ticks)) b.mid (replayed w steps)

  pub runs : (w : Words) (a : Actor) (steps : List Step) (b : Actor) → RestsAt a.mid → IsTurn p lay a steps b → IsLegal w steps → HasRun w a steps b
  runs w a steps b rests turn legal = subst (λ ss. HasRun w a ss b) (sym turn.steps_are) whole
    where
      t : Step
      t = turn.first

      l : IsLegal w (turn.first ∷ turn.more)
      l = subst (IsLegal w) turn.steps_are legal

      more : Ended (after_step w turn.first) turn.then turn.more b
      more = ends_so turn.more (after_step w turn.first) turn.then b turn.goes turn.rests l.1

      whole : HasRun w a (turn.first ∷ turn.more) b
      whole = record {
        ticks = record { step = turn.first; decides = turn.begins.0 } ∷ more.ticks;
        first = turn.first;
        decides = turn.begins.0;
        more = more.ticks;
        ticks_are = refl;
        steps_are = ap (λ ss. turn.first ∷ ss) more.steps_are;
        follows = (turn.then, turn.begins.1, more.follows);
        turned = begins_step w (order_of (by_one k more.ticks)) (swept_of (by_one k more.ticks)) b.mid (replayed (after_step w turn.first) turn.more) a turn.first
            turn.begins.0 turn.then turn.begins.1 rests l.0 more.ends more.effects;
      }
