-- A worker is never stuck: whatever a call for a next step of it sees, some rule applies, and one that hasn't ended can take a step.
use Rattle.std.proofs.Common.{◌≡◌, ◌≢◌, ℕ, zero, suc, ◌+◌, ◌*◌, ◌<◌, ◌≤◌, ◌⊎◌, List, [], ◌∷◌, ◌++◌, ap, ap₂, sym, ◌∙◌, subst, inl, inr, refl}
use Rattle.std.proofs.Common.{arith}
use Rattle.std.proofs.lemmas.Bool.{cases_eq, cases_lt, cases_Bool}
use Rattle.std.specs.Int.{bit_at}
use Rattle.sg_words.specs.Address.{byte_at, word_at}
use Rattle.sg_words.specs.Tags.{plain_word, pinned_word, forward_word}
use Rattle.sg_words.specs.Lists.{has}
use Rattle.sg_words.specs.Blocks.{slots}
use Rattle.sg_words.specs.declared.steps.Place.{Place}
use Rattle.sg_words.specs.declared.steps.Place.TheVariants.{Word, Card, Cell}
use Rattle.sg_words.specs.declared.steps.BlockWord.{BlockWord}
use Rattle.sg_words.specs.declared.steps.BlockWord.TheVariants.{Free, Swept, Need, Sweeping}
use Rattle.sg_words.specs.declared.steps.BlockStep.{BlockStep}
use Rattle.sg_words.specs.declared.steps.BlockStep.TheVariants.{LoadBlock, WonBlock, LostBlock, StoreBlock, LoadUsed, OrUsed, StoreUsed, LoadMarks, OrMarks}
use Rattle.sg_words.specs.declared.steps.BlockStep.TheVariants.{StoreMarks, Zero}
use Rattle.sg_words.specs.declared.steps.Step.{Step}
use Rattle.sg_words.specs.declared.steps.Step.TheVariants.{Load, Store, Won, Lost, OnBlock}
use Rattle.sg_words.specs.declared.steps.BlockCall.{BlockCall}
use Rattle.sg_words.specs.declared.steps.BlockCall.TheVariants.{LoadsBlock, SwapsBlock, LoadsUsed, OrsUsed}
use Rattle.sg_words.specs.declared.steps.Call.TheVariants.{Loads, Stores, Swaps, OnBlocks}
use Rattle.sg_words.specs.Calls.{block_call_of, call_of}
use Rattle.sg_words.specs.Words.{Words, read, SawBlock, Saw}
use Rattle.sg_words.proofs.Blocks.{bit_cases}
use Rattle.sg_round.specs.Area.{Area, IsYoung, IsFixed, HasCard, Traces, card_at}
use Rattle.sg_round.specs.Items.{Item, SlotOf, WholeOf, cell_word, own_cell, looked_cell}
use Rattle.sg_round.specs.Worker.{Object, Stage, Look, Size, Room, Take, Slots, Mark, Body, Puts, Swap, Pin, Send, Dirty, Mid, Idle, Took, Count, On, Offer}
use Rattle.sg_round.specs.Worker.{Seek, Grab, Over, Worker, size_for, on}
use Rattle.sg_round.specs.Rules.{Effect, IsNext, MayOffer, IsLooking, Comes}
use Rattle.sg_round.specs.Rules.IsNext.{Of_hand, Of_list, Of_cell}
use Rattle.sg_round.specs.Rules.Comes.{opens, counts, sees_none, sees, looks_forwarded, looks_fixed, looks_bare, looks_plain, has_spare, has_none, finds_free}
use Rattle.sg_round.specs.Rules.Comes.{finds_swept, finds_other, takes, takes_not}
use Rattle.sg_round.specs.Rules.Comes.{finds_clear, finds_full, marks, marks_not, reads, writes, clears, heads, forwards, loses, fails, fails_bare, fails_not}
use Rattle.sg_round.specs.Rules.Comes.{sends, dirties}
use Rattle.sg_round.specs.Rules.Comes.{keeps, prepares, offers, offers_not, seeks, ends, finds, grabs, grabs_not}
use Rattle.sg_round.specs.Acting.{Acts}
use Rattle.sg_round.specs.Round.{Start, IsRoundOpening}
use Rattle.sg_round.proofs.Relation.{IsKnown, AtStage, AtMid, World}
use Rattle.sg_round.proofs.Going.{read-traced, word-of, below-free, free-source}
use Rattle.sg_round.proofs.Copies.{head-length}

-- what a call for a load, for a store and for an exchange can see
loads : (w : Words) (place : Place) (other : Step) → call_of other ≡ Loads place → Saw w other → other ≡ Load place (read w place)
loads w place (Load q saw) e seen = let at : q ≡ place = cc in ap₂ Load at (sym seen ∙ ap (read w) at)
loads w place (Store q new) e seen = cc
loads w place (Won q from new) e seen = cc
loads w place (Lost q from new found) e seen = cc
loads w place (OnBlock step) e seen = cc

stores : (place : Place) (new : ℕ) (other : Step) → call_of other ≡ Stores place new → other ≡ Store place new
stores place new (Load q saw) e = cc
stores place new (Store q to) e = cc
stores place new (Won q from to) e = cc
stores place new (Lost q from to found) e = cc
stores place new (OnBlock step) e = cc

-- an exchange is won, or lost to another word
data Swapped (w : Words) (place : Place) (from to : ℕ) (other : Step) : Type 0 where
  wins : other ≡ Won place from to → Swapped w place from to other
  misses : other ≡ Lost place from to (read w place) → Swapped w place from to other

swaps : (w : Words) (place : Place) (from to : ℕ) (other : Step) → call_of other ≡ Swaps place from to → Saw w other → Swapped w place from to other
swaps w place from to (Load q saw) e seen = cc
swaps w place from to (Store q new) e seen = cc
swaps w place from to (Won q old new) e seen = wins (cc)
swaps w place from to (Lost q old new found) e seen =
    let at : q ≡ place = cc in
    let found_is : found ≡ read w place = sym seen.0 ∙ ap (read w) at in
    let lost : Lost q old new found ≡ Lost place from to found = cc in
    misses (lost ∙ ap (Lost place from to) found_is)
swaps w place from to (OnBlock step) e seen = cc

-- the same for a block's words
block-loads : (w : Words) (b : ℕ) (step : BlockStep) → block_call_of step ≡ LoadsBlock b → SawBlock w step → step ≡ LoadBlock b (w.block b)
block-loads w b (LoadBlock c saw) e seen = let at : c ≡ b = cc in ap₂ LoadBlock at (sym seen ∙ ap w.block at)
block-loads w b (WonBlock c from new) e seen = cc
block-loads w b (LostBlock c from new found) e seen = cc
block-loads w b (StoreBlock c new) e seen = cc
block-loads w b (LoadUsed c saw) e seen = cc
block-loads w b (OrUsed c i found) e seen = cc
block-loads w b (StoreUsed c new) e seen = cc
block-loads w b (LoadMarks c saw) e seen = cc
block-loads w b (OrMarks c i found) e seen = cc
block-loads w b (StoreMarks c new) e seen = cc
block-loads w b (Zero x) e seen = cc

used-loads : (w : Words) (b : ℕ) (step : BlockStep) → block_call_of step ≡ LoadsUsed b → SawBlock w step → step ≡ LoadUsed b (w.used b)
used-loads w b (LoadUsed c saw) e seen = let at : c ≡ b = cc in ap₂ LoadUsed at (sym seen ∙ ap w.used at)
used-loads w b (LoadBlock c saw) e seen = cc
used-loads w b (WonBlock c from new) e seen = cc
used-loads w b (LostBlock c from new found) e seen = cc
used-loads w b (StoreBlock c new) e seen = cc
used-loads w b (OrUsed c i found) e seen = cc
used-loads w b (StoreUsed c new) e seen = cc
used-loads w b (LoadMarks c saw) e seen = cc
used-loads w b (OrMarks c i found) e seen = cc
used-loads w b (StoreMarks c new) e seen = cc
used-loads w b (Zero x) e seen = cc

used-ors : (w : Words) (b i : ℕ) (step : BlockStep) → block_call_of step ≡ OrsUsed b i → SawBlock w step → step ≡ OrUsed b i (w.used b)
used-ors w b i (OrUsed c j found) e seen = let at : c ≡ b = cc in let bit : j ≡ i = cc in
    ap (λ (d : ℕ). OrUsed d j found) at ∙ ap (λ (d : ℕ). OrUsed b d found) bit ∙ ap (OrUsed b i) (sym seen ∙ ap w.used at)
used-ors w b i (LoadUsed c saw) e seen = cc
used-ors w b i (LoadBlock c saw) e seen = cc
used-ors w b i (WonBlock c from new) e seen = cc
used-ors w b i (LostBlock c from new found) e seen = cc
used-ors w b i (StoreBlock c new) e seen = cc
used-ors w b i (StoreUsed c new) e seen = cc
used-ors w b i (LoadMarks c saw) e seen = cc
used-ors w b i (OrMarks c j found) e seen = cc
used-ors w b i (StoreMarks c new) e seen = cc
used-ors w b i (Zero x) e seen = cc

data BlockSwapped (b : ℕ) (from to : BlockWord) (step : BlockStep) : Type 0 where
  block_wins : step ≡ WonBlock b from to → BlockSwapped b from to step
  block_misses : (found : BlockWord) → step ≡ LostBlock b from to found → BlockSwapped b from to step

block-swaps : (b : ℕ) (from to : BlockWord) (step : BlockStep) → block_call_of step ≡ SwapsBlock b from to → BlockSwapped b from to step
block-swaps b from to (LoadBlock c saw) e = cc
block-swaps b from to (WonBlock c old new) e = block_wins cc
block-swaps b from to (LostBlock c old new found) e = block_misses found cc
block-swaps b from to (StoreBlock c new) e = cc
block-swaps b from to (LoadUsed c saw) e = cc
block-swaps b from to (OrUsed c i found) e = cc
block-swaps b from to (StoreUsed c new) e = cc
block-swaps b from to (LoadMarks c saw) e = cc
block-swaps b from to (OrMarks c i found) e = cc
block-swaps b from to (StoreMarks c new) e = cc
block-swaps b from to (Zero x) e = cc

-- a word is the address of a young object, or it isn't; a slot has a card, or it hasn't
is-young : (area : Area) (u : ℕ) → ((x : ℕ) × (u ≡ byte_at x) × IsYoung area x) ⊎ ((x : ℕ) → u ≡ byte_at x → IsYoung area x → ⊥)
is-young area u = elim (cases_eq u (byte_at (word_at u))) [
  | inr n ↦ inr (λ x e y. n (omega arith))
  | inl e ↦ elim (cases_lt (word_at u) area.low) [
    | inl l ↦ inr (λ x f y. (let y0 = y.0 in absurd (omega arith)))
    | inr l ↦ elim (cases_lt (word_at u) area.high) [
      | inl h ↦ inl (word_at u, e, (l, h))
      | inr h ↦ inr (λ x f y. (let y1 = y.1 in absurd (omega arith)))
    ]
  ]
]

has-card : (area : Area) (s : ℕ) → HasCard area s ⊎ (HasCard area s → ⊥)
has-card area s = elim (cases_lt s area.high) [
  | inl l ↦ inr (λ h. (let h0 = h.0 in omega arith))
  | inr l ↦ elim (cases_lt s area.rows) [ inl m ↦ inl (l, m) | inr m ↦ inr (λ h. (let h1 = h.1 in omega arith)) ]
]

-- the lowest clear bit below n, or none
lowest : (u n : ℕ) → ((i : ℕ) × (i < n) × (bit_at u i ≡ 0) × ((j : ℕ) → j < i → bit_at u j ≡ 1)) ⊎ ((j : ℕ) → j < n → bit_at u j ≡ 1)
lowest u zero = inr (λ j l. absurd (omega arith))
lowest u (suc n) = elim (lowest u n) [
  | inl h ↦ inl (h.0, (let l = h.1 in omega arith), h.2, h.3)
  | inr all ↦ elim (bit_cases u n) [
    | inr e ↦ inl (n, omega arith, e, all)
    | inl e ↦ inr (λ j l. elim (cases_eq j n) [ inl f ↦ ap (bit_at u) f ∙ e | inr f ↦ all j (omega arith) ])
  ]
]

-- the worker makes this step, and is some worker then
abbrev GoesOn : Area → ℕ → ℕ → Worker → Step → Type 0
GoesOn area team k a step = (b : Worker) × Acts area team k a step b

module _ {t : Start} {v : Words} {workers : ℕ → Worker} (o : IsRoundOpening t) (wo : World t v workers) (k : ℕ) where
  abbrev Goes : Worker → Step → Type 0
  Goes a step = GoesOn t.area t.team k a step

  by-rule : (a : Worker) (step other : Step) (effect : Effect) (b : Worker) → other ≡ step → Comes t.area t.team k a step effect b → Goes a other
  by-rule a step other effect b e rule = subst (λ (o : Step). Goes a o) (sym e) (b, (effect, rule))

  goes : (a : Worker) (step : Step) (effect : Effect) (b : Worker) → Comes t.area t.team k a step effect b → Goes a step
  goes a step effect b rule = (b, (effect, rule))

  known-length : (x : ℕ) → IsKnown t.wholes wo.round x → v.word (x + 1) ≤ 62
  known-length x h = subst (λ (n : ℕ). n ≤ 62) (sym (head-length o.opening wo.going x h)) (short x h)
    where
      short : (x : ℕ) → IsKnown t.wholes wo.round x → t.words.word (wo.round.source (x + 1)) ≤ 62
      short x (inl h) = let i = o.opening.inside x (inr h) in let i1 = i.1 in
          subst (λ (y : ℕ). t.words.word y ≤ 62) (sym (free-source o.opening wo.going (x + 1) (below-free o.opening wo.going (x + 1) (omega arith)))) i.2
      short x (inr (inl h)) = let i = o.opening.inside x (inl (wo.going.failed x h).0) in let i1 = i.1 in
          subst (λ (y : ℕ). t.words.word y ≤ 62) (sym (free-source o.opening wo.going (x + 1) (below-free o.opening wo.going (x + 1) (omega arith)))) i.2
      short x (inr (inr h)) = let i = o.opening.inside h.0 (inl (wo.going.moved h.0 h.1).0) in
          subst (λ (y : ℕ). t.words.word y ≤ 62) (sym (ap (λ (y : ℕ). wo.round.source (y + 1)) h.2 ∙ wo.going.source_in h.0 1 h.1 (omega arith))) i.2

  -- the next item: an object is opened, or a slot is looked at
  opening-goes : (a b : Worker) (x : ℕ) → IsNext a (WholeOf x) b → Goes a (Load (Word x) (v.word x))
  opening-goes a b x nx = goes _ _ _ _ (opens a b x (v.word x) nx)

  slot-goes : (a b : Worker) (s : ℕ) → IsNext a (SlotOf s) b → Goes a (Load (Word s) (v.word s))
  slot-goes a b s nx = elim (is-young t.area (v.word s)) [
    | inl y ↦ by-rule a (Load (Word s) (byte_at y.0)) _ _ _ (ap (Load (Word s)) y.1) (sees a b s y.0 nx y.2)
    | inr n ↦ goes _ _ _ _ (sees_none a b s (v.word s) nx n)
  ]

  -- by the first word of the target
  look-goes : (a : Worker) (s x : ℕ) → Traces t.area t.words.word t.items x → Goes (on a s (Look x)) (Load (Word x) (v.word x))
  look-goes a s x tr = elim (cases_Bool (has x wo.round.moves)) [
    | inl h ↦ by-rule _ _ _ _ _ (ap (Load (Word x)) (wo.going.forwarded x h)) (looks_forwarded a s x (wo.round.m x))
    | inr nm ↦ elim (cases_Bool (has x wo.round.fails)) [
      | inl h ↦ (let p = (wo.going.failed x h).1 in fixed p.0 (inl (wo.going.pinned x h ∙ ap (λ (z : ℕ). z + 2) p.1)))
      | inr nf ↦ (let e = word-of o.opening wo.going x tr nm nf in let f = o.opening.first x (inl tr) in elim f.2 [
        | inl p ↦ by-rule _ _ _ _ _ (ap (Load (Word x)) (e ∙ p)) (looks_plain a s x f.0)
        | inr p ↦ fixed f.0 (subst (IsFixed f.0) (sym e) p)
      ])
    ]
  ]
    where
      fixed : (c : ℕ) → IsFixed c (v.word x) → Goes (on a s (Look x)) (Load (Word x) (v.word x))
      fixed c f = elim (has-card t.area s) [
        | inl h ↦ goes _ _ _ _ (looks_fixed a s x c (v.word x) f h)
        | inr n ↦ goes _ _ _ _ (looks_bare a s x c (v.word x) f n)
      ]

  size-goes : (a : Worker) (s x class : ℕ) → Goes (on a s (Size x class)) (Load (Word (x + 1)) (v.word (x + 1)))
  size-goes a s x class =
      let ob : Object = record { x = x; class = class; n = v.word (x + 1) } in
      elim (cases_eq (a.spare (size_for ob)) 0) [ inl e ↦ goes _ _ _ _ (has_none a s ob e) | inr d ↦ goes _ _ _ _ (has_spare a s ob d) ]

  room-goes : (a : Worker) (s : ℕ) (ob : Object) (b : ℕ) → Goes (on a s (Room ob b)) (OnBlock (LoadBlock b (v.block b)))
  room-goes a s ob b = go (v.block b)
    where
      go : (state : BlockWord) → Goes (on a s (Room ob b)) (OnBlock (LoadBlock b state))
      go Free = goes _ _ _ _ (finds_free a s ob b)
      go (Swept z) = elim (cases_eq z (size_for ob)) [
        | inl e ↦ by-rule _ _ _ _ _ (ap (λ (z : ℕ). OnBlock (LoadBlock b (Swept z))) e) (finds_swept a s ob b)
        | inr d ↦ goes _ _ _ _ (finds_other a s ob b (Swept z) (λ e. cc) (λ e. d cc))
      ]
      go (Need z) = goes _ _ _ _ (finds_other a s ob b (Need z) (λ e. cc) (λ e. cc))
      go (Sweeping z) = goes _ _ _ _ (finds_other a s ob b (Sweeping z) (λ e. cc) (λ e. cc))

  slots-goes : (a : Worker) (s : ℕ) (ob : Object) (b : ℕ) → Goes (on a s (Slots ob b)) (OnBlock (LoadUsed b (v.used b)))
  slots-goes a s ob b = elim (lowest (v.used b) (slots (size_for ob))) [
    | inl h ↦ goes _ _ _ _ (finds_clear a s ob b h.0 (v.used b) h.1 h.2 h.3)
    | inr h ↦ goes _ _ _ _ (finds_full a s ob b (v.used b) h)
  ]

  mark-goes : (a : Worker) (s : ℕ) (ob : Object) (b i : ℕ) → Goes (on a s (Mark ob b i)) (OnBlock (OrUsed b i (v.used b)))
  mark-goes a s ob b i = elim (bit_cases (v.used b) i) [
    | inl e ↦ goes _ _ _ _ (marks_not a s ob b i (v.used b) e)
    | inr e ↦ goes _ _ _ _ (marks a s ob b i (v.used b) e)
  ]

  pin-goes : (a : Worker) (s : ℕ) (ob : Object) → Goes (on a s (Pin ob)) (Won (Word ob.x) (plain_word ob.class) (pinned_word ob.class))
  pin-goes a s ob = elim (has-card t.area s) [ inl h ↦ goes _ _ _ _ (fails a s ob h) | inr n ↦ goes _ _ _ _ (fails_bare a s ob n) ]

  cell-goes : (a : Worker) (items : List Item) (item : Item) (i : ℕ) → 1 < t.team → i < 8 → MayOffer a.mid → a.list ≡ items ++ item ∷ [] →
      Goes a (Load (Cell (own_cell k i)) (v.cell (own_cell k i)))
  cell-goes a items item i several l may e = elim (cases_eq (v.cell (own_cell k i)) 0) [
    | inl z ↦ by-rule _ _ _ _ _ (ap (Load (Cell (own_cell k i))) z) (prepares a items item i several l may e)
    | inr z ↦ goes _ _ _ _ (keeps a items item i (v.cell (own_cell k i)) several l may e z)
  ]

  looking-goes : (a : Worker) (i : ℕ) → IsLooking a i → Goes a (Load (Cell (looked_cell t.team k i)) (v.cell (looked_cell t.team k i)))
  looking-goes a i is = let c = looked_cell t.team k i in elim (wo.cells.filled c) [
    | inr f ↦ by-rule _ _ _ _ _ (ap (Load (Cell c)) f.1) (finds a i f.0 is)
    | inl e ↦ elim (cases_lt (i + 1) (8 * t.team)) [
      | inl l ↦ by-rule _ _ _ _ _ (ap (Load (Cell c)) e) (seeks a i is l)
      | inr l ↦ by-rule _ _ _ _ _ (ap (Load (Cell c)) e) (ends a i is l)
    ]
  ]

  -- of a load and of an exchange, by what is done with what they see
  on-load : (a : Worker) (place : Place) (other : Step) → call_of other ≡ Loads place → Saw v other → Goes a (Load place (read v place)) → Goes a other
  on-load a place other e saw g = subst (λ (s : Step). Goes a s) (sym (loads v place other e saw)) g

  on-store : (a : Worker) (place : Place) (new : ℕ) (other : Step) → call_of other ≡ Stores place new → Goes a (Store place new) → Goes a other
  on-store a place new other e g = subst (λ (s : Step). Goes a s) (sym (stores place new other e)) g

  on-swap : (a : Worker) (place : Place) (from to : ℕ) (other : Step) → call_of other ≡ Swaps place from to → Saw v other → Goes a (Won place from to) →
      Goes a (Lost place from to (read v place)) → Goes a other
  on-swap a place from to other e saw won lost = elim (swaps v place from to other e saw) [
    | wins f ↦ subst (λ (s : Step). Goes a s) (sym f) won
    | misses f ↦ subst (λ (s : Step). Goes a s) (sym f) lost
  ]

  on-block : (a : Worker) (call : BlockCall) (other : Step) → call_of other ≡ OnBlocks call → Saw v other →
      ((step : BlockStep) → block_call_of step ≡ call → SawBlock v step → Goes a (OnBlock step)) → Goes a other
  on-block a call (OnBlock step) e saw g = g step (cc) saw
  on-block a call (Load q saw') e saw g = cc
  on-block a call (Store q new) e saw g = cc
  on-block a call (Won q from to) e saw g = cc
  on-block a call (Lost q from to found) e saw g = cc

  on-load-block : (a : Worker) (b : ℕ) (other : Step) → call_of other ≡ OnBlocks (LoadsBlock b) → Saw v other → Goes a (OnBlock (LoadBlock b (v.block b))) →
      Goes a other
  on-load-block a b other e saw g = on-block a (LoadsBlock b) other e saw
      (λ step f s. subst (λ (s : BlockStep). Goes a (OnBlock s)) (sym (block-loads v b step f s)) g)

  on-load-used : (a : Worker) (b : ℕ) (other : Step) → call_of other ≡ OnBlocks (LoadsUsed b) → Saw v other → Goes a (OnBlock (LoadUsed b (v.used b))) →
      Goes a other
  on-load-used a b other e saw g = on-block a (LoadsUsed b) other e saw
      (λ step f s. subst (λ (s : BlockStep). Goes a (OnBlock s)) (sym (used-loads v b step f s)) g)

  on-or : (a : Worker) (b i : ℕ) (other : Step) → call_of other ≡ OnBlocks (OrsUsed b i) → Saw v other → Goes a (OnBlock (OrUsed b i (v.used b))) → Goes a other
  on-or a b i other e saw g = on-block a (OrsUsed b i) other e saw (λ step f s. subst (λ (s : BlockStep). Goes a (OnBlock s)) (sym (used-ors v b i step f s)) g)

  take-goes : (a : Worker) (s : ℕ) (ob : Object) (b : ℕ) (other : Step) → call_of other ≡ OnBlocks (SwapsBlock b Free (Swept (size_for ob))) → Saw v other →
      Goes (on a s (Take ob b)) other
  take-goes a s ob b other e saw = on-block (on a s (Take ob b)) (SwapsBlock b Free (Swept (size_for ob))) other e saw
      (λ step f u. elim (block-swaps b Free (Swept (size_for ob)) step f) [
        | block_wins g ↦ subst (λ (s' : BlockStep). Goes (on a s (Take ob b)) (OnBlock s')) (sym g) (goes _ _ _ _ (takes a s ob b))
        | block_misses found g ↦ subst (λ (s' : BlockStep). Goes (on a s (Take ob b)) (OnBlock s')) (sym g) (goes _ _ _ _ (takes_not a s ob b found))
      ])

  -- whatever a call for a next step sees, a rule goes on
  pub goes-on : (a : Worker) (step : Step) (effect : Effect) (b : Worker) → Comes t.area t.team k a step effect b →
      AtMid t v wo.round k a.spare a.list a.hand a.mid →
      (other : Step) → call_of other ≡ call_of step → Saw v other → Goes a other
  goes-on _ _ _ _ (opens a b x u nx) q other e saw = on-load _ (Word x) other e saw (opening-goes a b x nx)
  goes-on _ _ _ _ (counts a x class u l) q other e saw = on-load _ (Word (x + 1)) other e saw
      (goes _ _ _ _ (counts a x class (v.word (x + 1)) (known-length x q.0)))
  goes-on _ _ _ _ (sees_none a b s u nx none) q other e saw = on-load _ (Word s) other e saw (slot-goes a b s nx)
  goes-on _ _ _ _ (sees a b s x nx young) q other e saw = on-load _ (Word s) other e saw (slot-goes a b s nx)
  goes-on _ _ _ _ (looks_forwarded a s x to) q other e saw = on-load _ (Word x) other e saw (look-goes a s x (read-traced o.opening wo.going s x q))
  goes-on _ _ _ _ (looks_fixed a s x class u fixed card) q other e saw = on-load _ (Word x) other e saw (look-goes a s x (read-traced o.opening wo.going s x q))
  goes-on _ _ _ _ (looks_bare a s x class u fixed bare) q other e saw = on-load _ (Word x) other e saw (look-goes a s x (read-traced o.opening wo.going s x q))
  goes-on _ _ _ _ (looks_plain a s x class) q other e saw = on-load _ (Word x) other e saw (look-goes a s x (read-traced o.opening wo.going s x q))
  goes-on _ _ _ _ (has_spare a s ob some) q other e saw = on-load _ (Word (ob.x + 1)) other e saw (size-goes a s ob.x ob.class)
  goes-on _ _ _ _ (has_none a s ob none) q other e saw = on-load _ (Word (ob.x + 1)) other e saw (size-goes a s ob.x ob.class)
  goes-on _ _ _ _ (finds_free a s ob b) q other e saw = on-load-block _ b other e saw (room-goes a s ob b)
  goes-on _ _ _ _ (finds_swept a s ob b) q other e saw = on-load-block _ b other e saw (room-goes a s ob b)
  goes-on _ _ _ _ (finds_other a s ob b state some differs) q other e saw = on-load-block _ b other e saw (room-goes a s ob b)
  goes-on _ _ _ _ (takes a s ob b) q other e saw = take-goes a s ob b other e saw
  goes-on _ _ _ _ (takes_not a s ob b found) q other e saw = take-goes a s ob b other e saw
  goes-on _ _ _ _ (finds_clear a s ob b i u l clear set) q other e saw = on-load-used _ b other e saw (slots-goes a s ob b)
  goes-on _ _ _ _ (finds_full a s ob b u set) q other e saw = on-load-used _ b other e saw (slots-goes a s ob b)
  goes-on _ _ _ _ (marks a s ob b i u clear) q other e saw = on-or _ b i other e saw (mark-goes a s ob b i)
  goes-on _ _ _ _ (marks_not a s ob b i u set) q other e saw = on-or _ b i other e saw (mark-goes a s ob b i)
  goes-on _ _ _ _ (reads a s ob at j u less) q other e saw = on-load _ (Word (ob.x + j)) other e saw (goes _ _ _ _ (reads a s ob at j (v.word (ob.x + j)) less))
  goes-on _ _ _ _ (writes a s ob at j u) q other e saw = on-store _ (Word (at + j)) u other e (goes _ _ _ _ (writes a s ob at j u))
  goes-on _ _ _ _ (clears a s ob at j past less) q other e saw = on-store _ (Word (at + j)) 0 other e (goes _ _ _ _ (clears a s ob at j past less))
  goes-on _ _ _ _ (heads a s ob at j past) q other e saw = on-store _ (Word at) (plain_word ob.class) other e (goes _ _ _ _ (heads a s ob at j past))
  goes-on _ _ _ _ (forwards a s ob at) q other e saw =
      on-swap _ (Word ob.x) (plain_word ob.class) (forward_word (byte_at at)) other e saw (goes _ _ _ _ (forwards a s ob at))
      (goes _ _ _ _ (loses a s ob at (v.word ob.x)))
  goes-on _ _ _ _ (loses a s ob at found) q other e saw =
      on-swap _ (Word ob.x) (plain_word ob.class) (forward_word (byte_at at)) other e saw (goes _ _ _ _ (forwards a s ob at))
      (goes _ _ _ _ (loses a s ob at (v.word ob.x)))
  goes-on _ _ _ _ (fails a s ob card) q other e saw =
      on-swap _ (Word ob.x) (plain_word ob.class) (pinned_word ob.class) other e saw (pin-goes a s ob) (goes _ _ _ _ (fails_not a s ob (v.word ob.x)))
  goes-on _ _ _ _ (fails_bare a s ob bare) q other e saw =
      on-swap _ (Word ob.x) (plain_word ob.class) (pinned_word ob.class) other e saw (pin-goes a s ob) (goes _ _ _ _ (fails_not a s ob (v.word ob.x)))
  goes-on _ _ _ _ (fails_not a s ob found) q other e saw =
      on-swap _ (Word ob.x) (plain_word ob.class) (pinned_word ob.class) other e saw (pin-goes a s ob) (goes _ _ _ _ (fails_not a s ob (v.word ob.x)))
  goes-on _ _ _ _ (sends a s to) q other e saw = on-store _ (Word s) (byte_at to) other e (goes _ _ _ _ (sends a s to))
  goes-on _ _ _ _ (dirties a s) q other e saw = on-store _ (Card (card_at t.area s)) 1 other e (goes _ _ _ _ (dirties a s))
  goes-on _ _ _ _ (keeps a items item i u several l may f some) q other e saw =
      on-load _ (Cell (own_cell k i)) other e saw (cell-goes a items item i several l may f)
  goes-on _ _ _ _ (prepares a items item i several l may f) q other e saw =
      on-load _ (Cell (own_cell k i)) other e saw (cell-goes a items item i several l may f)
  goes-on _ _ _ _ (offers a items item i next) q other e saw =
      on-swap _ (Cell (own_cell k i)) 0 (cell_word item) other e saw (goes _ _ _ _ (offers a items item i next))
      (goes _ _ _ _ (offers_not a items item i next (v.cell (own_cell k i))))
  goes-on _ _ _ _ (offers_not a items item i next found) q other e saw =
      on-swap _ (Cell (own_cell k i)) 0 (cell_word item) other e saw (goes _ _ _ _ (offers a items item i next))
      (goes _ _ _ _ (offers_not a items item i next (v.cell (own_cell k i))))
  goes-on _ _ _ _ (seeks a i is more) q other e saw = on-load _ (Cell (looked_cell t.team k i)) other e saw (looking-goes a i is)
  goes-on _ _ _ _ (ends a i is last) q other e saw = on-load _ (Cell (looked_cell t.team k i)) other e saw (looking-goes a i is)
  goes-on _ _ _ _ (finds a i item is) q other e saw = on-load _ (Cell (looked_cell t.team k i)) other e saw (looking-goes a i is)
  goes-on _ _ _ _ (grabs a i item) q other e saw =
      on-swap _ (Cell (looked_cell t.team k i)) (cell_word item) 0 other e saw (goes _ _ _ _ (grabs a i item))
      (goes _ _ _ _ (grabs_not a i item (v.cell (looked_cell t.team k i))))
  goes-on _ _ _ _ (grabs_not a i item found) q other e saw =
      on-swap _ (Cell (looked_cell t.team k i)) (cell_word item) 0 other e saw (goes _ _ _ _ (grabs a i item))
      (goes _ _ _ _ (grabs_not a i item (v.cell (looked_cell t.team k i))))

  -- a step that the words allow
  abbrev CanGo : Worker → Type 0
  CanGo a = (step : Step) × (b : Worker) × Saw v step × Acts t.area t.team k a step b

  can-load : (a : Worker) (place : Place) → Goes a (Load place (read v place)) → CanGo a
  can-load a place g = (Load place (read v place), g.0, refl, g.1)

  can-swap : (a : Worker) (place : Place) (from to : ℕ) → Goes a (Won place from to) → Goes a (Lost place from to (read v place)) → CanGo a
  can-swap a place from to won lost = elim (cases_eq (read v place) from) [
    | inl e ↦ (Won place from to, won.0, e, won.1)
    | inr d ↦ (Lost place from to (read v place), lost.0, (refl, d), lost.1)
  ]

  can-stage : (a : Worker) (s : ℕ) (stage : Stage) → AtStage t v wo.round k a.spare s stage → CanGo (on a s stage)
  can-stage a s (Look x) q = can-load _ (Word x) (look-goes a s x (read-traced o.opening wo.going s x q))
  can-stage a s (Size x class) q = can-load _ (Word (x + 1)) (size-goes a s x class)
  can-stage a s (Room ob b) q = let g = room-goes a s ob b in (OnBlock (LoadBlock b (v.block b)), g.0, refl, g.1)
  can-stage a s (Take ob b) q = go (v.block b) refl
    where
      other : (state : BlockWord) → v.block b ≡ state → state ≢ Free → CanGo (on a s (Take ob b))
      other state e n = (OnBlock (LostBlock b Free (Swept (size_for ob)) state), on a s (Room ob b), (e, n), (_, takes_not a s ob b state))

      go : (state : BlockWord) → v.block b ≡ state → CanGo (on a s (Take ob b))
      go Free e = (OnBlock (WonBlock b Free (Swept (size_for ob))), on a s (Room ob b), e, (_, takes a s ob b))
      go (Swept z) e = other (Swept z) e (λ f. cc)
      go (Need z) e = other (Need z) e (λ f. cc)
      go (Sweeping z) e = other (Sweeping z) e (λ f. cc)
  can-stage a s (Slots ob b) q = let g = slots-goes a s ob b in (OnBlock (LoadUsed b (v.used b)), g.0, refl, g.1)
  can-stage a s (Mark ob b i) q = let g = mark-goes a s ob b i in (OnBlock (OrUsed b i (v.used b)), g.0, refl, g.1)
  can-stage a s (Body ob at j) q = elim (cases_lt j (ob.n + 2)) [
    | inl l ↦ can-load _ (Word (ob.x + j)) (goes _ _ _ _ (reads a s ob at j (v.word (ob.x + j)) l))
    | inr l ↦ elim (cases_lt j (size_for ob)) [
      | inl h ↦ (Store (Word (at + j)) 0, _, tt, (_, clears a s ob at j l h))
      | inr h ↦ (Store (Word at) (plain_word ob.class), _, tt, (_, heads a s ob at j h))
    ]
  ]
  can-stage a s (Puts ob at j u) q = (Store (Word (at + j)) u, _, tt, (_, writes a s ob at j u))
  can-stage a s (Swap ob at) q = can-swap _ (Word ob.x) (plain_word ob.class) (forward_word (byte_at at)) (goes _ _ _ _ (forwards a s ob at))
      (goes _ _ _ _ (loses a s ob at (v.word ob.x)))
  can-stage a s (Pin ob) q = can-swap _ (Word ob.x) (plain_word ob.class) (pinned_word ob.class) (pin-goes a s ob)
      (goes _ _ _ _ (fails_not a s ob (v.word ob.x)))
  can-stage a s (Send to) q = (Store (Word s) (byte_at to), _, tt, (_, sends a s to))
  can-stage a s Dirty q = (Store (Card (card_at t.area s)) 1, _, tt, (_, dirties a s))

  can-next : (a b : Worker) (item : Item) → IsNext a item b → CanGo a
  can-next a b (SlotOf s) nx = can-load _ (Word s) (slot-goes a b s nx)
  can-next a b (WholeOf x) nx = can-load _ (Word x) (opening-goes a b x nx)

  can-idle : (a : Worker) (list : List Item) (hand : List ℕ) → CanGo (record a { list = list; hand = hand; mid = Idle })
  can-idle a list (s ∷ rest) = can-next _ _ (SlotOf s) (Of_hand (record a { list = list }) s rest)
  can-idle a (item ∷ rest) [] = can-next _ _ item (Of_list a item rest)
  can-idle a [] [] = can-load _ (Cell (looked_cell t.team k 0))
      (looking-goes (record a { list = []; hand = []; mid = Idle }) 0 (record { nothing = (refl, refl); at = inl (refl, refl) }))

  can-mid : (a : Worker) (mid : Mid) → AtMid t v wo.round k a.spare a.list a.hand mid → mid ≢ Over → CanGo (record a { mid = mid })
  can-mid a Idle q n = can-idle a a.list a.hand
  can-mid a (Took item) q n = can-next _ _ item (Of_cell a item)
  can-mid a (Count x class) q n = can-load _ (Word (x + 1)) (goes _ _ _ _ (counts a x class (v.word (x + 1)) (known-length x q.0)))
  can-mid a (On s stage) q n = can-stage a s stage q
  can-mid a (Offer i next) q n = let e = q.2.2 in
      subst (λ (list : List Item). CanGo (record a { list = list; mid = Offer i next })) (sym e)
      (can-swap _ (Cell (own_cell k i)) 0 (cell_word q.2.1) (goes _ _ _ _ (offers a q.2.0 q.2.1 i next))
      (goes _ _ _ _ (offers_not a q.2.0 q.2.1 i next (v.cell (own_cell k i)))))
  can-mid a (Seek i) q n = can-load _ (Cell (looked_cell t.team k i))
      (looking-goes (record a { mid = Seek i }) i (record { nothing = (q.0, q.1); at = inr refl }))
  can-mid a (Grab i item) q n =
      can-swap _ (Cell (looked_cell t.team k i)) (cell_word item) 0 (goes _ _ _ _ (grabs a i item))
      (goes _ _ _ _ (grabs_not a i item (v.cell (looked_cell t.team k i))))
  can-mid a Over q n = absurd (n refl)

  -- a worker that hasn't ended can take a step
  pub can-go : (workers k).mid ≢ Over → CanGo (workers k)
  can-go n = can-mid (workers k) (workers k).mid (wo.stands k).at n
