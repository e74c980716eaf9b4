-- The exchanges with which a turn begins, over any port.
use Rattle.std.proofs.Common.{◌≡◌, ℕ, ◌+◌, ◌<◌, [], ◌∷◌, ◌++◌, inl, inr, refl, sym, ap, ◌∙◌, subst, arith}
use Rattle.std.specs.Int.{bit_at}
use Rattle.std.proofs.lemmas.Nat.Bits.{bit_at-zero}
use Rattle.sg_words.specs.Address.{byte_at, word_at}
use Rattle.sg_words.proofs.Numbers.{word_at-byte_at}
use Rattle.sg_words.specs.declared.steps.Call.{Call}
use Rattle.sg_words.specs.Tags.{plain_word, pinned_word, forward_word}
use Rattle.sg_words.specs.Words.{put}
use Rattle.sg_words.specs.Blocks.{slots}
use Rattle.sg_words.proofs.Blocks.{class_slots, slot_size-class}
use Rattle.sg_words.specs.declared.steps.BlockWord.{BlockWord}
use Rattle.sg_words.specs.declared.steps.BlockWord.TheVariants.{Free, Swept}
use Rattle.sg_words.specs.declared.steps.BlockStep.TheVariants.{WonBlock, LostBlock, OrUsed}
use Rattle.sg_words.specs.declared.steps.Place.TheVariants.{Word, Cell}
use Rattle.sg_words.specs.declared.steps.Step.{Step}
use Rattle.sg_words.specs.declared.steps.Step.TheVariants.{Won, Lost, OnBlock}
use Rattle.sg_words.specs.declared.steps.Call.TheVariants.{Swaps, OnBlocks}
use Rattle.sg_words.specs.declared.steps.BlockCall.TheVariants.{SwapsBlock, OrsUsed}
use Rattle.sg_round.specs.Area.{place}
use Rattle.sg_round.specs.Items.{Item, WholeOf, cell_word, looked_cell}
use Rattle.sg_round.specs.Worker.{Object, Mid, Seek, Grab, Took, On as OnSlot, Look, Take, Mark, Room, Body, Swap, Pin, Send}
use Rattle.sg_round.specs.Worker.{size_for}
use Rattle.sg_round.specs.Rules.{Nothing, Moves, Fails, FailsEnding}
use Rattle.sg_round.specs.Rules.Comes.{takes, takes_not, marks, marks_not, forwards, loses, fails as has_failed, fails_bare, fails_not, grabs, grabs_not}
use Rattle.sg_copy.specs.Telling.{Seat, Teller, Tells, at}
use Rattle.sg_copy.specs.State.{staying}
use Rattle.sg_copy.proofs.Ports.{Ports, On, Started, Did, may_now, on_now, started}
use Rattle.sg_copy.proofs.Places.{look_at, room_left}
use Rattle.sg_copy.proofs.Looks.{cards}

-- an exchange of the word x, at the byte address a, where v is the word that is expected
module _ {P : Type 0} (o : Ports P) (seat : Seat) where
  pub swap_word_may : (call : ℕ → ℕ → Call) (x v a u : ℕ) → a ≡ byte_at x → u ≡ v → (p : P) → o.may p (call x v) → o.may p (call (word_at a) u)
  swap_word_may call x v a u e f p m = subst (λ k. o.may p (call k u)) (sym (ap word_at e ∙ word_at-byte_at x)) (subst (λ k. o.may p (call x k)) (sym f) m)

  pub swapped : (step : ℕ → ℕ → Step) (x v a u : ℕ) → a ≡ byte_at x → u ≡ v → (p q : P) → o.sees p (step (word_at a) u) →
      o.leads p (step (word_at a) u ∷ []) q → Did o seat p (step x v) q
  swapped step x v a u e f p q saw led =
      subst (λ k. Did o seat p (step x k) q) f (subst (λ k. Did o seat p (step k u) q) (ap word_at e ∙ word_at-byte_at x) (saw, led))

-- an exchange of a cell that holds this item
module _ {P : Type 0} (o : Ports P) (seat : Seat) where
  pub celled : (step : ℕ → ℕ → Step) (k v l u : ℕ) → l ≡ k → u ≡ v → (p q : P) → o.sees p (step l u) → o.leads p (step l u ∷ []) q → Did o seat p (step k v) q
  celled step k v l u e f p q saw led = subst (λ n. Did o seat p (step k n) q) f (subst (λ n. Did o seat p (step n u) q) e (saw, led))

  module _ (t : Teller) (i : ℕ) (item : Item) (p : P) (on : On o seat p (at t (Grab i item))) where
    grab_next : Tells seat (at t (Grab i item)) (Won (Cell (looked_cell seat.team seat.number i)) (cell_word item) 0) (at t (Took item))
    grab_next = (Nothing, grabs t.worker i item, refl, refl)

    pub grab_may : o.may p (Swaps (Cell (looked_cell seat.team seat.number i)) (cell_word item) 0)
    grab_may = may_now o seat (at t (Grab i item)) (at t (Took item)) p on (Won (Cell (looked_cell seat.team seat.number i)) (cell_word item) 0) grab_next

    pub grabbed : (q : P) → Did o seat p (Won (Cell (looked_cell seat.team seat.number i)) (cell_word item) 0) q →
        On o seat q (at t (Took item)) × Started o seat (at t (Grab i item)) p (at t (Took item)) q
    grabbed q did = (
      on_now o seat (at t (Grab i item)) (at t (Took item)) p on (Won (Cell (looked_cell seat.team seat.number i)) (cell_word item) 0)
          grab_next q did,
      started o seat (at t (Grab i item)) (at t (Took item)) p on (Won (Cell (looked_cell seat.team seat.number i)) (cell_word item) 0) grab_next q did,
    )

    pub grab_lost : (found : ℕ) (q : P) → Did o seat p (Lost (Cell (looked_cell seat.team seat.number i)) (cell_word item) 0 found) q →
        On o seat q (at t (Seek i)) × Started o seat (at t (Grab i item)) p (at t (Seek i)) q
    grab_lost found q did = (
      on_now o seat (at t (Grab i item)) (at t (Seek i)) p on (Lost (Cell (looked_cell seat.team seat.number i)) (cell_word item) 0 found)
          (Nothing, grabs_not t.worker i item found, refl, refl) q did,
      started o seat (at t (Grab i item)) (at t (Seek i)) p on (Lost (Cell (looked_cell seat.team seat.number i)) (cell_word item) 0 found)
          (Nothing, grabs_not t.worker i item found, refl, refl) q did,
    )

module _ {P : Type 0} (o : Ports P) (seat : Seat) (t : Teller) (s : ℕ) (x : Object) where
  -- one step from a to b
  first_step : (a b : Teller) (p : P) → On o seat p a → (step : Step) → Tells seat a step b → (q : P) → Did o seat p step q →
      On o seat q b × Started o seat a p b q
  first_step a b p on step n q did = (on_now o seat a b p on step n q did, started o seat a b p on step n q did)

  -- a free block's word
  module _ (b : ℕ) (p : P) (on : On o seat p (at t (OnSlot s (Take x b)))) where
    abbrev taking : Teller
    taking = at t (OnSlot s (Take x b))

    as_looking : look_at o seat t s x b ≡ at t (OnSlot s (Room x b))
    as_looking = ap (λ stage. at t (OnSlot s stage)) (room_left seat.area x b (on.guided.is_sane.worker.at.1.1))

    won_next : Tells seat taking (OnBlock (WonBlock b Free (Swept (size_for x)))) (at t (OnSlot s (Room x b)))
    won_next = (Nothing, takes t.worker s x b, refl, refl)

    pub take_may : o.may p (OnBlocks (SwapsBlock b Free (Swept (size_for x))))
    take_may = may_now o seat taking (at t (OnSlot s (Room x b))) p on (OnBlock (WonBlock b Free (Swept (size_for x)))) won_next

    as_looked : (q : P) → On o seat q (at t (OnSlot s (Room x b))) × Started o seat taking p (at t (OnSlot s (Room x b))) q →
        On o seat q (look_at o seat t s x b) × Started o seat taking p (look_at o seat t s x b) q
    as_looked q h = subst (λ (c : Teller). On o seat q c × Started o seat taking p c q) (sym as_looking) h

    pub took_block : (q : P) → Did o seat p (OnBlock (WonBlock b Free (Swept (size_for x)))) q →
        On o seat q (look_at o seat t s x b) × Started o seat taking p (look_at o seat t s x b) q
    took_block q did = as_looked q (first_step taking (at t (OnSlot s (Room x b))) p on (OnBlock (WonBlock b Free (Swept (size_for x)))) won_next q did)

    pub lost_block : (found : BlockWord) (q : P) → Did o seat p (OnBlock (LostBlock b Free (Swept (size_for x)) found)) q →
        On o seat q (look_at o seat t s x b) × Started o seat taking p (look_at o seat t s x b) q
    lost_block found q did = as_looked q (first_step taking (at t (OnSlot s (Room x b))) p on (OnBlock (LostBlock b Free (Swept (size_for x)) found))
        (Nothing, takes_not t.worker s x b found, refl, refl) q did)

  -- a slot's bit
  module _ (b i : ℕ) (p : P) (on : On o seat p (at t (OnSlot s (Mark x b i)))) where
    abbrev marking : Teller
    marking = at t (OnSlot s (Mark x b i))

    abbrev pub marked : Teller
    marked = record t {
      worker =
          record (t.worker) { passed = put t.worker.passed (size_for x) b; mid = OnSlot s (Body x (place seat.area b (size_for x) i) 1) };
    }

    as_marked : look_at o seat t s x b ≡ at t (OnSlot s (Room x b))
    as_marked = ap (λ stage. at t (OnSlot s stage)) (room_left seat.area x b (on.guided.is_sane.worker.at.1.1))

    pub mark_may : o.may p (OnBlocks (OrsUsed b i))
    mark_may = may_now o seat marking marked p on (OnBlock (OrUsed b i 0)) (Nothing, marks t.worker s x b i 0 (bit_at-zero i), refl, refl)

    pub slot_there : i < slots (size_for x)
    slot_there = on.guided.is_sane.worker.at.1.2

    pub slot_below : i < 64
    slot_below = let l = slot_there in let m = (class_slots (size_for x) (slot_size-class (x.n + 2))).1 in omega arith

    pub got_slot : (found : ℕ) → bit_at found i ≡ 0 → (q : P) → Did o seat p (OnBlock (OrUsed b i found)) q →
        On o seat q marked × Started o seat marking p marked q
    got_slot found clear q did = first_step marking marked p on (OnBlock (OrUsed b i found)) (Nothing, marks t.worker s x b i found clear, refl, refl) q did

    pub lost_slot : (found : ℕ) → bit_at found i ≡ 1 → (q : P) → Did o seat p (OnBlock (OrUsed b i found)) q →
        On o seat q (look_at o seat t s x b) × Started o seat marking p (look_at o seat t s x b) q
    lost_slot found set q did = subst (λ (c : Teller). On o seat q c × Started o seat marking p c q) (sym as_marked)
        (first_step marking (at t (OnSlot s (Room x b))) p on (OnBlock (OrUsed b i found)) (Nothing, marks_not t.worker s x b i found set, refl, refl) q did)

  -- the first word, to Forwarded
  module _ (to : ℕ) (p : P) (on : On o seat p (at t (OnSlot s (Swap x to)))) where
    abbrev swapping : Teller
    swapping = at t (OnSlot s (Swap x to))

    abbrev pub forwarded : Teller
    forwarded = record t { worker = record (t.worker) { list = t.worker.list ++ WholeOf to ∷ []; mid = OnSlot s (Send to) }; moves = t.moves ++ x.x ∷ [] }

    abbrev pub lost_to : Teller
    lost_to = record t { worker = record (t.worker) { spare = put t.worker.spare (size_for x) to; mid = OnSlot s (Look x.x) } }

    forward_next : Tells seat swapping (Won (Word x.x) (plain_word x.class) (forward_word (byte_at to))) forwarded
    forward_next = (Moves x.x, forwards t.worker s x to, refl, refl)

    pub forward_may : o.may p (Swaps (Word x.x) (plain_word x.class) (forward_word (byte_at to)))
    forward_may = may_now o seat swapping forwarded p on (Won (Word x.x) (plain_word x.class) (forward_word (byte_at to))) forward_next

    pub has_forwarded : (q : P) → Did o seat p (Won (Word x.x) (plain_word x.class) (forward_word (byte_at to))) q →
        On o seat q forwarded × Started o seat swapping p forwarded q
    has_forwarded q did = first_step swapping forwarded p on (Won (Word x.x) (plain_word x.class) (forward_word (byte_at to))) forward_next q did

    pub has_lost : (found : ℕ) (q : P) → Did o seat p (Lost (Word x.x) (plain_word x.class) (forward_word (byte_at to)) found) q →
        On o seat q lost_to × Started o seat swapping p lost_to q
    has_lost found q did = first_step swapping lost_to p on (Lost (Word x.x) (plain_word x.class) (forward_word (byte_at to)) found)
        (Nothing, loses t.worker s x to found, refl, refl) q did

  -- the first word, to Pinned
  module _ (p : P) (on : On o seat p (at t (OnSlot s (Pin x)))) where
    abbrev pinning : Teller
    pinning = at t (OnSlot s (Pin x))

    abbrev pub pinned : Mid → Teller
    pinned mid = record t {
      worker = record (t.worker) { list = t.worker.list ++ WholeOf x.x ∷ []; passed = put t.worker.passed (size_for x) seat.area.blocks; mid = mid };
      fails = t.fails ++ x.x ∷ [];
    }

    pin_next : (Tells seat pinning (Won (Word x.x) (plain_word x.class) (pinned_word x.class)) (pinned (staying seat.area s)))
    pin_next = elim (cards seat.area s) [
      | inl has ↦ subst (λ (mid : Mid). Tells seat pinning (Won (Word x.x) (plain_word x.class) (pinned_word x.class)) (pinned mid)) (sym has.1)
          (Fails x.x, has_failed t.worker s x has.0, refl, refl)
      | inr has ↦ subst (λ (mid : Mid). Tells seat pinning (Won (Word x.x) (plain_word x.class) (pinned_word x.class)) (pinned mid)) (sym has.1)
          (FailsEnding x.x s, fails_bare t.worker s x has.0, refl, refl)
    ]

    pub pin_may : o.may p (Swaps (Word x.x) (plain_word x.class) (pinned_word x.class))
    pin_may = may_now o seat pinning (pinned (staying seat.area s)) p on (Won (Word x.x) (plain_word x.class) (pinned_word x.class)) pin_next

    pub has_pinned : (q : P) → Did o seat p (Won (Word x.x) (plain_word x.class) (pinned_word x.class)) q →
        On o seat q (pinned (staying seat.area s)) × Started o seat pinning p (pinned (staying seat.area s)) q
    has_pinned q did = first_step pinning (pinned (staying seat.area s)) p on (Won (Word x.x) (plain_word x.class) (pinned_word x.class)) pin_next q did

    pub lost_pin : (found : ℕ) (q : P) → Did o seat p (Lost (Word x.x) (plain_word x.class) (pinned_word x.class) found) q →
        On o seat q (at t (OnSlot s (Look x.x))) × Started o seat pinning p (at t (OnSlot s (Look x.x))) q
    lost_pin found q did = first_step pinning (at t (OnSlot s (Look x.x))) p on (Lost (Word x.x) (plain_word x.class) (pinned_word x.class) found)
        (Nothing, fails_not t.worker s x found, refl, refl) q did
