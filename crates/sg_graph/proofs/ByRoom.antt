-- Whether placing the requests leaves one without a place is told by the words and by the slots for which they ask.
use Rattle.std.proofs.Common.{◌≡◌, ℕ, suc, ◌+◌, ◌^◌, ◌<◌, ◌≤◌, ◌⊎◌, inl, inr, true, false, List, [], ◌∷◌, sym, refl, ap, ◌∙◌, subst, arith}
use Rattle.std.proofs.lemmas.Bool.{cases_lt}
use Rattle.std.specs.Int.Bits.{bit_or}
use Rattle.sg_words.specs.Words.{put}
use Rattle.sg_words.specs.Blocks.{IsSizeClass}
use Rattle.sg_words.specs.declared.steps.BlockWord.{BlockWord}
use Rattle.sg_words.specs.declared.steps.BlockWord.TheVariants.{Swept}
use Rattle.sg_words.proofs.Blocks.{slot_size-class}
use Rattle.sg_program.specs.declared.program.Statement.{Statement}
use Rattle.sg_program.specs.declared.program.Statement.TheVariants.{New, NewV, Mature, Collect, Sections}
use Rattle.sg_program.specs.declared.program.Program.{Program}
use Rattle.sg_program.specs.declared.answers.Answer.{Answer}
use Rattle.sg_program.specs.declared.answers.Answer.TheVariants.{At, Fine, Full}
use Rattle.sg_program.specs.declared.answers.Request.{Request}
use Rattle.sg_program.specs.declared.answers.Request.TheVariants.{Need, Slot, Minor, Major, Sections as AllSections}
use Rattle.sg_program.specs.Scripts.{words_for, fields_of, made_words, IsSmall, IsRequestOf}
use Rattle.sg_graph.specs.Graph.{Graph, Mutator, advanced}
use Rattle.sg_graph.specs.Statements.{Answers, heap_after, hands_after}
use Rattle.sg_graph.specs.Heap.{Owner, Objects, Fragments}
use Rattle.sg_graph.specs.Book.{Book, Old, placed, placed_in, nursery_end, slot_at, slot_words, HasRoom, LacksRoom, IsShut, IsFirstSlot}
use Rattle.sg_graph.specs.Blocks.{AreBlocks}
use Rattle.sg_graph.specs.Swept.{AreInhabited}
use Rattle.sg_graph.specs.Stop.{Asked, InFragments, Takes, HasNoFragment, HasNoSlot, Places, LacksOne, ThisOne, OneBehind}
use Rattle.sg_graph.specs.Laws.{needed_by, needs_of, AreAsking, IsClearAt, HasNoClear, LacksSlots, NoSlot, SlotBefore, sized_by, sizes_of, AreUnowed, PlacesByRoom}
use Rattle.sg_graph.proofs.ByWords.{LacksIn, by_first, behind, still, no_room, room_before, places_there, same_statement}
use Rattle.sg_graph.proofs.OpenSlots.{first_of, AreRooms, clear_open, open_clear, clear_or_shut, shut_unclear, unclear_shut}
use Rattle.sg_graph.proofs.Growing.{young_rooms, old_rooms}

-- a slot of this size in a block, the lowest clear one of the first block that has one
record IsFirstClear (p : Program) (state : ℕ → BlockWord) (used : ℕ → ℕ) (z c i : ℕ) : Type 0 where
  pub there : c < p.config.blocks
  pub clear : IsClearAt (state c) (used c) z i
  pub below : (d : ℕ) → d < c → HasNoClear (state d) (used d) z

-- what finding no slot means, by the first of the sizes
abbrev SlotsBy : Program → (ℕ → BlockWord) → (ℕ → ℕ) → List ℕ → Type 0
SlotsBy p state used [] = ⊥
SlotsBy p state used (z ∷ more) =
    ((c : ℕ) → c < p.config.blocks → HasNoClear (state c) (used c) z)
    ⊎ ((c i : ℕ) × IsFirstClear p state used z c i × LacksSlots p.config.blocks (put state c (Swept z)) (put used c (bit_or (used c) (2 ^ i))) more)

slots_by : (p : Program) (state : ℕ → BlockWord) (used : ℕ → ℕ) (sizes : List ℕ) → LacksSlots p.config.blocks state used sizes → SlotsBy p state used sizes
slots_by p _ _ _ (NoSlot state used z more none) = inl none
slots_by p _ _ _ (SlotBefore state used z more c i there clear below later) = inr (c, i, record { there = there; clear = clear; below = below }, later)

-- the fragments or the blocks have no place for all of these
abbrev Lacks : Program → Book → (ℕ → BlockWord) → (ℕ → ℕ) → List ℕ → List ℕ → Type 0
Lacks p b state used needs sizes = LacksIn b needs ⊎ LacksSlots p.config.blocks state used sizes

-- the graph behind a statement has one object more, of these fields, where it made one
record HasGrown (g h : Graph) (fields : ℕ) : Type 0 where
  pub count : h.count ≡ suc g.count
  pub size : h.size ≡ put g.size (suc g.count) fields

module _ (p : Program) (g : Graph) (b : Book) (marks used : ℕ → ℕ) (state : ℕ → BlockWord) (r : AreRooms p g.count g.size b marks state used) where
  abbrev RoomsBehind : Graph → Book → (ℕ → BlockWord) → (ℕ → ℕ) → Type 0
  RoomsBehind h c state' used' = AreRooms p h.count h.size c marks state' used'

  -- the rooms behind a new object of the nursery
  rooms_young : (h : Graph) (fields f : ℕ) (c : Book) → HasGrown g h fields → Takes b (words_for fields) (suc g.count) f c → RoomsBehind h c state used
  rooms_young h fields f c grown takes =
      subst (λ (n : ℕ). AreRooms p n h.size c marks state used) (sym grown.count)
      (subst (λ (s : ℕ → ℕ). AreRooms p (suc g.count) s c marks state used) (sym grown.size)
      (subst (λ (w : Book). AreRooms p (suc g.count) (put g.size (suc g.count) fields) w marks state used) (sym takes.after)
      (young_rooms p g.count g.size b marks used state r fields (b.next f) inside (put b.next f (b.next f + words_for fields)))))
    where
      inside : b.next f + words_for fields ≤ nursery_end p
      inside = let room = takes.room in let limit = r.limits f takes.there in omega arith

  -- and behind one of the major heap
  abbrev states : ℕ → ℕ → ℕ → BlockWord
  states fields j = put state j (Swept (slot_words fields))

  abbrev useds : ℕ → ℕ → ℕ → ℕ
  useds j i = put used j (bit_or (used j) (2 ^ i))

  rooms_old : (h : Graph) (fields j i : ℕ) (c : Book) → HasGrown g h fields → j < p.config.blocks → IsClearAt (state j) (used j) (slot_words fields) i →
      words_for fields ≤ 64 → c ≡ placed_in b Old (suc g.count) (slot_at p j (slot_words fields) i) → RoomsBehind h c (states fields j) (useds j i)
  rooms_old h fields j i c grown there clear small after =
      subst (λ (n : ℕ). AreRooms p n h.size c marks (states fields j) (useds j i)) (sym grown.count)
      (subst (λ (s : ℕ → ℕ). AreRooms p (suc g.count) s c marks (states fields j) (useds j i)) (sym grown.size)
      (subst (λ (w : Book). AreRooms p (suc g.count) (put g.size (suc g.count) fields) w marks (states fields j) (useds j i)) (sym after)
      (old_rooms p g.count g.size b marks used state r fields j i there clear small)))

  -- the rooms behind a statement that makes nothing
  rooms_same : (h : Graph) (c : Book) → h.count ≡ g.count → h.size ≡ g.size → c ≡ b → RoomsBehind h c state used
  rooms_same h c count size after =
      subst (λ (n : ℕ). AreRooms p n h.size c marks state used) (sym count)
      (subst (λ (s : ℕ → ℕ). AreRooms p g.count s c marks state used) (sym size)
      (subst (λ (w : Book). AreRooms p g.count g.size w marks state used) (sym after) r))

  -- no slot of this size is clear where each block is shut
  no_slot : (fields size : ℕ) (needs sizes : List ℕ) → size ≡ slot_words fields → HasNoSlot p g b fields → Lacks p b state used needs (size ∷ sizes)
  no_slot fields size needs sizes e none =
      inr (subst (λ z. LacksSlots p.config.blocks state used (z ∷ sizes)) (sym e)
      (NoSlot state used (slot_words fields) sizes
      (λ c l. shut_unclear p g b marks used state r (slot_words fields) (slot_size-class (words_for fields)) c l (none.none c l))))

  -- the first open slot is the first clear one
  first_clear : (fields j i : ℕ) → IsFirstSlot p g b j (slot_words fields) i → IsFirstClear p state used (slot_words fields) j i
  first_clear fields j i o =
      let there = o.open_slot.there in record {
        there = there;
        clear = open_clear p g b marks used state r (slot_words fields) (slot_size-class (words_for fields)) j there i o.open_slot;
        below = λ d l.
            shut_unclear p g b marks used state r (slot_words fields) (slot_size-class (words_for fields)) d (omega arith) (o.below d l);
      }

  first_open : (fields j i : ℕ) → IsFirstClear p state used (slot_words fields) j i → IsFirstSlot p g b j (slot_words fields) i
  first_open fields j i o = record {
    open_slot = clear_open p g b marks used state r (slot_words fields) (slot_size-class (words_for fields)) j o.there i o.clear;
    below = λ d l.
        let there = o.there in
        unclear_shut p g b marks used state r (slot_words fields) (slot_size-class (words_for fields)) d (omega arith) (o.below d l);
  }

  slot_before : (fields size j i : ℕ) (c : Book) (needs sizes : List ℕ) → size ≡ slot_words fields → IsFirstClear p state used (slot_words fields) j i →
      c ≡ placed_in b Old (suc g.count) (slot_at p j (slot_words fields) i) → Lacks p c (states fields j) (useds j i) needs sizes →
      Lacks p b state used needs (size ∷ sizes)
  slot_before fields size j i c needs sizes e first after (inl later) = inl (subst (λ (w : Book). LacksIn w needs) after later)
  slot_before fields size j i c needs sizes e first after (inr later) =
      inr (subst (λ z. LacksSlots p.config.blocks state used (z ∷ sizes)) (sym e)
      (SlotBefore state used (slot_words fields) sizes j i first.there first.clear first.below later))

  word_before : (fields words f : ℕ) (c : Book) (needs sizes : List ℕ) → words ≡ words_for fields → Takes b (words_for fields) (suc g.count) f c →
      Lacks p c state used needs sizes → Lacks p b state used (words ∷ needs) sizes
  word_before fields words f c needs sizes e takes (inl later) = inl (room_before p g b (words_for fields) words (suc g.count) f c needs e takes later)
  word_before fields words f c needs sizes e takes (inr later) = inr later

  same_before : (c : Book) (needs sizes : List ℕ) → c ≡ b → Lacks p c state used needs sizes → Lacks p b state used needs sizes
  same_before c needs sizes e (inl later) = inl (subst (λ (w : Book). LacksIn w needs) e later)
  same_before c needs sizes e (inr later) = inr later

  -- a statement that asks, and has no place, finds none
  none_here : (s : Statement) (q : Request) (c : Book) (needs sizes : List ℕ) → IsRequestOf p s q → Places p InFragments g b s Full c →
      Lacks p b state used (needed_by q needs) (sized_by q sizes)
  none_here (New r class) (Need words) c needs sizes e x = inl (no_room p g b (words_for (fields_of p class)) words needs e x.1)
  none_here (NewV r class count) (Need words) c needs sizes e x = inl (no_room p g b (words_for count) words needs e x.1)
  none_here (Mature r class) (Slot size) c needs sizes e x = no_slot (fields_of p class) size needs sizes e x.0
  none_here (Mature r class) q c needs sizes e x = absurd e
  none_here (Collect false) Minor c needs sizes e x = absurd x
  none_here (Collect true) Major c needs sizes e x = absurd x
  none_here Sections AllSections c needs sizes e x = absurd x
  none_here s q c needs sizes e x = absurd e

  -- one that is answered takes its place before those behind it
  module _ (by : ℕ) (m : Mutator) (h : Graph) where
    -- what is left of the heap by a statement with this answer
    record Leaves (s : Statement) (a : Answer) : Type 0 where
      pub count : h.count ≡ (heap_after p g by m s a).count
      pub size : h.size ≡ (heap_after p g by m s a).size

    abbrev Behind : Book → List ℕ → List ℕ → Type 0
    Behind c needs sizes = (state' : ℕ → BlockWord) (used' : ℕ → ℕ) → RoomsBehind h c state' used' → Lacks p c state' used' needs sizes

    young_behind : (fields words name : ℕ) (f : ℕ) (c : Book) (needs sizes : List ℕ) → name ≡ suc g.count → HasGrown g h fields → words ≡ words_for fields →
        Takes b (words_for fields) name f c → Behind c needs sizes → Lacks p b state used (words ∷ needs) sizes
    young_behind fields words name f c needs sizes a grown e takes later =
        let takes = subst (λ (n : ℕ). Takes b (words_for fields) n f c) a takes in
        word_before fields words f c needs sizes e takes (later state used (rooms_young h fields f c grown takes))

    none_behind : (s : Statement) (q : Request) (a : Answer) (c : Book) (needs sizes : List ℕ) → IsRequestOf p s q → IsSmall (made_words p s) →
        Answers p g m s a → Places p InFragments g b s a c → Leaves s a → Behind c needs sizes →
        Lacks p b state used (needed_by q needs) (sized_by q sizes)
    none_behind (New r class) (Need words) (At name) c needs sizes e small a (small', (f, takes)) left later =
        young_behind (fields_of p class) words name f c needs sizes a (record { count = left.count; size = left.size }) e takes later
    none_behind (New r class) (Need words) Full c needs sizes e small a x left later = inl (no_room p g b (words_for (fields_of p class)) words needs e x.1)
    none_behind (New r class) (Need words) a c needs sizes e small a' x left later = absurd x
    none_behind (NewV r class count) (Need words) (At name) c needs sizes e small a (small', (f, takes)) left later =
        young_behind count words name f c needs sizes a (record { count = left.count; size = left.size }) e takes later
    none_behind (NewV r class count) (Need words) Full c needs sizes e small a x left later = inl (no_room p g b (words_for count) words needs e x.1)
    none_behind (NewV r class count) (Need words) a c needs sizes e small a' x left later = absurd x
    none_behind (Mature r class) (Slot size) (At name) c needs sizes e small a (j, i, takes) left later =
        let fields = fields_of p class in
        let first = first_clear fields j i takes.first in
        let after : c ≡ placed_in b Old (suc g.count) (slot_at p j (slot_words fields) i) =
        takes.after ∙ ap (λ (n : ℕ). placed_in b Old n (slot_at p j (slot_words fields) i)) a in
        slot_before fields size j i c needs sizes e first after
        (later (states fields j) (useds j i)
        (rooms_old h fields j i c (record { count = left.count; size = left.size }) first.there first.clear small after))
    none_behind (Mature r class) (Slot size) Full c needs sizes e small a x left later = no_slot (fields_of p class) size needs sizes e x.0
    none_behind (Mature r class) (Slot size) a c needs sizes e small a' x left later = absurd x
    none_behind (Mature r class) q a c needs sizes e small a' x left later = absurd e
    none_behind (Collect false) Minor Fine c needs sizes e small a x left later =
        same_before c needs sizes x (later state used (rooms_same h c left.count left.size x))
    none_behind (Collect false) Minor a c needs sizes e small a' x left later = absurd x
    none_behind (Collect true) Major Fine c needs sizes e small a x left later =
        same_before c needs sizes x (later state used (rooms_same h c left.count left.size x))
    none_behind (Collect true) Major a c needs sizes e small a' x left later = absurd x
    none_behind Sections AllSections Fine c needs sizes e small a x left later =
        same_before c needs sizes x (later state used (rooms_same h c left.count left.size x))
    none_behind Sections AllSections a c needs sizes e small a' x left later = absurd x
    none_behind s q a c needs sizes e small a' x left later = absurd e

-- what a statement with this answer leaves, where it is done
left_by : (p : Program) (g h : Graph) (by : ℕ) (s : Statement) (rest : List Statement) (a : Answer) →
    h ≡ advanced (heap_after p g by (g.mutator by) s a) by (hands_after (g.mutator by) s a) rest →
    (h.count ≡ (heap_after p g by (g.mutator by) s a).count) × (h.size ≡ (heap_after p g by (g.mutator by) s a).size)
left_by p g h by s rest a e = (ap (λ (z : Graph). z.count) e, ap (λ (z : Graph). z.size) e)

to_room : (p : Program) (marks : ℕ → ℕ) (g : Graph) (b : Book) (requests : List Asked) → LacksOne p InFragments g b requests →
    (used : ℕ → ℕ) (state : ℕ → BlockWord) → AreAsking p g requests → AreRooms p g.count g.size b marks state used →
    Lacks p b state used (needs_of requests) (sizes_of requests)
to_room p marks _ _ _ (ThisOne g b asked more h c x) used state asking r =
    let asks = asking.each.0 in
    none_here p g b marks used state r asks.statement asked.request c (needs_of more) (sizes_of more) asks.asks (places_there p g b asked Full h c asks x)
to_room p marks _ _ _ (OneBehind g b asked more a h c x later) used state asking r =
    let asks = asking.each.0 in
    let same = same_statement p g b asked a h c asks x in
    let left = left_by p g h asked.by x.statement x.rest a x.does.1 in
    none_behind p g b marks used state r asked.by (g.mutator asked.by) h asks.statement asked.request a c (needs_of more) (sizes_of more) asks.asks asks.small
    (subst (λ s. Answers p g (g.mutator asked.by) s a) same x.does.0)
    (places_there p g b asked a h c asks x)
    (record {
      count = subst (λ s. h.count ≡ (heap_after p g asked.by (g.mutator asked.by) s a).count) same left.0;
      size = subst (λ s. h.size ≡ (heap_after p g asked.by (g.mutator asked.by) s a).size) same left.1;
    })
    (λ state' used' r'. to_room p marks h c more later used' state' (still p g asked more x.statement x.rest a h x.does.1 asking) r')

-- What follows for a statement that asks, where there is no place for its request and those behind it: it has no place itself, or is answered and
-- leaves none for those.
record GoesOn (p : Program) (g : Graph) (b : Book) (marks : ℕ → ℕ) (by : ℕ) (m : Mutator) (s : Statement) (needs sizes : List ℕ) : Type 0 where
  pub answer : Answer
  pub book : Book
  pub answers : Answers p g m s answer
  pub places : Places p InFragments g b s answer book
  pub state : ℕ → BlockWord
  pub used : ℕ → ℕ
  pub rooms : (h : Graph) → h.count ≡ (heap_after p g by m s answer).count → h.size ≡ (heap_after p g by m s answer).size →
      AreRooms p h.count h.size book marks state used
  pub lacks : Lacks p book state used needs sizes

abbrev Follows : Program → Graph → Book → (ℕ → ℕ) → ℕ → Mutator → Statement → List ℕ → List ℕ → Type 0
Follows p g b marks by m s needs sizes = (Answers p g m s Full × Places p InFragments g b s Full b) ⊎ GoesOn p g b marks by m s needs sizes

-- the lowest fragment with room, or none has
find_room : (b : Book) (n : ℕ) → ((f : ℕ) × (f < b.fragments) × HasRoom b n f × ((j : ℕ) → j < f → LacksRoom b n j)) ⊎
    ((f : ℕ) → f < b.fragments → LacksRoom b n f)
find_room b n = first_of (λ f. HasRoom b n f) (λ f. LacksRoom b n f) b.fragments (λ f l. elim (cases_lt (b.limit f) (b.next f + n)) [
  | inl lacks ↦ inr lacks
  | inr room ↦ inl room
])

module _ (p : Program) (g : Graph) (b : Book) (marks used : ℕ → ℕ) (state : ℕ → BlockWord) (r : AreRooms p g.count g.size b marks state used) (by : ℕ) (m : Mutator) where
  -- the first clear slot, or none is
  find_slot : (fields : ℕ) → ((j i : ℕ) × IsFirstClear p state used (slot_words fields) j i) ⊎ HasNoSlot p g b fields
  find_slot fields = elim (first_of (λ c. (i : ℕ) × IsClearAt (state c) (used c) z i) (λ c. IsShut p g b c z) p.config.blocks
      (λ c l. clear_or_shut p g b marks used state r z class c l)) [
        | inl (j, l, (i, clear), below) ↦ inl (
          j,
          i,
          record {
            there = l;
            clear = clear;
            below = λ d k. shut_unclear p g b marks used state r z class d (omega arith) (below d k);
          },
        )
        | inr none ↦ inr (record { none = none })
      ]
    where
      z : ℕ
      z = slot_words fields

      class : IsSizeClass z
      class = slot_size-class (words_for fields)

  -- a new object of the nursery, with so many fields, for which a fragment is looked for
  module _ (fields : ℕ) where
    abbrev taken : ℕ → Book
    taken f = record (placed b (suc g.count) (b.next f)) { next = put b.next f (b.next f + words_for fields) }

    takes : (f : ℕ) → f < b.fragments → HasRoom b (words_for fields) f → ((j : ℕ) → j < f → LacksRoom b (words_for fields) j) →
        Takes b (words_for fields) (suc g.count) f (taken f)
    takes f there room lowest = record { there = there; room = room; lowest = lowest; after = refl }

    -- it has no fragment, or this one
    abbrev Finds : List ℕ → List ℕ → Type 0
    Finds needs sizes =
        HasNoFragment b (words_for fields) ⊎ ((f : ℕ) × Takes b (words_for fields) (suc g.count) f (taken f) × Lacks p (taken f) state used needs sizes)

    finds : (words : ℕ) (needs sizes : List ℕ) → words ≡ words_for fields → Lacks p b state used (words ∷ needs) sizes → Finds needs sizes
    finds words needs sizes e (inl x) = elim (by_first b.fragments b.limit b.next (words_for fields ∷ needs) (subst (λ z. LacksIn b (z ∷ needs)) e x)) [
      | inl none ↦ inl (record { none = none })
      | inr (f, there, room, lowest, later) ↦ inr (f, takes f there room lowest, inl later)
    ]
    finds words needs sizes e (inr x) = elim (find_room b (words_for fields)) [
      | inl (f, there, room, lowest) ↦ inr (f, takes f there room lowest, inr x)
      | inr none ↦ inl (record { none = none })
    ]

    rooms_taken : (h : Graph) (f : ℕ) → h.count ≡ suc g.count → h.size ≡ put g.size (suc g.count) fields →
        Takes b (words_for fields) (suc g.count) f (taken f) → AreRooms p h.count h.size (taken f) marks state used
    rooms_taken h f count size t = rooms_young p g b marks used state r h fields f (taken f) (record { count = count; size = size }) t

    -- and one of the major heap
    abbrev slotted : ℕ → ℕ → Book
    slotted j i = placed_in b Old (suc g.count) (slot_at p j (slot_words fields) i)

    abbrev FindsSlot : List ℕ → List ℕ → Type 0
    FindsSlot needs sizes =
        HasNoSlot p g b fields
        ⊎ ((j i : ℕ) × IsFirstClear p state used (slot_words fields) j i
        × Lacks p (slotted j i) (put state j (Swept (slot_words fields))) (put used j (bit_or (used j) (2 ^ i))) needs sizes)

    finds_slot : (size : ℕ) (needs sizes : List ℕ) → size ≡ slot_words fields → Lacks p b state used needs (size ∷ sizes) → FindsSlot needs sizes
    finds_slot size needs sizes e (inl x) = elim (find_slot fields) [
      | inl (j, i, first) ↦ inr (j, i, first, inl x)
      | inr none ↦ inl none
    ]
    finds_slot size needs sizes e (inr x) =
        elim (slots_by p state used (slot_words fields ∷ sizes) (subst (λ z. LacksSlots p.config.blocks state used (z ∷ sizes)) e x)) [
          | inl none ↦ inl (record { none = λ c l. unclear_shut p g b marks used state r (slot_words fields) (slot_size-class (words_for fields)) c l (none c l) })
          | inr (j, i, first, later) ↦ inr (j, i, first, inr later)
        ]

  follows : (s : Statement) (q : Request) (needs sizes : List ℕ) → IsRequestOf p s q → IsSmall (made_words p s) →
      Lacks p b state used (needed_by q needs) (sized_by q sizes) → Follows p g b marks by m s needs sizes
  follows (New r' class) (Need words) needs sizes e small x = elim (finds (fields_of p class) words needs sizes e x) [
    | inl none ↦ inl (tt, (small, none, refl))
    | inr (f, t, later) ↦ inr (record {
      answer = At (suc g.count);
      book = taken (fields_of p class) f;
      answers = refl;
      places = (small, (f, t));
      state = state;
      used = used;
      rooms = λ h count size. rooms_taken (fields_of p class) h f count size t;
      lacks = later;
    })
  ]
  follows (NewV r' class count) (Need words) needs sizes e small x = elim (finds count words needs sizes e x) [
    | inl none ↦ inl (tt, (small, none, refl))
    | inr (f, t, later) ↦ inr (record {
      answer = At (suc g.count);
      book = taken count f;
      answers = refl;
      places = (small, (f, t));
      state = state;
      used = used;
      rooms = λ h count' size. rooms_taken count h f count' size t;
      lacks = later;
    })
  ]
  follows (Mature r' class) (Slot size) needs sizes e small x = elim (finds_slot (fields_of p class) size needs sizes e x) [
    | inl none ↦ inl (tt, (none, refl))
    | inr (j, i, first, later) ↦ inr (record {
      answer = At (suc g.count);
      book = slotted (fields_of p class) j i;
      answers = refl;
      places = (j, i, record { first = first_open p g b marks used state r (fields_of p class) j i first; after = refl });
      state = put state j (Swept (slot_words (fields_of p class)));
      used = put used j (bit_or (used j) (2 ^ i));
      rooms = λ h count size'.
          rooms_old p g b marks used state r h (fields_of p class) j i (slotted (fields_of p class) j i) (record { count = count; size = size' }) first.there
          first.clear small refl;
      lacks = later;
    })
  ]
  follows (Mature r' class) q needs sizes e small x = absurd e
  follows (Collect false) Minor needs sizes e small x = inr (record {
    answer = Fine;
    book = b;
    answers = tt;
    places = refl;
    state = state;
    used = used;
    rooms = λ h count size. rooms_same p g b marks used state r h b count size refl;
    lacks = x;
  })
  follows (Collect true) Major needs sizes e small x = inr (record {
    answer = Fine;
    book = b;
    answers = tt;
    places = refl;
    state = state;
    used = used;
    rooms = λ h count size. rooms_same p g b marks used state r h b count size refl;
    lacks = x;
  })
  follows Sections AllSections needs sizes e small x = inr (record {
    answer = Fine;
    book = b;
    answers = tt;
    places = refl;
    state = state;
    used = used;
    rooms = λ h count size. rooms_same p g b marks used state r h b count size refl;
    lacks = x;
  })
  follows s q needs sizes e small x = absurd e

lacks_none : (p : Program) (b : Book) (state : ℕ → BlockWord) (used : ℕ → ℕ) → Lacks p b state used [] [] → ⊥
lacks_none p b state used (inl x) = by_first b.fragments b.limit b.next [] x
lacks_none p b state used (inr x) = slots_by p state used [] x

from_room : (p : Program) (marks : ℕ → ℕ) (requests : List Asked) (g : Graph) (b : Book) (used : ℕ → ℕ) (state : ℕ → BlockWord) → AreAsking p g requests →
    AreRooms p g.count g.size b marks state used → Lacks p b state used (needs_of requests) (sizes_of requests) → LacksOne p InFragments g b requests
from_room p marks [] g b used state asking r x = absurd (lacks_none p b state used x)
from_room p marks (asked ∷ more) g b used state asking r x =
    let asks = asking.each.0 in
    let m = g.mutator asked.by in
    elim (follows p g b marks used state r asked.by m asks.statement asked.request (needs_of more) (sizes_of more) asks.asks asks.small x) [
      | inl (answers, places) ↦
          ThisOne g b asked more (behind p g asked.by asks.statement asks.rest Full) b
          (record { statement = asks.statement; rest = asks.rest; next = asks.next; does = (answers, refl); places = places })
      | inr on ↦
          let h = behind p g asked.by asks.statement asks.rest on.answer in
          OneBehind g b asked more on.answer h on.book
          (record { statement = asks.statement; rest = asks.rest; next = asks.next; does = (on.answers, refl); places = on.places })
          (from_room p marks more h on.book on.used on.state (still p g asked more asks.statement asks.rest on.answer h refl asking) (on.rooms h refl refl) on.lacks)
    ]

-- what matters of a heap
rooms_of : (p : Program) (g : Graph) (b : Book) (marks used word : ℕ → ℕ) (state : ℕ → BlockWord) (owner : ℕ → Owner) →
    Objects p g.count g.class g.size b.stands b.address b.section owner → Fragments p b.fragments b.next b.limit owner →
    AreBlocks p marks state used word g.size b.stands b.address b.section b.owed owner → AreInhabited p state b.stands b.address → AreUnowed p state →
    AreRooms p g.count g.size b marks state used
rooms_of p g b marks used word state owner objects fragments blocks inhabited unowed = record {
  blocks = record { placed = blocks.placed; each = blocks.each; clear = λ c l x from to none clean. refl; sized = blocks.sized };
  unowed = unowed;
  inhabited = inhabited;
  named = objects.given;
  small = λ n l q o. let few = (objects.shaped n l q).1.0 in omega arith;
  front = λ n l q o. elim (objects.inside n l q) [
    | inl young ↦ young.2
    | inr old ↦ absurd (o old.0)
  ];
  limits = λ f l. (fragments.inside f l).2;
}

pub places_by_room : PlacesByRoom
places_by_room p g b marks used word state owner requests asking objects fragments blocks inhabited unowed =
    let r = rooms_of p g b marks used word state owner objects fragments blocks inhabited unowed in
    (λ lacks. to_room p marks g b requests lacks used state asking r, from_room p marks requests g b used state asking r)
