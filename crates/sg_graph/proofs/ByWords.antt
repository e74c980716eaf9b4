-- Whether placing the requests by fragments leaves one without a place is told by the words for which they ask.
use Rattle.std.proofs.Common.{◌≡◌, ◌≢◌, ℕ, suc, ◌+◌, ◌<◌, ◌≤◌, ◌⊎◌, inl, inr, true, false, List, [], ◌∷◌, map, sym, refl, ap, ◌∙◌, subst, arith}
use Rattle.std.specs.List.{AllByRecursion}
use Rattle.sg_words.specs.Words.{put}
use Rattle.sg_words.specs.Reach.{IsFreshIn}
use Rattle.sg_words.proofs.Puts.{put-other}
use Rattle.sg_program.specs.declared.program.Statement.{Statement}
use Rattle.sg_program.specs.declared.program.Statement.TheVariants.{New, NewV, Mature, Put, PutD, GPut, WSet, NextFin, Collect, Sections}
use Rattle.sg_program.specs.declared.program.Program.{Program}
use Rattle.sg_program.specs.declared.answers.Answer.{Answer}
use Rattle.sg_program.specs.declared.answers.Answer.TheVariants.{At, Fine, Full}
use Rattle.sg_program.specs.declared.answers.Request.{Request}
use Rattle.sg_program.specs.declared.answers.Request.TheVariants.{Need, Slot, Minor, Major, Sections as AllSections}
use Rattle.sg_program.specs.Scripts.{words_for, fields_of, made_words, IsSmall, IsRequestOf}
use Rattle.sg_graph.specs.Graph.{Graph, Mutator, advanced}
use Rattle.sg_graph.specs.Statements.{Answers, heap_after, hands_after}
use Rattle.sg_graph.specs.Book.{Book, placed}
use Rattle.sg_graph.specs.Stop.{Asked, InFragments, Takes, HasNoFragment, Places, IsAnswered, LacksOne, ThisOne, OneBehind}
use Rattle.sg_graph.specs.Laws.{LacksWords, NoRoom, RoomBefore, needed_by, needs_of, AsksNoSlot, IsAsking, AreAsking, PlacesByWords}

-- what finding no room means, by the first of the words
abbrev pub LacksBy : ℕ → (ℕ → ℕ) → (ℕ → ℕ) → List ℕ → Type 0
LacksBy fragments limit next [] = ⊥
LacksBy fragments limit next (n ∷ more) =
    ((f : ℕ) → f < fragments → limit f < next f + n)
    ⊎ ((f : ℕ) × (f < fragments) × (next f + n ≤ limit f) × ((j : ℕ) → j < f → limit j < next j + n)
    × LacksWords fragments limit (put next f (next f + n)) more)

pub by_first : (fragments : ℕ) (limit next : ℕ → ℕ) (needs : List ℕ) → LacksWords fragments limit next needs → LacksBy fragments limit next needs
by_first fragments limit _ _ (NoRoom next n more none) = inl none
by_first fragments limit _ _ (RoomBefore next n more f there room lowest later) = inr (f, there, room, lowest, later)

-- a book's fragments have no room for all of these
abbrev pub LacksIn : Book → List ℕ → Type 0
LacksIn b needs = LacksWords b.fragments b.limit b.next needs

-- a statement changes no mutator but by what it leaves in its own hands
same_mutators : (p : Program) (g : Graph) (k : ℕ) (m : Mutator) (s : Statement) (a : Answer) → (heap_after p g k m s a).mutator ≡ g.mutator
same_mutators p g k m (New r class) (At name) = refl
same_mutators p g k m (NewV r class count) (At name) = refl
same_mutators p g k m (Mature r class) (At name) = refl
same_mutators p g k m (Put r i s) Fine = refl
same_mutators p g k m (PutD r i s) Fine = refl
same_mutators p g k m (GPut x r) Fine = refl
same_mutators p g k m (WSet w r long) Fine = refl
same_mutators p g k m (NextFin r) (At name) = refl
same_mutators p g k m s a = refl

module _ (p : Program) (g : Graph) (by : ℕ) (s : Statement) (rest : List Statement) (a : Answer) where
  -- the graph behind a statement with this answer
  abbrev pub behind : Graph
  behind = advanced (heap_after p g by (g.mutator by) s a) by (hands_after (g.mutator by) s a) rest

  others : (k : ℕ) → k ≢ by → behind.mutator k ≡ g.mutator k
  others k other =
      put-other (heap_after p g by (g.mutator by) s a).mutator by (record (hands_after (g.mutator by) s a) { script = rest }) k other
      ∙ ap (λ (f : ℕ → Mutator). f k) (same_mutators p g by (g.mutator by) s a)

  -- a mutator that asks still asks behind another one's statement
  still_each : (more : List Asked) → AllByRecursion (IsAsking p g) more → IsFreshIn by (map (λ (asked : Asked). asked.by) more) →
      AllByRecursion (IsAsking p behind) more
  still_each [] each fresh = tt
  still_each (asked ∷ more) (asks, each) (other, fresh) = (
    record {
      statement = asks.statement;
      rest = asks.rest;
      next = ap (λ (m : Mutator). m.script) (others asked.by (λ e. other (sym e))) ∙ asks.next;
      asks = asks.asks;
      small = asks.small;
    },
    still_each more each fresh,
  )

pub still : (p : Program) (g : Graph) (asked : Asked) (more : List Asked) (s : Statement) (rest : List Statement) (a : Answer) (h : Graph) →
    h ≡ advanced (heap_after p g asked.by (g.mutator asked.by) s a) asked.by (hands_after (g.mutator asked.by) s a) rest →
    AreAsking p g (asked ∷ more) → AreAsking p h more
still p g asked more s rest a h e asking =
    subst (λ z. AreAsking p z more) (sym e) (record { each = still_each p g asked.by s rest a more asking.each.1 asking.once.0; once = asking.once.1 })

module _ (p : Program) (g : Graph) (b : Book) where
  -- where a new object with so many fields has no fragment, its words find no room
  pub no_room : (n words : ℕ) (needs : List ℕ) → words ≡ n → HasNoFragment b n → LacksIn b (words ∷ needs)
  no_room n words needs e none = subst (λ z. LacksIn b (z ∷ needs)) (sym e) (NoRoom b.next n needs none.none)

  pub room_before : (n words name f : ℕ) (c : Book) (needs : List ℕ) → words ≡ n → Takes b n name f c → LacksIn c needs → LacksIn b (words ∷ needs)
  room_before n words name f c needs e takes later =
      subst (λ z. LacksIn b (z ∷ needs)) (sym e)
      (RoomBefore b.next n needs f takes.there takes.room takes.lowest (subst (λ (z : Book). LacksIn z needs) takes.after later))

  -- a statement that asks, and is answered so, takes what its request says from the fragments
  none_here : (s : Statement) (q : Request) (c : Book) (needs : List ℕ) → IsRequestOf p s q → ((size : ℕ) → q ≢ Slot size) →
      Places p InFragments g b s Full c → LacksIn b (needed_by q needs)
  none_here (New r class) (Need words) c needs e u x = no_room (words_for (fields_of p class)) words needs e x.1
  none_here (NewV r class count) (Need words) c needs e u x = no_room (words_for count) words needs e x.1
  none_here (Collect false) Minor c needs e u x = absurd x
  none_here (Collect true) Major c needs e u x = absurd x
  none_here Sections AllSections c needs e u x = absurd x
  none_here (Mature r class) (Slot size) c needs e u x = absurd (u size refl)
  none_here (Mature r class) q c needs e u x = absurd e
  none_here s q c needs e u x = absurd e

  none_behind : (s : Statement) (q : Request) (a : Answer) (c : Book) (needs : List ℕ) → IsRequestOf p s q → ((size : ℕ) → q ≢ Slot size) →
      Places p InFragments g b s a c → LacksIn c needs → LacksIn b (needed_by q needs)
  none_behind (New r class) (Need words) (At name) c needs e u (small, (f, takes)) later =
      room_before (words_for (fields_of p class)) words name f c needs e takes later
  none_behind (New r class) (Need words) Full c needs e u x later = no_room (words_for (fields_of p class)) words needs e x.1
  none_behind (New r class) (Need words) a c needs e u x later = absurd x
  none_behind (NewV r class count) (Need words) (At name) c needs e u (small, (f, takes)) later = room_before (words_for count) words name f c needs e takes later
  none_behind (NewV r class count) (Need words) Full c needs e u x later = no_room (words_for count) words needs e x.1
  none_behind (NewV r class count) (Need words) a c needs e u x later = absurd x
  none_behind (Collect false) Minor Fine c needs e u x later = subst (λ (z : Book). LacksIn z needs) x later
  none_behind (Collect false) Minor a c needs e u x later = absurd x
  none_behind (Collect true) Major Fine c needs e u x later = subst (λ (z : Book). LacksIn z needs) x later
  none_behind (Collect true) Major a c needs e u x later = absurd x
  none_behind Sections AllSections Fine c needs e u x later = subst (λ (z : Book). LacksIn z needs) x later
  none_behind Sections AllSections a c needs e u x later = absurd x
  none_behind (Mature r class) (Slot size) a c needs e u x later = absurd (u size refl)
  none_behind (Mature r class) q a c needs e u x later = absurd e
  none_behind s q a c needs e u x later = absurd e

-- the statement that is answered is the one that asks
pub same_statement : (p : Program) (g : Graph) (b : Book) (asked : Asked) (a : Answer) (h : Graph) (c : Book) (asks : IsAsking p g asked)
    (x : IsAnswered p InFragments g b asked a h c) → x.statement ≡ asks.statement
same_statement p g b asked a h c asks x = let both : (x.statement ∷ x.rest) ≡ (asks.statement ∷ asks.rest) = sym x.next ∙ asks.next in cc both

pub places_there : (p : Program) (g : Graph) (b : Book) (asked : Asked) (a : Answer) (h : Graph) (c : Book) (asks : IsAsking p g asked)
    (x : IsAnswered p InFragments g b asked a h c) → Places p InFragments g b asks.statement a c
places_there p g b asked a h c asks x = subst (λ s. Places p InFragments g b s a c) (same_statement p g b asked a h c asks x) x.places

-- no slot is asked for, behind the first request either
none_first : (asked : Asked) (more : List Asked) → AsksNoSlot (asked ∷ more) → (size : ℕ) → asked.request ≢ Slot size
none_first asked more unslotted size = unslotted asked size (0, omega arith, refl)

none_later : (asked : Asked) (more : List Asked) → AsksNoSlot (asked ∷ more) → AsksNoSlot more
none_later asked more unslotted other size there = unslotted other size (suc there.0, (let q = there.1 in omega arith), there.2)

to_words : (p : Program) (g : Graph) (b : Book) (requests : List Asked) → AreAsking p g requests → AsksNoSlot requests → LacksOne p InFragments g b requests →
    LacksIn b (needs_of requests)
to_words p _ _ _ asking unslotted (ThisOne g b asked more h c x) =
    let asks = asking.each.0 in
    none_here p g b asks.statement asked.request c (needs_of more) asks.asks (none_first asked more unslotted) (places_there p g b asked Full h c asks x)
to_words p _ _ _ asking unslotted (OneBehind g b asked more a h c x later) =
    let asks = asking.each.0 in
    none_behind p g b asks.statement asked.request a c (needs_of more) asks.asks (none_first asked more unslotted) (places_there p g b asked a h c asks x)
    (to_words p h c more (still p g asked more x.statement x.rest a h x.does.1 asking) (none_later asked more unslotted) later)

-- What follows for a statement that asks, where the fragments have no room for its request and those behind it: it has no place itself, or is
-- answered and leaves no room for those.
abbrev Follows : Program → Graph → Book → Mutator → Statement → List ℕ → Type 0
Follows p g b m s needs =
    (Answers p g m s Full × Places p InFragments g b s Full b)
    ⊎ ((a : Answer) × (c : Book) × Answers p g m s a × Places p InFragments g b s a c × LacksIn c needs)

module _ (p : Program) (g : Graph) (b : Book) (m : Mutator) where
  follows : (s : Statement) (q : Request) (needs : List ℕ) → IsRequestOf p s q → ((size : ℕ) → q ≢ Slot size) → IsSmall (made_words p s) →
      LacksIn b (needed_by q needs) →
      Follows p g b m s needs
  follows (New r class) (Need words) needs e u small x =
      let n = words_for (fields_of p class) in
      elim (by_first b.fragments b.limit b.next (n ∷ needs) (subst (λ z. LacksIn b (z ∷ needs)) e x)) [
        | inl none ↦ inl (tt, (small, record { none = none }, refl))
        | inr (f, there, room, lowest, later) ↦
            let c : Book = record (placed b (suc g.count) (b.next f)) { next = put b.next f (b.next f + n) } in
            inr (At (suc g.count), c, refl, (small, (f, record { there = there; room = room; lowest = lowest; after = refl })), later)
      ]
  follows (NewV r class count) (Need words) needs e u small x =
      let n = words_for count in
      elim (by_first b.fragments b.limit b.next (n ∷ needs) (subst (λ z. LacksIn b (z ∷ needs)) e x)) [
        | inl none ↦ inl (tt, (small, record { none = none }, refl))
        | inr (f, there, room, lowest, later) ↦
            let c : Book = record (placed b (suc g.count) (b.next f)) { next = put b.next f (b.next f + n) } in
            inr (At (suc g.count), c, refl, (small, (f, record { there = there; room = room; lowest = lowest; after = refl })), later)
      ]
  follows (Collect false) Minor needs e u small x = inr (Fine, b, tt, refl, x)
  follows (Collect true) Major needs e u small x = inr (Fine, b, tt, refl, x)
  follows Sections AllSections needs e u small x = inr (Fine, b, tt, refl, x)
  follows (Mature r class) (Slot size) needs e u small x = absurd (u size refl)
  follows (Mature r class) q needs e u small x = absurd e
  follows s q needs e u small x = absurd e

from_words : (p : Program) (requests : List Asked) (g : Graph) (b : Book) → AreAsking p g requests → AsksNoSlot requests → LacksIn b (needs_of requests) →
    LacksOne p InFragments g b requests
from_words p [] g b asking unslotted x = absurd (by_first b.fragments b.limit b.next [] x)
from_words p (asked ∷ more) g b asking unslotted x =
    let asks = asking.each.0 in
    let m = g.mutator asked.by in
    elim (follows p g b m asks.statement asked.request (needs_of more) asks.asks (none_first asked more unslotted) asks.small x) [
      | inl (answers, places) ↦
          ThisOne g b asked more (behind p g asked.by asks.statement asks.rest Full) b
          (record { statement = asks.statement; rest = asks.rest; next = asks.next; does = (answers, refl); places = places })
      | inr (a, c, answers, places, later) ↦
          let h = behind p g asked.by asks.statement asks.rest a in
          OneBehind g b asked more a h c (record { statement = asks.statement; rest = asks.rest; next = asks.next; does = (answers, refl); places = places })
          (from_words p more h c (still p g asked more asks.statement asks.rest a h refl asking) (none_later asked more unslotted) later)
    ]

pub places_by_words : PlacesByWords
places_by_words p g b requests asking unslotted = (to_words p g b requests asking unslotted, from_words p requests g b asking unslotted)
