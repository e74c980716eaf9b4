-- A turn of a mutator does one thing.
use Rattle.std.proofs.Common.{◌≡◌, ◌≢◌, ℕ, suc, ◌⊎◌, inl, inr, Bool, true, false, Option, Some, None, List, [], ◌∷◌, sym, refl, ap, ◌∙◌, subst, arith}
use Rattle.std.proofs.lemmas.Bool.{cases_lt, cases_eq}
use Rattle.sg_words.specs.Words.{put}
use Rattle.sg_words.proofs.Blocks.{class_bounds, slot_size-class}
use Rattle.sg_words.proofs.Puts.{put-at, put-same, put-other}
use Rattle.sg_program.specs.declared.program.Statement.{Statement}
use Rattle.sg_program.specs.declared.program.Statement.TheVariants.{New, NewV, Mature, Collect, Sections}
use Rattle.sg_program.specs.declared.program.Program.{Program}
use Rattle.sg_program.specs.declared.answers.Answer.{Answer}
use Rattle.sg_program.specs.declared.answers.Answer.TheVariants.{At}
use Rattle.sg_program.specs.declared.answers.Request.{Request}
use Rattle.sg_program.specs.declared.answers.Request.TheVariants.{Need, Minor, Major, Sections as AllSections}
use Rattle.sg_program.specs.declared.answers.Leave.TheVariants.{Ended, Yield}
use Rattle.sg_program.specs.Scripts.{IsMaking, IsMature, made_words, made_slot, fields_of, words_for, IsCollecting}
use Rattle.sg_graph.specs.Graph.{Graph, Mutator}
use Rattle.sg_graph.specs.Statements.{Answers}
use Rattle.sg_graph.specs.Book.{Book, Young, Old, placed_in, slot_at, slot_words, words_of_class, Books, IsPlaced, IsInSlot}
use Rattle.sg_graph.specs.Epoch.{Said, Turn}
use Rattle.sg_graph.specs.Laws.{HasOneTurn, HasOneSearch}
use Rattle.sg_graph.specs.Turns as turns
use Rattle.sg_graph.specs.Turns.{Position, Between, Claiming, OpeningBlock, TakingSlot, TakingOver, SweepingBlock, BehindSweep, HasLeft, Board, moved_on, asking, giving, stopped_at, IsLowestFrom, HasNoneFrom, Searches, SearchesFrom, SearchesOnAt, TakesTurn}
use Rattle.sg_replay.proofs.Fitting.{FitsAt}

-- the lowest fragment with room is one, and there is none where all lack room
one_lowest : (b : Book) (n f i j : ℕ) → IsLowestFrom b n f i → IsLowestFrom b n f j → i ≡ j
one_lowest b n f i j x y = elim (cases_lt i j) [
  | inl l ↦ absurd (let r = y.lowest i x.from l in let q = x.room in omega arith)
  | inr above ↦ elim (cases_lt j i) [
    | inl l ↦ absurd (let r = x.lowest j y.from l in let q = y.room in omega arith)
    | inr below ↦ omega arith
  ]
]

not_both : (b : Book) (n f i : ℕ) → IsLowestFrom b n f i → HasNoneFrom b n f → ⊥
not_both b n f i x none = let r = none i x.from x.there in let q = x.room in omega arith

-- a statement that asks by itself asks for one thing
one_request : (s : Statement) (q r : Request) → IsCollecting s q → IsCollecting s r → q ≡ r
one_request (Collect false) Minor Minor h k = refl
one_request (Collect false) Minor r h k = absurd k
one_request (Collect true) Major Major h k = refl
one_request (Collect true) Major r h k = absurd k
one_request Sections AllSections AllSections h k = refl
one_request Sections AllSections r h k = absurd k
one_request s q r h k = absurd h

makes_nothing : (s : Statement) (q : Request) → IsCollecting s q → IsMaking s → ⊥
makes_nothing (New r class) q h k = h
makes_nothing (NewV r class count) q h k = h
makes_nothing s q h k = k

matures_nothing : (s : Statement) (q : Request) → IsCollecting s q → IsMature s → ⊥
matures_nothing (Mature r class) q h k = h
matures_nothing s q h k = k

makes_one : (s : Statement) → IsMaking s → IsMature s → ⊥
makes_one (Mature r class) h k = h
makes_one s h k = k

never_done : (p : Program) (g : Graph) (b : Book) (k : ℕ) (s : Statement) (q : Request) (answer : Answer) (c : Book) → IsCollecting s q →
    Books p g b k s answer c → ⊥
never_done p g b k (Collect major) q answer c h x = x
never_done p g b k Sections q answer c h x = x
never_done p g b k s q answer c h x = h

-- a statement asks for a collection
record IsAsked (x : Board) (k : ℕ) (s : Statement) (said : List Said) (y : Board) : Type 0 where
  pub request : Request
  pub collects : IsCollecting s request
  pub quiet : said ≡ []
  pub after : y ≡ asking x k request

-- a new object of the nursery is no old one
stays_old : (p : Program) (b : Book) (k words name other : ℕ) (c : Book) → IsPlaced p b k words name c → c.section other ≡ Old → other ≢ name
stays_old p b k words name other c (small, inl x) o e =
    let z : Young ≡ Old = sym (ap (λ (w : Book). w.section other) x.after ∙ put-at b.section name Young other e) ∙ o in absurd (cc z)
stays_old p b k words name other c (small, inr (f, x)) o e =
    let z : Young ≡ Old = sym (ap (λ (w : Book). w.section other) x.after ∙ put-at b.section name Young other e) ∙ o in absurd (cc z)

other_stays : (p : Program) (b : Book) (k words name other : ℕ) (c : Book) → IsPlaced p b k words name c → other ≢ name → c.address other ≡ b.address other
other_stays p b k words name other c (small, inl x) d = ap (λ (w : Book). w.address other) x.after ∙ put-other b.address name (b.from k) other d
other_stays p b k words name other c (small, inr (f, x)) d = ap (λ (w : Book). w.address other) x.after ∙ put-other b.address name (b.next f) other d

-- two books behind one statement agree on the old objects, where they do so on an object that it makes in the major heap
module _ (p : Program) (g : Graph) (b : Book) (k : ℕ) (m : Mutator) (c d : Book) (other : ℕ) (o : c.section other ≡ Old) where
  agree_young : (words name name' : ℕ) → name ≡ name' → IsPlaced p b k words name c → IsPlaced p b k words name' d → c.address other ≡ d.address other
  agree_young words name name' e x y =
      let apart = stays_old p b k words name other c x o in
      other_stays p b k words name other c x apart ∙ sym (other_stays p b k words name' other d y (λ q. apart (q ∙ sym e)))

  agree_old : (s : Statement) (a a' : Answer) → Answers p g m s a → Answers p g m s a' → Books p g b k s a c → Books p g b k s a' d →
      (IsMature s → c.address other ≡ d.address other) → c.address other ≡ d.address other
  agree_old (New r class) (At name) (At name') q q' x y made = agree_young (words_of_class p class) name name' (q ∙ sym q') x y
  agree_old (New r class) (At name) a' q q' x y made = absurd y
  agree_old (New r class) a a' q q' x y made = absurd x
  agree_old (NewV r class count) (At name) (At name') q q' x y made = agree_young (words_for count) name name' (q ∙ sym q') x y
  agree_old (NewV r class count) (At name) a' q q' x y made = absurd y
  agree_old (NewV r class count) a a' q q' x y made = absurd x
  agree_old (Mature r class) a a' q q' x y made = made tt
  agree_old (Collect major) a a' q q' x y made = absurd x
  agree_old Sections a a' q q' x y made = absurd x
  agree_old s a a' q q' x y made = ap (λ (w : Book). w.address other) (x ∙ sym y)

-- the slot of the object that a statement makes in the major heap: the place of the object is the slot's front, and no object was in it
record IsTaking (p : Program) (g : Graph) (b : Book) (s : Statement) (name : ℕ) (c : Book) : Type 0 where
  pub next : name ≡ suc g.count
  pub place : ℕ
  pub after : c ≡ placed_in b Old name place
  pub empty : (j i other : ℕ) → place ≡ slot_at p j (made_slot p s) i → IsInSlot p g b other j (made_slot p s) i → ⊥

taking : (p : Program) (g : Graph) (b : Book) (k : ℕ) (m : Mutator) (s : Statement) (name : ℕ) (c : Book) → IsMature s → Answers p g m s (At name) →
    Books p g b k s (At name) c → IsTaking p g b s name c
taking p g b k m (Mature r class) name c mature a x =
    let z = slot_words (fields_of p class) in record {
      next = a;
      place = slot_at p x.block z x.slot;
      after = x.after;
      empty = λ j i other e o.
          let at = o.at in
          let least = (class_bounds z (slot_size-class (words_for (fields_of p class)))).0 in
          x.open_slot.empty other (slot_at p x.block z x.slot) (record { some = o.some; stands = o.stands; above = omega arith; below = omega arith })
          (omega arith) (omega arith);
    }
taking p g b k m s name c mature a x = absurd mature

-- A statement is done; where it makes an object in the major heap, all stand at these addresses then.
record IsDone (p : Program) (x : Board) (k : ℕ) (s : Statement) (address : ℕ → ℕ) (position : ℕ → Position) (said : List Said) (y : Board) : Type 0 where
  pub word : Said
  pub graph : Graph
  pub book : Book
  pub by : word.by ≡ k
  pub turn : Turn p x.graph x.book word graph book
  pub statement : turn.statement ≡ s
  pub at : IsMature s → (name : ℕ) → book.address name ≡ address name
  pub is : said ≡ word ∷ []
  pub after : y ≡ record x { graph = graph; book = book; position = position }

-- a fragment is found for a statement, from this one on
record IsPrepared (p : Program) (x : Board) (k : ℕ) (s : Statement) (from : ℕ) (said : List Said) (y : Board) : Type 0 where
  pub fragment : ℕ
  pub lowest : IsLowestFrom x.book (made_words p s) from fragment
  pub quiet : said ≡ []
  pub after : y ≡ moved_on x k (Claiming fragment (x.book.next fragment))

-- and none is found
record IsNeeding (p : Program) (x : Board) (k : ℕ) (s : Statement) (from : ℕ) (said : List Said) (y : Board) : Type 0 where
  pub none : HasNoneFrom x.book (made_words p s) from
  pub quiet : said ≡ []
  pub after : y ≡ asking x k (Need (made_words p s))

abbrev Seeks : Program → Board → ℕ → Statement → ℕ → List Said → Board → Type 0
Seeks p x k s from said y = IsPrepared p x k s from said y ⊎ IsNeeding p x k s from said y

-- a search for a slot, from this block on, stops somewhere
record Looks (p : Program) (x : Board) (k : ℕ) (s : Statement) (from : ℕ) (said : List Said) (y : Board) : Type 0 where
  pub found : Option Position
  pub searches : SearchesFrom p x (made_slot p s) from found
  pub quiet : said ≡ []
  pub after : y ≡ stopped_at x k (made_slot p s) found

-- a statement is done that neither seeks a fragment nor makes an object in the major heap nor asks
record IsDoneHere (p : Program) (x : Board) (k : ℕ) (s : Statement) (said : List Said) (y : Board) : Type 0 where
  pub bumps : ¬ Searches p x.book k s
  pub not_mature : ¬ IsMature s
  pub not_asked : (q : Request) → IsCollecting s q → ⊥
  pub done : IsDone p x k s x.book.address x.position said y

-- a statement begins: it asks, is done, seeks a fragment, or searches for a slot
abbrev Opens : Program → Board → ℕ → Statement → List Said → Board → Type 0
Opens p x k s said y =
    IsAsked x k s said y ⊎ (IsDoneHere p x k s said y ⊎ ((Searches p x.book k s × Seeks p x k s 0 said y) ⊎ (IsMature s × Looks p x k s 0 said y)))

-- the claim of a fragment is made, or lost
abbrev Claims : Program → Board → ℕ → Statement → ℕ → ℕ → List Said → Board → Type 0
Claims p x k s f seen said y =
    ((x.book.next f ≡ seen) × IsDone p x k s x.book.address (put x.position k Between) said y) ⊎ ((x.book.next f ≢ seen) × Seeks p x k s f said y)

-- the exchange is made by which a free block gets slots, or lost
abbrev OpensBlock : Program → Board → ℕ → Statement → ℕ → List Said → Board → Type 0
OpensBlock p x k s block said y =
    ((x.given block ≡ None) × Looks p (giving x block (made_slot p s)) k s block said y) ⊎ (((z : ℕ) × (x.given block ≡ Some z)) × Looks p x k s block said y)

-- the claim of a slot is made, or lost
abbrev TakesSlot : Program → Board → ℕ → Statement → ℕ → ℕ → List Said → Board → Type 0
TakesSlot p x k s block slot said y =
    (((name : ℕ) → IsInSlot p x.graph x.book name block (made_slot p s) slot → ⊥)
    × IsDone p x k s (put x.book.address (suc x.graph.count) (slot_at p block (made_slot p s) slot)) (put x.position k Between) said y)
    ⊎ (((name : ℕ) × IsInSlot p x.graph x.book name block (made_slot p s) slot) × Looks p x k s block said y)

-- the exchange is made by which an owed block is taken over, or lost
abbrev TakesBlock : Program → Board → ℕ → Statement → ℕ → List Said → Board → Type 0
TakesBlock p x k s block said y =
    ((x.owed block ≡ true) × (said ≡ []) × (y ≡ record x { owed = put x.owed block false; position = put x.position k (SweepingBlock block) }))
    ⊎ ((x.owed block ≡ false) × Looks p x k s block said y)

-- what is done for the first of these statements
abbrev ForFirst : (Statement → Type 0) → List Statement → Type 0
ForFirst P [] = ⊥
ForFirst P (s ∷ rest) = P s

-- a turn, by where its mutator stands, the statements before it, and whether somebody asks for a stop
abbrev TurnAt : Program → Board → ℕ → Position → List Statement → Bool → List Said → Board → Type 0
TurnAt p x k Between [] stopping said y = (said ≡ []) × (y ≡ moved_on x k (HasLeft Ended))
TurnAt p x k Between (s ∷ rest) true said y = (said ≡ []) × (y ≡ moved_on x k (HasLeft Yield))
TurnAt p x k Between (s ∷ rest) false said y = Opens p x k s said y
TurnAt p x k (Claiming f seen) script stopping said y = ForFirst (λ s. Claims p x k s f seen said y) script
TurnAt p x k (OpeningBlock block) script stopping said y = ForFirst (λ s. OpensBlock p x k s block said y) script
TurnAt p x k (TakingSlot block slot) script stopping said y = ForFirst (λ s. TakesSlot p x k s block slot said y) script
TurnAt p x k (TakingOver block) script stopping said y = ForFirst (λ s. TakesBlock p x k s block said y) script
TurnAt p x k (SweepingBlock block) script stopping said y = (said ≡ []) × (y ≡ moved_on x k (BehindSweep block))
TurnAt p x k (BehindSweep block) script stopping said y = ForFirst (λ s. Looks p x k s block said y) script
TurnAt p x k (HasLeft leave) script stopping said y = ⊥

module _ (p : Program) (x : Board) (k : ℕ) where
  seen_at : (at at' : Position) (left left' : List Statement) (stopping stopping' : Bool) (said : List Said) (y : Board) → at ≡ at' → left ≡ left' →
      stopping ≡ stopping' → TurnAt p x k at' left' stopping' said y → TurnAt p x k at left stopping said y
  seen_at at at' left left' stopping stopping' said y e f q h =
      subst (λ z. TurnAt p x k z left stopping said y) (sym e)
      (subst (λ z. TurnAt p x k at' z stopping said y) (sym f) (subst (λ z. TurnAt p x k at' left' z said y) (sym q) h))

  abbrev script : List Statement
  script = (x.graph.mutator k).script

  same_statement : (s : Statement) (rest : List Statement) (word : Said) (h : Graph) (c : Book) → script ≡ s ∷ rest → word.by ≡ k →
      (t : Turn p x.graph x.book word h c) → t.statement ≡ s
  same_statement s rest word h c e by t =
      let both : (t.statement ∷ t.rest) ≡ (s ∷ rest) = sym t.next ∙ ap (λ j. (x.graph.mutator j).script) by ∙ e in cc both

  -- what the statement that is done says of the book
  books_of : (s : Statement) (rest : List Statement) (word : Said) (h : Graph) (c : Book) → script ≡ s ∷ rest → word.by ≡ k →
      (t : Turn p x.graph x.book word h c) → Books p x.graph x.book word.by s word.answer c
  books_of s rest word h c e by t =
      subst (λ z. Books p x.graph x.book word.by z word.answer c) (same_statement s rest word h c e by t) t.books

  answers_to : (s : Statement) (rest : List Statement) (word : Said) (h : Graph) (c : Book) → script ≡ s ∷ rest → word.by ≡ k →
      (t : Turn p x.graph x.book word h c) → Answers p x.graph (x.graph.mutator word.by) s word.answer
  answers_to s rest word h c e by t =
      subst (λ z. Answers p x.graph (x.graph.mutator word.by) z word.answer) (same_statement s rest word h c e by t) t.does.0

  -- a search that goes on, by where its mutator stands
  on_at : (s : Statement) (rest : List Statement) (at : Position) (j : ℕ) (stopping : Bool) (said : List Said) (y : Board) →
      SearchesOnAt p x (made_slot p s) at j → Looks p x k s j said y → TurnAt p x k at (s ∷ rest) stopping said y
  on_at s rest (OpeningBlock block) j stopping said y (e, lost) h = inr (lost, subst (λ (j : ℕ). Looks p x k s j said y) e h)
  on_at s rest (TakingSlot block slot) j stopping said y (e, lost) h = inr (lost, subst (λ (j : ℕ). Looks p x k s j said y) e h)
  on_at s rest (TakingOver block) j stopping said y (e, lost) h = inr (lost, subst (λ (j : ℕ). Looks p x k s j said y) e h)
  on_at s rest (BehindSweep block) j stopping said y e h = subst (λ (j : ℕ). Looks p x k s j said y) e h
  on_at s rest at j stopping said y e h = absurd e

  module _ (s : Statement) (rest : List Statement) (next : script ≡ s ∷ rest) (said : Said) (h : Graph) (c : Book) (by : said.by ≡ k)
      (turn : Turn p x.graph x.book said h c) where
    -- what is done where no object is made in the major heap
    done_elsewhere : (¬ IsMature s) → (position : ℕ → Position) →
        IsDone p x k s x.book.address position (said ∷ []) (record x { graph = h; book = c; position = position })
    done_elsewhere m position = record {
      word = said;
      graph = h;
      book = c;
      by = by;
      turn = turn;
      statement = same_statement s rest said h c next by turn;
      at = λ mature. absurd (m mature);
      is = refl;
      after = refl;
    }

    -- and where one is, at this slot
    module _ (block slot name : ℕ) (mature : IsMature s) (told : said.answer ≡ At name) (there : c.address name ≡ slot_at p block (made_slot p s) slot) where
      takes : IsTaking p x.graph x.book s name c
      takes = taking p x.graph x.book said.by (x.graph.mutator said.by) s name c mature
          (subst (λ a. Answers p x.graph (x.graph.mutator said.by) s a) told (answers_to s rest said h c next by turn))
          (subst (λ a. Books p x.graph x.book said.by s a c) told (books_of s rest said h c next by turn))

      at_place : c.address name ≡ takes.place
      at_place = ap (λ (w : Book). w.address name) takes.after ∙ put-same x.book.address name takes.place

      abbrev address : ℕ → ℕ
      address = put x.book.address (suc x.graph.count) (slot_at p block (made_slot p s) slot)

      stands_at : (other : ℕ) → c.address other ≡ address other
      stands_at other = elim (cases_eq other (suc x.graph.count)) [
        | inl e ↦
            ap (λ (n : ℕ). c.address n) (e ∙ sym takes.next)
            ∙ there
            ∙ sym (put-at x.book.address (suc x.graph.count) (slot_at p block (made_slot p s) slot) other e)
        | inr d ↦
            ap (λ (w : Book). w.address other) takes.after
            ∙ put-other x.book.address name takes.place other (λ e. d (e ∙ takes.next))
            ∙ sym (put-other x.book.address (suc x.graph.count) (slot_at p block (made_slot p s) slot) other d)
      ]

      done_there : TakesSlot p x k s block slot (said ∷ []) (record x { graph = h; book = c; position = put x.position k Between })
      done_there = inl (
        λ other o. takes.empty block slot other (sym at_place ∙ there) o,
        record {
          word = said;
          graph = h;
          book = c;
          by = by;
          turn = turn;
          statement = same_statement s rest said h c next by turn;
          at = λ mature other. stands_at other;
          is = refl;
          after = refl;
        },
      )

  -- a block is taken over
  taken_over : (block : ℕ) (left : List Statement) → x.owed block ≡ true → FitsAt (TakingOver block) left →
      ForFirst (λ s. TakesBlock p x k s block [] (record x { owed = put x.owed block false; position = put x.position k (SweepingBlock block) })) left
  taken_over block [] owed fits = absurd fits
  taken_over block (s ∷ rest) owed fits = inl (owed, refl, refl)

  -- what fits where a mutator stands, by the statements before it
  fits_at : (at : Position) (s : Statement) (rest : List Statement) → x.position k ≡ at → script ≡ s ∷ rest → FitsAt (x.position k) script → FitsAt at (s ∷ rest)
  fits_at at s rest e f fits = subst (λ z. FitsAt at z) f (subst (λ z. FitsAt z script) e fits)

  module _ (fits : FitsAt (x.position k) script) where
    by_place : (said : List Said) (y : Board) → TakesTurn p x k said y → TurnAt p x k (x.position k) script x.stopping said y
    by_place _ _ (turns.Ends at none) = seen_at (x.position k) Between script [] x.stopping x.stopping [] _ at none refl (refl, refl)
    by_place _ _ (turns.Yields s rest at next stops) = seen_at (x.position k) Between script (s ∷ rest) x.stopping true [] _ at next stops (refl, refl)
    by_place _ _ (turns.Collects s rest request at next goes collects) =
        seen_at (x.position k) Between script (s ∷ rest) x.stopping false [] _ at next goes
        (inl (record { request = request; collects = collects; quiet = refl; after = refl }))
    by_place _ _ (turns.Does s rest said h c at next goes bumps not_mature by turn) =
        seen_at (x.position k) Between script (s ∷ rest) x.stopping false (said ∷ []) _ at next goes
        (inr (inl (record {
          bumps = bumps;
          not_mature = not_mature;
          not_asked = λ q h'. never_done p x.graph x.book said.by s q said.answer c h' (books_of s rest said h c next by turn);
          done = done_elsewhere s rest next said h c by turn not_mature x.position;
        })))
    by_place _ _ (turns.Prepares s rest f at next goes searches lowest) =
        seen_at (x.position k) Between script (s ∷ rest) x.stopping false [] _ at next goes
        (inr (inr (inl (searches, inl (record { fragment = f; lowest = lowest; quiet = refl; after = refl })))))
    by_place _ _ (turns.Needs s rest at next goes searches none) =
        seen_at (x.position k) Between script (s ∷ rest) x.stopping false [] _ at next goes
        (inr (inr (inl (searches, inr (record { none = none; quiet = refl; after = refl })))))
    by_place _ _ (turns.Claims f seen said h c at same by turn) =
        let next = sym (ap (λ j. (x.graph.mutator j).script) by) ∙ turn.next in
        let makes = fits_at (Claiming f seen) turn.statement turn.rest at next fits in
        seen_at (x.position k) (Claiming f seen) script (turn.statement ∷ turn.rest) x.stopping x.stopping (said ∷ []) _ at next refl
        (inl (same, done_elsewhere turn.statement turn.rest next said h c by turn (λ m. makes_one turn.statement makes m) (put x.position k Between)))
    by_place _ _ (turns.LooksAgain s rest f seen j at other next lowest) =
        seen_at (x.position k) (Claiming f seen) script (s ∷ rest) x.stopping x.stopping [] _ at next refl
        (inr (other, inl (record { fragment = j; lowest = lowest; quiet = refl; after = refl })))
    by_place _ _ (turns.FindsNone s rest f seen at other next none) =
        seen_at (x.position k) (Claiming f seen) script (s ∷ rest) x.stopping x.stopping [] _ at next refl
        (inr (other, inr (record { none = none; quiet = refl; after = refl })))
    by_place _ _ (turns.Matures s rest found at next goes mature searches) =
        seen_at (x.position k) Between script (s ∷ rest) x.stopping false [] _ at next goes
        (inr (inr (inr (mature, record { found = found; searches = searches; quiet = refl; after = refl }))))
    by_place _ _ (turns.SearchesOn s rest j found next on searches) =
        seen_at (x.position k) (x.position k) script (s ∷ rest) x.stopping x.stopping [] _ refl next refl
        (on_at s rest (x.position k) j x.stopping [] _ on (record { found = found; searches = searches; quiet = refl; after = refl }))
    by_place _ _ (turns.Opens s rest block found next at free searches) =
        seen_at (x.position k) (OpeningBlock block) script (s ∷ rest) x.stopping x.stopping [] _ at next refl
        (inl (free, record { found = found; searches = searches; quiet = refl; after = refl }))
    by_place _ _ (turns.ClaimsSlot s rest block slot name said h c next at by told there turn) =
        seen_at (x.position k) (TakingSlot block slot) script (s ∷ rest) x.stopping x.stopping (said ∷ []) _ at next refl
        (done_there s rest next said h c by turn block slot name (fits_at (TakingSlot block slot) s rest at next fits) told there)
    by_place _ _ (turns.TakesOver block at owed) =
        seen_at (x.position k) (TakingOver block) script script x.stopping x.stopping [] _ at refl refl
        (taken_over block script owed (subst (λ z. FitsAt z script) at fits))
    by_place _ _ (turns.Sweeps block at) = seen_at (x.position k) (SweepingBlock block) script script x.stopping x.stopping [] _ at refl refl (refl, refl)

module _ (one : HasOneTurn) (search : HasOneSearch) (p : Program) (x : Board) (k : ℕ) where
  -- two turns did the same
  abbrev Same : List Said → List Said → Board → Board → Type 0
  Same said said' y y' = (said ≡ said') × (y ≡ y')

  -- what is said of a statement by its answer and by the book
  abbrev Says : Statement → ℕ → Said → Book → Type 0
  Says s j word c = Answers p x.graph (x.graph.mutator j) s word.answer × Books p x.graph x.book j s word.answer c

  one_done : (s : Statement) (address : ℕ → ℕ) (position : ℕ → Position) (said said' : List Said) (y y' : Board) →
      IsDone p x k s address position said y → IsDone p x k s address position said' y' → Same said said' y y'
  one_done s address position said said' y y' a b =
      let q = one p x.graph x.book a.word b.word a.graph b.graph a.book b.book a.turn b.turn (a.by ∙ sym b.by) (λ name o other. agree name o.old) in (
        a.is ∙ ap (λ w. w ∷ []) q.0 ∙ sym b.is,
        a.after
            ∙ ap (λ h. record x { graph = h; book = a.book; position = position }) q.1
            ∙ ap (λ c. record x { graph = b.graph; book = c; position = position }) q.2
            ∙ sym b.after,
      )
    where
      says : Says s k a.word a.book
      says = subst (λ j. Says s j a.word a.book) a.by (subst (λ z. Says z a.word.by a.word a.book) a.statement (a.turn.does.0, a.turn.books))

      says' : Says s k b.word b.book
      says' = subst (λ j. Says s j b.word b.book) b.by (subst (λ z. Says z b.word.by b.word b.book) b.statement (b.turn.does.0, b.turn.books))

      agree : (name : ℕ) → a.book.section name ≡ Old → a.book.address name ≡ b.book.address name
      agree name o =
          agree_old p x.graph x.book k (x.graph.mutator k) a.book b.book name o s a.word.answer b.word.answer says.0 says'.0 says.1 says'.1
          (λ mature. a.at mature name ∙ sym (b.at mature name))

  one_seek : (s : Statement) (from : ℕ) (said said' : List Said) (y y' : Board) → Seeks p x k s from said y → Seeks p x k s from said' y' → Same said said' y y'
  one_seek s from said said' y y' (inl a) (inl b) =
      let same = one_lowest x.book (made_words p s) from a.fragment b.fragment a.lowest b.lowest in
      (a.quiet ∙ sym b.quiet, a.after ∙ ap (λ f. moved_on x k (Claiming f (x.book.next f))) same ∙ sym b.after)
  one_seek s from said said' y y' (inl a) (inr b) = absurd (not_both x.book (made_words p s) from a.fragment a.lowest b.none)
  one_seek s from said said' y y' (inr a) (inl b) = absurd (not_both x.book (made_words p s) from b.fragment b.lowest a.none)
  one_seek s from said said' y y' (inr a) (inr b) = (a.quiet ∙ sym b.quiet, a.after ∙ sym b.after)

  one_look : (w : Board) (s : Statement) (from : ℕ) (said said' : List Said) (y y' : Board) → Looks p w k s from said y → Looks p w k s from said' y' →
      Same said said' y y'
  one_look w s from said said' y y' a b =
      let same = search p w (made_slot p s) from a.found b.found (slot_size-class (made_words p s)) a.searches b.searches in
      (a.quiet ∙ sym b.quiet, a.after ∙ ap (λ found. stopped_at w k (made_slot p s) found) same ∙ sym b.after)

  one_opening : (s : Statement) (said said' : List Said) (y y' : Board) → Opens p x k s said y → Opens p x k s said' y' → Same said said' y y'
  one_opening s said said' y y' (inl a) (inl b) =
      let same = one_request s a.request b.request a.collects b.collects in
      (a.quiet ∙ sym b.quiet, a.after ∙ ap (λ q. asking x k q) same ∙ sym b.after)
  one_opening s said said' y y' (inl a) (inr (inl b)) = absurd (b.not_asked a.request a.collects)
  one_opening s said said' y y' (inl a) (inr (inr (inl (searches, b)))) = absurd (makes_nothing s a.request a.collects searches.makes)
  one_opening s said said' y y' (inl a) (inr (inr (inr (mature, b)))) = absurd (matures_nothing s a.request a.collects mature)
  one_opening s said said' y y' (inr (inl a)) (inl b) = absurd (a.not_asked b.request b.collects)
  one_opening s said said' y y' (inr (inl a)) (inr (inl b)) = one_done s x.book.address x.position said said' y y' a.done b.done
  one_opening s said said' y y' (inr (inl a)) (inr (inr (inl (searches, b)))) = absurd (a.bumps searches)
  one_opening s said said' y y' (inr (inl a)) (inr (inr (inr (mature, b)))) = absurd (a.not_mature mature)
  one_opening s said said' y y' (inr (inr (inl (searches, a)))) (inl b) = absurd (makes_nothing s b.request b.collects searches.makes)
  one_opening s said said' y y' (inr (inr (inl (searches, a)))) (inr (inl b)) = absurd (b.bumps searches)
  one_opening s said said' y y' (inr (inr (inl (searches, a)))) (inr (inr (inl (searches', b)))) = one_seek s 0 said said' y y' a b
  one_opening s said said' y y' (inr (inr (inl (searches, a)))) (inr (inr (inr (mature, b)))) = absurd (makes_one s searches.makes mature)
  one_opening s said said' y y' (inr (inr (inr (mature, a)))) (inl b) = absurd (matures_nothing s b.request b.collects mature)
  one_opening s said said' y y' (inr (inr (inr (mature, a)))) (inr (inl b)) = absurd (b.not_mature mature)
  one_opening s said said' y y' (inr (inr (inr (mature, a)))) (inr (inr (inl (searches, b)))) = absurd (makes_one s searches.makes mature)
  one_opening s said said' y y' (inr (inr (inr (mature, a)))) (inr (inr (inr (mature', b)))) = one_look x s 0 said said' y y' a b

  one_claim : (s : Statement) (f seen : ℕ) (said said' : List Said) (y y' : Board) → Claims p x k s f seen said y → Claims p x k s f seen said' y' →
      Same said said' y y'
  one_claim s f seen said said' y y' (inl a) (inl b) = one_done s x.book.address (put x.position k Between) said said' y y' a.1 b.1
  one_claim s f seen said said' y y' (inl a) (inr b) = absurd (b.0 a.0)
  one_claim s f seen said said' y y' (inr a) (inl b) = absurd (a.0 b.0)
  one_claim s f seen said said' y y' (inr a) (inr b) = one_seek s f said said' y y' a.1 b.1

  unlike : {A : Type 0} (o : Option A) (a : A) → o ≡ None → o ≡ Some a → ⊥
  unlike o a e q = let z : None ≡ Some a = sym e ∙ q in cc z

  one_block : (s : Statement) (block : ℕ) (said said' : List Said) (y y' : Board) → OpensBlock p x k s block said y → OpensBlock p x k s block said' y' →
      Same said said' y y'
  one_block s block said said' y y' (inl (e, a)) (inl (q, b)) = one_look (giving x block (made_slot p s)) s block said said' y y' a b
  one_block s block said said' y y' (inl (e, a)) (inr ((z, q), b)) = absurd (unlike (x.given block) z e q)
  one_block s block said said' y y' (inr ((z, e), a)) (inl (q, b)) = absurd (unlike (x.given block) z q e)
  one_block s block said said' y y' (inr ((z, e), a)) (inr ((u, q), b)) = one_look x s block said said' y y' a b

  one_slot : (s : Statement) (block slot : ℕ) (said said' : List Said) (y y' : Board) → TakesSlot p x k s block slot said y →
      TakesSlot p x k s block slot said' y' → Same said said' y y'
  one_slot s block slot said said' y y' (inl (none, a)) (inl (none', b)) =
      one_done s (put x.book.address (suc x.graph.count) (slot_at p block (made_slot p s) slot)) (put x.position k Between) said said' y y' a b
  one_slot s block slot said said' y y' (inl (none, a)) (inr ((name, o), b)) = absurd (none name o)
  one_slot s block slot said said' y y' (inr ((name, o), a)) (inl (none, b)) = absurd (none name o)
  one_slot s block slot said said' y y' (inr ((name, o), a)) (inr ((name', o'), b)) = one_look x s block said said' y y' a b

  both_ways : (b : Bool) → b ≡ true → b ≡ false → ⊥
  both_ways b e q = let z : true ≡ false = sym e ∙ q in cc z

  one_sweeper : (s : Statement) (block : ℕ) (said said' : List Said) (y y' : Board) → TakesBlock p x k s block said y → TakesBlock p x k s block said' y' →
      Same said said' y y'
  one_sweeper s block said said' y y' (inl (e, quiet, a)) (inl (q, quiet', b)) = (quiet ∙ sym quiet', a ∙ sym b)
  one_sweeper s block said said' y y' (inl (e, quiet, a)) (inr (q, b)) = absurd (both_ways (x.owed block) e q)
  one_sweeper s block said said' y y' (inr (e, a)) (inl (q, quiet, b)) = absurd (both_ways (x.owed block) q e)
  one_sweeper s block said said' y y' (inr (e, a)) (inr (q, b)) = one_look x s block said said' y y' a b

  for_first : (P : Statement → List Said → Board → Type 0) (left : List Statement) (said said' : List Said) (y y' : Board) →
      ((s : Statement) → P s said y → P s said' y' → Same said said' y y') → ForFirst (λ s. P s said y) left → ForFirst (λ s. P s said' y') left →
      Same said said' y y'
  for_first P [] said said' y y' each a b = absurd a
  for_first P (s ∷ rest) said said' y y' each a b = each s a b

  one_at : (at : Position) (left : List Statement) (stopping : Bool) (said said' : List Said) (y y' : Board) → TurnAt p x k at left stopping said y →
      TurnAt p x k at left stopping said' y' → Same said said' y y'
  one_at Between [] stopping said said' y y' a b = (a.0 ∙ sym b.0, a.1 ∙ sym b.1)
  one_at Between (s ∷ rest) true said said' y y' a b = (a.0 ∙ sym b.0, a.1 ∙ sym b.1)
  one_at Between (s ∷ rest) false said said' y y' a b = one_opening s said said' y y' a b
  one_at (Claiming f seen) left stopping said said' y y' a b =
      for_first (λ s said y. Claims p x k s f seen said y) left said said' y y' (λ s. one_claim s f seen said said' y y') a b
  one_at (OpeningBlock block) left stopping said said' y y' a b =
      for_first (λ s said y. OpensBlock p x k s block said y) left said said' y y' (λ s. one_block s block said said' y y') a b
  one_at (TakingSlot block slot) left stopping said said' y y' a b =
      for_first (λ s said y. TakesSlot p x k s block slot said y) left said said' y y' (λ s. one_slot s block slot said said' y y') a b
  one_at (TakingOver block) left stopping said said' y y' a b =
      for_first (λ s said y. TakesBlock p x k s block said y) left said said' y y' (λ s. one_sweeper s block said said' y y') a b
  one_at (SweepingBlock block) left stopping said said' y y' a b = (a.0 ∙ sym b.0, a.1 ∙ sym b.1)
  one_at (BehindSweep block) left stopping said said' y y' a b =
      for_first (λ s said y. Looks p x k s block said y) left said said' y y' (λ s. one_look x s block said said' y y') a b
  one_at (HasLeft leave) left stopping said said' y y' a b = absurd a

  pub one_taking : FitsAt (x.position k) (x.graph.mutator k).script → (said said' : List Said) (y y' : Board) → TakesTurn p x k said y →
      TakesTurn p x k said' y' → Same said said' y y'
  one_taking fits said said' y y' a b =
      one_at (x.position k) (x.graph.mutator k).script x.stopping said said' y y' (by_place p x k fits said y a) (by_place p x k fits said' y' b)
