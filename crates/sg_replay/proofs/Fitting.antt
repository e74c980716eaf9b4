-- Where a mutator stands before a claim or in a search, its next statement is one that makes an object: turns keep to that.
use Rattle.std.proofs.Common.{◌≡◌, ◌≢◌, ℕ, inl, inr, Option, Some, None, List, [], ◌∷◌, sym, refl, ap, ◌∙◌, subst}
use Rattle.std.proofs.lemmas.Bool.{cases_eq}
use Rattle.sg_words.specs.Words.{put}
use Rattle.sg_words.proofs.Puts.{put-at, put-other}
use Rattle.sg_program.specs.declared.program.Statement.{Statement}
use Rattle.sg_program.specs.declared.program.Statement.TheVariants.{New, NewV, Mature, Put, PutD, GPut, WSet, NextFin}
use Rattle.sg_program.specs.declared.program.Program.{Program}
use Rattle.sg_program.specs.declared.answers.Answer.{Answer}
use Rattle.sg_program.specs.declared.answers.Answer.TheVariants.{At, Fine}
use Rattle.sg_program.specs.declared.answers.Leave.TheVariants.{Ended, Yield, Wants}
use Rattle.sg_program.specs.declared.answers.Request.TheVariants.{Need, Slot}
use Rattle.sg_program.specs.Scripts.{IsMaking, IsMature, made_words, made_slot}
use Rattle.sg_graph.specs.Graph.{Graph, Mutator}
use Rattle.sg_graph.specs.Statements.{heap_after, hands_after}
use Rattle.sg_graph.specs.Book.{Book}
use Rattle.sg_graph.specs.Epoch.{Said, Turn}
use Rattle.sg_graph.specs.Turns as turns
use Rattle.sg_graph.specs.Turns.{Position, Between, Claiming, OpeningBlock, TakingSlot, TakingOver, SweepingBlock, BehindSweep, HasLeft, Board, opening, asking, giving, stopped_at, SearchesFrom, SearchesOnAt, TakesTurn}

-- the first of these statements is of this sort
abbrev pub Begins : (Statement → Type 0) → List Statement → Type 0
Begins P [] = ⊥
Begins P (s ∷ rest) = P s

-- where a mutator may stand, by the statements before it
abbrev pub FitsAt : Position → List Statement → Type 0
FitsAt (Claiming f seen) script = Begins IsMaking script
FitsAt (OpeningBlock block) script = Begins IsMature script
FitsAt (TakingSlot block slot) script = Begins IsMature script
FitsAt (TakingOver block) script = Begins IsMature script
FitsAt (SweepingBlock block) script = Begins IsMature script
FitsAt (BehindSweep block) script = Begins IsMature script
FitsAt position script = Unit {0}

-- each mutator of a board stands so
abbrev pub AllFit : Graph → (ℕ → Position) → Type 0
AllFit g position = (k : ℕ) → FitsAt (position k) (g.mutator k).script

-- a statement changes no mutator but by what it leaves in its own hands
same_mutators : (p : Program) (g : Graph) (k : ℕ) (m : Mutator) (s : Statement) (a : Answer) → (heap_after p g k m s a).mutator ≡ g.mutator
same_mutators p g k m (New r class) (At name) = refl
same_mutators p g k m (NewV r class count) (At name) = refl
same_mutators p g k m (Mature r class) (At name) = refl
same_mutators p g k m (Put r i s) Fine = refl
same_mutators p g k m (PutD r i s) Fine = refl
same_mutators p g k m (GPut x r) Fine = refl
same_mutators p g k m (WSet w r long) Fine = refl
same_mutators p g k m (NextFin r) (At name) = refl
same_mutators p g k m s a = refl

others : (p : Program) (g : Graph) (b : Book) (said : Said) (h : Graph) (c : Book) → Turn p g b said h c → (k : ℕ) → k ≢ said.by → h.mutator k ≡ g.mutator k
others p g b said h c t k other =
    ap (λ (z : Graph). z.mutator k) t.does.1
    ∙ put-other (heap_after p g said.by (g.mutator said.by) t.statement said.answer).mutator said.by
    (record (hands_after (g.mutator said.by) t.statement said.answer) { script = t.rest }) k other
    ∙ ap (λ (f : ℕ → Mutator). f k) (same_mutators p g said.by (g.mutator said.by) t.statement said.answer)

module _ (g : Graph) (position : ℕ → Position) (k : ℕ) (all : AllFit g position) where
  -- one mutator moves on
  moved : (now : Position) → FitsAt now (g.mutator k).script → AllFit g (put position k now)
  moved now fits j = elim (cases_eq j k) [
    | inl e ↦ subst (λ at. FitsAt at (g.mutator j).script) (sym (put-at position k now j e)) (subst (λ i. FitsAt now (g.mutator i).script) (sym e) fits)
    | inr d ↦ subst (λ at. FitsAt at (g.mutator j).script) (sym (put-other position k now j d)) (all j)
  ]

  -- a whole statement is done, and its mutator is between two statements
  done : (p : Program) (b : Book) (said : Said) (h : Graph) (c : Book) → said.by ≡ k → Turn p g b said h c → (after : ℕ → Position) → after k ≡ Between →
      ((j : ℕ) → j ≢ k → after j ≡ position j) → AllFit h after
  done p b said h c by t after here there j = elim (cases_eq j k) [
    | inl e ↦ subst (λ at. FitsAt at (h.mutator j).script) (sym (ap after e ∙ here)) tt
    | inr d ↦
        subst (λ at. FitsAt at (h.mutator j).script) (sym (there j d))
        (subst (λ (m : Mutator). FitsAt (position j) m.script) (sym (others p g b said h c t j (λ e. d (e ∙ by)))) (all j))
  ]

-- a search stops where its mutator has a statement that makes an object in the major heap
found_fits : (p : Program) (x : Board) (z j : ℕ) (script : List Statement) (found : Option Position) → Begins IsMature script → SearchesFrom p x z j found →
    (at : Position) → found ≡ Some at → FitsAt at script
found_fits p x z j script _ mature (turns.MeetsFree i comes free) at e =
    let same : OpeningBlock i ≡ at = (let q : Some (OpeningBlock i) ≡ Some at = e in cc q) in subst (λ at. FitsAt at script) same mature
found_fits p x z j script _ mature (turns.MeetsSlot i slot comes has) at e =
    let same : TakingSlot i slot ≡ at = (let q : Some (TakingSlot i slot) ≡ Some at = e in cc q) in subst (λ at. FitsAt at script) same mature
found_fits p x z j script _ mature (turns.MeetsOwed i comes owed) at e =
    let same : TakingOver i ≡ at = (let q : Some (TakingOver i) ≡ Some at = e in cc q) in subst (λ at. FitsAt at script) same mature
found_fits p x z j script _ mature (turns.MeetsNone all) at e = absurd (let q : None ≡ Some at = e in cc q)

-- a board of a graph and positions
abbrev pub Fit : Board → Type 0
Fit x = AllFit x.graph x.position

stopped : (x : Board) (k z : ℕ) (found : Option Position) → Fit x → ((at : Position) → found ≡ Some at → FitsAt at (x.graph.mutator k).script) →
    Fit (stopped_at x k z found)
stopped x k z (Some at) all fits = moved x.graph x.position k all at (fits at refl)
stopped x k z None all fits = moved x.graph x.position k all (HasLeft (Wants (Slot z))) tt

-- who goes on with a search has such a statement
goes_on : (p : Program) (x : Board) (z : ℕ) (at : Position) (j : ℕ) (script : List Statement) → SearchesOnAt p x z at j → FitsAt at script →
    Begins IsMature script
goes_on p x z (OpeningBlock block) j script on fits = fits
goes_on p x z (TakingSlot block slot) j script on fits = fits
goes_on p x z (TakingOver block) j script on fits = fits
goes_on p x z (BehindSweep block) j script on fits = fits
goes_on p x z at j script on fits = absurd on

module _ (p : Program) (x : Board) (k : ℕ) (all : Fit x) where
  abbrev script : List Statement
  script = (x.graph.mutator k).script

  here : (at : Position) → x.position k ≡ at → FitsAt at script
  here at e = subst (λ at. FitsAt at script) e (all k)

  pub keeps_fit : (said : List Said) (y : Board) → TakesTurn p x k said y → Fit y
  keeps_fit _ _ (turns.Ends at none) = moved x.graph x.position k all (HasLeft Ended) tt
  keeps_fit _ _ (turns.Yields s rest at next stops) = moved x.graph x.position k all (HasLeft Yield) tt
  keeps_fit _ _ (turns.Collects s rest request at next goes collects) = moved x.graph x.position k all (HasLeft (Wants request)) tt
  keeps_fit _ _ (turns.Does s rest said h c at next goes bumps not_mature by turn) =
      done x.graph x.position k all p x.book said h c by turn x.position at (λ j d. refl)
  keeps_fit _ _ (turns.Prepares s rest f at next goes searches lowest) =
      moved x.graph x.position k all (Claiming f (x.book.next f)) (subst (λ z. Begins IsMaking z) (sym next) searches.makes)
  keeps_fit _ _ (turns.Needs s rest at next goes searches none) = moved x.graph x.position k all (HasLeft (Wants (Need (made_words p s)))) tt
  keeps_fit _ _ (turns.Claims f seen said h c at same by turn) =
      done x.graph x.position k all p x.book said h c by turn (put x.position k Between) (put-at x.position k Between k refl)
      (λ j d. put-other x.position k Between j d)
  keeps_fit _ _ (turns.LooksAgain s rest f seen j at other next lowest) =
      moved x.graph x.position k all (Claiming j (x.book.next j)) (here (Claiming f seen) at)
  keeps_fit _ _ (turns.FindsNone s rest f seen at other next none) = moved x.graph x.position k all (HasLeft (Wants (Need (made_words p s)))) tt
  keeps_fit _ _ (turns.Matures s rest found at next goes mature searches) =
      stopped x k (made_slot p s) found all
      (found_fits p x (made_slot p s) 0 script found (subst (λ z. Begins IsMature z) (sym next) mature) searches)
  keeps_fit _ _ (turns.SearchesOn s rest j found next on searches) =
      stopped x k (made_slot p s) found all
      (found_fits p x (made_slot p s) j script found (goes_on p x (made_slot p s) (x.position k) j script on (all k)) searches)
  keeps_fit _ _ (turns.Opens s rest block found next at free searches) =
      stopped (giving x block (made_slot p s)) k (made_slot p s) found all
      (found_fits p (giving x block (made_slot p s)) (made_slot p s) block script found (here (OpeningBlock block) at) searches)
  keeps_fit _ _ (turns.ClaimsSlot s rest block slot name said h c next at by told there turn) =
      done x.graph x.position k all p x.book said h c by turn (put x.position k Between) (put-at x.position k Between k refl)
      (λ j d. put-other x.position k Between j d)
  keeps_fit _ _ (turns.TakesOver block at owed) = moved x.graph x.position k all (SweepingBlock block) (here (TakingOver block) at)
  keeps_fit _ _ (turns.Sweeps block at) = moved x.graph x.position k all (BehindSweep block) (here (SweepingBlock block) at)

pub begins_fit : (g : Graph) (b : Book) → Fit (opening g b)
begins_fit g b k = tt
