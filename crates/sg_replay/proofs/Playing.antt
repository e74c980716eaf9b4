-- An epoch by turns has one order, one report, and one end.
use Rattle.std.proofs.Common.{◌≡◌, ℕ, ◌⊎◌, inl, inr, Some, List, [], ◌∷◌, ◌++◌, length, map, slice_get, sym, refl, ap, ◌∙◌, subst}
use Rattle.std.specs.List.{Contains}
use Rattle.std.proofs.lemmas.Option.{slice_get_within, get_or_from_slice_get}
use Rattle.sg_words.specs.Lists.{Pairwise}
use Rattle.sg_words.specs.Schedule.{Schedule, begun, Gives}
use Rattle.sg_program.specs.declared.program.Program.{Program}
use Rattle.sg_graph.specs.declared.reports.Part.{Part}
use Rattle.sg_graph.specs.declared.reports.EpochReport.{EpochReport}
use Rattle.sg_graph.specs.Graph.{Graph}
use Rattle.sg_graph.specs.Book.{Book}
use Rattle.sg_graph.specs.Epoch.{Said, IsEpoch, running}
use Rattle.sg_graph.specs.Turns.{Position, HasLeft, Board, opening, HasGone, ActorLeft, TakesTurn, Plays, Over, Goes}
use Rattle.sg_graph.specs.Follows.{IsEpochBy}
use Rattle.sg_graph.specs.Laws.{HasOneTurn, HasOneSearch, HasOneReport, AgreeOnNew, leaves_of}
use Rattle.sg_replay.proofs.Giving.{going, one_giving}
use Rattle.sg_replay.proofs.Fitting.{Fit, keeps_fit, begins_fit}
use Rattle.sg_replay.proofs.Turning.{one_taking}

module _ (p : Program) (actors : List ℕ) where
  -- one turn, and those behind it
  record Played (s : Schedule) (x : Board) (order : List Said) (u : Schedule) (z : Board) : Type 0 where
    pub then : Schedule
    pub board : Board
    pub actor : ℕ
    pub mutator : ℕ
    pub said : List Said
    pub later : List Said
    pub gives : Gives (length actors) (ActorLeft x actors) s actor then
    pub at : slice_get actors actor ≡ Some mutator
    pub takes : TakesTurn p x mutator said board
    pub plays : Plays p actors then board later u z
    pub is : order ≡ said ++ later

  abbrev HasPlayed : Schedule → Board → List Said → Schedule → Board → Type 0
  HasPlayed s x order u z = (((k : ℕ) → Contains actors k → HasGone (x.position k)) × (order ≡ []) × (s ≡ u) × (x ≡ z)) ⊎ Played s x order u z

  by_turn : (s : Schedule) (x : Board) (order : List Said) (u : Schedule) (z : Board) → Plays p actors s x order u z → HasPlayed s x order u z
  by_turn _ _ _ _ _ (Over s x gone) = inl (gone, refl, refl, refl)
  by_turn _ _ _ _ _ (Goes s t u x y z i k said order gives at takes plays) =
      inr (record { then = t; board = y; actor = i; mutator = k; said = said; later = order; gives = gives; at = at; takes = takes; plays = plays; is = refl })

  -- turns aren't over where somebody is given one
  not_over : (s t : Schedule) (x : Board) (i k : ℕ) → Gives (length actors) (ActorLeft x actors) s i t → slice_get actors i ≡ Some k →
      ((j : ℕ) → Contains actors j → HasGone (x.position j)) → ⊥
  not_over s t x i k gives at gone =
      going (length actors) (ActorLeft x actors) s i t gives (k, at, gone k (i, slice_get_within actors i k at, get_or_from_slice_get actors i k k at))

module _ (one : HasOneTurn) (search : HasOneSearch) (p : Program) (actors : List ℕ) where
  -- two plays led to the same
  abbrev Same : List Said → List Said → Schedule → Schedule → Board → Board → Type 0
  Same order order' u u' z z' = (order ≡ order') × (u ≡ u') × (z ≡ z')

  over : (s : Schedule) (x : Board) → ((k : ℕ) → Contains actors k → HasGone (x.position k)) → (order' : List Said) (u' : Schedule) (z' : Board) →
      HasPlayed p actors s x order' u' z' → Same [] order' s u' x z'
  over s x gone order' u' z' (inl a) = (sym a.1, a.2, a.3)
  over s x gone order' u' z' (inr b) = absurd (not_over p actors s b.then x b.actor b.mutator b.gives b.at gone)

  goes_on : (s t u : Schedule) (x y z : Board) (i k : ℕ) (said order : List Said) → Fit x → Gives (length actors) (ActorLeft x actors) s i t →
      slice_get actors i ≡ Some k → TakesTurn p x k said y →
      ((order' : List Said) (u' : Schedule) (z' : Board) → Plays p actors t y order' u' z' → Same order order' u u' z z') →
      (order' : List Said) (u' : Schedule) (z' : Board) → HasPlayed p actors s x order' u' z' → Same (said ++ order) order' u u' z z'
  goes_on s t u x y z i k said order fits gives at takes later order' u' z' (inl a) = absurd (not_over p actors s t x i k gives at a.0)
  goes_on s t u x y z i k said order fits gives at takes later order' u' z' (inr b) =
      (ap (λ w. w ++ order) done.0 ∙ ap (λ w. b.said ++ w) same.0 ∙ sym b.is, same.1, same.2)
    where
      given : (i ≡ b.actor) × (t ≡ b.then)
      given = one_giving (length actors) (ActorLeft x actors) s i b.actor t b.then gives b.gives

      mutator : k ≡ b.mutator
      mutator = let q : Some k ≡ Some b.mutator = sym at ∙ ap (λ j. slice_get actors j) given.0 ∙ b.at in cc q

      done : (said ≡ b.said) × (y ≡ b.board)
      done = one_taking one search p x k (fits k) said b.said y b.board takes (subst (λ j. TakesTurn p x j b.said b.board) (sym mutator) b.takes)

      there : Plays p actors t y b.later u' z'
      there = subst (λ w. Plays p actors w y b.later u' z') (sym given.1) (subst (λ w. Plays p actors b.then w b.later u' z') (sym done.1) b.plays)

      same : Same order b.later u u' z z'
      same = later b.later u' z' there

  one_play : (s : Schedule) (x : Board) (order : List Said) (u : Schedule) (z : Board) → Plays p actors s x order u z → Fit x →
      (order' : List Said) (u' : Schedule) (z' : Board) → Plays p actors s x order' u' z' → Same order order' u u' z z'
  one_play _ _ _ _ _ (Over s x gone) fits order' u' z' b = over s x gone order' u' z' (by_turn p actors s x order' u' z' b)
  one_play _ _ _ _ _ (Goes s t u x y z i k said order gives at takes plays) fits order' u' z' b =
      goes_on s t u x y z i k said order fits gives at takes (one_play t y order u z plays (keeps_fit p x k fits said y takes)) order' u' z' (by_turn p actors s x order' u' z' b)

one_leaving : (position : ℕ → Position) (ks : List ℕ) (xs ys : List Part) → Pairwise (λ (k : ℕ) (part : Part). position k ≡ HasLeft part.leave) ks xs →
    Pairwise (λ (k : ℕ) (part : Part). position k ≡ HasLeft part.leave) ks ys → map (λ (part : Part). part.leave) xs ≡ map (λ (part : Part). part.leave) ys
one_leaving position [] [] [] h l = refl
one_leaving position [] [] (y ∷ ys) h l = absurd l
one_leaving position [] (x ∷ xs) ys h l = absurd h
one_leaving position (k ∷ ks) [] ys h l = absurd h
one_leaving position (k ∷ ks) (x ∷ xs) [] h l = absurd l
one_leaving position (k ∷ ks) (x ∷ xs) (y ∷ ys) h l =
    let q : HasLeft x.leave ≡ HasLeft y.leave = sym h.0 ∙ l.0 in
    let same : x.leave ≡ y.leave = cc q in
    let more = one_leaving position ks xs ys h.1 l.1 in
    cc (same, more)

-- two epochs are one, but for the order in which the swept blocks are listed
pub record IsOne (order order' : List Said) (r r' : EpochReport) (h h' : Graph) (c c' : Book) (t t' : Schedule) : Type 0 where
  pub same_order : order ≡ order'
  pub same_report : r ≡ r'
  pub same_graph : h ≡ h'
  pub same_book : c ≡ c'
  pub same_schedule : t ≡ t'

-- and are where they follow one schedule from one graph and one book on
module _ (one : HasOneTurn) (search : HasOneSearch) (reports : HasOneReport) (p : Program) (e : ℕ) (g : Graph) (b : Book) (s : Schedule) (order order' : List Said)
    (swept swept' : List ℕ) (r r' : EpochReport) (h h' : Graph) (c c' : Book) (t t' : Schedule) (x : IsEpochBy p e g b s order swept r h c t)
    (y : IsEpochBy p e g b s order' swept' r' h' c' t') where
  played : (order ≡ order') × (t ≡ t') × (x.follows.last ≡ y.follows.last)
  played =
      one_play one search p (running p g) (begun s) (opening g b) order t x.follows.last x.follows.plays (begins_fit g b) order' t' y.follows.last y.follows.plays

  there : IsEpoch p e g b order swept' r' h' c'
  there = subst (λ w. IsEpoch p e g b w swept' r' h' c') (sym played.0) y.is

  abbrev LeaveBy : Board → List Part → Type 0
  LeaveBy last parts = Pairwise (λ (k : ℕ) (part : Part). last.position k ≡ HasLeft part.leave) (running p g) parts

  leaves : leaves_of r ≡ leaves_of r'
  leaves =
      one_leaving x.follows.last.position (running p g) r.parts r'.parts x.follows.leaves
      (subst (λ (w : Board). LeaveBy w r'.parts) (sym played.2) y.follows.leaves)

  -- the books as the epochs end are that of the last board
  book : c ≡ c'
  book = x.follows.book ∙ ap (λ (w : Board). record w.book { owed = w.owed }) played.2 ∙ sym y.follows.book

  agree : AgreeOnNew g.count c c'
  agree name o o' = ap (λ (w : Book). w.address name) book

  pub one_epoch : IsOne order order' r r' h h' c c' t t'
  one_epoch = record {
    same_order = played.0;
    same_report = reports.report p e g b order swept swept' r r' h h' c c' x.is there agree leaves;
    same_graph = reports.graph p e g b order swept swept' r r' h h' c c' x.is there;
    same_book = book;
    same_schedule = played.1;
  }
