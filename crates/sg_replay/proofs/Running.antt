-- Two whole runs that follow one list of turns have one text.
use Rattle.std.proofs.Common.{◌≡◌, ℕ, zero, suc, ◌<◌, inl, inr, List, [], ◌∷◌, ◌++◌, sym, refl, ap, ◌∙◌, subst, arith}
use Rattle.std.proofs.lemmas.Bool.{cases_lt}
use Rattle.std.proofs.lemmas.Grind.{flat_map-append}
use Rattle.sg_words.specs.Schedule.{Schedule}
use Rattle.sg_program.specs.declared.program.Program.{Program}
use Rattle.sg_graph.specs.declared.reports.EpochReport.{EpochReport}
use Rattle.sg_graph.specs.declared.reports.StopReport.{StopReport}
use Rattle.sg_graph.specs.Graph.{Graph, no_objects}
use Rattle.sg_graph.specs.Book.{Book, empty_book}
use Rattle.sg_graph.specs.Epoch.{Said, AllEnded}
use Rattle.sg_graph.specs.Run.{Phase, Epoch, Stop}
use Rattle.sg_graph.specs.Follows.{IsEpochBy, IsStopInOrder, FollowsTo, Begins, GoesOn, IsWholeRunBy, whole_schedule}
use Rattle.sg_graph.specs.Laws.{HasOneTurn, HasOneSearch, HasOneReport}
use Rattle.sg_trace.specs.Trace.{phase_text, epoch_text, stop_text, text}
use Rattle.sg_replay.specs.OneText.{HasOneText}
use Rattle.sg_replay.proofs.Playing as playing
use Rattle.sg_replay.proofs.Stopping as stopping

-- an epoch behind n others, with what comes before it
record LaterEpoch (p : Program) (turns : List ℕ) (n : ℕ) : Type 0 where
  pub before : List Phase
  pub graph : Graph
  pub book : Book
  pub schedule : Schedule
  pub order : List Said
  pub swept : List ℕ
  pub report : EpochReport
  pub last_graph : Graph
  pub last_book : Book
  pub last_schedule : Schedule
  pub follows : FollowsTo p turns n before graph book schedule
  pub epoch : IsEpochBy p n graph book schedule order swept report last_graph last_book last_schedule

-- such an epoch, after which some mutator is left, and the stop behind it
record IsStopped (p : Program) (turns : List ℕ) (n : ℕ) (phases : List Phase) (g : Graph) (b : Book) (s : Schedule) : Type 0 where
  pub first : LaterEpoch p turns n
  pub going : ¬ AllEnded p first.last_graph
  pub stop : StopReport
  pub stops : IsStopInOrder p n first.last_graph first.last_book first.report stop g b
  pub phases_are : phases ≡ first.before ++ Epoch first.report first.order first.swept ∷ Stop stop ∷ []
  pub schedule_is : s ≡ first.last_schedule

-- the text of phases and of those behind them
joined : (xs ys : List Phase) → text (xs ++ ys) ≡ text xs ++ text ys
joined xs ys = flat_map-append phase_text xs ys

module _ (p : Program) (turns : List ℕ) where
  -- where a run stands, by the number of its epochs
  abbrev Stands : ℕ → List Phase → Graph → Book → Schedule → Type 0
  Stands zero phases g b s = (phases ≡ []) × (g ≡ no_objects p) × (b ≡ empty_book p) × (s ≡ whole_schedule turns)
  Stands (suc n) phases g b s = IsStopped p turns n phases g b s

  by_number : (n : ℕ) (phases : List Phase) (g : Graph) (b : Book) (s : Schedule) → FollowsTo p turns n phases g b s → Stands n phases g b s
  by_number _ _ _ _ _ Begins = (refl, refl, refl, refl)
  by_number _ _ _ _ _ (GoesOn n phases g b s order swept epoch h c t stop h1 c1 before is going stops) = record {
    first = record {
      before = phases;
      graph = g;
      book = b;
      schedule = s;
      order = order;
      swept = swept;
      report = epoch;
      last_graph = h;
      last_book = c;
      last_schedule = t;
      follows = before;
      epoch = is;
    };
    going = going;
    stop = stop;
    stops = stops;
    phases_are = refl;
    schedule_is = refl;
  }

  -- a run has an epoch behind each smaller number of others, after which some mutator is left
  goes_on : (m : ℕ) (phases : List Phase) (g : Graph) (b : Book) (s : Schedule) → FollowsTo p turns m phases g b s → (n : ℕ) → n < m →
      (first : LaterEpoch p turns n) × (¬ AllEnded p first.last_graph)
  goes_on zero phases g b s follows n l = absurd (omega arith)
  goes_on (suc m) phases g b s follows n l =
      let x = by_number (suc m) phases g b s follows in
      elim (cases_lt n m) [
        | inl k ↦ goes_on m x.first.before x.first.graph x.first.book x.first.schedule x.first.follows n k
        | inr above ↦
            let e : m ≡ n = omega arith in
            subst (λ z. (first : LaterEpoch p turns z) × (¬ AllEnded p first.last_graph)) e (x.first, x.going)
      ]

  -- the last epoch of a whole run, where it is behind so many others
  abbrev last_epoch : (phases : List Phase) (x : IsWholeRunBy p turns phases) (n : ℕ) → x.number ≡ n → LaterEpoch p turns n
  last_epoch phases x n e = record {
    before = x.before;
    graph = x.graph;
    book = x.book;
    schedule = x.schedule;
    order = x.order;
    swept = x.swept;
    report = x.report;
    last_graph = x.last_graph;
    last_book = x.last_book;
    last_schedule = x.last_schedule;
    follows = subst (λ z. FollowsTo p turns z x.before x.graph x.book x.schedule) e x.follows;
    epoch = subst (λ z. IsEpochBy p z x.graph x.book x.schedule x.order x.swept x.report x.last_graph x.last_book x.last_schedule) e x.epoch;
  }

module _ (one : HasOneTurn) (search : HasOneSearch) (reports : HasOneReport) (p : Program) (turns : List ℕ) where
  -- two runs stand alike, and have one text so far
  abbrev Alike : List Phase → List Phase → Graph → Graph → Book → Book → Schedule → Schedule → Type 0
  Alike phases phases' g g' b b' s s' = (text phases ≡ text phases') × (g ≡ g') × (b ≡ b') × (s ≡ s')

  -- two epochs behind as many others are one, where those led to the same
  module _ (n : ℕ) (x y : LaterEpoch p turns n) (alike : Alike x.before y.before x.graph y.graph x.book y.book x.schedule y.schedule) where
    there : IsEpochBy p n x.graph x.book x.schedule y.order y.swept y.report y.last_graph y.last_book y.last_schedule
    there =
        let graph = λ (z : Graph). IsEpochBy p n z x.book x.schedule y.order y.swept y.report y.last_graph y.last_book y.last_schedule in
        let book = λ (z : Book). IsEpochBy p n y.graph z x.schedule y.order y.swept y.report y.last_graph y.last_book y.last_schedule in
        let schedule = λ (z : Schedule). IsEpochBy p n y.graph y.book z y.order y.swept y.report y.last_graph y.last_book y.last_schedule in
        subst graph (sym alike.1) (subst book (sym alike.2) (subst schedule (sym alike.3) y.epoch))

    same : playing.IsOne x.order y.order x.report y.report x.last_graph y.last_graph x.last_book y.last_book x.last_schedule y.last_schedule
    same =
        playing.one_epoch one search reports p n x.graph x.book x.schedule x.order y.order x.swept y.swept x.report y.report x.last_graph y.last_graph x.last_book
        y.last_book x.last_schedule y.last_schedule x.epoch there

    -- what is told of them is the same
    epoch : epoch_text x.report ≡ epoch_text y.report
    epoch = ap (λ (r : EpochReport). epoch_text r) same.same_report

  -- and so are the stops behind two such epochs
  module _ (n : ℕ) (phases phases' : List Phase) (g g' : Graph) (b b' : Book) (s s' : Schedule) (x : IsStopped p turns n phases g b s)
      (y : IsStopped p turns n phases' g' b' s')
      (alike : Alike x.first.before y.first.before x.first.graph y.first.graph x.first.book y.first.book x.first.schedule y.first.schedule) where
    abbrev v : LaterEpoch p turns n
    v = x.first

    abbrev w : LaterEpoch p turns n
    w = y.first

    stops : IsStopInOrder p n v.last_graph v.last_book v.report y.stop g' b'
    stops =
        let e = same n v w alike in
        subst (λ z. IsStopInOrder p n z v.last_book v.report y.stop g' b') (sym e.same_graph)
        (subst (λ z. IsStopInOrder p n w.last_graph z v.report y.stop g' b') (sym e.same_book)
        (subst (λ z. IsStopInOrder p n w.last_graph w.last_book z y.stop g' b') (sym e.same_report) y.stops))

    stop : x.stop ≡ y.stop
    stop = stopping.one_report p n v.last_graph v.last_book v.epoch.is.sound v.report x.stop y.stop g g' b b' x.stops stops

    followed : Alike phases phases' g g' b b' s s'
    followed = (
      ap (λ l. text l) x.phases_are
          ∙ joined v.before (Epoch v.report v.order v.swept ∷ Stop x.stop ∷ [])
          ∙ ap (λ t. t ++ (epoch_text v.report ++ (stop_text x.stop ++ []))) alike.0
          ∙ ap (λ t. text w.before ++ (t ++ (stop_text x.stop ++ []))) (epoch n v w alike)
          ∙ ap (λ (z : StopReport). text w.before ++ (epoch_text w.report ++ (stop_text z ++ []))) stop
          ∙ sym (joined w.before (Epoch w.report w.order w.swept ∷ Stop y.stop ∷ []))
          ∙ sym (ap (λ l. text l) y.phases_are),
      stopping.one_graph p n v.last_graph v.last_book v.epoch.is.sound v.report x.stop y.stop g g' b b' x.stops stops,
      stopping.one_book p n v.last_graph v.last_book v.epoch.is.sound v.report x.stop y.stop g g' b b' x.stops stops,
      x.schedule_is ∙ (same n v w alike).same_schedule ∙ sym y.schedule_is,
    )

  -- two runs that come to one number of epochs stand alike
  one_standing : (n : ℕ) (phases phases' : List Phase) (g g' : Graph) (b b' : Book) (s s' : Schedule) → FollowsTo p turns n phases g b s →
      FollowsTo p turns n phases' g' b' s' → Alike phases phases' g g' b b' s s'
  one_standing zero phases phases' g g' b b' s s' x y =
      let v = by_number p turns zero phases g b s x in
      let w = by_number p turns zero phases' g' b' s' y in
      (ap (λ l. text l) (v.0 ∙ sym w.0), v.1 ∙ sym w.1, v.2 ∙ sym w.2, v.3 ∙ sym w.3)
  one_standing (suc n) phases phases' g g' b b' s s' x y =
      let a = by_number p turns (suc n) phases g b s x in
      let c = by_number p turns (suc n) phases' g' b' s' y in
      let v = a.first in
      let w = c.first in
      let alike = one_standing n v.before w.before v.graph w.graph v.book w.book v.schedule w.schedule v.follows w.follows in
      followed n phases phases' g g' b b' s s' a c alike

  alike_before : (n : ℕ) (x y : LaterEpoch p turns n) → Alike x.before y.before x.graph y.graph x.book y.book x.schedule y.schedule
  alike_before n x y = one_standing n x.before y.before x.graph y.graph x.book y.book x.schedule y.schedule x.follows y.follows

  -- a whole run is no shorter than another one
  not_shorter : (phases phases' : List Phase) (x : IsWholeRunBy p turns phases) (y : IsWholeRunBy p turns phases') → x.number < y.number → ⊥
  not_shorter phases phases' x y l =
      let v = last_epoch p turns phases x x.number refl in
      let w = goes_on p turns y.number y.before y.graph y.book y.schedule y.follows x.number l in
      w.1 (subst (λ z. AllEnded p z) (same x.number v w.0 (alike_before x.number v w.0)).same_graph x.whole)

  module _ (phases phases' : List Phase) (x : IsWholeRunBy p turns phases) (y : IsWholeRunBy p turns phases') where
    number : y.number ≡ x.number
    number = elim (cases_lt x.number y.number) [
      | inl l ↦ absurd (not_shorter phases phases' x y l)
      | inr above ↦ elim (cases_lt y.number x.number) [
        | inl l ↦ absurd (not_shorter phases' phases y x l)
        | inr below ↦ omega arith
      ]
    ]

    abbrev this : LaterEpoch p turns x.number
    this = last_epoch p turns phases x x.number refl

    abbrev that : LaterEpoch p turns x.number
    that = last_epoch p turns phases' y x.number number

    alike : Alike x.before y.before x.graph y.graph x.book y.book x.schedule y.schedule
    alike = alike_before x.number this that

    one_run : text phases ≡ text phases'
    one_run =
        ap (λ l. text l) x.phases_are
        ∙ joined x.before (Epoch x.report x.order x.swept ∷ [])
        ∙ ap (λ t. t ++ (epoch_text x.report ++ [])) alike.0
        ∙ ap (λ t. text y.before ++ (t ++ [])) (epoch x.number this that alike)
        ∙ sym (joined y.before (Epoch y.report y.order y.swept ∷ []))
        ∙ sym (ap (λ l. text l) y.phases_are)

pub has_one_text : HasOneTurn → HasOneSearch → HasOneReport → HasOneText
has_one_text one search reports p turns phases phases' x y = one_run one search reports p turns phases phases' x y
