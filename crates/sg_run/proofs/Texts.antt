-- The text of a run that goes on, and what a sink took of it.
use Rattle.std.proofs.Common.{◌≡◌, ℕ, true, false, List, [], ◌∷◌, ◌++◌, sym, inl, inr, ap, ◌∙◌, subst, append-nil, append_assoc}
use Rattle.std.specs.Prelude.{Option, Result, Ok, Err, IfErr}
use Rattle.std.proofs.lemmas.List.Concat.{flat_map-append}
use Rattle.std.proofs.KnownBytes.{Appends-trans}
use Rattle.std.specs.Io.KnownBytes.{Appends}
use Rattle.sg_io.specs.Progress.{TakesSome}
use Rattle.sg_program.specs.declared.program.Program.{Program}
use Rattle.sg_graph.specs.declared.reports.EpochReport.{EpochReport}
use Rattle.sg_graph.specs.declared.reports.StopReport.{StopReport}
use Rattle.sg_graph.specs.Epoch.{Said}
use Rattle.sg_words.specs.Schedule.{Schedule}
use Rattle.sg_graph.specs.Run.{Phase, Epoch, Stop}
use Rattle.sg_graph.specs.Follows.{IsRunBy, IsWholeRunBy}
use Rattle.sg_graph.specs.Follows.IsRunBy.{BehindStop, BehindEpoch}
use Rattle.sg_trace.specs.Trace.{epoch_text, stop_text, phase_text, text}
use Rattle.sg_world.specs.Worlds.{Worldly, IsBetween, IsAtStop, ComesTo}
use Rattle.sg_run.specs.Running.{BreaksOff}
use Rattle.sg_run.proofs.Pieces.{some_further}
use Rattle.sg_run.proofs.Fronts.{took_nothing, whole_is_run}

-- an epoch's piece is the text of the epoch alone
text_of_epoch : (report : EpochReport) (order : List Said) (swept : List ℕ) → epoch_text report ≡ text (Epoch report order swept ∷ [])
text_of_epoch report order swept = sym (append-nil (epoch_text report))

text_of_stop : (report : StopReport) → stop_text report ≡ text (Stop report ∷ [])
text_of_stop report = sym (append-nil (stop_text report))

-- behind one more piece
text_further : (a b c : Option (List ℕ)) (phases more : List Phase) (piece : List ℕ) → piece ≡ text more → Appends a b (text phases) → Appends b c piece → Appends a c (text (phases ++ more))
text_further a b c phases more piece e first next =
    subst (Appends a c) (ap (λ ts. text phases ++ ts) e ∙ sym (flat_map-append phase_text phases more)) (Appends-trans a b c (text phases) piece first next)

-- behind one more epoch
pub text_epoch : (a b c : Option (List ℕ)) (phases : List Phase) (report : EpochReport) (order : List Said) (swept : List ℕ) → Appends a b (text phases) → Appends b c (epoch_text report) → Appends a c (text (phases ++ Epoch report order swept ∷ []))
text_epoch a b c phases report order swept = text_further a b c phases (Epoch report order swept ∷ []) (epoch_text report) (text_of_epoch report order swept)

-- behind the stop after it
pub text_stop : (a b c : Option (List ℕ)) (phases : List Phase) (report : EpochReport) (order : List Said) (swept : List ℕ) (stop : StopReport) → Appends a b (text (phases ++ Epoch report order swept ∷ [])) → Appends b c (stop_text stop)
    → Appends a c (text (phases ++ Epoch report order swept ∷ Stop stop ∷ []))
text_stop a b c phases report order swept stop first next =
    subst (λ ps. Appends a c (text ps)) (append_assoc phases (Epoch report order swept ∷ []) (Stop stop ∷ []))
    (text_further a b c (phases ++ Epoch report order swept ∷ []) (Stop stop ∷ []) (stop_text stop) (text_of_stop stop) first next)

module _ (p : Program) (turns : List ℕ) where
  -- where nothing more was taken
  breaks_at : (phases : List Phase) (a : Option (List ℕ)) → IsRunBy p turns phases → BreaksOff p turns phases a a
  breaks_at phases a run = ([], subst (IsRunBy p turns) (sym (append-nil phases)) run, took_nothing a [])

  -- where the run went on, and a front of the text of what it did was taken
  breaks_within : (phases more : List Phase) (piece : List ℕ) (a b : Option (List ℕ)) → piece ≡ text more → IsRunBy p turns (phases ++ more) → TakesSome a b piece →
      BreaksOff p turns phases a b
  breaks_within phases more piece a b e run some = (more, run, subst (TakesSome a b) e some)

  -- between two rounds, behind an epoch and behind the stop after it, what was done is a run
  pub run_between : (phases : List Phase) (world : Worldly) (s : Schedule) → IsBetween p turns phases world s → IsRunBy p turns phases
  run_between phases world s b = BehindStop world.number phases b.graph b.book s b.follows

  run_at_stop : (phases : List Phase) (report : EpochReport) (order : List Said) (swept : List ℕ) (world : Worldly) (s : Schedule) →
      IsAtStop p turns phases report order swept world s → IsRunBy p turns (phases ++ Epoch report order swept ∷ [])
  run_at_stop phases report order swept world s t =
      BehindEpoch world.number phases t.before_graph t.before_book t.before_schedule order swept report t.graph t.book s t.follows t.epoch

  pub run_epoch : (phases : List Phase) (report : EpochReport) (world : Worldly) (s : Schedule) → (comes : ComesTo p turns phases report world s) →
      IsRunBy p turns (phases ++ Epoch report comes.0 comes.1 ∷ [])
  run_epoch phases report world s (order, swept, inl last) = whole_is_run p turns (phases ++ Epoch report order swept ∷ []) last.1
  run_epoch phases report world s (order, swept, inr more) = run_at_stop phases report order swept world s more.1

  -- no memory for an epoch or its piece
  pub breaks_between : (phases : List Phase) (world : Worldly) (s : Schedule) (a : Option (List ℕ)) → IsBetween p turns phases world s → BreaksOff p turns phases a a
  breaks_between phases world s a b = breaks_at phases a (run_between phases world s b)

  -- an epoch's piece wasn't taken whole
  pub breaks_epoch : (phases : List Phase) (report : EpochReport) (world : Worldly) (s : Schedule) (a b : Option (List ℕ)) → ComesTo p turns phases report world s →
      TakesSome a b (epoch_text report) → BreaksOff p turns phases a b
  breaks_epoch phases report world s a b comes some =
      breaks_within phases (Epoch report comes.0 comes.1 ∷ []) (epoch_text report) a b (text_of_epoch report comes.0 comes.1) (run_epoch phases report world s comes) some

  -- no memory for a stop or its piece
  pub breaks_at_stop : (phases : List Phase) (report : EpochReport) (order : List Said) (swept : List ℕ) (world : Worldly) (s : Schedule) (a : Option (List ℕ)) →
      IsAtStop p turns phases report order swept world s → BreaksOff p turns (phases ++ Epoch report order swept ∷ []) a a
  breaks_at_stop phases report order swept world s a t = breaks_at (phases ++ Epoch report order swept ∷ []) a (run_at_stop phases report order swept world s t)

  -- a stop's piece wasn't taken whole
  pub breaks_stop : (phases : List Phase) (report : EpochReport) (order : List Said) (swept : List ℕ) (stop : StopReport) (world : Worldly) (s : Schedule) (a b : Option (List ℕ)) →
      IsBetween p turns (phases ++ Epoch report order swept ∷ Stop stop ∷ []) world s → TakesSome a b (stop_text stop) →
      BreaksOff p turns (phases ++ Epoch report order swept ∷ []) a b
  breaks_stop phases report order swept stop world s a b between some =
      breaks_within (phases ++ Epoch report order swept ∷ []) (Stop stop ∷ []) (stop_text stop) a b (text_of_stop stop)
      (subst (IsRunBy p turns) (sym (append_assoc phases (Epoch report order swept ∷ []) (Stop stop ∷ [])))
      (run_between (phases ++ Epoch report order swept ∷ Stop stop ∷ []) world s between)) some

  -- the pieces before were taken, and then the run broke off
  pub front_further : (phases : List Phase) (a b c : Option (List ℕ)) → Appends a b (text phases) → BreaksOff p turns phases b c →
      (all : List Phase) × IsRunBy p turns all × TakesSome a c (text all)
  front_further phases a b c first (more, run, some) =
      (phases ++ more, run, subst (TakesSome a c) (sym (flat_map-append phase_text phases more)) (some_further a b c (text phases) (text more) first some))

-- which of the two an epoch comes to, by its report
pub whole_of : (p : Program) (turns : List ℕ) (phases : List Phase) (report : EpochReport) (world : Worldly) (s : Schedule) (comes : ComesTo p turns phases report world s) →
    report.last ≡ true → IsWholeRunBy p turns (phases ++ Epoch report comes.0 comes.1 ∷ [])
whole_of p turns phases report world s (order, swept, inl a) e = a.1
whole_of p turns phases report world s (order, swept, inr a) e = absurd (let q : true ≡ false = sym e ∙ a.0 in cc q)

pub at_stop_of : (p : Program) (turns : List ℕ) (phases : List Phase) (report : EpochReport) (world : Worldly) (s : Schedule) (comes : ComesTo p turns phases report world s) →
    report.last ≡ false → IsAtStop p turns phases report comes.0 comes.1 world s
at_stop_of p turns phases report world s (order, swept, inl a) e = absurd (let q : true ≡ false = sym a.0 ∙ e in cc q)
at_stop_of p turns phases report world s (order, swept, inr a) e = a.1

-- what holds of an early end holds of a call that ended early
pub any_error : {T E : Type 0} {P : Type 0} (r : Result T E) → P → IfErr r (λ _. P)
any_error (Ok x) p = tt
any_error (Err e) p = p
