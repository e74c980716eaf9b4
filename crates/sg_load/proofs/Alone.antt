-- In a run of moves without `full` each mutator reads what its moves read by themselves.
use Rattle.std.proofs.Common.{rules, ◌≡◌, ◌≢◌, ℕ, ◌+◌, ◌<◌, Bool, true, false, not, Option, Some, None, List, [], ◌∷◌, ◌++◌, length, map, refl, sym, ap, ◌∙◌, subst, inl, inr, arith, append-nil, slice_get}
use Rattle.std.specs.List.{AllByRecursion, sum_by}
use Rattle.std.proofs.lemmas.Bool.{cases_eq}
use Rattle.std.proofs.lemmas.List.Sums.{sum_by-append, sum_by-cons}
use Rattle.std.proofs.lemmas.List.Concat.{flat_map-append}
use Rattle.sg_words.specs.Words.{put}
use Rattle.sg_words.proofs.Puts.{put-at, put-other}
use Rattle.sg_words.proofs.Everywhere.{all_front, all_back}
use Rattle.sg_desc.specs.declared.shapes.Descriptor.TheVariants.{Bitmap}
use Rattle.sg_program.specs.declared.program.Program.{Program}
use Rattle.sg_program.specs.declared.program.Class.{Class}
use Rattle.sg_program.specs.declared.program.Statement.{Statement}
use Rattle.sg_program.specs.declared.program.Statement.TheVariants.{New}
use Rattle.sg_program.specs.declared.answers.Answer.{Answer}
use Rattle.sg_program.specs.declared.answers.Answer.TheVariants.{At, Nil, Null, Number, Fine, Yes, No, Field, Full}
use Rattle.sg_program.specs.Scripts.{kind_of, fields_of, shape_at}
use Rattle.sg_graph.specs.declared.reports.Service.{Service}
use Rattle.sg_graph.specs.declared.reports.EpochReport.{EpochReport}
use Rattle.sg_graph.specs.declared.reports.StopReport.{StopReport}
use Rattle.sg_graph.specs.declared.reports.MinorReport.{MinorReport}
use Rattle.sg_graph.specs.declared.reports.MajorReport.{MajorReport}
use Rattle.sg_graph.specs.Graph.{Graph, Mutator}
use Rattle.sg_graph.specs.Statements.{Does}
use Rattle.sg_graph.specs.Book.{Book, Books}
use Rattle.sg_graph.specs.Pause.{IsPause, is_pair}
use Rattle.sg_graph.specs.Epoch.{Said, Explains, IsEpoch, answers_of, by_address, running, parted, is_done}
use Rattle.sg_graph.specs.Stop.{Asked, Placing, Serves, IsStop, MakesMinor, MakesMajor}
use Rattle.sg_graph.specs.Run.{Phase, Epoch, Stop, Goes, Begins, GoesOn, IsWholeRun}
use Rattle.sg_gen.specs.declared.generated.Move.{Move}
use Rattle.sg_load.specs.Summary.{number_in, answers_in_parts, answers_in_service, answers_in_services, answers_in, answers_in_run}
use Rattle.sg_load.specs.Alone.{no_lists, sum_from, IsOfMoves, NoneIsFull}
use Rattle.sg_load.proofs.Chains.{IsAt, Between, Frames, framed, at_end}
use Rattle.sg_load.proofs.Scripts.{AreDone, at_other, explained, own_first, other_first, own_service, other_service}
use Rattle.sg_load.proofs.Stepping.{step}
use Rattle.sg_load.proofs.Runs.{cases_true, never, once, no_parts, one_part, same_minor, same_major, goes_done, epoch_done}

abbrev numbers : List Answer → ℕ
numbers answers = sum_by number_in answers

same_number : (c : Book) (a : Answer) → number_in (by_address c a) ≡ number_in a
same_number c (At name) = refl
same_number c Nil = refl
same_number c Null = refl
same_number c (Number n) = refl
same_number c Fine = refl
same_number c Yes = refl
same_number c No = refl
same_number c Field = refl
same_number c Full = refl

same_numbers : (c : Book) (answers : List Answer) → numbers (map (by_address c) answers) ≡ numbers answers
same_numbers c [] = refl
same_numbers c (a ∷ answers) =
    let one = same_number c a in
    let rest = same_numbers c answers in
    let before : numbers (map (by_address c) (a ∷ answers)) ≡ number_in (by_address c a) + numbers (map (by_address c) answers) = sum_by-cons number_in (by_address c a) (map (by_address c) answers) in
    let after = sum_by-cons number_in a answers in
    omega (arith, one, rest, before, after)

no_answers : (answers : List Answer) → length answers ≡ 0 → numbers answers ≡ 0
no_answers [] e = refl
no_answers (a ∷ answers) e = absurd (omega (arith, e))

module _ (p : Program) (owner : ℕ → ℕ) (drawn : ℕ → List Move) (of : IsOfMoves p owner drawn) where
  kind : kind_of p 0 ≡ Bitmap 3
  kind = ap (λ (classes : List Class). (shape_at (slice_get classes 0)).kind) of.classes

  fields : fields_of p 0 ≡ 3
  fields = ap (λ (classes : List Class). (shape_at (slice_get classes 0)).fields) of.classes

  -- each mutator is somewhere in its moves, and has this to read yet
  abbrev pub AreAt : Graph → (ℕ → ℕ) → Type 0
  AreAt g left = (k : ℕ) → IsAt owner g (g.mutator k).register k (g.mutator k).script (left k)

  -- what each has read on the way to h, and has to read yet
  pub record Read (left : ℕ → ℕ) (read : ℕ → ℕ) (h : Graph) : Type 0 where
    pub less : ℕ → ℕ
    pub reads : (k : ℕ) → left k ≡ read k + less k
    pub at : AreAt h less

  one_done : (g : Graph) (by : ℕ) (s : Statement) (rest : List Statement) (a : Answer) (h : Graph) (left : ℕ → ℕ) → (g.mutator by).script ≡ s ∷ rest →
      Does p g by (g.mutator by) s rest a h → (s ≡ New 0 0 → a ≢ Full) → AreAt g left → Read left (put (λ _. 0) by (number_in a)) h
  one_done g by s rest a h left next does full at =
      let steps = step owner p kind fields g by s rest a h (left by) next does full (at by) in
      record {
        less = put left by steps.less;
        reads = λ k. elim (cases_eq k by) [
          | inl e ↦
              let one = put-at (λ _. 0) by (number_in a) k e in
              let after = put-at left by steps.less k e in
              let r = steps.reads in
              let same = ap left e in
              omega (arith, one, after, r, same)
          | inr n ↦
              let none = put-other (λ _. 0) by (number_in a) k n in
              let after = put-other left by steps.less k n in
              omega (arith, none, after)
        ];
        at = λ k. elim (cases_eq k by) [
          | inl e ↦
              subst (λ (l : ℕ). IsAt owner h (h.mutator k).register k (h.mutator k).script l) (sym (put-at left by steps.less k e))
              (subst (λ (j : ℕ). IsAt owner h (h.mutator j).register j (h.mutator j).script steps.less) (sym e) steps.at)
          | inr n ↦
              subst (λ (l : ℕ). IsAt owner h (h.mutator k).register k (h.mutator k).script l) (sym (put-other left by steps.less k n))
              (subst (λ (m : Mutator). IsAt owner h m.register k m.script (left k)) (sym (at_other p g by s rest a h next does.1 k n))
              (framed owner g h k (steps.others k n) (g.mutator k).register (g.mutator k).script (left k) (at k)))
        ];
      }

  -- in an epoch no answer is `full`
  not_full : (g : Graph) (b : Book) (by : ℕ) (s : Statement) (a : Answer) (c : Book) → Books p g b by s a c → s ≡ New 0 0 → a ≢ Full
  not_full g b by s a c books e f =
      let this : Books p g b by (New 0 0) a c = subst (λ (s : Statement). Books p g b by s a c) e books in
      let that : Books p g b by (New 0 0) Full c = subst (λ (a : Answer). Books p g b by (New 0 0) a c) f this in
      that

  all_done : (g : Graph) (b : Book) (order : List Said) (h : Graph) (c : Book) (left : ℕ → ℕ) → Explains p g b order h c → AreAt g left →
      Read left (λ k. numbers (answers_of k order)) h
  all_done g b [] h c left (same, books) at = record { less = left; reads = λ k. omega arith; at = subst (λ (x : Graph). AreAt x left) (sym same) at }
  all_done g b (said ∷ order) h c left (h1, c1, turn, more) at =
      let first = one_done g said.by turn.statement turn.rest said.answer h1 left turn.next turn.does (not_full g b said.by turn.statement said.answer c1 turn.books) at in
      let rest = all_done h1 c1 order h c first.less more first.at in
      record {
        less = rest.less;
        reads = λ k.
            let one = first.reads k in
            let others = rest.reads k in
            elim (cases_eq k said.by) [
              | inl e ↦
                  let here = put-at (λ _. 0) said.by (number_in said.answer) k e in
                  let all = ap numbers (own_first k said order (sym e)) ∙ sum_by-cons number_in said.answer (answers_of k order) in
                  omega (arith, one, others, here, all)
              | inr n ↦
                  let here = put-other (λ _. 0) said.by (number_in said.answer) k n in
                  let all = ap numbers (other_first k said order (λ e. n (sym e))) in
                  omega (arith, one, others, here, all)
            ];
        at = rest.at;
      }

  -- as an epoch ends, who has no statement left lets go of what it holds
  parted_at : (g h : Graph) (k : ℕ) (left : ℕ) (m : Mutator) (script : List Statement) → m.script ≡ script → Frames owner g h k → IsAt owner g m.register k m.script left →
      IsAt owner h (parted m (is_done script)).register k (parted m (is_done script)).script left
  parted_at g h k left m [] e frames at = (at_end owner h m.register (parted m true).register k m.script left e (framed owner g h k frames m.register m.script left at)).1
  parted_at g h k left m (s ∷ script) e frames at = framed owner g h k frames m.register m.script left at

  module _ (n : ℕ) (g : Graph) (b : Book) (order : List Said) (swept : List ℕ) (report : EpochReport) (h : Graph) (c : Book)
      (epoch : IsEpoch p n g b order swept report h c) where
    end_frames : (k : ℕ) → Frames owner epoch.last h k
    end_frames k = subst (λ (x : Graph). Frames owner epoch.last x k) (sym epoch.after)
        (record { count = omega arith; same = λ n is. record { maker = refl; class = refl; size = refl; field = refl }; global = λ x e. refl })

    pub epoch_read : (left : ℕ → ℕ) → AreAt g left → Read left (λ k. numbers (answers_of k order)) h
    epoch_read left at =
        let all = all_done g b order epoch.last epoch.book left epoch.explains at in
        record {
          less = all.less;
          reads = all.reads;
          at = λ k. subst (λ (m : Mutator). IsAt owner h m.register k m.script (all.less k)) (sym (ap (λ (x : Graph). x.mutator k) epoch.after))
              (parted_at epoch.last h k (all.less k) (epoch.last.mutator k) (epoch.last.mutator k).script refl (end_frames k) (all.at k));
        }

    -- as its report tells
    pub epoch_numbers : AreDone g → (k : ℕ) → k < length p.mutators → numbers (answers_in_parts k report.parts) ≡ numbers (answers_of k order)
    epoch_numbers done k l =
        let keep : ℕ → Bool = λ j. not (g.mutator j).ended in
        elim (cases_true (g.mutator k).ended) [
          | inl e ↦
              let none = ap numbers (no_parts p g order epoch.last c k (running p g) report.parts epoch.parts (never keep k (length p.mutators) (ap not e))) in
              let all = explained p g b order epoch.last epoch.book epoch.explains k in
              let empty = ap length (done k e) in
              none ∙ sym (no_answers (answers_of k order) (omega (arith, all, empty)))
          | inr e ↦
              ap numbers (one_part p g order epoch.last c k (running p g) report.parts epoch.parts (once keep k (length p.mutators) l (ap not e)))
              ∙ same_numbers c (answers_of k order)
        ]

  -- a pause empties pairs alone
  paused : (g : Graph) (root : ℕ → Type 0) (h : Graph) (kept : ℕ → Bool) → IsPause p g root h kept → (k : ℕ) → Frames owner g h k
  paused g root h kept pause k = record {
    count = let same = ap (λ (x : Graph). x.count) pause.after in omega (arith, same);
    same = λ n is. record {
      maker = ap (λ (x : Graph). x.maker n) pause.after;
      class = ap (λ (x : Graph). x.class n) pause.after;
      size = ap (λ (x : Graph). x.size n) pause.after;
      field =
          let single : is_pair (kind_of p (g.class n)) ≡ false = ap is_pair (ap (kind_of p) is.class ∙ kind) in
          ap (λ (x : Graph). x.field n) pause.after ∙ search (rules, single);
    };
    global = λ x e. ap (λ (y : Graph). y.global x) pause.after;
  }

  same_frames : (g h : Graph) → h ≡ g → (k : ℕ) → Frames owner g h k
  same_frames g h e k = subst (λ (x : Graph). Frames owner g x k) (sym e)
      (record { count = omega arith; same = λ n is. record { maker = refl; class = refl; size = refl; field = refl }; global = λ x e. refl })

  minor_frames : (g : Graph) (b : Book) (words : List ℕ) (requests : List Asked) (report : Option MinorReport) (h : Graph) (c : Book) →
      MakesMinor p g b words requests report h c → (k : ℕ) → Frames owner g h k
  minor_frames g b words requests (Some report) h c makes k = paused g _ h makes.1.keeps.kept makes.1.keeps.pause k
  minor_frames g b words requests None h c makes k = same_frames g h makes.1 k

  major_frames : (g : Graph) (b : Book) (words : List ℕ) (requests : List Asked) (minor : Option MinorReport) (report : Option MajorReport) (h : Graph) (c : Book) →
      MakesMajor p g b words requests minor report h c → (k : ℕ) → Frames owner g h k
  major_frames g b words requests (Some minor) (Some report) h c makes k = paused g _ h makes.1.keeps.kept makes.1.keeps.pause k
  major_frames g b words requests (Some minor) None h c makes k = same_frames g h makes.1 k
  major_frames g b words requests None (Some report) h c makes k = absurd makes
  major_frames g b words requests None None h c makes k = same_frames g h makes.0 k

  still_at : (g h : Graph) (left : ℕ → ℕ) → h.mutator ≡ g.mutator → ((k : ℕ) → Frames owner g h k) → AreAt g left → AreAt h left
  still_at g h left same frames at k =
      subst (λ (f : ℕ → Mutator). IsAt owner h (f k).register k (f k).script (left k)) (sym same) (framed owner g h k (frames k) (g.mutator k).register (g.mutator k).script (left k) (at k))

  -- no service is `full`
  abbrev NoService : List Service → Type 0
  NoService served = (k : ℕ) → AllByRecursion (λ answer. answer ≢ Full) (answers_in_services k served)

  this_service : (service : Service) (served : List Service) → NoService (service ∷ served) → service.answer ≢ Full
  this_service service served none = (subst (AllByRecursion (λ (answer : Answer). answer ≢ Full)) (own_service service.mutator service served refl) (none service.mutator)).0

  other_services : (service : Service) (served : List Service) → NoService (service ∷ served) → NoService served
  other_services service served none k = all_back (λ answer. answer ≢ Full) (answers_in_service k service) (answers_in_services k served) (none k)

  all_served : (how : Placing) (g : Graph) (b : Book) (requests : List Asked) (served : List Service) (h : Graph) (c : Book) (left : ℕ → ℕ) →
      Serves p how g b requests served h c → NoService served → AreAt g left → Read left (λ k. numbers (answers_in_services k served)) h
  all_served how g b [] [] h c left (same, books) none at = record { less = left; reads = λ k. omega arith; at = subst (λ (x : Graph). AreAt x left) (sym same) at }
  all_served how g b [] (service ∷ served) h c left s none at = absurd s
  all_served how g b (asked ∷ requests) [] h c left s none at = absurd s
  all_served how g b (asked ∷ requests) (service ∷ served) h c left (h1, c1, is, more) none at =
      let this = this_service service served none in
      let first = one_done g asked.by is.statement is.rest is.answer h1 left is.next is.does (λ e f. this (is.told ∙ ap (by_address c1) f)) at in
      let rest = all_served how h1 c1 requests served h c first.less more (other_services service served none) first.at in
      record {
        less = rest.less;
        reads = λ k.
            let one = first.reads k in
            let others = rest.reads k in
            let same = ap number_in is.told ∙ same_number c1 is.answer in
            elim (cases_eq k asked.by) [
              | inl e ↦
                  let here = put-at (λ _. 0) asked.by (number_in is.answer) k e in
                  let all = ap numbers (own_service k service served (is.mutator ∙ sym e)) ∙ sum_by-cons number_in service.answer (answers_in_services k served) in
                  omega (arith, one, others, here, all, same)
              | inr n ↦
                  let here = put-other (λ _. 0) asked.by (number_in is.answer) k n in
                  let all = ap numbers (other_service k service served (λ e. n (sym e ∙ is.mutator))) in
                  omega (arith, one, others, here, all)
            ];
        at = rest.at;
      }

  stop_read : (n : ℕ) (g : Graph) (b : Book) (requests : List Asked) (report : StopReport) (h : Graph) (c : Book) (left : ℕ → ℕ) → IsStop p n g b requests report h c →
      NoService report.served → AreAt g left → Read left (λ k. numbers (answers_in_services k report.served)) h
  stop_read n g b requests report h c left stop none at =
      all_served _ stop.major_graph stop.book requests report.served h c left stop.serves none
      (still_at stop.minor_graph stop.major_graph left (same_major p stop.minor_graph stop.minor_book _ requests report.minor report.major stop.major_graph stop.major_book stop.major)
      (major_frames stop.minor_graph stop.minor_book _ requests report.minor report.major stop.major_graph stop.major_book stop.major)
      (still_at g stop.minor_graph left (same_minor p g _ _ requests report.minor stop.minor_graph stop.minor_book stop.minor)
      (minor_frames g _ _ requests report.minor stop.minor_graph stop.minor_book stop.minor) at))

  -- what each has to read yet, behind a front of a run
  pub record HasRead (phases : List Phase) (g : Graph) : Type 0 where
    pub less : ℕ → ℕ
    pub reads : (k : ℕ) → k < length p.mutators → sum_from no_lists (drawn k) ≡ numbers (answers_in_run k phases) + less k
    pub at : AreAt g less

  more_numbers : (k : ℕ) (before more : List Phase) → numbers (answers_in_run k (before ++ more)) ≡ numbers (answers_in_run k before) + numbers (answers_in_run k more)
  more_numbers k before more = ap numbers (flat_map-append (answers_in k) before more) ∙ sum_by-append number_in (answers_in_run k before) (answers_in_run k more)

  front_not_full : (before more : List Phase) → NoneIsFull (before ++ more) → NoneIsFull before
  front_not_full before more none k = all_front (λ answer. answer ≢ Full) (answers_in_run k before) (answers_in_run k more)
      (subst (AllByRecursion (λ (answer : Answer). answer ≢ Full)) (flat_map-append (answers_in k) before more) (none k))

  back_not_full : (before more : List Phase) → NoneIsFull (before ++ more) → NoneIsFull more
  back_not_full before more none k = all_back (λ answer. answer ≢ Full) (answers_in_run k before) (answers_in_run k more)
      (subst (AllByRecursion (λ (answer : Answer). answer ≢ Full)) (flat_map-append (answers_in k) before more) (none k))

  one_phase : (k : ℕ) (phase : Phase) → numbers (answers_in_run k (phase ∷ [])) ≡ numbers (answers_in k phase)
  one_phase k phase = ap numbers (append-nil (answers_in k phase))

  two_phases : (k : ℕ) (phase other : Phase) → numbers (answers_in_run k (phase ∷ other ∷ [])) ≡ numbers (answers_in k phase) + numbers (answers_in k other)
  two_phases k phase other =
      let all : numbers (answers_in_run k (phase ∷ other ∷ [])) ≡ numbers (answers_in k phase) + numbers (answers_in_run k (other ∷ [])) =
      sum_by-append number_in (answers_in k phase) (answers_in_run k (other ∷ [])) in
      let one = one_phase k other in
      omega (arith, all, one)

  pub goes_read : (n : ℕ) (phases : List Phase) (g : Graph) (b : Book) → Goes p n phases g b → NoneIsFull phases → HasRead phases g
  goes_read n phases g b Begins none = record {
    less = λ k. sum_from no_lists (drawn k);
    reads = λ k l. omega arith;
    at = λ k. Between [] no_lists (drawn k) _ (of.scripts k) refl (of.owned k) (λ x e. refl);
  }
  goes_read n phases g b (GoesOn m before g0 b0 order swept epoch h c stop h1 c1 goes is more stops) none =
      let so_far = goes_read m before g0 b0 goes (front_not_full before (Epoch epoch order swept ∷ Stop stop ∷ []) none) in
      let then = epoch_read m g0 b0 order swept epoch h c is so_far.less so_far.at in
      let served : NoService stop.served = λ k. all_front (λ answer. answer ≢ Full) (answers_in_services k stop.served) []
      (all_back (λ answer. answer ≢ Full) (answers_in_parts k epoch.parts) (answers_in_services k stop.served ++ []) (back_not_full before (Epoch epoch order swept ∷ Stop stop ∷ []) none k)) in
      let last = stop_read m h c _ stop h1 c1 then.less stops served then.at in
      record {
        less = last.less;
        reads = λ k l.
            let first = so_far.reads k l in
            let second = then.reads k in
            let third = last.reads k in
            let told = epoch_numbers m g0 b0 order swept epoch h c is (goes_done p m before g0 b0 goes) k l in
            let all = more_numbers k before (Epoch epoch order swept ∷ Stop stop ∷ []) in
            let both = two_phases k (Epoch epoch order swept) (Stop stop) in
            omega (arith, first, second, third, told, all, both);
        at = last.at;
      }

  -- in a whole run nothing is left to read
  pub run_read : (phases : List Phase) → IsWholeRun p phases → NoneIsFull phases → (k : ℕ) → k < length p.mutators →
      numbers (answers_in_run k phases) ≡ sum_from no_lists (drawn k)
  run_read phases w none k l =
      let whole : NoneIsFull (w.before ++ Epoch w.report w.order w.swept ∷ []) = subst NoneIsFull w.phases_are none in
      let so_far = goes_read w.number w.before w.graph w.book w.goes (front_not_full w.before (Epoch w.report w.order w.swept ∷ []) whole) in
      let then = epoch_read w.number w.graph w.book w.order w.swept w.report w.last_graph w.last_book w.epoch so_far.less so_far.at in
      let first = so_far.reads k l in
      let second = then.reads k in
      let told = epoch_numbers w.number w.graph w.book w.order w.swept w.report w.last_graph w.last_book w.epoch (goes_done p w.number w.before w.graph w.book w.goes) k l in
      let all = more_numbers k w.before (Epoch w.report w.order w.swept ∷ []) in
      let one = one_phase k (Epoch w.report w.order w.swept) in
      let over = epoch_done p w.number w.graph w.book w.order w.swept w.report w.last_graph w.last_book w.epoch k (w.whole k l) in
      let nothing = (at_end owner w.last_graph (w.last_graph.mutator k).register (w.last_graph.mutator k).register k (w.last_graph.mutator k).script (then.less k) over (then.at k)).0 in
      let same = ap (λ (ps : List Phase). numbers (answers_in_run k ps)) w.phases_are in
      omega (arith, first, second, told, all, one, nothing, same)
