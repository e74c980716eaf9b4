-- In a run each answer takes one from a script, epoch by epoch and stop by stop.
use Rattle.std.proofs.Common.{rules, ◌≡◌, ◌≢◌, ℕ, zero, suc, ◌+◌, ◌<◌, ◌≤◌, Bool, true, false, cond, not, ◌⊎◌, Option, Some, None, List, [], ◌∷◌, ◌++◌, length, map, filter, refl, sym, ap, ◌∙◌, subst, inl, inr, arith, length-append, append-nil, true≢false}
use Rattle.std.specs.Prelude.{◌==◌}
use Rattle.std.specs.List.{count_by}
use Rattle.std.proofs.lemmas.Bool.{cases_eq}
use Rattle.std.proofs.lemmas.List.{length-map}
use Rattle.std.proofs.lemmas.List.Elements.{filter-append}
use Rattle.std.proofs.lemmas.List.Concat.{flat_map-append}
use Rattle.sg_words.specs.Lists.{Pairwise}
use Rattle.sg_words.proofs.Everywhere.{count-append, count-cons}
use Rattle.sg_program.specs.declared.program.Program.{Program}
use Rattle.sg_program.specs.declared.program.Statement.{Statement}
use Rattle.sg_program.specs.Scripts.{script_of}
use Rattle.sg_program.specs.declared.answers.Answer.{Answer}
use Rattle.sg_graph.specs.declared.reports.Part.{Part}
use Rattle.sg_graph.specs.declared.reports.EpochReport.{EpochReport}
use Rattle.sg_graph.specs.declared.reports.StopReport.{StopReport}
use Rattle.sg_graph.specs.declared.reports.MinorReport.{MinorReport}
use Rattle.sg_graph.specs.declared.reports.MajorReport.{MajorReport}
use Rattle.sg_graph.specs.Graph.{Graph, Mutator}
use Rattle.sg_graph.specs.Book.{Book}
use Rattle.sg_graph.specs.Epoch.{Said, IsPart, IsEpoch, answers_of, by_address, numbers_below, running, parted, is_done}
use Rattle.sg_graph.specs.Stop.{Asked, IsStop, MakesMinor, MakesMajor}
use Rattle.sg_graph.specs.Run.{Phase, Epoch, Stop, Goes, Begins, GoesOn, IsWholeRun}
use Rattle.sg_load.specs.Summary.{answers_in_part, answers_in_parts, answers_in_services, answers_in, answers_in_run}
use Rattle.sg_load.proofs.Counting.{answers_of_part}
use Rattle.sg_load.proofs.Scripts.{AreDone, explained, served_answers, served_done}

pub cases_true : (b : Bool) → (b ≡ true) ⊎ (b ≡ false)
cases_true true = inl refl
cases_true false = inr refl

-- how often k is among these
abbrev pub times : ℕ → List ℕ → ℕ
times k ks = count_by (λ j. j == k) ks

times_own : (k j : ℕ) (ks : List ℕ) → j ≡ k → times k (j ∷ ks) ≡ 1 + times k ks
times_own k j ks e = let c = count-cons (λ i. i == k) j ks in let one : ◌≡◌ {A = ℕ} (cond (j == k) 1 0) 1 = search (rules, e) in omega (arith, c, one)

times_other : (k j : ℕ) (ks : List ℕ) → j ≢ k → times k (j ∷ ks) ≡ times k ks
times_other k j ks n = let c = count-cons (λ i. i == k) j ks in let none : ◌≡◌ {A = ℕ} (cond (j == k) 1 0) 0 = search (rules, n) in omega (arith, c, none)

-- those below n have k once where it is below n, else never; and so have those of them that are kept, where k is
module _ (keep : ℕ → Bool) (k : ℕ) where
  -- whether the last one is kept
  kept_one : (m : ℕ) (b : Bool) → keep m ≡ b → times k (filter keep (m ∷ [])) ≡ times k (cond b (m ∷ []) [])
  kept_one m b e = ap (λ (x : Bool). times k (cond x (m ∷ []) [])) e

  abbrev pub below : ℕ → List ℕ
  below n = filter keep (numbers_below n)

  split : (m : ℕ) → times k (below (suc m)) ≡ times k (below m) + times k (filter keep (m ∷ []))
  split m = ap (times k) (filter-append keep (numbers_below m) (m ∷ [])) ∙ count-append (λ j. j == k) (below m) (filter keep (m ∷ []))

  other_one : (m : ℕ) → m ≢ k → times k (filter keep (m ∷ [])) ≡ 0
  other_one m n = elim (cases_true (keep m)) [
    | inl e ↦ kept_one m true e ∙ times_other k m [] n
    | inr e ↦ kept_one m false e
  ]

  above : (n : ℕ) → n ≤ k → times k (below n) ≡ 0
  above zero l = refl
  above (suc m) l = let rest = above m (omega (arith, l)) in let one = other_one m (λ e. omega (arith, e, l)) in let s = split m in omega (arith, rest, one, s)

  pub once : (n : ℕ) → k < n → keep k ≡ true → times k (below n) ≡ 1
  once zero l e = absurd (omega (arith, l))
  once (suc m) l e =
      let s = split m in
      elim (cases_eq m k) [
        | inl same ↦
            let rest = above m (omega (arith, same)) in
            let one = kept_one m true (ap keep same ∙ e) ∙ times_own k m [] same in
            omega (arith, rest, one, s)
        | inr n ↦ let rest = once m (omega (arith, l, n)) e in let one = other_one m n in omega (arith, rest, one, s)
      ]

  pub never : (n : ℕ) → keep k ≡ false → times k (below n) ≡ 0
  never zero e = refl
  never (suc m) e =
      let rest = never m e in
      let s = split m in
      elim (cases_eq m k) [
        | inl same ↦ let one = kept_one m false (ap keep same ∙ e) in omega (arith, rest, one, s)
        | inr n ↦ let one = other_one m n in omega (arith, rest, one, s)
      ]

module _ (p : Program) (g : Graph) (order : List Said) (last : Graph) (c : Book) (k : ℕ) where
  -- the part of another mutator has none of its answers
  other_part : (j : ℕ) (part : Part) (parts : List Part) → IsPart p g order last c j part → j ≢ k → answers_in_parts k (part ∷ parts) ≡ answers_in_parts k parts
  other_part j part parts is n =
      let m : part.mutator ≢ k = λ e. n (sym is.number ∙ e) in
      let nothing : answers_in_part k part ≡ [] = search (rules, m) in
      ap (λ (xs : List Answer). xs ++ answers_in_parts k parts) nothing

  pub no_parts : (ks : List ℕ) (parts : List Part) → Pairwise (IsPart p g order last c) ks parts → times k ks ≡ 0 → answers_in_parts k parts ≡ []
  no_parts [] [] all none = refl
  no_parts [] (part ∷ parts) all none = absurd all
  no_parts (j ∷ ks) [] all none = absurd all
  no_parts (j ∷ ks) (part ∷ parts) (is, all) none = elim (cases_eq j k) [
    | inl e ↦ let one = times_own k j ks e in absurd (omega (arith, one, none))
    | inr n ↦ other_part j part parts is n ∙ no_parts ks parts all (sym (times_other k j ks n) ∙ none)
  ]

  pub one_part : (ks : List ℕ) (parts : List Part) → Pairwise (IsPart p g order last c) ks parts → times k ks ≡ 1 →
      answers_in_parts k parts ≡ map (by_address c) (answers_of k order)
  one_part [] [] all one = absurd (omega (arith, one))
  one_part [] (part ∷ parts) all one = absurd all
  one_part (j ∷ ks) [] all one = absurd all
  one_part (j ∷ ks) (part ∷ parts) (is, all) one = elim (cases_eq j k) [
    | inl e ↦
        let first = times_own k j ks e in
        let rest = no_parts ks parts all (omega (arith, first, one)) in
        ap (λ (xs : List Answer). answers_in_part k part ++ xs) rest ∙ append-nil (answers_in_part k part) ∙ answers_of_part k part (is.number ∙ e) ∙ is.answers
        ∙ ap (λ (i : ℕ). map (by_address c) (answers_of i order)) e
    | inr n ↦ other_part j part parts is n ∙ one_part ks parts all (sym (times_other k j ks n) ∙ one)
  ]

pub parted_script : (m : Mutator) (done : Bool) → (parted m done).script ≡ m.script
parted_script m true = refl
parted_script m false = refl

parted_done : (m : Mutator) (script : List Statement) → (parted m (is_done script)).ended ≡ true → script ≡ []
parted_done m [] e = refl
parted_done m (s ∷ script) e = absurd (true≢false (sym e))

-- an epoch
module _ (p : Program) (n : ℕ) (g : Graph) (b : Book) (order : List Said) (swept : List ℕ) (report : EpochReport) (h : Graph) (c : Book)
    (epoch : IsEpoch p n g b order swept report h c) where
  script_after : (k : ℕ) → (h.mutator k).script ≡ (epoch.last.mutator k).script
  script_after k = ap (λ (x : Graph). (x.mutator k).script) epoch.after ∙ parted_script (epoch.last.mutator k) (is_done (epoch.last.mutator k).script)

  pub epoch_done : AreDone h
  epoch_done k ended =
      script_after k ∙ parted_done (epoch.last.mutator k) (epoch.last.mutator k).script (sym (ap (λ (x : Graph). (x.mutator k).ended) epoch.after) ∙ ended)

  pub epoch_answers : AreDone g → (k : ℕ) → k < length p.mutators → length (answers_in_parts k report.parts) + length (h.mutator k).script ≡ length (g.mutator k).script
  epoch_answers done k l =
      let all = explained p g b order epoch.last epoch.book epoch.explains k in
      let after = ap length (script_after k) in
      let keep : ℕ → Bool = λ j. not (g.mutator j).ended in
      elim (cases_true (g.mutator k).ended) [
        | inl e ↦
            let none = ap length (no_parts p g order epoch.last c k (running p g) report.parts epoch.parts (never keep k (length p.mutators) (ap not e))) in
            let empty = ap length (done k e) in
            omega (arith, all, after, none, empty)
        | inr e ↦
            let one = ap length (one_part p g order epoch.last c k (running p g) report.parts epoch.parts (once keep k (length p.mutators) l (ap not e)))
            ∙ length-map (answers_of k order) (by_address c) in
            omega (arith, all, after, one)
      ]

pub same_minor : (p : Program) (g : Graph) (b : Book) (words : List ℕ) (requests : List Asked) (report : Option MinorReport) (h : Graph) (c : Book) →
    MakesMinor p g b words requests report h c → h.mutator ≡ g.mutator
same_minor p g b words requests (Some report) h c makes = ap (λ (x : Graph). x.mutator) makes.1.keeps.pause.after
same_minor p g b words requests None h c makes = ap (λ (x : Graph). x.mutator) makes.1

pub same_major : (p : Program) (g : Graph) (b : Book) (words : List ℕ) (requests : List Asked) (minor : Option MinorReport) (report : Option MajorReport) (h : Graph)
    (c : Book) → MakesMajor p g b words requests minor report h c → h.mutator ≡ g.mutator
same_major p g b words requests (Some minor) (Some report) h c makes = ap (λ (x : Graph). x.mutator) makes.1.keeps.pause.after
same_major p g b words requests (Some minor) None h c makes = ap (λ (x : Graph). x.mutator) makes.1
same_major p g b words requests None (Some report) h c makes = absurd makes
same_major p g b words requests None None h c makes = ap (λ (x : Graph). x.mutator) makes.0

-- a stop
module _ (p : Program) (n : ℕ) (g : Graph) (b : Book) (requests : List Asked) (report : StopReport) (h : Graph) (c : Book) (stop : IsStop p n g b requests report h c) where
  same_paused : stop.major_graph.mutator ≡ g.mutator
  same_paused = same_major p stop.minor_graph stop.minor_book _ requests report.minor report.major stop.major_graph stop.major_book stop.major
      ∙ same_minor p g _ _ requests report.minor stop.minor_graph stop.minor_book stop.minor

  pub stop_done : AreDone g → AreDone h
  stop_done done = served_done p _ stop.major_graph stop.book requests report.served h c stop.serves
      (subst (λ (f : ℕ → Mutator). (k : ℕ) → (f k).ended ≡ true → (f k).script ≡ []) (sym same_paused) done)

  pub stop_answers : (k : ℕ) → length (answers_in_services k report.served) + length (h.mutator k).script ≡ length (g.mutator k).script
  stop_answers k =
      let all = served_answers p _ stop.major_graph stop.book requests report.served h c stop.serves k in
      let same = ap (λ (f : ℕ → Mutator). length (f k).script) same_paused in
      omega (arith, all, same)

-- a run, behind a stop
pub goes_done : (p : Program) (n : ℕ) (phases : List Phase) (g : Graph) (b : Book) → Goes p n phases g b → AreDone g
goes_done p n phases g b Begins = λ k ended. absurd (true≢false (sym ended))
goes_done p n phases g b (GoesOn m before g0 b0 order swept epoch h c stop h1 c1 goes is more stops) =
    stop_done p m h c _ stop h1 c1 stops (epoch_done p m g0 b0 order swept epoch h c is)

more_answers : (k : ℕ) (before more : List Phase) → length (answers_in_run k (before ++ more)) ≡ length (answers_in_run k before) + length (answers_in_run k more)
more_answers k before more = ap length (flat_map-append (answers_in k) before more) ∙ length-append (answers_in_run k before) (answers_in_run k more)

pub one_epoch : (k : ℕ) (before : List Phase) (report : EpochReport) (order : List Said) (swept : List ℕ) →
    length (answers_in_run k (before ++ Epoch report order swept ∷ [])) ≡ length (answers_in_run k before) + length (answers_in_parts k report.parts)
one_epoch k before report order swept =
    let all = more_answers k before (Epoch report order swept ∷ []) in
    let one : length (answers_in_run k (Epoch report order swept ∷ [])) ≡ length (answers_in_parts k report.parts) + 0 = length-append (answers_in_parts k report.parts) [] in
    omega (arith, all, one)

pub goes_answers : (p : Program) (n : ℕ) (phases : List Phase) (g : Graph) (b : Book) → Goes p n phases g b → (k : ℕ) → k < length p.mutators →
    length (answers_in_run k phases) + length (g.mutator k).script ≡ length (script_of p k)
goes_answers p n phases g b Begins k l = omega arith
goes_answers p n phases g b (GoesOn m before g0 b0 order swept epoch h c stop h1 c1 goes is more stops) k l =
    let so_far = goes_answers p m before g0 b0 goes k l in
    let at_epoch = epoch_answers p m g0 b0 order swept epoch h c is (goes_done p m before g0 b0 goes) k l in
    let at_stop = stop_answers p m h c _ stop h1 c1 stops k in
    let all = more_answers k before (Epoch epoch order swept ∷ Stop stop ∷ []) in
    let one : length (answers_in_run k (Epoch epoch order swept ∷ Stop stop ∷ [])) ≡ length (answers_in_parts k epoch.parts) + length (answers_in_run k (Stop stop ∷ [])) =
    length-append (answers_in_parts k epoch.parts) (answers_in_run k (Stop stop ∷ [])) in
    let two : length (answers_in_run k (Stop stop ∷ [])) ≡ length (answers_in_services k stop.served) + 0 = length-append (answers_in_services k stop.served) [] in
    omega (arith, so_far, at_epoch, at_stop, all, one, two)

-- in a whole run each statement has its answer
pub all_answers : (p : Program) (phases : List Phase) (k : ℕ) → k < length p.mutators → IsWholeRun p phases → length (answers_in_run k phases) ≡ length (script_of p k)
all_answers p phases k l w =
    let so_far = goes_answers p w.number w.before w.graph w.book w.goes k l in
    let here = epoch_answers p w.number w.graph w.book w.order w.swept w.report w.last_graph w.last_book w.epoch
    (goes_done p w.number w.before w.graph w.book w.goes) k l in
    let over = ap length (epoch_done p w.number w.graph w.book w.order w.swept w.report w.last_graph w.last_book w.epoch k (w.whole k l)) in
    let sum = ap (λ (ps : List Phase). length (answers_in_run k ps)) w.phases_are ∙ one_epoch k w.before w.report w.order w.swept in
    omega (arith, so_far, here, over, sum)
