-- Tallies are counted answer by answer, part by part, and mutator by mutator.
use Rattle.std.proofs.Common.{rules, ◌≡◌, ℕ, zero, suc, ◌+◌, ◌-◌, ◌^◌, ◌<◌, ◌≤◌, List, [], ◌∷◌, ◌++◌, length, take, drop, set, get_or, refl, sym, ap, ◌∙◌, arith, length-append, append-nil, append_assoc}
use Rattle.std.specs.List.{AllByRecursion, flat_map, sum_by}
use Rattle.std.proofs.lemmas.List.{take_more, set-append_right, drop_more, take_all, drop_all, length-take-le}
use Rattle.std.proofs.lemmas.List.Folds.{length-flat_map-take}
use Rattle.std.proofs.lemmas.List.Sums.{sum_by-append}
use Rattle.std.proofs.lemmas.List.Concat.{flat_map-append}
use Rattle.sg_program.specs.declared.answers.Answer.{Answer}
use Rattle.sg_load.specs.declared.summary.Tally.{Tally}
use Rattle.sg_graph.specs.declared.reports.Part.{Part}
use Rattle.sg_graph.specs.declared.reports.Service.{Service}
use Rattle.sg_load.specs.Summary.{answers_in_part, answers_in_service, number_in, counted, counted_from}

-- some answers, and then others
pub counted_more : (tally : Tally) (xs ys : List Answer) → counted (counted tally xs) ys ≡ counted tally (xs ++ ys)
counted_more tally xs ys =
    let l = length-append xs ys in
    let s = sum_by-append number_in xs ys in
    let statements : tally.statements + length xs + length ys ≡ tally.statements + length (xs ++ ys) = omega (arith, l) in
    let sum : tally.sum + sum_by number_in xs + sum_by number_in ys ≡ tally.sum + sum_by number_in (xs ++ ys) = omega (arith, s) in
    cc

module _ {X : Type 0} (f : X → List Answer) where
  -- the answers of one more
  pub one_more : (xs : List X) (i : ℕ) (d : X) → i < length xs → flat_map f (take (i + 1) xs) ≡ flat_map f (take i xs) ++ f (get_or xs i d)
  one_more xs i d l =
      ap (flat_map f) (take_more xs i d l) ∙ flat_map-append f (take i xs) (get_or xs i d ∷ []) ∙ ap (λ (ys : List Answer). flat_map f (take i xs) ++ ys) (append-nil (f (get_or xs i d)))

module _ (answers : ℕ → List Answer) where
  length_counted : (k : ℕ) (tallies : List Tally) → length (counted_from k tallies answers) ≡ length tallies
  length_counted k [] = refl
  length_counted k (tally ∷ tallies) = ap suc (length_counted (suc k) tallies)

  counted_append : (k : ℕ) (xs ys : List Tally) → counted_from k (xs ++ ys) answers ≡ counted_from k xs answers ++ counted_from (k + length xs) ys answers
  counted_append k [] ys = ap (λ (n : ℕ). counted_from n ys answers) (let e : k ≡ k + 0 = omega arith in e)
  counted_append k (x ∷ xs) ys =
      let at : suc k + length xs ≡ k + suc (length xs) = omega arith in
      ap (λ (ts : List Tally). counted x (answers k) ∷ ts) (counted_append (suc k) xs ys ∙ ap (λ (n : ℕ). counted_from (suc k) xs answers ++ counted_from n ys answers) at)

  -- those before k are counted, and the others aren't yet
  abbrev pub so_counted : List Tally → ℕ → List Tally
  so_counted old k = counted_from 0 (take k old) answers ++ drop k old

  fronts : (old : List Tally) (k : ℕ) → k ≤ length old → length (counted_from 0 (take k old) answers) ≡ k
  fronts old k l = length_counted 0 (take k old) ∙ length-take-le k old l

  next_counted : (old : List Tally) (k : ℕ) (d : Tally) → k < length old → counted_from 0 (take (k + 1) old) answers ≡
      counted_from 0 (take k old) answers ++ counted (get_or old k d) (answers k) ∷ []
  next_counted old k d l =
      ap (λ (ts : List Tally). counted_from 0 ts answers) (take_more old k d l) ∙ counted_append 0 (take k old) (get_or old k d ∷ [])
      ∙ ap (λ (n : ℕ). counted_from 0 (take k old) answers ++ counted_from n (get_or old k d ∷ []) answers) (let long = length-take-le k old (omega (arith, l)) in omega (arith, long))

  -- k's is counted next
  pub so_counted_next : (old : List Tally) (k : ℕ) (d : Tally) → k < length old →
      set (so_counted old k) k (counted (get_or old k d) (answers k)) ≡ so_counted old (k + 1)
  so_counted_next old k d l =
      let v = counted (get_or old k d) (answers k) in
      let front = counted_from 0 (take k old) answers in
      let long = fronts old k (omega (arith, l)) in
      let none : k - k ≡ 0 = omega arith in
      set-append_right front (drop k old) k k v long (omega arith)
      ∙ ap (λ (ts : List Tally). front ++ set ts (k - k) v) (drop_more old k d l)
      ∙ ap (λ (n : ℕ). front ++ set (get_or old k d ∷ drop (k + 1) old) n v) none
      ∙ sym (append_assoc front (v ∷ []) (drop (k + 1) old))
      ∙ ap (λ (ts : List Tally). ts ++ drop (k + 1) old) (sym (next_counted old k d l))

  -- until then it is as it was
  pub still : (old : List Tally) (k : ℕ) (d : Tally) → k < length old → get_or (so_counted old k) k d ≡ get_or old k d
  still old k d l =
      let front = counted_from 0 (take k old) answers in
      let long = fronts old k (omega (arith, l)) in
      ap (λ (ts : List Tally). get_or (front ++ ts) k d) (drop_more old k d l) ∙ at front k (get_or old k d) (drop (k + 1) old) d long
    where
      at : (xs : List Tally) (k : ℕ) (x : Tally) (ys : List Tally) (d : Tally) → length xs ≡ k → get_or (xs ++ x ∷ ys) k d ≡ x
      at [] zero x ys d e = refl
      at [] (suc k) x ys d e = absurd (omega (arith, e))
      at (y ∷ xs) zero x ys d e = absurd (omega (arith, e))
      at (y ∷ xs) (suc k) x ys d e = at xs k x ys d (omega (arith, e))

  -- at the end all are
  pub all_counted : (old : List Tally) → so_counted old (length old) ≡ counted_from 0 old answers
  all_counted old =
      ap (λ (ts : List Tally). counted_from 0 ts answers ++ drop (length old) old) (take_all (length old) old (omega arith))
      ∙ ap (λ (ts : List Tally). counted_from 0 old answers ++ ts) (drop_all (length old) old (omega arith)) ∙ append-nil (counted_from 0 old answers)

-- where one of them is set to one of which this holds too, it holds of all
pub all_set : (P : Tally → Type 0) (xs : List Tally) (k : ℕ) (x : Tally) → AllByRecursion P xs → P x → AllByRecursion P (set xs k x)
all_set P [] k x all one = tt
all_set P (y ∷ ys) zero x all one = (one, all.1)
all_set P (y ∷ ys) (suc k) x all one = (all.0, all_set P ys k x all.1 one)

pub all_at : (P : Tally → Type 0) (xs : List Tally) (k : ℕ) (d : Tally) → AllByRecursion P xs → k < length xs → P (get_or xs k d)
all_at P [] k d all l = absurd (omega (arith, l))
all_at P (y ∷ ys) zero d all l = all.0
all_at P (y ∷ ys) (suc k) d all l = all_at P ys k d all.1 (omega (arith, l))

-- the answers of mutator k in a part or a service of its own
pub answers_of_part : (k : ℕ) (part : Part) → part.mutator ≡ k → answers_in_part k part ≡ part.answers
answers_of_part k part e = search (rules, e)

pub answers_of_service : (k : ℕ) (service : Service) → service.mutator ≡ k → answers_in_service k service ≡ service.answer ∷ []
answers_of_service k service e = search (rules, e)

-- the answers of the next one of the list are few enough to be counted
pub room_for : {X : Type 0} (f : X → List Answer) (tally so_far : Tally) (xs : List X) (i : ℕ) (x : X) (answers : List Answer) → so_far ≡ counted tally (flat_map f (take i xs)) →
    i < length xs → x ≡ get_or xs i x → f x ≡ answers → tally.statements + length (flat_map f xs) ≤ 2 ^ 33 → so_far.statements + length answers ≤ 2 ^ 33
room_for f tally so_far xs i x answers is l at own few =
    let most = length-flat_map-take f xs i x l in
    let here : length (f (get_or xs i x)) ≡ length answers = ap (λ y. length (f y)) (sym at) ∙ ap length own in
    let statements : so_far.statements ≡ tally.statements + length (flat_map f (take i xs)) = ap (λ (t : Tally). t.statements) is in
    omega (arith, most, here, statements, few)
