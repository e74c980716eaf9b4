-- Facts of lists: of pairs, of what stands at each number, and of filters.
use Rattle.std.proofs.Common.{◌≡◌, ℕ, zero, suc, ◌+◌, ◌<◌, ◌≤◌, ◌⊎◌, cond, Bool, true, filter, Some, List, [], ◌∷◌, ◌++◌}
use Rattle.std.proofs.Common.{length, map, slice_get, get_or, take, drop, set, inl, inr, sym, refl, ap, ◌∙◌, subst, arith}
use Rattle.std.specs.List.{flat_map, sum_by, Contains, AllByRecursion}
use Rattle.std.proofs.lemmas.Bool.{cases_Bool}
use Rattle.std.proofs.lemmas.Option.{same_Some}
use Rattle.std.proofs.lemmas.List.{drop_more, take_more, take_more_set, drop-set-lt, get_or-drop}
use Rattle.std.proofs.lemmas.List.Elements.{Contains-append_left, Contains-append_right, Contains-push}
use Rattle.std.proofs.lemmas.List.Sums.{sum_by-cons}
use Rattle.sg_words.specs.Lists.{Pairwise}
use Rattle.sg_graph.specs.Epoch.{numbers_below}

pub pairwise_push : {A B : Type 0} (R : A → B → Type 0) (xs : List A) (ys : List B) (x : A) (y : B) → Pairwise R xs ys → R x y →
    Pairwise R (xs ++ x ∷ []) (ys ++ y ∷ [])
pairwise_push R [] [] x y a r = (r, tt)
pairwise_push R [] (z ∷ ys) x y a r = absurd a
pairwise_push R (z ∷ xs) [] x y a r = absurd a
pairwise_push R (z ∷ xs) (w ∷ ys) x y a r = (a.0, pairwise_push R xs ys x y a.1 r)

pub pairwise_length : {A B : Type 0} (R : A → B → Type 0) (xs : List A) (ys : List B) → Pairwise R xs ys → length ys ≡ length xs
pairwise_length R [] [] a = refl
pairwise_length R [] (y ∷ ys) a = absurd a
pairwise_length R (x ∷ xs) [] a = absurd a
pairwise_length R (x ∷ xs) (y ∷ ys) a = ap suc (pairwise_length R xs ys a.1)

-- what stands beside an element
pub pairwise_at : {A B : Type 0} (R : A → B → Type 0) (xs : List A) (ys : List B) (k : ℕ) (x : A) → Pairwise R xs ys → slice_get xs k ≡ Some x →
    (y : B) × (slice_get ys k ≡ Some y) × R x y
pairwise_at R [] ys k x a e = absurd (cc e)
pairwise_at R (z ∷ xs) [] k x a e = absurd a
pairwise_at R (z ∷ xs) (y ∷ ys) zero x a e = (y, refl, subst (λ u. R u y) (same_Some z x e) a.0)
pairwise_at R (z ∷ xs) (y ∷ ys) (suc k) x a e = pairwise_at R xs ys k x a.1 e

pub pairwise_at_right : {A B : Type 0} (R : A → B → Type 0) (xs : List A) (ys : List B) (k : ℕ) (y : B) → Pairwise R xs ys → slice_get ys k ≡ Some y →
    (x : A) × (slice_get xs k ≡ Some x) × R x y
pairwise_at_right R [] [] k y a e = absurd (cc e)
pairwise_at_right R [] (z ∷ ys) k y a e = absurd a
pairwise_at_right R (x ∷ xs) [] k y a e = absurd a
pairwise_at_right R (x ∷ xs) (z ∷ ys) zero y a e = (x, refl, subst (λ u. R x u) (same_Some z y e) a.0)
pairwise_at_right R (x ∷ xs) (z ∷ ys) (suc k) y a e = pairwise_at_right R xs ys k y a.1 e

pub pairwise_left : {A B : Type 0} (R : A → B → Type 0) (xs : List A) (ys : List B) (x : A) → Pairwise R xs ys → Contains xs x → (y : B) × Contains ys y × R x y
pairwise_left R [] ys x a (i, l, e) = absurd (omega arith)
pairwise_left R (z ∷ xs) [] x a c = absurd a
pairwise_left R (z ∷ xs) (y ∷ ys) x a (zero, l, e) = (y, (zero, omega arith, refl), subst (λ u. R u y) e a.0)
pairwise_left R (z ∷ xs) (y ∷ ys) x a (suc i, l, e) =
    let more = pairwise_left R xs ys x a.1 (i, omega arith, e) in
    (more.0, (suc more.1.0, (let q = more.1.1 in omega arith), more.1.2), more.2)

pub pairwise_right : {A B : Type 0} (R : A → B → Type 0) (xs : List A) (ys : List B) (y : B) → Pairwise R xs ys → Contains ys y →
    (x : A) × Contains xs x × R x y
pairwise_right R xs [] y a (i, l, e) = absurd (omega arith)
pairwise_right R [] (z ∷ ys) y a c = absurd a
pairwise_right R (x ∷ xs) (z ∷ ys) y a (zero, l, e) = (x, (zero, omega arith, refl), subst (λ u. R x u) e a.0)
pairwise_right R (x ∷ xs) (z ∷ ys) y a (suc i, l, e) =
    let more = pairwise_right R xs ys y a.1 (i, omega arith, e) in
    (more.0, (suc more.1.0, (let q = more.1.1 in omega arith), more.1.2), more.2)

-- what passes a filter
pub passing : {A : Type 0} (f : A → Bool) (xs : List A) → AllByRecursion (λ x. f x ≡ true) (filter f xs)
passing f [] = tt
passing f (x ∷ xs) = elim (cases_Bool (f x)) [
  | inl e ↦ subst (λ b. AllByRecursion (λ x. f x ≡ true) (cond b (x ∷ filter f xs) (filter f xs))) (sym e) (e, passing f xs)
  | inr e ↦ subst (λ b. AllByRecursion (λ x. f x ≡ true) (cond b (x ∷ filter f xs) (filter f xs))) (sym e) (passing f xs)
]

pub pairwise_under : {A B : Type 0} (P : A → Type 0) (R S : A → B → Type 0) → ((x : A) (y : B) → P x → R x y → S x y) → (xs : List A) (ys : List B) →
    AllByRecursion P xs → Pairwise R xs ys →
    Pairwise S xs ys
pairwise_under P R S each [] [] all a = tt
pairwise_under P R S each [] (y ∷ ys) all a = absurd a
pairwise_under P R S each (x ∷ xs) [] all a = absurd a
pairwise_under P R S each (x ∷ xs) (y ∷ ys) all a = (each x y all.0 a.0, pairwise_under P R S each xs ys all.1 a.1)

pub in_filter : {A : Type 0} (f : A → Bool) (xs : List A) (x : A) → Contains xs x → f x ≡ true → Contains (filter f xs) x
in_filter f [] x (i, l, e) t = absurd (omega arith)
in_filter f (y ∷ xs) x (zero, l, e) t =
    subst (λ b. Contains (cond b (y ∷ filter f xs) (filter f xs)) x) (sym (ap f e ∙ t)) (zero, omega arith, e)
in_filter f (y ∷ xs) x (suc i, l, e) t =
    let more = in_filter f xs x (i, omega arith, e) t in
    elim (cases_Bool (f y)) [
      | inl d ↦ subst (λ b. Contains (cond b (y ∷ filter f xs) (filter f xs)) x) (sym d) (suc more.0, (let q = more.1 in omega arith), more.2)
      | inr d ↦ subst (λ b. Contains (cond b (y ∷ filter f xs) (filter f xs)) x) (sym d) more
    ]

pub all_in : {A : Type 0} (P : A → Type 0) (xs : List A) (x : A) → AllByRecursion P xs → Contains xs x → P x
all_in P [] x all (i, l, e) = absurd (omega arith)
all_in P (y ∷ xs) x all (zero, l, e) = subst P e all.0
all_in P (y ∷ xs) x all (suc i, l, e) = all_in P xs x all.1 (i, omega arith, e)

pub below : (n : ℕ) (k : ℕ) → k < n → Contains (numbers_below n) k
below zero k l = absurd (omega arith)
below (suc n) k l = elim (cases_at n k l) [
  | inl e ↦ subst (λ j. Contains (numbers_below n ++ n ∷ []) j) (sym e) (Contains-push (numbers_below n) n)
  | inr d ↦ Contains-append_left (numbers_below n) (n ∷ []) k (below n k d)
]
  where
    cases_at : (n k : ℕ) → k < suc n → (k ≡ n) ⊎ (k < n)
    cases_at n zero l = elim n as (λ n. (zero ≡ n) ⊎ (zero < n)) [ zero ↦ inl refl | suc m ↦ inr (omega arith) ]
    cases_at zero (suc k) l = absurd (omega arith)
    cases_at (suc n) (suc k) l = elim (cases_at n k (omega arith)) [ inl e ↦ inl (ap suc e) | inr d ↦ inr (omega arith) ]

-- the n numbers from k on
count_from : ℕ → ℕ → List ℕ
count_from k zero = []
count_from k (suc n) = k ∷ count_from (suc k) n

count_last : (k n : ℕ) → count_from k (suc n) ≡ count_from k n ++ (k + n) ∷ []
unfolding count_from
count_last k zero = ap (λ (j : ℕ). j ∷ []) (let e : k ≡ k + 0 = omega arith in e)
count_last k (suc n) =
    ap (λ xs. k ∷ xs) (count_last (suc k) n ∙ ap (λ (j : ℕ). count_from (suc k) n ++ j ∷ []) (let e : suc k + n ≡ k + suc n = omega arith in e))

below_is : (n : ℕ) → numbers_below n ≡ count_from 0 n
unfolding count_from
below_is zero = refl
below_is (suc n) = ap (λ xs. xs ++ n ∷ []) (below_is n) ∙ ap (λ (j : ℕ). count_from 0 n ++ j ∷ []) (let e : n ≡ 0 + n = omega arith in e) ∙ sym (count_last 0 n)

listed_from : (xs : List ℕ) (k : ℕ) (f : ℕ → ℕ) → ((r : ℕ) → get_or xs r 0 ≡ f (k + r)) → xs ≡ map f (count_from k (length xs))
unfolding count_from
listed_from [] k f e = refl
listed_from (x ∷ xs) k f e =
    let h : x ≡ f k = e 0 ∙ ap f (let q : k + 0 ≡ k = omega arith in q) in
    ap (λ y. y ∷ xs) h ∙ ap (λ ys. f k ∷ ys) (listed_from xs (suc k) f (λ r. e (suc r) ∙ ap f (let q : k + suc r ≡ suc k + r = omega arith in q)))

-- a list of n numbers is what a function gives for the numbers below n
pub listed : (xs : List ℕ) (n : ℕ) (f : ℕ → ℕ) → length xs ≡ n → ((r : ℕ) → get_or xs r 0 ≡ f r) → xs ≡ map f (numbers_below n)
listed xs n f l e = listed_from xs 0 f (λ r. e r ∙ ap f (let q : r ≡ 0 + r = omega arith in q)) ∙ ap (λ m. map f (count_from 0 m)) l
    ∙ sym (ap (map f) (below_is n))

joined_from : {A B : Type 0} (F : ℕ → List B) (G : A → List B) (xs : List A) (k : ℕ) → ((r : ℕ) (x : A) → slice_get xs r ≡ Some x → F (k + r) ≡ G x) →
    flat_map F (count_from k (length xs)) ≡ flat_map G xs
unfolding count_from
joined_from F G [] k each = refl
joined_from F G (x ∷ xs) k each =
    let h : F k ≡ G x = ap F (let q : k ≡ k + 0 = omega arith in q) ∙ each 0 x refl in
    ap (λ ys. ys ++ flat_map F (count_from (suc k) (length xs))) h
    ∙ ap (λ ys. G x ++ ys) (joined_from F G xs (suc k) (λ r y e. ap F (let q : suc k + r ≡ k + suc r = omega arith in q) ∙ each (suc r) y e))

-- what the elements give, one after another, is what their numbers give
pub joined_by_numbers : {A B : Type 0} (F : ℕ → List B) (G : A → List B) (xs : List A) → ((k : ℕ) (x : A) → slice_get xs k ≡ Some x → F k ≡ G x) →
    flat_map F (numbers_below (length xs)) ≡ flat_map G xs
joined_by_numbers F G xs each =
    ap (flat_map F) (below_is (length xs)) ∙ joined_from F G xs 0 (λ r x e. ap F (let q : 0 + r ≡ r = omega arith in q) ∙ each r x e)

pub joined_filter : {A B : Type 0} (f : A → Bool) (F : A → List B) (xs : List A) → flat_map F (filter f xs) ≡ flat_map (λ x. cond (f x) (F x) []) xs
joined_filter f F [] = refl
joined_filter f F (x ∷ xs) = elim (cases_Bool (f x)) [
  | inl e ↦ ap (λ b. flat_map F (cond b (x ∷ filter f xs) (filter f xs))) e ∙ ap (λ ys. F x ++ ys) (joined_filter f F xs)
      ∙ sym (ap (λ b. cond b (F x) [] ++ flat_map (λ x. cond (f x) (F x) []) xs) e)
  | inr e ↦ ap (λ b. flat_map F (cond b (x ∷ filter f xs) (filter f xs))) e ∙ joined_filter f F xs
      ∙ sym (ap (λ b. cond b (F x) [] ++ flat_map (λ x. cond (f x) (F x) []) xs) e)
]

pub joined_pairwise : {A B C : Type 0} (R : A → B → Type 0) (F : A → List C) (G : B → List C) → ((x : A) (y : B) → R x y → F x ≡ G y) →
    (xs : List A) (ys : List B) → Pairwise R xs ys →
    flat_map F xs ≡ flat_map G ys
joined_pairwise R F G each [] [] a = refl
joined_pairwise R F G each [] (y ∷ ys) a = absurd a
joined_pairwise R F G each (x ∷ xs) [] a = absurd a
joined_pairwise R F G each (x ∷ xs) (y ∷ ys) a = ap (λ zs. zs ++ flat_map F xs) (each x y a.0) ∙ ap (λ zs. G y ++ zs) (joined_pairwise R F G each xs ys a.1)

pub in_joined : {A B : Type 0} (F : A → List B) (xs : List A) (k : ℕ) (x : A) (y : B) → slice_get xs k ≡ Some x → Contains (F x) y → Contains (flat_map F xs) y
in_joined F [] k x y e c = absurd (cc e)
in_joined F (z ∷ xs) zero x y e c = Contains-append_left (F z) (flat_map F xs) y (subst (λ u. Contains (F u) y) (sym (same_Some z x e)) c)
in_joined F (z ∷ xs) (suc k) x y e c = Contains-append_right (F z) (flat_map F xs) y (in_joined F xs k x y e c)

-- sums over two lists, one pair after another
pub sums_le : {A B : Type 0} (f : A → ℕ) (g : B → ℕ) (xs : List A) (ys : List B) → Pairwise (λ x y. f x ≤ g y) xs ys → sum_by f xs ≤ sum_by g ys
sums_le f g [] [] a = omega arith
sums_le f g [] (y ∷ ys) a = absurd a
sums_le f g (x ∷ xs) [] a = absurd a
sums_le f g (x ∷ xs) (y ∷ ys) a =
    let l = sums_le f g xs ys a.1 in let q = a.0 in
    let u = sum_by-cons f x xs in let v = sum_by-cons g y ys in omega arith

pub sums_less : {A B : Type 0} (f : A → ℕ) (g : B → ℕ) (xs : List A) (ys : List B) (k : ℕ) (x : A) (y : B) → Pairwise (λ x y. f x ≤ g y) xs ys →
    slice_get xs k ≡ Some x → slice_get ys k ≡ Some y →
    f x < g y → sum_by f xs + 1 ≤ sum_by g ys
sums_less f g [] ys k x y a e d l = absurd (cc e)
sums_less f g (w ∷ xs) [] k x y a e d l = absurd a
sums_less f g (w ∷ xs) (z ∷ ys) zero x y a e d l =
    let m = sums_le f g xs ys a.1 in
    let q : f w < g z = subst (λ (u : ℕ). u < g z) (sym (ap f (same_Some w x e))) (subst (λ (v : ℕ). f x < v) (sym (ap g (same_Some z y d))) l) in
    let u = sum_by-cons f w xs in let v = sum_by-cons g z ys in omega arith
sums_less f g (w ∷ xs) (z ∷ ys) (suc k) x y a e d l =
    let m = sums_less f g xs ys k x y a.1 e d l in let q = a.0 in
    let u = sum_by-cons f w xs in let v = sum_by-cons g z ys in omega arith

-- lists as long as each other, whose elements at each place fit
pub pairwise_by : {A B : Type 0} (R : A → B → Type 0) (xs : List A) (ys : List B) → length ys ≡ length xs →
    ((k : ℕ) (x : A) (y : B) → slice_get xs k ≡ Some x → slice_get ys k ≡ Some y → R x y) → Pairwise R xs ys
pairwise_by R [] [] l each = tt
pairwise_by R [] (y ∷ ys) l each = absurd (omega arith)
pairwise_by R (x ∷ xs) [] l each = absurd (omega arith)
pairwise_by R (x ∷ xs) (y ∷ ys) l each = (each zero x y refl refl, pairwise_by R xs ys (omega arith) (λ k. each (suc k)))

pub some_at : {A : Type 0} (xs : List A) (k : ℕ) → k < length xs → (x : A) × (slice_get xs k ≡ Some x)
some_at [] k l = absurd (omega arith)
some_at (x ∷ xs) zero l = (x, refl)
some_at (x ∷ xs) (suc k) l = some_at xs k (omega arith)

all_append : {A : Type 0} (P : A → Type 0) (xs ys : List A) → AllByRecursion P xs → AllByRecursion P ys → AllByRecursion P (xs ++ ys)
all_append P [] ys a b = b
all_append P (x ∷ xs) ys a b = (a.0, all_append P xs ys a.1 b)

pub all_below : (P : ℕ → Type 0) (n : ℕ) → ((k : ℕ) → k < n → P k) → AllByRecursion P (numbers_below n)
all_below P zero each = tt
all_below P (suc n) each = all_append P (numbers_below n) (n ∷ []) (all_below P n (λ k l. each k (omega arith))) (each n (omega arith), tt)

pub filter_same : {A : Type 0} (f g : A → Bool) (xs : List A) → AllByRecursion (λ x. f x ≡ g x) xs → filter f xs ≡ filter g xs
filter_same f g [] a = refl
filter_same f g (x ∷ xs) a = ap (λ b. cond b (x ∷ filter f xs) (filter f xs)) a.0 ∙ ap (λ ys. cond (g x) (x ∷ ys) ys) (filter_same f g xs a.1)

pub all_at : {A : Type 0} (P : A → Type 0) (xs : List A) (i : ℕ) (x : A) → AllByRecursion P xs → slice_get xs i ≡ Some x → P x
all_at P [] i x all e = absurd (cc e)
all_at P (y ∷ xs) zero x all e = subst P (same_Some y x e) all.0
all_at P (y ∷ xs) (suc i) x all e = all_at P xs i x all.1 e

-- a loop that writes one element after another: those before k are new, and the rest is as it was
module _ {A : Type 0} (old cur : List A) (k : ℕ) (n d : A) (there : k < length cur) (same : length cur ≡ length old) (rest : drop k cur ≡ drop k old) where
  next_at : (xs : List A) → get_or (drop k xs) 0 d ≡ get_or xs k d
  next_at xs = get_or-drop k xs 0 d ∙ ap (λ j. get_or xs j d) (let q : k + 0 ≡ k = omega arith in q)

  pub next_same : get_or cur k d ≡ get_or old k d
  next_same = sym (next_at cur) ∙ ap (λ xs. get_or xs 0 d) rest ∙ next_at old

  behind_it : (xs : List A) → k < length xs → drop 1 (drop k xs) ≡ drop (k + 1) xs
  behind_it xs l = ap (drop 1) (drop_more xs k d l)

  pub rest_more : drop (k + 1) (set cur k n) ≡ drop (k + 1) old
  rest_more = drop-set-lt (k + 1) cur k n (omega arith) ∙ sym (behind_it cur there) ∙ ap (drop 1) rest ∙ behind_it old (omega arith)

  pub front_more : take (k + 1) (set cur k n) ≡ take k cur ++ n ∷ []
  front_more = take_more_set cur k n there

  pub old_more : take (k + 1) old ≡ take k old ++ get_or cur k d ∷ []
  old_more = take_more old k d (omega arith) ∙ ap (λ x. take k old ++ x ∷ []) (sym next_same)

  pub pairwise_more : (R : A → A → Type 0) → Pairwise R (take k old) (take k cur) → R (get_or cur k d) n →
      Pairwise R (take (k + 1) old) (take (k + 1) (set cur k n))
  pairwise_more R front r =
      subst (λ xs. Pairwise R xs (take (k + 1) (set cur k n))) (sym old_more)
      (subst (λ ys. Pairwise R (take k old ++ get_or cur k d ∷ []) ys) (sym front_more) (pairwise_push R (take k old) (take k cur) (get_or cur k d) n front r))

-- one more at the end
pub at_push : {A : Type 0} (xs : List A) (y : A) (k : ℕ) (x : A) → slice_get (xs ++ y ∷ []) k ≡ Some x → (slice_get xs k ≡ Some x) ⊎ ((k ≡ length xs) × (y ≡ x))
at_push [] y zero x e = inr (refl, same_Some y x e)
at_push [] y (suc k) x e = absurd (cc e)
at_push (z ∷ xs) y zero x e = inl e
at_push (z ∷ xs) y (suc k) x e = elim (at_push xs y k x e) [ inl h ↦ inl h | inr h ↦ inr (ap suc h.0, h.1) ]

-- where something is given
pub asked_somewhere : {A B : Type 0} (F : A → List B) (xs : List A) → ¬ (flat_map F xs ≡ []) → (k : ℕ) × (x : A) × (slice_get xs k ≡ Some x) × (¬ (F x ≡ []))
asked_somewhere F [] some = absurd (some refl)
asked_somewhere F (x ∷ xs) some = elim (empty_or (F x)) [
  | inl none ↦
      let more = asked_somewhere F xs (λ e. some (ap (λ ys. ys ++ flat_map F xs) none ∙ e)) in
      (suc more.0, more.1, more.2, more.3)
  | inr here ↦ (zero, x, refl, here)
]
  where
    empty_or : {B : Type 0} (ys : List B) → (ys ≡ []) ⊎ (¬ (ys ≡ []))
    empty_or [] = inl refl
    empty_or (y ∷ ys) = inr (λ e. cc e)

-- a front as long as the whole
pub front_all : {A : Type 0} (xs ys : List A) (n : ℕ) → length xs ≡ n → take n (xs ++ ys) ≡ xs
front_all [] ys zero e = refl
front_all [] ys (suc n) e = absurd (omega arith)
front_all (x ∷ xs) ys zero e = absurd (omega arith)
front_all (x ∷ xs) ys (suc n) e = ap (λ zs. x ∷ zs) (front_all xs ys n (omega arith))
