-- Lists of names: of objects one after another, and of slots whose bit is set.
use Rattle.std.proofs.Common.{◌≡◌, ℕ, zero, suc, ◌+◌, ◌*◌, ◌≤◌, ◌<◌, ◌==◌, cond, Bool, true, List, [], ◌∷◌, length, map, get_or, AllPairs, refl, sym, ap, ◌∙◌, subst, inl, inr, arith}
use Rattle.std.proofs.lemmas.Bool.{cases_Bool, cases_eq, cond-true, cond-false, eq-eqb, ne_eqb}
use Rattle.std.proofs.lemmas.Nat.Bits.{bit_at-lt}
use Rattle.std.proofs.lemmas.List.Sums.{sum_by-cons}
use Rattle.std.specs.List.{Contains, sum_by}
use Rattle.std.specs.Int.{bit_at}
use Rattle.sg_words.specs.Lists.{In}
use Rattle.sg_words.specs.Reach.{AreDistinct}
use Rattle.sg_words.proofs.Members.{has-cases, in-here, in-there, fresh-out}
use Rattle.sg_space.specs.declared.objects.Object.{Object}
use Rattle.sg_sections.specs.Parts.{bits_below, words_together}

-- the names of the numbers below n whose test holds
pub pick : (ℕ → ℕ) → (ℕ → Bool) → ℕ → List ℕ
pick f test zero = []
pick f test (suc n) = cond (test n) (f n ∷ pick f test n) (pick f test n)

pub in_pick : (f : ℕ → ℕ) (test : ℕ → Bool) (n i : ℕ) → i < n → test i ≡ true → In (f i) (pick f test n)
unfolding pick
in_pick f test zero i l e = absurd (omega arith)
in_pick f test (suc n) i l e = elim (cases_eq i n) [
  | inl q ↦ subst (λ (z : List ℕ). In (f i) z) (sym (cond-true (test n) (f n ∷ pick f test n) (pick f test n) (ap test (sym q) ∙ e))) (in-here (f i) (f n) (pick f test n) (ap f q))
  | inr d ↦ (let more = in_pick f test n i (omega arith) e in elim (cases_Bool (test n)) [
    | inl t ↦ subst (λ (z : List ℕ). In (f i) z) (sym (cond-true (test n) (f n ∷ pick f test n) (pick f test n) t)) (in-there (f i) (f n) (pick f test n) more)
    | inr t ↦ subst (λ (z : List ℕ). In (f i) z) (sym (cond-false (test n) (f n ∷ pick f test n) (pick f test n) t)) more
  ])
]

pub pick_in : (f : ℕ → ℕ) (test : ℕ → Bool) (n x : ℕ) → In x (pick f test n) → (i : ℕ) × (i < n) × (test i ≡ true) × (x ≡ f i)
unfolding pick
pick_in f test zero x h = absurd (let z = h in cc)
pick_in f test (suc n) x h = elim (cases_Bool (test n)) [
  | inl t ↦ elim (has-cases x (f n) (pick f test n) (subst (λ (z : List ℕ). In x z) (cond-true (test n) (f n ∷ pick f test n) (pick f test n) t) h)) [
    | inl e ↦ (n, omega arith, t, e)
    | inr i ↦ (let q = pick_in f test n x i in let l = q.1 in (q.0, omega arith, q.2, q.3))
  ]
  | inr t ↦ (let q = pick_in f test n x (subst (λ (z : List ℕ). In x z) (cond-false (test n) (f n ∷ pick f test n) (pick f test n) t) h) in let l = q.1 in (q.0, omega arith, q.2, q.3))
]

pub pick_distinct : (f : ℕ → ℕ) (test : ℕ → Bool) (n : ℕ) → ((i k : ℕ) → i < n → k < n → test i ≡ true → test k ≡ true → f i ≡ f k → i ≡ k) → AreDistinct (pick f test n)
unfolding pick
pick_distinct f test zero one = tt
pick_distinct f test (suc n) one =
    let less = pick_distinct f test n (λ i k l u. one i k (omega arith) (omega arith)) in
    elim (cases_Bool (test n)) [
      | inl t ↦ subst AreDistinct (sym (cond-true (test n) (f n ∷ pick f test n) (pick f test n) t))
          (fresh-out (f n) (pick f test n) (λ i. (let q = pick_in f test n (f n) i in let l = q.1 in let e = one n q.0 (omega arith) (omega arith) t q.2 q.3 in omega arith)), less)
      | inr t ↦ subst AreDistinct (sym (cond-false (test n) (f n ∷ pick f test n) (pick f test n) t)) less
    ]

abbrev pub has_bit : ℕ → ℕ → Bool
has_bit m i = bit_at m i == 1

pub pick_bits : (f : ℕ → ℕ) (m n : ℕ) → length (pick f (has_bit m) n) ≡ bits_below m n
unfolding pick bits_below
pick_bits f m zero = refl
pick_bits f m (suc n) =
    let less = pick_bits f m n in
    let one = bit_at-lt m n in
    elim (cases_eq (bit_at m n) 1) [
      | inl e ↦ ap length (cond-true (has_bit m n) (f n ∷ pick f (has_bit m) n) (pick f (has_bit m) n) (eq-eqb (bit_at m n) 1 e)) ∙ (let s : suc (length (pick f (has_bit m) n)) ≡ bits_below m n + bit_at m n = omega arith in s)
      | inr d ↦ ap length (cond-false (has_bit m n) (f n ∷ pick f (has_bit m) n) (pick f (has_bit m) n) (ne_eqb (bit_at m n) 1 d)) ∙ (let s : length (pick f (has_bit m) n) ≡ bits_below m n + bit_at m n = omega arith in s)
    ]

-- the names of objects
pub in_names : (f : Object → ℕ) (os : List Object) (o : Object) → Contains os o → In (f o) (map f os)
in_names f [] o (k, l, e) = absurd (omega arith)
in_names f (q ∷ os) o (zero, l, e) = in-here (f o) (f q) (map f os) (ap f (sym e))
in_names f (q ∷ os) o (suc k, l, e) = in-there (f o) (f q) (map f os) (in_names f os o (k, (let u = l in omega arith), e))

pub names_in : (f : Object → ℕ) (os : List Object) (x : ℕ) → In x (map f os) → (o : Object) × Contains os o × (x ≡ f o)
names_in f [] x h = absurd (let z = h in cc)
names_in f (q ∷ os) x h = elim (has-cases x (f q) (map f os) h) [
  | inl e ↦ (q, (zero, omega arith, refl), e)
  | inr i ↦ (let r = names_in f os x i in (r.0, (suc r.1.0, (let l = r.1.1 in omega arith), r.1.2), r.2))
]

-- objects at rising addresses have different names, where each stands at its name's address
pub names_distinct : (f : Object → ℕ) (address : ℕ → ℕ) (os : List Object) → ((o : Object) → Contains os o → o.at ≡ address (f o)) →
    AllPairs (λ (j k : Object). j.at < k.at) os → AreDistinct (map f os)
names_distinct f address [] at rising = tt
names_distinct f address (o ∷ os) at rising = (
  fresh-out (f o) (map f os) (λ i.
      let q = names_in f os (f o) i in
      let k = q.1.0 in
      let l = q.1.1 in
      let up = rising 0 (suc k) q.0 (omega arith) (omega arith) in
      let there : (get_or os k q.0).at ≡ q.0.at = ap (λ (z : Object). z.at) q.1.2 in
      let first = at o (zero, omega arith, refl) in
      let second = at q.0 (suc k, (omega arith), q.1.2) in
      let same = ap address q.2 in
      omega arith),
  names_distinct f address os (λ q i. at q (suc i.0, (let l = i.1 in omega arith), i.2)) (λ j k d l u. rising (suc j) (suc k) d (omega arith) (omega arith)),
)

-- the words of the objects are those of their names
pub words_named : (f : Object → ℕ) (words : ℕ → ℕ) (os : List Object) → ((o : Object) → Contains os o → o.words ≡ words (f o)) → words_together os ≡ sum_by words (map f os)
words_named f words [] same = refl
words_named f words (o ∷ os) same =
    let here = same o (zero, omega arith, refl) in
    let more = words_named f words os (λ q i. same q (suc i.0, (let l = i.1 in omega arith), i.2)) in
    let first = sum_by-cons (λ (z : Object). z.words) o os in
    let second = sum_by-cons words (f o) (map f os) in
    omega arith

later : (o q : Object) (os : List Object) → Contains os q → Contains (o ∷ os) q
later o q os h = (suc h.0, let l = h.1 in omega arith, h.2)

-- objects that stand apart between two words have no more words than lie there
pub spread : (os : List Object) (low high : ℕ) → low ≤ high → ((o : Object) → Contains os o → (0 < o.words) × (8 * low ≤ o.at) × (o.at + 8 * o.words ≤ 8 * high)) →
    AllPairs (λ (j k : Object). j.at + 8 * j.words ≤ k.at) os → (low + words_together os ≤ high) × (length os ≤ words_together os)
spread [] low high order each apart = (omega arith, omega arith)
spread (o ∷ os) low high order each apart =
    let here = each o (zero, omega arith, refl) in
    let some = here.0 in
    let from = here.1 in
    let to = here.2 in
    let first = sum_by-cons (λ (z : Object). z.words) o os in
    let more = spread os (low + o.words) high (omega arith)
    (λ q i.
    let e = each q (later o q os i) in
    let behind = apart 0 (suc i.0) q (omega arith) (let l = i.1 in omega arith) in
    let at : (get_or os i.0 q).at ≡ q.at = ap (λ (z : Object). z.at) i.2 in
    (e.0, omega arith, e.2))
    (λ j k d l u. apart (suc j) (suc k) d (omega arith) (omega arith)) in
    let all = more.0 in
    let many = more.1 in
    (omega arith, omega arith)
