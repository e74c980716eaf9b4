-- Lists of names: of objects one after another, and of slots whose test holds.
use Rattle.std.proofs.Common.{◌≡◌, ℕ, zero, suc, ◌+◌, ◌≤◌, ◌<◌, ◌==◌, ◌&&◌, cond, Bool, true, false, not, List, [], ◌∷◌, ◌++◌, length, map, get_or, AllPairs, refl, sym, ap, ◌∙◌, subst, inl, inr, arith}
use Rattle.std.proofs.lemmas.Bool.{cases_Bool, cases_eq, cond-true, cond-false, eq-eqb, ne_eqb}
use Rattle.std.proofs.lemmas.List.{length-append}
use Rattle.std.proofs.lemmas.Nat.Bits.{bit_at-lt}
use Rattle.std.specs.List.{Contains}
use Rattle.std.specs.Int.{bit_at}
use Rattle.sg_words.specs.Lists.{In}
use Rattle.sg_words.specs.Reach.{AreDistinct, IsFreshIn}
use Rattle.sg_words.proofs.Members.{has-cases, in-here, in-there, in-left, in-right, in-cases, fresh-out}
use Rattle.sg_space.specs.declared.objects.Object.{Object}
use Rattle.sg_nursery.specs.Pieces.{first_word, word_behind}
use Rattle.sg_major.specs.Parts.{bits_below, bits_in}

-- two lists of different names that have none in common
pub distinct_both : (xs ys : List ℕ) → AreDistinct xs → AreDistinct ys → ((x : ℕ) → In x xs → In x ys → ⊥) → AreDistinct (xs ++ ys)
distinct_both [] ys d e none = e
distinct_both (x ∷ xs) ys d e none = (
  fresh-out x (xs ++ ys) (λ i. elim (in-cases x xs ys i) [
    | inl j ↦ fresh_not x xs d.0 j
    | inr j ↦ none x (in-here x x xs refl) j
  ]),
  distinct_both xs ys d.1 e (λ z i j. none z (in-there z x xs i) j),
)
  where
    fresh_not : (x : ℕ) (xs : List ℕ) → IsFreshIn x xs → In x xs → ⊥
    fresh_not x [] f i = let z = i in cc
    fresh_not x (y ∷ xs) f i = elim (has-cases x y xs i) [ inl e ↦ f.0 e | inr j ↦ fresh_not x xs f.1 j ]

-- the names of the numbers below n whose test holds
pub pick : (ℕ → ℕ) → (ℕ → Bool) → ℕ → List ℕ
pick f test zero = []
pick f test (suc n) = cond (test n) (f n ∷ pick f test n) (pick f test n)

pub in_pick : (f : ℕ → ℕ) (test : ℕ → Bool) (n i : ℕ) → i < n → test i ≡ true → In (f i) (pick f test n)
unfolding pick
in_pick f test zero i l e = absurd (omega arith)
in_pick f test (suc n) i l e = elim (cases_eq i n) [
  | inl q ↦ subst (λ (z : List ℕ). In (f i) z) (sym (cond-true (test n) (f n ∷ pick f test n) (pick f test n) (ap test (sym q) ∙ e))) (in-here (f i) (f n) (pick f test n) (ap f q))
  | inr d ↦ (let more = in_pick f test n i (omega arith) e in elim (cases_Bool (test n)) [
    | inl t ↦ subst (λ (z : List ℕ). In (f i) z) (sym (cond-true (test n) (f n ∷ pick f test n) (pick f test n) t)) (in-there (f i) (f n) (pick f test n) more)
    | inr t ↦ subst (λ (z : List ℕ). In (f i) z) (sym (cond-false (test n) (f n ∷ pick f test n) (pick f test n) t)) more
  ])
]

pub pick_in : (f : ℕ → ℕ) (test : ℕ → Bool) (n x : ℕ) → In x (pick f test n) → (i : ℕ) × (i < n) × (test i ≡ true) × (x ≡ f i)
unfolding pick
pick_in f test zero x h = absurd (let z = h in cc)
pick_in f test (suc n) x h = elim (cases_Bool (test n)) [
  | inl t ↦ elim (has-cases x (f n) (pick f test n) (subst (λ (z : List ℕ). In x z) (cond-true (test n) (f n ∷ pick f test n) (pick f test n) t) h)) [
    | inl e ↦ (n, omega arith, t, e)
    | inr i ↦ (let q = pick_in f test n x i in let l = q.1 in (q.0, omega arith, q.2, q.3))
  ]
  | inr t ↦ (let q = pick_in f test n x (subst (λ (z : List ℕ). In x z) (cond-false (test n) (f n ∷ pick f test n) (pick f test n) t) h) in let l = q.1 in (q.0, omega arith, q.2, q.3))
]

pub pick_distinct : (f : ℕ → ℕ) (test : ℕ → Bool) (n : ℕ) → ((i k : ℕ) → i < n → k < n → test i ≡ true → test k ≡ true → f i ≡ f k → i ≡ k) → AreDistinct (pick f test n)
unfolding pick
pick_distinct f test zero one = tt
pick_distinct f test (suc n) one =
    let less = pick_distinct f test n (λ i k l u. one i k (omega arith) (omega arith)) in
    elim (cases_Bool (test n)) [
      | inl t ↦ subst AreDistinct (sym (cond-true (test n) (f n ∷ pick f test n) (pick f test n) t))
          (fresh-out (f n) (pick f test n) (λ i. (let q = pick_in f test n (f n) i in let l = q.1 in let e = one n q.0 (omega arith) (omega arith) t q.2 q.3 in omega arith)), less)
      | inr t ↦ subst AreDistinct (sym (cond-false (test n) (f n ∷ pick f test n) (pick f test n) t)) less
    ]

abbrev pub has_bit : ℕ → ℕ → Bool
has_bit m i = bit_at m i == 1

pub pick_bits : (f : ℕ → ℕ) (m n : ℕ) → length (pick f (has_bit m) n) ≡ bits_below m n
unfolding pick bits_below
pick_bits f m zero = refl
pick_bits f m (suc n) =
    let less = pick_bits f m n in
    let one = bit_at-lt m n in
    elim (cases_eq (bit_at m n) 1) [
      | inl e ↦ ap length (cond-true (has_bit m n) (f n ∷ pick f (has_bit m) n) (pick f (has_bit m) n) (eq-eqb (bit_at m n) 1 e)) ∙ (let s : suc (length (pick f (has_bit m) n)) ≡ bits_below m n + bit_at m n = omega arith in s)
      | inr d ↦ ap length (cond-false (has_bit m n) (f n ∷ pick f (has_bit m) n) (pick f (has_bit m) n) (ne_eqb (bit_at m n) 1 d)) ∙ (let s : length (pick f (has_bit m) n) ≡ bits_below m n + bit_at m n = omega arith in s)
    ]

-- how many names a test gives
step_yes : (f : ℕ → ℕ) (test : ℕ → Bool) (n : ℕ) → test n ≡ true → length (pick f test (suc n)) ≡ length (pick f test n) + 1
unfolding pick
step_yes f test n t = ap length (cond-true (test n) (f n ∷ pick f test n) (pick f test n) t) ∙ (let s : suc (length (pick f test n)) ≡ length (pick f test n) + 1 = omega arith in s)

step_no : (f : ℕ → ℕ) (test : ℕ → Bool) (n : ℕ) → test n ≡ false → length (pick f test (suc n)) ≡ length (pick f test n)
unfolding pick
step_no f test n t = ap length (cond-false (test n) (f n ∷ pick f test n) (pick f test n) t)

none_picked : (f : ℕ → ℕ) (test : ℕ → Bool) → length (pick f test 0) ≡ 0
unfolding pick
none_picked f test = refl

-- where one test holds only where another does, the rest is where it alone doesn't
pub pick_rest : (f : ℕ → ℕ) (all some : ℕ → Bool) (n : ℕ) → ((i : ℕ) → some i ≡ true → all i ≡ true) →
    length (pick f all n) ≡ length (pick f some n) + length (pick f (λ i. all i && not (some i)) n)
pick_rest f all some zero among = (let a = none_picked f all in let s = none_picked f some in let r = none_picked f (λ i. all i && not (some i)) in omega arith)
pick_rest f all some (suc n) among =
    let less = pick_rest f all some n among in
    elim (cases_Bool (some n)) [
      | inl s ↦
          (let t = among n s in
          let both : (all n && not (some n)) ≡ false = ap (λ z. z && not (some n)) t ∙ ap not s in
          let a = step_yes f all n t in
          let d = step_yes f some n s in
          let r = step_no f (λ i. all i && not (some i)) n both in
          omega arith)
      | inr s ↦ elim (cases_Bool (all n)) [
        | inl t ↦
            (let both : (all n && not (some n)) ≡ true = ap (λ z. z && not (some n)) t ∙ ap not s in
            let a = step_yes f all n t in
            let d = step_no f some n s in
            let r = step_yes f (λ i. all i && not (some i)) n both in
            omega arith)
        | inr t ↦
            (let both : (all n && not (some n)) ≡ false = ap (λ z. z && not (some n)) t in
            let a = step_no f all n t in
            let d = step_no f some n s in
            let r = step_no f (λ i. all i && not (some i)) n both in
            omega arith)
      ]
    ]

-- the names of the slots of the first n blocks whose test holds
pub picks : (ℕ → ℕ → ℕ) → (ℕ → ℕ → Bool) → ℕ → List ℕ
picks f test zero = []
picks f test (suc n) = pick (f n) (test n) 64 ++ picks f test n

pub in_picks : (f : ℕ → ℕ → ℕ) (test : ℕ → ℕ → Bool) (n j i : ℕ) → j < n → i < 64 → test j i ≡ true → In (f j i) (picks f test n)
unfolding picks
in_picks f test zero j i l u e = absurd (omega arith)
in_picks f test (suc n) j i l u e = elim (cases_eq j n) [
  | inl q ↦ in-left (f j i) (pick (f n) (test n) 64) (picks f test n) (subst (λ k. In (f k i) (pick (f n) (test n) 64)) (sym q) (in_pick (f n) (test n) 64 i u (ap (λ k. test k i) (sym q) ∙ e)))
  | inr d ↦ in-right (f j i) (pick (f n) (test n) 64) (picks f test n) (in_picks f test n j i (omega arith) u e)
]

pub picks_in : (f : ℕ → ℕ → ℕ) (test : ℕ → ℕ → Bool) (n x : ℕ) → In x (picks f test n) → (j i : ℕ) × (j < n) × (i < 64) × (test j i ≡ true) × (x ≡ f j i)
unfolding picks
picks_in f test zero x h = absurd (let z = h in cc)
picks_in f test (suc n) x h = elim (in-cases x (pick (f n) (test n) 64) (picks f test n) h) [
  | inl i ↦ (let q = pick_in (f n) (test n) 64 x i in (n, q.0, omega arith, q.1, q.2, q.3))
  | inr i ↦ (let q = picks_in f test n x i in let l = q.2 in (q.0, q.1, omega arith, q.3, q.4, q.5))
]

pub picks_distinct : (f : ℕ → ℕ → ℕ) (test : ℕ → ℕ → Bool) (n : ℕ) →
    ((j i k l : ℕ) → j < n → k < n → i < 64 → l < 64 → test j i ≡ true → test k l ≡ true → f j i ≡ f k l → (j ≡ k) × (i ≡ l)) → AreDistinct (picks f test n)
unfolding picks
picks_distinct f test zero one = tt
picks_distinct f test (suc n) one = distinct_both (pick (f n) (test n) 64) (picks f test n)
    (pick_distinct (f n) (test n) 64 (λ i k l u t q e. (one n i n k (omega arith) (omega arith) l u t q e).1))
    (picks_distinct f test n (λ j i k l a d. one j i k l (omega arith) (omega arith)))
    (λ x h i.
    let a = pick_in (f n) (test n) 64 x h in
    let d = picks_in f test n x i in
    let l = d.2 in
    let e = (one n a.0 d.0 d.1 (omega arith) (omega arith) a.1 d.3 a.2 d.4 (sym a.3 ∙ d.5)).0 in
    omega arith)

pub picks_bits : (f : ℕ → ℕ → ℕ) (masks : ℕ → ℕ) (n : ℕ) → length (picks f (λ j. has_bit (masks j)) n) ≡ bits_in masks n
unfolding picks bits_in
picks_bits f masks zero = refl
picks_bits f masks (suc n) =
    length-append (pick (f n) (has_bit (masks n)) 64) (picks f (λ j. has_bit (masks j)) n)
    ∙ (let a = pick_bits (f n) (masks n) 64 in let d = picks_bits f masks n in omega arith)

pub picks_rest : (f : ℕ → ℕ → ℕ) (all some : ℕ → ℕ → Bool) (n : ℕ) → ((j i : ℕ) → some j i ≡ true → all j i ≡ true) →
    length (picks f all n) ≡ length (picks f some n) + length (picks f (λ j i. all j i && not (some j i)) n)
unfolding picks
picks_rest f all some zero among = refl
picks_rest f all some (suc n) among =
    let here = pick_rest (f n) (all n) (some n) 64 (among n) in
    let less = picks_rest f all some n among in
    let a = length-append (pick (f n) (all n) 64) (picks f all n) in
    let d = length-append (pick (f n) (some n) 64) (picks f some n) in
    let r = length-append (pick (f n) (λ i. all n i && not (some n i)) 64) (picks f (λ j i. all j i && not (some j i)) n) in
    omega arith

-- how many there are doesn't hang on the names
pick_any : (f h : ℕ → ℕ) (test : ℕ → Bool) (n : ℕ) → length (pick f test n) ≡ length (pick h test n)
pick_any f h test zero = none_picked f test ∙ sym (none_picked h test)
pick_any f h test (suc n) =
    let less = pick_any f h test n in
    elim (cases_Bool (test n)) [
      | inl t ↦ (let a = step_yes f test n t in let d = step_yes h test n t in omega arith)
      | inr t ↦ (let a = step_no f test n t in let d = step_no h test n t in omega arith)
    ]

pub picks_any : (f h : ℕ → ℕ → ℕ) (test : ℕ → ℕ → Bool) (n : ℕ) → length (picks f test n) ≡ length (picks h test n)
unfolding picks
picks_any f h test zero = refl
picks_any f h test (suc n) =
    let here = pick_any (f n) (h n) (test n) 64 in
    let less = picks_any f h test n in
    let a = length-append (pick (f n) (test n) 64) (picks f test n) in
    let d = length-append (pick (h n) (test n) 64) (picks h test n) in
    omega arith

-- the names of objects
pub in_names : (f : Object → ℕ) (os : List Object) (o : Object) → Contains os o → In (f o) (map f os)
in_names f [] o (k, l, e) = absurd (omega arith)
in_names f (q ∷ os) o (zero, l, e) = in-here (f o) (f q) (map f os) (ap f (sym e))
in_names f (q ∷ os) o (suc k, l, e) = in-there (f o) (f q) (map f os) (in_names f os o (k, (let u = l in omega arith), e))

pub names_in : (f : Object → ℕ) (os : List Object) (x : ℕ) → In x (map f os) → (o : Object) × Contains os o × (x ≡ f o)
names_in f [] x h = absurd (let z = h in cc)
names_in f (q ∷ os) x h = elim (has-cases x (f q) (map f os) h) [
  | inl e ↦ (q, (zero, omega arith, refl), e)
  | inr i ↦ (let r = names_in f os x i in (r.0, (suc r.1.0, (let l = r.1.1 in omega arith), r.1.2), r.2))
]

-- objects that stand apart have different names, where each stands at its name's address
pub names_distinct : (f : Object → ℕ) (address : ℕ → ℕ) (os : List Object) → ((o : Object) → Contains os o → (0 < o.words) × (first_word o ≡ address (f o))) →
    AllPairs (λ (j k : Object). word_behind j ≤ first_word k) os → AreDistinct (map f os)
names_distinct f address [] at apart = tt
names_distinct f address (o ∷ os) at apart = (
  fresh-out (f o) (map f os) (λ i.
      let q = names_in f os (f o) i in
      let k = q.1.0 in
      let l = q.1.1 in
      let up = apart 0 (suc k) q.0 (omega arith) (omega arith) in
      let there : first_word (get_or os k q.0) ≡ first_word q.0 = ap first_word q.1.2 in
      let here = at o (zero, omega arith, refl) in
      let some = here.0 in
      let first = here.1 in
      let second = (at q.0 (suc k, (omega arith), q.1.2)).1 in
      let same = ap address q.2 in
      omega arith),
  names_distinct f address os (λ q i. at q (suc i.0, (let l = i.1 in omega arith), i.2)) (λ j k d l u. apart (suc j) (suc k) d (omega arith) (omega arith)),
)
