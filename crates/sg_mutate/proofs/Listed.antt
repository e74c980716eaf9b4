-- The actors of an epoch by number, and which of them have left by bits.
use Rattle.std.proofs.Common.{◌≡◌, ◌≢◌, ℕ, zero, suc, ◌+◌, ◌-◌, ◌*◌, ◌%◌, ◌^◌, ◌<◌, ◌≤◌, ◌⊎◌, Bool, true, false, Some, List, [], ◌∷◌, ◌++◌, length, filter}
use Rattle.std.proofs.Common.{slice_get, inl, inr, refl, ap, sym, ◌∙◌, subst, arith}
use Rattle.std.specs.Int.{bit_at, w32}
use Rattle.std.specs.Int.Bits.{bit_or}
use Rattle.std.specs.List.{Contains}
use Rattle.std.proofs.lemmas.Bool.{cases_eq, cases_lt, cases_Bool, cond-true, cond-false}
use Rattle.std.proofs.lemmas.List.{append-nil}
use Rattle.std.proofs.lemmas.List.Elements.{filter-append}
use Rattle.std.proofs.lemmas.Option.{slice_get-get_or}
use Rattle.std.proofs.lemmas.Nat.{or_lt, one_shl, pow_pos}
use Rattle.std.proofs.Math.Pow.{pow-lt}
use Rattle.std.proofs.lemmas.Nat.Bits.{bit_at_ones, bit_at_above, same_from_bits_below, bit_at_set_same, bit_at_set_other}
use Rattle.sg_words.specs.Schedule.{Schedule, Gives}
use Rattle.sg_words.specs.Schedule.Gives.{Listed, Spent, Rotates}
use Rattle.sg_cells.specs.Ended.{HasEnded, SomeIsLeft}
use Rattle.sg_graph.specs.Epoch.{numbers_below}

-- an item of a list with one more at its end
get_push : (xs : List ℕ) (y i x : ℕ) → slice_get (xs ++ y ∷ []) i ≡ Some x → (slice_get xs i ≡ Some x) ⊎ ((i ≡ length xs) × (x ≡ y))
get_push [] y zero x e = inr (refl, cc)
get_push [] y (suc i) x e = cc
get_push (z ∷ xs) y zero x e = inl e
get_push (z ∷ xs) y (suc i) x e = elim (get_push xs y i x e) [ inl h ↦ inl h | inr h ↦ inr (ap suc h.0, h.1) ]

get_left : (xs : List ℕ) (y i x : ℕ) → slice_get xs i ≡ Some x → slice_get (xs ++ y ∷ []) i ≡ Some x
get_left [] y i x e = cc
get_left (z ∷ xs) y zero x e = e
get_left (z ∷ xs) y (suc i) x e = get_left xs y i x e

get_last : (xs : List ℕ) (y : ℕ) → slice_get (xs ++ y ∷ []) (length xs) ≡ Some y
get_last [] y = refl
get_last (z ∷ xs) y = get_last xs y

pub contains_at : (xs : List ℕ) (x : ℕ) → Contains xs x → (i : ℕ) × (slice_get xs i ≡ Some x)
contains_at xs x c = (c.0, slice_get-get_or xs c.0 x c.1 ∙ ap Some c.2)

module _ (P : ℕ → Bool) where
  abbrev those : ℕ → List ℕ
  those n = filter P (numbers_below n)

  pub those_more : (n : ℕ) → P n ≡ true → those (suc n) ≡ those n ++ n ∷ []
  those_more n e = filter-append P (numbers_below n) (n ∷ []) ∙ ap (λ ks. those n ++ ks) (cond-true (P n) (n ∷ []) [] e)

  pub those_same : (n : ℕ) → P n ≡ false → those (suc n) ≡ those n
  those_same n e = filter-append P (numbers_below n) (n ∷ []) ∙ ap (λ ks. those n ++ ks) (cond-false (P n) (n ∷ []) [] e) ∙ append-nil (those n)

  pub those_below : (n i k : ℕ) → slice_get (those n) i ≡ Some k → (k < n) × (P k ≡ true)
  those_below zero i k e = cc
  those_below (suc n) i k e = elim (cases_Bool (P n)) [
    | inl t ↦ elim (get_push (those n) n i k (subst (λ ks. slice_get ks i ≡ Some k) (those_more n t) e)) [
      | inl h ↦ let l = those_below n i k h in let m = l.0 in (omega arith, l.1)
      | inr h ↦ let z = h.1 in (omega arith, ap P z ∙ t)
    ]
    | inr f ↦ let l = those_below n i k (subst (λ ks. slice_get ks i ≡ Some k) (those_same n f) e) in let m = l.0 in (omega arith, l.1)
  ]

  pub those_distinct : (n i j k : ℕ) → slice_get (those n) i ≡ Some k → slice_get (those n) j ≡ Some k → i ≡ j
  those_distinct zero i j k e f = cc
  those_distinct (suc n) i j k e f = elim (cases_Bool (P n)) [
    | inl t ↦
        elim (get_push (those n) n i k (subst (λ ks. slice_get ks i ≡ Some k) (those_more n t) e)) [
          | inl g ↦ elim (get_push (those n) n j k (subst (λ ks. slice_get ks j ≡ Some k) (those_more n t) f)) [
            | inl h ↦ those_distinct n i j k g h
            | inr h ↦ let l = (those_below n i k g).0 in let z = h.1 in absurd (omega arith)
          ]
          | inr g ↦ elim (get_push (those n) n j k (subst (λ ks. slice_get ks j ≡ Some k) (those_more n t) f)) [
            | inl h ↦ let l = (those_below n j k h).0 in let z = g.1 in absurd (omega arith)
            | inr h ↦ g.0 ∙ sym h.0
          ]
        ]
    | inr o ↦ those_distinct n i j k (subst (λ ks. slice_get ks i ≡ Some k) (those_same n o) e) (subst (λ ks. slice_get ks j ≡ Some k) (those_same n o) f)
  ]

  pub those_have : (n k : ℕ) → k < n → P k ≡ true → (i : ℕ) × (slice_get (those n) i ≡ Some k)
  those_have zero k l e = absurd (omega arith)
  those_have (suc n) k l e = elim (cases_eq k n) [
    | inl z ↦ (
      length (those n),
      subst (λ ks. slice_get ks (length (those n)) ≡ Some k) (sym (those_more n (ap P (sym z) ∙ e)))
          (get_last (those n) n ∙ ap Some (sym z)),
    )
    | inr o ↦
        let h = those_have n k (omega (arith, o)) e in
        elim (cases_Bool (P n)) [
          | inl t ↦ (h.0, subst (λ ks. slice_get ks h.0 ≡ Some k) (sym (those_more n t)) (get_left (those n) n h.0 k h.1))
          | inr f ↦ (h.0, subst (λ ks. slice_get ks h.0 ≡ Some k) (sym (those_same n f)) h.1)
        ]
  ]

-- two tests that agree below n
pub those_agree : (P Q : ℕ → Bool) (n : ℕ) → ((k : ℕ) → k < n → P k ≡ Q k) → filter P (numbers_below n) ≡ filter Q (numbers_below n)
those_agree P Q zero h = refl
those_agree P Q (suc n) h =
    let on = those_agree P Q n (λ k l. h k (omega arith)) in
    elim (cases_Bool (P n)) [
      | inl t ↦ those_more P n t ∙ ap (λ ks. ks ++ n ∷ []) on ∙ sym (those_more Q n (sym (h n (omega arith)) ∙ t))
      | inr f ↦ those_same P n f ∙ on ∙ sym (those_same Q n (sym (h n (omega arith)) ∙ f))
    ]

-- of so many actors either some hasn't left, or all have
search : (c n : ℕ) → SomeIsLeft c n ⊎ ((i : ℕ) → i < c → HasEnded n i)
search zero n = inr (λ i l. absurd (omega arith))
search (suc c) n = elim (search c n) [
  | inl h ↦ inl (h.0, let l = h.1 in omega arith, h.2)
  | inr h ↦ elim (cases_eq (bit_at n c) 1) [
    | inl e ↦ inr (λ i l. elim (cases_eq i c) [ inl z ↦ ap (bit_at n) z ∙ e | inr o ↦ h i (omega (arith, o)) ])
    | inr o ↦ inl (c, omega arith, o)
  ]
]

pub some_left : (c n : ℕ) → n < 2 ^ c → n ≢ 2 ^ c - 1 → SomeIsLeft c n
some_left c n l o = elim (search c n) [
  | inl h ↦ h
  | inr h ↦
      let some = pow_pos c in
      absurd (o (same_from_bits_below c n (2 ^ c - 1) l (omega arith) (λ i below. h i below ∙ sym (bit_at_ones c i below))))
]

pub all_left : (c n i : ℕ) → n ≡ 2 ^ c - 1 → i < c → HasEnded n i
all_left c n i e l = ap (λ m. bit_at m i) e ∙ bit_at_ones c i l

-- one more has left
abbrev pub marked : ℕ → ℕ → ℕ
marked n i = bit_or n (1 * 2 ^ i % 2 ^ 32)

pub marked_fits : (c n i : ℕ) → n < 2 ^ c → i < c → c ≤ 16 → marked n i < 2 ^ c
marked_fits c n i l below few = or_lt c n (1 * 2 ^ i % 2 ^ 32) l (let e = one_shl i 32 (omega arith) in let q : 2 ^ i < 2 ^ c = pow-lt below in omega arith)

pub marked_same : (n i : ℕ) → i < 32 → HasEnded (marked n i) i
marked_same n i l = bit_at_set_same w32 n i l

pub marked_other : (n i j : ℕ) → i < 32 → j ≢ i → bit_at (marked n i) j ≡ bit_at n j
marked_other n i j l o = bit_at_set_other w32 n i l j o

pub no_bit : (x : ℕ) → x ≡ 1 → x ≡ 0 → ⊥
no_bit x e f = omega arith

pub none_above : (c n i : ℕ) → n < 2 ^ c → HasEnded n i → i < c
none_above c n i l e = elim (cases_lt i c) [
  | inl below ↦ below
  | inr above ↦ absurd (no_bit (bit_at n i) e (bit_at_above n c i l above))
]

-- who has left by one test has left by the other
module _ (c : ℕ) (P Q : ℕ → Type 0) (there : (i : ℕ) → P i → Q i) (back : (i : ℕ) → Q i → P i) where
  pub gives_as : (s : Schedule) (i : ℕ) (t : Schedule) → Gives c P s i t → Gives c Q s i t
  gives_as _ _ _ (Listed n rest next going) = Listed n rest next (λ q. going (back (n % c) q))
  gives_as _ _ _ (Spent n rest next k t ended more) = Spent n rest next k t (there (n % c) ended) (gives_as _ k t more)
  gives_as _ _ _ (Rotates next k first) = Rotates next k (record {
    steps = first.steps;
    few = first.few;
    is = first.is;
    going = λ q. first.going (back k q);
    passed = λ i l. there ((next + i) % c) (first.passed i l);
  })
