-- Where a word leads, where moved objects stand, and the strong slots of an object.
use Rattle.std.proofs.Common.{◌≡◌, ℕ, zero, suc, ◌+◌, ◌-◌, ◌≤◌, ◌<◌, eqb, Bool, true, false, List, [], ◌∷◌, ◌++◌, length, sym, refl, ap, ◌∙◌, subst, inl, inr, arith, zero-le}
use Rattle.std.proofs.lemmas.Bool.{cond-true, cond-false, cases_eq, cases_Bool, eq-eqb, ne_eqb}
use Rattle.sg_words.specs.Address.{byte_at, word_at}
use Rattle.sg_words.specs.Lists.{In}
use Rattle.sg_words.specs.Objects.{size_of, strong_slots, sent, Placed}
use Rattle.sg_words.proofs.Members.{has-cases, in-here, in-there}
use Rattle.sg_words.proofs.Numbers.{word_at-byte_at}

-- an address of x is sent to that of m x
pub sent-at : (m : ℕ → ℕ) (v x : ℕ) → v ≡ byte_at x → sent m v ≡ byte_at (m x)
sent-at m v x e =
    let q : word_at v ≡ x = ap word_at e ∙ word_at-byte_at x in
    cond-true (eqb v (byte_at (word_at v))) _ _ (eq-eqb v (byte_at (word_at v)) (e ∙ ap byte_at (sym q))) ∙ ap (λ z. byte_at (m z)) q

-- where two maps agree on the object of a word, they send the word to one place
pub sent-along : (m k : ℕ → ℕ) (v : ℕ) → ((x : ℕ) → v ≡ byte_at x → m x ≡ k x) → sent m v ≡ sent k v
sent-along m k v h = elim (cases_eq v (byte_at (word_at v))) [
  | inl e ↦ sent-at m v (word_at v) e ∙ ap byte_at (h (word_at v) e) ∙ sym (sent-at k v (word_at v) e)
  | inr n ↦ cond-false (eqb v (byte_at (word_at v))) _ _ (ne_eqb v _ n) ∙ sym (cond-false (eqb v (byte_at (word_at v))) (byte_at (k (word_at v))) v (ne_eqb v _ n))
]

-- a word whose object stays is sent to itself
pub sent-fixed : (m : ℕ → ℕ) (v : ℕ) → ((x : ℕ) → v ≡ byte_at x → m x ≡ x) → sent m v ≡ v
sent-fixed m v h = elim (cases_eq v (byte_at (word_at v))) [
  | inl e ↦ sent-at m v (word_at v) e ∙ ap byte_at (h (word_at v) e) ∙ sym e
  | inr n ↦ cond-false (eqb v (byte_at (word_at v))) _ _ (ne_eqb v _ n)
]

module _ (w : ℕ → ℕ) (m : ℕ → ℕ) where
  pub placed-grows : (at : ℕ) (moves : List ℕ) (end : ℕ) → Placed w at moves m end → at ≤ end
  placed-grows at [] end p = let q : end ≡ at = p in omega arith
  placed-grows at (a ∷ moves) end p = let h = placed-grows (at + size_of w a) moves end p.1 in omega arith

  pub placed-in : (at : ℕ) (moves : List ℕ) (end : ℕ) → Placed w at moves m end → (a : ℕ) → In a moves → (at ≤ m a) × (m a + size_of w a ≤ end)
  placed-in at [] end p a h = absurd (let z = h in cc)
  placed-in at (x ∷ moves) end p a h = elim (has-cases a x moves h) [
    | inl e ↦ (
      let u : m a ≡ at = ap m e ∙ p.0 in omega arith,
      let u : m a ≡ at = ap m e ∙ p.0 in let s : w (a + 1) ≡ w (x + 1) = ap (λ (z : ℕ). w (z + 1)) e in let g = placed-grows (at + size_of w x) moves end p.1 in omega arith,
    )
    | inr i ↦ (let u = placed-in (at + size_of w x) moves end p.1 a i in (let u0 = u.0 in omega arith, u.1))
  ]

-- one more object is placed
pub placed-more : (w : ℕ → ℕ) (m m' : ℕ → ℕ) (at : ℕ) (moves : List ℕ) (end x : ℕ) → Placed w at moves m end → ((a : ℕ) → In a moves → m' a ≡ m a) → m' x ≡ end → Placed w at (moves ++ x ∷ []) m' (end + size_of w x)
placed-more w m m' at [] end x p same e = (e ∙ p, ap (λ (z : ℕ). z + size_of w x) p)
placed-more w m m' at (a ∷ moves) end x p same e = (same a (in-here a a moves refl) ∙ p.0, placed-more w m m' (at + size_of w a) moves end x p.1 (λ b h. same b (in-there b a moves h)) e)

module _ (strong : ℕ → Bool) where
  -- the slots of an object
  pub slots-in : (at i n j : ℕ) → i ≤ j → j < i + n → strong j ≡ true → In (at + 2 + j) (strong_slots strong at i n)
  slots-in at i zero j l k e = absurd (omega arith)
  slots-in at i (suc n) j l k e = elim (cases_eq j i) [
    | inl q ↦ subst (λ (l : List ℕ). In (at + 2 + j) l) (sym (cond-true _ _ _ (ap (λ (z : ℕ). strong z) (sym q) ∙ e))) (in-here (at + 2 + j) (at + 2 + i) (strong_slots strong at (suc i) n) (ap (λ (z : ℕ). at + 2 + z) q))
    | inr d ↦ (let h = slots-in at (suc i) n j (omega arith) (omega arith) e in elim (cases_Bool (strong i)) [
      | inl y ↦ subst (λ (l : List ℕ). In (at + 2 + j) l) (sym (cond-true _ _ _ y)) (in-there (at + 2 + j) (at + 2 + i) (strong_slots strong at (suc i) n) h)
      | inr y ↦ subst (λ (l : List ℕ). In (at + 2 + j) l) (sym (cond-false _ ((at + 2 + i) ∷ strong_slots strong at (suc i) n) _ y)) h
    ])
  ]

  pub slots-are : (at i n s : ℕ) → In s (strong_slots strong at i n) → (j : ℕ) × (j < i + n) × (strong j ≡ true) × (s ≡ at + 2 + j)
  slots-are at i zero s h = absurd (let z = h in cc)
  slots-are at i (suc n) s h = elim (cases_Bool (strong i)) [
    | inl y ↦ elim (has-cases s (at + 2 + i) (strong_slots strong at (suc i) n) (subst (λ (l : List ℕ). In s l) (cond-true _ _ _ y) h)) [
      | inl e ↦ (i, omega arith, y, e)
      | inr k ↦ more (slots-are at (suc i) n s k)
    ]
    | inr y ↦ more (slots-are at (suc i) n s (subst (λ (l : List ℕ). In s l) (cond-false _ ((at + 2 + i) ∷ strong_slots strong at (suc i) n) _ y) h))
  ]
    where
      more : (j : ℕ) × (j < suc i + n) × (strong j ≡ true) × (s ≡ at + 2 + j) → (j : ℕ) × (j < i + suc n) × (strong j ≡ true) × (s ≡ at + 2 + j)
      more q = (q.0, let l = q.1 in omega arith, q.2, q.3)

  pub slots-few : (at i n : ℕ) → length (strong_slots strong at i n) ≤ n
  slots-few at i zero = zero-le
  slots-few at i (suc n) = let h = slots-few at (suc i) n in elim (cases_Bool (strong i)) [
    | inl e ↦ subst (λ (l : List ℕ). length l ≤ suc n) (sym (cond-true _ _ _ e)) (let goal : suc (length (strong_slots strong at (suc i) n)) ≤ suc n = omega arith in goal)
    | inr e ↦ subst (λ (l : List ℕ). length l ≤ suc n) (sym (cond-false _ ((at + 2 + i) ∷ strong_slots strong at (suc i) n) _ e)) (omega arith)
  ]

  -- over fields that aren't strong, and over one that is
  slots-over : (at i d n : ℕ) → i + d ≤ n → ((k : ℕ) → i ≤ k → k < i + d → strong k ≡ false) → strong_slots strong at i (n - i) ≡ strong_slots strong at (i + d) (n - (i + d))
  slots-over at i zero n l none = ap (λ (z : ℕ). strong_slots strong at z (n - z)) (let e : i ≡ i + 0 = omega arith in e)
  slots-over at i (suc d) n l none =
      let e : n - i ≡ suc (n - suc i) = omega arith in
      let more = slots-over at (suc i) d n (omega arith) (λ k a u. none k (omega arith) (omega arith)) in
      ap (λ (z : ℕ). strong_slots strong at i z) e ∙ cond-false _ ((at + 2 + i) ∷ strong_slots strong at (suc i) (n - suc i)) _ (none i (omega arith) (omega arith)) ∙ more
      ∙ ap (λ (z : ℕ). strong_slots strong at z (n - z)) (let k : suc i + d ≡ i + suc d = omega arith in k)

  pub slots-skip : (at i j n : ℕ) → i ≤ j → j ≤ n → ((k : ℕ) → i ≤ k → k < j → strong k ≡ false) → strong_slots strong at i (n - i) ≡ strong_slots strong at j (n - j)
  slots-skip at i j n l u none =
      let e : i + (j - i) ≡ j = omega arith in
      slots-over at i (j - i) n (omega arith) (λ k a b. none k a (omega arith)) ∙ ap (λ (z : ℕ). strong_slots strong at z (n - z)) e

  pub slots-take : (at i n : ℕ) → i < n → strong i ≡ true → strong_slots strong at i (n - i) ≡ (at + 2 + i) ∷ strong_slots strong at (i + 1) (n - (i + 1))
  slots-take at i n l is =
      let e : n - i ≡ suc (n - suc i) = omega arith in
      let k : suc i ≡ i + 1 = omega arith in
      ap (λ (z : ℕ). strong_slots strong at i z) e ∙ cond-true _ _ _ is ∙ ap (λ (z : ℕ). (at + 2 + i) ∷ strong_slots strong at z (n - z)) k
