-- Whose word each word is after a pause: each copy has the owner of its original.
use Rattle.std.proofs.Common.{◌≡◌, ℕ, ◌+◌, ◌≤◌, ◌<◌, ◌⊎◌, List, [], ◌∷◌, sym, refl, ap, ◌∙◌, subst, inl, inr, arith}
use Rattle.std.proofs.lemmas.Bool.{cases_Bool, cases_lt}
use Rattle.sg_graph.specs.Heap.{Owner}
use Rattle.sg_words.specs.Lists.{In, has}
use Rattle.sg_words.specs.Objects.{size_of}
use Rattle.sg_words.proofs.Members.{has-cases, in-here, in-there, not-in}
use Rattle.sg_words.proofs.Puts.{within_range, range-in}
use Rattle.sg_minor.proofs.Ranges.{range-out}

module _ (w : ℕ → ℕ) (m : ℕ → ℕ) where
  pub settled : (ℕ → Owner) → List ℕ → (ℕ → Owner) → ℕ → Owner
  settled old [] o = o
  settled old (a ∷ moves) o = settled old moves (within_range o (m a) (m a + size_of w a) (old a))

  -- the word x is one of the copy of a
  abbrev pub IsCopyOf : ℕ → ℕ → Type 0
  IsCopyOf a x = (m a ≤ x) × (x < m a + size_of w a)

  pub settled-out : (old : ℕ → Owner) (moves : List ℕ) (o : ℕ → Owner) (x : ℕ) → ((a : ℕ) → In a moves → IsCopyOf a x → ⊥) → settled old moves o x ≡ o x
  unfolding settled
  settled-out old [] o x none = refl
  settled-out old (a ∷ moves) o x none =
      settled-out old moves (within_range o (m a) (m a + size_of w a) (old a)) x (λ c h. none c (in-there c a moves h))
      ∙ range-out o (m a) (m a + size_of w a) (old a) x (λ l u. none a (in-here a a moves refl) (l, u))

  pub settled-in : (old : ℕ → Owner) (moves : List ℕ) (o : ℕ → Owner) (a x : ℕ) → In a moves → IsCopyOf a x → ((c : ℕ) → In c moves → IsCopyOf c x → c ≡ a) →
      settled old moves o x ≡ old a
  unfolding settled
  settled-in old [] o a x h k one = absurd (let z = h in cc)
  settled-in old (b ∷ moves) o a x h k one = elim (cases_Bool (has a moves)) [
    | inl i ↦ settled-in old moves (within_range o (m b) (m b + size_of w b) (old b)) a x i k (λ c j. one c (in-there c b moves j))
    | inr out ↦
        let e : a ≡ b = elim (has-cases a b moves h) [
          | inl e ↦ e
          | inr i ↦ absurd (not-in a moves out i)
        ] in
        let l = k.0 in
        let u = k.1 in
        let at = ap m e in
        let size : size_of w a ≡ size_of w b = ap (λ (z : ℕ). size_of w z) e in
        settled-out old moves (within_range o (m b) (m b + size_of w b) (old b)) x
        (λ c j q. not-in a moves out (subst (λ (z : ℕ). In z moves) (one c (in-there c b moves j) q) j))
        ∙ range-in o (m b) (m b + size_of w b) (old b) x (omega arith) (omega arith) ∙ ap old (sym e)
  ]

  -- x is a word of a copy, or of none
  pub copy-cases : (moves : List ℕ) (x : ℕ) → ((a : ℕ) × In a moves × IsCopyOf a x) ⊎ ((a : ℕ) → In a moves → IsCopyOf a x → ⊥)
  copy-cases [] x = inr (λ a h k. let z = h in cc)
  copy-cases (b ∷ moves) x = elim (copy-cases moves x) [
    | inl q ↦ inl (q.0, in-there q.0 b moves q.1, q.2)
    | inr none ↦ elim (cases_lt x (m b)) [
      | inl under ↦ inr (λ a h k. elim (has-cases a b moves h) [
        | inl e ↦ let l = k.0 in let at = ap m e in omega arith
        | inr i ↦ none a i k
      ])
      | inr over ↦ elim (cases_lt x (m b + size_of w b)) [
        | inl inside ↦ inl (b, in-here b b moves refl, (over, inside))
        | inr past ↦ inr (λ a h k. elim (has-cases a b moves h) [
          | inl e ↦ let u = k.1 in let at = ap m e in let size : size_of w a ≡ size_of w b = ap (λ (z : ℕ). size_of w z) e in omega arith
          | inr i ↦ none a i k
        ])
      ]
    ]
  ]
