-- Lists of slots, of what they refer to, and of the objects found.
use Rattle.std.proofs.Common.{◌≡◌, ℕ, zero, suc, ◌+◌, ◌≤◌, ◌<◌, ◌⊎◌, leb, ltb, eqb, cond, if◌then◌else◌, Bool, true, false, List, [], ◌∷◌, ◌++◌, map}
use Rattle.std.proofs.Common.{sym, refl, ap, ◌∙◌, subst, inl, inr, arith}
use Rattle.std.proofs.lemmas.Bool.{cond-true, cond-false, cases_Bool, eq-eqb, eqb-true, leb-true, ltb-true, le-leb, lt-ltb}
use Rattle.std.proofs.lemmas.List.{append-nil, append_assoc}
use Rattle.sg_words.specs.Address.{byte_at, word_at}
use Rattle.sg_words.specs.Tags.{plain_word}
use Rattle.sg_words.specs.Lists.{has, In}
use Rattle.sg_words.specs.Objects.{strong_slots}
use Rattle.sg_words.proofs.Members.{in-here, in-there, has-cases, out}
use Rattle.sg_words.proofs.Numbers.{word_at-byte_at}
use Rattle.sg_round.specs.Area.{Area, IsYoung, class_of}
use Rattle.sg_round.specs.Items.{slots_by}
use Rattle.sg_round.specs.Order.{is_plain, target, targets, strong_of}
use Rattle.sg_round.proofs.Steps.{class-is}

-- each number of a list where it comes first, but for those that came before
abbrev pub firsts : List ℕ → List ℕ → List ℕ
firsts before [] = []
firsts before (x ∷ xs) = if has x before then firsts before xs else x ∷ firsts (x ∷ before) xs

-- the lists one longer
pub targets-last : (area : Area) (w : ℕ → ℕ) (items : List ℕ) (s : ℕ) → targets area w (items ++ s ∷ []) ≡ targets area w items ++ target area w (w s)
targets-last area w [] s = append-nil (target area w (w s))
targets-last area w (x ∷ items) s = ap (λ (l : List ℕ). target area w (w x) ++ l) (targets-last area w items s)
    ∙ sym (append_assoc (target area w (w x)) (targets area w items) (target area w (w s)))

pub targets-append : (area : Area) (w : ℕ → ℕ) (items more : List ℕ) → targets area w (items ++ more) ≡ targets area w items ++ targets area w more
targets-append area w [] more = refl
targets-append area w (x ∷ items) more = ap (λ (l : List ℕ). target area w (w x) ++ l) (targets-append area w items more)
    ∙ sym (append_assoc (target area w (w x)) (targets area w items) (targets area w more))

-- each number of a list is one of its first ones, or came before
pub in-firsts : (before xs : List ℕ) (y : ℕ) → In y xs → In y before ⊎ In y (firsts before xs)
in-firsts before [] y h = absurd (let z = h in cc)
in-firsts before (x ∷ xs) y h = elim (cases_Bool (has x before)) [
  | inl e ↦ elim (has-cases y x xs h) [
    | inl q ↦ inl (subst (λ (z : ℕ). In z before) (sym q) e)
    | inr i ↦ elim (in-firsts before xs y i) [
      | inl k ↦ inl k
      | inr k ↦ inr (subst (λ (l : List ℕ). In y l) (sym (cond-true _ _ _ e)) k)
    ]
  ]
  | inr e ↦ elim (has-cases y x xs h) [
    | inl q ↦ inr (subst (λ (l : List ℕ). In y l) (sym (cond-false _ (firsts before xs) _ e)) (in-here y x (firsts (x ∷ before) xs) q))
    | inr i ↦ elim (in-firsts (x ∷ before) xs y i) [
      | inl k ↦ elim (has-cases y x before k) [
        | inl q ↦ inr (subst (λ (l : List ℕ). In y l) (sym (cond-false _ (firsts before xs) _ e)) (in-here y x (firsts (x ∷ before) xs) q))
        | inr b ↦ inl b
      ]
      | inr k ↦ inr (subst (λ (l : List ℕ). In y l) (sym (cond-false _ (firsts before xs) _ e)) (in-there y x (firsts (x ∷ before) xs) k))
    ]
  ]
]

pub firsts-old : (before xs : List ℕ) (x : ℕ) → In x before ⊎ In x (firsts before xs) → firsts before (xs ++ x ∷ []) ≡ firsts before xs
firsts-old before [] x h = elim h [
  | inl i ↦ cond-true _ _ _ i
  | inr i ↦ absurd (let z = i in cc)
]
firsts-old before (y ∷ xs) x h = elim (cases_Bool (has y before)) [
  | inl e ↦ cond-true _ _ _ e ∙ firsts-old before xs x (elim h [
    | inl i ↦ inl i
    | inr i ↦ inr (subst (λ (l : List ℕ). In x l) (cond-true _ _ _ e) i)
  ]) ∙ sym (cond-true _ _ _ e)
  | inr e ↦ cond-false _ (firsts before (xs ++ x ∷ [])) _ e ∙ ap (λ (l : List ℕ). y ∷ l) (firsts-old (y ∷ before) xs x (elim h [
    | inl i ↦ inl (in-there x y before i)
    | inr i ↦ elim (has-cases x y (firsts (y ∷ before) xs) (subst (λ (l : List ℕ). In x l) (cond-false _ (firsts before xs) _ e) i)) [
      | inl q ↦ inl (in-here x y before q)
      | inr j ↦ inr j
    ]
  ])) ∙ sym (cond-false _ (firsts before xs) _ e)
]

pub firsts-new : (before xs : List ℕ) (x : ℕ) → (In x before → ⊥) → (In x (firsts before xs) → ⊥) → firsts before (xs ++ x ∷ []) ≡ firsts before xs ++ x ∷ []
firsts-new before [] x nb nx = cond-false _ [] _ (out x before nb)
firsts-new before (y ∷ xs) x nb nx = elim (cases_Bool (has y before)) [
  | inl e ↦ cond-true _ _ _ e ∙ firsts-new before xs x nb (λ i. nx (subst (λ (l : List ℕ). In x l) (sym (cond-true _ _ _ e)) i))
      ∙ ap (λ (l : List ℕ). l ++ x ∷ []) (sym (cond-true _ _ _ e))
  | inr e ↦ (let there : In x (y ∷ firsts (y ∷ before) xs) → ⊥ = λ i. nx (subst (λ (l : List ℕ). In x l) (sym (cond-false _ (firsts before xs) _ e)) i) in
      cond-false _ (firsts before (xs ++ x ∷ [])) _ e
      ∙ ap (λ (l : List ℕ). y ∷ l) (firsts-new (y ∷ before) xs x (λ i. elim (has-cases x y before i) [
        | inl q ↦ there (in-here x y (firsts (y ∷ before) xs) q)
        | inr j ↦ nb j
      ]) (λ i. there (in-there x y (firsts (y ∷ before) xs) i)))
      ∙ ap (λ (l : List ℕ). l ++ x ∷ []) (sym (cond-false _ (firsts before xs) _ e)))
]

-- the target of a word
module _ (area : Area) (w : ℕ → ℕ) where
  pub target-is : (v x c : ℕ) → v ≡ byte_at x → IsYoung area x → w x ≡ plain_word c → target area w v ≡ x ∷ []
  target-is v x c e y p =
      let q : word_at v ≡ x = ap word_at e ∙ word_at-byte_at x in
      let same : w x ≡ plain_word (class_of (w x)) = omega arith in
      let plain : is_plain area w x ≡ true = cond-true _ _ _ (le-leb _ _ y.0) ∙ cond-true _ _ _ (lt-ltb _ _ y.1) ∙ eq-eqb _ _ same in
      cond-true (eqb v (byte_at (word_at v))) _ _ (eq-eqb _ _ (e ∙ ap byte_at (sym q)))
      ∙ ap (λ (z : ℕ). cond (is_plain area w z) (z ∷ []) []) q ∙ cond-true _ _ _ plain

  pub target-cases : (v : ℕ) → (target area w v ≡ []) ⊎ ((x c : ℕ) × (v ≡ byte_at x) × IsYoung area x × (w x ≡ plain_word c) × (target area w v ≡ x ∷ []))
  target-cases v = elim (cases_Bool (eqb v (byte_at (word_at v)))) [
    | inr e ↦ inl (cond-false _ (cond (is_plain area w (word_at v)) (word_at v ∷ []) []) _ e)
    | inl e ↦ elim (cases_Bool (is_plain area w (word_at v))) [
      | inr n ↦ inl (cond-true _ _ _ e ∙ cond-false _ (word_at v ∷ []) _ n)
      | inl p ↦ inr (known (word_at v) (eqb-true _ _ e) p (cond-true _ _ _ e ∙ cond-true _ _ _ p))
    ]
  ]
    where
      known : (x : ℕ) → v ≡ byte_at x → is_plain area w x ≡ true → target area w v ≡ x ∷ [] →
          (x c : ℕ) × (v ≡ byte_at x) × IsYoung area x × (w x ≡ plain_word c) × (target area w v ≡ x ∷ [])
      known x e p t = elim (cases_Bool (leb area.low x)) [
        | inr a ↦ absurd (let z = sym (cond-false _ (cond (ltb x area.high) (eqb (w x) (plain_word (class_of (w x)))) false) _ a) ∙ p in cc)
        | inl a ↦ elim (cases_Bool (ltb x area.high)) [
          | inr b ↦ absurd (let z = sym (cond-true _ _ false a ∙ cond-false _ (eqb (w x) (plain_word (class_of (w x)))) _ b) ∙ p in cc)
          | inl b ↦ (x, class_of (w x), e, (leb-true _ _ a, ltb-true _ _ b), eqb-true _ _ (sym (cond-true _ _ false a ∙ cond-true _ _ false b) ∙ p), t)
        ]
      ]

pub map-same : (f g : ℕ → ℕ) (xs : List ℕ) → ((a : ℕ) → In a xs → g a ≡ f a) → map g xs ≡ map f xs
map-same f g [] h = refl
map-same f g (x ∷ xs) h = ap (λ (z : ℕ). z ∷ map g xs) (h x (in-here x x xs refl))
    ∙ ap (λ (z : List ℕ). f x ∷ z) (map-same f g xs (λ a i. h a (in-there a x xs i)))

pub map-self : (xs : List ℕ) → map (λ x. x) xs ≡ xs ++ []
map-self [] = refl
map-self (x ∷ xs) = ap (λ (l : List ℕ). x ∷ l) (map-self xs)

-- the strong slots of one more object
pub strong_of-last : (area : Area) (w : ℕ → ℕ) (objects : List ℕ) (x : ℕ) →
    strong_of area w (objects ++ x ∷ []) ≡ strong_of area w objects ++ slots_by area (class_of (w x)) x (w (x + 1))
strong_of-last area w [] x = append-nil (slots_by area (class_of (w x)) x (w (x + 1)))
strong_of-last area w (a ∷ objects) x =
    ap (λ (l : List ℕ). slots_by area (class_of (w a)) a (w (a + 1)) ++ l) (strong_of-last area w objects x)
    ∙ sym (append_assoc (slots_by area (class_of (w a)) a (w (a + 1))) (strong_of area w objects) (slots_by area (class_of (w x)) x (w (x + 1))))

pub its-slots : (area : Area) (w : ℕ → ℕ) (found : List ℕ) (x c n : ℕ) → w x ≡ plain_word c → w (x + 1) ≡ n →
    strong_of area w (found ++ x ∷ []) ≡ strong_of area w found ++ slots_by area c x n
its-slots area w found x c n p len =
    strong_of-last area w found x ∙ ap (λ (z : ℕ). strong_of area w found ++ slots_by area z x (w (x + 1))) (class-is w x c p)
    ∙ ap (λ (m : ℕ). strong_of area w found ++ slots_by area c x m) len

-- where the slots of a copy come from
source-strong : (strong : ℕ → Bool) (x at : ℕ) (f : ℕ → ℕ) (i n k : ℕ) → i + n ≤ k → ((j : ℕ) → j < k → f (at + 2 + j) ≡ x + 2 + j) →
    map f (strong_slots strong at i n) ≡ strong_slots strong x i n
source-strong strong x at f i zero k l h = refl
source-strong strong x at f i (suc n) k l h =
    let more = source-strong strong x at f (suc i) n k (omega arith) h in
    elim (cases_Bool (strong i)) [
      | inl e ↦ ap (λ (z : List ℕ). map f z) (cond-true _ ((at + 2 + i) ∷ strong_slots strong at (suc i) n) _ e)
          ∙ ap (λ (z : ℕ). z ∷ map f (strong_slots strong at (suc i) n)) (h i (omega arith))
          ∙ ap (λ (z : List ℕ). (x + 2 + i) ∷ z) more ∙ sym (cond-true _ ((x + 2 + i) ∷ strong_slots strong x (suc i) n) _ e)
      | inr e ↦ ap (λ (z : List ℕ). map f z) (cond-false _ ((at + 2 + i) ∷ strong_slots strong at (suc i) n) _ e) ∙ more
          ∙ sym (cond-false _ ((x + 2 + i) ∷ strong_slots strong x (suc i) n) _ e)
    ]

pub source-slots : (area : Area) (c x at n : ℕ) (f : ℕ → ℕ) → ((j : ℕ) → j < n → f (at + 2 + j) ≡ x + 2 + j) →
    map f (slots_by area c at n) ≡ slots_by area c x n
source-slots area c x at n f h = source-strong (area.strong c) x at f 0 n n (omega arith) h

pub line-on : (gone a b items old new line : List ℕ) (s : ℕ) → gone ++ s ∷ a ≡ items ++ old → line ≡ a ++ b → new ≡ old ++ b →
    (gone ++ s ∷ []) ++ line ≡ items ++ new
line-on gone a b items old new line s e l n =
    append_assoc gone (s ∷ []) line ∙ ap (λ (z : List ℕ). gone ++ s ∷ z) l ∙ sym (append_assoc gone (s ∷ a) b) ∙ ap (λ (z : List ℕ). z ++ b) e
    ∙ append_assoc items old b ∙ ap (λ (z : List ℕ). items ++ z) (sym n)

pub line-more : (gone a b items old new line : List ℕ) → gone ++ a ≡ items ++ old → line ≡ a ++ b → new ≡ old ++ b → gone ++ line ≡ items ++ new
line-more gone a b items old new line e l n =
    ap (λ (z : List ℕ). gone ++ z) l ∙ sym (append_assoc gone a b) ∙ ap (λ (z : List ℕ). z ++ b) e ∙ append_assoc items old b
    ∙ ap (λ (z : List ℕ). items ++ z) (sym n)
