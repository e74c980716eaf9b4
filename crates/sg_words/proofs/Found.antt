-- What is found one after another, to the end, is one list.
use Rattle.std.proofs.Common.{◌≡◌, ℕ, ◌<◌, ◌⊎◌, inl, inr, List, [], ◌∷◌, ◌++◌, length, sym, refl, ap, ◌∙◌, subst, arith}
use Rattle.std.proofs.lemmas.Bool.{cases_lt}
use Rattle.std.proofs.lemmas.List.{length_push}
use Rattle.sg_words.specs.Lists.{In}
use Rattle.sg_words.specs.Found.{IsFirstNew, IsFoundBy, IsSearched}
use Rattle.sg_words.specs.Found.IsFoundBy.{Begins, Finds}
use Rattle.sg_words.proofs.Members.{in-here, in-there, in-right, last-cases, not-in}

-- the first of some numbers that a test doesn't pass over
one_first : (Passed : ℕ → Type 0) (passed rest passed' rest' : List ℕ) (x x' : ℕ) → passed ++ x ∷ rest ≡ passed' ++ x' ∷ rest' →
    ((y : ℕ) → In y passed → Passed y) → ((y : ℕ) → In y passed' → Passed y) → (Passed x → ⊥) → (Passed x' → ⊥) → x ≡ x'
one_first Passed [] rest [] rest' x x' e known known' new new' = cc e
one_first Passed [] rest (y ∷ ys) rest' x x' e known known' new new' = absurd (new (known' x (in-here x y ys (cc e))))
one_first Passed (y ∷ ys) rest [] rest' x x' e known known' new new' = absurd (new' (known x' (in-here x' y ys (cc e))))
one_first Passed (y ∷ ys) rest (z ∷ zs) rest' x x' e known known' new new' =
    one_first Passed ys rest zs rest' x x' (cc e) (λ w i. known w (in-there w y ys i)) (λ w i. known' w (in-there w z zs i)) new new'

module _ (sort : ℕ → Type 0) (leads : List ℕ → List ℕ) where
  one_new : (candidates before : List ℕ) (x y : ℕ) → IsFirstNew sort candidates before x → IsFirstNew sort candidates before y → x ≡ y
  one_new candidates before x y a b =
      one_first (λ z. sort z → In z before) a.passed a.rest b.passed b.rest x y (sym a.split ∙ b.split) a.known b.known
      (λ h. not-in x before a.new (h a.of_sort)) (λ h. not-in y before b.new (h b.of_sort))

  -- the one that was found behind these, if more than n were found
  record Next (n : ℕ) : Type 0 where
    pub before : List ℕ
    pub first : ℕ
    pub many : length before ≡ n
    pub found : IsFoundBy sort leads before
    pub new : IsFirstNew sort (leads before) before first

  next : (found : List ℕ) → IsFoundBy sort leads found → (n : ℕ) → n < length found → Next n
  next _ Begins n l = absurd (omega arith)
  next _ (Finds before x each new) n l = elim (cases_lt n (length before)) [
    | inl m ↦ next before each n m
    | inr above ↦ record {
      before = before;
      first = x;
      many = let q = length_push before x in omega arith;
      found = each;
      new = new;
    }
  ]

  -- the last one that was found, behind the others
  record Last (found : List ℕ) : Type 0 where
    pub before : List ℕ
    pub last : ℕ
    pub is : found ≡ before ++ last ∷ []
    pub each : IsFoundBy sort leads before
    pub new : IsFirstNew sort (leads before) before last

  from_behind : (found : List ℕ) → IsFoundBy sort leads found → (found ≡ []) ⊎ Last found
  from_behind _ Begins = inl refl
  from_behind _ (Finds before x each new) = inr (record { before = before; last = x; is = refl; each = each; new = new })

  same_length : (xs ys : List ℕ) → IsFoundBy sort leads xs → IsFoundBy sort leads ys → length xs ≡ length ys → xs ≡ ys
  same_length _ [] Begins b e = refl
  same_length _ (y ∷ ys) Begins b e = absurd (omega arith)
  same_length _ ys (Finds before x each new) b e = elim (from_behind ys b) [
    | inl none ↦ absurd (let l = length_push before x in let m : length ys ≡ 0 = ap length none in omega arith)
    | inr l ↦
        let m = length_push before x in
        let m' = length_push l.before l.last in
        let m'' : length ys ≡ length (l.before ++ l.last ∷ []) = ap length l.is in
        let same = same_length before l.before each l.each (omega arith) in
        let there : IsFirstNew sort (leads before) before l.last = subst (λ (zs : List ℕ). IsFirstNew sort (leads zs) zs l.last) (sym same) l.new in
        ap (λ (zs : List ℕ). zs ++ x ∷ []) same ∙ ap (λ z. l.before ++ z ∷ []) (one_new (leads before) before x l.last new there) ∙ sym l.is
  ]

  not_longer : (xs ys : List ℕ) → IsSearched sort leads xs → IsFoundBy sort leads ys → length xs < length ys → ⊥
  not_longer xs ys a b l =
      let n = next ys b (length xs) l in
      let same = same_length n.before xs n.found a.each n.many in
      let new : IsFirstNew sort (leads xs) xs n.first = subst (λ (zs : List ℕ). IsFirstNew sort (leads zs) zs n.first) same n.new in
      let behind = in-right n.first new.passed (n.first ∷ new.rest) (in-here n.first n.first new.rest refl) in
      not-in n.first xs new.new (a.all n.first (subst (λ (zs : List ℕ). In n.first zs) (sym new.split) behind) new.of_sort)

  pub one_search : (xs ys : List ℕ) → IsSearched sort leads xs → IsSearched sort leads ys → xs ≡ ys
  one_search xs ys a b = elim (cases_lt (length xs) (length ys)) [
    | inl l ↦ absurd (not_longer xs ys a b.each l)
    | inr above ↦ elim (cases_lt (length ys) (length xs)) [
      | inl l ↦ absurd (not_longer ys xs b a.each l)
      | inr below ↦ same_length xs ys a.each b.each (let e : length xs ≡ length ys = omega arith in e)
    ]
  ]

  -- each that was found is of the sort
  pub of_sort : (found : List ℕ) → IsFoundBy sort leads found → (n : ℕ) → In n found → sort n
  of_sort _ Begins n i = absurd (let z = i in cc)
  of_sort _ (Finds before x each new) n i = elim (last-cases n x before i) [
    | inl e ↦ subst sort (sym e) new.of_sort
    | inr j ↦ of_sort before each n j
  ]
