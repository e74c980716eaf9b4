-- The gray list grows by an object that is marked, or stays as it is.
use Rattle.std.proofs.Common.{◌≡◌, ℕ, ◌+◌, ◌≤◌, ◌⊎◌, inl, inr, Bool, true, false, Option, Some, List, [], ◌∷◌, ◌++◌, length, refl, sym, ap, ◌∙◌, subst, arith, length-append, append_assoc}
use Rattle.std.proofs.lemmas.Bool.{cases_Bool, cond-true, cond-false, false≢true}
use Rattle.std.proofs.lemmas.List.{append-nil}
use Rattle.sg_words.specs.Address.{byte_at, word_at}
use Rattle.sg_words.specs.Lists.{has, In}
use Rattle.sg_words.proofs.Members.{in-one, in-left, in-right, in-cases, in-last, last-cases, distinct-more}
use Rattle.sg_space.specs.Space.{Contents}
use Rattle.sg_space.specs.Standing.{IsStanding}
use Rattle.sg_space.specs.Marks.{Marks, HasMark}
use Rattle.sg_mark.specs.Gray.{most_objects, marked_with, IsGray, GrowsBy, HasVisited}
use Rattle.sg_mark.proofs.Places.{place_of, has_mark, layout_same, stands_at, byte_of_word, word_of_byte}
use Rattle.sg_mark.proofs.Marked.{marks_more}
use Rattle.sg_mark.proofs.Few.{few_gray}

module _ (marked : ℕ → Bool) where
  -- what was marked, and what the list has
  pub with_marked : (gray : List ℕ) (k : ℕ) → marked k ≡ true → marked_with marked gray k ≡ true
  with_marked gray k e = cond-true _ _ _ e

  pub with_in : (gray : List ℕ) (k : ℕ) → In (byte_at k) gray → marked_with marked gray k ≡ true
  with_in gray k i = elim (cases_Bool (marked k)) [
    | inl e ↦ with_marked gray k e
    | inr e ↦ cond-false _ true (has (byte_at k) gray) e ∙ i
  ]

  pub with_cases : (gray : List ℕ) (k : ℕ) → marked_with marked gray k ≡ true → (marked k ≡ true) ⊎ In (byte_at k) gray
  with_cases gray k h = elim (cases_Bool (marked k)) [
    | inl e ↦ inl e
    | inr e ↦ inr (sym (cond-false _ true (has (byte_at k) gray) e) ∙ h)
  ]

  -- the same of a longer list
  pub with_more : (gray more : List ℕ) (k : ℕ) → marked_with marked gray k ≡ true → marked_with marked (gray ++ more) k ≡ true
  with_more gray more k h = elim (with_cases gray k h) [
    | inl e ↦ with_marked (gray ++ more) k e
    | inr i ↦ with_in (gray ++ more) k (in-left (byte_at k) gray more i)
  ]

  pub with_grown : (P : ℕ → Type 0) (old new : List ℕ) (k : ℕ) → GrowsBy P old new → marked_with marked old k ≡ true → marked_with marked new k ≡ true
  with_grown P old new k g h = subst (λ (l : List ℕ). marked_with marked l k ≡ true) (sym g.1) (with_more old g.0 k h)

-- lists that grow
pub grown_none : (P : ℕ → Type 0) (old : List ℕ) → GrowsBy P old old
grown_none P old = ([], sym (append-nil old), λ a i. absurd (let z = i in cc))

pub grown_on : (P : ℕ → Type 0) (a b c : List ℕ) → GrowsBy P a b → GrowsBy P b c → GrowsBy P a c
grown_on P a b c g h = (g.0 ++ h.0, h.1 ∙ ap (λ (l : List ℕ). l ++ h.0) g.1 ∙ append_assoc a g.0 h.0, λ v i. elim (in-cases v g.0 h.0 i) [ inl j ↦ g.2 v j | inr j ↦ h.2 v j ])

pub grown_as : (P Q : ℕ → Type 0) (a b : List ℕ) → ((v : ℕ) → In v b → P v → Q v) → GrowsBy P a b → GrowsBy Q a b
grown_as P Q a b f g = (g.0, g.1, λ v i. f v (subst (λ (l : List ℕ). In v l) (sym g.1) (in-right v a g.0 i)) (g.2 v i))

pub grown_cases : (P : ℕ → Type 0) (a b : List ℕ) (v : ℕ) → GrowsBy P a b → In v b → In v a ⊎ P v
grown_cases P a b v g i = elim (in-cases v a g.0 (subst (λ (l : List ℕ). In v l) g.1 i)) [ inl j ↦ inl j | inr j ↦ inr (g.2 v j) ]

module _ (t : Contents) (owner : ℕ → Option ℕ) (marked : ℕ → Bool) (s : Contents) (gray : List ℕ) (is : IsGray t owner marked s gray) (a : ℕ) (at : IsStanding owner a) where
  stands : owner (word_at a) ≡ Some (word_at a)
  stands = stands_at owner a at

  pub mark_place : HasMark s (word_at a)
  mark_place = has_mark t owner (marked_with marked gray) s is.partly.has (word_at a) (place_of t owner is.partly.sound (word_at a) stands)

  pub visited_old : marked_with marked gray (word_at a) ≡ true → HasVisited t owner marked gray a s gray
  visited_old on = record {
    gray = is;
    grown = grown_none (λ v. v ≡ a) gray;
    visited = λ k o e. subst (λ (n : ℕ). marked_with marked gray n ≡ true) (word_of_byte a k e) on;
  }

  module _ (off : marked_with marked gray (word_at a) ≡ false) where
    fresh : In a gray → ⊥
    fresh i = false≢true (sym off ∙ with_in marked gray (word_at a) (subst (λ (n : ℕ). In n gray) (byte_of_word owner a at) i))

    stand : (b : ℕ) → In b (gray ++ a ∷ []) → IsStanding owner b
    stand b i = elim (last-cases b a gray i) [
      | inl e ↦ subst (IsStanding owner) (sym e) at
      | inr j ↦ is.stand b j
    ]

    -- the list has room for one more
    pub has_room : length gray + 1 ≤ most_objects s.layout
    has_room =
        let all = few_gray t owner is.partly.sound (gray ++ a ∷ []) (distinct-more a gray is.distinct fresh) stand in
        let long = length-append gray (a ∷ []) in
        let same = layout_same t owner (marked_with marked gray) s is.partly.has in
        subst (λ l. length gray + 1 ≤ most_objects l) (sym same) (omega arith)

    pub visited_new : (new : Contents) → Marks s (word_at a) true new → HasVisited t owner marked gray a new (gray ++ a ∷ [])
    visited_new new m =
        let h = word_at a in
        let address = byte_of_word owner a at in
        let here : marked_with marked (gray ++ a ∷ []) h ≡ true = with_in marked (gray ++ a ∷ []) h (in-last (byte_at h) a gray (sym address)) in
        record {
          gray = record {
            partly = record {
              contents = is.partly.contents;
              sound = is.partly.sound;
              refers = is.partly.refers;
              has = marks_more t owner is.partly.sound h stands (marked_with marked gray) s is.partly.has is.partly.contents off (marked_with marked (gray ++ a ∷ []))
                  (λ x y. with_more marked gray (a ∷ []) x y)
                  (λ x y. elim (with_cases marked (gray ++ a ∷ []) x y) [
                    | inl e ↦ inl (with_marked marked gray x e)
                    | inr i ↦ elim (last-cases (byte_at x) a gray i) [
                      | inl e ↦ inr (sym (word_of_byte a x (sym e)))
                      | inr j ↦ inl (with_in marked gray x j)
                    ]
                  ])
                  here new m;
            };
            stand = stand;
            distinct = distinct-more a gray is.distinct fresh;
          };
          grown = (a ∷ [], refl, λ v i. in-one v a i);
          visited = λ k o e. subst (λ (n : ℕ). marked_with marked (gray ++ a ∷ []) n ≡ true) (word_of_byte a k e) here;
        }

-- the layout stays
pub layout_kept : (t : Contents) (owner : ℕ → Option ℕ) (marked : ℕ → Bool) (s new : Contents) (gray more : List ℕ) → IsGray t owner marked s gray → IsGray t owner marked new more →
    new.layout ≡ s.layout
layout_kept t owner marked s new gray more is then =
    layout_same t owner (marked_with marked more) new then.partly.has ∙ sym (layout_same t owner (marked_with marked gray) s is.partly.has)

-- it isn't longer than the space has room for
pub few_of : (t : Contents) (owner : ℕ → Option ℕ) (marked : ℕ → Bool) (s : Contents) (gray : List ℕ) → IsGray t owner marked s gray → length gray ≤ most_objects s.layout
few_of t owner marked s gray is =
    subst (λ l. length gray ≤ most_objects l) (sym (layout_same t owner (marked_with marked gray) s is.partly.has)) (few_gray t owner is.partly.sound gray is.distinct is.stand)

pub grown_long : (P : ℕ → Type 0) (old new : List ℕ) → GrowsBy P old new → length old ≤ length new
grown_long P old new g = let e = ap length g.1 in let long = length-append old g.0 in omega arith
