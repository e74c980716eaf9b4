-- Pieces that are appended one behind the other.
use Rattle.std.proofs.Common.{◌≡◌, ℕ, suc, ◌+◌, List, [], ◌∷◌, ◌++◌, refl, ap, sym, ◌∙◌, subst, append-nil, arith}
use Rattle.std.specs.List.{flat_map}
use Rattle.std.proofs.lemmas.List.Concat.{flat_map-append}
use Rattle.rand_pcg.specs.Lcg.{Lcg}
use Rattle.sg_gen.specs.declared.generated.Move.{Move}
use Rattle.sg_gen.specs.Generated.{moves, drawn, move_text, mutator_text, mutator_texts}

pub append_again : (xs ys zs : List ℕ) → (xs ++ ys) ++ zs ≡ xs ++ (ys ++ zs)
append_again [] ys zs = refl
append_again (x ∷ xs) ys zs = ap (λ us. x ∷ us) (append_again xs ys zs)

pub two : (xs a b y z : List ℕ) → y ≡ xs ++ a → z ≡ y ++ b → z ≡ xs ++ (a ++ b)
two xs a b y z e f = f ∙ ap (λ us. us ++ b) e ∙ append_again xs a b

pub three : (xs a b c y z w : List ℕ) → y ≡ xs ++ a → z ≡ y ++ b → w ≡ z ++ c → w ≡ xs ++ (a ++ (b ++ c))
three xs a b c y z w e f g = two y b c z w f g ∙ ap (λ us. us ++ (b ++ c)) e ∙ append_again xs a (b ++ c)

-- one move more
pub moves_more : (i n : ℕ) (g h : Lcg) (m : Move) (k : Lcg) (xs ys zs : List ℕ) →
    ys ≡ xs ++ flat_map move_text (moves i n g).0 → h ≡ (moves i n g).1 →
    (m, k) ≡ drawn i h → zs ≡ ys ++ move_text m →
    (zs ≡ xs ++ flat_map move_text (moves i (n + 1) g).0) × (k ≡ (moves i (n + 1) g).1)
moves_more i n g h m k xs ys zs e f d z =
    let next : suc n ≡ n + 1 = omega arith in
    subst (λ j. (zs ≡ xs ++ flat_map move_text (moves i j g).0) × (k ≡ (moves i j g).1)) next (
      z ∙ ap (λ us. us ++ move_text m) e ∙ append_again xs (flat_map move_text (moves i n g).0) (move_text m)
          ∙ ap (λ us. xs ++ (flat_map move_text (moves i n g).0 ++ us))
          (sym (append-nil (move_text m)) ∙ ap (λ (x : Move). flat_map move_text (x ∷ [])) first)
          ∙ ap (λ us. xs ++ us) (sym (flat_map-append move_text (moves i n g).0 ((drawn i (moves i n g).1).0 ∷ []))),
      second,
    )
  where
    first : m ≡ (drawn i (moves i n g).1).0
    first = ap (λ (x : Move × Lcg). x.0) d ∙ ap (λ x. (drawn i x).0) f

    second : k ≡ (drawn i (moves i n g).1).1
    second = ap (λ (x : Move × Lcg). x.1) d ∙ ap (λ x. (drawn i x).1) f

-- one mutator more
pub mutators_more : (i count : ℕ) (g h k : Lcg) (xs ys zs : List ℕ) → ys ≡ xs ++ (mutator_texts i count g).0 → h ≡ (mutator_texts i count g).1 →
    zs ≡ ys ++ mutator_text (moves i count h).0 → k ≡ (moves i count h).1 →
    (zs ≡ xs ++ (mutator_texts (i + 1) count g).0) × (k ≡ (mutator_texts (i + 1) count g).1)
mutators_more i count g h k xs ys zs e f z w =
    let next : suc i ≡ i + 1 = omega arith in
    subst (λ j. (zs ≡ xs ++ (mutator_texts j count g).0) × (k ≡ (mutator_texts j count g).1)) next (
      z ∙ ap (λ us. us ++ mutator_text (moves i count h).0) e ∙ append_again xs (mutator_texts i count g).0 (mutator_text (moves i count h).0)
          ∙ ap (λ x. xs ++ ((mutator_texts i count g).0 ++ mutator_text (moves i count x).0)) f,
      w ∙ ap (λ x. (moves i count x).1) f,
    )
