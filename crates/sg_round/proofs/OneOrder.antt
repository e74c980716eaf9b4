-- A round of one worker over the same slots of the same words is one.
use Rattle.std.proofs.Common.{◌≡◌, ℕ, List, [], ◌∷◌, sym, ap, ◌∙◌, subst, inl, inr, arith}
use Rattle.std.proofs.lemmas.Bool.{cases_lt}
use Rattle.sg_words.specs.Lists.{In}
use Rattle.sg_words.specs.Objects.{size_of}
use Rattle.sg_words.specs.Blocks.{slot_size}
use Rattle.sg_words.specs.declared.steps.BlockWord.{BlockWord}
use Rattle.sg_words.proofs.Members.{has-cases}
use Rattle.sg_words.proofs.Found.{one_search}
use Rattle.sg_round.specs.Area.{Area, place}
use Rattle.sg_round.specs.Order.{leads, IsLowest, Fits}
use Rattle.sg_round.specs.Laws.{OneOrderLaw}
use Rattle.sg_round.specs.Round.{IsPassed}
use Rattle.sg_round.proofs.Fits.{with_block, with_bit}

module _ (area : Area) (block : ℕ → BlockWord) (used : ℕ → ℕ) (z : ℕ) where
  -- a block with a clear slot isn't passed
  not-passed : (b i : ℕ) → IsLowest area block used z b i → IsPassed block used z b → ⊥
  not-passed b i l p = elim l.state [
    | inl e ↦ p.taken e
    | inr e ↦ (let f = p.full e i l.fits in let g = l.clear in omega arith)
  ]

  one-block : (b i c j : ℕ) → IsLowest area block used z b i → IsLowest area block used z c j → b ≡ c
  one-block b i c j l m = elim (cases_lt b c) [
    | inl h ↦ absurd (not-passed b i l (m.blocks b h))
    | inr h ↦ elim (cases_lt c b) [ inl k ↦ absurd (not-passed c j m (l.blocks c k)) | inr k ↦ omega arith ]
  ]

  one-slot : (b i j : ℕ) → IsLowest area block used z b i → IsLowest area block used z b j → i ≡ j
  one-slot b i j l m = elim (cases_lt i j) [
    | inl h ↦ absurd (let e = m.slots i h in let f = l.clear in omega arith)
    | inr h ↦ elim (cases_lt j i) [ inl k ↦ absurd (let e = l.slots j k in let f = m.clear in omega arith) | inr k ↦ omega arith ]
  ]

-- the same found objects fit in one way
record IsOneFit (m m' : ℕ → ℕ) (moves moves' fails fails' : List ℕ) (block1 block2 : ℕ → BlockWord) (used1 used2 : ℕ → ℕ) : Type 0 where
  pub moves_are : moves ≡ moves'
  pub fails_are : fails ≡ fails'
  pub places : (a : ℕ) → In a moves → m a ≡ m' a
  pub blocks : block1 ≡ block2
  pub bits : used1 ≡ used2

module _ (area : Area) (w : ℕ → ℕ) (m m' : ℕ → ℕ) (block1 block2 : ℕ → BlockWord) (used1 used2 : ℕ → ℕ) where
  one-fit : (block : ℕ → BlockWord) (used : ℕ → ℕ) (moves moves' fails fails' found : List ℕ) →
      Fits area w m block used moves fails found block1 used1 → Fits area w m' block used moves' fails' found block2 used2 →
      IsOneFit m m' moves moves' fails fails' block1 block2 used1 used2
  one-fit block used moves moves' fails fails' [] p q = record {
    moves_are = p.0 ∙ sym q.0;
    fails_are = p.1 ∙ sym q.1;
    places = λ a h. absurd (let z = subst (λ (l : List ℕ). In a l) p.0 h in cc);
    blocks = p.2 ∙ sym q.2;
    bits = p.3 ∙ sym q.3;
  }
  one-fit block used moves moves' fails fails' (x ∷ found) p q = elim p [
    | inl p ↦ elim q [
      | inl q ↦ both p.0 p.1 p.2 p.3 p.4 p.5 p.6 q.0 q.1 q.2 q.3 q.4 q.5
          (λ fit. one-fit (with_block block q.0 (slot_size (size_of w x))) (with_bit used q.0 q.1) p.2 q.2 fails fails' found fit q.6)
      | inr q ↦ absurd (not-passed area block used (slot_size (size_of w x)) p.0 p.1 p.3 (q.1 p.0 p.3.there))
    ]
    | inr p ↦ elim q [
      | inl q ↦ absurd (not-passed area block used (slot_size (size_of w x)) q.0 q.1 q.3 (p.1 q.0 q.3.there))
      | inr q ↦ (let h = one-fit block used moves moves' p.0 q.0 found p.3 q.3 in record {
        moves_are = h.moves_are;
        fails_are = p.2 ∙ ap (λ (l : List ℕ). x ∷ l) h.fails_are ∙ sym q.2;
        places = h.places;
        blocks = h.blocks;
        bits = h.bits;
      })
    ]
  ]
    where
      z : ℕ
      z = slot_size (size_of w x)

      both : (b i : ℕ) (rest : List ℕ) → IsLowest area block used z b i → m x ≡ place area b z i → moves ≡ x ∷ rest →
          Fits area w m (with_block block b z) (with_bit used b i) rest fails found block1 used1 →
          (c j : ℕ) (rest' : List ℕ) → IsLowest area block used z c j → m' x ≡ place area c z j → moves' ≡ x ∷ rest' →
          (Fits area w m (with_block block c z) (with_bit used c j) rest fails found block1 used1 →
          IsOneFit m m' rest rest' fails fails' block1 block2 used1 used2) →
          IsOneFit m m' moves moves' fails fails' block1 block2 used1 used2
      both b i rest low at e fit c j rest' low' at' e' again =
          let same : b ≡ c = one-block area block used z b i c j low low' in
          let slot : i ≡ j = one-slot area block used z c i j (subst (λ (b : ℕ). IsLowest area block used z b i) same low) low' in
          let fit0 : Fits area w m (with_block block c z) (with_bit used c j) rest fails found block1 used1 =
          subst (λ (j : ℕ). Fits area w m (with_block block c z) (with_bit used c j) rest fails found block1 used1) slot
          (subst (λ (c : ℕ). Fits area w m (with_block block c z) (with_bit used c i) rest fails found block1 used1) same fit) in
          let h = again fit0 in
          record {
            moves_are = e ∙ ap (λ (l : List ℕ). x ∷ l) h.moves_are ∙ sym e';
            fails_are = h.fails_are;
            places = λ a k. elim (has-cases a x rest (subst (λ (l : List ℕ). In a l) e k)) [
              | inl f ↦ ap m f ∙ at ∙ ap (λ (c : ℕ). place area c z i) same ∙ ap (λ (j : ℕ). place area c z j) slot ∙ sym at' ∙ ap m' (sym f)
              | inr g ↦ h.places a g
            ];
            blocks = h.blocks;
            bits = h.bits;
          }

pub one_order_of_copies : OneOrderLaw
one_order_of_copies area w items m m' block used moves moves' fails fails' block1 block2 used1 used2 x y =
    let same = one_search (λ _. Unit {0}) (leads area w items) x.found y.found x.searched y.searched in
    let h = one-fit area w m m' block1 block2 used1 used2 block used moves moves' fails fails' y.found
    (subst (λ (l : List ℕ). Fits area w m block used moves fails l block1 used1) same x.parts) y.parts in
    (same, h.moves_are, h.fails_are, h.places, h.blocks, h.bits)
