-- What the stores of a sweep make of a space: a block's word or occupancy is stored, and words become zero, one after another.
use Rattle.std.proofs.Common.{◌≡◌, ℕ, zero, suc, ◌+◌, ◌≤◌, ◌<◌, List, [], ◌∷◌, length, slice_set, set, get_or, refl, sym, ap, ◌∙◌, subst, inl, inr, arith}
use Rattle.std.proofs.Common.{get_or-set_same, get_or-set_other}
use Rattle.std.proofs.Math.ListN.{length-set}
use Rattle.std.proofs.lemmas.Bool.{cases_eq, cases_lt}
use Rattle.std.proofs.lemmas.List.{ext_get_or}
use Rattle.sg_words.specs.declared.steps.BlockWord.{BlockWord}
use Rattle.sg_words.specs.declared.steps.BlockStep.TheVariants.{StoreBlock, Zero}
use Rattle.sg_words.specs.declared.steps.Step.{Step}
use Rattle.sg_words.specs.declared.steps.Step.TheVariants.{OnBlock}
use Rattle.sg_words.specs.Sweeps.{zero_steps}
use Rattle.sg_cells.specs.Made.{Makes, makes_then}
use Rattle.sg_space.specs.Space.{Contents}
use Rattle.sg_space.specs.Standing.{block_in, word}
use Rattle.sg_frag.specs.Plain.{Led}
use Rattle.sg_frag.proofs.Changes.{led_store, led_block}

pub stored_block : (s t : Contents) (b : ℕ) (new : BlockWord) → b < length s.blocks → t ≡ record s { blocks = slice_set s.blocks b new } →
    Led s (OnBlock (StoreBlock b new) ∷ []) t
stored_block s t b new l e =
    let h = led_block s t b (block_in s b) new l refl e in
    record { legal = (tt, tt); words = h.words; keeps = h.keeps }

pub stored_zero : (s t : Contents) (x : ℕ) → x < length s.words → t ≡ record s { words = slice_set s.words x 0 } → Led s (OnBlock (Zero x) ∷ []) t
stored_zero s t x l e = let h = led_store s t x 0 l e in record { legal = (tt, tt); words = h.words; keeps = h.keeps }

-- the words after n of them became zero, from the word `from` on
abbrev wiped : List ℕ → ℕ → ℕ → List ℕ
wiped words from zero = words
wiped words from (suc n) = set (wiped words from n) (from + n) 0

wiped-length : (words : List ℕ) (from n : ℕ) → length (wiped words from n) ≡ length words
wiped-length words from zero = refl
wiped-length words from (suc n) = length-set (wiped words from n) (from + n) 0 ∙ wiped-length words from n

wiped-in : (words : List ℕ) (from n x : ℕ) → from + n ≤ length words → from ≤ x → x < from + n → get_or (wiped words from n) x 0 ≡ 0
wiped-in words from zero x m a l = absurd (omega arith)
wiped-in words from (suc n) x m a l = elim (cases_eq x (from + n)) [
  | inl e ↦ ap (λ (y : ℕ). get_or (set (wiped words from n) (from + n) 0) y 0) e ∙
      get_or-set_same (wiped words from n) (from + n) 0 0 (omega (arith, wiped-length words from n))
  | inr d ↦ get_or-set_other (wiped words from n) (from + n) x 0 0 d ∙ wiped-in words from n x (omega arith) a (omega arith)
]

wiped-out : (words : List ℕ) (from n x : ℕ) → (from ≤ x → x < from + n → ⊥) → get_or (wiped words from n) x 0 ≡ get_or words x 0
wiped-out words from zero x none = refl
wiped-out words from (suc n) x none = elim (cases_eq x (from + n)) [
  | inl e ↦ absurd (none (omega arith) (omega arith))
  | inr d ↦ get_or-set_other (wiped words from n) (from + n) x 0 0 d ∙ wiped-out words from n x (λ a l. none a (omega arith))
]

-- a list of the same length that is zero there and the same elsewhere is that one
wiped-is : (words after : List ℕ) (from n : ℕ) → from + n ≤ length words → length after ≡ length words →
    ((y : ℕ) → from ≤ y → y < from + n → get_or after y 0 ≡ 0) → ((y : ℕ) → (from ≤ y → y < from + n → ⊥) → get_or after y 0 ≡ get_or words y 0) →
    after ≡ wiped words from n
wiped-is words after from n m same zeros others =
    ext_get_or 0 after (wiped words from n) (same ∙ sym (wiped-length words from n)) (λ y l. elim (cases_lt y from) [
      | inl below ↦
          let out : from ≤ y → y < from + n → ⊥ = λ a b. absurd (omega arith) in
          others y out ∙ sym (wiped-out words from n y out)
      | inr above ↦ elim (cases_lt y (from + n)) [
        | inl within ↦ zeros y above within ∙ sym (wiped-in words from n y m above within)
        | inr behind ↦
            let out : from ≤ y → y < from + n → ⊥ = λ a b. absurd (omega arith) in
            others y out ∙ sym (wiped-out words from n y out)
      ]
    ])

-- over a port that is `with s` where the space is s, step by step
module _ {P : Type 0} (leads : P → List Step → P → Type 0) (sees : P → Step → Type 0) (with : Contents → P)
    (step : (s t : Contents) (es : List Step) → Led s es t → leads (with s) es (with t)) (seen : (s : Contents) (x : ℕ) → sees (with s) (OnBlock (Zero x))) where
  abbrev wiped_space : Contents → ℕ → ℕ → Contents
  wiped_space s from n = record s { words = wiped s.words from n }

  one : (s : Contents) (from n : ℕ) → from + suc n ≤ length s.words →
      Makes leads sees (with (wiped_space s from n)) (OnBlock (Zero (from + n)) ∷ []) (with (wiped_space s from (suc n)))
  one s from n m = (
    with (wiped_space s from (suc n)),
    step (wiped_space s from n) (wiped_space s from (suc n)) (OnBlock (Zero (from + n)) ∷ [])
        (stored_zero (wiped_space s from n) (wiped_space s from (suc n)) (from + n) (omega (arith, wiped-length s.words from n)) refl),
    seen (wiped_space s from n) (from + n),
    refl,
  )

  all : (s : Contents) (from n : ℕ) → from + n ≤ length s.words → Makes leads sees (with s) (zero_steps from n) (with (wiped_space s from n))
  all s from zero m = refl
  all s from (suc n) m = makes_then leads sees (with s) (zero_steps from n) (with (wiped_space s from n)) (OnBlock (Zero (from + n)) ∷ [])
      (with (wiped_space s from (suc n))) (all s from n (omega arith)) (one s from n m)

  pub makes_zero : (s t : Contents) (from n : ℕ) → from + n ≤ length s.words → length t.words ≡ length s.words →
      ((y : ℕ) → from ≤ y → y < from + n → word t y ≡ 0) → ((y : ℕ) → (from ≤ y → y < from + n → ⊥) → word t y ≡ word s y) →
      t ≡ record s { words = t.words } → Makes leads sees (with s) (zero_steps from n) (with t)
  makes_zero s t from n m same zeros others still =
      let e : t ≡ wiped_space s from n = still ∙ ap (λ (words : List ℕ). record s { words = words }) (wiped-is s.words t.words from n m same zeros others) in
      subst (λ (u : Contents). Makes leads sees (with s) (zero_steps from n) (with u)) (sym e) (all s from n m)
