-- Steps that zero words, and what a list of steps makes of words.
use Rattle.std.proofs.Common.{◌≡◌, ℕ, zero, suc, ◌+◌, ◌≤◌, ◌<◌, ◌⊎◌, List, [], ◌∷◌, ◌++◌, refl, sym, ap, ◌∙◌, subst, inl, inr, arith}
use Rattle.std.proofs.lemmas.Bool.{cases_eq}
use Rattle.sg_words.specs.declared.steps.BlockStep.TheVariants.{Zero}
use Rattle.sg_words.specs.declared.steps.Step.{Step}
use Rattle.sg_words.specs.declared.steps.Step.TheVariants.{OnBlock}
use Rattle.sg_words.specs.Words.{Words, put, replayed, after_step}
use Rattle.sg_words.specs.Sweeps.{zero_steps}
use Rattle.sg_words.proofs.Puts.{put-at, put-other}

pub replayed_then : (w : Words) (es fs : List Step) → replayed w (es ++ fs) ≡ replayed (replayed w es) fs
replayed_then w [] fs = refl
replayed_then w (e ∷ es) fs = replayed_then (after_step w e) es fs

-- these words of the heap became zero, and nothing else has changed
pub record ZeroesIn (w : Words) (In : ℕ → Type 0) (v : Words) : Type 0 where
  pub rest : v ≡ record w { word = v.word }
  pub zero : (x : ℕ) → In x → v.word x ≡ 0
  pub kept : (x : ℕ) → (In x → ⊥) → v.word x ≡ w.word x

pub zeroes_none : (w : Words) (In : ℕ → Type 0) → ((x : ℕ) → In x → ⊥) → ZeroesIn w In w
zeroes_none w In none = record { rest = refl; zero = λ x i. absurd (none x i); kept = λ x n. refl }

-- one word, and more words
pub zeroes_one : (w : Words) (y : ℕ) → ZeroesIn w (λ x. x ≡ y) (record w { word = put w.word y 0 })
zeroes_one w y = record { rest = refl; zero = λ x e. put-at w.word y 0 x e; kept = λ x n. put-other w.word y 0 x n }

pub zeroes_both : (w v u : Words) (A B C : ℕ → Type 0) → ((x : ℕ) → C x → A x ⊎ B x) → ((x : ℕ) → A x → C x) → ((x : ℕ) → B x → C x) →
    ZeroesIn w A v → ZeroesIn v B u → ZeroesIn w C u
zeroes_both w v u A B C either first second h k = record {
  rest = k.rest ∙ ap (λ (z : Words). record z { word = u.word }) h.rest;
  zero = λ x c. elim (cases_eq (u.word x) 0) [
    | inl e ↦ e
    | inr n ↦ elim (either x c) [
      | inl a ↦ k.kept x (λ b. n (k.zero x b)) ∙ h.zero x a
      | inr b ↦ k.zero x b
    ]
  ];
  kept = λ x out. k.kept x (λ b. out (second x b)) ∙ h.kept x (λ a. out (first x a));
}

-- n words from `from` on
abbrev pub IsFrom : ℕ → ℕ → ℕ → Type 0
IsFrom from n x = (from ≤ x) × (x < from + n)

pub zeroes_steps : (w : Words) (from n : ℕ) → ZeroesIn w (IsFrom from n) (replayed w (zero_steps from n))
zeroes_steps w from zero = zeroes_none w (IsFrom from 0) (λ x i. let a = i.0 in let b = i.1 in absurd (omega arith))
zeroes_steps w from (suc n) = subst (λ (v : Words). ZeroesIn w (IsFrom from (suc n)) v)
    (sym (replayed_then w (zero_steps from n) (OnBlock (Zero (from + n)) ∷ [])))
    (zeroes_both w (replayed w (zero_steps from n)) (replayed (replayed w (zero_steps from n)) (OnBlock (Zero (from + n)) ∷ []))
    (IsFrom from n) (λ x. x ≡ from + n) (IsFrom from (suc n))
    (λ x c. let a = c.0 in let b = c.1 in elim (cases_eq x (from + n)) [ inl e ↦ inr e | inr d ↦ inl (a, omega arith) ])
    (λ x a. let l = a.0 in let m = a.1 in (l, omega arith)) (λ x e. (omega arith, omega arith))
    (zeroes_steps w from n) (zeroes_one (replayed w (zero_steps from n)) (from + n)))
