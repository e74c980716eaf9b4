-- Size classes; slots lie in their blocks and apart; and the bits of a mask.
use Rattle.std.proofs.Common.{◌≡◌, ◌≢◌, ℕ, zero, suc, ◌+◌, ◌*◌, ◌/◌, ◌^◌, ◌≤◌, ◌<◌, ◌⊎◌, nat_lt, if◌then◌else◌, [], ◌∷◌, sym, refl, ap, ◌∙◌}
use Rattle.std.proofs.Common.{subst, inl, inr, arith, le_refl}
use Rattle.std.proofs.lemmas.Bool.{cases_eq, cases_lt, cond-true, cond-false, lt-ltb, le-ltb}
use Rattle.std.proofs.lemmas.Nat.{mul-le}
use Rattle.std.proofs.Math.Nat.{mul-div-le}
use Rattle.std.specs.Int.{bit_at}
use Rattle.std.specs.Int.Bits.{bit_or, or_add_and, bit_and}
use Rattle.std.proofs.lemmas.Nat.Bits.{bit_at_or, bit_at-pow_same, bit_at-pow_other, bit_at-lt, and_pow}
use Rattle.sg_words.specs.Blocks.{IsSizeClass, slot_size, slots, block_from, slot_from}
use Rattle.sg_words.proofs.Members.{has-cases, in-one}

-- what holds of each size class
pub each_class : (P : ℕ → Type 0) → P 4 → P 6 → P 8 → P 12 → P 16 → P 24 → P 32 → P 48 → P 64 → (z : ℕ) → IsSizeClass z → P z
each_class P p4 p6 p8 p12 p16 p24 p32 p48 p64 z h = elim (has-cases z 4 (6 ∷ 8 ∷ 12 ∷ 16 ∷ 24 ∷ 32 ∷ 48 ∷ 64 ∷ []) h) [
  | inl e ↦ subst P (sym e) p4
  | inr h ↦ elim (has-cases z 6 (8 ∷ 12 ∷ 16 ∷ 24 ∷ 32 ∷ 48 ∷ 64 ∷ []) h) [
    | inl e ↦ subst P (sym e) p6
    | inr h ↦ elim (has-cases z 8 (12 ∷ 16 ∷ 24 ∷ 32 ∷ 48 ∷ 64 ∷ []) h) [
      | inl e ↦ subst P (sym e) p8
      | inr h ↦ elim (has-cases z 12 (16 ∷ 24 ∷ 32 ∷ 48 ∷ 64 ∷ []) h) [
        | inl e ↦ subst P (sym e) p12
        | inr h ↦ elim (has-cases z 16 (24 ∷ 32 ∷ 48 ∷ 64 ∷ []) h) [
          | inl e ↦ subst P (sym e) p16
          | inr h ↦ elim (has-cases z 24 (32 ∷ 48 ∷ 64 ∷ []) h) [
            | inl e ↦ subst P (sym e) p24
            | inr h ↦ elim (has-cases z 32 (48 ∷ 64 ∷ []) h) [
              | inl e ↦ subst P (sym e) p32
              | inr h ↦ elim (has-cases z 48 (64 ∷ []) h) [
                | inl e ↦ subst P (sym e) p48
                | inr h ↦ subst P (sym (in-one z 64 h)) p64
              ]
            ]
          ]
        ]
      ]
    ]
  ]
]

-- a size class is from 4 to 64, and a block has from 4 to 64 slots of it
pub class_bounds : (z : ℕ) → IsSizeClass z → (4 ≤ z) × (z ≤ 64)
class_bounds = each_class (λ z. (4 ≤ z) × (z ≤ 64))
    (omega arith, omega arith) (omega arith, omega arith) (omega arith, omega arith) (omega arith, omega arith) (omega arith, omega arith)
    (omega arith, omega arith) (omega arith, omega arith) (omega arith, omega arith) (omega arith, omega arith)

pub class_slots : (z : ℕ) → IsSizeClass z → (4 ≤ slots z) × (slots z ≤ 64)
class_slots = each_class (λ z. (4 ≤ slots z) × (slots z ≤ 64))
    (omega arith, omega arith) (omega arith, omega arith) (omega arith, omega arith) (omega arith, omega arith) (omega arith, omega arith)
    (omega arith, omega arith) (omega arith, omega arith) (omega arith, omega arith) (omega arith, omega arith)

-- by the test of a size class
pick : (P : ℕ → Type 0) (n k a b : ℕ) → (n < k → P a) → (k ≤ n → P b) → P (if nat_lt n k then a else b)
pick P n k a b f g = elim (cases_lt n k) [
  | inl l ↦ subst P (sym (cond-true (nat_lt n k) a b (lt-ltb n k l))) (f l)
  | inr l ↦ subst P (sym (cond-false (nat_lt n k) a b (le-ltb n k l))) (g l)
]

-- what holds of each size class for the numbers of words that take it
pub by_size : (P : ℕ → Type 0) (n : ℕ) → (n ≤ 4 → P 4) → (4 < n → n ≤ 6 → P 6) → (6 < n → n ≤ 8 → P 8) → (8 < n → n ≤ 12 → P 12) →
    (12 < n → n ≤ 16 → P 16) → (16 < n → n ≤ 24 → P 24) → (24 < n → n ≤ 32 → P 32) → (32 < n → n ≤ 48 → P 48) → (48 < n → P 64) → P (slot_size n)
unfolding slot_size
by_size P n f4 f6 f8 f12 f16 f24 f32 f48 f64 =
    pick P n 5 _ _ (λ l. f4 (omega arith)) (λ m. pick P n 7 _ _ (λ l. f6 (omega arith) (omega arith)) (λ m.
    pick P n 9 _ _ (λ l. f8 (omega arith) (omega arith)) (λ m. pick P n 13 _ _ (λ l. f12 (omega arith) (omega arith)) (λ m.
    pick P n 17 _ _ (λ l. f16 (omega arith) (omega arith)) (λ m. pick P n 25 _ _ (λ l. f24 (omega arith) (omega arith)) (λ m.
    pick P n 33 _ _ (λ l. f32 (omega arith) (omega arith)) (λ m. pick P n 49 _ _ (λ l. f48 (omega arith) (omega arith)) (λ m. f64 (omega arith)))))))))

pub slot_size-class : (n : ℕ) → IsSizeClass (slot_size n)
slot_size-class n = by_size IsSizeClass n
    (λ a. refl) (λ a b. refl) (λ a b. refl) (λ a b. refl) (λ a b. refl) (λ a b. refl) (λ a b. refl) (λ a b. refl) (λ a. refl)

pub slot_size-holds : (n : ℕ) → n ≤ 64 → n ≤ slot_size n
slot_size-holds n m = by_size (λ z. n ≤ z) n (λ a. a) (λ a b. b) (λ a b. b) (λ a b. b) (λ a b. b) (λ a b. b) (λ a b. b) (λ a b. b) (λ a. m)

-- a size class is none of the numbers between two
Between : ℕ → Type 0
Between y = ((y ≤ 4) ⊎ (6 ≤ y)) × ((y ≤ 6) ⊎ (8 ≤ y)) × ((y ≤ 8) ⊎ (12 ≤ y)) × ((y ≤ 12) ⊎ (16 ≤ y)) × ((y ≤ 16) ⊎ (24 ≤ y)) × ((y ≤ 24) ⊎ (32 ≤ y)) ×
    ((y ≤ 32) ⊎ (48 ≤ y)) × ((y ≤ 48) ⊎ (64 ≤ y))

between : (z : ℕ) → IsSizeClass z → Between z
unfolding Between
between = each_class Between
    (inl (omega arith), inl (omega arith), inl (omega arith), inl (omega arith), inl (omega arith), inl (omega arith), inl (omega arith), inl (omega arith))
    (inr (omega arith), inl (omega arith), inl (omega arith), inl (omega arith), inl (omega arith), inl (omega arith), inl (omega arith), inl (omega arith))
    (inr (omega arith), inr (omega arith), inl (omega arith), inl (omega arith), inl (omega arith), inl (omega arith), inl (omega arith), inl (omega arith))
    (inr (omega arith), inr (omega arith), inr (omega arith), inl (omega arith), inl (omega arith), inl (omega arith), inl (omega arith), inl (omega arith))
    (inr (omega arith), inr (omega arith), inr (omega arith), inr (omega arith), inl (omega arith), inl (omega arith), inl (omega arith), inl (omega arith))
    (inr (omega arith), inr (omega arith), inr (omega arith), inr (omega arith), inr (omega arith), inl (omega arith), inl (omega arith), inl (omega arith))
    (inr (omega arith), inr (omega arith), inr (omega arith), inr (omega arith), inr (omega arith), inr (omega arith), inl (omega arith), inl (omega arith))
    (inr (omega arith), inr (omega arith), inr (omega arith), inr (omega arith), inr (omega arith), inr (omega arith), inr (omega arith), inl (omega arith))
    (inr (omega arith), inr (omega arith), inr (omega arith), inr (omega arith), inr (omega arith), inr (omega arith), inr (omega arith), inr (omega arith))

-- no lesser size class holds n words
pub slot_size-least : (n z : ℕ) → IsSizeClass z → n ≤ z → slot_size n ≤ z
unfolding Between
slot_size-least n z h l = let c = between z h in by_size (λ y. y ≤ z) n
    (λ a. omega (arith, class_bounds z h)) (λ a b. omega (arith, c.0)) (λ a b. omega (arith, c.1)) (λ a b. omega (arith, c.2)) (λ a b. omega (arith, c.3))
    (λ a b. omega (arith, c.4)) (λ a b. omega (arith, c.5)) (λ a b. omega (arith, c.6)) (λ a. omega (arith, c.7))

-- each size class has slots
pub has_slots : (n : ℕ) → 0 < slots (slot_size n)
has_slots n = let h = class_slots (slot_size n) (slot_size-class n) in let l = h.0 in omega arith

-- multiples grow
grows : (z i j : ℕ) → i < j → z * i + z ≤ z * j
grows z i j l = let h = mul-le z (i + 1) z j (le_refl z) (omega arith) in omega arith

-- a slot ends in its block
pub slot_fits : (z i : ℕ) → i < slots z → z * i + z ≤ 256
slot_fits z i l = let h = grows z i (256 / z) l in let u = mul-div-le 256 z in omega arith

module _ (base : ℕ) where
  -- a word of a slot is one of its block
  pub slot_in : (c z i x : ℕ) → i < slots z → slot_from base c z i ≤ x → x < slot_from base c z i + z → (block_from base c ≤ x) × (x < block_from base c + 256)
  slot_in c z i x l a q = let u = slot_fits z i l in (omega arith, omega arith)

  -- a word is in one slot of a size, and in one block
  pub slot_once : (c z i j x : ℕ) → slot_from base c z i ≤ x → x < slot_from base c z i + z → slot_from base c z j ≤ x → x < slot_from base c z j + z → i ≡ j
  slot_once c z i j x a q r t = elim (cases_eq i j) [
    | inl e ↦ e
    | inr n ↦ elim (cases_lt i j) [
      | inl l ↦ absurd (let h = grows z i j l in omega arith)
      | inr l ↦ absurd (let h = grows z j i (omega arith) in omega arith)
    ]
  ]

  pub block_once : (b c z u i j x : ℕ) → i < slots z → j < slots u → slot_from base b z i ≤ x → x < slot_from base b z i + z →
      slot_from base c u j ≤ x → x < slot_from base c u j + u → b ≡ c
  block_once b c z u i j x l m a q r t = let f = slot_fits z i l in let g = slot_fits u j m in omega arith

  -- a word is in one of the first n slots, or in none of them
  pub find_slot : (c z n x : ℕ) → ((i : ℕ) × (i < n) × (slot_from base c z i ≤ x) × (x < slot_from base c z i + z)) ⊎
      ((i : ℕ) → i < n → slot_from base c z i ≤ x → x < slot_from base c z i + z → ⊥)
  find_slot c z zero x = inr (λ i l a q. absurd (omega arith))
  find_slot c z (suc n) x = elim (find_slot c z n x) [
    | inl h ↦ inl (let l = h.1 in (h.0, omega arith, h.2, h.3))
    | inr none ↦ elim (in_or_not x (slot_from base c z n) z) [
      | inl h ↦ inl (n, omega arith, h.0, h.1)
      | inr out ↦ inr (λ i l a q. elim (cases_eq i n) [
        | inl e ↦ let u : z * i ≡ z * n = ap (λ k. z * k) e in elim out [ inl o ↦ absurd (omega arith) | inr o ↦ absurd (omega arith) ]
        | inr ne ↦ none i (omega arith) a q
      ])
    ]
  ]
    where
      in_or_not : (x y s : ℕ) → ((y ≤ x) × (x < y + s)) ⊎ ((x < y) ⊎ (y + s ≤ x))
      in_or_not x y s = elim (cases_lt x y) [
        | inl l ↦ inr (inl l)
        | inr l ↦ elim (cases_lt x (y + s)) [ inl m ↦ inl (l, m) | inr m ↦ inr (inr m) ]
      ]

-- bits after one was set
pub bit_set : (v i : ℕ) → bit_at (bit_or v (2 ^ i)) i ≡ 1
bit_set v i = let e = bit_at_or v (2 ^ i) i in let f = bit_at-pow_same i in let l = bit_at-lt v i in omega arith

pub bit_same : (v i j : ℕ) → j ≢ i → bit_at (bit_or v (2 ^ i)) j ≡ bit_at v j
bit_same v i j n = let e = bit_at_or v (2 ^ i) j in let f = bit_at-pow_other i j n in omega arith

pub bit_kept : (v i j : ℕ) → bit_at v j ≡ 1 → bit_at (bit_or v (2 ^ i)) j ≡ 1
bit_kept v i j q = elim (cases_eq j i) [ inl e ↦ ap (bit_at (bit_or v (2 ^ i))) e ∙ bit_set v i | inr n ↦ bit_same v i j n ∙ q ]

pub bit_again : (v i : ℕ) → bit_at v i ≡ 1 → bit_or v (2 ^ i) ≡ v
bit_again v i q = let e = or_add_and v (2 ^ i) in let f : bit_and v (2 ^ i) ≡ 2 ^ i = and_pow v i ∙ ap (λ b. b * 2 ^ i) q ∙ omega arith in omega arith

-- a bit is 1 or 0
pub bit_cases : (v i : ℕ) → (bit_at v i ≡ 1) ⊎ (bit_at v i ≡ 0)
bit_cases v i = elim (cases_eq (bit_at v i) 1) [ inl e ↦ inl e | inr n ↦ inr (let l = bit_at-lt v i in omega arith) ]
