-- Blocks that a search passes over stay so while their occupancies grow.
use Rattle.std.proofs.Common.{◌≡◌, ◌≢◌, ℕ, ◌<◌, ◌≤◌, length, slice_set, get_or, set, sym, ap, ◌∙◌, subst, inl, inr, arith}
use Rattle.std.proofs.Common.{get_or-set_same, get_or-set_other}
use Rattle.std.proofs.lemmas.Bool.{cases_eq}
use Rattle.std.proofs.lemmas.Nat.Bits.{bit_at_or, bit_at-lt}
use Rattle.std.proofs.Math.Nat.{le-max_left}
use Rattle.std.specs.Int.{bit_at}
use Rattle.std.specs.Int.Bits.{bit_or}
use Rattle.sg_words.specs.declared.steps.BlockWord.{BlockWord}
use Rattle.sg_words.specs.declared.steps.BlockWord.TheVariants.{Free}
use Rattle.sg_space.specs.declared.space.Space.TheInside.{Inside}
use Rattle.sg_space.specs.Space.{Contents}
use Rattle.sg_space.specs.Inside.{contents_of, IsSpace}
use Rattle.sg_space.specs.Standing.{block_in, used_in}
use Rattle.sg_space.specs.Passed.{IsPassed, OfOtherSize, IsFull, IsPassedIn}

-- a block stays so where each set bit of its occupancy stays set
grows : (state : BlockWord) (used more z : ℕ) → ((i : ℕ) → bit_at used i ≡ 1 → bit_at more i ≡ 1) → IsPassed state used z → IsPassed state more z
grows state used more z keeps (OfOtherSize size is other) = OfOtherSize size is other
grows state used more z keeps (IsFull is full) = IsFull is (λ i l. keeps i (full i l))

pub still_passed : (s : Contents) (b more z c : ℕ) → b < length s.used → ((i : ℕ) → bit_at (used_in s b) i ≡ 1 → bit_at more i ≡ 1) →
    IsPassedIn s z c → IsPassedIn (record s { used = slice_set s.used b more }) z c
still_passed s b more z c there keeps is = elim (cases_eq c b) [
  | inl e ↦
      let now : used_in (record s { used = slice_set s.used b more }) c ≡ more =
      ap (λ i. get_or (set s.used b more) i 0) e ∙ get_or-set_same s.used b more 0 there in
      subst (λ u. IsPassed (block_in s c) u z) (sym now)
      (grows (block_in s c) (used_in s c) more z (λ i set. keeps i (subst (λ d. bit_at (used_in s d) i ≡ 1) e set)) is)
  | inr n ↦ subst (λ u. IsPassed (block_in s c) u z) (sym (get_or-set_other s.used b c more 0 n)) is
]

-- a mask that is joined with another keeps its bits
pub or_keeps : (used mask i : ℕ) → bit_at used i ≡ 1 → bit_at (bit_or used mask) i ≡ 1
or_keeps used mask i set =
    let least : 1 ≤ bit_at (bit_or used mask) i = subst (λ n. n ≤ bit_at (bit_or used mask) i) set
    (subst (λ n. bit_at used i ≤ n) (sym (bit_at_or used mask i)) (le-max_left (bit_at used i) (bit_at mask i))) in
    let most = bit_at-lt (bit_or used mask) i in
    omega (arith, least, most)

-- a block stays so where another one's word, or its occupancy, is set anew
pub block_elsewhere : (s : Contents) (b : ℕ) (state : BlockWord) (z c : ℕ) → c ≢ b → IsPassedIn s z c →
    IsPassedIn (record s { blocks = slice_set s.blocks b state }) z c
block_elsewhere s b state z c n is = subst (λ w. IsPassed w (used_in s c) z) (sym (get_or-set_other s.blocks b c state Free n)) is

pub used_elsewhere : (s : Contents) (b mask z c : ℕ) → c ≢ b → IsPassedIn s z c → IsPassedIn (record s { used = slice_set s.used b mask }) z c
used_elsewhere s b mask z c n is = subst (λ u. IsPassed (block_in s c) u z) (sym (get_or-set_other s.used b c mask 0 n)) is

-- how far blocks are passed over for a size may be kept anew
pub keeps_passed : (a : Inside) (size at : ℕ) → IsSpace a → ((k : ℕ) → k < at → IsPassedIn (contents_of a) size k) → at ≤ length a.blocks.items →
    IsSpace (record a { passed_size = size; passed = at })
keeps_passed a size at inv all l = record {
  contents = inv.contents;
  room_next = inv.room_next;
  room_ends = inv.room_ends;
  room_registered = inv.room_registered;
  within = inv.within;
  clean = inv.clean;
  passed = all;
  few = l;
}
