use Rattle.std.proofs.Common.{◌≡◌, ℕ, ◌+◌, ◌-◌, ◌*◌, ◌/◌, ◌<◌, ◌≤◌, sym, ap, ◌∙◌, subst, inl, inr, arith}
use Rattle.std.proofs.Math.Nat.{mul-div-le}
use Rattle.std.specs.Int.{bit_at}
use Rattle.std.proofs.lemmas.Nat.Bits.{shr_and_one}
use Rattle.sg_words.specs.Sections.{old_base}
use Rattle.sg_words.specs.Blocks.{is_taken, block_base, slot_base}
use Rattle.sg_words.proofs.Blocks.{class_bounds, bit_cases}
use Rattle.sg_space.specs.Standing.{block_in, used_in, marks_in, IsFront, HoldsWord}
use Rattle.sg_space.proofs.Slots.{IsIn, slot_with, slot_free, slot_front, slot_behind, none_weaker}
use Rattle.sg_space.proofs.space.Space.in_slot.Goals as goal
use Rattle.sg_space.proofs.space.Space.in_slot.Goals.{After-old_word}

base_is : (c : goal.After-old_word) → c.old_word.result + 256 * c.args.block ≡ block_base c.args.self.now.layout c.args.block
base_is c = ap (λ (n : ℕ). n + 256 * c.args.block) (c.old_word.ensures ∙ ap old_base c.layout.ensures.layout)

size_some : (c : goal.After-old_word) → (4 ≤ c.args.size) × (c.args.size ≤ 64)
size_some c = class_bounds c.args.size ((c.requires.sound.1.blocks c.args.block c.requires.there).sized c.args.size c.requires.sized)

is_in : (c : goal.After-old_word) → IsIn c.args.self.now c.args.block c.args.size c.args.x
is_in c = record {
  there = c.requires.there;
  sized = c.requires.sized;
  some = let some = (size_some c).0 in
      omega arith;
  from = c.requires.from;
  to = c.requires.to;
}

few_slots : (y z : ℕ) → 4 ≤ z → y < 256 → y / z < 64
few_slots y z some l = let h = mul-div-le y z in grind (arith, h)

pub nonzero_div-slot : goal.nonzero_div-slot
nonzero_div-slot c = let some = (size_some c).0 in omega arith

pub overflow_shr-mask : goal.overflow_shr-mask
overflow_shr-mask c =
    let e = base_is c in
    let to = c.requires.to in
    few_slots _ _ (size_some c).0 (omega arith)

taken : (c : goal.After-old_word) (b : ℕ) → bit_at c.args.mask (slot_with c.args.self.now c.args.block c.args.size c.args.x) ≡ b →
    is_taken (block_in c.args.self.now c.args.block) (used_in c.args.self.now c.args.block) (marks_in c.args.self.now c.args.block)
    (slot_with c.args.self.now c.args.block c.args.size c.args.x) ≡ b
taken c b e = sym (c.requires.mask _) ∙ e

at_front : (c : goal.After-old_word) → c.old_word.result + 256 * c.args.block + c.args.size *
    ((c.args.x - (c.old_word.result + 256 * c.args.block)) / c.args.size)
    ≡ slot_base c.args.self.now.layout c.args.block c.args.size (slot_with c.args.self.now c.args.block c.args.size c.args.x)
at_front c = ap (λ (n : ℕ). n + c.args.size * ((c.args.x - n) / c.args.size)) (base_is c)

pub reaching-requires-clause-front : goal.reaching-requires-clause-front
reaching-requires-clause-front c =
    let o = (goal.at.reaching-requires-clause-front c).After-old_word in
    let slot = slot_with c.args.self.now c.args.block c.args.size c.args.x in
    let e = ap (λ (n : ℕ). (c.args.x - n) / c.args.size) (base_is o) in
    let set : bit_at c.args.mask slot ≡ 1 = elim (bit_cases c.args.mask slot) [
      | inl b ↦ b
      | inr b ↦ absurd (c.if-mask-slot-eq0.false (shr_and_one c.args.mask _ ∙ ap (bit_at c.args.mask) e ∙ b))
    ] in
    subst (IsFront c.args.self.now) (sym (at_front o)) (slot_front c.args.self.now c.args.block c.args.size c.args.x (is_in o) (taken o 1 set))

pub returns-then-mask-slot-eq0 : goal.returns-then-mask-slot-eq0
returns-then-mask-slot-eq0 c =
    let o = (goal.at.returns-then-mask-slot-eq0 c).After-old_word in
    let e = ap (λ (n : ℕ). (c.args.x - n) / c.args.size) (base_is o) in
    slot_free c.args.self.now c.args.block c.args.size c.args.x (is_in o)
    (taken o 0 (sym (ap (bit_at c.args.mask) e) ∙ sym (shr_and_one c.args.mask _) ∙ c.if-mask-slot-eq0.true))

pub returns-else-mask-slot-eq0 : goal.returns-else-mask-slot-eq0
returns-else-mask-slot-eq0 c =
    let o = (goal.at.returns-else-mask-slot-eq0 c).After-old_word in
    none_weaker (HoldsWord c.args.self.now c.args.x) c.reaching.result (slot_behind c.args.self.now c.args.block c.args.size c.args.x (is_in o) _ (at_front o))
    c.reaching.ensures
