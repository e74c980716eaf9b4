use Rattle.std.proofs.Common.{◌≡◌, ℕ, ◌+◌, ◌*◌, ◌%◌, ◌^◌, ◌<◌, length, sym, ap, ◌∙◌, subst, slice_index, slice_set, arith}
use Rattle.std.proofs.Math.Nat.{mod-eq_of_lt}
use Rattle.std.proofs.lemmas.Nat.{pow_below}
use Rattle.std.specs.Int.Bits.{bit_or}
use Rattle.sg_words.specs.Address.{byte_at, word_at}
use Rattle.sg_words.specs.Blocks.{IsSizeClass, slot_base}
use Rattle.sg_words.specs.declared.layout.Layout.{Layout as Sections}
use Rattle.sg_words.specs.declared.steps.BlockWord.TheVariants.{Swept}
use Rattle.sg_words.proofs.Blocks.{slot_size-class, class_slots}
use Rattle.sg_graph.specs.Book.{slot_words}
use Rattle.sg_space.specs.Space.{Contents}
use Rattle.sg_placing.specs.Placing.{HasClearSlot, LacksClearSlot, FillsSlot, headed}
use Rattle.sg_placing.proofs.placing.place_in_slot.Goals as goal

pub clear_slot-requires-clause-class : goal.clear_slot-requires-clause-class
clear_slot-requires-clause-class c = subst IsSizeClass (sym c.in_ok-size.ensures.2) (slot_size-class (c.args.fields + 2))

pub overflow_shl-slot : goal.overflow_shl-slot
overflow_shl-slot c =
    let class = subst IsSizeClass (sym c.in_ok-size.ensures.2) (slot_size-class (c.args.fields + 2)) in
    let most = (class_slots c.in_ok-size.size class).1 in
    let fits = c.in-Some.ensures.fits in
    omega arith

pub slot_address-at-requires-clause-class : goal.slot_address-at-requires-clause-class
slot_address-at-requires-clause-class c = subst IsSizeClass (sym c.in_ok-size.ensures.2) (slot_size-class (c.args.fields + 2))

-- what the writes make of the space
fills : (class fields block slot : ℕ) (s u v t : Contents) (l : Sections) (a used : ℕ) → block < length s.blocks → HasClearSlot s (slot_words fields) block slot →
    ((c : ℕ) → c < block → LacksClearSlot s (slot_words fields) c) → a ≡ byte_at (slot_base l block (slot_words fields) slot) → l ≡ s.layout →
    u ≡ record s { blocks = slice_set s.blocks block (Swept (slot_words fields)) } → used ≡ slice_index u.used block →
    v ≡ record u { used = slice_set u.used block (bit_or used (2 ^ slot)) } → t ≡ headed v (word_at a) class fields → FillsSlot s class fields t a
fills class fields block slot s u v t l a used there clear below at sections first was second after = record {
  block = block;
  slot = slot;
  there = there;
  clear = clear;
  below = below;
  at = at ∙ ap (λ (l : Sections). byte_at (slot_base l block (slot_words fields) slot)) sections;
  after = after ∙ ap (λ (w : Contents). headed w (word_at a) class fields) (second ∙ ap (λ n. record u { used = slice_set u.used block (bit_or n (2 ^ slot)) }) was
      ∙ ap (λ (w : Contents). record w { used = slice_set w.used block (bit_or (slice_index w.used block) (2 ^ slot)) }) first);
}

-- one bit, as it is shifted
shifted : (i : ℕ) → i < 64 → 1 * 2 ^ i % 2 ^ 64 ≡ 2 ^ i
shifted i l = let below = pow_below i 64 l in let e : 1 * 2 ^ i ≡ 2 ^ i = omega arith in ap (λ n. n % 2 ^ 64) e ∙ mod-eq_of_lt below

pub returns-in-Some : goal.returns-in-Some
returns-in-Some c =
    let s = c.args.space.now in
    let r = c.loop-block.space in
    let u = c.set_block.new.self in
    let block = c.loop-block.block in
    let slot = c.in-Some.slot in
    let size = c.in_ok-size.size in
    let layout = c.layout-layout.result in
    let same : r ≡ s = c.loop-block.invariant.same in
    let e : size ≡ slot_words c.args.fields = c.in_ok-size.ensures.2 in
    let class = subst IsSizeClass (sym c.in_ok-size.ensures.2) (slot_size-class (c.args.fields + 2)) in
    let most = (class_slots size class).1 in
    let fit = c.in-Some.ensures.fits in
    let bit : 1 * 2 ^ slot % 2 ^ 64 ≡ 2 ^ slot = shifted slot (omega arith) in
    let number : length s.blocks ≡ s.layout.blocks = c.requires.contents.blocks in
    let sections : layout ≡ s.layout = c.layout-layout.ensures.layout in
    let blocks : layout.blocks ≡ s.layout.blocks = ap (λ (l : Sections). l.blocks) sections in
    let below : block < layout.blocks = c.loop-block-test.true in
    record {
      placed = fills c.args.class c.args.fields block slot s u c.set_used.new.self c.write_header.new.space layout c.slot_address-at.result c.used.result
          (omega arith)
          (subst (λ (z : ℕ). HasClearSlot s z block slot) e (subst (λ (w : Contents). HasClearSlot w size block slot) same c.in-Some.ensures))
          c.loop-block.invariant.passed
          (c.slot_address-at.ensures ∙ ap (λ (z : ℕ). byte_at (slot_base layout block z slot)) e) sections
          (c.set_block.ensures ∙ ap (λ (w : Contents). record w { blocks = slice_set w.blocks block (Swept size) }) same
          ∙ ap (λ (z : ℕ). record s { blocks = slice_set s.blocks block (Swept z) }) e)
          c.used.ensures (c.set_used.ensures ∙ ap (λ (m : ℕ). record u { used = slice_set u.used block (bit_or c.used.result m) }) bit) c.write_header.ensures;
    }
