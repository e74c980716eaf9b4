use Rattle.std.proofs.Common.{◌≡◌, ◌∙◌, ℕ, ◌+◌, ◌*◌, ◌%◌, ◌^◌, ◌<◌, List, length, slice_index, slice_set, refl, sym, ap, subst, drop, arith}
use Rattle.std.proofs.Math.ListN.{length-set}
use Rattle.std.proofs.Math.Nat.{mod-eq_of_lt}
use Rattle.std.proofs.lemmas.Nat.{pow_below}
use Rattle.std.proofs.lemmas.List.{get_or_default}
use Rattle.std.specs.Int.Bits.{bit_or}
use Rattle.sg_words.specs.declared.steps.BlockWord.{BlockWord}
use Rattle.sg_words.proofs.Blocks.{class_slots}
use Rattle.sg_room.specs.Slots.{HasNoneClear, IsFirstClear}
use Rattle.sg_room.proofs.Slotting.{class_at, Lacks, lacks_now, lacks_none, lacks_by_program, lacks_behind, words_then}
use Rattle.sg_room.proofs.slots.lacks_slots.Goals as goal

pub loop-size-init : goal.loop-size-init
loop-size-init c =
    let words = c.in_ok-words.ensures.words in
    let used = c.in_ok-used.ensures in
    let blocks = c.in_ok-words.ensures.contents.blocks in
    let masks = c.in_ok-words.ensures.contents.used in
    record {
      as_many = ap length words ∙ blocks ∙ sym masks ∙ sym (ap length used);
      lacks = (
        λ lacks. subst (λ (m : List ℕ). Lacks c.in_ok-words.words.items m c.args.sizes.now) (sym used)
            (subst (λ (w : List BlockWord). Lacks w c.args.space.now.used c.args.sizes.now) (sym words) lacks),
        λ lacks. subst (λ (w : List BlockWord). Lacks w c.args.space.now.used c.args.sizes.now) words
            (subst (λ (m : List ℕ). Lacks c.in_ok-words.words.items m c.args.sizes.now) used lacks),
      );
    }

pub returns-in-None : goal.returns-in-None
returns-in-None c =
    let size = slice_index c.args.sizes.now c.loop-size.size-index in
    let none : HasNoneClear c.loop-size.words.items c.loop-size.used.items size =
    subst (λ (m : List ℕ). HasNoneClear c.loop-size.words.items m size) c.deref-in-loop-size.ensures.value
    (subst (λ (w : List BlockWord). HasNoneClear w c.deref-in-loop-size.result.now size) c.deref.ensures.value c.in-None.ensures) in
    record {
      told = λ p g b holds. (
        λ _. (lacks_by_program c.args.space.now c.args.sizes.now p g b c.in_ok-words.ensures.contents holds).0 (c.loop-size.invariant.lacks.1
            (lacks_now c.loop-size.words.items c.loop-size.used.items c.args.sizes.now c.loop-size.size-index c.loop-size-test.true none)),
        λ _. refl,
      );
    }

-- one bit, as it is shifted
shifted : (i : ℕ) → i < 64 → 1 * 2 ^ i % 2 ^ 64 ≡ 2 ^ i
shifted i l = let below = pow_below i 64 l in let e : 1 * 2 ^ i ≡ 2 ^ i = omega arith in ap (λ n. n % 2 ^ 64) e ∙ mod-eq_of_lt below

pub loop-size-preserved : goal.loop-size-preserved
loop-size-preserved c =
    let words = c.loop-size.words.items in
    let used = c.loop-size.used.items in
    let n = c.loop-size.size-index in
    let size = slice_index c.args.sizes.now n in
    let block = c.in-Some.at.block in
    let slot = c.in-Some.at.slot in
    let v = c.index_mut-in-Some.result.now in
    let first : IsFirstClear words used size block slot =
    subst (λ (m : List ℕ). IsFirstClear words m size block slot) c.deref-in-loop-size.ensures.value
    (subst (λ (w : List BlockWord). IsFirstClear w c.deref-in-loop-size.result.now size block slot) c.deref.ensures.value c.in-Some.ensures) in
    let many : length words ≡ length used = c.loop-size.invariant.as_many in
    let there : block < length used = let t = first.there in omega arith in
    let value : v ≡ slice_index used block = c.index_mut-in-Some.ensures.value ∙ get_or_default used block v 0 there in
    let most = (class_slots size (class_at c.args.sizes.now n c.requires.classes c.loop-size-test.true)).1 in
    let fits = first.clear.fits in
    let bit : 1 * 2 ^ slot % 2 ^ 64 ≡ 2 ^ slot = shifted slot (omega arith) in
    record {
      as_many = length-set words block _ ∙ many ∙ sym (length-set used block _);
      lacks = let so_far = c.loop-size.invariant.lacks in
          let step = lacks_behind c.args.space.now words used c.args.sizes.now n block slot many c.loop-size-test.true first so_far in
          let written : bit_or v (1 * 2 ^ slot % 2 ^ 64) ≡ bit_or (slice_index used block) (2 ^ slot) = λ k. bit_or (value k) (bit k) in (
            λ lacks. subst (λ (m : ℕ). Lacks (words_then words block size) (slice_set used block m) (drop (n + 1) c.args.sizes.now)) (sym written) (step.0 lacks),
            λ lacks. step.1 (subst (λ (m : ℕ). Lacks (words_then words block size) (slice_set used block m) (drop (n + 1) c.args.sizes.now)) written lacks),
          );
    }

pub returns : goal.returns
returns c = record {
  told = λ p g b holds. (
    λ e. cc,
    λ lacks. absurd (lacks_none c.loop-size.words.items c.loop-size.used.items c.args.sizes.now c.loop-size.size-index c.loop-size-test.false
        (c.loop-size.invariant.lacks.0 ((lacks_by_program c.args.space.now c.args.sizes.now p g b c.in_ok-words.ensures.contents holds).1 lacks))),
  );
}
