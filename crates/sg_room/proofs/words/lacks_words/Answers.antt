use Rattle.std.proofs.Common.{◌≡◌, ◌+◌, ◌<◌, ℕ, List, length, slice_index, refl, ◌∙◌, subst, get_or, ◌^◌, arith}
use Rattle.std.proofs.Math.ListN.{length-set}
use Rattle.std.proofs.lemmas.List.{get_or_default}
use Rattle.sg_space.specs.Space.{Contents}
use Rattle.sg_room.specs.Room.{HasNoRoom, IsLowestWithRoom}
use Rattle.sg_room.proofs.Lacking.{lacks_by_list, lacks_by_book, lacks_now, lacks_behind, lacks_none}
use Rattle.sg_room.proofs.words.lacks_words.Goals as goal

-- the number of the word behind those that the fragment gives
sum_fits : (s : Contents) (next slice : List ℕ) (f n v : ℕ) → length next ≡ length s.ends → slice ≡ next → IsLowestWithRoom s slice n f →
    v ≡ get_or next f v → v + n < 2 ^ 64
sum_fits s next slice f n v many same is read =
    let lowest = subst (λ xs. IsLowestWithRoom s xs n f) same is in
    let there : f < length next = let t = is.there in omega arith in
    let value : v ≡ slice_index next f = read ∙ get_or_default next f v 0 there in
    let fits = lowest.fits in omega arith

pub loop-need-init : goal.loop-need-init
loop-need-init c =
    let are = c.in_ok-next.ensures in
    record { as_many = are.as_many; lacks = lacks_by_list c.args.space.now c.in_ok-next.next.items c.args.needs.now are }

pub overflow_add-index_mut : goal.overflow_add-index_mut
overflow_add-index_mut c =
    let fits = sum_fits c.args.space.now c.loop-need.next.items c.deref.result.now c.in-Some.fragment (slice_index c.args.needs.now c.loop-need.need-index) c.index_mut.result.now
    c.loop-need.invariant.as_many c.deref.ensures.value c.in-Some.ensures c.index_mut.ensures.value in
    omega arith

pub returns-in-None : goal.returns-in-None
returns-in-None c = record {
  told = λ p g b holds. (
    λ _. (lacks_by_book c.args.space.now c.args.needs.now p g b holds).0 (c.loop-need.invariant.lacks.1
        (lacks_now c.args.space.now c.loop-need.next.items c.args.needs.now c.loop-need.need-index c.loop-need-test.true
        (subst (λ xs. HasNoRoom c.args.space.now xs (slice_index c.args.needs.now c.loop-need.need-index)) c.deref.ensures.value c.in-None.ensures))),
    λ _. refl,
  );
}

pub loop-need-preserved : goal.loop-need-preserved
loop-need-preserved c = record {
  as_many = length-set c.loop-need.next.items c.in-Some.fragment _ ∙ c.loop-need.invariant.as_many;
  lacks = lacks_behind c.args.space.now c.loop-need.next.items c.deref.result.now c.args.needs.now c.loop-need.need-index c.in-Some.fragment c.index_mut.result.now
      c.loop-need.invariant.as_many c.loop-need-test.true c.deref.ensures.value c.in-Some.ensures c.index_mut.ensures.value c.loop-need.invariant.lacks;
}

pub returns : goal.returns
returns c = record {
  told = λ p g b holds. (
    λ e. cc,
    λ lacks. absurd (lacks_none c.args.space.now (λ f. slice_index c.loop-need.next.items f) c.args.needs.now c.loop-need.need-index c.loop-need-test.false
        (c.loop-need.invariant.lacks.0 ((lacks_by_book c.args.space.now c.args.needs.now p g b holds).1 lacks))),
  );
}
