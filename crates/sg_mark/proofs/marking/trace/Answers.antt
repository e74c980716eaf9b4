use Rattle.std.proofs.Common.{◌≡◌, ◌<◌, ◌≤◌, ℕ, length, refl, sym, ap, ◌∙◌, subst, arith}
use Rattle.std.proofs.lemmas.List.{get_or_default}
use Rattle.sg_words.specs.declared.layout.Layout.{Layout}
use Rattle.sg_words.proofs.Members.{in_contains}
use Rattle.sg_mark.specs.Gray.{most_objects, IsTracedTo}
use Rattle.sg_mark.proofs.Grays.{few_of, grown_long}
use Rattle.sg_mark.proofs.Traced.{traced_none, traced_more}
use Rattle.sg_mark.proofs.marking.trace.Goals as goal

pub loop-next-init : goal.loop-next-init
loop-next-init c =
    let q = c.requires.gray in
    record {
      room = refl;
      layout = refl;
      within = omega arith;
      few = few_of q.0 q.1 q.2 c.args.space.now c.args.gray.now.items q.4.is_gray;
      traced = λ t owner marked roots is. traced_none t owner marked roots c.args.gray.now.items c.args.space.now is;
    }

pub scan-requires-clause-gray : goal.scan-requires-clause-gray
scan-requires-clause-gray c =
    let q = c.requires.gray in
    let before = c.loop-next.invariant.traced q.0 q.1 q.2 q.3 q.4 in
    let len = c.loop-next.gray.ok.0 in
    let test = c.loop-next-test.true in
    let long = c.len.ensures in
    let there : c.loop-next.next < length c.loop-next.gray.items = omega arith in (
      q.0,
      q.1,
      q.2,
      before.traced.is_gray,
      before.traced.is_gray.stand c.index-object.result.now
          (in_contains c.index-object.result.now c.loop-next.gray.items (c.loop-next.next, there, sym c.index-object.ensures)),
    )

pub scan-requires-clause-room : goal.scan-requires-clause-room
scan-requires-clause-room c =
    let room = c.loop-next.invariant.room in
    let most = c.requires.room in
    let same = ap most_objects c.loop-next.invariant.layout in
    omega arith

pub loop-next-preserved : goal.loop-next-preserved
loop-next-preserved c =
    let q = c.requires.gray in
    let before = c.loop-next.invariant.traced q.0 q.1 q.2 q.3 q.4 in
    let len = c.loop-next.gray.ok.0 in
    let test = c.loop-next-test.true in
    let long = c.len.ensures in
    let a = c.index-object.result.now in
    let there : c.loop-next.next < length c.loop-next.gray.items = omega arith in
    let here = in_contains a c.loop-next.gray.items (c.loop-next.next, there, sym c.index-object.ensures) in
    let scanned = c.scan.ensures.scanned q.0 q.1 q.2 before.traced.is_gray (before.traced.is_gray.stand a here) in
    let layout = c.scan.ensures.layout ∙ c.loop-next.invariant.layout in
    let longer = grown_long _ c.loop-next.gray.items c.scan.new.gray.items scanned.grown in
    record {
      room = c.scan.ensures.room ∙ c.loop-next.invariant.room;
      layout = layout;
      within = omega arith;
      few = subst (λ (l : Layout). length c.scan.new.gray.items ≤ most_objects l) layout (few_of q.0 q.1 q.2 c.scan.new.space c.scan.new.gray.items scanned.gray);
      traced = λ t owner marked roots is.
          let so_far = c.loop-next.invariant.traced t owner marked roots is in
          traced_more t owner marked roots c.args.gray.now.items c.loop-next.space c.scan.new.space c.loop-next.gray.items c.scan.new.gray.items c.loop-next.next a so_far there
          (get_or_default c.loop-next.gray.items c.loop-next.next 0 a there ∙ sym c.index-object.ensures)
          (c.scan.ensures.scanned t owner marked so_far.traced.is_gray (so_far.traced.is_gray.stand a here));
    }

pub returns : goal.returns
returns c = λ t owner marked roots is.
    let len = c.loop-next.gray.ok.0 in
    let test = c.loop-next-test.false in
    let long = c.len.ensures in
    let within = c.loop-next.invariant.within in
    let all : c.loop-next.next ≡ length c.loop-next.gray.items = omega arith in
    subst (λ (n : ℕ). IsTracedTo t owner marked roots c.args.gray.now.items n c.loop-next.space c.loop-next.gray.items) all (c.loop-next.invariant.traced t owner marked roots is)
