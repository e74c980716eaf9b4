use Rattle.std.proofs.Common.{◌≡◌, ◌+◌, ℕ, refl, sym, ap, ◌∙◌, subst, arith}
use Rattle.sg_words.specs.Address.{word_at}
use Rattle.sg_space.specs.Standing.{word}
use Rattle.sg_mark.specs.Gray.{marked_with, most_objects, IsFieldAt, HasVisited}
use Rattle.sg_mark.proofs.Places.{stands_at}
use Rattle.sg_mark.proofs.Objects.{fields_few}
use Rattle.sg_mark.proofs.Scanned.{field_at, scanned_none, scanned_more, scanned_all}
use Rattle.sg_mark.proofs.marking.scan.Goals as goal

pub loop-i-init : goal.loop-i-init
loop-i-init c = record {
  room = refl;
  layout = refl;
  within = c.next_strong-i.ensures.within;
  strong = c.next_strong-i.ensures.strong;
  scanned = λ t owner marked is at.
      scanned_none t owner (word_at c.args.a) (stands_at owner c.args.a at) c.kind_at-kind.result
      (c.kind_at-kind.ensures t owner (marked_with marked c.args.gray.now.items) is.partly at) c.fields_at-fields.result
      (c.fields_at-fields.ensures t owner (marked_with marked c.args.gray.now.items) is.partly at)
      marked c.args.gray.now.items c.args.space.now c.next_strong-i.result is c.next_strong-i.ensures.passed;
}

pub overflow_add-i : goal.overflow_add-i
overflow_add-i c =
    let q = c.requires.gray in
    let few = fields_few q.0 q.1 (marked_with q.2 c.args.gray.now.items) c.args.space.now q.3.partly c.args.a q.4 in
    let many = c.fields_at-fields.ensures q.0 q.1 (marked_with q.2 c.args.gray.now.items) q.3.partly q.4 in
    let l = c.loop-i-test.true in
    omega arith

pub visit_field-requires-clause-gray : goal.visit_field-requires-clause-gray
visit_field-requires-clause-gray c =
    let q = c.requires.gray in
    let now = marked_with q.2 c.args.gray.now.items in
    let before = c.loop-i.invariant.scanned q.0 q.1 q.2 q.3 q.4 in
    let at = c.plus.ensures in
    let here : word_at c.args.a + 2 + c.loop-i.i ≡ word_at c.plus.result = omega arith in (
      q.0,
      q.1,
      q.2,
      before.gray,
      subst (IsFieldAt q.0 q.1) here
          (field_at q.0 q.1 (word_at c.args.a) (stands_at q.1 c.args.a q.4) c.kind_at-kind.result (c.kind_at-kind.ensures q.0 q.1 now q.3.partly q.4)
          c.fields_at-fields.result (c.fields_at-fields.ensures q.0 q.1 now q.3.partly q.4) q.3.partly.sound q.3.partly.refers c.loop-i.i c.loop-i-test.true (c.loop-i.invariant.strong c.loop-i-test.true)),
    )

pub visit_field-requires-clause-room : goal.visit_field-requires-clause-room
visit_field-requires-clause-room c =
    let room = c.loop-i.invariant.room in
    let most = c.requires.room in
    let same = ap most_objects c.loop-i.invariant.layout in
    omega arith

pub loop-i-preserved : goal.loop-i-preserved
loop-i-preserved c = record {
  room = c.visit_field.ensures.room ∙ c.loop-i.invariant.room;
  layout = c.visit_field.ensures.layout ∙ c.loop-i.invariant.layout;
  within = c.next_strong-i-in-loop-i.ensures.within;
  strong = c.next_strong-i-in-loop-i.ensures.strong;
  scanned = λ t owner marked is at.
      let now = marked_with marked c.args.gray.now.items in
      let before = c.loop-i.invariant.scanned t owner marked is at in
      let next = c.plus.ensures in
      let here : word_at c.plus.result ≡ word_at c.args.a + 2 + c.loop-i.i = omega arith in
      let kind = c.kind_at-kind.ensures t owner now is.partly at in
      let many = c.fields_at-fields.ensures t owner now is.partly at in
      let strong = c.loop-i.invariant.strong c.loop-i-test.true in
      let field = field_at t owner (word_at c.args.a) (stands_at owner c.args.a at) c.kind_at-kind.result kind c.fields_at-fields.result many is.partly.sound is.partly.refers
      c.loop-i.i c.loop-i-test.true strong in
      let visited = c.visit_field.ensures.visited t owner marked before.gray (subst (IsFieldAt t owner) (sym here) field) in
      scanned_more t owner (word_at c.args.a) (stands_at owner c.args.a at) c.kind_at-kind.result kind c.fields_at-fields.result many marked c.args.gray.now.items
      c.loop-i.space c.visit_field.new.space c.loop-i.gray.items c.visit_field.new.gray.items c.loop-i.i c.next_strong-i-in-loop-i.result before c.loop-i-test.true strong
      (subst (λ (n : ℕ). HasVisited t owner marked c.loop-i.gray.items (word t n) c.visit_field.new.space c.visit_field.new.gray.items) here visited)
      c.next_strong-i-in-loop-i.ensures.passed;
}

pub returns-clause-scanned : goal.returns-clause-scanned
returns-clause-scanned c = λ t owner marked is at.
    let now = marked_with marked c.args.gray.now.items in
    scanned_all t owner (word_at c.args.a) (stands_at owner c.args.a at) c.kind_at-kind.result (c.kind_at-kind.ensures t owner now is.partly at)
    c.fields_at-fields.result (c.fields_at-fields.ensures t owner now is.partly at) marked c.args.gray.now.items
    c.loop-i.space c.loop-i.gray.items c.loop-i.i (c.loop-i.invariant.scanned t owner marked is at) c.loop-i-test.false
