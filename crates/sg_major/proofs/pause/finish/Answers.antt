use Rattle.std.proofs.Common.{◌≡◌, List, length, sym, ap, ◌∙◌, subst, arith}
use Rattle.sg_words.specs.Pieces.{fronts_of, ends_of}
use Rattle.sg_words.specs.declared.layout.Layout.{Layout}
use Rattle.sg_words.specs.declared.pieces.Piece.{Piece}
use Rattle.sg_space.specs.declared.objects.Object.{Object}
use Rattle.sg_space.specs.Space.{Contents}
use Rattle.sg_space.specs.Standing.{word, used_in, marks_in}
use Rattle.sg_nursery.specs.Pieces.{AreStanding, ArePieces}
use Rattle.sg_major.specs.Parts.{is_marked, marked_among, AreSifted, OwesBlocks}
use Rattle.sg_major.proofs.Bits.{in_le}
use Rattle.sg_major.proofs.Standing.{standing_passed, no_more, few}
use Rattle.sg_major.proofs.pause.finish.Goals as goal

pub overflow_cast-stood : goal.overflow_cast-stood
overflow_cast-stood c =
    let told = c.args.traced.told in
    let most = few c.args.traced.space.layout told c.requires.contents.layout c.requires.standing in
    let same = ap length c.as_slice-2.ensures in
    record { fits = omega arith }

pub overflow_add-stood : goal.overflow_add-stood
overflow_add-stood c =
    let told = c.args.traced.told in
    let most = few c.args.traced.space.layout told c.requires.contents.layout c.requires.standing in
    let same = ap length c.as_slice-2.ensures in
    let slots = c.occupied_slots.ensures.few in
    record { fits = omega arith }

pub overflow_cast-kept : goal.overflow_cast-kept
overflow_cast-kept c =
    let told = c.args.traced.told in
    let most = few c.args.traced.space.layout told c.requires.contents.layout c.requires.standing in
    let less = no_more (is_marked (word c.args.traced.space)) told in
    let items : length c.in_ok-standing.standing.items ≡ length (marked_among (word c.args.traced.space) told) =
    ap length (c.in_ok-standing.ensures ∙ ap (marked_among (word c.args.traced.space)) c.as_slice.ensures) in
    record { fits = omega arith }

pub overflow_add-kept : goal.overflow_add-kept
overflow_add-kept c =
    let told = c.args.traced.told in
    let most = few c.args.traced.space.layout told c.requires.contents.layout c.requires.standing in
    let less = no_more (is_marked (word c.args.traced.space)) told in
    let items : length c.in_ok-standing.standing.items ≡ length (marked_among (word c.args.traced.space) told) =
    ap length (c.in_ok-standing.ensures ∙ ap (marked_among (word c.args.traced.space)) c.as_slice.ensures) in
    let slots = c.marked_slots.ensures.few in
    record { fits = omega arith }

pub build-requires-clause-standing : goal.build-requires-clause-standing
build-requires-clause-standing c =
    let told = c.args.traced.told in
    let s = c.args.traced.space in
    let items : c.deref.result.now ≡ marked_among (word s) told =
    c.deref.ensures.value ∙ c.in_ok-standing.ensures ∙ ap (marked_among (word s)) c.as_slice.ensures in
    let layout : c.sift.new.space.layout ≡ s.layout = ap (λ (z : Contents). z.layout) c.sift.ensures.still.0 in
    subst (λ (l : Layout). AreStanding l c.deref.result.now) (sym layout)
    (subst (AreStanding s.layout) (sym items) (standing_passed s.layout (is_marked (word s)) told c.requires.standing))

pub overflow_sub-result : goal.overflow_sub-result
overflow_sub-result c =
    let told = c.args.traced.told in
    let s = c.args.traced.space in
    let less = no_more (is_marked (word s)) told in
    let items : length c.in_ok-standing.standing.items ≡ length (marked_among (word s) told) =
    ap length (c.in_ok-standing.ensures ∙ ap (marked_among (word s)) c.as_slice.ensures) in
    let same = ap length c.as_slice-2.ensures in
    let bits = in_le (marks_in s) (used_in s) s.layout.blocks c.requires.occupied in
    let marked = c.marked_slots.ensures.count in
    let occupied = c.occupied_slots.ensures.count in
    omega arith

pub returns-clause-finished : goal.returns-clause-finished
returns-clause-finished c =
    let told = c.args.traced.told in
    let s = c.args.traced.space in
    let swept = c.sift.new.space in
    let pieces = c.in_ok-pieces.pieces in
    let less = no_more (is_marked (word s)) told in
    let items : c.in_ok-standing.standing.items ≡ marked_among (word s) told = c.in_ok-standing.ensures ∙ ap (marked_among (word s)) c.as_slice.ensures in
    let lengths = ap length items in
    let same = ap length c.as_slice-2.ensures in
    let bits = in_le (marks_in s) (used_in s) s.layout.blocks c.requires.occupied in
    let marked = c.marked_slots.ensures.count in
    let occupied = c.occupied_slots.ensures.count in
    let layout : swept.layout ≡ s.layout = ap (λ (z : Contents). z.layout) c.sift.ensures.still.0 in
    let fitted : c.set_fragments.new.self ≡ record swept { next = fronts_of pieces; ends = ends_of pieces } =
    subst (λ (z : List Piece). c.set_fragments.new.self ≡ record swept { next = fronts_of z; ends = ends_of z }) c.as_slice-4.ensures c.set_fragments.ensures.set in
    record {
      swept = swept;
      still = c.sift.ensures.still;
      sifted = subst (λ (z : List Object). AreSifted z (word s) (word swept)) c.as_slice-3.ensures c.sift.ensures.sifted;
      standing = standing_passed s.layout (is_marked (word s)) told c.requires.standing;
      tiles = subst (λ (l : Layout). ArePieces l (marked_among (word s) told) pieces) layout
          (subst (λ (z : List Object). ArePieces swept.layout z pieces) (c.deref.ensures.value ∙ items) c.in_ok-pieces.ensures.pieces);
      owes = subst (λ (z : Contents). OwesBlocks z c.owe.new.space) fitted c.owe.ensures.owes;
      kept = omega arith;
      freed = omega arith;
    }
