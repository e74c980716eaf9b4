use Rattle.std.proofs.Common.{◌≡◌, ℕ, ◌≤◌, List, length, sym, refl, subst}
use Rattle.sg_words.specs.Pieces.{fronts_of, ends_of}
use Rattle.sg_words.specs.declared.pieces.Move.{Move}
use Rattle.sg_words.specs.declared.pieces.Piece.{Piece}
use Rattle.sg_space.specs.Standing.{word}
use Rattle.sg_nursery.specs.Pieces.{ArePieces}
use Rattle.sg_nursery.specs.Parts.{AreKept, AreCleaned}
use Rattle.sg_minor.proofs.pause.finish.Goals as goal

pub set_fragments-requires : goal.set_fragments-requires
set_fragments-requires c =
    subst (λ (z : List Piece). length (fronts_of z) ≤ 2048) (sym c.as_slice-3.ensures)
    c.in_ok-pieces.ensures.few

pub returns : goal.returns
returns c =
    let round = c.args.traced.space in
    let told = c.args.traced.told in
    let pins = c.args.traced.pins in
    let lists = c.in_ok-kept.kept in
    let standing = lists.standing.items in
    let swept = c.sweep.new.space in
    let kept = subst (λ z. AreKept round.layout (word round) z pins standing lists.moves.items lists.fails.items) c.as_slice.ensures
    (subst (λ z. AreKept round.layout (word round) c.as_slice.result.now z standing lists.moves.items lists.fails.items) c.as_slice-2.ensures
    c.in_ok-kept.ensures.kept) in
    record {
      finished = record {
        swept = swept;
        still = c.in_ok-kept.ensures.still;
        standing = standing;
        kept = subst (λ (z : List Move). AreKept round.layout (word round) told pins standing z c.from_vec-2.result) (sym c.from_vec.ensures)
            (subst (λ (z : List ℕ). AreKept round.layout (word round) told pins standing lists.moves.items z) (sym c.from_vec-2.ensures) kept);
        cleaned = subst (λ z. AreCleaned z (word round) (word swept)) c.as_slice.ensures c.in_ok-kept.ensures.cleaned;
        tiles = subst (λ z. ArePieces swept.layout z c.in_ok-pieces.pieces) c.deref.ensures.value c.in_ok-pieces.ensures.pieces;
        fitted = subst (λ (z : List Piece). c.set_fragments.new.self ≡ record swept { next = fronts_of z; ends = ends_of z }) c.as_slice-3.ensures
            c.set_fragments.ensures.set;
        pins_are = refl;
        spares = refl;
      };
      contents = c.set_fragments.ensures.contents;
    }
