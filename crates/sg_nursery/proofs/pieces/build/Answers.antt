use Rattle.std.proofs.Common.{◌≡◌, List, sym, subst}
use Rattle.sg_words.specs.declared.pieces.Piece.{Piece}
use Rattle.sg_nursery.specs.Pieces.{ArePieces}
use Rattle.sg_nursery.proofs.Few.{few_fragments}
use Rattle.sg_nursery.proofs.pieces.build.Goals as goal

pub returns-clause-few : goal.returns-clause-few
returns-clause-few c = few_fragments c.args.space.now.layout c.args.standing.now c.requires.layout c.from_vec.result
    (subst (λ (z : List Piece). ArePieces c.args.space.now.layout c.args.standing.now z) (sym c.from_vec.ensures)
    (subst (λ l. ArePieces l c.args.standing.now c.in_ok-pieces.pieces.items) c.layout.ensures.layout c.in_ok-pieces.ensures))
