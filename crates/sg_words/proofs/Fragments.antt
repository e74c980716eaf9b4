-- The fragments among pieces.
use Rattle.std.proofs.Common.{◌≡◌, List, [], ◌∷◌, length, suc, refl, ap}
use Rattle.sg_words.specs.declared.pieces.Piece.{Piece}
use Rattle.sg_words.specs.declared.pieces.Piece.TheVariants.{Frag, Waste}
use Rattle.sg_words.specs.Pieces.{fronts_of, ends_of}

-- each has a front and an end
pub same_count : (pieces : List Piece) → length (fronts_of pieces) ≡ length (ends_of pieces)
same_count [] = refl
same_count (Frag at words ∷ pieces) = ap suc (same_count pieces)
same_count (Waste at words ∷ pieces) = same_count pieces
