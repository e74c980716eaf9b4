-- The pieces of the nursery between what stands there: addresses are bytes, sizes words of 8 bytes.
use Rattle.std.specs.Prelude.{◌≡◌, ℕ, ◌+◌, ◌*◌, ◌<◌, ◌≤◌, List, [], ◌∷◌}
use Rattle.sg_words.specs.Address.{byte_at}
use Rattle.sg_words.specs.declared.pieces.Piece.{Piece}
use Rattle.sg_words.specs.declared.pieces.Piece.TheVariants.{Frag, Waste}

-- the byte addresses of the fragments among these pieces
abbrev pub fronts_of : List Piece → List ℕ
fronts_of [] = []
fronts_of (Frag at words ∷ pieces) = at ∷ fronts_of pieces
fronts_of (Waste at words ∷ pieces) = fronts_of pieces

-- the byte addresses behind the fragments among these pieces
abbrev pub ends_of : List Piece → List ℕ
ends_of [] = []
ends_of (Frag at words ∷ pieces) = (at + 8 * words) ∷ ends_of pieces
ends_of (Waste at words ∷ pieces) = ends_of pieces

-- the piece is a fragment of 32 words or more, or a waste of fewer, at this word and with so many words
abbrev pub IsPieceOf : Piece → ℕ → ℕ → Type 0
IsPieceOf (Frag at words) x n = (32 ≤ n) × (at ≡ byte_at x) × (words ≡ n)
IsPieceOf (Waste at words) x n = (n < 32) × (at ≡ byte_at x) × (words ≡ n)

-- the address of a piece
abbrev pub place : Piece → ℕ
place (Frag at words) = at
place (Waste at words) = at
