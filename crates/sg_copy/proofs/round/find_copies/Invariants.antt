use Rattle.std.proofs.Common.{◌≡◌, ◌++◌, map, take, drop}
use Rattle.std.specs.List.{All}
use Rattle.sg_words.specs.Address.{IsAddress}
use Rattle.sg_words.specs.declared.pieces.Move.{Move}
use Rattle.sg_copy.specs.Rounds.{found_move}
use Rattle.sg_copy.proofs.round.find_copies.Given as goal

-- those before k are found, and their addresses known; the others are as they were
abbrev pub invariant-loop-k : goal.invariant-loop-k
invariant-loop-k l = (l.moves ≡ map (λ (m : Move). found_move l.fn.space m) (take l.k l.fn.moves) ++ drop l.k l.fn.moves)
    × All (λ (m : Move). IsAddress m.from) (take l.k l.fn.moves)
