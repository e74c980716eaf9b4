use Rattle.std.proofs.Common.{◌≡◌, ◌++◌}
use Rattle.std.specs.List.{flat_map}
use Rattle.sg_gen.specs.Generated.{moves, move_text}
use Rattle.sg_gen.proofs.generated.append_moves.Given as goal

-- so many moves are written, and the generator stands behind them
abbrev pub invariant-loop : goal.invariant-loop
invariant-loop l = record {
  text : l.text.items ≡ l.fn.text.items ++ flat_map move_text (moves l.mutator l.counter l.fn.words).0;
  words : l.words ≡ (moves l.mutator l.counter l.fn.words).1;
}
