use Rattle.std.proofs.Common.{◌≡◌, ◌++◌}
use Rattle.sg_gen.specs.Generated.{mutator_texts}
use Rattle.sg_gen.proofs.generated.append_mutators.Given as goal

-- the mutators below this one are written, and the generator stands behind them
abbrev pub invariant-loop-mutator : goal.invariant-loop-mutator
invariant-loop-mutator l = record {
  text : l.text.items ≡ l.fn.text.items ++ (mutator_texts l.mutator l.count l.fn.words).0;
  words : l.words ≡ (mutator_texts l.mutator l.count l.fn.words).1;
}
