use Rattle.std.proofs.Common.{◌≡◌, ◌++◌, take}
use Rattle.std.specs.List.{flat_map}
use Rattle.sg_trace.specs.Trace.{block_line}
use Rattle.sg_trace.proofs.trace.append_blocks.Given as goal

-- the lines so far have been written
abbrev pub invariant-loop-block : goal.invariant-loop-block
invariant-loop-block l = l.out.items ≡ l.initial.out.items ++ flat_map block_line (take l.block-index l.blocks)
