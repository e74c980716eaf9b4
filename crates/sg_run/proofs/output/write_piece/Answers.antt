use Rattle.std.proofs.Common.{arith}
use Rattle.sg_run.proofs.Pieces.{within_further, taken_further, taken_some}
use Rattle.sg_run.proofs.output.write_piece.Goals as goal

pub loop-at-preserved : goal.loop-at-preserved
loop-at-preserved g c =
    record {
      within = within_further c.args.piece.now c.from.result.now c.loop-at.at c.in-Ok.count (omega arith) c.from.ensures c.in-Ok.ensures.progress.0;
      taken = taken_further _ _ _ c.args.piece.now c.from.result.now c.loop-at.at c.in-Ok.count c.loop-at.invariant.taken c.from.ensures c.in-Ok.ensures.bytes;
      counted = omega (arith, c.loop-at.invariant.counted, c.in-Ok.ensures.cause.never_falls);
    }

pub returns-in-Err-clause-taken : goal.returns-in-Err-clause-taken
returns-in-Err-clause-taken g c = taken_some _ _ _ c.args.piece.now c.from.result.now c.loop-at.at (omega arith) c.loop-at.invariant.taken c.from.ensures c.in-Err.ensures.bytes
