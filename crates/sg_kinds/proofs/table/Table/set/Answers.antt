use Rattle.std.proofs.Common.{arith}
use Rattle.sg_kinds.specs.Table.{stack_of}
use Rattle.sg_kinds.proofs.Tables.{set_kinds}
use Rattle.sg_kinds.proofs.table.Table.set.Goals as goal

pub returns : goal.returns
returns c =
    let t = c.args.self.now in
    set_kinds t.registers c.args.r c.args.kind (stack_of t.stack t.depth) (omega (arith, c.requires))
