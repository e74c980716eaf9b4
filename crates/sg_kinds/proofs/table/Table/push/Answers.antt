use Rattle.std.proofs.Common.{List, length, ◌<◌, slice_index_or, ap, arith}
use Rattle.sg_program.specs.Kinds.{Kind}
use Rattle.sg_kinds.specs.declared.table.Kind.TheVariants.{Ref}
use Rattle.sg_kinds.specs.Table.{kinds_of}
use Rattle.sg_kinds.proofs.Tables.{stack_pushed, stack_length}
use Rattle.sg_kinds.proofs.table.Table.push.Goals as goal

pub returns : goal.returns
returns c =
    let t = c.args.self.now in
    let e = stack_length t.stack t.depth in
    let l : t.depth < length t.stack = omega (arith, c.requires.room) in
    ap (λ (s : List Kind). record (kinds_of t) { stack = s }) (stack_pushed t.stack t.depth (slice_index_or t.registers c.args.r Ref) l)
