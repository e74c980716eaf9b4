use Rattle.std.proofs.Common.{sym, subst, IsTrue, nat_lt}
use Rattle.sg_program.specs.Kinds.{Needs}
use Rattle.sg_kinds.specs.Table.{kinds_of}
use Rattle.sg_kinds.proofs.Tables.{has_room}
use Rattle.sg_kinds.proofs.table.Table.meets.Goals as goal

pub returns-in-Push : goal.returns-in-Push
returns-in-Push c =
    let t = c.args.self.now in
    subst (λ s. (IsTrue (nat_lt t.depth 64) → Needs (kinds_of t) s) × (Needs (kinds_of t) s → IsTrue (nat_lt t.depth 64))) (sym c.in-Push.is) (has_room t.stack t.depth)
