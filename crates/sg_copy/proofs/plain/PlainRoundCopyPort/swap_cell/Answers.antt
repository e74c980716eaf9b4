use Rattle.std.proofs.Common.{refl}
use Rattle.sg_copy.proofs.Changes.{leads_cell}
use Rattle.sg_copy.proofs.plain.PlainRoundCopyPort.swap_cell.Goals as goal

pub returns-clause-led : goal.returns-clause-led
returns-clause-led c =
    let cells = c.args.self.now.cells in
    (refl, leads_cell c.args.self.now.space.now cells _ c.args.c c.args.seen c.args.new c.requires.may c.if-found-seen.false refl)
