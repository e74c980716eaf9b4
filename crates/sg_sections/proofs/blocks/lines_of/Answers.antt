use Rattle.std.proofs.Common.{◌+◌, Vec, Global, sym, subst}
use Rattle.sg_graph.specs.declared.reports.BlockLine.{BlockLine}
use Rattle.sg_sections.specs.Parts.{AreLines}
use Rattle.sg_sections.proofs.Lines.{passed_block, told_block}
use Rattle.sg_sections.proofs.blocks.lines_of.Goals as goal
use Rattle.sg_sections.proofs.blocks.lines_of.Goals.{in-Some+in_ok-push, in_default}

pub loop-b-preserved : goal.loop-b-preserved
loop-b-preserved c =
    let s = c.args.space.now in
    elim c.match-line_of.branch [
      | in-Some+in_ok-push w ↦ subst (λ (z : Vec BlockLine Global). AreLines s (c.loop-b.b + 1) z.items) (sym w.lines-is)
          (subst (AreLines s (c.loop-b.b + 1)) (sym w.in_ok-push.ensures.items) (told_block s c.loop-b.b c.loop-b.lines.items w.in-Some.line c.loop-b.invariant w.in-Some.ensures))
      | in_default w ↦ subst (λ (z : Vec BlockLine Global). AreLines s (c.loop-b.b + 1) z.items) (sym w.lines-is)
          (passed_block s c.loop-b.b c.loop-b.lines.items c.loop-b.invariant w.in_default.ensures)
    ]
