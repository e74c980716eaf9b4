use Rattle.std.proofs.Common.{ap, ◌∙◌}
use Rattle.sg_program.specs.declared.program.Item.{out-Item}
use Rattle.sg_program.specs.declared.program.Item.TheVariants.{outs-Repeat, outs-One}
use Rattle.sg_script.proofs.Frames.{last_item, at_one, no_repeat}
use Rattle.sg_script.proofs.cursor.statement_at.Goals as goal

pub returns-in-One : goal.returns-in-One
returns-in-One c =
    let item = c.index-frame-frame.result in
    let q = last_item c.args.frames.now c.in_ok-frame.frame.now item c.requires c.in_ok-frame.ensures.item.3.0 c.in_ok-frame.ensures.item.1 c.index-frame-frame.is in
    at_one c.args.frames.now item c.in-One.statement q.0 q.1 q.2 (ap out-Item (c.index-frame-frame.is ∙ c.in-One.is) ∙ outs-One c.in-One.statement)

pub returns-in-Repeat : goal.returns-in-Repeat
returns-in-Repeat c =
    let item = c.index-frame-frame.result in
    let q = last_item c.args.frames.now c.in_ok-frame.frame.now item c.requires c.in_ok-frame.ensures.item.3.0 c.in_ok-frame.ensures.item.1 c.index-frame-frame.is in
    absurd (no_repeat item q.0 c.in-Repeat.times c.in-Repeat.body q.1 (ap out-Item (c.index-frame-frame.is ∙ c.in-Repeat.is) ∙ outs-Repeat c.in-Repeat.times c.in-Repeat.body))
