use Rattle.std.proofs.Common.{◌≡◌, ◌+◌, ◌-◌, inr, ap, ◌∙◌, take, length, arith}
use Rattle.sg_program.specs.declared.program.Item.{out-Item}
use Rattle.sg_program.specs.declared.program.Item.TheVariants.{outs-One}
use Rattle.sg_script.proofs.Frames.{last_split, at_there}
use Rattle.sg_script.proofs.cursor.is_settled.Goals as goal

pub returns-in-Some-One : goal.returns-in-Some-One
returns-in-Some-One c _ =
    let frames = c.args.frames.now in
    let f = c.in-Some.frame.now in
    let item = c.in-Some-One.field-0.now in
    let l : length frames ≡ (length frames - 1) + 1 = (let some = c.in-Some.ensures.item.3.0 in omega arith) in
    inr (
      c.in-Some-One.field-0-0,
      (
        take (length frames - 1) frames,
        f,
        item,
        last_split frames (length frames - 1) f l c.in-Some.ensures.item.1,
        at_there f.body.now f.at item item c.in-Some-One.ensures.lookup.3.0 c.in-Some-One.ensures.lookup.1,
        ap out-Item c.in-Some-One.field-0-is ∙ outs-One c.in-Some-One.field-0-0,
      ),
    )
