use Rattle.std.proofs.Common.{refl, ◌∙◌}
use Rattle.sg_script.proofs.Frames.{ok_then, enter_left, enter_nested, enter_cost}
use Rattle.sg_script.proofs.cursor.enter.Goals as goal

pub returns-then-times-gt0-clause-left : goal.returns-then-times-gt0-clause-left
returns-then-times-gt0-clause-left c =
    enter_left c.args.frames.now.items c.push.new.self.items (record { body = c.args.body; at = 0; times = _ }) c.args.body.now c.args.times c.if-times-gt0.true (c.push.ensures.items ∙ ok_then _ _ _ _ c.unwrap.ensures) refl refl refl

pub returns-then-times-gt0-clause-nested : goal.returns-then-times-gt0-clause-nested
returns-then-times-gt0-clause-nested c =
    enter_nested c.args.frames.now.items c.push.new.self.items (record { body = c.args.body; at = 0; times = _ }) c.args.body.now c.args.times c.if-times-gt0.true (c.push.ensures.items ∙ ok_then _ _ _ _ c.unwrap.ensures) refl refl refl c.requires.nested c.requires.fits

pub returns-then-times-gt0-clause-cost : goal.returns-then-times-gt0-clause-cost
returns-then-times-gt0-clause-cost c =
    enter_cost c.args.frames.now.items c.push.new.self.items (record { body = c.args.body; at = 0; times = _ }) c.args.body.now c.args.times c.if-times-gt0.true (c.push.ensures.items ∙ ok_then _ _ _ _ c.unwrap.ensures) refl refl refl
