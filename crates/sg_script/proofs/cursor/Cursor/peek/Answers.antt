use Rattle.sg_script.proofs.Frames.{seen}
use Rattle.sg_script.proofs.cursor.Cursor.peek.Goals as goal

pub returns : goal.returns
returns c = seen c.self.inside.frames.items c.as_slice.result.now c.args.self.now c.statement_at.result c.as_slice.ensures.value c.self.view_is c.statement_at.ensures
