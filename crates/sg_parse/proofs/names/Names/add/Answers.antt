use Rattle.sg_parse.proofs.Naming.{classes_add}
use Rattle.sg_parse.proofs.names.Names.add.Goals as goal

pub returns : goal.returns
returns c = classes_add _ _ c.args.name c.args.form c.requires c.in_ok-insert.ensures.entries
