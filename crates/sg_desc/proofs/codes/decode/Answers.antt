use Rattle.sg_desc.proofs.Words.{reads_only}
use Rattle.sg_desc.proofs.codes.decode.Goals as goal

pub returns-clause-only : goal.returns-clause-only
returns-clause-only c = reads_only c.descriptor_in.result c.args.word c.descriptor_in.ensures
