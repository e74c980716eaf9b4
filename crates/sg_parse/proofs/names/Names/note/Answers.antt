use Rattle.std.proofs.Common.{ap}
use Rattle.sg_text.specs.Reading.{sentence_of}
use Rattle.sg_parse.proofs.Naming.{not_named}
use Rattle.sg_parse.proofs.names.Names.note.Goals as goal

pub add-requires : goal.add-requires
add-requires c = not_named _ _ _ _ (ap sentence_of c.in-Class.is) c.requires
