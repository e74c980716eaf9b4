use Rattle.std.proofs.Common.{sym, ◌∙◌}
use Rattle.sg_nursery.proofs.tag.tag_one.Goals as goal

pub returns-in_default-clause-tagged : goal.returns-in_default-clause-tagged
returns-in_default-clause-tagged c = absurd (c.in_default.ensures c.requires.plain.0 c.requires.plain.1 (sym (c.read.ensures.value ∙ c.requires.plain.2)))
