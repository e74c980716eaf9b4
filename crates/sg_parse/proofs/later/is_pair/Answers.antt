use Rattle.sg_parse.proofs.Naming.{pair_named, no_pair}
use Rattle.sg_parse.proofs.later.is_pair.Goals as goal

pub returns-in-Some : goal.returns-in-Some
returns-in-Some c = pair_named _ _ c.in-Some.form _ c.in-Some.ensures.distinct c.in-Some.ensures.found c.has_pairs.ensures

pub returns-in-None : goal.returns-in-None
returns-in-None c = (λ h. absurd cc, λ pair. absurd (no_pair _ _ c.in-None.ensures.none pair))
