use Rattle.std.proofs.Common.{ap, sym, ◌∙◌}
use Rattle.sg_text.specs.Reading.{sentence_of}
use Rattle.sg_parse.proofs.Naming.{twice, make_wrong, make_right, make_unknown}
use Rattle.sg_parse.proofs.names.Names.misnames.Goals as goal

pub returns-in-Class-clause-wrong : goal.returns-in-Class-clause-wrong
returns-in-Class-clause-wrong c = λ h. twice _ _ _ _ c.number.result (ap sentence_of c.in-Class.is) c.number.ensures.found (sym c.is_some.ensures ∙ h)

pub returns-in-Some-clause-wrong : goal.returns-in-Some-clause-wrong
returns-in-Some-clause-wrong c = λ h. make_wrong _ _ _ _ _ c.in-Some.form _ _ (ap sentence_of c.in-Make.is) c.in-Some.ensures.distinct c.in-Some.ensures.found c.is_vector.ensures c.wants_vector.ensures h

pub returns-in-Some-clause-right : goal.returns-in-Some-clause-right
returns-in-Some-clause-right c = λ h. make_right _ _ _ _ _ c.in-Some.form _ _ (ap sentence_of c.in-Make.is) c.in-Some.ensures.found c.is_vector.ensures c.wants_vector.ensures h

pub returns-in-None-clause-wrong : goal.returns-in-None-clause-wrong
returns-in-None-clause-wrong c = λ h. make_unknown _ _ _ _ _ (ap sentence_of c.in-Make.is) c.in-None.ensures.none
