use Rattle.std.proofs.Common.{ap, slice_get, ◌∙◌}
use Rattle.sg_parse.proofs.Naming.{first_told, none_first, distinct_entries}
use Rattle.sg_parse.proofs.names.Names.is_first.Goals as goal

pub returns-in-Some-clause-first : goal.returns-in-Some-clause-first
returns-in-Some-clause-first c = first_told _ c.args.name (c.in-Some.key.now, c.in-Some.field-0-1.now) _ (c.in-Some.ensures.entry ∙ ap (λ es. slice_get es 0) c.as_slice.ensures.entries) c.eq.ensures

pub returns-in-Some-clause-distinct : goal.returns-in-Some-clause-distinct
returns-in-Some-clause-distinct c = distinct_entries _ c.as_slice.ensures.unique

pub returns-in-None-clause-first : goal.returns-in-None-clause-first
returns-in-None-clause-first c = (λ yes. absurd cc, λ stands. absurd (none_first _ c.args.name (c.in-None.ensures.entry ∙ ap (λ es. slice_get es 0) c.as_slice.ensures.entries) stands))

pub returns-in-None-clause-distinct : goal.returns-in-None-clause-distinct
returns-in-None-clause-distinct c = distinct_entries _ c.as_slice.ensures.unique
