use Rattle.sg_parse.proofs.Naming.{number_some, number_none, distinct_entries}
use Rattle.sg_parse.proofs.names.Names.number.Goals as goal

pub returns-clause-found : goal.returns-clause-found
returns-clause-found c = number_some _ c.args.name _ c.get_index_of.ensures.index

pub returns-clause-none : goal.returns-clause-none
returns-clause-none c = number_none _ c.args.name _ c.get_index_of.ensures.index

pub returns-clause-distinct : goal.returns-clause-distinct
returns-clause-distinct c = distinct_entries _ c.get_index_of.ensures.unique
