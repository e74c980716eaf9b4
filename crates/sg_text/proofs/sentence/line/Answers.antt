use Rattle.std.proofs.Common.{map}
use Rattle.sg_text.proofs.LineFound.{answer_found, answer_none}
use Rattle.sg_text.proofs.sentence.line.Goals as goal

pub returns-clause-found : goal.returns-clause-found
returns-clause-found c = answer_found (map (λ w. w.now) c.args.words.now) c.sentence_in.result c.sentence_in.ensures

pub returns-clause-none : goal.returns-clause-none
returns-clause-none c = answer_none (map (λ w. w.now) c.args.words.now) c.sentence_in.result c.sentence_in.ensures
