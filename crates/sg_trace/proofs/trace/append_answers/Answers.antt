use Rattle.std.proofs.Common.{rules}
use Rattle.sg_trace.proofs.Starts.{starts_then}
use Rattle.sg_trace.proofs.trace.append_answers.Goals as goal

pub returns-in_err-append_answer_line-clause-front : goal.returns-in_err-append_answer_line-clause-front
returns-in_err-append_answer_line-clause-front c = search (rules, starts_then)
