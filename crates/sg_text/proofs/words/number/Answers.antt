use Rattle.std.proofs.Common.{arith}
use Rattle.sg_text.proofs.SentenceLemmas.{digit_reads, number_is}
use Rattle.sg_text.proofs.words.number.Goals as goal

pub returns-in-len1 : goal.returns-in-len1
returns-in-len1 c =
    let low = c.in-len1.len_at_least in
    let high = c.in-len1.len_below in
    digit_reads c.args.word.now c.from.result (omega arith) c.if-is_ascii_digit.ensures.cases.0 c.if-is_ascii_digit.ensures.cases.1 c.from.ensures

pub returns-in_default : goal.returns-in_default
returns-in_default c = number_is c.args.word.now c.spelled_by_length.result c.spelled_by_length.ensures.found c.spelled_by_length.ensures.only
