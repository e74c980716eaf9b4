use Rattle.std.proofs.Common.{arith, refl}
use Rattle.sg_text.proofs.SentenceLemmas.{register_digit_reads, register_is}
use Rattle.sg_text.proofs.words.register.Goals as goal

pub returns-in-114 : goal.returns-in-114
returns-in-114 c =
    let low = c.in-114.len_at_least in
    let high = c.in-114.len_below in
    register_digit_reads c.args.word.now _ (omega arith) (omega arith) c.if-is_ascii_digit.ensures.cases.0 c.if-is_ascii_digit.ensures.cases.1 refl

pub returns-in_default : goal.returns-in_default
returns-in_default c = register_is c.args.word.now c.named.result c.named.ensures.found c.named.ensures.only
