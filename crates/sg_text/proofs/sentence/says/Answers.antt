use Rattle.std.proofs.Common.{arith}
use Rattle.sg_text.proofs.SentenceLemmas.{same_lengths, same_not_at, same_throughout}
use Rattle.sg_text.proofs.sentence.says.Goals as goal

pub returns-then-word-text : goal.returns-then-word-text
returns-then-word-text c = same_lengths c.args.word.now c.args.text.now c.if-word-text.true

pub returns-then-word-at : goal.returns-then-word-at
returns-then-word-at c = same_not_at c.args.word.now c.args.text.now c.loop-at.at c.if-word-at.true

pub returns : goal.returns
returns c = same_throughout c.args.word.now c.args.text.now c.if-word-text.false (λ k h. c.loop-at.invariant k (omega arith))
