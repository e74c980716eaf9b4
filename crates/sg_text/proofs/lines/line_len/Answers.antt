use Rattle.std.proofs.Common.{sym, arith, length}
use Rattle.std.proofs.lemmas.Bool.{eq-eqb}
use Rattle.std.proofs.lemmas.List.Sums.{position_or_len_is}
use Rattle.sg_text.specs.Words.{is_line_feed}
use Rattle.sg_text.proofs.lines.line_len.Goals as goal

pub returns-then-byte-eq10-clause-value : goal.returns-then-byte-eq10-clause-value
returns-then-byte-eq10-clause-value c = sym (position_or_len_is is_line_feed c.args.bytes.now c.loop-at.at 0 (omega arith) c.loop-at.invariant (λ h. grind (arith, eq-eqb)))

pub returns-clause-value : goal.returns-clause-value
returns-clause-value c = sym (position_or_len_is is_line_feed c.args.bytes.now (length c.args.bytes.now) 0 (omega arith) (λ k h. c.loop-at.invariant k (omega arith)) (λ h. absurd (omega arith)))
