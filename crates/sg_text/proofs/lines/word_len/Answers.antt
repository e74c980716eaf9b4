use Rattle.std.proofs.Common.{ℕ, not, ap, sym, ◌∙◌, arith, length}
use Rattle.std.proofs.lemmas.List.Sums.{position_or_len_is}
use Rattle.sg_text.specs.Steps.{is_word_byte}
use Rattle.sg_text.proofs.lines.word_len.Goals as goal

pub returns-then-not-is_word_byte-clause-value : goal.returns-then-not-is_word_byte-clause-value
returns-then-not-is_word_byte-clause-value c =
    sym (position_or_len_is (λ (b : ℕ). not (is_word_byte b)) c.args.text.now c.loop-at.at 0 (omega arith) (λ k h. ap not (c.loop-at.invariant k h)) (λ h. ap not (sym c.is_word_byte.ensures ∙ c.if-not-is_word_byte.true)))

pub returns-clause-value : goal.returns-clause-value
returns-clause-value c =
    sym (position_or_len_is (λ (b : ℕ). not (is_word_byte b)) c.args.text.now (length c.args.text.now) 0 (omega arith) (λ k h. ap not (c.loop-at.invariant k (omega arith))) (λ h. absurd (omega arith)))
