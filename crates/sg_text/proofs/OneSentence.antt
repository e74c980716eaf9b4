-- A line says one sentence at most, and lines say one thing at most.
use Rattle.std.proofs.Common.{◌≡◌, inl, inr, List, [], ◌∷◌, ◌++◌, length, ℕ, suc, ◌+◌, sym, ap, subst, ◌∙◌, arith}
use Rattle.std.proofs.lemmas.Option.{none-some, same_Some}
use Rattle.sg_text.specs.Words.{words_of}
use Rattle.sg_text.specs.Lines.{Sentence, IsLine}
use Rattle.sg_text.specs.Numbered.{Numbered, SayBelow}
use Rattle.sg_text.specs.Sentences.{sentence_in}
use Rattle.sg_text.specs.Laws.{HaveOneSaying}
use Rattle.sg_text.proofs.SentenceLemmas.{line_reads}

pub one_sentence : (words : List (List ℕ)) (s t : Sentence) → IsLine words s → IsLine words t → s ≡ t
one_sentence words s t a b = same_Some s t (sym (line_reads words s a) ∙ line_reads words t b)

pub no_words : (words : List (List ℕ)) (s : Sentence) → words ≡ [] → IsLine words s → ⊥
unfolding sentence_in
no_words words s e is = none-some s (line_reads [] s (subst (λ (ws : List (List ℕ)). IsLine ws s) e is))

abbrev pub at : ℕ → Sentence → Numbered
at number sentence = record { number = number; sentence = sentence }

pub one_below : (above : ℕ) (lines : List (List ℕ)) (found other : List Numbered) → SayBelow above lines found → SayBelow above lines other → found ≡ other
one_below above [] found other a b = a ∙ sym b
one_below above (line ∷ lines) found other (p, inl (e, a)) (q, inl (f, b)) = one_below (suc above) lines found other a b
one_below above (line ∷ lines) found other (p, inl (e, a)) (q, inr (s, rest, is, f, b)) = absurd (no_words (words_of line) s e is)
one_below above (line ∷ lines) found other (p, inr (s, rest, is, e, a)) (q, inl (f, b)) = absurd (no_words (words_of line) s f is)
one_below above (line ∷ lines) found other (p, inr (s, rest, is, e, a)) (q, inr (t, more, it, f, b)) =
    let same : s ≡ t = one_sentence (words_of line) s t is it in
    let behind : rest ≡ more = one_below (suc above) lines rest more a b in
    e ∙ ap (λ (x : Sentence). at (suc above) x ∷ rest) same ∙ ap (λ (l : List Numbered). at (suc above) t ∷ l) behind ∙ sym f

-- ---- lines and more lines below them

pub say_append : (above : ℕ) (lines more : List (List ℕ)) (found after : List Numbered) → SayBelow above lines found → SayBelow (above + length lines) more after → SayBelow above (lines ++ more) (found ++ after)
say_append above [] more found after e b =
    let same : above + 0 ≡ above = omega arith in
    subst (λ (l : List Numbered). SayBelow above more (l ++ after)) (sym e) (subst (λ (n : ℕ). SayBelow n more after) same b)
say_append above (line ∷ lines) more found after (p, inl (e, a)) b = (p, inl (e, say_append (suc above) lines more found after a (moved above lines more after b)))
  where
    moved : (above : ℕ) (lines more : List (List ℕ)) (after : List Numbered) → SayBelow (above + suc (length lines)) more after → SayBelow (suc above + length lines) more after
    moved above lines more after b = let same : above + suc (length lines) ≡ suc above + length lines = omega arith in subst (λ (n : ℕ). SayBelow n more after) same b
say_append above (line ∷ lines) more found after (p, inr (s, rest, is, e, a)) b =
    let same : above + suc (length lines) ≡ suc above + length lines = omega arith in
    (p, inr (s, rest ++ after, is, ap (λ (l : List Numbered). l ++ after) e, say_append (suc above) lines more rest after a (subst (λ (n : ℕ). SayBelow n more after) same b)))

pub have_one_saying : HaveOneSaying
have_one_saying = record {
  one = one_below 0;
  append = λ lines more found after a b. let same : length lines ≡ 0 + length lines = omega arith in say_append 0 lines more found after a (subst (λ (n : ℕ). SayBelow n more after) same b);
}
