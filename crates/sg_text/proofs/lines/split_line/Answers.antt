use Rattle.std.proofs.Common.{◌≤◌, ◌<◌, ◌+◌, ℕ, List, [], ◌∷◌, ◌++◌, length, map, take, refl, sym, ap, ◌∙◌, append_assoc, inl, arith, Bor}
use Rattle.std.proofs.lemmas.List.{map-append, take_more_set, length-map, length-set, length-take-le}
use Rattle.sg_text.specs.Words.{words_of}
use Rattle.sg_text.specs.Steps.{first_line}
use Rattle.sg_text.proofs.LineWords.{past_blank, after_shorter, past_comment, past_word, word_end_after, behind_alike, wrong_byte, wrong_seventh, word_end}
use Rattle.sg_text.proofs.lines.split_line.Goals as goal

abbrev texts : List (Bor (List ℕ)) → List (List ℕ)
texts words = map (λ (w : Bor (List ℕ)). w.now) words

pub loop-rest-preserved-then-is_blank : goal.loop-rest-preserved-then-is_blank
loop-rest-preserved-then-is_blank c =
    let rest : List ℕ = c.loop-rest.rest.now in
    let alike = past_blank rest c.in-len1-up.len_at_least (sym c.is_blank.ensures ∙ c.if-is_blank.true) in
    let less = after_shorter rest c.in-len1-up.len_at_least in
    let before = c.loop-rest.invariant.shorter in
    record {
      words = λ fine. c.loop-rest.invariant.words (alike.proper ∙ fine) ∙ ap (λ (l : List (List ℕ)). texts (take c.loop-rest.count c.loop-rest.words) ++ l) alike.words;
      proper = c.loop-rest.invariant.proper ∙ alike.proper;
      below = c.loop-rest.invariant.below ∙ alike.below;
      few = c.loop-rest.invariant.few;
      six = c.loop-rest.invariant.six;
      shorter = omega (arith, less, before);
    }

pub loop-rest-preserved : goal.loop-rest-preserved
loop-rest-preserved c =
    let rest : List ℕ = c.loop-rest.rest.now in
    let split = c.split_at-then-first-eq35 in
    let alike = past_comment rest split.result.1.now c.line_len.result c.in-len1-up.len_at_least c.if-first-eq35.true c.line_len.ensures.value split.ensures.back in
    let before = c.loop-rest.invariant.shorter in
    record {
      words = λ fine. c.loop-rest.invariant.words (alike.proper ∙ fine) ∙ ap (λ (l : List (List ℕ)). texts (take c.loop-rest.count c.loop-rest.words) ++ l) alike.words;
      proper = c.loop-rest.invariant.proper ∙ alike.proper;
      below = c.loop-rest.invariant.below ∙ alike.below;
      few = c.loop-rest.invariant.few;
      six = c.loop-rest.invariant.six;
      shorter = omega arith;
    }

pub loop-rest-preserved-then-is_word_byte : goal.loop-rest-preserved-then-is_word_byte
loop-rest-preserved-then-is_word_byte c =
    let rest : List ℕ = c.loop-rest.rest.now in
    let split = c.split_at in
    let more : List ℕ = c.past_space-rest.result.now in
    let first = sym c.is_word_byte.ensures ∙ c.if-is_word_byte.true in
    let end = ap (λ (n : ℕ). 1 + n) c.word_len.ensures.value ∙ word_end_after rest c.in-len1-up.len_at_least first in
    let word = past_word rest split.result.0.now split.result.1.now (1 + c.word_len.result) c.in-len1-up.len_at_least first end split.ensures.front split.ensures.back in
    let behind = behind_alike rest split.result.0.now split.result.1.now more word c.past_space-rest.ensures.alike c.past_space-rest.ensures.within in
    let count = c.loop-rest.count in
    let six = c.loop-rest.invariant.six in
    let less = behind.shorter in
    let before = c.loop-rest.invariant.shorter in
    let room : count < length c.loop-rest.words = let few = c.loop-rest.invariant.few in let other = c.if-count-eq-MOST_WORDS.false in omega arith in
    let longer = take_more_set c.loop-rest.words count split.result.0 room in
    record {
      words = λ fine.
          c.loop-rest.invariant.words (behind.proper ∙ fine) ∙ ap (λ (l : List (List ℕ)). texts (take count c.loop-rest.words) ++ l) (behind.words fine)
          ∙ sym (append_assoc (texts (take count c.loop-rest.words)) (split.result.0.now ∷ []) (words_of (first_line more)))
          ∙ ap (λ (l : List (List ℕ)). l ++ words_of (first_line more)) (sym (ap texts longer ∙ map-append (λ (w : Bor (List ℕ)). w.now) (take count c.loop-rest.words) (split.result.0 ∷ [])));
      proper = c.loop-rest.invariant.proper ∙ behind.proper;
      below = c.loop-rest.invariant.below ∙ behind.below;
      few = omega arith;
      six = length-set c.loop-rest.words count split.result.0 ∙ six;
      shorter = omega (arith, less, before);
    }

pub returns-then-count-eq-MOST_WORDS-clause-none : goal.returns-then-count-eq-MOST_WORDS-clause-none
returns-then-count-eq-MOST_WORDS-clause-none c =
    let rest : List ℕ = c.loop-rest.rest.now in
    let behind = past_word rest _ _ (word_end rest) c.in-len1-up.len_at_least (sym c.is_word_byte.ensures ∙ c.if-is_word_byte.true) refl refl refl in
    let six = c.loop-rest.invariant.six in
    let full = c.if-count-eq-MOST_WORDS.true in
    let few = c.loop-rest.invariant.few in
    let long = length-take-le c.loop-rest.count c.loop-rest.words (omega arith) in
    let many : 6 ≤ length (texts (take c.loop-rest.count c.loop-rest.words)) = omega (arith, long, length-map (take c.loop-rest.count c.loop-rest.words) (λ (x : Bor (List ℕ)). x.now)) in
    wrong_seventh (first_line c.args.bytes.now) (texts (take c.loop-rest.count c.loop-rest.words)) rest _ _ many behind c.loop-rest.invariant.proper c.loop-rest.invariant.words

pub returns-else-first-eq35-clause-none : goal.returns-else-first-eq35-clause-none
returns-else-first-eq35-clause-none c =
    inl
    (c.loop-rest.invariant.proper
    ∙ wrong_byte c.loop-rest.rest.now c.in-len1-up.len_at_least c.if-first-eq10.false (sym c.is_blank.ensures ∙ c.if-is_blank.false) c.if-first-eq35.false (sym c.is_word_byte.ensures ∙ c.if-is_word_byte.false))
