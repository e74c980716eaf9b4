-- The words of a line, from the front.
use Rattle.std.proofs.Common.{◌≡◌, ℕ, suc, ◌+◌, ◌-◌, ◌<◌, ◌≤◌, Bool, true, false, ◌&&◌, ◌||◌, ◌==◌, not, List, [], ◌∷◌, ◌++◌, length, take, drop, get_or, filter, refl, sym, ap, ◌∙◌, subst, inl, inr, arith}
use Rattle.std.specs.List.{position_or_len}
use Rattle.std.proofs.lemmas.Bool.{cases_Bool}
use Rattle.std.proofs.lemmas.Bool.Decides.{nat_tests}
use Rattle.std.proofs.lemmas.Grind.{common_steps}
use Rattle.std.proofs.lemmas.List.{length-append, length-drop}
use Rattle.std.proofs.lemmas.Option.{none-some}
use Rattle.std.proofs.Math.Seq.{take-length}
use Rattle.sg_text.specs.Words.{parted_by, onto_first, is_line_feed, is_blank, is_printable, is_empty, is_proper, before_comment, words_of, lines_of}
use Rattle.sg_text.specs.Lines.{Sentence, IsLine}
use Rattle.sg_text.specs.Reading.{IsNoLine}
use Rattle.sg_text.specs.Steps.{is_word_byte, first_line, lines_below, AreAlike}
use Rattle.sg_text.specs.Sentences.{sentence_in}
use Rattle.sg_text.proofs.SentenceLemmas.{line_reads}

-- ---- the first line, and those below it

pub lines_front : (bytes : List ℕ) → lines_of bytes ≡ first_line bytes ∷ lines_below bytes
lines_front [] = refl
lines_front (c ∷ cs) = elim (cases_Bool (is_line_feed c)) [
  | inl e ↦ rw e refl
  | inr e ↦ rw e (ap (onto_first c) (lines_front cs))
]

-- ---- single bytes

word_feed : (c : ℕ) → is_word_byte c ≡ true → is_line_feed c ≡ false
word_feed c e = grind (arith, nat_tests, common_steps)

word_blank : (c : ℕ) → is_word_byte c ≡ true → is_blank c ≡ false
word_blank c e = grind (arith, nat_tests, common_steps)

word_printable : (c : ℕ) → is_word_byte c ≡ true → is_printable c ≡ true
word_printable c e = grind (arith, nat_tests, common_steps)

abbrev is_comment : ℕ → Bool
is_comment c = c == 35

word_comment : (c : ℕ) → is_word_byte c ≡ true → is_comment c ≡ false
word_comment c e = grind (arith, nat_tests, common_steps)

blank_feed : (c : ℕ) → is_blank c ≡ true → is_line_feed c ≡ false
blank_feed c e = grind (arith, nat_tests, common_steps)

blank_comment : (c : ℕ) → is_blank c ≡ true → is_comment c ≡ false
blank_comment c e = grind (arith, nat_tests, common_steps)

dark_unprintable : (c : ℕ) → is_word_byte c ≡ false → is_comment c ≡ false → is_printable c ≡ false
dark_unprintable c e f = grind (arith, nat_tests, common_steps)

feed_not : (c : ℕ) → (c ≡ 10 → ⊥) → is_line_feed c ≡ false
feed_not c n = grind (arith, nat_tests, common_steps)

comment_not : (c : ℕ) → (c ≡ 35 → ⊥) → is_comment c ≡ false
comment_not c n = grind (arith, nat_tests, common_steps)

-- ---- a byte more

one_more : (n : ℕ) → 1 + n ≡ suc n
one_more n = omega arith

line_more : (c : ℕ) (cs : List ℕ) → is_line_feed c ≡ false → first_line (c ∷ cs) ≡ c ∷ first_line cs
line_more c cs e = rw e refl

below_more : (c : ℕ) (cs : List ℕ) → is_line_feed c ≡ false → lines_below (c ∷ cs) ≡ lines_below cs
below_more c cs e = rw e refl

text_more : (c : ℕ) (line : List ℕ) → is_comment c ≡ false → before_comment (c ∷ line) ≡ c ∷ before_comment line
text_more c line e = rw (e, one_more) refl

proper_more : (c : ℕ) (line : List ℕ) → is_comment c ≡ false → is_proper (c ∷ line) ≡ ((is_blank c || is_printable c) && is_proper line)
proper_more c line e = rw (text_more c line e) refl

-- ---- a blank

blank_alike : (c : ℕ) (cs : List ℕ) → is_blank c ≡ true → AreAlike (c ∷ cs) cs
blank_alike c cs e =
    let line = line_more c cs (blank_feed c e) in
    record {
      proper = rw line (proper_more c (first_line cs) (blank_comment c e) ∙ rw e refl);
      words = rw (line, text_more c (first_line cs) (blank_comment c e), e) refl;
      below = below_more c cs (blank_feed c e);
    }

after_front : (c : ℕ) (cs : List ℕ) → take (length (c ∷ cs) - 1) (drop 1 (c ∷ cs)) ≡ cs
after_front c cs = let len : length (c ∷ cs) - 1 ≡ length cs = omega arith in rw len (take-length cs)

pub past_blank : (rest : List ℕ) → 1 ≤ length rest → is_blank (get_or rest 0 0) ≡ true → AreAlike rest (take (length rest - 1) (drop 1 rest))
past_blank [] some e = absurd (omega arith)
past_blank (c ∷ cs) some e = subst (AreAlike (c ∷ cs)) (sym (after_front c cs)) (blank_alike c cs e)

-- a space at the front, which is a blank
pub past_space : (text : List ℕ) → 1 ≤ length text → get_or text 0 0 ≡ 32 → AreAlike text (take (length text - 1) (drop 1 text))
past_space text some e = past_blank text some (rw e refl)

pub alike_itself : (text : List ℕ) → AreAlike text text
alike_itself text = record { proper = refl; words = refl; below = refl }

pub after_shorter : (rest : List ℕ) → 1 ≤ length rest → length (take (length rest - 1) (drop 1 rest)) < length rest
after_shorter [] some = absurd (omega arith)
after_shorter (c ∷ cs) some = rw (after_front c cs) (omega arith)

pub feed_below : (rest : List ℕ) → 1 ≤ length rest → get_or rest 0 0 ≡ 10 → lines_below rest ≡ lines_of (take (length rest - 1) (drop 1 rest))
feed_below [] some e = absurd (omega arith)
feed_below (c ∷ cs) some e = rw e (ap (λ (l : List ℕ). lines_of l) (sym (after_front c cs)))

pub feed_line : (rest : List ℕ) → get_or rest 0 0 ≡ 10 → first_line rest ≡ []
feed_line [] e = refl
feed_line (c ∷ cs) e = rw e refl

-- ---- a comment

at_feed : (bytes : List ℕ) → first_line (drop (position_or_len is_line_feed bytes) bytes) ≡ []
at_feed [] = refl
at_feed (c ∷ cs) = elim (cases_Bool (is_line_feed c)) [
  | inl e ↦ rw e (rw e refl)
  | inr e ↦ rw (e, one_more (position_or_len is_line_feed cs)) (at_feed cs)
]

below_feed : (bytes : List ℕ) → lines_below bytes ≡ lines_below (drop (position_or_len is_line_feed bytes) bytes)
below_feed [] = refl
below_feed (c ∷ cs) = elim (cases_Bool (is_line_feed c)) [
  | inl e ↦ rw e (rw e refl)
  | inr e ↦ rw (e, one_more (position_or_len is_line_feed cs)) (below_feed cs)
]

comment_proper : (c : ℕ) (cs : List ℕ) → c ≡ 35 → is_proper (first_line (c ∷ cs)) ≡ true
comment_proper c cs e = rw e refl

comment_words : (c : ℕ) (cs : List ℕ) → c ≡ 35 → words_of (first_line (c ∷ cs)) ≡ []
comment_words c cs e = rw e refl

pub past_comment : (rest more : List ℕ) (n : ℕ) → 1 ≤ length rest → get_or rest 0 0 ≡ 35 → n ≡ position_or_len is_line_feed rest → more ≡ drop n rest → AreAlike rest more
past_comment [] more n some e n-is more-is = absurd (omega arith)
past_comment (c ∷ cs) more n some e n-is more-is =
    let same : more ≡ drop (position_or_len is_line_feed (c ∷ cs)) (c ∷ cs) = more-is ∙ ap (λ (k : ℕ). drop k (c ∷ cs)) n-is in
    let none : first_line more ≡ [] = ap (λ (l : List ℕ). first_line l) same ∙ at_feed (c ∷ cs) in
    record {
      proper = rw none (comment_proper c cs e);
      words = rw none (comment_words c cs e);
      below = below_feed (c ∷ cs) ∙ ap (λ (l : List ℕ). lines_below l) (sym same);
    }

-- ---- a word

abbrev pub word_end : List ℕ → ℕ
word_end bytes = position_or_len (λ c. not (is_word_byte c)) bytes

-- the end of a word, from its second byte on
pub word_end_after : (rest : List ℕ) → 1 ≤ length rest → is_word_byte (get_or rest 0 0) ≡ true → 1 + word_end (take (length rest - 1) (drop 1 rest)) ≡ word_end rest
word_end_after [] some e = absurd (omega arith)
word_end_after (c ∷ cs) some e = rw (after_front c cs, e) refl

proper_past : (bytes : List ℕ) → is_proper (first_line bytes) ≡ is_proper (first_line (drop (word_end bytes) bytes))
proper_past [] = refl
proper_past (c ∷ cs) = elim (cases_Bool (is_word_byte c)) [
  | inl e ↦
      rw (e, one_more (word_end cs))
      (ap (λ (l : List ℕ). is_proper l) (line_more c cs (word_feed c e)) ∙ proper_more c (first_line cs) (word_comment c e) ∙ rw (word_blank c e, word_printable c e) (proper_past cs))
  | inr e ↦ rw e refl
]

below_past : (bytes : List ℕ) → lines_below bytes ≡ lines_below (drop (word_end bytes) bytes)
below_past [] = refl
below_past (c ∷ cs) = elim (cases_Bool (is_word_byte c)) [
  | inl e ↦ rw (e, one_more (word_end cs)) (below_more c cs (word_feed c e) ∙ below_past cs)
  | inr e ↦ rw e refl
]

text_past : (bytes : List ℕ) → before_comment (first_line bytes) ≡ take (word_end bytes) bytes ++ before_comment (first_line (drop (word_end bytes) bytes))
text_past [] = refl
text_past (c ∷ cs) = elim (cases_Bool (is_word_byte c)) [
  | inl e ↦
      rw (e, one_more (word_end cs))
      (ap (λ (l : List ℕ). before_comment l) (line_more c cs (word_feed c e)) ∙ text_more c (first_line cs) (word_comment c e) ∙ ap (λ (l : List ℕ). c ∷ l) (text_past cs))
  | inr e ↦ rw e refl
]

-- a text that is empty or begins with a blank
abbrev BeginsApart : List ℕ → Type 0
BeginsApart text = (others : List (List ℕ)) × (parted_by is_blank text ≡ [] ∷ others)

apart_blank : (c : ℕ) (text : List ℕ) → is_blank c ≡ true → BeginsApart (c ∷ text)
apart_blank c text e = (parted_by is_blank text, rw e refl)

-- what follows a word, in a line that is proper
follows : (bytes : List ℕ) → is_proper (first_line (drop (word_end bytes) bytes)) ≡ true → BeginsApart (before_comment (first_line (drop (word_end bytes) bytes)))
follows [] proper = ([], refl)
follows (c ∷ cs) proper = elim (cases_Bool (is_word_byte c)) [
  | inl e ↦
      let at : drop (word_end (c ∷ cs)) (c ∷ cs) ≡ drop (word_end cs) cs = rw (e, one_more (word_end cs)) refl in
      subst (λ (l : List ℕ). BeginsApart (before_comment (first_line l))) (sym at) (follows cs (ap (λ (l : List ℕ). is_proper (first_line l)) (sym at) ∙ proper))
  | inr e ↦
      let at : drop (word_end (c ∷ cs)) (c ∷ cs) ≡ c ∷ cs = rw e refl in
      subst (λ (l : List ℕ). BeginsApart (before_comment (first_line l))) (sym at) (here e (ap (λ (l : List ℕ). is_proper (first_line l)) (sym at) ∙ proper))
]
  where
    here : is_word_byte c ≡ false → is_proper (first_line (c ∷ cs)) ≡ true → BeginsApart (before_comment (first_line (c ∷ cs)))
    here e fine = elim (cases_Bool (is_line_feed c)) [
      | inl f ↦ let none : first_line (c ∷ cs) ≡ [] = rw f refl in ([], ap (λ (l : List ℕ). parted_by is_blank (before_comment l)) none)
      | inr f ↦
          let line = line_more c cs f in
          elim (cases_Bool (is_comment c)) [
            | inl g ↦ let none : before_comment (first_line (c ∷ cs)) ≡ [] = rw (line, g) refl in ([], ap (λ (l : List ℕ). parted_by is_blank l) none)
            | inr g ↦ elim (cases_Bool (is_blank c)) [
              | inl b ↦
                  let text : before_comment (first_line (c ∷ cs)) ≡ c ∷ before_comment (first_line cs) = ap (λ (l : List ℕ). before_comment l) line ∙ text_more c (first_line cs) g in
                  subst BeginsApart (sym text) (apart_blank c (before_comment (first_line cs)) b)
              | inr b ↦
                  let bad : is_proper (first_line (c ∷ cs)) ≡ false = ap (λ (l : List ℕ). is_proper l) line ∙ proper_more c (first_line cs) g ∙ rw (b, dark_unprintable c e g) refl in
                  absurd (let both : true ≡ false = sym fine ∙ bad in cc)
            ]
          ]
    ]

parted_word : (bytes text : List ℕ) (others : List (List ℕ)) → parted_by is_blank text ≡ [] ∷ others → parted_by is_blank (take (word_end bytes) bytes ++ text) ≡ take (word_end bytes) bytes ∷ others
parted_word [] text others e = e
parted_word (c ∷ cs) text others e = elim (cases_Bool (is_word_byte c)) [
  | inl w ↦ rw (w, one_more (word_end cs)) (rw (word_blank c w) (ap (onto_first c) (parted_word cs text others e)))
  | inr w ↦ rw w e
]

abbrev some_of : List (List ℕ) → List (List ℕ)
some_of parts = filter (λ word. not (is_empty word)) parts

some_word : (c : ℕ) (cs : List ℕ) (others : List (List ℕ)) → is_word_byte c ≡ true → some_of (take (word_end (c ∷ cs)) (c ∷ cs) ∷ others) ≡ take (word_end (c ∷ cs)) (c ∷ cs) ∷ some_of others
some_word c cs others w = rw (w, one_more (word_end cs)) refl

words_past : (c : ℕ) (cs : List ℕ) → is_word_byte c ≡ true → is_proper (first_line (drop (word_end (c ∷ cs)) (c ∷ cs))) ≡ true →
    words_of (first_line (c ∷ cs)) ≡ take (word_end (c ∷ cs)) (c ∷ cs) ∷ words_of (first_line (drop (word_end (c ∷ cs)) (c ∷ cs)))
words_past c cs w proper =
    let apart = follows (c ∷ cs) proper in
    ap (λ (l : List ℕ). some_of (parted_by is_blank l)) (text_past (c ∷ cs)) ∙ ap some_of (parted_word (c ∷ cs) _ apart.0 apart.1) ∙ some_word c cs apart.0 w
    ∙ ap (λ (l : List (List ℕ)). take (word_end (c ∷ cs)) (c ∷ cs) ∷ l) (sym (ap some_of apart.1))

-- what stands behind a word at the front
pub record Behind (rest word more : List ℕ) : Type 0 where
  pub proper : is_proper (first_line rest) ≡ is_proper (first_line more)
  pub words : is_proper (first_line more) ≡ true → words_of (first_line rest) ≡ word ∷ words_of (first_line more)
  pub below : lines_below rest ≡ lines_below more
  pub shorter : length more < length rest

pub past_word : (rest word more : List ℕ) (n : ℕ) → 1 ≤ length rest → is_word_byte (get_or rest 0 0) ≡ true → n ≡ word_end rest → word ≡ take n rest → more ≡ drop n rest → Behind rest word more
past_word [] word more n some e n-is word-is more-is = absurd (omega arith)
past_word (c ∷ cs) word more n some e n-is word-is more-is =
    let m : more ≡ drop (word_end (c ∷ cs)) (c ∷ cs) = more-is ∙ ap (λ (k : ℕ). drop k (c ∷ cs)) n-is in
    let w : word ≡ take (word_end (c ∷ cs)) (c ∷ cs) = word-is ∙ ap (λ (k : ℕ). take k (c ∷ cs)) n-is in
    record {
      proper = proper_past (c ∷ cs) ∙ ap (λ (l : List ℕ). is_proper (first_line l)) (sym m);
      words = λ fine.
          words_past c cs e (ap (λ (l : List ℕ). is_proper (first_line l)) (sym m) ∙ fine)
          ∙ ap (λ (l : List ℕ). l ∷ words_of (first_line (drop (word_end (c ∷ cs)) (c ∷ cs)))) (sym w) ∙ ap (λ (l : List ℕ). word ∷ words_of (first_line l)) (sym m);
      below = below_past (c ∷ cs) ∙ ap (λ (l : List ℕ). lines_below l) (sym m);
      shorter = let one : word_end (c ∷ cs) ≡ suc (word_end cs) = rw (e, one_more (word_end cs)) refl in
          let long : length more ≡ length (drop (word_end (c ∷ cs)) (c ∷ cs)) = ap (λ (l : List ℕ). length l) m in omega (arith, length-drop (word_end (c ∷ cs)) (c ∷ cs));
    }

pub behind_alike : (rest word more other : List ℕ) → Behind rest word more → AreAlike more other → length other ≤ length more → Behind rest word other
behind_alike rest word more other behind alike within = record {
  proper = behind.proper ∙ alike.proper;
  words = λ fine. behind.words (alike.proper ∙ fine) ∙ ap (λ (l : List (List ℕ)). word ∷ l) alike.words;
  below = behind.below ∙ alike.below;
  shorter = let less = behind.shorter in omega (arith, less, within);
}

-- ---- lines of no text

pub wrong_byte : (rest : List ℕ) → 1 ≤ length rest → (get_or rest 0 0 ≡ 10 → ⊥) → is_blank (get_or rest 0 0) ≡ false → (get_or rest 0 0 ≡ 35 → ⊥) → is_word_byte (get_or rest 0 0) ≡ false → is_proper (first_line rest) ≡ false
wrong_byte [] some f b g w = absurd (omega arith)
wrong_byte (c ∷ cs) some f b g w =
    ap (λ (l : List ℕ). is_proper l) (line_more c cs (feed_not c f)) ∙ proper_more c (first_line cs) (comment_not c g) ∙ rw (b, dark_unprintable c w (comment_not c g)) refl

too_many : (words : List (List ℕ)) (s : Sentence) → 6 < length words → IsLine words s → ⊥
unfolding sentence_in
too_many [] s l is = omega arith
too_many (a ∷ []) s l is = omega (arith, l)
too_many (a ∷ b ∷ []) s l is = omega (arith, l)
too_many (a ∷ b ∷ c ∷ []) s l is = omega (arith, l)
too_many (a ∷ b ∷ c ∷ d ∷ []) s l is = omega (arith, l)
too_many (a ∷ b ∷ c ∷ d ∷ e ∷ []) s l is = omega (arith, l)
too_many (a ∷ b ∷ c ∷ d ∷ e ∷ f ∷ []) s l is = omega (arith, l)
too_many (a ∷ b ∷ c ∷ d ∷ e ∷ f ∷ g ∷ gs) s l is = none-some s (line_reads (a ∷ b ∷ c ∷ d ∷ e ∷ f ∷ g ∷ gs) s is)

some_words : (words : List (List ℕ)) → 6 < length words → is_empty words ≡ false
some_words [] l = absurd (omega arith)
some_words (w ∷ ws) l = refl

-- a seventh word
pub wrong_seventh : (line : List ℕ) (so_far : List (List ℕ)) (rest word more : List ℕ) → 6 ≤ length so_far → Behind rest word more → is_proper line ≡ is_proper (first_line rest) →
    (is_proper (first_line rest) ≡ true → words_of line ≡ so_far ++ words_of (first_line rest)) → IsNoLine line
wrong_seventh line so_far rest word more six behind proper words = elim (cases_Bool (is_proper line)) [
  | inr e ↦ inl e
  | inl e ↦
      let fine : is_proper (first_line rest) ≡ true = sym proper ∙ e in
      let all : words_of line ≡ so_far ++ (word ∷ words_of (first_line more)) = words fine ∙ ap (λ (l : List (List ℕ)). so_far ++ l) (behind.words (sym behind.proper ∙ fine)) in
      let long : 6 < length (words_of line) = let l = ap (λ (l : List (List ℕ)). length l) all in omega (arith, l, length-append so_far (word ∷ words_of (first_line more))) in
      inr (some_words (words_of line) long, λ s. too_many (words_of line) s long)
]
