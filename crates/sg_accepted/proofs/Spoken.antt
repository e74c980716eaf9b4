-- Texts that say sentences, line by line.
use Rattle.std.proofs.Common.{◌≡◌, ℕ, suc, ◌^◌, ◌<◌, true, false, List, [], ◌∷◌, ◌++◌, length, filter, not, refl, sym, ap, ◌∙◌, subst, arith, append_assoc, inl, inr}
use Rattle.std.specs.Fmt.{decimal}
use Rattle.std.proofs.lemmas.Fmt.{decimal_nonempty}
use Rattle.sg_text.specs.Words.{lines_of, words_of, is_blank, is_line_feed, is_empty, parted_by}
use Rattle.sg_text.specs.Numbered.{Numbered, sentences, SayBelow}
use Rattle.sg_text.specs.Lines.{Sentence, IsLine}
use Rattle.sg_accepted.proofs.Digits.{All, is_plain, first_part, no_feeds, no_comment, proper}

-- the text has a line for each of these sentences, which says it
pub data Spoken : List ℕ → List Sentence → Type 0 where
  Silent : Spoken [] []
  Line : (line : List ℕ) (s : Sentence) (more : List ℕ) (rest : List Sentence) → All is_plain true line → IsLine (words_of line) s → Spoken more rest →
      Spoken (line ++ 10 ∷ more) (s ∷ rest)

pub join : (t : List ℕ) (xs : List Sentence) (u : List ℕ) (ys : List Sentence) → Spoken t xs → Spoken u ys → Spoken (t ++ u) (xs ++ ys)
join t xs u ys Silent says = says
join t xs u ys (Line line s more rest plain is spoken) says =
    subst (λ (v : List ℕ). Spoken v (s ∷ rest ++ ys)) (sym (append_assoc line (10 ∷ more) u))
    (Line line s (more ++ u) (rest ++ ys) plain is (join more rest u ys spoken says))

-- sentences with the numbers of their lines, which stand below so many others
abbrev pub numbered : ℕ → List Sentence → List Numbered
numbered above [] = []
numbered above (s ∷ rest) = record { number = suc above; sentence = s } ∷ numbered (suc above) rest

pub sentences_numbered : (above : ℕ) (ss : List Sentence) → sentences (numbered above ss) ≡ ss
sentences_numbered above [] = refl
sentences_numbered above (s ∷ rest) = ap (λ (xs : List Sentence). s ∷ xs) (sentences_numbered (suc above) rest)

-- the lines of such a text say these sentences
pub say_below : (t : List ℕ) (ss : List Sentence) (above : ℕ) → Spoken t ss → SayBelow above (lines_of t) (numbered above ss)
say_below t ss above Silent = (refl, inl (refl, refl))
say_below t ss above (Line line s more rest plain is spoken) =
    subst (λ (lines : List (List ℕ)). SayBelow above lines (numbered above (s ∷ rest))) (sym (first_part is_line_feed line 10 more (no_feeds line plain) refl))
    (proper line plain, inr (s, numbered (suc above) rest, is, refl, say_below more rest (suc above) spoken))

-- the words of a line whose parts are these and a number
pub words_by : (line : List ℕ) (ps : List (List ℕ)) → All is_plain true line → parted_by is_blank line ≡ ps → words_of line ≡ filter (λ word. not (is_empty word)) ps
words_by line ps plain is = ap (λ (l : List ℕ). filter (λ word. not (is_empty word)) (parted_by is_blank l)) (no_comment line plain) ∙ ap (filter (λ word. not (is_empty word))) is

full : (word : List ℕ) → 0 < length word → is_empty word ≡ false
full [] l = absurd (omega (arith, l))
full (c ∷ cs) l = refl

-- a number is a word
pub number_stays : (n : ℕ) (more : List (List ℕ)) → n < 2 ^ 64 → filter (λ word. not (is_empty word)) (decimal n ∷ more) ≡ decimal n ∷ filter (λ word. not (is_empty word)) more
number_stays n more fits = kept (decimal n) (full (decimal n) (decimal_nonempty n fits))
  where
    kept : (word : List ℕ) → is_empty word ≡ false → filter (λ w. not (is_empty w)) (word ∷ more) ≡ word ∷ filter (λ w. not (is_empty w)) more
    kept [] e = absurd cc
    kept (c ∷ cs) e = refl
