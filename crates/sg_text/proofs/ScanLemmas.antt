-- The sentences of a text, line by line.
use Rattle.std.proofs.Common.{Bor, ◌≡◌, ℕ, suc, ◌+◌, ◌<◌, ◌≤◌, true, Option, Some, None, List, [], ◌∷◌, ◌++◌, length, refl, sym, ap, subst, ◌∙◌, inl, inr, append_assoc, arith}
use Rattle.std.specs.Prelude.{slice_get, IfSome}
use Rattle.std.proofs.Math.Seq.{take-append_seam}
use Rattle.std.proofs.lemmas.List.{append-nil}
use Rattle.sg_text.specs.declared.scanner.Extent.TheVariants.{Whole, Above}
use Rattle.sg_text.specs.Words.{is_proper, words_of, lines_of}
use Rattle.sg_text.specs.Lines.{Sentence, IsLine}
use Rattle.sg_text.specs.Numbered.{Numbered, Say}
use Rattle.sg_text.specs.Reading.{numbered, AreRead, IsNoLine, IsScan}
use Rattle.sg_text.specs.Steps.{first_line, lines_below, lines_left}
use Rattle.sg_text.proofs.OneSentence.{at, say_append}
use Rattle.sg_text.proofs.LineWords.{lines_front}

-- ---- lists with one more

get_middle : {A : Type 0} (xs ys : List A) (x : A) → slice_get (xs ++ x ∷ ys) (length xs) ≡ Some x
get_middle [] ys x = refl
get_middle (z ∷ zs) ys x = get_middle zs ys x

length_push : {A : Type 0} (xs : List A) (x : A) → length (xs ++ x ∷ []) ≡ suc (length xs)
length_push [] x = refl
length_push (z ∷ zs) x = ap suc (length_push zs x)

numbered_push : (numbers : List ℕ) (said : List Sentence) (n : ℕ) (s : Sentence) → length numbers ≡ length said → numbered (numbers ++ n ∷ []) (said ++ s ∷ []) ≡ numbered numbers said ++ at n s ∷ []
numbered_push [] [] n s e = refl
numbered_push [] (t ∷ said) n s e = absurd (omega (arith, e))
numbered_push (m ∷ numbers) [] n s e = absurd (omega (arith, e))
numbered_push (m ∷ numbers) (t ∷ said) n s e = ap (λ (l : List Numbered). at m t ∷ l) (numbered_push numbers said n s (omega (arith, e)))

-- ---- a line more

pub read_blank : (lines : List (List ℕ)) (numbers : List ℕ) (said : List Sentence) (text : List ℕ) → AreRead lines numbers said → is_proper text ≡ true → words_of text ≡ [] → AreRead (lines ++ text ∷ []) numbers said
read_blank lines numbers said text read proper none = record {
  say = subst (λ (l : List Numbered). Say (lines ++ text ∷ []) l) (append-nil (numbered numbers said)) (say_append 0 lines (text ∷ []) (numbered numbers said) [] read.say (proper, inl (none, refl)));
  as_many = read.as_many;
}

pub read_line : (lines : List (List ℕ)) (numbers : List ℕ) (said : List Sentence) (text : List ℕ) (s : Sentence) → AreRead lines numbers said → is_proper text ≡ true → IsLine (words_of text) s
    → AreRead (lines ++ text ∷ []) (numbers ++ suc (length lines) ∷ []) (said ++ s ∷ [])
read_line lines numbers said text s read proper is = record {
  say = subst (λ (l : List Numbered). Say (lines ++ text ∷ []) l) (sym (numbered_push numbers said (suc (length lines)) s read.as_many))
      (say_append 0 lines (text ∷ []) (numbered numbers said) (at (suc (length lines)) s ∷ []) read.say (proper, inr (s, [], is, one_at (length lines) s, refl)));
  as_many = rw (length_push numbers (suc (length lines)), length_push said s) (ap suc read.as_many);
}
  where
    one_at : (n : ℕ) (s : Sentence) → at (suc n) s ∷ [] ≡ at (suc (0 + n)) s ∷ []
    one_at n s = let same : n ≡ 0 + n = omega arith in ap (λ (k : ℕ). at (suc k) s ∷ []) same

-- ---- the lines of a text, one after another

abbrev pub size_behind : Option (Bor (List ℕ)) → ℕ
size_behind None = 0
size_behind (Some rest) = suc (length rest.now)

-- so many lines are read, and these are behind them
pub record ScanSoFar (lines behind : List (List ℕ)) (number : ℕ) (numbers : List ℕ) (said : List Sentence) : Type 0 where
  pub before : List (List ℕ)
  pub whole : lines ≡ before ++ behind
  pub as_many : number ≡ length before
  pub read : AreRead before numbers said

step_whole : (lines behind before : List (List ℕ)) (text : List ℕ) (after : List (List ℕ)) → behind ≡ text ∷ after → lines ≡ before ++ behind → lines ≡ (before ++ text ∷ []) ++ after
step_whole lines behind before text after e whole = whole ∙ ap (λ (some : List (List ℕ)). before ++ some) e ∙ sym (append_assoc before (text ∷ []) after)

step_number : (before : List (List ℕ)) (text : List ℕ) (number : ℕ) → number ≡ length before → number + 1 ≡ length (before ++ text ∷ [])
step_number before text number e = let more = length_push before text in omega arith

step_suc : (number : ℕ) (before : List (List ℕ)) → number ≡ length before → suc (length before) ≡ number + 1
step_suc number before e = omega arith

pub scan_blank : (lines behind : List (List ℕ)) (number : ℕ) (numbers : List ℕ) (said : List Sentence) (text : List ℕ) (after : List (List ℕ))
    → ScanSoFar lines behind number numbers said → behind ≡ text ∷ after → (is_proper text ≡ true) × (words_of text ≡ []) → ScanSoFar lines after (number + 1) numbers said
scan_blank lines behind number numbers said text after so_far e told = record {
  before = so_far.before ++ text ∷ [];
  whole = step_whole lines behind so_far.before text after e so_far.whole;
  as_many = step_number so_far.before text number so_far.as_many;
  read = read_blank so_far.before numbers said text so_far.read told.0 told.1;
}

pub scan_line : (lines behind : List (List ℕ)) (number : ℕ) (numbers : List ℕ) (said : List Sentence) (text : List ℕ) (after : List (List ℕ)) (s : Sentence)
    → ScanSoFar lines behind number numbers said → behind ≡ text ∷ after → (is_proper text ≡ true) × IsLine (words_of text) s
    → ScanSoFar lines after (number + 1) (numbers ++ (number + 1) ∷ []) (said ++ s ∷ [])
scan_line lines behind number numbers said text after s so_far e told = record {
  before = so_far.before ++ text ∷ [];
  whole = step_whole lines behind so_far.before text after e so_far.whole;
  as_many = step_number so_far.before text number so_far.as_many;
  read = rw (← step_suc number so_far.before so_far.as_many) (read_line so_far.before numbers said text s so_far.read told.0 told.1);
}

pub scan_wrong : (lines behind : List (List ℕ)) (number : ℕ) (numbers : List ℕ) (said : List Sentence) (text : List ℕ) (after : List (List ℕ))
    → ScanSoFar lines behind number numbers said → behind ≡ text ∷ after → IsNoLine text → IsScan lines numbers said (Above (number + 1))
scan_wrong lines behind number numbers said text after so_far e wrong =
    let whole : lines ≡ so_far.before ++ text ∷ after = so_far.whole ∙ ap (λ (some : List (List ℕ)). so_far.before ++ some) e in
    (length so_far.before, text, sym (step_suc number so_far.before so_far.as_many), rw whole (get_middle so_far.before after text), wrong, rw (whole, take-append_seam) so_far.read)

-- all lines are read
pub scan_end : (lines : List (List ℕ)) (number : ℕ) (numbers : List ℕ) (said : List Sentence) → ScanSoFar lines [] number numbers said → IsScan lines numbers said (Whole number)
scan_end lines number numbers said so_far =
    let whole : lines ≡ so_far.before = so_far.whole ∙ append-nil so_far.before in
    (so_far.as_many ∙ ap (λ (l : List (List ℕ)). length l) (sym whole), subst (λ (l : List (List ℕ)). AreRead l numbers said) (sym whole) so_far.read)

-- the first line of what is left, and the lines behind it
pub left_front : (bytes : List ℕ) (more : Option (Bor (List ℕ))) → lines_below bytes ≡ lines_left more → lines_of bytes ≡ first_line bytes ∷ lines_left more
left_front bytes more e = lines_front bytes ∙ ap (λ (l : List (List ℕ)). first_line bytes ∷ l) e

pub left_smaller : (bytes : List ℕ) (more : Option (Bor (List ℕ))) → IfSome more (λ rest. length rest.now < length bytes) → size_behind more ≤ length bytes
left_smaller bytes None some = omega arith
left_smaller bytes (Some rest) some = some
