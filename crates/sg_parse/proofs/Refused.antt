-- Why a text isn't read, by what the scan and the order of its sentences say.
use Rattle.std.proofs.Common.{◌≡◌, ℕ, zero, suc, ◌<◌, Some, List, [], ◌∷◌, length, take, slice_get, refl, sym, ap, ◌∙◌, subst, inr, arith}
use Rattle.std.proofs.lemmas.List.{append-nil}
use Rattle.std.proofs.lemmas.Option.{none-some, same_Some}
use Rattle.sg_text.specs.Lines.{Sentence}
use Rattle.sg_text.specs.Numbered.{Numbered, sentences}
use Rattle.sg_text.specs.Reading.{numbered, IsScan}
use Rattle.sg_text.specs.declared.scanner.Extent.{Extent}
use Rattle.sg_text.specs.declared.scanner.Extent.TheVariants.{Whole, Above}
use Rattle.sg_text.specs.Laws.{HaveOneSaying}
use Rattle.sg_grammar.specs.Text.{IsWholeText, IsPrefix, CanGoOn, IsFirstRefused}
use Rattle.sg_parse.proofs.Glue.{at, refused_misplaced, misplaced_above, refused_line, refused_end}

-- ---- sentences and their numbers

pub there-is : {A : Type 0} (xs : List A) (i : ℕ) → i < length xs → (x : A) × (slice_get xs i ≡ Some x)
there-is [] i l = absurd (omega (arith, l))
there-is (x ∷ xs) zero l = (x, refl)
there-is (x ∷ xs) (suc i) l = there-is xs i (omega (arith, l))

pub sentences_numbered : (numbers : List ℕ) (said : List Sentence) → length numbers ≡ length said → sentences (numbered numbers said) ≡ said
sentences_numbered [] [] e = refl
sentences_numbered [] (s ∷ said) e = absurd (omega (arith, e))
sentences_numbered (n ∷ numbers) [] e = absurd (omega (arith, e))
sentences_numbered (n ∷ numbers) (s ∷ said) e = ap (λ (l : List Sentence). s ∷ l) (sentences_numbered numbers said (omega (arith, e)))

pub front_numbered : (i : ℕ) (numbers : List ℕ) (said : List Sentence) → length numbers ≡ length said → sentences (take i (numbered numbers said)) ≡ take i said
front_numbered zero numbers said e = refl
front_numbered (suc i) [] [] e = refl
front_numbered (suc i) [] (s ∷ said) e = absurd (omega (arith, e))
front_numbered (suc i) (n ∷ numbers) [] e = absurd (omega (arith, e))
front_numbered (suc i) (n ∷ numbers) (s ∷ said) e = ap (λ (l : List Sentence). s ∷ l) (front_numbered i numbers said (omega (arith, e)))

pub get_numbered : (numbers : List ℕ) (said : List Sentence) (i k : ℕ) (s : Sentence) → slice_get numbers i ≡ Some k → slice_get said i ≡ Some s → slice_get (numbered numbers said) i ≡ Some (at k s)
get_numbered [] said i k s e f = absurd (none-some k e)
get_numbered (n ∷ numbers) [] i k s e f = absurd (none-some s f)
get_numbered (n ∷ numbers) (t ∷ said) zero k s e f =
    let number : n ≡ k = same_Some n k e in
    let sentence : t ≡ s = same_Some t s f in
    ap (λ (x : ℕ). Some (at x t)) number ∙ ap (λ (x : Sentence). Some (at k x)) sentence
get_numbered (n ∷ numbers) (t ∷ said) (suc i) k s e f = get_numbered numbers said i k s e f

pub sentence_numbered : (numbers : List ℕ) (said : List Sentence) (i : ℕ) (one : Numbered) → slice_get (numbered numbers said) i ≡ Some one → slice_get said i ≡ Some one.sentence
sentence_numbered [] said i one e = absurd (none-some one e)
sentence_numbered (n ∷ numbers) [] i one e = absurd (none-some one e)
sentence_numbered (n ∷ numbers) (t ∷ said) zero one e = ap (λ (x : Numbered). Some x.sentence) (same_Some (at n t) one e)
sentence_numbered (n ∷ numbers) (t ∷ said) (suc i) one e = sentence_numbered numbers said i one e

-- ---- the first line that the grammar refuses

-- there is a number for each sentence
pub as_many_numbers : (text : List (List ℕ)) (numbers : List ℕ) (said : List Sentence) (extent : Extent) → IsScan text numbers said extent → length numbers ≡ length said
as_many_numbers text numbers said (Whole count) scan = scan.1.as_many
as_many_numbers text numbers said (Above wrong) (j, line, number, there, none, read) = read.as_many

whole_prefix : (s : List Sentence) → IsWholeText s → IsPrefix s
whole_prefix s whole = inr (0, subst IsWholeText (sym (append-nil s)) whole)

module _ (law : HaveOneSaying) where
  pub at_misplaced : (text : List (List ℕ)) (numbers : List ℕ) (said : List Sentence) (extent : Extent) (i k : ℕ) → IsScan text numbers said extent →
      slice_get numbers i ≡ Some k → i < length said → IsPrefix (take i said) → ¬ CanGoOn (take (suc i) said) → IsFirstRefused text k
  at_misplaced text numbers said (Whole count) i k (counted, read) e l prefix none =
      let s = there-is said i l in
      refused_misplaced law text (numbered numbers said) i (at k s.0) read.say (get_numbered numbers said i k s.0 e s.1)
      (subst IsPrefix (sym (front_numbered i numbers said read.as_many)) prefix)
      (subst (λ (z : List Sentence). ¬ CanGoOn z) (sym (front_numbered (suc i) numbers said read.as_many)) none)
  at_misplaced text numbers said (Above wrong) i k (m, line, number, there, wordless, read) e l prefix none =
      let s = there-is said i l in
      misplaced_above law text (numbered numbers said) m i (at k s.0) read.say (get_numbered numbers said i k s.0 e s.1)
      (subst IsPrefix (sym (front_numbered i numbers said read.as_many)) prefix)
      (subst (λ (z : List Sentence). ¬ CanGoOn z) (sym (front_numbered (suc i) numbers said read.as_many)) none)

  pub at_wrong : (text : List (List ℕ)) (numbers : List ℕ) (said : List Sentence) (wrong : ℕ) → IsScan text numbers said (Above wrong) → IsPrefix said → IsFirstRefused text wrong
  at_wrong text numbers said wrong (m, line, number, there, wordless, read) prefix =
      subst (IsFirstRefused text) (sym number)
      (refused_line law text (numbered numbers said) m line there wordless read.say (subst IsPrefix (sym (sentences_numbered numbers said read.as_many)) prefix))

  pub at_wrong_whole : (text : List (List ℕ)) (numbers : List ℕ) (said : List Sentence) (wrong : ℕ) → IsScan text numbers said (Above wrong) → IsWholeText said → IsFirstRefused text wrong
  at_wrong_whole text numbers said wrong scan whole = at_wrong text numbers said wrong scan (whole_prefix said whole)

  pub at_end : (text : List (List ℕ)) (numbers : List ℕ) (said : List Sentence) (count : ℕ) → IsScan text numbers said (Whole count) → IsPrefix said → ¬ IsWholeText said → IsFirstRefused text count
  at_end text numbers said count (counted, read) prefix bad =
      let same : said ≡ sentences (numbered numbers said) = sym (sentences_numbered numbers said read.as_many) in
      subst (IsFirstRefused text) (sym counted)
      (refused_end law text (numbered numbers said) read.say (subst IsPrefix same prefix) (subst (λ (z : List Sentence). ¬ IsWholeText z) same bad))
