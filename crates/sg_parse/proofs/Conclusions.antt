-- From the sentences of a text to what it reads as, and to its first fault.
use Rattle.std.proofs.Common.{◌≡◌, ◌≢◌, ℕ, suc, ◌<◌, ◌≤◌, Some, List, [], ◌∷◌, length, take, slice_get, inl, inr, refl, sym, ap, ◌∙◌, subst, arith}
use Rattle.std.specs.Prelude.{Result, Ok, Err, IfOk, IfErr}
use Rattle.std.specs.List.{AllByRecursion}
use Rattle.sg_program.specs.declared.program.Program.{Program}
use Rattle.sg_program.specs.Limits.{most_bytes}
use Rattle.sg_program.specs.Laws.{ItemsUnfold}
use Rattle.sg_program.specs.Invariants.{IsWithinLimits}
use Rattle.sg_text.specs.Words.{lines_of}
use Rattle.sg_text.specs.Lines.{Sentence, Begins}
use Rattle.sg_text.specs.Numbered.{Numbered, sentences, SayBelow}
use Rattle.sg_text.specs.Reading.{numbered, AreRead}
use Rattle.sg_text.specs.Laws.{HaveOneSaying}
use Rattle.sg_grammar.specs.Text.{IsProgram, IsWholeText, IsTextOf, StandsFor, HasOneReading}
use Rattle.sg_parse.specs.declared.refusal.Refusal.{Refusal}
use Rattle.sg_parse.specs.declared.refusal.Refusal.TheVariants.{Class, Limit, Later, Memory}
use Rattle.sg_limits.specs.declared.which.Which.{Which}
use Rattle.sg_limits.specs.declared.which.Which.TheVariants.{Mutators}
use Rattle.sg_limits.specs.Faults.{IsFirstFault, HasNone, IsMisnamed, BreaksSome, BreaksFirst, KeepsLimits, IsLater}
use Rattle.sg_parse.specs.Accepted.{IsReadAs, IsRefusedBy}
use Rattle.sg_parse.specs.Invariants.{IsReadProgram}
use Rattle.sg_parse.specs.Indices.{IsFirstIn, HasNoneIn}
use Rattle.sg_parse.proofs.Apart.{refused-apart}
use Rattle.sg_parse.proofs.Glue.{at, there-below}
use Rattle.sg_parse.proofs.Refused.{there-is, sentences_numbered, front_numbered, get_numbered, sentence_numbered}
use Rattle.sg_parse.proofs.Run.{IsSaid, run_now}

same-some : {A : Type 0} (x y : A) → Some x ≡ Some y → x ≡ y
same-some x y e = cc

-- each sentence is that of some words
said_below : (above : ℕ) (lines : List (List ℕ)) (found : List Numbered) → SayBelow above lines found → AllByRecursion IsSaid (sentences found)
said_below above [] found s = subst (λ (l : List Numbered). AllByRecursion IsSaid (sentences l)) (sym s) tt
said_below above (line ∷ lines) found (p, inl (w, s)) = said_below (suc above) lines found s
said_below above (line ∷ lines) found (p, inr (one, rest, is, e, s)) =
    subst (λ (l : List Numbered). AllByRecursion IsSaid (sentences l)) (sym e) ((_, is), said_below (suc above) lines rest s)

pub said_each : (lines : List (List ℕ)) (numbers : List ℕ) (said : List Sentence) → AreRead lines numbers said → AllByRecursion IsSaid said
said_each lines numbers said read = subst (AllByRecursion IsSaid) (sentences_numbered numbers said read.as_many) (said_below 0 lines (numbered numbers said) read.say)

module _ (bytes numbers : List ℕ) (s : List Sentence) (short : length bytes ≤ most_bytes) (read : AreRead (lines_of bytes) numbers s) (whole : IsWholeText s) where
  abbrev found : List Numbered
  found = numbered numbers s

  text : IsTextOf (lines_of bytes) found
  text = (read.say, subst IsWholeText (sym (sentences_numbered numbers s read.as_many)) whole)

  -- what stands before a sentence, with numbers and without
  before : (Fault : List Sentence → Sentence → Type 0) (i : ℕ) (line : Sentence) → Fault (sentences (take i found)) line → Fault (take i s) line
  before Fault i line = subst (λ (l : List Sentence). Fault l line) (front_numbered i numbers s read.as_many)

  none-at-all : (Fault : List Sentence → Sentence → Type 0) → HasNoneIn Fault s → HasNone Fault found
  none-at-all Fault none k other there fault = none k other.sentence (sentence_numbered numbers s k other there) (before Fault k other.sentence fault)

  unfoldable first_fault : (Fault : List Sentence → Sentence → Type 0) (i k : ℕ) → slice_get numbers i ≡ Some k → IsFirstIn Fault s i → IsFirstFault Fault found k
  first_fault Fault i k e first = record {
    index = i;
    one = at k first.0.0;
    there = get_numbered numbers s i k first.0.0 e first.0.1;
    number = refl;
    fault = subst (λ (l : List Sentence). Fault l first.0.0) (sym (front_numbered i numbers s read.as_many)) first.0.2;
    first = λ j other below there fault. first.1 j other.sentence below (sentence_numbered numbers s j other there) (before Fault j other.sentence fault);
  }

  pub class-fault : (i k : ℕ) → slice_get numbers i ≡ Some k → IsFirstIn IsMisnamed s i → IsRefusedBy bytes (Class k)
  class-fault i k e first = (short, (found, text, first_fault IsMisnamed i k e first))

  module _ (named : HasNoneIn IsMisnamed s) where
    well-named : HasNone IsMisnamed found
    well-named = none-at-all IsMisnamed named

    pub limit-fault : (i k : ℕ) (which : Which) → slice_get numbers i ≡ Some k → IsFirstIn BreaksSome s i →
        ((line : Sentence) × (slice_get s i ≡ Some line) × BreaksFirst which (take i s) line) → IsRefusedBy bytes (Limit k which)
    unfolding first_fault
    limit-fault i k which e first (line, there, breaks) =
        let same : line ≡ first.0.0 = same-some line first.0.0 (sym there ∙ first.0.1) in
        let here : BreaksFirst which (take i s) first.0.0 = subst (BreaksFirst which (take i s)) same breaks in
        (short, (found, text, (well-named, inl (first_fault BreaksSome i k e first, subst (λ (l : List Sentence). BreaksFirst which l first.0.0) (sym (front_numbered i numbers s read.as_many)) here))))

    pub no-mutator : (count : ℕ) → count ≡ length (lines_of bytes) → HasNoneIn BreaksSome s → ((j : ℕ) → ¬ (slice_get s j ≡ Some Begins)) → IsRefusedBy bytes (Limit count Mutators)
    no-mutator count counted none nobody = (
      short,
      (
        found,
        text,
        (
          well-named,
          inr (
            none-at-all BreaksSome none,
            (λ k one there begins. nobody k (sentence_numbered numbers s k one there ∙ ap (λ (l : Sentence). Some l) begins)),
            counted,
            refl,
          ),
        ),
      ),
    )

    module _ (none : HasNoneIn BreaksSome s) (mutator : (j : ℕ) × (slice_get s j ≡ Some Begins)) where
      keeps : KeepsLimits found
      keeps = record {
        each = none-at-all BreaksSome none;
        some = λ nobody.
            let within : mutator.0 < length numbers = let l = there-below s mutator.0 Begins mutator.1 in omega (arith, read.as_many) in
            let number = there-is numbers mutator.0 within in
            nobody mutator.0 (at number.0 Begins) (get_numbered numbers s mutator.0 number.0 Begins number.1 mutator.1) refl;
      }

      pub later-fault : (i k : ℕ) → slice_get numbers i ≡ Some k → IsFirstIn IsLater s i → IsRefusedBy bytes (Later k)
      later-fault i k e first = (short, (found, text, (well-named, keeps, first_fault IsLater i k e first)))

      module _ (p : Program) (is : IsProgram (StandsFor p.classes) s p) (now : HasNoneIn IsLater s) where
        pub read-as : IsReadAs bytes p
        read-as = record {
          short = short;
          found = found;
          says = read.say;
          is = subst (λ (l : List Sentence). IsProgram (StandsFor p.classes) l p) (sym (sentences_numbered numbers s read.as_many)) is;
          named = well-named;
          limits = keeps;
          now = none-at-all IsLater now;
        }

        pub known : ItemsUnfold → IsWithinLimits p → IsReadProgram p
        known law limits = record { limits = limits; run = run_now law s p is (said_each _ numbers s read) now }

-- each sentence has a number
pub number-there : (text : List (List ℕ)) (numbers : List ℕ) (s : List Sentence) (i : ℕ) {line : Sentence} → AreRead text numbers s → slice_get s i ≡ Some line → i < length numbers
number-there text numbers s i {line} read e = let l = there-below s i line e in omega (arith, read.as_many)

-- the program that is read is the only one that could be
pub only-one : (bytes : List ℕ) (answer : Result Program Refusal) → HasOneReading → IfOk answer (IsReadAs bytes) → IfOk answer (λ p. (q : Program) → IsReadAs bytes q → q ≡ p)
only-one bytes (Ok p) law read = λ q r. law.one bytes q p (r.found, r.says, r.is) (read.found, read.says, read.is)
only-one bytes (Err refusal) law read = tt

-- who is refused reads as nothing
pub none-reads : HaveOneSaying → (bytes : List ℕ) (answer : Result Program Refusal) → IfErr answer (IsRefusedBy bytes) → IfErr answer (λ refusal. refusal ≢ Memory → (q : Program) → ¬ IsReadAs bytes q)
none-reads law bytes (Ok p) refused = tt
none-reads law bytes (Err refusal) refused = λ other q read. refused-apart law bytes refusal q refused other read
