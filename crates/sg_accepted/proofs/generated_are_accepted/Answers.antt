use Rattle.std.proofs.Common.{ℕ, ◌/◌, ◌≤◌, List, [], ◌∷◌, ◌++◌, length, refl, sym, subst, arith, length-append}
use Rattle.sg_text.specs.Lines.{Sentence, Heads}
use Rattle.sg_grammar.specs.Text.{IsProgram, StandsFor}
use Rattle.sg_grammar.specs.Laws.{HaveOneProgram}
use Rattle.sg_limits.specs.Faults.{IsMisnamed, IsLater, BreaksSome}
use Rattle.sg_limits.specs.Laws.{HaveLineLimits}
use Rattle.rand_pcg.specs.Lcg.{Lcg}
use Rattle.sg_gen.specs.declared.generated.Move.{Move}
use Rattle.sg_gen.specs.Generated.{seeded, script_text, settings_text, mutator_text, moves}
use Rattle.sg_load.specs.Generated.{generated, moves_of, node}
use Rattle.sg_accepted.specs.Accepted.{IsAcceptable}
use Rattle.sg_accepted.proofs.Spoken.{Silent, join, numbered, sentences_numbered, say_below}
use Rattle.sg_accepted.proofs.MoveLines.{says_all, says_settings, says_class, one_more_spoken, settings_spoken}
use Rattle.sg_accepted.proofs.Moves.{small_moves, so_many}
use Rattle.sg_accepted.proofs.Programs.{program_of, says_program, is_program}
use Rattle.sg_accepted.proofs.KindsOf.{no_misuse}
use Rattle.sg_accepted.proofs.Limits.{AreSmall, none_in}
use Rattle.sg_accepted.proofs.Names.{none_misnamed, none_later}
use Rattle.sg_accepted.proofs.Breaks.{AreFew, none_breaks}
use Rattle.sg_accepted.proofs.Sizes.{short_mutator}
use Rattle.sg_accepted.proofs.generated_are_accepted.Goals as goal

module _ (limits : HaveLineLimits) (program : HaveOneProgram) where
  -- the text of four mutators with these moves
  with_moves : (m0 m1 m2 m3 : List Move) → AreSmall (m0 ∷ m1 ∷ m2 ∷ m3 ∷ []) → AreFew (m0 ∷ m1 ∷ m2 ∷ m3 ∷ []) →
      IsAcceptable (settings_text ++ (((mutator_text m0 ++ mutator_text m1) ++ mutator_text m2) ++ mutator_text m3)) (program_of (m0 ∷ m1 ∷ m2 ∷ m3 ∷ []))
  with_moves m0 m1 m2 m3 small few =
      let mss = m0 ∷ m1 ∷ m2 ∷ m3 ∷ [] in
      let one = one_more_spoken [] [] m0 Silent small.0 in
      let two = one_more_spoken (mutator_text m0) (m0 ∷ []) m1 one small.1.0 in
      let three = one_more_spoken (mutator_text m0 ++ mutator_text m1) (m0 ∷ m1 ∷ []) m2 two small.1.1.0 in
      let four = one_more_spoken ((mutator_text m0 ++ mutator_text m1) ++ mutator_text m2) (m0 ∷ m1 ∷ m2 ∷ []) m3 three small.1.1.1.0 in
      let texts = ((mutator_text m0 ++ mutator_text m1) ++ mutator_text m2) ++ mutator_text m3 in
      let spoken = join settings_text (Heads ∷ says_settings ++ says_class) texts (says_all mss) settings_spoken four in
      let same = sentences_numbered 0 (says_program mss) in
      let first = short_mutator m0 small.0 few.0 in
      let second = short_mutator m1 small.1.0 few.1.0 in
      let third = short_mutator m2 small.1.1.0 few.1.1.0 in
      let last = short_mutator m3 small.1.1.1.0 few.1.1.1.0 in
      let all = length-append settings_text texts in
      let front = length-append ((mutator_text m0 ++ mutator_text m1) ++ mutator_text m2) (mutator_text m3) in
      let before = length-append (mutator_text m0 ++ mutator_text m1) (mutator_text m2) in
      let begin = length-append (mutator_text m0) (mutator_text m1) in
      record {
        short = omega (arith, first, second, third, last, all, front, before, begin);
        found = numbered 0 (says_program mss);
        says = say_below (settings_text ++ texts) (says_program mss) 0 spoken;
        is = subst (λ (ss : List Sentence). IsProgram (StandsFor (node ∷ [])) ss (program_of mss)) (sym same) (is_program mss);
        named = none_in IsMisnamed (says_program mss) (none_misnamed mss small);
        limits = record { each = none_in BreaksSome (says_program mss) (none_breaks limits program mss (omega arith) few small); some = λ none. none 8 _ refl refl };
        now = none_in IsLater (says_program mss) (none_later mss small);
        kinds = no_misuse mss;
      }

  few_moves : (i size : ℕ) (g : Lcg) → size ≤ 80000 → length (moves i (size / 24) g).0 ≤ 3333
  few_moves i size g l = let many = so_many i (size / 24) g in omega (arith, many, l)

  accepted : (seed size : ℕ) → size ≤ 80000 → IsAcceptable (script_text seed size) (generated seed size)
  accepted seed size l =
      let n = size / 24 in
      let g = seeded seed in
      with_moves (moves_of 0 n g) (moves_of 1 n g) (moves_of 2 n g) (moves_of 3 n g)
      (small_moves 0 n _ (omega arith), (small_moves 1 n _ (omega arith), (small_moves 2 n _ (omega arith), (small_moves 3 n _ (omega arith), tt))))
      (few_moves 0 size _ l, (few_moves 1 size _ l, (few_moves 2 size _ l, (few_moves 3 size _ l, tt))))

pub returns : goal.returns
returns c = λ seed size fits large small. accepted c.line_limits.ensures c.one_program.ensures seed size small
