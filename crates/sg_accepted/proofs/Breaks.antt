-- No line of a generated text breaks a limit.
use Rattle.std.proofs.Common.{rules, ◌≡◌, ℕ, ◌+◌, ◌*◌, ◌<◌, ◌≤◌, Bool, true, false, None, List, [], ◌∷◌, ◌++◌, length, map, refl, sym, ap, ◌∙◌, subst, inl, inr, arith, append_assoc, length-append}
use Rattle.std.specs.Prelude.{nat_le, nat_lt}
use Rattle.std.specs.List.{AllByRecursion, count_by}
use Rattle.std.proofs.lemmas.List.Sums.{sum_by-cons}
use Rattle.sg_words.proofs.Everywhere.{all_append, count-append, count-cons}
use Rattle.sg_program.specs.declared.program.Item.{fold-roll-Item}
use Rattle.sg_program.specs.declared.program.Item.TheOpen.{One}
use Rattle.sg_program.specs.declared.program.Script.{Script}
use Rattle.sg_program.specs.declared.program.Statement.{Statement}
use Rattle.sg_program.specs.declared.program.Statement.TheVariants.{New, NewV, Mature, Put, Get, PutD, GetD, Num, Move, Hide, Unhide, Drop, Push, Pop, GPut, GGet, WSet, WGet, Final, NextFin, Same, Collect, Sections}
use Rattle.sg_program.specs.Scripts.{statements_of, written_out, is_final, statements_in, finals_in}
use Rattle.sg_limits.specs.declared.which.Which.{Which}
use Rattle.sg_limits.specs.declared.which.Which.TheVariants.{Global, Statements, Finals, Mutators}
use Rattle.sg_text.specs.Lines.{Sentence, Heads, Sets, Declares, Begins, Repeats, Ends, Makes, Says, AsNew, AsVector, AsMature}
use Rattle.sg_grammar.specs.Text.{IsProgram, StandsFor}
use Rattle.sg_grammar.specs.Laws.{HaveOneProgram}
use Rattle.sg_limits.specs.Faults.{BreaksSome, Breaks, is_begin}
use Rattle.sg_limits.specs.Laws.{HaveLineLimits}
use Rattle.sg_limits.specs.LineLimits.{unless, fault_behind}
use Rattle.sg_gen.specs.declared.generated.Move.{Move as Drawn}
use Rattle.sg_gen.specs.declared.generated.Move.TheVariants.{Grows, Reads, Shrinks}
use Rattle.sg_load.specs.Generated.{item_of, all_statements, script_of_moves, node}
use Rattle.sg_accepted.proofs.MoveLines.{says_moves, says_all, says_more, says_settings, says_class}
use Rattle.sg_accepted.proofs.Programs.{program_of, says_program, is_program}
use Rattle.sg_accepted.proofs.Limits.{NoneBehind, both, IsMoveLine, AreSmall, moves_lines}

-- the statements of a program of moves, and none that registers an object
written : (ss : List Statement) → written_out (map item_of ss) ≡ ss
written [] = refl
written (s ∷ ss) = ap (λ (xs : List Statement). xs ++ written_out (map item_of ss)) (fold-roll-Item (List Statement) statements_of (One s)) ∙ ap (λ (xs : List Statement). s ∷ xs) (written ss)

six : (moves : List Drawn) → length (all_statements moves) ≡ 6 * length moves
six [] = refl
six (Grows global number ∷ moves) = let rest = six moves in omega (arith, rest)
six (Reads global ∷ moves) = let rest = six moves in omega (arith, rest)
six (Shrinks global ∷ moves) = let rest = six moves in omega (arith, rest)

no_finals : (moves : List Drawn) → count_by is_final (all_statements moves) ≡ 0
no_finals [] = refl
no_finals (Grows global number ∷ moves) = no_finals moves
no_finals (Reads global ∷ moves) = no_finals moves
no_finals (Shrinks global ∷ moves) = no_finals moves

-- as many moves each as the largest size gives
abbrev pub AreFew : List (List Drawn) → Type 0
AreFew mss = AllByRecursion (λ (moves : List Drawn). length moves ≤ 3333) mss

statements_few : (mss : List (List Drawn)) → AreFew mss → statements_in (program_of mss) ≤ length mss * 19998
statements_few [] few = omega arith
statements_few (moves ∷ mss) (one, few) =
    let rest = statements_few mss few in
    let all = sum_by-cons (λ (script : Script). length (written_out script.items)) (script_of_moves moves) (map script_of_moves mss) in
    let here = ap length (written (all_statements moves)) ∙ six moves in
    omega (arith, rest, all, here, one)

finals_none : (mss : List (List Drawn)) → finals_in (program_of mss) ≡ 0
finals_none [] = refl
finals_none (moves ∷ mss) =
    let rest = finals_none mss in
    let all = sum_by-cons (λ (script : Script). count_by is_final (written_out script.items)) (script_of_moves moves) (map script_of_moves mss) in
    let here = ap (count_by is_final) (written (all_statements moves)) ∙ no_finals moves in
    omega (arith, rest, all, here)

-- how many mutators are begun
begun_moves : (moves : List Drawn) → count_by is_begin (says_moves moves) ≡ 0
begun_moves [] = refl
begun_moves (Grows global number ∷ moves) = begun_moves moves
begun_moves (Reads global ∷ moves) = begun_moves moves
begun_moves (Shrinks global ∷ moves) = begun_moves moves

begun : (mss : List (List Drawn)) → count_by is_begin (says_all mss) ≡ length mss
begun [] = refl
begun (moves ∷ mss) =
    let rest = begun mss in
    let none = begun_moves moves in
    let first = count-cons is_begin Begins (says_moves moves ++ Ends ∷ says_all mss) in
    let two = count-append is_begin (says_moves moves) (Ends ∷ says_all mss) in
    let last = count-cons is_begin Ends (says_all mss) in
    omega (arith, rest, none, first, two, last)

abbrev ends : Sentence → Bool
ends Ends = true
ends s = false

module _ (limits : HaveLineLimits) where
  -- a line that breaks no limit by itself, and ends no mutator
  by_fault : (before : List Sentence) (s : Sentence) → fault_behind before s ≡ None → ends s ≡ false → ¬ BreaksSome before s
  by_fault before s none open_one (which, breaks) = elim (limits.counted before s which none breaks) [
    | inl e ↦ let over : Breaks Statements before s = subst (λ (w : Which). Breaks w before s) e breaks in let clash : true ≡ false = sym (ap ends over.0) ∙ open_one in absurd cc
    | inr e ↦ let over : Breaks Finals before s = subst (λ (w : Which). Breaks w before s) e breaks in let clash : true ≡ false = sym (ap ends over.0) ∙ open_one in absurd cc
  ]

  place_fits : (g : ℕ) → g < 64 → nat_le g 63 ≡ true
  place_fits g l = search (rules, l)

  move_line : (before : List Sentence) (s : Sentence) → IsMoveLine s → ¬ BreaksSome before s
  move_line before (Makes AsNew r name) is = by_fault before (Makes AsNew r name) refl refl
  move_line before (Says (Num d n)) is = by_fault before (Says (Num d n)) refl refl
  move_line before (Says (PutD r i s)) is = by_fault before (Says (PutD r i s)) refl refl
  move_line before (Says (GetD d r i)) is = by_fault before (Says (GetD d r i)) refl refl
  move_line before (Says (Put r i s)) is = by_fault before (Says (Put r i s)) refl refl
  move_line before (Says (Get d r i)) is = by_fault before (Says (Get d r i)) refl refl
  move_line before (Says (Drop r)) is = by_fault before (Says (Drop r)) refl refl
  move_line before (Says (GPut g r)) is = by_fault before (Says (GPut g r)) (ap (λ (b : Bool). unless b Global) (place_fits g is)) refl
  move_line before (Says (GGet r g)) is = by_fault before (Says (GGet r g)) (ap (λ (b : Bool). unless b Global) (place_fits g is)) refl
  move_line before (Says (New r class)) is = elim is [ ]
  move_line before (Says (NewV r class count)) is = elim is [ ]
  move_line before (Says (Mature r class)) is = elim is [ ]
  move_line before (Says (Move d s)) is = elim is [ ]
  move_line before (Says (Hide d s o)) is = elim is [ ]
  move_line before (Says (Unhide d s)) is = elim is [ ]
  move_line before (Says (Push r)) is = elim is [ ]
  move_line before (Says (Pop r)) is = elim is [ ]
  move_line before (Says (WSet w r long)) is = elim is [ ]
  move_line before (Says (WGet r w)) is = elim is [ ]
  move_line before (Says (Final r)) is = elim is [ ]
  move_line before (Says (NextFin r)) is = elim is [ ]
  move_line before (Says (Same r s)) is = elim is [ ]
  move_line before (Says (Collect major)) is = elim is [ ]
  move_line before (Says Sections) is = elim is [ ]
  move_line before Heads is = elim is [ ]
  move_line before (Sets setting n) is = elim is [ ]
  move_line before (Declares name shape) is = elim is [ ]
  move_line before Begins is = elim is [ ]
  move_line before Ends is = elim is [ ]
  move_line before (Repeats times) is = elim is [ ]
  move_line before (Makes (AsVector count) r name) is = elim is [ ]
  move_line before (Makes AsMature r name) is = elim is [ ]

  lines_within : (before ss : List Sentence) → AllByRecursion IsMoveLine ss → NoneBehind BreaksSome before ss
  lines_within before [] all = tt
  lines_within before (s ∷ ss) (one, all) = (move_line before s one, lines_within (before ++ s ∷ []) ss all)

  -- the head, the settings and the class
  abbrev AreFaultless : List Sentence → List Sentence → Type 0
  AreFaultless before [] = Unit {0}
  AreFaultless before (s ∷ ss) = (fault_behind before s ≡ None) × (ends s ≡ false) × AreFaultless (before ++ s ∷ []) ss

  faultless : (before ss : List Sentence) → AreFaultless before ss → NoneBehind BreaksSome before ss
  faultless before [] all = tt
  faultless before (s ∷ ss) (none, open_one, all) = (by_fault before s none open_one, faultless (before ++ s ∷ []) ss all)

  front : NoneBehind BreaksSome [] (Heads ∷ says_settings ++ says_class)
  front = faultless [] (Heads ∷ says_settings ++ says_class)
      (refl, refl, (refl, refl, (refl, refl, (refl, refl, (refl, refl, (refl, refl, (refl, refl, (refl, refl, tt))))))))

  begins : (done : List (List Drawn)) → length done < 4 → ¬ BreaksSome (says_program done) Begins
  begins done l =
      let count : count_by is_begin (says_program done) ≡ length done =
      (let both = count-append is_begin (Heads ∷ says_settings ++ says_class) (says_all done) in let all = begun done in omega (arith, both, all)) in
      let few : nat_lt (count_by is_begin (says_program done)) 16 ≡ true = search (rules, count, l) in
      by_fault (says_program done) Begins (ap (λ (b : Bool). unless b Mutators) few) refl

  module _ (program : HaveOneProgram) where
    ends_within : (before : List Sentence) (done : List (List Drawn)) → before ++ Ends ∷ [] ≡ says_program done → length done ≤ 4 → AreFew done → ¬ BreaksSome before Ends
    ends_within before done e l few (which, breaks) =
        let mine : IsProgram (StandsFor (node ∷ [])) (before ++ Ends ∷ []) (program_of done) =
        subst (λ (ss : List Sentence). IsProgram (StandsFor (node ∷ [])) ss (program_of done)) (sym e) (is_program done) in
        elim (limits.counted before Ends which refl breaks) [
          | inl s ↦
              let over : Breaks Statements before Ends = subst (λ (w : Which). Breaks w before Ends) s breaks in
              let same : over.2.0 ≡ program_of done = program.program (before ++ Ends ∷ []) over.2.0 (program_of done) over.2.1 mine in
              let count = ap statements_in same in
              let most = statements_few done few in
              let more = over.2.2 in
              absurd (omega (arith, count, most, more, l))
          | inr s ↦
              let over : Breaks Finals before Ends = subst (λ (w : Which). Breaks w before Ends) s breaks in
              let same : over.2.0 ≡ program_of done = program.program (before ++ Ends ∷ []) over.2.0 (program_of done) over.2.1 mine in
              let count = ap finals_in same ∙ finals_none done in
              let more = over.2.2 in
              absurd (omega (arith, count, more))
        ]

    mutators : (done mss : List (List Drawn)) → length done + length mss ≤ 4 → AreFew done → AreFew mss → AreSmall mss → NoneBehind BreaksSome (says_program done) (says_all mss)
    mutators done [] l few all small = tt
    mutators done (moves ∷ mss) l few (one, all) (here, small) =
        let before = says_program done ++ Begins ∷ [] in
        let so_far = before ++ says_moves moves in
        let longer = length-append done (moves ∷ []) in
        let whole : so_far ++ Ends ∷ [] ≡ says_program (done ++ moves ∷ []) =
        append_assoc before (says_moves moves) (Ends ∷ []) ∙ append_assoc (says_program done) (Begins ∷ []) (says_moves moves ++ Ends ∷ [])
        ∙ ap (λ (ss : List Sentence). Heads ∷ says_settings ++ says_class ++ ss) (sym (says_more done moves)) in
        let more_few : AreFew (done ++ moves ∷ []) = all_append (λ (ms : List Drawn). length ms ≤ 3333) done (moves ∷ []) few (one, tt) in (
          begins done (omega (arith, l)),
          both BreaksSome before (says_moves moves) (Ends ∷ says_all mss) (lines_within before (says_moves moves) (moves_lines moves here)) (
            ends_within so_far (done ++ moves ∷ []) whole (omega (arith, l, longer)) more_few,
            subst (λ (ss : List Sentence). NoneBehind BreaksSome ss (says_all mss)) (sym whole)
                (mutators (done ++ moves ∷ []) mss (omega (arith, l, longer)) more_few all small),
          ),
        )

    pub none_breaks : (mss : List (List Drawn)) → length mss ≤ 4 → AreFew mss → AreSmall mss → NoneBehind BreaksSome [] (says_program mss)
    none_breaks mss l few small =
        both BreaksSome [] (Heads ∷ says_settings ++ says_class) (says_all mss) front (mutators [] mss (omega (arith, l)) tt few small)
