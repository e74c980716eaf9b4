-- No line of a generated text has a fault.
use Rattle.std.proofs.Common.{◌≡◌, ℕ, zero, suc, ◌<◌, Option, Some, None, List, [], ◌∷◌, ◌++◌, take, refl, sym, ap, subst, codes, append_assoc, append-nil}
use Rattle.std.specs.Prelude.{slice_get}
use Rattle.std.specs.List.{AllByRecursion}
use Rattle.sg_words.proofs.Everywhere.{all_append}
use Rattle.sg_program.specs.declared.program.Statement.{Statement}
use Rattle.sg_program.specs.declared.program.Statement.TheVariants.{Put, Get, PutD, GetD, Num, Drop, GPut, GGet}
use Rattle.sg_text.specs.Numbered.{Numbered, sentences}
use Rattle.sg_text.specs.Lines.{Sentence, Heads, Sets, Declares, Begins, Repeats, Ends, Makes, Says, AsNew, AsVector, AsMature}
use Rattle.sg_limits.specs.Faults.{HasNone}
use Rattle.sg_gen.specs.declared.generated.Move.{Move}
use Rattle.sg_gen.specs.declared.generated.Move.TheVariants.{Grows, Reads, Shrinks}
use Rattle.sg_accepted.proofs.Spoken.{numbered}
use Rattle.sg_accepted.proofs.MoveLines.{IsSmallMove, says_move, says_moves, says_all}

-- none of these sentences has the fault, each behind those before it
abbrev pub NoneBehind : (List Sentence → Sentence → Type 0) → List Sentence → List Sentence → Type 0
NoneBehind Fault before [] = Unit {0}
NoneBehind Fault before (s ∷ rest) = ¬ Fault before s × NoneBehind Fault (before ++ s ∷ []) rest

module _ (Fault : List Sentence → Sentence → Type 0) where
  pub both : (before xs ys : List Sentence) → NoneBehind Fault before xs → NoneBehind Fault (before ++ xs) ys → NoneBehind Fault before (xs ++ ys)
  both before [] ys none more = subst (λ (b : List Sentence). NoneBehind Fault b ys) (append-nil before) more
  both before (x ∷ xs) ys (one, none) more =
      (one, both (before ++ x ∷ []) xs ys none (subst (λ (b : List Sentence). NoneBehind Fault b ys) (sym (append_assoc before (x ∷ []) xs)) more))

  at : (before ss : List Sentence) (above k : ℕ) (other : Numbered) → NoneBehind Fault before ss → slice_get (numbered above ss) k ≡ Some other →
      ¬ Fault (before ++ sentences (take k (numbered above ss))) other.sentence
  at before [] above k other none e f = absurd cc
  at before (s ∷ rest) above zero other (one, none) e f =
      let same : s ≡ other.sentence = ap (λ (o : Option Numbered). sentence_in o) e in
      one (subst (λ (b : List Sentence). Fault b s) (append-nil before) (subst (Fault (before ++ [])) (sym same) f))
    where
      sentence_in : Option Numbered → Sentence
      sentence_in (Some found) = found.sentence
      sentence_in None = s
  at before (s ∷ rest) above (suc k) other (one, none) e f =
      at (before ++ s ∷ []) rest (suc above) k other none e
      (subst (λ (b : List Sentence). Fault b other.sentence) (sym (append_assoc before (s ∷ []) (sentences (take k (numbered (suc above) rest))))) f)

  -- so it is in a text of them
  pub none_in : (ss : List Sentence) → NoneBehind Fault [] ss → HasNone Fault (numbered 0 ss)
  none_in ss none = λ k other e f. at [] ss 0 k other none e f

-- a line within a mutator: an object of the class, or a statement whose global is one of the 64
abbrev pub IsPlainStatement : Statement → Type 0
IsPlainStatement (Num d n) = Unit {0}
IsPlainStatement (PutD r i s) = Unit {0}
IsPlainStatement (GetD d r i) = Unit {0}
IsPlainStatement (Put r i s) = Unit {0}
IsPlainStatement (Get d r i) = Unit {0}
IsPlainStatement (Drop r) = Unit {0}
IsPlainStatement (GPut g r) = g < 64
IsPlainStatement (GGet r g) = g < 64
IsPlainStatement s = ⊥

abbrev pub IsMoveLine : Sentence → Type 0
IsMoveLine (Makes AsNew r name) = name ≡ codes "Node"
IsMoveLine (Says s) = IsPlainStatement s
IsMoveLine s = ⊥

-- or one that begins or ends a mutator
abbrev pub IsBodyLine : Sentence → Type 0
IsBodyLine Begins = Unit {0}
IsBodyLine Ends = Unit {0}
IsBodyLine (Makes AsNew r name) = name ≡ codes "Node"
IsBodyLine (Says s) = IsPlainStatement s
IsBodyLine s = ⊥

move_lines : (move : Move) → IsSmallMove move → AllByRecursion IsMoveLine (says_move move)
move_lines (Grows global number) (g, n) = (refl, (tt, (tt, (g, (tt, (g, tt))))))
move_lines (Reads global) g = (g, (tt, (tt, (tt, (tt, (tt, tt))))))
move_lines (Shrinks global) g = (g, (tt, (g, (tt, (tt, (tt, tt))))))

pub moves_lines : (moves : List Move) → AllByRecursion IsSmallMove moves → AllByRecursion IsMoveLine (says_moves moves)
moves_lines [] small = tt
moves_lines (move ∷ moves) (one, small) = all_append IsMoveLine (says_move move) (says_moves moves) (move_lines move one) (moves_lines moves small)

body_of : (s : Sentence) → IsMoveLine s → IsBodyLine s
body_of (Makes AsNew r name) is = is
body_of (Says s) is = is
body_of Heads is = elim is [ ]
body_of (Sets setting n) is = elim is [ ]
body_of (Declares name shape) is = elim is [ ]
body_of Begins is = elim is [ ]
body_of (Repeats times) is = elim is [ ]
body_of Ends is = elim is [ ]
body_of (Makes (AsVector count) r name) is = elim is [ ]
body_of (Makes AsMature r name) is = elim is [ ]

all_body_of : (ss : List Sentence) → AllByRecursion IsMoveLine ss → AllByRecursion IsBodyLine ss
all_body_of [] all = tt
all_body_of (s ∷ ss) (one, all) = (body_of s one, all_body_of ss all)

abbrev pub AreSmall : List (List Move) → Type 0
AreSmall mss = AllByRecursion (λ (moves : List Move). AllByRecursion IsSmallMove moves) mss

pub body_lines : (mss : List (List Move)) → AreSmall mss → AllByRecursion IsBodyLine (says_all mss)
body_lines [] small = tt
body_lines (moves ∷ mss) (one, small) = (tt, all_append IsBodyLine (says_moves moves) (Ends ∷ says_all mss) (all_body_of (says_moves moves) (moves_lines moves one)) (tt, body_lines mss small))
