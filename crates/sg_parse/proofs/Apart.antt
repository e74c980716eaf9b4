-- A text that is refused reads as no program, and what reads as a program is a text.
use Rattle.std.proofs.Common.{◌≡◌, ◌≢◌, ℕ, suc, List, [], ◌∷◌, take, drop, inl, inr, refl, sym, subst, arith}
use Rattle.std.proofs.lemmas.List.{take-append-drop}
use Rattle.sg_program.specs.declared.program.Item.{Item}
use Rattle.sg_program.specs.declared.program.Script.{Script}
use Rattle.sg_program.specs.declared.program.Program.{Program}
use Rattle.sg_text.specs.Words.{lines_of}
use Rattle.sg_text.specs.Lines.{Sentence}
use Rattle.sg_text.specs.Numbered.{Numbered, sentences}
use Rattle.sg_text.specs.Laws.{HaveOneSaying}
use Rattle.sg_grammar.specs.Text.{AreItems, NoItem, OneSays, OneMakes, NoRepeat, OneRepeat, AreScripts, IsProgram, IsAnyName, IsText, MayGoOn, StandsFor, IsFirstRefused}
use Rattle.sg_parse.specs.declared.refusal.Refusal.{Refusal}
use Rattle.sg_parse.specs.declared.refusal.Refusal.TheVariants.{TooLong, Syntax, Class, Limit, Later, Memory}
use Rattle.sg_parse.specs.declared.refusal.Which.{Which}
use Rattle.sg_parse.specs.Faults.{IsFirstFault, HasNone, IsMisnamed, IsLimitFault, BreaksSome, KeepsLimits, IsLater}
use Rattle.sg_parse.specs.Accepted.{IsReadAs, IsRefusedBy}

module _ (names : List ℕ → ℕ → Type 0) where
  any-items : (lines : List Sentence) (items : List Item) → AreItems names lines items → AreItems IsAnyName lines items
  any-items _ _ NoItem = NoItem
  any-items _ _ (OneSays s rest item items e r) = OneSays s rest item items e (any-items rest items r)
  any-items _ _ (OneMakes maker r class name rest item items n e m) = OneMakes maker r class name rest item items tt e (any-items rest items m)
  any-items _ _ (NoRepeat times body rest whole items e b r) = NoRepeat times body rest whole items e (any-items body [] b) (any-items rest items r)
  any-items _ _ (OneRepeat times body rest whole item inner items e b some o r) = OneRepeat times body rest whole item inner items e (any-items body inner b) some o (any-items rest items r)

  any-scripts : (lines : List Sentence) (scripts : List Script) → AreScripts names lines scripts → AreScripts IsAnyName lines scripts
  any-scripts lines [] e = e
  any-scripts lines (script ∷ scripts) s = (s.0, s.1, s.2, any-items s.0 script.items s.3, any-scripts s.1 scripts s.4)

  pub any-program : (lines : List Sentence) (p : Program) → IsProgram names lines p → IsProgram IsAnyName lines p
  any-program lines p is = record {
    settings = is.settings;
    classes = is.classes;
    scripts = is.scripts;
    in_order = is.in_order;
    are_settings = is.are_settings;
    are_classes = is.are_classes;
    are_scripts = any-scripts is.scripts p.mutators is.are_scripts;
  }

text_of : (bytes : List ℕ) (p : Program) → IsReadAs bytes p → IsText (lines_of bytes)
text_of bytes p read = (read.found, (read.says, (p, any-program (StandsFor p.classes) (sentences read.found) p read.is)))

-- a text is a prefix of itself at each of its lines
text-goes-on : (lines : List (List ℕ)) (j : ℕ) → IsText lines → MayGoOn (take j lines)
text-goes-on lines j text = (drop j lines, subst IsText (sym (take-append-drop j lines)) text)

pub no-text-refused : (lines : List (List ℕ)) (k : ℕ) → IsFirstRefused lines k → IsText lines → ⊥
no-text-refused lines k (inl r) text = r.4 (text-goes-on lines (suc r.0) text)
no-text-refused lines k (inr r) text = r.2 text

pub first-and-none : (Fault : List Sentence → Sentence → Type 0) (found other : List Numbered) (k : ℕ) → found ≡ other → IsFirstFault Fault found k → HasNone Fault other → ⊥
first-and-none Fault found other k e first none = (subst (HasNone Fault) (sym e) none) first.index first.one first.there first.fault

pub limit-and-none : (found other : List Numbered) (last k : ℕ) (which : Which) → found ≡ other → IsLimitFault found last k which → KeepsLimits other → ⊥
limit-and-none found other last k which e (inl f) keeps = first-and-none BreaksSome found other k e f.0 keeps.each
limit-and-none found other last k which e (inr f) keeps = (subst KeepsLimits (sym e) keeps).some f.1

-- who is refused, but for want of memory, reads as no program
pub refused-apart : HaveOneSaying → (bytes : List ℕ) (refusal : Refusal) (q : Program) → IsRefusedBy bytes refusal → refusal ≢ Memory → IsReadAs bytes q → ⊥
refused-apart law bytes TooLong q long other read = let short = read.short in omega (arith, long)
refused-apart law bytes (Syntax line) q r other read = no-text-refused (lines_of bytes) line r.1 (text_of bytes q read)
refused-apart law bytes (Class line) q (short, (found, text, first)) other read = first-and-none IsMisnamed found read.found line (law.one (lines_of bytes) found read.found text.0 read.says) first read.named
refused-apart law bytes (Limit line which) q (short, (found, text, fault)) other read =
    limit-and-none found read.found _ line which (law.one (lines_of bytes) found read.found text.0 read.says) fault.1 read.limits
refused-apart law bytes (Later line) q (short, (found, text, fault)) other read = first-and-none IsLater found read.found line (law.one (lines_of bytes) found read.found text.0 read.says) fault.2 read.now
refused-apart law bytes Memory q r other read = other refl
