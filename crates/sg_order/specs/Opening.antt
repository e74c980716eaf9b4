-- The words and the constants with which a program begins.
use Rattle.std.specs.Prelude.{◌≡◌, ℕ}
use Rattle.std.specs.List.{AllByRecursion}
use Rattle.sg_words.specs.Address.{byte_at}
use Rattle.sg_words.specs.declared.steps.BlockWord.TheVariants.{Free}
use Rattle.sg_words.specs.Words.{Words}
use Rattle.sg_program.specs.declared.program.Program.{Program}
use Rattle.sg_program.specs.Scripts.{script_of}
use Rattle.sg_program.specs.Kinds.{first_kinds}
use Rattle.sg_program.specs.Invariants.{FindKinds}
use Rattle.sg_graph.specs.Graph.{no_objects}
use Rattle.sg_graph.specs.Book.{nursery_end, empty_book}
use Rattle.sg_words.specs.Sections.{nursery_base}
use Rattle.sg_rules.specs.Rules.{Constants, fresh}
use Rattle.sg_rules.specs.Resting.{IsRunnable}
use Rattle.sg_order.specs.Rest.{IsEpochOpening}

-- the whole nursery is one fragment, and the marks are those of the words
pub record AreFirstConstants (p : Program) (lay : Constants) (w : Words) : Type 0 where
  pub fragments : lay.fragments ≡ 1
  pub limit : lay.limit 0 ≡ nursery_end p
  pub marks : w.marks ≡ lay.marks

-- all words are zero, all blocks are free, and nothing of the fragment was given away
pub record AreFirstWords (w : Words) : Type 0 where
  pub stop : w.stop ≡ 0
  pub next : w.next 0 ≡ byte_at nursery_base
  pub word : (x : ℕ) → w.word x ≡ 0
  pub block : (c : ℕ) → w.block c ≡ Free
  pub used : (c : ℕ) → w.used c ≡ 0
  pub marks : (c : ℕ) → w.marks c ≡ 0

-- each script finds the kinds of operands that it needs, and has statements that are run now alone
pub record AreFirstScripts (p : Program) : Type 0 where
  pub kinds : (k : ℕ) → FindKinds first_kinds (script_of p k)
  pub runnable : (k : ℕ) → AllByRecursion (IsRunnable p) (script_of p k)

-- from these the first epoch of a program opens, with no object
abbrev pub FirstOpening : Type 0
FirstOpening =
    (p : Program) (lay : Constants) (w : Words) → AreFirstScripts p → AreFirstConstants p lay w → AreFirstWords w →
    IsEpochOpening p lay w (no_objects p) (empty_book p) (λ k. fresh (script_of p k))
