-- Why an input isn't accepted, and the line that tells it.
use Rattle.std.specs.Prelude.{◌≡◌, ℕ, List, [], ◌++◌, codes}
use Rattle.std.specs.Fmt.{decimal}
use Rattle.sg_program.specs.declared.program.Program.{Program}
use Rattle.sg_program.specs.Kinds.{IsFirstMisuse}
use Rattle.sg_trace.specs.Trace.{space, line_feed}
use Rattle.sg_parse.specs.declared.refusal.Refusal.{Refusal}
use Rattle.sg_parse.specs.declared.refusal.Refusal.TheVariants.{TooLong, Syntax, Class, Limit, Later, Memory}
use Rattle.sg_limits.specs.declared.which.Which.{Which}
use Rattle.sg_limits.specs.declared.which.Which.TheVariants.{Nursery, Blocks, Pages, Buffer, Workers, Cement, Classes, Fields, Vector, Global, Weak, Times, Nesting, Statements, Finals, Mutators}
use Rattle.sg_parse.specs.Accepted.{IsReadAs, IsRefusedBy, IsAccepted}
use Rattle.sg_run.specs.declared.refusal.Cause.{Cause}
use Rattle.sg_run.specs.declared.refusal.Cause.TheVariants.{Refused, Misused}

-- this is why the input isn't accepted: it isn't read, by the first cause and at the first line; or it is read, and this is
-- the first statement that finds an operand of another kind than it needs
abbrev pub IsCause : List ℕ → Cause → Type 0
IsCause input (Refused Memory) = ⊥
IsCause input (Refused refusal) = IsRefusedBy input refusal
IsCause input (Misused fault) = (p : Program) × IsReadAs input p × IsFirstMisuse p fault.mutator fault.statement

-- no input has two causes, nor one cause at two places, and no accepted one has any
pub record HasOneCause : Type 0 where
  pub one : (input : List ℕ) (c d : Cause) → IsCause input c → IsCause input d → c ≡ d
  pub none : (input : List ℕ) (c : Cause) → IsCause input c → ¬ IsAccepted input

-- the name of a limit
abbrev pub which_text : Which → List ℕ
which_text Nursery = codes "nursery"
which_text Blocks = codes "blocks"
which_text Pages = codes "pages"
which_text Buffer = codes "buffer"
which_text Workers = codes "workers"
which_text Cement = codes "cement"
which_text Classes = codes "classes"
which_text Fields = codes "fields"
which_text Vector = codes "vector"
which_text Global = codes "global"
which_text Weak = codes "weak"
which_text Times = codes "times"
which_text Nesting = codes "nesting"
which_text Statements = codes "statements"
which_text Finals = codes "finals"
which_text Mutators = codes "mutators"

-- `refused long`, `refused syntax LINE`, `refused class LINE`, `refused limit LINE WHICH` or `refused later LINE`
abbrev pub refusal_text : Refusal → List ℕ
refusal_text TooLong = codes "long"
refusal_text (Syntax line) = codes "syntax " ++ decimal line
refusal_text (Class line) = codes "class " ++ decimal line
refusal_text (Limit line which) = codes "limit " ++ decimal line ++ space ++ which_text which
refusal_text (Later line) = codes "later " ++ decimal line
refusal_text Memory = []

-- the same, or `refused kind MUTATOR STATEMENT`
abbrev pub cause_text : Cause → List ℕ
cause_text (Refused refusal) = refusal_text refusal
cause_text (Misused fault) = codes "kind " ++ decimal fault.mutator ++ space ++ decimal fault.statement

abbrev pub refusal_line : Cause → List ℕ
refusal_line cause = codes "refused " ++ cause_text cause ++ line_feed
