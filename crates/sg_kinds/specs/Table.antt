-- The code's table of kinds, as the rules see it.
use Rattle.std.specs.Prelude.{ℕ, zero, suc, List, [], ◌∷◌, slice_index_or}
use Rattle.sg_program.specs.Kinds.{Kind, IsRef, IsInt, IsInner, Kinds}
use Rattle.sg_kinds.specs.declared.table.Kind.{Kind as Mark}
use Rattle.sg_kinds.specs.declared.table.Kind.TheVariants.{Ref, Int, Inner}
use Rattle.sg_kinds.specs.declared.table.Table.{Table}

abbrev pub kind_of : Mark → Kind
kind_of Ref = IsRef
kind_of Int = IsInt
kind_of Inner = IsInner

-- the first n of these places hold the stack, whose top is the last of them
abbrev pub stack_of : List Mark → ℕ → List Kind
stack_of marks zero = []
stack_of marks (suc n) = kind_of (slice_index_or marks n Ref) ∷ stack_of marks n

-- a number that names no register holds no object
abbrev pub kinds_of : Table → Kinds
kinds_of t = record { register = λ r. kind_of (slice_index_or t.registers r Ref); stack = stack_of t.stack t.depth }
