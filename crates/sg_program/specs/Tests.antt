-- The object test of a statement.
use Rattle.std.specs.Prelude.{ℕ, Option, Some, None}
use Rattle.sg_desc.specs.Shapes.{Sort, Reference, Plain}
use Rattle.sg_program.specs.declared.program.Statement.{Statement}
use Rattle.sg_program.specs.declared.program.Statement.TheVariants.{Put, Get, PutD, GetD}

-- the object test: which register's object is tested, for which field, and of which sort it has to be
pub record Test : Type 0 where
  pub register : ℕ
  pub field : ℕ
  pub sort : Sort

-- the object test of a statement, where it has one
abbrev pub test_of : Statement → Option Test
test_of (Put r i s) = Some (record { register = r; field = i; sort = Reference })
test_of (Get d r i) = Some (record { register = r; field = i; sort = Reference })
test_of (PutD r i s) = Some (record { register = r; field = i; sort = Plain })
test_of (GetD d r i) = Some (record { register = r; field = i; sort = Plain })
test_of s = None
