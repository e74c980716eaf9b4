-- The object test of a statement as the code sees it.
use Rattle.std.specs.Prelude.{Bool, true, false, Option, Some, None}
use Rattle.sg_desc.specs.Shapes.{Sort, Reference, Plain}
use Rattle.sg_words.specs.declared.layout.Layout.{Layout}
use Rattle.sg_program.specs.declared.program.Config.{Config}
use Rattle.sg_program.specs.declared.program.Statement.{Statement}
use Rattle.sg_program.specs.declared.program.Statement.TheVariants.{Num, Move, Unhide, Drop, Push, Pop, Same}
use Rattle.sg_program.specs.Tests.{Test}
use Rattle.sg_actor.specs.declared.tools.ObjectTest.{ObjectTest}

abbrev pub sort_of : Bool → Sort
sort_of true = Reference
sort_of false = Plain

-- the test that the code's one stands for
abbrev pub as_test : ObjectTest → Test
as_test test = record { register = test.register; field = test.field; sort = sort_of test.is_reference }

abbrev pub as_test_option : Option ObjectTest → Option Test
as_test_option None = None
as_test_option (Some test) = Some (as_test test)

-- the statements that touch no shared word but the stop word
abbrev pub IsDirect : Statement → Type 0
IsDirect (Num d n) = Unit {0}
IsDirect (Move d s) = Unit {0}
IsDirect (Unhide d s) = Unit {0}
IsDirect (Drop r) = Unit {0}
IsDirect (Push r) = Unit {0}
IsDirect (Pop r) = Unit {0}
IsDirect (Same r s) = Unit {0}
IsDirect s = ⊥

-- the sections that a program's settings make
abbrev pub layout_of : Config → Layout
layout_of config = record { nursery = config.nursery; blocks = config.blocks; pages = config.pages }
