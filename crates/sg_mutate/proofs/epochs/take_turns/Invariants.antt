use Rattle.sg_program.specs.declared.program.Program.{Program}
use Rattle.sg_graph.specs.Graph.{Graph}
use Rattle.sg_graph.specs.Book.{Book}
use Rattle.sg_mutate.specs.Epochs.{IsOpened, constants_of}
use Rattle.sg_mutate.proofs.Midst.{Midst}
use Rattle.sg_mutate.proofs.Owing.{owed_all}
use Rattle.sg_mutate.proofs.epochs.take_turns.Given as goal

abbrev pub invariant-turns : goal.invariant-turns
invariant-turns l = (p : Program) (g : Graph) (b : Book) → IsOpened p g b l.fn.space l.fn.mutators →
    Midst p g b l.fn.space l.fn.mutators l.fn.order l.space l.mutators l.order l.ended

abbrev pub decreases-turns : goal.decreases-turns
decreases-turns l = owed_all (constants_of l.fn.space) l.mutators
