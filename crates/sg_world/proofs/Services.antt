-- One mutator is served, as the code goes.
use Rattle.std.proofs.Common.{◌≡◌, sym, subst}
use Rattle.sg_program.specs.declared.program.Statement.{Statement}
use Rattle.sg_program.specs.declared.program.Statement.TheVariants.{New, NewV, Mature, Collect, Sections as AsksSections}
use Rattle.sg_program.specs.declared.program.Program.{Program}
use Rattle.sg_program.specs.declared.answers.Answer.{Answer}
use Rattle.sg_program.specs.declared.answers.Answer.TheVariants.{At, Fine, Full}
use Rattle.sg_program.specs.declared.answers.Request.{Request}
use Rattle.sg_program.specs.declared.answers.Request.TheVariants.{Slot, Sections as AllSections}
use Rattle.sg_program.specs.Scripts.{IsRequestOf}
use Rattle.sg_graph.specs.Graph.{Graph}
use Rattle.sg_graph.specs.Book.{Book}
use Rattle.sg_graph.specs.Epoch.{by_address}
use Rattle.sg_graph.specs.Stop.{Placing, Places}
use Rattle.sg_heap.specs.Holding.{OwesNothing}
use Rattle.sg_placing.specs.Answering.{FitsStatement}
use Rattle.sg_rules.specs.Resting.{IsRunnable, IsServiceOf}
use Rattle.sg_actor.specs.declared.mutator.Stage.TheVariants.{Asking}
use Rattle.sg_world.specs.Serving.{CanTell}

-- what is placed is an answer that the statement may get
service_of : (p : Program) (how : Placing) (g : Graph) (b : Book) (s : Statement) (named : Answer) (c d : Book) → IsRunnable p s → Places p how g b s named c →
    IsServiceOf s (by_address d named)
service_of p how g b (New r class) (At name) c d run h = tt
service_of p how g b (New r class) Full c d run h = tt
service_of p how g b (New r class) named c d run h = absurd h
service_of p how g b (NewV r class count) (At name) c d run h = tt
service_of p how g b (NewV r class count) Full c d run h = tt
service_of p how g b (NewV r class count) named c d run h = absurd h
service_of p how g b (Mature r class) (At name) c d run h = tt
service_of p how g b (Mature r class) Full c d run h = tt
service_of p how g b (Mature r class) named c d run h = absurd h
service_of p how g b (Collect major) Fine c d run h = tt
service_of p how g b (Collect major) named c d run h = absurd h
service_of p how g b AsksSections Fine c d run h = tt
service_of p how g b AsksSections named c d run h = absurd h
service_of p how g b s named c d run h = absurd h

pub is_service : (p : Program) (how : Placing) (g : Graph) (b : Book) (s : Statement) (named answer : Answer) (c : Book) → IsRunnable p s →
    Places p how g b s named c → answer ≡ by_address c named → IsServiceOf s answer
is_service p how g b s named answer c run h told = subst (IsServiceOf s) (sym told) (service_of p how g b s named c c run h)

-- who asks for the sections finds no block owed
owes_for : (p : Program) (b : Book) (request : Request) → IsRequestOf p AsksSections request → CanTell p b (Asking AsksSections request) → OwesNothing p b
owes_for p b AllSections asks can = can
owes_for p b request asks can = absurd asks

pub owes_by : (p : Program) (b : Book) (s : Statement) (request : Request) → IsRequestOf p s request → CanTell p b (Asking s request) → s ≡ AsksSections →
    OwesNothing p b
owes_by p b s request asks can e =
    owes_for p b request (subst (λ (x : Statement). IsRequestOf p x request) e asks) (subst (λ (x : Statement). CanTell p b (Asking x request)) e can)

-- who asks for a slot finds no block owed
pub fits_by : (p : Program) (b : Book) (s : Statement) (request : Request) → IsRequestOf p s request → CanTell p b (Asking s request) → FitsStatement p b s
fits_by p b (Mature r class) (Slot size) asks can = can
fits_by p b (Mature r class) request asks can = absurd asks
fits_by p b s request asks can = tt
