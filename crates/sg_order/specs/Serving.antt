-- What stays of a mutator that is ready, as the heap and the book go on without it, and what a stop's answer leaves of it.
use Rattle.std.specs.Prelude.{◌≡◌, ◌≢◌, ℕ, true, List, [], ◌∷◌}
use Rattle.std.specs.List.{AllByRecursion}
use Rattle.sg_words.specs.Words.{Words}
use Rattle.sg_program.specs.declared.program.Statement.{Statement}
use Rattle.sg_program.specs.declared.program.Program.{Program}
use Rattle.sg_graph.specs.declared.reports.Service.{Service}
use Rattle.sg_graph.specs.Graph.{Entry, Mutator, Graph}
use Rattle.sg_graph.specs.Statements.{name_in}
use Rattle.sg_graph.specs.Book.{Book}
use Rattle.sg_graph.specs.Stop.{Asked, Placing, IsServed}
use Rattle.sg_rules.specs.Rules.{Constants, Actor, owning}
use Rattle.sg_rules.specs.Resting.{served}
use Rattle.sg_order.specs.Rest.{IsReady, IsHeld}

-- where the object with this name stood, it stands, at the same address and with as many fields
pub record StaysPut (g : Graph) (b : Book) (h : Graph) (c : Book) (name : ℕ) : Type 0 where
  pub stands : b.stands name ≡ true → c.stands name ≡ true
  pub address : b.stands name ≡ true → c.address name ≡ b.address name
  pub size : b.stands name ≡ true → h.size name ≡ g.size name

-- all that the mutator has in its hands stays put
pub record HandsStay (g : Graph) (b : Book) (h : Graph) (c : Book) (m : Mutator) : Type 0 where
  pub registers : (r : ℕ) → StaysPut g b h c (name_in (m.register r))
  pub stack : AllByRecursion (λ (entry : Entry). StaysPut g b h c (name_in entry)) m.stack

-- the mutator n has in its hands what m had, and the same script, and has ended only where that is empty
pub record HasSameHands (m n : Mutator) : Type 0 where
  pub register : n.register ≡ m.register
  pub stack : n.stack ≡ m.stack
  pub script : n.script ≡ m.script
  pub asleep : n.ended ≡ true → n.script ≡ []

-- a mutator whose objects stay put stays ready, with the buffer that the book then gives it
abbrev pub StaysReady : Type 0
StaysReady =
    (p : Program) (g h : Graph) (b c : Book) (k : ℕ) (a : Actor) (script : List Statement) → IsReady p g b k a script →
    HasSameHands (g.mutator k) (h.mutator k) → HandsStay g b h c (g.mutator k) → IsReady p h c k (owning a (c.from k) (c.to k)) script

-- who was answered goes on behind its statement, and who wasn't is ready as before
pub record AreReadyBehind (p : Program) (g : Graph) (b : Book) (k : ℕ) (h : Graph) (c : Book) (a : Actor) (rest : List Statement) : Type 0 where
  pub answered : IsReady p h c k a rest
  pub others : (j : ℕ) (x : Actor) (script : List Statement) → j ≢ k → IsReady p g b j x script → IsReady p h c j x script

-- a stop's answer is a turn of the mutator that asked
abbrev pub ServesReady : Type 0
ServesReady =
    (p : Program) (lay : Constants) (w : Words) (g h : Graph) (b c : Book) (how : Placing) (asked : Asked) (service : Service) (a : Actor) → IsHeld p lay w g b →
    (turn : IsServed p how g b asked service h c) → IsReady p g b asked.by a (turn.statement ∷ turn.rest) →
    AreReadyBehind p g b asked.by h c (served a turn.statement turn.rest service.answer) turn.rest
