-- The steps of several actors in one list.
use Rattle.std.specs.Prelude.{ℕ, ◌==◌, if◌then◌else◌, List, [], ◌∷◌}
use Rattle.sg_words.specs.declared.steps.Tick.{Tick}

-- the actor with this number made this step
pub record Event : Type 0 where
  pub by : ℕ
  pub tick : Tick

-- the steps of all actors, in order
abbrev pub ticks : List Event → List Tick
ticks [] = []
ticks (e ∷ es) = e.tick ∷ ticks es

-- the steps of one actor, in order
abbrev pub part : ℕ → List Event → List Tick
part k [] = []
part k (e ∷ es) = if k == e.by then e.tick ∷ part k es else part k es

-- the actors of the deciding steps, in order
abbrev pub order_of : List Event → List ℕ
order_of [] = []
order_of (e ∷ es) = if e.tick.decides then e.by ∷ order_of es else order_of es

-- these are steps of actor k
abbrev pub by_one : ℕ → List Tick → List Event
by_one k [] = []
by_one k (t ∷ ts) = record { by = k; tick = t } ∷ by_one k ts
