-- The epoch is over.
use Rattle.std.proofs.Common.{◌≡◌, ℕ, ◌-◌, ◌^◌, ◌⊎◌, Some, List, [], length, slice_get, inl, inr, refl, subst}
use Rattle.std.proofs.lemmas.List.{append-nil}
use Rattle.std.proofs.lemmas.Option.{slice_get_within}
use Rattle.sg_words.specs.Schedule.{Schedule, begun}
use Rattle.sg_program.specs.declared.program.Program.{Program}
use Rattle.sg_program.specs.declared.answers.Leave.{Leave}
use Rattle.sg_program.specs.declared.answers.Leave.TheVariants.{Ended as HasNone, Yield, Wants}
use Rattle.sg_graph.specs.Graph.{Graph}
use Rattle.sg_graph.specs.Book.{Book}
use Rattle.sg_graph.specs.Epoch.{running}
use Rattle.sg_graph.specs.Turns.{Position, Board, opening, HasLeft, HasGone, Plays}
use Rattle.sg_graph.specs.Turns.Plays.{Over}
use Rattle.sg_space.specs.Space.{Contents}
use Rattle.sg_rules.specs.Rules.{Actor}
use Rattle.sg_actor.specs.declared.mutator.Stage.{Stage}
use Rattle.sg_actor.specs.declared.mutator.Stage.TheVariants.{Within, Ended, Asking, Yielded}
use Rattle.sg_actor.specs.State.{Mutating, leave_of}
use Rattle.sg_actor.specs.Turning.{IsResting}
use Rattle.sg_mutate.specs.Epochs.{HasLeftAs, IsOpened, IsOver}
use Rattle.sg_mutate.proofs.Listed.{all_left, contains_at}
use Rattle.sg_mutate.proofs.Midst.{IsPlacedAt, TakesPart, Midst, runs}

-- how who has gone has left
record Leaves (p : Program) (stage : Stage) (position : Position) : Type 0 where
  leave : Leave
  left : leave_of stage ≡ Some leave
  position_is : position ≡ HasLeft leave
  fits : (stage ≡ Ended) ⊎ IsResting p stage

leaves : (p : Program) (stage : Stage) (position : Position) → IsPlacedAt p stage position → HasGone position → Leaves p stage position
leaves p Within position h gone = absurd h
leaves p Ended position h gone = record { leave = HasNone; left = refl; position_is = h; fits = inl refl }
leaves p (Asking s request) position h gone = record { leave = Wants request; left = refl; position_is = h.0; fits = inr h.1 }
leaves p Yielded position h gone = record { leave = Yield; left = refl; position_is = h; fits = inr tt }
leaves p stage position h gone = absurd (h gone)

left_as : (p : Program) (x : Board) (k : ℕ) (m n : Mutating) (a : Actor) → TakesPart p (x.position k) m n a → HasGone (x.position k) → HasLeftAs p x k m n a
left_as p x k m n a part gone =
    let l = leaves p n.stage (x.position k) part.placed gone in
    record { actor = part.actor; same = part.same; leave = l.leave; left = l.left; position = l.position_is; fits = l.fits }

pub is_over : (p : Program) (g : Graph) (b : Book) (s : Contents) (ms : List Mutating) (schedule : Schedule) → IsOpened p g b s ms →
    (t : Contents) (after : List Mutating) (next : Schedule) (ended : ℕ) →
    Midst p g b s ms schedule t after next ended → ended ≡ 2 ^ length (running p g) - 1 → IsOver p g b s ms schedule t after next
is_over p g b s ms schedule opened t after next ended mid all = record {
  order = mid.order;
  board = mid.board;
  actors = mid.actors;
  boarded = mid.boarded;
  plays = subst (λ ss. Plays p (running p g) (begun schedule) (opening g b) ss next mid.board) (append-nil mid.order)
      (mid.plays [] next mid.board (Over next mid.board (λ k c. let i = contains_at (running p g) k c in gone i.0 k i.1)));
  keeps = mid.keeps;
  head = mid.head;
  are = mid.are;
  left = λ k m n e f going.
      let i = runs p g b s ms opened k (slice_get_within ms k m e) going in
      left_as p mid.board k m n (mid.actors k) (mid.parts k m n e f going) (gone i.0 k i.1);
  stayed = mid.stayed;
  beyond = mid.beyond;
}
  where
    gone : (i k : ℕ) → slice_get (running p g) i ≡ Some k → HasGone (mid.board.position k)
    gone i k e = mid.gone i k e (all_left (length (running p g)) ended i all (slice_get_within (running p g) i k e))
