-- Behind the pauses of a stop one mutator goes on: its request is answered, or its next epoch is before it.
use Rattle.std.proofs.Common.{◌≡◌, ℕ, ◌+◌, Some, None, List, [], ◌∷◌, length, sym, refl, ap, ◌∙◌, subst, arith}
use Rattle.std.proofs.lemmas.Option.{same_Some}
use Rattle.sg_program.specs.declared.program.Statement.{Statement}
use Rattle.sg_program.specs.declared.program.Program.{Program}
use Rattle.sg_program.specs.declared.answers.Request.{Request}
use Rattle.sg_program.specs.Scripts.{script_of}
use Rattle.sg_graph.specs.declared.reports.Service.{Service}
use Rattle.sg_graph.specs.Graph.{Graph}
use Rattle.sg_graph.specs.Book.{Book}
use Rattle.sg_graph.specs.Stop.{Asked, Placing, Shows, IsServed, Serves}
use Rattle.sg_space.specs.Space.{Contents, words_of, IsContents}
use Rattle.sg_placing.specs.Answering.{HasAnswered}
use Rattle.sg_rules.specs.Rules.{Mid, Idle, Actor}
use Rattle.sg_rules.specs.Resting.{served}
use Rattle.sg_order.specs.Rest.{IsReady}
use Rattle.sg_order.specs.Serving.{ServesReady, AreReadyBehind}
use Rattle.sg_actor.specs.declared.mutator.Stage.{Stage}
use Rattle.sg_actor.specs.declared.mutator.Stage.TheVariants.{Between, Ended, Asking, Yielded}
use Rattle.sg_actor.specs.State.{Mutating, actor_of, mid_of, waiting, stage_anew, asking_of, IsCounted, BeginsEpoch, HasServed}
use Rattle.sg_mutate.specs.Epochs.{constants_of, parted, found_at, IsReadyStage}
use Rattle.sg_world.specs.Stopping.{asked_of}
use Rattle.sg_world.specs.Serving.{IsHolding, IsReadyNow, HasGoneOn}
use Rattle.sg_world.specs.Worlds.{HasLeftReady}
use Rattle.sg_world.proofs.Heaps.{held_of_heap}

-- what a mutator was told, and where it stands, enters into nothing of its hands
ready_anew : (p : Program) (g : Graph) (b : Book) (k : ℕ) (a : Actor) (mid : Mid) (script : List Statement) → IsReady p g b k a script →
    IsReady p g b k (record a { told = []; mid = mid }) script
ready_anew p g b k a mid script r = record {
  regs = r.regs;
  stack = r.stack;
  script_is = r.script_is;
  asleep = r.asleep;
  from_is = r.from_is;
  to_is = r.to_is;
  kinds = r.kinds;
  runnable = r.runnable;
}

ready_now : (p : Program) (g : Graph) (b : Book) (k : ℕ) (n : Mutating) (stage : Stage) (a : Actor) → n.stage ≡ stage → found_at stage n ≡ a →
    IsReady p g b k a a.script → IsReadyStage g k stage →
    a.mid ≡ Idle → a.told ≡ [] → IsReadyNow p g b k n
ready_now p g b k n stage a e is ready stands idle untold =
    let same : found_at n.stage n ≡ a = ap (λ (x : Stage). found_at x n) e ∙ is in
    record {
      ready = subst (λ (x : Actor). IsReady p g b k x x.script) (sym same) ready;
      stage = subst (λ (x : Stage). IsReadyStage g k x) (sym e) stands;
      idle = ap (λ (x : Actor). x.mid) same ∙ idle;
      untold = ap (λ (x : Actor). x.told) same ∙ untold;
    }

counted_on : (m n : Mutating) → n.program ≡ m.program → n.number ≡ m.number → n.first ≡ m.first + (length m.told + waiting m.stage) → n.told ≡ [] →
    waiting n.stage ≡ 0 → n.script ≡ m.script →
    IsCounted m → IsCounted n
counted_on m n program number first told idle script c =
    let t : length n.told ≡ 0 = ap length told in
    let s : length n.script ≡ length m.script = ap length script in
    let whole : length (script_of n.program n.number) ≡ length (script_of m.program m.number) =
    ap (λ q. length (script_of q n.number)) program ∙ ap (λ j. length (script_of m.program j)) number in
    omega arith

module _ (p : Program) (how : Placing) (s : Contents) (g : Graph) (b : Book) (holding : IsHolding p s g b) (k : ℕ) (m n : Mutating) (t : Contents) where
  -- a request is answered
  module _ (serves : ServesReady) (own_number : m.number ≡ k) (statement : Statement) (request : Request) (stands : m.stage ≡ Asking statement request)
      (left : HasLeftReady p g b k m (Asking statement request)) (service : Service) (is_number : service.mutator ≡ m.number)
      (is_statement : service.statement ≡ m.first + length m.told) (turn : HasAnswered p how g b k statement m.script service.answer t)
      (shown : Shows p g b statement service.sections) (done : HasServed m statement service.answer n) (contents : IsContents t) where
    abbrev asked : Asked
    asked = record { by = k; statement = m.first + length m.told; request = request }

    is_served : IsServed p how g b asked service turn.graph turn.book
    is_served = record {
      mutator = is_number ∙ own_number;
      number = is_statement;
      statement = statement;
      rest = m.script;
      next = left.2.script_is;
      answer = turn.named;
      does = turn.does;
      places = turn.places;
      shows = shown;
      told = turn.told;
    }

    behind : AreReadyBehind p g b k turn.graph turn.book (served (actor_of m) statement m.script service.answer) m.script
    unfolding is_served
    behind = serves p (constants_of s) (words_of s) g turn.graph b turn.book how asked service (actor_of m)
        (held_of_heap p s g b holding.plain holding.heap) is_served left.2

    one : 1 ≡ waiting m.stage
    one = sym (ap waiting stands)

    first : n.first ≡ m.first + (length m.told + waiting m.stage)
    first = done.first ∙ ap (λ x. m.first + (length m.told + x)) one

    pub answered : HasGoneOn p how g b k m (service ∷ []) t n
    answered = record {
      graph = turn.graph;
      book = turn.book;
      holding = record { contents = contents; plain = turn.plain; heap = turn.heap };
      serves = subst (λ (stage : Stage). Serves p how g b (asked_of m stage) (service ∷ []) turn.graph turn.book) (sym stands)
          (subst (λ j. Serves p how g b (record { by = j; statement = m.first + length m.told; request = request } ∷ []) (service ∷ []) turn.graph turn.book)
          (sym own_number) (turn.graph, turn.book, is_served, (refl, refl)));
      others = behind.others;
      owed = turn.owed;
      ended = turn.ended;
      own = ready_now p turn.graph turn.book k n Between (actor_of n) done.stage refl
          (subst (λ (a : Actor). IsReady p turn.graph turn.book k a a.script) (sym done.actor)
          (ready_anew p turn.graph turn.book k (served (actor_of m) statement m.script service.answer) Idle m.script behind.answered))
          (turn.ended k ∙ left.0) (ap (λ (a : Actor). a.mid) done.actor) (ap (λ (a : Actor). a.told) done.actor);
      further = record {
        program = done.program;
        number = done.number;
        first = first;
        counted = counted_on m n done.program done.number first (ap (λ (a : Actor). a.told) done.actor) (ap waiting done.stage)
            (ap (λ (a : Actor). a.script) done.actor);
      };
    }

  -- or nothing was asked for
  module _ (same : t ≡ s) (begins : BeginsEpoch m n) where
    module _ (stage anew : Stage) (stands : m.stage ≡ stage) (goes : stage_anew stage ≡ anew) (none : asked_of m stage ≡ []) (idle : waiting stage ≡ 0)
        (rests : waiting anew ≡ 0) (own : IsReadyNow p g b k n) where
      first_now : n.first ≡ m.first + (length m.told + waiting m.stage)
      first_now = let f = begins.first in let z : waiting m.stage ≡ 0 = ap waiting stands ∙ idle in omega arith

      begun : HasGoneOn p how g b k m [] t n
      begun = record {
        graph = g;
        book = b;
        holding = subst (λ (x : Contents). IsHolding p x g b) (sym same) holding;
        serves = subst (λ (xs : List Asked). Serves p how g b xs [] g b) (sym (ap (asked_of m) stands ∙ none)) (refl, refl);
        others = λ j x script d r. r;
        owed = refl;
        ended = λ j. refl;
        own = own;
        further = record {
          program = begins.program;
          number = begins.number;
          first = first_now;
          counted = counted_on m n begins.program begins.number first_now (ap (λ (a : Actor). a.told) begins.actor)
              (ap waiting (begins.stage ∙ ap stage_anew stands ∙ goes) ∙ rests) (ap (λ (a : Actor). a.script) begins.actor);
        };
      }

    pub goes_anew : (stage : Stage) → m.stage ≡ stage → asked_of m stage ≡ [] → HasLeftReady p g b k m stage → HasGoneOn p how g b k m [] t n
    goes_anew (Asking statement request) stands none left = absurd (cc none)
    goes_anew Ended stands none left =
        let actor = begins.actor in
        begun Ended Ended stands refl refl refl refl
        (ready_now p g b k n Ended (parted m) (begins.stage ∙ ap stage_anew stands)
        (λ i. record (parted m) { from = (ap (λ (a : Actor). a.from) actor) i; to = (ap (λ (a : Actor). a.to) actor) i }) left.1 left.0 refl refl)
    goes_anew Yielded stands none left =
        let actor : actor_of n ≡ record (actor_of m) { told = []; mid = Idle } =
        begins.actor ∙ ap (λ (x : Stage). record (actor_of m) { told = []; mid = mid_of (stage_anew x) }) stands in
        begun Yielded Between stands refl refl refl refl
        (ready_now p g b k n Between (actor_of n) (begins.stage ∙ ap stage_anew stands) refl
        (subst (λ (a : Actor). IsReady p g b k a a.script) (sym actor) (ready_anew p g b k (actor_of m) Idle m.script left.1)) left.0
        (ap (λ (a : Actor). a.mid) actor) (ap (λ (a : Actor). a.told) actor))
    goes_anew stage stands none left = absurd left

-- the stage of one that asks, and of one that doesn't
pub asks_at : (stage : Stage) (statement : Statement) → asking_of stage ≡ Some statement → (request : Request) × (stage ≡ Asking statement request)
asks_at (Asking statement request) other e = (request, ap (λ x. Asking x request) (same_Some statement other e))
asks_at stage statement e = absurd (cc e)

pub asks_none : (m : Mutating) (stage : Stage) → asking_of stage ≡ None → asked_of m stage ≡ []
asks_none m (Asking statement request) e = absurd (cc e)
asks_none m stage e = refl
