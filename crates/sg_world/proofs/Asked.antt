-- What the requests of a stop want, and what their answers are behind its pauses.
use Rattle.std.proofs.Common.{◌≡◌, ℕ, zero, suc, ◌+◌, ◌||◌, ◌≤◌, Bool, true, false, Option, Some, None, List}
use Rattle.std.proofs.Common.{[], ◌∷◌, ◌++◌, length, map, slice_get, inl, sym, refl, ap, ◌∙◌, subst, arith}
use Rattle.std.specs.Prelude.{is_some, IsTrue}
use Rattle.std.specs.List.{AllByRecursion}
use Rattle.std.proofs.lemmas.Option.{same_Some}
use Rattle.sg_words.specs.Reach.{AreDistinct, IsFreshIn}
use Rattle.sg_program.specs.declared.program.Statement.{Statement}
use Rattle.sg_program.specs.declared.program.Statement.TheVariants.{New, NewV, Mature, Collect, Sections as AsksSections}
use Rattle.sg_program.specs.declared.program.Program.{Program}
use Rattle.sg_program.specs.declared.answers.Answer.{Answer}
use Rattle.sg_program.specs.declared.answers.Answer.TheVariants.{At, Fine, Full}
use Rattle.sg_program.specs.declared.answers.Request.{Request}
use Rattle.sg_program.specs.declared.answers.Request.TheVariants.{Need, Slot, Minor, Major, Sections as AllSections}
use Rattle.sg_graph.specs.declared.reports.MajorReport.{MajorReport}
use Rattle.sg_graph.specs.declared.reports.Service.{Service}
use Rattle.sg_graph.specs.Graph.{Graph}
use Rattle.sg_graph.specs.Book.{Book}
use Rattle.sg_graph.specs.Laws.{needed_by, needs_of, sized_by, sizes_of, IsAsking, AreAsking}
use Rattle.sg_graph.specs.Stop.{Asked, Placing, InFragments, InSlotsToo, wants_blocks, some_wants}
use Rattle.sg_graph.specs.Stop.{placing_behind, Places, IsServed, Serves, IsAnswered, LacksOne}
use Rattle.sg_graph.specs.Stop.LacksOne.{ThisOne, OneBehind}
use Rattle.sg_heap.specs.Holding.{OwesNothing}
use Rattle.sg_placing.specs.declared.placing.Room.{Room}
use Rattle.sg_placing.specs.declared.placing.Room.TheVariants.{Fragments, SlotsToo}
use Rattle.sg_placing.specs.Answering.{placing_in}
use Rattle.sg_actor.specs.declared.mutator.Stage.{Stage}
use Rattle.sg_actor.specs.declared.mutator.Stage.TheVariants.{Asking}
use Rattle.sg_actor.specs.State.{Mutating}
use Rattle.sg_mutate.specs.Epochs.{AreMutatorsOf}
use Rattle.sg_world.specs.Stopping.{asked_of, requests_of}
use Rattle.sg_world.specs.Steps.{SuitsRoom}
use Rattle.sg_world.specs.Serving.{CanTell}
use Rattle.sg_world.specs.Worlds.{HasLeftReady}

-- one request more
some_or : (a b c : Bool) → (a || (b || c)) ≡ ((a || b) || c)
some_or true b c = refl
some_or false b c = refl

pub wants_more : (wants : Request → Bool) (requests : List Asked) (a : Asked) →
    some_wants wants (requests ++ a ∷ []) ≡ (some_wants wants requests || wants a.request)
wants_more wants [] a = or_false (wants a.request)
  where
    or_false : (b : Bool) → (b || false) ≡ (false || b)
    or_false true = refl
    or_false false = refl
wants_more wants (b ∷ requests) a =
    ap (λ x. wants b.request || x) (wants_more wants requests a) ∙ some_or (wants b.request) (some_wants wants requests) (wants a.request)

needed_append : (request : Request) (xs ys : List ℕ) → needed_by request (xs ++ ys) ≡ needed_by request xs ++ ys
needed_append (Need words) xs ys = refl
needed_append (Slot size) xs ys = refl
needed_append Minor xs ys = refl
needed_append Major xs ys = refl
needed_append AllSections xs ys = refl

pub needs_more : (requests : List Asked) (a : Asked) → needs_of (requests ++ a ∷ []) ≡ needs_of requests ++ needed_by a.request []
needs_more [] a = refl
needs_more (b ∷ requests) a = ap (needed_by b.request) (needs_more requests a) ∙ needed_append b.request (needs_of requests) (needed_by a.request [])

sized_append : (request : Request) (xs ys : List ℕ) → sized_by request (xs ++ ys) ≡ sized_by request xs ++ ys
sized_append (Need words) xs ys = refl
sized_append (Slot size) xs ys = refl
sized_append Minor xs ys = refl
sized_append Major xs ys = refl
sized_append AllSections xs ys = refl

pub sizes_more : (requests : List Asked) (a : Asked) → sizes_of (requests ++ a ∷ []) ≡ sizes_of requests ++ sized_by a.request []
sizes_more [] a = refl
sizes_more (b ∷ requests) a = ap (sized_by b.request) (sizes_more requests a) ∙ sized_append b.request (sizes_of requests) (sized_by a.request [])

abbrev by_of : Asked → ℕ
by_of asked = asked.by

-- these requests ask in the graph, each mutator once, and none below number i
record AskFrom (p : Program) (g : Graph) (i : ℕ) (requests : List Asked) : Type 0 where
  each : AllByRecursion (IsAsking p g) requests
  once : AreDistinct (map by_of requests)
  from : AllByRecursion (λ (asked : Asked). i ≤ asked.by) requests

fresh_below : (k : ℕ) (requests : List Asked) → AllByRecursion (λ (asked : Asked). suc k ≤ asked.by) requests → IsFreshIn k (map by_of requests)
fresh_below k [] all = tt
fresh_below k (a ∷ requests) all = ((λ e. absurd (let l = all.0 in omega arith)), fresh_below k requests all.1)

from_lower : (k : ℕ) (requests : List Asked) → AllByRecursion (λ (asked : Asked). suc k ≤ asked.by) requests →
    AllByRecursion (λ (asked : Asked). k ≤ asked.by) requests
from_lower k [] all = tt
from_lower k (a ∷ requests) all = ((let l = all.0 in omega arith), from_lower k requests all.1)

module _ (p : Program) (g : Graph) (b : Book) where
  -- one mutator more before them
  asks_before : (k : ℕ) (m : Mutating) (stage : Stage) (more : List Asked) → m.number ≡ k → HasLeftReady p g b k m stage → AskFrom p g (suc k) more →
      AskFrom p g k (asked_of m stage ++ more)
  asks_before k m (Asking statement request) more number left rest = record {
    each = (
      record {
        statement = statement;
        rest = m.script;
        next = ap (λ j. (g.mutator j).script) number ∙ left.2.script_is;
        asks = left.1;
        small = let few = left.2.runnable.0.small in omega arith;
      },
      rest.each,
    );
    once = (subst (λ j. IsFreshIn j (map by_of more)) (sym number) (fresh_below k more rest.from), rest.once);
    from = ((omega (arith, number)), from_lower k more rest.from);
  }
  asks_before k m stage more number left rest = record { each = rest.each; once = rest.once; from = from_lower k more rest.from }

  all_ask : (i : ℕ) (ms : List Mutating) →
      ((r : ℕ) (m : Mutating) → slice_get ms r ≡ Some m → HasLeftReady p g b (i + r) m m.stage × (m.number ≡ i + r)) → AskFrom p g i (requests_of ms)
  all_ask i [] ready = record { each = tt; once = tt; from = tt }
  all_ask i (m ∷ ms) ready =
      let first = ready zero m refl in
      let same : i + 0 ≡ i = omega arith in
      asks_before i m m.stage (requests_of ms) (first.1 ∙ same) (subst (λ j. HasLeftReady p g b j m m.stage) same first.0)
      (all_ask (suc i) ms (λ r x e. let next = ready (suc r) x e in let on : i + suc r ≡ suc i + r = omega arith in
      (subst (λ j. HasLeftReady p g b j x x.stage) on next.0, next.1 ∙ on)))

  pub are_asking : (ms : List Mutating) → AreMutatorsOf p ms → ((k : ℕ) (m : Mutating) → slice_get ms k ≡ Some m → HasLeftReady p g b k m m.stage) →
      AreAsking p g (requests_of ms)
  are_asking ms are ready =
      let all = all_ask 0 ms (λ r m e. let z : r ≡ 0 + r = omega arith in
      (subst (λ j. HasLeftReady p g b j m m.stage) z (ready r m e), are.number r m e ∙ z)) in
      record { each = all.each; once = all.once }

-- a request among them that wants something
wants_in : (wants : Request → Bool) (requests more : List Asked) → some_wants wants more ≡ true → some_wants wants (requests ++ more) ≡ true
wants_in wants [] more q = q
wants_in wants (a ∷ requests) more q = ap (λ x. wants a.request || x) (wants_in wants requests more q) ∙ or_true (wants a.request)
  where
    or_true : (b : Bool) → (b || true) ≡ true
    or_true true = refl
    or_true false = refl

wants_here : (wants : Request → Bool) (a : Asked) (more : List Asked) → wants a.request ≡ true → some_wants wants (a ∷ more) ≡ true
wants_here wants a more q = ap (λ x. x || some_wants wants more) q

wants_at : (os : List Mutating) (k : ℕ) (o : Mutating) (statement : Statement) (request : Request) → slice_get os k ≡ Some o →
    o.stage ≡ Asking statement request → wants_blocks request ≡ true → IsTrue (some_wants wants_blocks (requests_of os))
wants_at [] k o statement request e stands wanted = absurd (cc e)
wants_at (x ∷ os) zero o statement request e stands wanted =
    let same : x ≡ o = same_Some x o e in
    subst (λ (xs : List Asked). some_wants wants_blocks (xs ++ requests_of os) ≡ true) (sym (ap (asked_of x) (ap (λ (y : Mutating). y.stage) same ∙ stands)))
    (wants_here wants_blocks (record { by = x.number; statement = x.first + length x.told; request = request }) (requests_of os) wanted)
wants_at (x ∷ os) (suc k) o statement request e stands wanted =
    wants_in wants_blocks (asked_of x x.stage) (requests_of os) (wants_at os k o statement request e stands wanted)

-- who asks for a slot or for the sections finds no block owed
tells_by : (p : Program) (c : Book) (stage : Stage) →
    ((statement : Statement) (request : Request) → stage ≡ Asking statement request → wants_blocks request ≡ true → OwesNothing p c) → CanTell p c stage
tells_by p c (Asking statement AllSections) owes = owes statement AllSections refl refl
tells_by p c (Asking statement (Slot size)) owes = owes statement (Slot size) refl refl
tells_by p c (Asking statement request) owes = tt
tells_by p c stage owes = tt

pub can_tell : (p : Program) (c : Book) (os : List Mutating) (k : ℕ) (o : Mutating) → slice_get os k ≡ Some o →
    (IsTrue (some_wants wants_blocks (requests_of os)) → OwesNothing p c) → CanTell p c o.stage
can_tell p c os k o e owes = tells_by p c o.stage (λ statement request stands wanted. owes (wants_at os k o statement request e stands wanted))

-- where fragments have room for all, slots aren't looked for
places_too : (p : Program) (g : Graph) (b : Book) (s : Statement) (answer : Answer) (c : Book) → (answer ≡ Full → ⊥) → Places p InFragments g b s answer c →
    Places p InSlotsToo g b s answer c
places_too p g b (New r class) (At name) c room h = (h.0, inl h.1)
places_too p g b (New r class) Full c room h = absurd (room refl)
places_too p g b (New r class) answer c room h = absurd h
places_too p g b (NewV r class count) (At name) c room h = (h.0, inl h.1)
places_too p g b (NewV r class count) Full c room h = absurd (room refl)
places_too p g b (NewV r class count) answer c room h = absurd h
places_too p g b (Mature r class) answer c room h = h
places_too p g b (Collect major) Fine c room h = h
places_too p g b (Collect major) answer c room h = absurd h
places_too p g b AsksSections Fine c room h = h
places_too p g b AsksSections answer c room h = absurd h
places_too p g b s answer c room h = absurd h

module _ (p : Program) where
  is_answered : (how : Placing) (g : Graph) (b : Book) (asked : Asked) (service : Service) (h : Graph) (c : Book)
      (served : IsServed p how g b asked service h c) → IsAnswered p how g b asked served.answer h c
  is_answered how g b asked service h c served =
      record { statement = served.statement; rest = served.rest; next = served.next; does = served.does; places = served.places }

  served_too : (g : Graph) (b : Book) (asked : Asked) (service : Service) (h : Graph) (c : Book) (served : IsServed p InFragments g b asked service h c) →
      (served.answer ≡ Full → ⊥) → IsServed p InSlotsToo g b asked service h c
  served_too g b asked service h c served room = record {
    mutator = served.mutator;
    number = served.number;
    statement = served.statement;
    rest = served.rest;
    next = served.next;
    answer = served.answer;
    does = served.does;
    places = places_too p g b served.statement served.answer c room served.places;
    shows = served.shows;
    told = served.told;
  }

  serves_too : (g : Graph) (b : Book) (requests : List Asked) (services : List Service) (h : Graph) (c : Book) → ¬ LacksOne p InFragments g b requests →
      Serves p InFragments g b requests services h c → Serves p InSlotsToo g b requests services h c
  serves_too g b [] [] h c room s = s
  serves_too g b [] (service ∷ services) h c room s = absurd s
  serves_too g b (asked ∷ requests) [] h c room s = absurd s
  serves_too g b (asked ∷ requests) (service ∷ services) h c room (h1, c1, served, rest) = (
    h1,
    c1,
    served_too g b asked service h1 c1 served (λ full. room (ThisOne g b asked requests h1 c1
        (subst (λ (answer : Answer). IsAnswered p InFragments g b asked answer h1 c1) full (is_answered InFragments g b asked service h1 c1 served)))),
    serves_too h1 c1 requests services h c
        (λ lacks. room (OneBehind g b asked requests served.answer h1 c1 (is_answered InFragments g b asked service h1 c1 served) lacks)) rest,
  )

  -- so the answers are those that a stop gives behind its pauses
  pub serves_behind : (g : Graph) (b : Book) (requests : List Asked) (services : List Service) (h : Graph) (c : Book) (major : Option MajorReport)
      (room : Room) → SuitsRoom p g b requests (is_some major) room → Serves p (placing_in room) g b requests services h c →
      Serves p (placing_behind major) g b requests services h c
  serves_behind g b requests services h c None room suits s = subst (λ (r : Room). Serves p (placing_in r) g b requests services h c) suits s
  serves_behind g b requests services h c (Some report) Fragments suits s = serves_too g b requests services h c suits s
  serves_behind g b requests services h c (Some report) SlotsToo suits s = s
