-- An epoch in its midst, between two turns.
use Rattle.std.proofs.Common.{◌≡◌, ℕ, ◌^◌, ◌<◌, ◌≤◌, Bool, true, false, not, Option, Some, None, List, [], ◌∷◌, ◌++◌, length, filter, slice_get, refl, ap}
use Rattle.std.proofs.Common.{sym, ◌∙◌, subst, arith}
use Rattle.std.proofs.lemmas.Option.{slice_get_past, slice_get-get_or}
use Rattle.std.specs.Int.{bit_at}
use Rattle.std.proofs.lemmas.Nat.{pow_pos}
use Rattle.std.proofs.lemmas.Nat.Bits.{bit_at-zero}
use Rattle.sg_words.specs.Schedule.{Schedule, begun}
use Rattle.sg_words.specs.declared.layout.Layout.{Layout}
use Rattle.sg_cells.specs.Ended.{HasEnded}
use Rattle.sg_program.specs.declared.program.Program.{Program}
use Rattle.sg_program.specs.declared.answers.Leave.TheVariants.{Ended as HasNone, Yield, Wants}
use Rattle.sg_graph.specs.Graph.{Graph}
use Rattle.sg_graph.specs.Book.{Book}
use Rattle.sg_graph.specs.Epoch.{Said, running, numbers_below}
use Rattle.sg_graph.specs.Turns.{Position, Between as IsBetween, HasLeft, Board, opening, HasGone, Plays}
use Rattle.sg_space.specs.Space.{Contents, words_of}
use Rattle.sg_frag.specs.Plain.{KeepsSections}
use Rattle.sg_rules.specs.Rules.{Idle, Actor, fresh}
use Rattle.sg_program.specs.Scripts.{IsRequestOf}
use Rattle.sg_actor.specs.declared.mutator.Stage.{Stage}
use Rattle.sg_actor.specs.declared.mutator.Stage.TheVariants.{Between, Within, Ended, Asking, Yielded}
use Rattle.sg_actor.specs.State.{Mutating, mid_of, actor_of, IsSameMutator}
use Rattle.sg_mutate.specs.Boards.{IsBoarded, OpensBoarded}
use Rattle.sg_mutate.specs.Epochs.{constants_of, parted, found_at, found_in, actors_in, AreMutatorsOf, IsReadyStage, IsOpened}
use Rattle.sg_mutate.specs.Going.{goes_on, is_going, going_below}
use Rattle.sg_mutate.proofs.Listed.{those_agree, those_have, those_below, no_bit}
use Rattle.sg_mutate.proofs.Calls.{IsSpaceBy}

-- a mutator at this stage stands on the board here
abbrev pub IsPlacedAt : Program → Stage → Position → Type 0
IsPlacedAt p Within position = ⊥
IsPlacedAt p Ended position = position ≡ HasLeft HasNone
IsPlacedAt p (Asking statement request) position = (position ≡ HasLeft (Wants request)) × IsRequestOf p statement request
IsPlacedAt p Yielded position = position ≡ HasLeft Yield
IsPlacedAt p stage position = ¬ HasGone position

-- a mutator that takes turns in the epoch, which opened as m and is n now
pub record TakesPart (p : Program) (position : Position) (m n : Mutating) (a : Actor) : Type 0 where
  pub actor : a ≡ actor_of n
  pub same : IsSameMutator m n
  pub placed : IsPlacedAt p n.stage position

-- The epoch that opened with g and b over the space s0, with the mutators m0, has come to this space, these mutators and this place in
-- the schedule; the bits of a number say which actors have left. Whatever turns lead on from here lead on from the opening.
pub record Midst (p : Program) (g : Graph) (b : Book) (s0 : Contents) (m0 : List Mutating) (schedule0 : Schedule) (s : Contents) (ms : List Mutating)
    (schedule : Schedule) (ended : ℕ) : Type 0 where
  pub order : List Said
  pub board : Board
  pub actors : ℕ → Actor
  pub boarded : IsBoarded p (constants_of s0) g b order board (words_of s) actors
  pub plays : (more : List Said) (u : Schedule) (z : Board) → Plays p (running p g) schedule board more u z →
      Plays p (running p g) (begun schedule0) (opening g b) (order ++ more) u z
  pub keeps : KeepsSections s0 s
  pub head : s.head ≡ s0.head
  pub are : AreMutatorsOf p ms
  pub parts : (k : ℕ) (m n : Mutating) → slice_get m0 k ≡ Some m → slice_get ms k ≡ Some n → (g.mutator k).ended ≡ false →
      TakesPart p (board.position k) m n (actors k)
  pub stayed : (k : ℕ) (m n : Mutating) → slice_get m0 k ≡ Some m → slice_get ms k ≡ Some n → (g.mutator k).ended ≡ true → (n ≡ m) × (actors k ≡ parted m)
  pub beyond : (k : ℕ) → length m0 ≤ k → actors k ≡ fresh []
  pub few : ended < 2 ^ length (running p g)
  pub gone : (i k : ℕ) → slice_get (running p g) i ≡ Some k → HasEnded ended i → HasGone (board.position k)
  pub left : (i k : ℕ) → slice_get (running p g) i ≡ Some k → HasGone (board.position k) → HasEnded ended i

-- the stages as the graph has them
ready_going : (g : Graph) (k : ℕ) (stage : Stage) → IsReadyStage g k stage → goes_on stage ≡ not (g.mutator k).ended
ready_going g k Between h = ap not (sym h)
ready_going g k Ended h = ap not (sym h)
ready_going g k stage h = absurd h

ready_between : (g : Graph) (k : ℕ) (stage : Stage) → IsReadyStage g k stage → (g.mutator k).ended ≡ false → stage ≡ Between
ready_between g k Between h e = refl
ready_between g k Ended h e = cc
ready_between g k stage h e = absurd h

ready_ended : (g : Graph) (k : ℕ) (stage : Stage) → IsReadyStage g k stage → (g.mutator k).ended ≡ true → stage ≡ Ended
ready_ended g k Between h e = cc
ready_ended g k Ended h e = refl
ready_ended g k stage h e = absurd h

-- who may begin an epoch is between two statements
ready_idle : (g : Graph) (k : ℕ) (m : Mutating) (stage : Stage) → m.stage ≡ stage → IsReadyStage g k stage → (found_at stage m).mid ≡ Idle
ready_idle g k m Between e h = ap mid_of e
ready_idle g k m Ended e h = refl
ready_idle g k m stage e h = absurd h

pub one_some : {A : Type 0} (o : Option A) (x y : A) → o ≡ Some x → o ≡ Some y → x ≡ y
one_some o x y e f = cc

pub some_at : {A : Type 0} (xs : List A) (k : ℕ) → k < length xs → (x : A) × (slice_get xs k ≡ Some x)
some_at [] k l = absurd (omega arith)
some_at (x ∷ xs) k l = (_, slice_get-get_or (x ∷ xs) k x l)

module _ (p : Program) (g : Graph) (b : Book) (s : Contents) (ms : List Mutating) (opened : IsOpened p g b s ms) where
  -- the actors by the graph and by the mutators are the same
  pub running_is : going_below ms (length ms) ≡ running p g
  running_is =
      those_agree (λ k. is_going (slice_get ms k)) (λ k. not (g.mutator k).ended) (length ms) (λ k l.
      let m = some_at ms k l in ap is_going m.1 ∙ ready_going g k m.0.stage (opened.stages k m.0 m.1)) ∙
      ap (λ n. filter (λ k. not (g.mutator k).ended) (numbers_below n)) opened.are.count

  pub space_is : IsSpaceBy p (constants_of s) s
  space_is = let is = opened.space.contents in record {
    layout = opened.space.layout;
    limits = is.layout;
    words = is.words;
    next = is.fragments;
    blocks = is.blocks ∙ ap (λ (layout : Layout). layout.blocks) opened.space.layout;
    used = is.used ∙ ap (λ (layout : Layout). layout.blocks) opened.space.layout;
    cards = is.cards;
    fragments = refl;
    marks = refl;
  }

  -- a running mutator is one of them, and hasn't ended
  pub is_running : (i k : ℕ) → slice_get (running p g) i ≡ Some k → (k < length ms) × ((g.mutator k).ended ≡ false)
  is_running i k e =
      let h = those_below (λ j. not (g.mutator j).ended) (length p.mutators) i k e in
      let n = opened.are.count in
      let l = h.0 in
      (omega arith, not_false (g.mutator k).ended h.1)
    where
      not_false : (x : Bool) → not x ≡ true → x ≡ false
      not_false true z = cc
      not_false false z = refl

  pub runs : (k : ℕ) → k < length ms → (g.mutator k).ended ≡ false → (i : ℕ) × (slice_get (running p g) i ≡ Some k)
  runs k l e = those_have (λ j. not (g.mutator j).ended) (length p.mutators) k (let n = opened.are.count in omega arith) (ap not e)

  all_idle : (k : ℕ) → (actors_in ms k).mid ≡ Idle
  all_idle k = by_one (slice_get ms k) refl
    where
      by_one : (o : Option Mutating) → slice_get ms k ≡ o → (found_in o).mid ≡ Idle
      by_one None e = refl
      by_one (Some m) e = ready_idle g k m m.stage refl (opened.stages k m e)

  -- as it opens
  pub begins : OpensBoarded → (schedule : Schedule) → Midst p g b s ms schedule s ms (begun schedule) 0
  begins opens schedule = record {
    order = [];
    board = opening g b;
    actors = actors_in ms;
    boarded = opens p (constants_of s) (words_of s) g b (actors_in ms) opened.opening all_idle opened.fits;
    plays = λ more u z h. h;
    keeps = record {
      layout = refl;
      shapes = refl;
      ends = refl;
      next = refl;
      words = refl;
      blocks = refl;
      used = refl;
      cards = refl;
      marks = refl;
      pages = refl;
      made = refl;
      registered = refl;
      pairs = refl;
    };
    head = refl;
    are = opened.are;
    parts = λ k m n e f going.
        let same = one_some (slice_get ms k) m n e f in
        let between = ready_between g k n.stage (opened.stages k n f) going in
        record {
          actor = ap found_in f ∙ ap (λ stage. found_at stage n) between;
          same = record {
            program = ap (λ (x : Mutating). x.program) (sym same);
            number = ap (λ (x : Mutating). x.number) (sym same);
            first = ap (λ (x : Mutating). x.first) (sym same);
          };
          placed = subst (λ (stage : Stage). IsPlacedAt p stage IsBetween) (sym between) (λ z. z);
        };
    stayed = λ k m n e f ended.
        let same = one_some (slice_get ms k) m n e f in
        (sym same, ap found_in e ∙ ap (λ stage. found_at stage m) (ready_ended g k m.stage (opened.stages k m e) ended));
    beyond = λ k l. ap found_in (slice_get_past ms k l);
    few = omega (arith, pow_pos (length (running p g)));
    gone = λ i k e h. absurd (no_bit (bit_at 0 i) h (bit_at-zero i));
    left = λ i k e h. absurd h;
  }
