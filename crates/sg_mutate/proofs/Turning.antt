-- One turn more.
use Rattle.std.proofs.Common.{◌≡◌, ◌≢◌, ℕ, zero, suc, ◌^◌, ◌<◌, ◌≤◌, ◌⊎◌, true, false, Some, None, List, [], ◌∷◌, ◌++◌, length, slice_get, slice_set}
use Rattle.std.proofs.Common.{append_assoc, inl, inr, refl, ap, sym, ◌∙◌, subst, arith}
use Rattle.std.specs.Int.{bit_at}
use Rattle.std.proofs.lemmas.Bool.{cases_eq}
use Rattle.std.proofs.lemmas.List.{length-set}
use Rattle.std.proofs.lemmas.Option.{slice_get_within}
use Rattle.sg_words.specs.Schedule.{Schedule, begun, Gives}
use Rattle.sg_cells.specs.Ended.{HasEnded}
use Rattle.sg_program.specs.declared.program.Program.{Program}
use Rattle.sg_graph.specs.Graph.{Graph}
use Rattle.sg_graph.specs.Book.{Book}
use Rattle.sg_graph.specs.Epoch.{Said, running}
use Rattle.sg_graph.specs.Turns.{Board, opening, HasGone, ActorLeft, Plays}
use Rattle.sg_graph.specs.Turns.Plays.{Goes}
use Rattle.sg_space.specs.Space.{Contents}
use Rattle.sg_frag.specs.Plain.{KeepsSections, Led}
use Rattle.sg_actor.specs.State.{Mutating, leave_of, IsSameMutator}
use Rattle.sg_actor.specs.Turning.{TakesTurn}
use Rattle.sg_mutate.specs.Boards.{TurnsAreTaken, EndsAreTaken}
use Rattle.sg_mutate.specs.Epochs.{constants_of, AreMutatorsOf, IsOpened}
use Rattle.sg_mutate.proofs.Listed.{those_distinct, marked, marked_fits, marked_same, marked_other, none_above, gives_as}
use Rattle.sg_mutate.proofs.Midst.{IsPlacedAt, TakesPart, Midst, one_some, some_at, is_running}
use Rattle.sg_mutate.proofs.Leaving.{keeps_head}
use Rattle.sg_mutate.proofs.Next.{Next, next, placed_stays, placed_gone}

pub get_other : {A : Type 0} (l : List A) (i k : ℕ) (x : A) → k ≢ i → slice_get (slice_set l i x) k ≡ slice_get l k
get_other [] i k x o = refl
get_other (y ∷ l) zero zero x o = absurd (o refl)
get_other (y ∷ l) zero (suc k) x o = refl
get_other (y ∷ l) (suc i) zero x o = refl
get_other (y ∷ l) (suc i) (suc k) x o = get_other l i k x (λ e. o (ap suc e))

pub get_same : {A : Type 0} (l : List A) (i : ℕ) (x : A) → i < length l → slice_get (slice_set l i x) i ≡ Some x
get_same [] i x b = absurd (omega arith)
get_same (y ∷ l) zero x b = refl
get_same (y ∷ l) (suc i) x b = get_same l i x (omega arith)

-- an item of a list with another one at k
set_at : {A : Type 0} (xs : List A) (k j : ℕ) (n y : A) → k < length xs → slice_get (slice_set xs k n) j ≡ Some y →
    ((j ≡ k) × (y ≡ n)) ⊎ ((j ≢ k) × (slice_get xs j ≡ Some y))
set_at xs k j n y l e = elim (cases_eq j k) [
  | inl z ↦ inl (z, one_some (slice_get (slice_set xs k n) j) y n e (ap (slice_get (slice_set xs k n)) z ∙ get_same xs k n l))
  | inr o ↦ inr (o, sym (get_other xs k j n o) ∙ e)
]

same_then : (l m n : Mutating) → IsSameMutator l m → IsSameMutator m n → IsSameMutator l n
same_then l m n e f = record { program = f.program ∙ e.program; number = f.number ∙ e.number; first = f.first ∙ e.first }

module _ (p : Program) (g : Graph) (b : Book) (s0 : Contents) (m0 : List Mutating) (schedule0 : Schedule) (opened : IsOpened p g b s0 m0)
    (s : Contents) (ms : List Mutating) (schedule : Schedule) (ended : ℕ) (mid : Midst p g b s0 m0 schedule0 s ms schedule ended)
    (i k : ℕ) (at : slice_get (running p g) i ≡ Some k) (m : Mutating)
    (now : slice_get ms k ≡ Some m) where
  going : (g.mutator k).ended ≡ false
  going = (is_running p g b s0 m0 opened i k at).1

  below : k < length ms
  below = slice_get_within ms k m now

  pub first : (x : Mutating) × (slice_get m0 k ≡ Some x)
  first = some_at m0 k (is_running p g b s0 m0 opened i k at).0

  -- who has the turn
  pub part : TakesPart p (mid.board.position k) first.0 m (mid.actors k)
  part = mid.parts k first.0 m first.1 now going

  module _ (turns : TurnsAreTaken) (ends : EndsAreTaken) (n : Mutating) (t : Contents) (stage : leave_of m.stage ≡ None)
      (takes : TakesTurn (constants_of s0) Led m s n t) where
    x : Next p (constants_of s0) g b mid.order mid.board s mid.actors k m n t
    x = next turns ends p (constants_of s0) g b mid.order mid.board s mid.actors mid.boarded k m n t (mid.are.program k m now) part.actor
        (placed_stays p m.stage (mid.board.position k) stage part.placed) takes

    are : AreMutatorsOf p (slice_set ms k n)
    are = record {
      count = length-set ms k n ∙ mid.are.count;
      program = λ j y e. elim (set_at ms k j n y below e) [
        | inl h ↦ ap (λ (z : Mutating). z.program) h.1 ∙ x.same.program ∙ mid.are.program k m now
        | inr h ↦ mid.are.program j y h.1
      ];
      number = λ j y e. elim (set_at ms k j n y below e) [
        | inl h ↦ ap (λ (z : Mutating). z.number) h.1 ∙ x.same.number ∙ mid.are.number k m now ∙ sym h.0
        | inr h ↦ mid.are.number j y h.1
      ];
    }

    keeps : KeepsSections s0 t
    keeps = record {
      layout = x.keeps.layout ∙ mid.keeps.layout;
      shapes = x.keeps.shapes ∙ mid.keeps.shapes;
      ends = x.keeps.ends ∙ mid.keeps.ends;
      next = x.keeps.next ∙ mid.keeps.next;
      words = x.keeps.words ∙ mid.keeps.words;
      blocks = x.keeps.blocks ∙ mid.keeps.blocks;
      used = x.keeps.used ∙ mid.keeps.used;
      cards = x.keeps.cards ∙ mid.keeps.cards;
      marks = x.keeps.marks ∙ mid.keeps.marks;
      pages = x.keeps.pages ∙ mid.keeps.pages;
      made = x.keeps.made ∙ mid.keeps.made;
      registered = x.keeps.registered ∙ mid.keeps.registered;
      pairs = x.keeps.pairs ∙ mid.keeps.pairs;
    }

    here : (y : Mutating) → slice_get m0 k ≡ Some y → TakesPart p (x.board.position k) y n (x.later k)
    here y e =
        let old = mid.parts k y m e now going in
        record { actor = x.at; same = same_then y m n old.same x.same; placed = x.placed }

    there : (j : ℕ) (y z : Mutating) → j ≢ k → TakesPart p (mid.board.position j) y z (mid.actors j) → TakesPart p (x.board.position j) y z (x.later j)
    there j y z o old = record {
      actor = x.others j o ∙ old.actor;
      same = old.same;
      placed = subst (IsPlacedAt p z.stage) (sym (x.elsewhere j o)) old.placed;
    }

    parts : (j : ℕ) (y z : Mutating) → slice_get m0 j ≡ Some y → slice_get (slice_set ms k n) j ≡ Some z → (g.mutator j).ended ≡ false →
        TakesPart p (x.board.position j) y z (x.later j)
    parts j y z e f runs = elim (set_at ms k j n z below f) [
      | inl h ↦ subst (λ (q : Mutating). TakesPart p (x.board.position j) y q (x.later j)) (sym h.1)
          (subst (λ r. TakesPart p (x.board.position r) y n (x.later r)) (sym h.0) (here y (ap (slice_get m0) (sym h.0) ∙ e)))
      | inr h ↦ there j y z h.0 (mid.parts j y z e h.1 runs)
    ]

    other : (j : ℕ) → (g.mutator j).ended ≡ true → j ≢ k
    other j e z = let f = going in let q = ap (λ r. (g.mutator r).ended) z in cc

    module _ (later : Schedule) (few : length (running p g) ≤ 16) (gives : Gives (length (running p g)) (HasEnded ended) schedule i later) where
      plays : (more : List Said) (u : Schedule) (z : Board) → Plays p (running p g) later x.board more u z →
          Plays p (running p g) (begun schedule0) (opening g b) ((mid.order ++ x.said) ++ more) u z
      plays more u z h = subst (λ ss. Plays p (running p g) (begun schedule0) (opening g b) ss u z) (sym (append_assoc mid.order x.said more))
          (mid.plays (x.said ++ more) u z (Goes schedule later u mid.board x.board z i k x.said more
          (gives_as (length (running p g)) (HasEnded ended) (ActorLeft mid.board (running p g))
          (λ j h. let l = some_at (running p g) j (none_above (length (running p g)) ended j mid.few h) in (l.0, l.1, mid.gone j l.0 l.1 h))
          (λ j h. mid.left j h.0 h.1 h.2) schedule i later gives)
          at x.takes h))

      -- another actor is another mutator
      apart : (j l : ℕ) → slice_get (running p g) j ≡ Some l → j ≢ i → l ≢ k
      apart j l e o z = o (those_distinct _ (length p.mutators) j i k (e ∙ ap Some z) at)

      module _ (ended' : ℕ) (fits : ended' < 2 ^ length (running p g)) (others : (j : ℕ) → j ≢ i → bit_at ended' j ≡ bit_at ended j)
          (gone : HasEnded ended' i → HasGone (x.board.position k)) (left : HasGone (x.board.position k) → HasEnded ended' i) where
        goes_so : Midst p g b s0 m0 schedule0 t (slice_set ms k n) later ended'
        goes_so = record {
          order = mid.order ++ x.said;
          board = x.board;
          actors = x.later;
          boarded = x.boarded;
          plays = plays;
          keeps = keeps;
          head = keeps_head (constants_of s0) m n s t takes ∙ mid.head;
          are = are;
          parts = parts;
          stayed = λ j y z e f gone. elim (set_at ms k j n z below f) [
            | inl h ↦ absurd (other j gone h.0)
            | inr h ↦ let old = mid.stayed j y z e h.1 gone in (old.0, x.others j h.0 ∙ old.1)
          ];
          beyond = λ j l. x.others j (λ z. let q = slice_get_within m0 k first.0 first.1 in absurd (omega arith)) ∙ mid.beyond j l;
          few = fits;
          gone = λ j l e h. elim (cases_eq j i) [
            | inl z ↦ subst (λ r. HasGone (x.board.position r)) (one_some (slice_get (running p g) i) k l at (ap (slice_get (running p g)) (sym z) ∙ e))
                (gone (subst (HasEnded ended') z h))
            | inr o ↦ subst HasGone (sym (x.elsewhere l (apart j l e o))) (mid.gone j l e (sym (others j o) ∙ h))
          ];
          left = λ j l e h. elim (cases_eq j i) [
            | inl z ↦ subst (HasEnded ended') (sym z)
                (left (subst (λ r. HasGone (x.board.position r)) (one_some (slice_get (running p g) j) l k e (ap (slice_get (running p g)) z ∙ at)) h))
            | inr o ↦ others j o ∙ mid.left j l e (subst HasGone (x.elsewhere l (apart j l e o)) h)
          ];
        }

      place : i < length (running p g)
      place = slice_get_within (running p g) i k at

      -- it has left with the turn
      pub has_left : leave_of n.stage ≢ None → Midst p g b s0 m0 schedule0 t (slice_set ms k n) later (marked ended i)
      has_left gone =
          let l = place in
          goes_so (marked ended i) (marked_fits (length (running p g)) ended i mid.few place few) (λ j o. marked_other ended i j (omega arith) o)
          (λ h. placed_gone p n.stage (x.board.position k) gone x.placed) (λ h. marked_same ended i (omega arith))

      -- or it hasn't
      pub has_stayed : leave_of n.stage ≡ None → ¬ HasEnded ended i → Midst p g b s0 m0 schedule0 t (slice_set ms k n) later ended
      has_stayed stays still =
          goes_so ended mid.few (λ j o. refl) (λ h. absurd (still h)) (λ h. absurd (placed_stays p n.stage (x.board.position k) stays x.placed h))
