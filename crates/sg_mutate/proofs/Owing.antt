-- Each turn leaves less to do.
use Rattle.std.proofs.Common.{◌≡◌, ℕ, ◌<◌, ◌≤◌, None, List, length, get_or, set, inl, inr, refl, ap, sym, ◌∙◌, subst, arith}
use Rattle.std.specs.List.{sum_by}
use Rattle.std.proofs.lemmas.List.Sums.{sum_by-set}
use Rattle.sg_program.specs.declared.program.Program.{Program}
use Rattle.sg_graph.specs.Graph.{Graph}
use Rattle.sg_graph.specs.Book.{Book}
use Rattle.sg_graph.specs.Epoch.{Said}
use Rattle.sg_graph.specs.Turns.{Board}
use Rattle.sg_space.specs.Space.{Contents, words_of}
use Rattle.sg_frag.specs.Plain.{Led}
use Rattle.sg_rules.specs.Rules.{Constants, Actor}
use Rattle.sg_rules.specs.Sane.{IsSane}
use Rattle.sg_rules.specs.Acting.{IsTurn}
use Rattle.sg_actor.specs.declared.mutator.Stage.{Stage}
use Rattle.sg_actor.specs.declared.mutator.Stage.TheVariants.{Ended, Asking, Yielded}
use Rattle.sg_actor.specs.State.{Mutating, actor_of, mid_of, leave_of}
use Rattle.sg_actor.specs.Turning.{TakesTurn}
use Rattle.sg_mutate.specs.Boards.{owed, owed_at, IsBoarded, TurnsOweLess}

-- who has left owes nothing
abbrev pub still : Stage → ℕ → ℕ
still Ended n = 0
still (Asking statement request) n = 0
still Yielded n = 0
still stage n = n

-- what a mutator has still to do in its epoch, at most, and all of them
abbrev pub owed_by : Constants → Mutating → ℕ
owed_by lay m = still m.stage (owed m.program lay (actor_of m))

abbrev pub owed_all : Constants → List Mutating → ℕ
owed_all lay ms = sum_by (owed_by lay) ms

still_going : (stage : Stage) (n : ℕ) → leave_of stage ≡ None → still stage n ≡ n
still_going Ended n e = cc
still_going (Asking s request) n e = cc
still_going Yielded n e = cc
still_going stage n e = refl

still_less : (stage : Stage) (n : ℕ) → still stage n ≤ n
still_less Ended n = omega arith
still_less (Asking s request) n = omega arith
still_less Yielded n = omega arith
still_less stage n = omega arith

module _ (less : TurnsOweLess) (p : Program) (lay : Constants) (g : Graph) (b : Book) (order : List Said) (x : Board) (s t : Contents) (actors : ℕ → Actor)
    (small : p.config.nursery ≤ 65536) (blocks : p.config.blocks ≤ 65536) (few : lay.fragments ≤ 2048) (bo : IsBoarded p lay g b order x (words_of s) actors)
    (k : ℕ) (m n : Mutating) (program : m.program ≡ p) (is : actors k ≡ actor_of m) (sane : IsSane p lay (actors k)) (going : leave_of m.stage ≡ None) where
  owes_less : TakesTurn lay Led m s n t → owed_by lay n < owed_by lay m
  owes_less (inl e) =
      let none : owed_by lay n ≡ 0 = ap (λ stage. still stage (owed n.program lay (actor_of n))) e.ended in
      let all = still_going m.stage (owed m.program lay (actor_of m)) going in
      let one : owed_at m.program lay (mid_of m.stage) ≡ 1 = ap (λ stage. owed_at m.program lay (mid_of stage)) e.between in
      omega arith
  owes_less (inr h) =
      let turn = h.1 in
      let all = still_going m.stage (owed m.program lay (actor_of m)) going in
      let rest = still_less n.stage (owed n.program lay (actor_of n)) in
      let at = subst (λ (a : Actor). IsTurn p lay a turn.steps (actor_of n)) (sym is)
      (subst (λ (q : Program). IsTurn q lay (actor_of m) turn.steps (actor_of n)) program turn.turn) in
      let l = less p lay g b order x (words_of s) actors small blocks few bo k turn.steps (actor_of n) sane
      (subst (λ (q : Program). IsSane q lay (actor_of n)) program turn.sane) at turn.led.legal in
      let before : owed m.program lay (actor_of m) ≡ owed p lay (actors k) =
      ap (λ (q : Program). owed q lay (actor_of m)) program ∙ ap (owed p lay) (sym is) in
      let behind : owed n.program lay (actor_of n) ≡ owed p lay (actor_of n) = ap (λ (q : Program). owed q lay (actor_of n)) (h.0.same.program ∙ program) in
      omega arith

  pub all_owe_less : (ms : List Mutating) (i : ℕ) → i < length ms → m ≡ get_or ms i m → TakesTurn lay Led m s n t → owed_all lay (set ms i n) < owed_all lay ms
  all_owe_less ms i l at takes =
      let e = sum_by-set (owed_by lay) ms i n m l in
      let one = ap (owed_by lay) at in
      let h = owes_less takes in
      omega arith
