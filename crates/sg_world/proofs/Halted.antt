-- Whoever is ready as a stop begins is ready behind its pauses.
use Rattle.std.proofs.Common.{◌≡◌, ℕ, Option, Some, None, List, sym, refl, ◌∙◌, subst, inl, inr}
use Rattle.std.specs.List.{AllByRecursion}
use Rattle.std.specs.Prelude.{[], ◌∷◌}
use Rattle.sg_program.specs.declared.program.Statement.{Statement}
use Rattle.sg_program.specs.declared.program.Program.{Program}
use Rattle.sg_graph.specs.declared.reports.MinorReport.{MinorReport}
use Rattle.sg_graph.specs.declared.reports.MajorReport.{MajorReport}
use Rattle.sg_graph.specs.Graph.{Graph, Entry}
use Rattle.sg_graph.specs.Statements.{name_in}
use Rattle.sg_graph.specs.Book.{Book, swept_out}
use Rattle.sg_graph.specs.Invariants.{IsPlain}
use Rattle.sg_graph.specs.Laws.{KeepsPointedInto, KeepsInMajor}
use Rattle.sg_graph.specs.Stop.{Asked, MakesMinor, MakesMajor, MakesRoom}
use Rattle.sg_space.specs.Space.{Contents, words_of}
use Rattle.sg_heap.specs.Holding.{HoldsHeap}
use Rattle.sg_placing.specs.declared.placing.Room.{Room}
use Rattle.sg_rules.specs.Rules.{Actor, owning}
use Rattle.sg_order.specs.Rest.{IsReady}
use Rattle.sg_order.specs.Serving.{StaysPut, StaysReady}
use Rattle.sg_order.specs.Held.{HeldIsSound}
use Rattle.sg_mutate.specs.Epochs.{constants_of}
use Rattle.sg_world.specs.Steps.{HasHalted}
use Rattle.sg_world.proofs.Heaps.{held_of_heap, high}
use Rattle.sg_world.proofs.Paused.{AreAmong, minor_leaves, major_leaves, ready_paused}

-- sweeping moves nothing
all_stay : (g : Graph) (b : Book) (stack : List Entry) → AllByRecursion (λ (entry : Entry). StaysPut g b g (swept_out b) (name_in entry)) stack
all_stay g b [] = tt
all_stay g b (entry ∷ stack) = (record { stands = λ q. q; address = λ q. refl; size = λ q. refl }, all_stay g b stack)

ready_swept : StaysReady → (p : Program) (g : Graph) (b : Book) (k : ℕ) (a : Actor) (script : List Statement) → IsReady p g b k a script →
    IsReady p g (swept_out b) k a script
ready_swept stays p g b k a script r =
    subst (λ x. IsReady p g (swept_out b) k x script) (λ i. owning a (sym r.from_is i) (sym r.to_is i))
    (stays p g g b (swept_out b) k a script r (record { register = refl; stack = refl; script = refl; asleep = λ e. r.script_is ∙ r.asleep e })
    (record { registers = λ q. record { stands = λ e. e; address = λ e. refl; size = λ e. refl }; stack = all_stay g b (g.mutator k).stack }))

among_owning : (words : List ℕ) (a : Actor) → AreAmong words a → AreAmong words (owning a 0 0)
among_owning words a among = record { registers = among.registers; stack = among.stack }

module _ (keeps : KeepsPointedInto) (keeps_major : KeepsInMajor) (stays : StaysReady) (is_sound : HeldIsSound) (p : Program) (g : Graph) (plain : IsPlain p g)
    (words : List ℕ) (requests : List Asked) (k : ℕ) where
  -- behind a minor pause no buffer is left
  behind_minor : (s : Contents) (b c : Book) (report : MinorReport) (a : Actor) (script : List Statement) → HoldsHeap p s g b →
      MakesMinor p g b words requests (Some report) g c → AreAmong words a → IsReady p g b k a script → IsReady p g c k (owning a 0 0) script
  behind_minor s b c report a script heap makes among r =
      let sound = is_sound p (constants_of s) (words_of s) g b (held_of_heap p s g b plain heap) in
      ready_paused p g b words c (minor_leaves keeps p g b words report c sound makes.1) (high p s g b heap) stays k a script among r

  behind_major : (s : Contents) (b c : Book) (minor : MinorReport) (report : Option MajorReport) (a : Actor) (script : List Statement) → HoldsHeap p s g b →
      MakesMajor p g b words requests (Some minor) report g c → AreAmong words a → IsReady p g b k (owning a 0 0) script →
      IsReady p g c k (owning a 0 0) script
  behind_major s b c minor (Some report) a script heap makes among r =
      ready_paused p g b words c (major_leaves keeps_major p g b words report c makes.1) (high p s g b heap) stays k (owning a 0 0) script
      (among_owning words a among) r
  behind_major s b c minor None a script heap makes among r = subst (λ (x : Book). IsReady p g x k (owning a 0 0) script) (sym makes.2) r

  behind_room : (b c : Book) (report : Option MajorReport) (a : Actor) (script : List Statement) → MakesRoom p g b requests report c →
      IsReady p g b k a script → IsReady p g c k a script
  behind_room b c None a script makes r = subst (λ (x : Book). IsReady p g x k a script) (sym makes) r
  behind_room b c (Some report) a script makes r = elim makes [
    | inl swept ↦ subst (λ (x : Book). IsReady p g x k a script) (sym swept.1) (ready_swept stays p g b k a script r)
    | inr still ↦ subst (λ (x : Book). IsReady p g x k a script) (sym still.1) r
  ]

  module _ (b : Book) (major : Option MajorReport) (room : Room) (v : Contents) where
    pub ready_with : (minor : MinorReport) (halted : HasHalted p g b words requests (Some minor) major room v) (a : Actor) (script : List Statement) →
        AreAmong words a → IsReady p g b k a script → IsReady p g halted.book k (owning a 0 0) script
    ready_with minor halted a script among r =
        behind_room halted.major_book halted.book major (owning a 0 0) script halted.makes_room
        (behind_major halted.minor_space halted.minor_book halted.major_book minor major a script halted.minor_heap halted.makes_major among
        (behind_minor halted.begun (swept_out b) halted.minor_book minor a script halted.begun_heap halted.makes_minor among
        (ready_swept stays p g b k a script r)))

    no_major : (c d : Book) (report : Option MajorReport) → MakesMajor p g c words requests None report g d → d ≡ c
    no_major c d (Some report) makes = absurd makes
    no_major c d None makes = makes.1

    pub ready_without : (halted : HasHalted p g b words requests None major room v) (a : Actor) (script : List Statement) → IsReady p g b k a script →
        IsReady p g halted.book k a script
    ready_without halted a script r =
        behind_room halted.major_book halted.book major a script halted.makes_room
        (subst (λ (x : Book). IsReady p g x k a script) (sym (no_major halted.minor_book halted.major_book major halted.makes_major ∙ halted.makes_minor.2))
        (ready_swept stays p g b k a script r))
