-- The space of a world and the heap that it holds.
use Rattle.std.proofs.Common.{◌≡◌, ℕ, ◌<◌, ◌≤◌, List, length, get_or, true, inl, inr, refl, ap, sym, ◌∙◌, arith}
use Rattle.sg_words.specs.Sections.{nursery_base}
use Rattle.sg_program.specs.declared.program.Program.{Program}
use Rattle.sg_graph.specs.Graph.{Graph}
use Rattle.sg_graph.specs.Book.{Book}
use Rattle.sg_graph.specs.Invariants.{IsPlain}
use Rattle.sg_space.specs.Space.{Contents, words_of}
use Rattle.sg_frag.specs.Plain.{KeepsSections}
use Rattle.sg_heap.specs.Holding.{HoldsHeap}
use Rattle.sg_order.specs.Rest.{IsHeld}
use Rattle.sg_mutate.specs.Boards.{OccupiesSlots}
use Rattle.sg_mutate.specs.Epochs.{constants_of}

-- its words hold the graph as an epoch opens
pub held_of_heap : (p : Program) (s : Contents) (g : Graph) (b : Book) → IsPlain p g → HoldsHeap p s g b → IsHeld p (constants_of s) (words_of s) g b
held_of_heap p s g b plain holds = record {
  owner = holds.1.0;
  heap = holds.1.1;
  settled = holds.1.2;
  plain = plain;
  number = holds.0.fragments;
  limits = λ f l. omega (arith, holds.0.limit f l);
  nexts = holds.0.next;
  marks = refl;
}

-- and as it ends, the space holds the graph that the words then hold, by the constants with which it opened
pub heap_of_held : (p : Program) (s t : Contents) (g h : Graph) (b c : Book) → KeepsSections s t → t.head ≡ s.head → OccupiesSlots p (words_of t) →
    HoldsHeap p s g b → IsHeld p (constants_of s) (words_of t) h c → HoldsHeap p t h c
heap_of_held p s t g h b c keeps head fits holds held = (
  record {
    layout = keeps.layout ∙ holds.0.layout;
    shapes = keeps.shapes ∙ holds.0.shapes;
    fragments = held.number ∙ sym (ap length keeps.ends);
    same = keeps.next ∙ holds.0.same ∙ sym (ap length keeps.ends);
    next = held.nexts;
    limit = λ f l.
        let there : f < b.fragments = omega (arith, held.number, holds.0.fragments) in
        omega (arith, held.limits f l, holds.0.limit f there, ap (λ (ends : List ℕ). get_or ends f 0) keeps.ends);
    fits = fits;
    pages = λ j. ap (λ (pages : List ℕ). get_or pages j 0) keeps.pages ∙ holds.0.pages j;
    head = head ∙ holds.0.head;
    made = keeps.made ∙ holds.0.made;
    registered = keeps.registered ∙ holds.0.registered;
    pairs = keeps.pairs ∙ holds.0.pairs;
  },
  (held.owner, held.heap, held.settled),
)

-- a standing object with a name has an address in the heap
pub high : (p : Program) (s : Contents) (g : Graph) (b : Book) → HoldsHeap p s g b → (n : ℕ) → 1 ≤ n → b.stands n ≡ true → nursery_base ≤ b.address n
high p s g b holds n l q = elim (holds.1.1.laid.objects.inside n l q) [
  | inl i ↦ i.1
  | inr i ↦ let u = i.1 in omega arith
]
