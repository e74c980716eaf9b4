-- The space of a stop and the heap that it holds.
use Rattle.std.proofs.Common.{◌≡◌, ℕ, ◌<◌, ap, arith}
use Rattle.sg_words.specs.declared.layout.Layout.{Layout as Sections}
use Rattle.sg_program.specs.declared.program.Program.{Program}
use Rattle.sg_graph.specs.Graph.{Mutator, Graph}
use Rattle.sg_graph.specs.Book.{Book}
use Rattle.sg_space.specs.Space.{Contents}
use Rattle.sg_heap.specs.Holding.{HoldsHeap}
use Rattle.sg_placing.specs.Placing.{EndsInside, HasByteAddresses}

-- its fragments end in the nursery, and begin at words of it
pub ends_of_heap : (p : Program) (s : Contents) (g : Graph) (b : Book) → HoldsHeap p s g b → EndsInside s
ends_of_heap p s g b holds f l =
    let there : f < b.fragments = omega (arith, holds.0.fragments) in
    let nursery : s.layout.nursery ≡ p.config.nursery = ap (λ (l : Sections). l.nursery) holds.0.layout in
    let inside = (holds.1.1.laid.fragments.inside f there).2 in
    omega (arith, holds.0.limit f there)

pub addresses_of_heap : (p : Program) (s : Contents) (g : Graph) (b : Book) → HoldsHeap p s g b → HasByteAddresses s
addresses_of_heap p s g b holds f l =
    let there : f < b.fragments = omega (arith, holds.0.fragments) in
    let inside = (holds.1.1.laid.fragments.inside f there).0 in
    (omega (arith, holds.0.next f there), omega (arith, holds.0.next f there))

-- the heap doesn't depend on what mutators have
pub heap_on : (p : Program) (s : Contents) (g : Graph) (b : Book) (mutator : ℕ → Mutator) → HoldsHeap p s g b → HoldsHeap p s (record g { mutator = mutator }) b
heap_on p s g b mutator holds = let laid = holds.1.1.laid in let settled = holds.1.2 in (
  holds.0,
  (
    holds.1.0,
    record {
      laid = record {
        nothing = laid.nothing;
        objects = laid.objects;
        fields = record { holds = laid.fields.holds; known = laid.fields.known; sorted = laid.fields.sorted };
        globals = record { holds = laid.globals.holds; known = laid.globals.known; empty = laid.globals.empty };
        clear = laid.clear;
        fragments = laid.fragments;
        buffers = laid.buffers;
      };
      headed = holds.1.1.headed;
    },
    record {
      blocks = settled.blocks;
      settled = settled.settled;
      inhabited = settled.inhabited;
      owes = settled.owes;
      cards = record { dirty = settled.cards.dirty };
    },
  ),
)
