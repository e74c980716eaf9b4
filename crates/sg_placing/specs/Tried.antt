-- What the tests are about: a program whose objects have plain fields, and a space in which its statements can be answered.
use Rattle.std.specs.Prelude.{[], ◌∷◌}
use Rattle.sg_desc.specs.declared.shapes.Descriptor.TheVariants.{PtrFree, VectorPlain}
use Rattle.sg_program.specs.declared.program.Program.{Program}
use Rattle.sg_graph.specs.Graph.{Graph}
use Rattle.sg_graph.specs.Book.{Book}
use Rattle.sg_graph.specs.Invariants.{IsPlain}
use Rattle.sg_space.specs.Space.{Contents, IsContents}
use Rattle.sg_heap.specs.Holding.{HoldsHeap, OwesNothing}

-- a nursery of 256 words, two blocks, a class of vectors and one of objects with two fields, both without a name, and no mutator
abbrev pub tried : Program
tried = record {
  config = record { nursery = 256; blocks = 2; pages = 0; buffer = 16; workers = 1; cement = 1 };
  classes = record { name = []; shape = record { fields = 0; kind = VectorPlain } }
      ∷ record { name = []; shape = record { fields = 2; kind = PtrFree } } ∷ [];
  mutators = [];
}

-- the space holds a plain graph of the program by a book that owes no block
pub record CanAnswer (s : Contents) : Type 0 where
  pub contents : IsContents s
  pub graph : Graph
  pub book : Book
  pub heap : HoldsHeap tried s graph book
  pub plain : IsPlain tried graph
  pub unowed : OwesNothing tried book
