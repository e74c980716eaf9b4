use Rattle.std.proofs.Common.{◌≡◌, take, drop}
use Rattle.sg_graph.specs.Graph.{Graph}
use Rattle.sg_graph.specs.Book.{Book}
use Rattle.sg_placing.specs.Answering.{placing_in}
use Rattle.sg_world.specs.Serving.{MayAllGoOn, HaveGoneOn}
use Rattle.sg_world.proofs.serving.serve_all.Given as goal

-- those so far have gone on, and the rest is as it was
abbrev pub invariant-loop-k : goal.invariant-loop-k
invariant-loop-k l = record {
  served : (g : Graph) (b : Book) → MayAllGoOn l.program l.fn.room g b 0 l.fn.space l.fn.mutators →
      HaveGoneOn l.program (placing_in l.fn.room) g b 0 (take l.k l.fn.mutators) l.served.items l.space (take l.k l.mutators);
  rest : drop l.k l.mutators ≡ drop l.k l.fn.mutators;
  stop : l.space.stop ≡ l.fn.space.stop;
}
