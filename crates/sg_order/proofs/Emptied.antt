-- A field without a content.
use Rattle.std.proofs.Common.{cond, Bool, true, false}
use Rattle.sg_graph.specs.Graph.{Entry, Ref, Int}
use Rattle.sg_graph.specs.Heap.{IsOfSort}

pub of_sort_empty : (sort : Bool) → IsOfSort sort (cond sort (Ref 0) (Int 0))
of_sort_empty true = tt
of_sort_empty false = tt

pub empty_cond : (P : Entry → Type 0) (sort : Bool) → P (Ref 0) → P (Int 0) → P (cond sort (Ref 0) (Int 0))
empty_cond P true r i = r
empty_cond P false r i = i
