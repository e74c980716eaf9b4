use Rattle.std.proofs.Common.{◌≡◌, ◌≤◌, Some}
use Rattle.sg_grammar.specs.declared.order.Place.TheVariants.{Start}
use Rattle.sg_grammar.specs.Order.{depth_of}
use Rattle.sg_grammar.proofs.Runs.{run}
use Rattle.sg_grammar.proofs.Ordered.{said_by}
use Rattle.sg_grammar.proofs.order.order_of.Given as goal

abbrev pub invariant-loop-index : goal.invariant-loop-index
invariant-loop-index l = record {
  read : run (Some Start) (said_by l.lines l.index) ≡ Some l.place;
  depth : depth_of l.place ≤ l.index;
}
