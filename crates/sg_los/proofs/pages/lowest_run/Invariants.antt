use Rattle.std.proofs.Common.{◌<◌}
use Rattle.sg_los.proofs.Scanned.{IsCounted, IsPast}
use Rattle.sg_los.proofs.pages.lowest_run.Given as goal

abbrev pub invariant-loop-page : goal.invariant-loop-page
invariant-loop-page l = record {
  few : l.free < l.n;
  counted : IsCounted l.space l.page l.free;
  past : IsPast l.space l.n l.page;
}
