use Rattle.std.proofs.Common.{◌≤◌, length}
use Rattle.sg_los.specs.Pages.{SetsPages}
use Rattle.sg_los.proofs.pages.set_pages.Given as goal

abbrev pub invariant-loop-page : goal.invariant-loop-page
invariant-loop-page l = record {
  within : l.end ≤ length l.space.pages;
  sets : SetsPages l.fn.space l.from l.page l.word l.space;
}
