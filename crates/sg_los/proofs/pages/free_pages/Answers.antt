use Rattle.std.proofs.Common.{◌≡◌, ℕ, ◌-◌, ◌/◌, ap, subst, ◌∙◌, arith}
use Rattle.sg_words.specs.Address.{word_at}
use Rattle.sg_words.specs.Sections.{large_base}
use Rattle.sg_space.specs.Standing.{page_base}
use Rattle.sg_los.specs.Pages.{SetsPages, IsLargeRun}
use Rattle.sg_los.proofs.Runs.{frees_run}
use Rattle.sg_los.proofs.pages.free_pages.Goals as goal

pub returns : goal.returns
returns c = record {
  frees = λ q is.
      let s = c.args.space.now in
      let e = c.run_end-end.result in
      let mid = c.clear.new.self in
      let new = c.set_pages.new.space in
      let p = (c.word.result - c.large_word.result) / 128 in
      let base : c.large_word.result ≡ large_base s.layout = c.large_word.ensures ∙ ap large_base c.layout.ensures.layout in
      let at : word_at c.args.at ≡ page_base s.layout q = omega (arith, is) in
      let number : c.word.result ≡ page_base s.layout q = c.word.ensures.value ∙ at in
      let same : p ≡ q = omega (arith, base, number) in
      let run : IsLargeRun s q e = subst (λ (k : ℕ). IsLargeRun s k e) same c.run_end-end.ensures in
      let sets : SetsPages mid q e 0 new = subst (λ (k : ℕ). SetsPages mid k e 0 new) same c.set_pages.ensures in
      frees_run s mid new q e run
      (λ y from to. c.clear.ensures.zero y (omega (arith, at, from)) (omega (arith, at, same, to)))
      (λ y out. c.clear.ensures.others y (λ from to. out (omega (arith, at, from)) (omega (arith, at, same, to))))
      c.clear.ensures.still c.clear.ensures.length sets;
}
