use Rattle.std.proofs.Common.{◌≡◌, ℕ, List, get_or, set, ap, ◌∙◌}
use Rattle.sg_program.specs.declared.answers.Answer.{Answer}
use Rattle.sg_load.specs.declared.summary.Tally.{Tally}
use Rattle.sg_load.specs.Summary.{answers_in_services, counted, IsLow, empty_tally}
use Rattle.sg_load.proofs.Counting.{so_counted, so_counted_next, still, all_set}
use Rattle.sg_load.proofs.summary.count_stop.Goals as goal

pub loop-k-preserved : goal.loop-k-preserved
loop-k-preserved c =
    let old : List Tally = c.args.tallies.now in
    let answers : ℕ → List Answer = λ j. answers_in_services j c.args.report.now.served in
    let k = c.loop-k.k in
    let inv = c.loop-k.invariant in
    let l = c.loop-k-test.true in
    let first : get_or c.loop-k.tallies k empty_tally ≡ get_or old k empty_tally =
    ap (λ (ts : List Tally). get_or ts k empty_tally) inv.0 ∙ still answers old k empty_tally l in
    let same : c.count_services.result ≡ counted (get_or old k empty_tally) (answers k) =
    c.count_services.ensures.counted ∙ ap (λ (t : Tally). counted t (answers_in_services k c.as_slice.result.now)) first
    ∙ ap (λ xs. counted (get_or old k empty_tally) (answers_in_services k xs)) c.as_slice.ensures in (
      ap (λ (ts : List Tally). set ts k c.count_services.result) inv.0 ∙ ap (λ (t : Tally). set (so_counted answers old k) k t) same ∙ so_counted_next answers old k empty_tally l,
      all_set IsLow c.loop-k.tallies k c.count_services.result inv.1 c.count_services.ensures.low,
    )
