use Rattle.std.proofs.Common.{length, ap, ◌∙◌}
use Rattle.sg_program.specs.Counts.{capped}
use Rattle.sg_program.specs.Scripts.{written_out}
use Rattle.sg_program.proofs.Weights.{count-all}
use Rattle.sg_program.proofs.counts.script_total.Goals as goal

pub returns : goal.returns
returns c = c.weigh_all.ensures ∙ ap capped (count-all (written_out c.as_slice.result.now)) ∙ ap (λ items. capped (length (written_out items))) c.as_slice.ensures
