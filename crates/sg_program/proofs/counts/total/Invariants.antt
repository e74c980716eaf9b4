use Rattle.std.proofs.Common.{◌≡◌, take, length}
use Rattle.std.specs.List.{sum_by}
use Rattle.sg_program.specs.declared.program.Script.{Script}
use Rattle.sg_program.specs.Scripts.{written_out}
use Rattle.sg_program.specs.Counts.{capped}
use Rattle.sg_program.proofs.counts.total.Given as goal

abbrev pub invariant-loop-script : goal.invariant-loop-script
invariant-loop-script l = l.sum ≡ capped (sum_by (λ (script : Script). length (written_out script.items)) (take l.script-index l.script-items))
