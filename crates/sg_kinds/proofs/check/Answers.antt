use Rattle.std.proofs.Common.{arith, subst}
use Rattle.sg_program.specs.Kinds.{first_kinds, Leads, Misuses}
use Rattle.sg_kinds.specs.Table.{kinds_of}
use Rattle.sg_kinds.proofs.Scripts.{is_there, few, has_operands, not_all, fine_up_to, all_fine}
use Rattle.sg_kinds.proofs.check.Goals as goal
use Rattle.sg_kinds.proofs.check.Goals.{In-Err}

pub walk-requires-clause-few : goal.walk-requires-clause-few
walk-requires-clause-few c =
    few c.args.p.now c.as_slice-script-items.result.now c.loop-k.k c.script-item.result c.as_slice.result.now c.requires
    c.as_slice-script-items.ensures (omega arith) c.script-item.is c.as_slice.ensures

pub walk-requires-clause-operands : goal.walk-requires-clause-operands
walk-requires-clause-operands c =
    has_operands c.args.p.now c.as_slice-script-items.result.now c.loop-k.k c.script-item.result c.as_slice.result.now c.requires
    c.as_slice-script-items.ensures (omega arith) c.script-item.is c.as_slice.ensures

-- the misuse that was found, from the first kinds on
misuse : (c : In-Err) → Misuses first_kinds c.as_slice.result.now c.in-Err.statement
misuse c = subst (λ k. Misuses k c.as_slice.result.now c.in-Err.statement) c.first-table.ensures c.in-Err.ensures.misuse

pub returns-in-Err-clause-wrong : goal.returns-in-Err-clause-wrong
returns-in-Err-clause-wrong c =
    not_all c.as_slice-script-items.result.now c.args.p.now.mutators c.loop-k.k c.script-item.result c.as_slice.result.now c.in-Err.statement
    c.as_slice-script-items.ensures (omega arith) c.script-item.is c.as_slice.ensures (misuse c)

pub returns-in-Err-clause-fault : goal.returns-in-Err-clause-fault
returns-in-Err-clause-fault c = record {
  script = c.script-item.result;
  there = is_there c.args.p.now.mutators c.as_slice-script-items.result.now c.loop-k.k c.script-item.result c.as_slice-script-items.ensures (omega arith) c.script-item.is;
  misuse = subst (λ xs. Misuses first_kinds xs c.in-Err.statement) c.as_slice.ensures (misuse c);
  before = c.loop-k.invariant;
}

pub loop-k-preserved : goal.loop-k-preserved
loop-k-preserved c =
    let leads : Leads first_kinds c.as_slice.result.now (kinds_of c.walk.new.table) =
    subst (λ k. Leads k c.as_slice.result.now (kinds_of c.walk.new.table)) c.first-table.ensures c.in_default.ensures.leads in
    fine_up_to c.as_slice-script-items.result.now c.args.p.now.mutators c.loop-k.k c.script-item.result c.as_slice-script-items.ensures (omega arith) c.script-item.is c.loop-k.invariant
    (kinds_of c.walk.new.table, subst (λ xs. Leads first_kinds xs (kinds_of c.walk.new.table)) c.as_slice.ensures leads)

pub returns-clause-fine : goal.returns-clause-fine
returns-clause-fine c =
    all_fine c.as_slice-script-items.result.now c.args.p.now.mutators c.loop-k.k c.as_slice-script-items.ensures (omega arith) c.loop-k.invariant
