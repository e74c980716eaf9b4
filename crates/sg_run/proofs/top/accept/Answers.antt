use Rattle.sg_run.proofs.Classes.{can_run}
use Rattle.sg_run.proofs.Refused.{is_cause, is_told, no_other}
use Rattle.sg_run.proofs.top.accept.Goals as goal

-- src/top.rt:172:25
pub returns-in-Err : goal.returns-in-Err
returns-in-Err c = record {
  found = tt;
  cause = is_cause c.args.bytes.now c.in-Err.refusal (c.is_memory.ensures c.if-is_memory.false) c.in-Err.ensures.refused;
  told = is_told c.in-Err.refusal (c.is_memory.ensures c.if-is_memory.false);
  none = λ a. c.in-Err.ensures.wrong (c.is_memory.ensures c.if-is_memory.false) a.0 a.1.reads;
  can = tt;
}

-- src/top.rt:163:1
pub returns-in-Err-check-clause-none : goal.returns-in-Err-check-clause-none
returns-in-Err-check-clause-none c = no_other c.args.bytes.now c.in-Ok.program c.in-Ok.ensures.one c.in-Err-check.ensures.wrong

-- it is read within the limits, and has no misuse
pub returns-in-Ok-check-clause-can : goal.returns-in-Ok-check-clause-can
returns-in-Ok-check-clause-can c = can_run c.items_do_what_is_written.ensures c.built_runs.ensures c.in-Ok.program
    (record { read = c.in-Ok.ensures.known; kinds = c.in-Ok-check.ensures.fine })
