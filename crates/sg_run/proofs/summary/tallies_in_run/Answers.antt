use Rattle.std.proofs.Common.{◌≡◌, ℕ, ◌<◌, ◌≤◌, ◌^◌, List, [], ◌∷◌, ◌++◌, length, refl, sym, ap, ◌∙◌, subst, arith, append_assoc}
use Rattle.std.specs.List.{AllByRecursion}
use Rattle.sg_words.specs.Schedule.{Schedule}
use Rattle.sg_graph.specs.Run.{Phase, Epoch, Stop, IsRun}
use Rattle.sg_load.specs.declared.summary.Tally.{Tally}
use Rattle.sg_load.specs.Summary.{answers_in_parts, answers_in_services, counted_from, tallies_of}
use Rattle.sg_world.specs.Worlds.{IsBetween}
use Rattle.sg_run.proofs.Texts.{run_between, run_epoch, whole_of, at_stop_of}
use Rattle.sg_run.proofs.Tallied.{few, few_more}
use Rattle.sg_run.proofs.summary.tallies_in_run.Goals as goal

pub loop-order-init : goal.loop-order-init
loop-order-init c = (
  [],
  subst (λ (s : Schedule). IsBetween c.args.program.now [] [] c.in_ok-world.world s) (sym c.in_ok-order.ensures) (c.in_ok-world.ensures []),
  refl,
  (omega arith, (omega arith, (omega arith, (omega arith, tt)))),
)

pub count_epoch-requires-clause-few : goal.count_epoch-requires-clause-few
count_epoch-requires-clause-few c =
    let p = c.args.program.now in
    let i = c.loop-order.invariant in
    let run = c.runs_by_turns.ensures.run p [] i.0 (run_between p [] i.0 c.loop-order.world c.loop-order.order i.1) in
    subst (AllByRecursion (λ (tally : Tally). tally.statements ≤ 2 ^ 32)) (sym i.2) (few c.answers_are_counted.ensures p c.requires.can c.requires.four i.0 run)

pub count_epoch-requires-clause-short : goal.count_epoch-requires-clause-short
count_epoch-requires-clause-short c = λ k l.
    let p = c.args.program.now in
    let i = c.loop-order.invariant in
    let report = c.in_ok-after.report in
    let comes = c.in_ok-after.ensures.comes p [] i.0 i.1 in
    let run = c.runs_by_turns.ensures.run p [] (i.0 ++ Epoch report comes.0 comes.1 ∷ []) (run_epoch p [] i.0 report c.in_ok-after.after c.epoch.new.order comes) in
    let long = ap length i.2 in
    few_more c.answers_are_counted.ensures p c.requires.can c.requires.four i.0 (Epoch report comes.0 comes.1) k (omega (arith, l, long)) run

-- the epoch was the last one
pub returns-then-report : goal.returns-then-report
returns-then-report c =
    let p = c.args.program.now in
    let i = c.loop-order.invariant in
    let report = c.in_ok-after.report in
    let comes = c.in_ok-after.ensures.comes p [] i.0 i.1 in (
      i.0 ++ Epoch report comes.0 comes.1 ∷ [],
      whole_of p [] i.0 report c.in_ok-after.after c.epoch.new.order comes c.if-report.true,
      c.count_epoch.ensures.counted ∙ ap (λ (ts : List Tally). counted_from 0 ts (λ k. answers_in_parts k report.parts)) i.2
          ∙ sym (c.answers_are_counted.ensures.added i.0 (Epoch report comes.0 comes.1)),
    )

pub stop-requires : goal.stop-requires
stop-requires c =
    let p = c.args.program.now in
    let i = c.loop-order.invariant in
    let report = c.in_ok-after.report in
    let comes = c.in_ok-after.ensures.comes p [] i.0 i.1 in (
      p,
      [],
      i.0,
      report,
      comes.0,
      comes.1,
      c.epoch.new.order,
      at_stop_of p [] i.0 report c.in_ok-after.after c.epoch.new.order comes c.if-report.false,
    )

pub count_stop-requires-clause-few : goal.count_stop-requires-clause-few
count_stop-requires-clause-few c =
    let p = c.args.program.now in
    let i = c.loop-order.invariant in
    let report = c.in_ok-after.report in
    let comes = c.in_ok-after.ensures.comes p [] i.0 i.1 in
    let phases = i.0 ++ Epoch report comes.0 comes.1 ∷ [] in
    let run = c.runs_by_turns.ensures.run p [] phases (run_epoch p [] i.0 report c.in_ok-after.after c.epoch.new.order comes) in
    let tallies : c.count_epoch.new.tallies ≡ tallies_of phases =
    c.count_epoch.ensures.counted ∙ ap (λ (ts : List Tally). counted_from 0 ts (λ k. answers_in_parts k report.parts)) i.2
    ∙ sym (c.answers_are_counted.ensures.added i.0 (Epoch report comes.0 comes.1)) in
    subst (AllByRecursion (λ (tally : Tally). tally.statements ≤ 2 ^ 32)) (sym tallies) (few c.answers_are_counted.ensures p c.requires.can c.requires.four phases run)

pub count_stop-requires-clause-short : goal.count_stop-requires-clause-short
count_stop-requires-clause-short c = λ k l.
    let p = c.args.program.now in
    let i = c.loop-order.invariant in
    let report = c.in_ok-after.report in
    let stop = c.in_ok-next.stop in
    let comes = c.in_ok-after.ensures.comes p [] i.0 i.1 in
    let epoch = Epoch report comes.0 comes.1 in
    let t = at_stop_of p [] i.0 report c.in_ok-after.after c.epoch.new.order comes c.if-report.false in
    let between = c.in_ok-next.ensures.between p [] i.0 report comes.0 comes.1 c.epoch.new.order t in
    let run = c.runs_by_turns.ensures.run p [] (i.0 ++ epoch ∷ Stop stop ∷ [])
    (run_between p [] (i.0 ++ epoch ∷ Stop stop ∷ []) c.in_ok-next.next c.epoch.new.order between) in
    let long = ap length c.count_epoch.ensures.counted ∙ ap (λ (ts : List Tally). length (counted_from 0 ts (λ j. answers_in_parts j report.parts))) i.2 in
    few_more c.answers_are_counted.ensures p c.requires.can c.requires.four (i.0 ++ epoch ∷ []) (Stop stop) k (omega (arith, l, long))
    (subst (IsRun p) (sym (append_assoc i.0 (epoch ∷ []) (Stop stop ∷ []))) run)

pub loop-order-preserved : goal.loop-order-preserved
loop-order-preserved c =
    let p = c.args.program.now in
    let i = c.loop-order.invariant in
    let report = c.in_ok-after.report in
    let stop = c.in_ok-next.stop in
    let comes = c.in_ok-after.ensures.comes p [] i.0 i.1 in
    let epoch = Epoch report comes.0 comes.1 in
    let t = at_stop_of p [] i.0 report c.in_ok-after.after c.epoch.new.order comes c.if-report.false in
    let tallies : c.count_epoch.new.tallies ≡ tallies_of (i.0 ++ epoch ∷ []) =
    c.count_epoch.ensures.counted ∙ ap (λ (ts : List Tally). counted_from 0 ts (λ k. answers_in_parts k report.parts)) i.2
    ∙ sym (c.answers_are_counted.ensures.added i.0 epoch) in (
      i.0 ++ epoch ∷ Stop stop ∷ [],
      c.in_ok-next.ensures.between p [] i.0 report comes.0 comes.1 c.epoch.new.order t,
      c.count_stop.ensures.counted ∙ ap (λ (ts : List Tally). counted_from 0 ts (λ k. answers_in_services k stop.served)) tallies
          ∙ sym (c.answers_are_counted.ensures.added (i.0 ++ epoch ∷ []) (Stop stop)) ∙ ap tallies_of (append_assoc i.0 (epoch ∷ []) (Stop stop ∷ [])),
      c.count_stop.ensures.low,
    )
