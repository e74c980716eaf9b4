use Rattle.std.proofs.Common.{◌≡◌, ◌≢◌, ◌+◌, ◌<◌, refl, subst, sym, rules, arith}
use Rattle.sg_words.specs.declared.steps.BlockWord.TheVariants.{Free, Swept}
use Rattle.sg_slots.specs.Looks.{IsFull, IsLowest}
use Rattle.sg_slots.proofs.Looking.{HasPassed, passed_none, may_used, passes_other, passes_full, finds_free, finds_slot, finds_none}
use Rattle.sg_slots.proofs.search.find.Goals.{then-eq-2+in_default, else-eq-2}
use Rattle.sg_slots.proofs.search.find.Goals as goal

pub loop-block-init : goal.loop-block-init
loop-block-init g c = record { passed = passed_none g.P.Port.leads g.P.Port.sees c.args.size c.args.from c.args.port.now; none = λ l. refl }

pub returns-then-eq : goal.returns-then-eq
returns-then-eq g c =
    let saw : c.block-word.result ≡ Free = search rules in
    let there = subst (λ n. c.loop-block.block < n) c.blocks-blocks.ensures c.loop-block-test.true in
    finds_free g.P.Port.leads g.P.Port.sees c.args.size c.args.from c.args.port.now c.loop-block.block c.loop-block.port c.loop-block.invariant.passed
    (g.P.BlockPort.blocks c.args.port.now) there
    c.block-word.new.self c.block-word.result saw c.block-word.ensures.led c.block-word.ensures.seen

pub used-requires : goal.used-requires
used-requires g c =
    let saw : c.block-word.result ≡ Swept c.args.size = search rules in
    let there = subst (λ n. c.loop-block.block < n) c.blocks-blocks.ensures c.loop-block-test.true in
    record {
      may = may_used g.P.Port.leads g.P.Port.sees c.args.size c.args.from c.args.port.now c.loop-block.block c.loop-block.port c.loop-block.invariant.passed
          g.P.Port.may (g.P.BlockPort.blocks c.args.port.now)
          c.requires.may there c.block-word.new.self c.block-word.result saw c.block-word.ensures.led c.block-word.ensures.seen;
    }

pub returns-in-Some : goal.returns-in-Some
returns-in-Some g c =
    let saw : c.block-word.result ≡ Swept c.args.size = search rules in
    let there = subst (λ n. c.loop-block.block < n) c.blocks-blocks.ensures c.loop-block-test.true in
    let low = subst (λ n. IsLowest c.used.result n c.in-Some.slot) c.slots-slots.ensures c.in-Some.ensures in
    finds_slot g.P.Port.leads g.P.Port.sees c.args.size c.args.from c.args.port.now c.loop-block.block c.loop-block.port c.loop-block.invariant.passed
    (g.P.BlockPort.blocks c.args.port.now) there
    c.block-word.new.self c.used.new.self c.block-word.result c.used.result c.in-Some.slot saw low c.block-word.ensures.led c.block-word.ensures.seen
    c.used.ensures.led c.used.ensures.seen

pub loop-block-preserved : goal.loop-block-preserved
loop-block-preserved g c = record {
  passed = elim c.if-eq-2.branch [
    | then-eq-2+in_default w ↦
        let saw : c.block-word.result ≡ Swept c.args.size = search rules in
        let full : IsFull w.used.result c.slots-slots.result = search rules in
        subst (λ q. HasPassed g.P.Port.leads g.P.Port.sees c.args.size c.args.from (c.loop-block.block + 1) c.args.port.now q) (sym w.port-is)
        (passes_full g.P.Port.leads g.P.Port.sees c.args.size c.args.from c.args.port.now c.loop-block.block c.loop-block.port c.loop-block.invariant.passed
        c.block-word.new.self w.used.new.self
        c.block-word.result w.used.result saw (subst (λ n. IsFull w.used.result n) c.slots-slots.ensures full) c.block-word.ensures.led
        c.block-word.ensures.seen w.used.ensures.led w.used.ensures.seen)
    | else-eq-2 w ↦
        let not_free : c.block-word.result ≢ Free = search rules in
        let other : c.block-word.result ≢ Swept c.args.size = search rules in
        subst (λ q. HasPassed g.P.Port.leads g.P.Port.sees c.args.size c.args.from (c.loop-block.block + 1) c.args.port.now q) (sym w.port-is)
        (passes_other g.P.Port.leads g.P.Port.sees c.args.size c.args.from c.args.port.now c.loop-block.block c.loop-block.port c.loop-block.invariant.passed
        c.block-word.new.self
        c.block-word.result not_free other c.block-word.ensures.led c.block-word.ensures.seen)
  ];
  none = λ l. let from = c.loop-block.auto.block in let there = c.loop-block-test.true in absurd (omega arith);
}

pub returns : goal.returns
returns g c =
    let from = c.loop-block.auto.block in
    let end = c.loop-block.auto.block-end in
    let e = c.blocks-blocks.ensures in
    let over = c.loop-block-test.false in
    finds_none g.P.Port.leads g.P.Port.sees c.args.size c.args.from c.args.port.now
    (g.P.BlockPort.blocks c.args.port.now) c.loop-block.block c.loop-block.port c.loop-block.invariant.passed
    (omega arith) (λ l. omega arith) (λ l. c.loop-block.invariant.none (omega arith))
