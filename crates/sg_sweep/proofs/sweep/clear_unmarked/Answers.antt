use Rattle.std.proofs.Common.{◌≡◌, ℕ, ◌+◌, ◌<◌, ◌≤◌, List, subst, sym, ◌∙◌, inl, inr, arith, Fits, w32}
use Rattle.std.proofs.lemmas.Nat.Bits.{shr_and_one}
use Rattle.std.specs.Int.{bit_at}
use Rattle.sg_words.specs.declared.steps.Step.{Step}
use Rattle.sg_words.specs.Blocks.{slots as slots_of, slot_from}
use Rattle.sg_words.specs.Sweeps.{zero_steps}
use Rattle.sg_words.proofs.Blocks.{class_slots, bit_cases}
use Rattle.sg_cells.specs.Made.{Makes, makes_lead}
use Rattle.sg_cells.specs.Allowed.{MayMake}
use Rattle.sg_sweep.specs.Sweeping.{clear_steps, unmarked}
use Rattle.sg_sweep.proofs.Clearing.{HasCleared, cleared_slot, kept_slot, may_slot, unmarked_most}
use Rattle.sg_sweep.proofs.sweep.clear_unmarked.Given.{Over}
use Rattle.sg_sweep.proofs.sweep.clear_unmarked.Goals.{then-marks-slot-eq0, else-marks-slot-eq0}
use Rattle.sg_sweep.proofs.sweep.clear_unmarked.Goals as goal

-- no step changes where the major heap begins, nor how many blocks there are
module _ (g : Over) (p q : g.row.P.Denot) (es : List Step) (made : Makes g.P.Port.leads g.P.Port.sees p es q) where
  led : g.P.Port.leads p es q
  led = makes_lead g.P.Port.leads g.P.Port.sees g.P.Port.stays g.P.Port.chains p es q made

  same_heap : g.P.SweepPort.heap q ≡ g.P.SweepPort.heap p
  same_heap = (g.met.P.SweepPort.fixed_sweep p q es led).1

  same_blocks : g.P.BlockPort.blocks q ≡ g.P.BlockPort.blocks p
  same_blocks = g.met.P.BlockPort.fixed_blocks p q es led

few_freed : (size marks slot freed : ℕ) → slots_of size ≤ 64 → slot < slots_of size → freed ≡ unmarked marks slot → Fits w32 (freed + 1)
few_freed size marks slot freed most l e = let h = unmarked_most marks slot in omega arith

pub zero_slot-requires-clause-there : goal.zero_slot-requires-clause-there
zero_slot-requires-clause-there g c =
    subst (λ n. c.args.block < n) (sym (same_blocks g c.args.port.now c.loop-slot.port (clear_steps (g.P.SweepPort.heap c.args.port.now) c.args.block c.args.size c.args.marks c.loop-slot.slot) c.loop-slot.invariant.made)) c.requires.there

pub zero_slot-requires-clause-may : goal.zero_slot-requires-clause-may
zero_slot-requires-clause-may g c =
    let clear : bit_at c.args.marks c.loop-slot.slot ≡ 0 = sym (shr_and_one c.args.marks c.loop-slot.slot) ∙ c.if-marks-slot-eq0.true in
    let within = subst (λ n. c.loop-slot.slot < n) c.slots-slot-end.ensures c.loop-slot-test.true in
    subst (λ heap. MayMake g.P.Port.leads g.P.Port.sees g.P.Port.may c.loop-slot.port (zero_steps (slot_from heap c.args.block c.args.size c.loop-slot.slot) c.args.size))
    (sym (same_heap g c.args.port.now c.loop-slot.port (clear_steps (g.P.SweepPort.heap c.args.port.now) c.args.block c.args.size c.args.marks c.loop-slot.slot) c.loop-slot.invariant.made))
    (may_slot g.P.Port.leads g.P.Port.sees (g.P.SweepPort.heap c.args.port.now) c.args.block c.args.size c.args.marks c.args.port.now c.loop-slot.slot
    c.loop-slot.freed c.loop-slot.port c.loop-slot.invariant g.P.Port.may (slots_of c.args.size) within c.requires.may clear)

pub overflow_add-freed : goal.overflow_add-freed
overflow_add-freed g c =
    few_freed c.args.size c.args.marks c.loop-slot.slot c.loop-slot.freed (class_slots c.args.size c.requires.class).1
    (subst (λ n. c.loop-slot.slot < n) c.slots-slot-end.ensures c.loop-slot-test.true) c.loop-slot.invariant.count

pub loop-slot-preserved : goal.loop-slot-preserved
loop-slot-preserved g c = elim c.if-marks-slot-eq0.branch [
  | then-marks-slot-eq0 w ↦
      let clear : bit_at c.args.marks c.loop-slot.slot ≡ 0 = sym (shr_and_one c.args.marks c.loop-slot.slot) ∙ w.if-marks-slot-eq0.true in
      let made = subst (λ heap. Makes g.P.Port.leads g.P.Port.sees c.loop-slot.port (zero_steps (slot_from heap c.args.block c.args.size c.loop-slot.slot) c.args.size) w.zero_slot.new.self)
      (same_heap g c.args.port.now c.loop-slot.port (clear_steps (g.P.SweepPort.heap c.args.port.now) c.args.block c.args.size c.args.marks c.loop-slot.slot) c.loop-slot.invariant.made) w.zero_slot.ensures in
      subst (λ q. HasCleared g.P.Port.leads g.P.Port.sees (g.P.SweepPort.heap c.args.port.now) c.args.block c.args.size c.args.marks (c.loop-slot.slot + 1)
      c.if-marks-slot-eq0.freed c.args.port.now q) (sym w.port-is)
      (subst (λ n. HasCleared g.P.Port.leads g.P.Port.sees (g.P.SweepPort.heap c.args.port.now) c.args.block c.args.size c.args.marks (c.loop-slot.slot + 1)
      n c.args.port.now w.zero_slot.new.self) (sym w.freed-is)
      (cleared_slot g.P.Port.leads g.P.Port.sees (g.P.SweepPort.heap c.args.port.now) c.args.block c.args.size c.args.marks c.args.port.now c.loop-slot.slot
      c.loop-slot.freed c.loop-slot.port c.loop-slot.invariant w.zero_slot.new.self clear made))
  | else-marks-slot-eq0 w ↦
      let set : bit_at c.args.marks c.loop-slot.slot ≡ 1 = elim (bit_cases c.args.marks c.loop-slot.slot) [
        | inl b ↦ b
        | inr b ↦ absurd (w.if-marks-slot-eq0.false (shr_and_one c.args.marks c.loop-slot.slot ∙ b))
      ] in
      subst (λ q. HasCleared g.P.Port.leads g.P.Port.sees (g.P.SweepPort.heap c.args.port.now) c.args.block c.args.size c.args.marks (c.loop-slot.slot + 1)
      c.if-marks-slot-eq0.freed c.args.port.now q) (sym w.port-is)
      (subst (λ n. HasCleared g.P.Port.leads g.P.Port.sees (g.P.SweepPort.heap c.args.port.now) c.args.block c.args.size c.args.marks (c.loop-slot.slot + 1)
      n c.args.port.now c.loop-slot.port) (sym w.freed-is)
      (kept_slot g.P.Port.leads g.P.Port.sees (g.P.SweepPort.heap c.args.port.now) c.args.block c.args.size c.args.marks c.args.port.now c.loop-slot.slot
      c.loop-slot.freed c.loop-slot.port c.loop-slot.invariant set))
]

pub returns-clause-made : goal.returns-clause-made
returns-clause-made g c =
    let end : c.loop-slot.slot ≡ slots_of c.args.size = let over = c.loop-slot-test.false in let most = c.loop-slot.auto.slot-end in let e = c.slots-slot-end.ensures in omega arith in
    subst (λ n. Makes g.P.Port.leads g.P.Port.sees c.args.port.now (clear_steps (g.P.SweepPort.heap c.args.port.now) c.args.block c.args.size c.args.marks n)
    c.loop-slot.port) end c.loop-slot.invariant.made

pub returns-clause-freed : goal.returns-clause-freed
returns-clause-freed g c =
    let end : c.loop-slot.slot ≡ slots_of c.args.size = let over = c.loop-slot-test.false in let most = c.loop-slot.auto.slot-end in let e = c.slots-slot-end.ensures in omega arith in
    subst (λ n. c.loop-slot.freed ≡ unmarked c.args.marks n) end c.loop-slot.invariant.count
