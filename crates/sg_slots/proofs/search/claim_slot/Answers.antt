use Rattle.std.proofs.Common.{◌≡◌, ℕ, ◌<◌, List, sym, ◌∙◌, subst, arith, inl, inr}
use Rattle.std.specs.Int.{bit_at}
use Rattle.std.proofs.lemmas.Nat.Bits.{shr_and_one}
use Rattle.sg_words.specs.declared.steps.Step.{Step}
use Rattle.sg_words.proofs.Blocks.{class_slots, bit_cases}
use Rattle.sg_cells.specs.Made.{makes_lead}
use Rattle.sg_slots.specs.declared.search.Found.TheVariants.{Free as IsFree, Slot, None as NoSlot}
use Rattle.sg_slots.specs.Looks.{MayLook, AreLooks}
use Rattle.sg_slots.proofs.Tries.{HasFoundFree, HasFoundSlot, free_found, slot_found, tries_none}
use Rattle.sg_slots.proofs.Trying.{trying_first, may_look, may_swap, free_smaller, swapped, may_take, slot_smaller, slot_trying, slot_got, none_claims}
use Rattle.sg_slots.proofs.search.claim_slot.Goals.{After-find}
use Rattle.sg_slots.proofs.search.claim_slot.Given.{Over}
use Rattle.sg_slots.proofs.search.claim_slot.Goals as goal

pub loop-block-init : goal.loop-block-init
loop-block-init g c =
    let shows = c.requires.shows in
    trying_first g.P.Port.leads g.P.Port.sees c.args.size (g.P.BlockPort.blocks c.args.port.now) c.args.port.now shows.0 shows.1 shows.2
    (tries_none c.args.size (g.P.BlockPort.blocks c.args.port.now))

pub find-requires-clause-may : goal.find-requires-clause-may
find-requires-clause-may g c =
    let try = c.loop-block.invariant in
    let led = makes_lead g.P.Port.leads g.P.Port.sees g.P.Port.stays g.P.Port.chains c.args.port.now try.es c.loop-block.port try.made in
    let same = g.met.P.BlockPort.fixed_blocks c.args.port.now c.loop-block.port try.es led in
    subst (λ n. MayLook g.P.Port.leads g.P.Port.sees g.P.Port.may c.args.size n c.loop-block.from c.loop-block.port) (sym same)
    (may_look g.P.Port.leads g.P.Port.sees c.args.size (g.P.BlockPort.blocks c.args.port.now) c.loop-block.from c.loop-block.known c.args.port.now
    c.loop-block.port try g.P.Port.may c.requires.may)

same_blocks : (g : Over) (c : goal.After-find g) → g.P.BlockPort.blocks c.loop-block.port ≡ g.P.BlockPort.blocks c.args.port.now
same_blocks g c =
    let try = c.loop-block.invariant in
    g.met.P.BlockPort.fixed_blocks c.args.port.now c.loop-block.port try.es
    (makes_lead g.P.Port.leads g.P.Port.sees g.P.Port.stays g.P.Port.chains c.args.port.now try.es c.loop-block.port try.made)

free_looks : (g : Over) (c : goal.After-find g) (b : ℕ) (es : List Step) →
    AreLooks c.args.size (g.P.BlockPort.blocks c.loop-block.port) c.loop-block.from es (IsFree b) →
    AreLooks c.args.size (g.P.BlockPort.blocks c.args.port.now) c.loop-block.from es (IsFree b)
free_looks g c b es looks = subst (λ n. AreLooks c.args.size n c.loop-block.from es (IsFree b)) (same_blocks g c) looks

slot_looks : (g : Over) (c : goal.After-find g) (b i : ℕ) (es : List Step) →
    AreLooks c.args.size (g.P.BlockPort.blocks c.loop-block.port) c.loop-block.from es (Slot b i) →
    AreLooks c.args.size (g.P.BlockPort.blocks c.args.port.now) c.loop-block.from es (Slot b i)
slot_looks g c b i es looks = subst (λ n. AreLooks c.args.size n c.loop-block.from es (Slot b i)) (same_blocks g c) looks

free : (g : Over) (c : goal.After-find g) (b : ℕ) (es : List Step) → AreLooks c.args.size (g.P.BlockPort.blocks c.loop-block.port) c.loop-block.from es
    (IsFree b) →
    HasFoundFree c.args.size (g.P.BlockPort.blocks c.args.port.now) c.loop-block.from b es
free g c b es looks = free_found c.args.size (g.P.BlockPort.blocks c.args.port.now) c.loop-block.from b es (free_looks g c b es looks)

slot : (g : Over) (c : goal.After-find g) (b i : ℕ) (es : List Step) → AreLooks c.args.size (g.P.BlockPort.blocks c.loop-block.port) c.loop-block.from es
    (Slot b i) →
    HasFoundSlot c.args.size (g.P.BlockPort.blocks c.args.port.now) c.loop-block.from b i es
slot g c b i es looks = slot_found c.args.size (g.P.BlockPort.blocks c.args.port.now) c.loop-block.from b i es (slot_looks g c b i es looks)

few_slots : (g : Over) (c : goal.After-find g) (b i : ℕ) (es : List Step) →
    HasFoundSlot c.args.size (g.P.BlockPort.blocks c.args.port.now) c.loop-block.from b i es → i < 64
few_slots g c b i es f = let within = f.lowest.within in let most = (class_slots c.args.size c.requires.class).1 in omega arith

pub returns-in-None : goal.returns-in-None
returns-in-None g c =
    let found = c.in-None.ensures in
    none_claims g.P.Port.leads g.P.Port.sees c.args.size (g.P.BlockPort.blocks c.args.port.now) c.loop-block.from c.loop-block.known c.args.port.now
    c.loop-block.port c.loop-block.invariant
    found.0 c.find.new.port found.1 (subst (λ n. AreLooks c.args.size n c.loop-block.from found.0 NoSlot)
    (same_blocks g (goal.at.returns-in-None g c).After-find) found.2)

pub swap_block-requires : goal.swap_block-requires
swap_block-requires g c =
    let found = c.in-Free.ensures in
    let f = free g (goal.at.swap_block-requires g c).After-find c.in-Free.block found.0 found.2 in
    record {
      may = may_swap g.P.Port.leads g.P.Port.sees c.args.size (g.P.BlockPort.blocks c.args.port.now) c.loop-block.from c.loop-block.known c.args.port.now
          c.loop-block.port c.loop-block.invariant
          c.in-Free.block found.0 c.find.new.port found.1 (free_looks g (goal.at.swap_block-requires g c).After-find c.in-Free.block found.0 found.2) f
          g.P.Port.may c.requires.may;
    }

pub loop-block-smaller-in-Free : goal.loop-block-smaller-in-Free
loop-block-smaller-in-Free g c =
    let found = c.in-Free.ensures in
    let f = free g (goal.at.loop-block-smaller-in-Free g c).After-find c.in-Free.block found.0 found.2 in
    free_smaller g.P.Port.leads g.P.Port.sees c.args.size (g.P.BlockPort.blocks c.args.port.now) c.loop-block.from c.loop-block.known c.args.port.now
    c.loop-block.port c.loop-block.invariant
    c.in-Free.block found.0 c.find.new.port found.1 (free_looks g (goal.at.loop-block-smaller-in-Free g c).After-find c.in-Free.block found.0 found.2) f

pub loop-block-preserved-in-Free : goal.loop-block-preserved-in-Free
loop-block-preserved-in-Free g c =
    let found = c.in-Free.ensures in
    let f = free g (goal.at.loop-block-preserved-in-Free g c).After-find c.in-Free.block found.0 found.2 in
    swapped g.P.Port.leads g.P.Port.sees c.args.size (g.P.BlockPort.blocks c.args.port.now) c.loop-block.from c.loop-block.known c.args.port.now
    c.loop-block.port c.loop-block.invariant
    c.in-Free.block found.0 c.find.new.port found.1 (free_looks g (goal.at.loop-block-preserved-in-Free g c).After-find c.in-Free.block found.0 found.2) f
    c.swap_block.new.self c.swap_block.result c.swap_block.ensures.led c.swap_block.ensures.seen

pub take_slot-found-requires : goal.take_slot-found-requires
take_slot-found-requires g c =
    let found = c.in-Slot.ensures in
    let f = slot g (goal.at.take_slot-found-requires g c).After-find c.in-Slot.block c.in-Slot.slot found.0 found.2 in
    record {
      may = may_take g.P.Port.leads g.P.Port.sees c.args.size (g.P.BlockPort.blocks c.args.port.now) c.loop-block.from c.loop-block.known c.args.port.now
          c.loop-block.port c.loop-block.invariant
          c.in-Slot.block c.in-Slot.slot found.0 c.find.new.port found.1
          (slot_looks g (goal.at.take_slot-found-requires g c).After-find c.in-Slot.block c.in-Slot.slot found.0 found.2) f g.P.Port.may c.requires.may;
    }

pub overflow_shr-found : goal.overflow_shr-found
overflow_shr-found g c =
    let found = c.in-Slot.ensures in
    let o = (goal.at.overflow_shr-found g c).After-find in
    few_slots g o c.in-Slot.block c.in-Slot.slot found.0 (slot g o c.in-Slot.block c.in-Slot.slot found.0 found.2)

pub returns-then-found-slot-eq0 : goal.returns-then-found-slot-eq0
returns-then-found-slot-eq0 g c =
    let found = c.in-Slot.ensures in
    let f = slot g (goal.at.returns-then-found-slot-eq0 g c).After-find c.in-Slot.block c.in-Slot.slot found.0 found.2 in
    slot_got g.P.Port.leads g.P.Port.sees c.args.size (g.P.BlockPort.blocks c.args.port.now) c.loop-block.from c.loop-block.known c.args.port.now
    c.loop-block.port c.loop-block.invariant
    c.in-Slot.block c.in-Slot.slot found.0 c.find.new.port found.1 (slot_looks g
    (goal.at.returns-then-found-slot-eq0 g c).After-find c.in-Slot.block c.in-Slot.slot found.0 found.2) f c.take_slot-found.new.self
    c.take_slot-found.result c.take_slot-found.ensures.led c.take_slot-found.ensures.seen
    (sym (shr_and_one c.take_slot-found.result c.in-Slot.slot) ∙ c.if-found-slot-eq0.true)

pub overflow_add-known : goal.overflow_add-known
overflow_add-known g c =
    let found = c.in-Slot.ensures in
    let o = (goal.at.overflow_add-known g c).After-find in
    let few = few_slots g o c.in-Slot.block c.in-Slot.slot found.0 (slot g o c.in-Slot.block c.in-Slot.slot found.0 found.2) in
    omega arith

pub loop-block-smaller : goal.loop-block-smaller
loop-block-smaller g c =
    let found = c.in-Slot.ensures in
    let o = (goal.at.loop-block-smaller g c).After-find in
    let f = slot g o c.in-Slot.block c.in-Slot.slot found.0 found.2 in
    slot_smaller g.P.Port.leads g.P.Port.sees c.args.size (g.P.BlockPort.blocks c.args.port.now) c.loop-block.from c.loop-block.known c.args.port.now
    c.loop-block.port c.loop-block.invariant
    c.in-Slot.block c.in-Slot.slot found.0 c.find.new.port found.1 (slot_looks g o c.in-Slot.block c.in-Slot.slot found.0 found.2) f
    (few_slots g o c.in-Slot.block c.in-Slot.slot found.0 f)

pub loop-block-preserved : goal.loop-block-preserved
loop-block-preserved g c =
    let found = c.in-Slot.ensures in
    let o = (goal.at.loop-block-preserved g c).After-find in
    let f = slot g o c.in-Slot.block c.in-Slot.slot found.0 found.2 in
    let set : bit_at c.take_slot-found.result c.in-Slot.slot ≡ 1 = elim (bit_cases c.take_slot-found.result c.in-Slot.slot) [
      | inl b ↦ b
      | inr b ↦ absurd (c.if-found-slot-eq0.false (shr_and_one c.take_slot-found.result c.in-Slot.slot ∙ b))
    ] in
    slot_trying g.P.Port.leads g.P.Port.sees c.args.size (g.P.BlockPort.blocks c.args.port.now) c.loop-block.from c.loop-block.known c.args.port.now
    c.loop-block.port c.loop-block.invariant
    c.in-Slot.block c.in-Slot.slot found.0 c.find.new.port found.1 (slot_looks g o c.in-Slot.block c.in-Slot.slot found.0 found.2) f c.take_slot-found.new.self
    c.take_slot-found.result c.take_slot-found.ensures.led c.take_slot-found.ensures.seen
    (few_slots g o c.in-Slot.block c.in-Slot.slot found.0 f) set
