use Rattle.std.proofs.Common.{◌≡◌, ℕ, ◌≤◌, List, [], ◌++◌, ◌∷◌, refl, ◌∙◌, arith}
use Rattle.sg_words.specs.declared.steps.BlockWord.{BlockWord}
use Rattle.sg_words.specs.declared.steps.BlockWord.TheVariants.{Need, Sweeping}
use Rattle.sg_words.specs.declared.steps.BlockStep.TheVariants.{LoadBlock, LostBlock}
use Rattle.sg_words.specs.declared.steps.Step.{Step}
use Rattle.sg_words.specs.declared.steps.Step.TheVariants.{OnBlock}
use Rattle.sg_words.specs.Sections.{old_base}
use Rattle.sg_words.specs.Words.{Saw}
use Rattle.sg_words.specs.Blocks.{IsSizeClass, slots}
use Rattle.sg_words.proofs.Blocks.{class_slots}
use Rattle.sg_space.specs.Space.{words_of}
use Rattle.sg_space.specs.Standing.{marks_in}
use Rattle.sg_cells.specs.Made.{Makes, makes_lead}
use Rattle.sg_frag.specs.Plain.{Led}
use Rattle.sg_frag.specs.Leading.{led_none, led_chain}
use Rattle.sg_frag.specs.declared.plain.PlainPort.{PlainPort}
use Rattle.sg_sweep.specs.Sweeping.{unmarked}
use Rattle.sg_finish.proofs.Allowing.{may_sweep}
use Rattle.sg_finish.proofs.Replays.{all_steps, unmarked_most, swept_done, swept_none, never_lost}
use Rattle.sg_finish.proofs.sweep_over.Goals as goal

-- what the port says of its steps
abbrev leads : PlainPort → List Step → PlainPort → Type 0
leads p es q = (q.space.ghost_name ≡ p.space.ghost_name) × Led p.space.now es q.space.now

abbrev sees : PlainPort → Step → Type 0
sees p t = Saw (words_of p.space.now) t

stays : (p : PlainPort) → leads p [] p
stays p = (refl, led_none p.space.now)

chains : (p q r : PlainPort) (es fs : List Step) → leads p es q → leads q fs r → leads p (es ++ fs) r
chains p q r es fs h k = (k.0 ∙ h.0, led_chain p.space.now q.space.now r.space.now es fs h.1 k.1)

made : (p : PlainPort) (es : List Step) (q : PlainPort) → Makes leads sees p es q → leads p es q
made p es q h = makes_lead leads sees stays chains p es q h

pub sweep_block-requires-clause-may : goal.sweep_block-requires-clause-may
sweep_block-requires-clause-may c =
    may_sweep leads sees (λ p. p.space.now) stays chains (λ p q es h. h.1) c.args.port.now c.args.block c.requires.contents c.requires.there

-- how the sweep ended, as steps that lead from the port to another one
done : (p q : PlainPort) (b z : ℕ) → Makes leads sees p (all_steps (old_base p.space.now.layout) b z (marks_in p.space.now b)) q →
    leads p (all_steps (old_base p.space.now.layout) b z (marks_in p.space.now b)) q
done p q b z h = made p (all_steps (old_base p.space.now.layout) b z (marks_in p.space.now b)) q h

lost : (p q : PlainPort) (b z : ℕ) (found : BlockWord) → Makes leads sees p (OnBlock (LoadBlock b (Need z)) ∷ OnBlock (LostBlock b (Need z) (Sweeping z) found) ∷ []) q → ⊥
lost p q b z found h =
    never_lost p.space.now q.space.now b z found (made p (OnBlock (LoadBlock b (Need z)) ∷ OnBlock (LostBlock b (Need z) (Sweeping z) found) ∷ []) q h).1

few : (z m n : ℕ) → IsSizeClass z → n ≡ unmarked m (slots z) → n ≤ 64
few z m n class e = let most = (class_slots z class).1 in let u = unmarked_most m (slots z) in omega arith

pub returns-in-Done-clause-same : goal.returns-in-Done-clause-same
returns-in-Done-clause-same c = let h = c.in-Done.ensures in (done c.args.port.now c.sweep_block.new.port c.args.block h.0 h.1).0

pub returns-in-Done-clause-swept : goal.returns-in-Done-clause-swept
returns-in-Done-clause-swept c =
    let h = c.in-Done.ensures in
    swept_done c.args.port.now.space.now c.sweep_block.new.port.space.now c.args.block h.0
    (done c.args.port.now c.sweep_block.new.port c.args.block h.0 h.1).1

pub returns-in-Done-clause-few : goal.returns-in-Done-clause-few
returns-in-Done-clause-few c =
    let h = c.in-Done.ensures in
    let saw = (done c.args.port.now c.sweep_block.new.port c.args.block h.0 h.1).1.legal.0 in
    few h.0 (marks_in c.args.port.now.space.now c.args.block) c.in-Done.freed (c.requires.sweepable.sized h.0 saw) h.2

pub returns-in-NotOwed-clause-swept : goal.returns-in-NotOwed-clause-swept
returns-in-NotOwed-clause-swept c =
    let h = c.in-NotOwed.ensures in
    swept_none c.args.port.now.space.now c.sweep_block.new.port.space.now c.args.block c.in-NotOwed.seen
    (made c.args.port.now (OnBlock (LoadBlock c.args.block c.in-NotOwed.seen) ∷ []) c.sweep_block.new.port h.0).1 h.1 c.requires.sweepable.settled

pub returns-in-Lost-clause-swept : goal.returns-in-Lost-clause-swept
returns-in-Lost-clause-swept c =
    let h = c.in-Lost.ensures in absurd (lost c.args.port.now c.sweep_block.new.port c.args.block h.0 c.in-Lost.seen h.1)

pub returns-in-Lost-clause-freed : goal.returns-in-Lost-clause-freed
returns-in-Lost-clause-freed c =
    let h = c.in-Lost.ensures in absurd (lost c.args.port.now c.sweep_block.new.port c.args.block h.0 c.in-Lost.seen h.1)
