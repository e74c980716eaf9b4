use Rattle.sg_world.proofs.Unowed.{still_swept}
use Rattle.sg_world.proofs.stop.begin.Goals as goal

pub returns-then-not-owes-clause-swept : goal.returns-then-not-owes-clause-swept
returns-then-not-owes-clause-swept c p g b holds unowed =
    still_swept c.sweep_law.ensures p c.args.space.now g b c.layout.ensures.contents holds (unowed c.if-not-owes.true)

pub sweep_out-requires : goal.sweep_out-requires
sweep_out-requires c = let held = c.requires.some in record { some = (held.0, held.1, held.2, held.3) }

pub returns-clause-swept : goal.returns-clause-swept
returns-clause-swept c p g b holds unowed = c.sweep_out.ensures.swept p g b holds
