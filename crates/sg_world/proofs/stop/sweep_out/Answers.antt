use Rattle.sg_world.proofs.stop.sweep_out.Goals as goal

pub finish-requires : goal.finish-requires
finish-requires c j l =
    let held = c.requires.some in
    record {
      settled = λ z e. c.sweep_law.ensures.settled held.0 c.args.space.now held.1 held.2 held.3 c.layout.ensures.contents j z l e;
      sized = λ z e. c.sweep_law.ensures.sized held.0 c.args.space.now held.1 held.2 held.3 c.layout.ensures.contents j z l e;
    }

pub returns-clause-swept : goal.returns-clause-swept
returns-clause-swept c p g b holds =
    (c.sweep_law.ensures.swept p c.args.space.now c.finish.new.space g b c.layout.ensures.contents holds c.finish.ensures.swept).0
