use Rattle.sg_gen.proofs.generated.append_reading.Goals as goal

pub returns : goal.returns
returns c = c.append_around.ensures
