use Rattle.sg_run.proofs.parts.is_sound.Goals as goal

pub returns : goal.returns
returns c =
    let h = c.requires in
    let s = c.heap_law.ensures.sound h.0 c.args.space.now h.1 h.2 h.3 c.layout.ensures.contents in
    (s.owner, s.sound)
