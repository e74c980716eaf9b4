use Rattle.std.proofs.Common.{◌-◌, take}
use Rattle.std.specs.Vec.{vec_len}
use Rattle.sg_script.proofs.Frames.{one_last, last_split, last_set, passed, pass_nested, pass_rest}
use Rattle.sg_script.proofs.cursor.pass.Goals as goal

pub returns-in-Some-clause-left : goal.returns-in-Some-clause-left
returns-in-Some-clause-left c =
    let frames = c.args.frames.now.items in
    let n = vec_len c.args.frames.now - 1 in
    let f = c.in-Some.frame.now in
    let l = one_last frames (vec_len c.args.frames.now) c.requires.some c.args.frames.now.ok.0 in
    pass_rest frames (take n frames) _ f (last_split frames n f l c.in-Some.ensures.value) (last_set frames n (passed f) l) c.requires.some c.requires.stands

pub returns-in-Some-clause-nested : goal.returns-in-Some-clause-nested
returns-in-Some-clause-nested c =
    let frames = c.args.frames.now.items in
    let n = vec_len c.args.frames.now - 1 in
    let f = c.in-Some.frame.now in
    let l = one_last frames (vec_len c.args.frames.now) c.requires.some c.args.frames.now.ok.0 in
    pass_nested frames (take n frames) f (last_split frames n f l c.in-Some.ensures.value) _ (last_set frames n (passed f) l) c.requires.nested
