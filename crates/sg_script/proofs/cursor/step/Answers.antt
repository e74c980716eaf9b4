use Rattle.std.proofs.Common.{◌≡◌, ◌+◌, ◌-◌, ◌*◌, List, ◌++◌, length, take, slice_set, inr, sym, refl, ap, ◌∙◌, subst, arith}
use Rattle.std.specs.Vec.{vec_len}
use Rattle.sg_program.specs.declared.program.Item.{Item, out-Item}
use Rattle.sg_program.specs.declared.program.Item.TheOpen.{Repeat}
use Rattle.sg_program.specs.declared.program.Item.TheVariants.{outs-Repeat, outs-One}
use Rattle.sg_program.specs.Scripts.{repeated, written_out}
use Rattle.sg_script.specs.declared.cursor.Frame.{Frame}
use Rattle.sg_script.specs.Left.{left, FitsAtDepth, AreNested, items_cost, cost}
use Rattle.sg_script.proofs.Frames.{passed, at_there, last_split, last_set, outer_same, outer_nested, body_fits, enter_left, enter_nested, enter_cost, over_left, over_cost, again_left, again_cost, pass_nested, repeat_fits, repeat_left, repeat_cost}
use Rattle.sg_script.proofs.cursor.step.Goals as goal

pub returns-then-frame-gt0-clause-left : goal.returns-then-frame-gt0-clause-left
returns-then-frame-gt0-clause-left c =
    let frames = c.args.frames.now.items in
    let f = c.in-Some.frame.now in
    let n = vec_len c.args.frames.now - 1 in
    let fs = take n frames in
    let l : length frames ≡ n + 1 = (let len = c.args.frames.now.ok.0 in let some = c.in-Some.ensures.item.3.0 in omega arith) in
    let is = last_split frames n f l c.in-Some.ensures.value in
    let next : Frame = record f { at = 0; times = f.times - 1 } in
    again_left frames fs f is (slice_set frames n next) c.if-items-frame.true (enter_left fs (slice_set frames n next) next f.body.now f.times c.if-frame-gt0.true (last_set frames n next l) refl refl refl)

pub returns-then-frame-gt0-clause-nested : goal.returns-then-frame-gt0-clause-nested
returns-then-frame-gt0-clause-nested c =
    let frames = c.args.frames.now.items in
    let f = c.in-Some.frame.now in
    let n = vec_len c.args.frames.now - 1 in
    let fs = take n frames in
    let l : length frames ≡ n + 1 = (let len = c.args.frames.now.ok.0 in let some = c.in-Some.ensures.item.3.0 in omega arith) in
    let is = last_split frames n f l c.in-Some.ensures.value in
    let next : Frame = record f { at = 0; times = f.times - 1 } in
    enter_nested fs (slice_set frames n next) next f.body.now f.times c.if-frame-gt0.true (last_set frames n next l) refl refl refl (outer_nested frames fs f is c.requires.nested) (body_fits frames fs f is c.requires.nested)

pub returns-then-frame-gt0-clause-falls : goal.returns-then-frame-gt0-clause-falls
returns-then-frame-gt0-clause-falls c =
    let frames = c.args.frames.now.items in
    let f = c.in-Some.frame.now in
    let n = vec_len c.args.frames.now - 1 in
    let fs = take n frames in
    let l : length frames ≡ n + 1 = (let len = c.args.frames.now.ok.0 in let some = c.in-Some.ensures.item.3.0 in omega arith) in
    let is = last_split frames n f l c.in-Some.ensures.value in
    let next : Frame = record f { at = 0; times = f.times - 1 } in
    again_cost frames fs f is (slice_set frames n next) c.if-items-frame.true (enter_cost fs (slice_set frames n next) next f.body.now f.times c.if-frame-gt0.true (last_set frames n next l) refl refl refl)

pub returns-else-frame-gt0-clause-left : goal.returns-else-frame-gt0-clause-left
returns-else-frame-gt0-clause-left c =
    let frames = c.args.frames.now.items in
    let f = c.in-Some.frame.now in
    let n = vec_len c.args.frames.now - 1 in
    let fs = take n frames in
    let l : length frames ≡ n + 1 = (let len = c.args.frames.now.ok.0 in let some = c.in-Some.ensures.item.3.0 in omega arith) in
    let is = last_split frames n f l c.in-Some.ensures.value in
    let end = c.pop.new.self.items in
    again_left frames fs f is end c.if-items-frame.true (over_left fs end f.body.now f.times c.if-frame-gt0.false (c.pop.ensures.rest ∙ outer_same frames n f))

pub returns-else-frame-gt0-clause-nested : goal.returns-else-frame-gt0-clause-nested
returns-else-frame-gt0-clause-nested c =
    let frames = c.args.frames.now.items in
    let f = c.in-Some.frame.now in
    let n = vec_len c.args.frames.now - 1 in
    let fs = take n frames in
    let l : length frames ≡ n + 1 = (let len = c.args.frames.now.ok.0 in let some = c.in-Some.ensures.item.3.0 in omega arith) in
    let is = last_split frames n f l c.in-Some.ensures.value in
    subst (AreNested 0) (sym (c.pop.ensures.rest ∙ outer_same frames n f)) (outer_nested frames fs f is c.requires.nested)

pub returns-else-frame-gt0-clause-falls : goal.returns-else-frame-gt0-clause-falls
returns-else-frame-gt0-clause-falls c =
    let frames = c.args.frames.now.items in
    let f = c.in-Some.frame.now in
    let n = vec_len c.args.frames.now - 1 in
    let fs = take n frames in
    let l : length frames ≡ n + 1 = (let len = c.args.frames.now.ok.0 in let some = c.in-Some.ensures.item.3.0 in omega arith) in
    let is = last_split frames n f l c.in-Some.ensures.value in
    let end = c.pop.new.self.items in
    again_cost frames fs f is end c.if-items-frame.true (over_cost fs end f.body.now f.times c.if-frame-gt0.false (c.pop.ensures.rest ∙ outer_same frames n f))

pub enter-requires-clause-nested : goal.enter-requires-clause-nested
enter-requires-clause-nested c =
    let frames = c.args.frames.now.items in
    let f = c.in-Some.frame.now in
    let n = vec_len c.args.frames.now - 1 in
    let fs = take n frames in
    let l : length frames ≡ n + 1 = (let len = c.args.frames.now.ok.0 in let some = c.in-Some.ensures.item.3.0 in omega arith) in
    let is = last_split frames n f l c.in-Some.ensures.value in
    pass_nested frames fs f is _ (last_set frames n (passed f) l) c.requires.nested

pub enter-requires-clause-fits : goal.enter-requires-clause-fits
enter-requires-clause-fits c =
    let frames = c.args.frames.now.items in
    let f = c.in-Some.frame.now in
    let n = vec_len c.args.frames.now - 1 in
    let fs = take n frames in
    let l : length frames ≡ n + 1 = (let len = c.args.frames.now.ok.0 in let some = c.in-Some.ensures.item.3.0 in omega arith) in
    let is = last_split frames n f l c.in-Some.ensures.value in
    let item = c.index-items-frame.result in
    let here = at_there f.body.now f.at item item c.if-items-frame.false c.index-items-frame.is in
    let out : out-Item item ≡ Repeat c.in-Repeat.times c.in-Repeat.body = ap out-Item c.in-Repeat.is ∙ outs-Repeat c.in-Repeat.times c.in-Repeat.body in
    let between = slice_set frames n (passed f) in
    subst (FitsAtDepth (length between)) (sym c.as_slice.ensures) (repeat_fits frames fs f is item here between (last_set frames n (passed f) l) c.in-Repeat.times c.in-Repeat.body out between c.requires.nested)

pub returns-in-One-clause-stays : goal.returns-in-One-clause-stays
returns-in-One-clause-stays c _ =
    let frames = c.args.frames.now.items in
    let f = c.in-Some.frame.now in
    let n = vec_len c.args.frames.now - 1 in
    let fs = take n frames in
    let l : length frames ≡ n + 1 = (let len = c.args.frames.now.ok.0 in let some = c.in-Some.ensures.item.3.0 in omega arith) in
    let is = last_split frames n f l c.in-Some.ensures.value in
    let item = c.index-items-frame.result in
    let here = at_there f.body.now f.at item item c.if-items-frame.false c.index-items-frame.is in
    inr (c.in-One.field-0, (fs, f, item, last_set frames n f l, here, ap out-Item c.in-One.is ∙ outs-One c.in-One.field-0))

pub returns-in-Repeat-clause-left : goal.returns-in-Repeat-clause-left
returns-in-Repeat-clause-left c =
    let frames = c.args.frames.now.items in
    let f = c.in-Some.frame.now in
    let n = vec_len c.args.frames.now - 1 in
    let fs = take n frames in
    let l : length frames ≡ n + 1 = (let len = c.args.frames.now.ok.0 in let some = c.in-Some.ensures.item.3.0 in omega arith) in
    let is = last_split frames n f l c.in-Some.ensures.value in
    let item = c.index-items-frame.result in
    let here = at_there f.body.now f.at item item c.if-items-frame.false c.index-items-frame.is in
    let out : out-Item item ≡ Repeat c.in-Repeat.times c.in-Repeat.body = ap out-Item c.in-Repeat.is ∙ outs-Repeat c.in-Repeat.times c.in-Repeat.body in
    let between = slice_set frames n (passed f) in
    let end = c.enter.new.frames.items in
    repeat_left frames fs f is item here between (last_set frames n (passed f) l) c.in-Repeat.times c.in-Repeat.body out end
    (subst (λ (z : List Item). left end ≡ (repeated c.in-Repeat.times (written_out z) ++ left between)) c.as_slice.ensures c.enter.ensures.left)

pub returns-in-Repeat-clause-falls : goal.returns-in-Repeat-clause-falls
returns-in-Repeat-clause-falls c =
    let frames = c.args.frames.now.items in
    let f = c.in-Some.frame.now in
    let n = vec_len c.args.frames.now - 1 in
    let fs = take n frames in
    let l : length frames ≡ n + 1 = (let len = c.args.frames.now.ok.0 in let some = c.in-Some.ensures.item.3.0 in omega arith) in
    let is = last_split frames n f l c.in-Some.ensures.value in
    let item = c.index-items-frame.result in
    let here = at_there f.body.now f.at item item c.if-items-frame.false c.index-items-frame.is in
    let out : out-Item item ≡ Repeat c.in-Repeat.times c.in-Repeat.body = ap out-Item c.in-Repeat.is ∙ outs-Repeat c.in-Repeat.times c.in-Repeat.body in
    let between = slice_set frames n (passed f) in
    let end = c.enter.new.frames.items in
    repeat_cost frames fs f is item here between (last_set frames n (passed f) l) c.in-Repeat.times c.in-Repeat.body out end
    (subst (λ (z : List Item). cost end ≡ cost between + c.in-Repeat.times * (1 + items_cost z)) c.as_slice.ensures c.enter.ensures.cost)
