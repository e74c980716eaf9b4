use Rattle.std.proofs.Common.{◌≡◌, refl}
use Rattle.std.proofs.lemmas.Result.{IfOk-weaker}
use Rattle.sg_graph.specs.declared.reports.MajorReport.{MajorReport}
use Rattle.sg_space.specs.Space.{Contents}
use Rattle.sg_major.specs.Parts.{HasFinished}
use Rattle.sg_major.proofs.Lawful.{told_apart, marks_occupied, keeps_part}
use Rattle.sg_major.proofs.pause.major.Goals as goal

pub finish-requires-clause-standing : goal.finish-requires-clause-standing
finish-requires-clause-standing c =
    let h = c.requires.some in
    let r = c.in_ok-traced.traced in
    told_apart c.quiet_pause.ensures c.front_law.ensures h.0 c.args.space h.1 h.2 h.3 h.4 h.5 c.in_ok-traced.ensures.before c.args.ambiguous.now r.told r.space
    c.in_ok-traced.ensures.traced

pub finish-requires-clause-occupied : goal.finish-requires-clause-occupied
finish-requires-clause-occupied c =
    let h = c.requires.some in
    let r = c.in_ok-traced.traced in
    marks_occupied c.quiet_pause.ensures c.front_law.ensures h.0 c.args.space h.1 h.2 h.3 h.4 h.5 c.in_ok-traced.ensures.before c.args.ambiguous.now r.told r.space
    c.in_ok-traced.ensures.traced c.placing_law.ensures

pub returns-clause-stop : goal.returns-clause-stop
returns-clause-stop c =
    let h = c.requires.some in
    let r = c.in_ok-traced.traced in
    IfOk-weaker c.finish.result (λ (q : Contents × MajorReport). HasFinished r.space r.told q.0 q.1) (λ (q : Contents × MajorReport). q.0.stop ≡ c.args.space.stop)
    (λ q done. keeps_part c.quiet_pause.ensures c.front_law.ensures h.0 c.args.space h.1 h.2 h.3 h.4 h.5 c.in_ok-traced.ensures.before c.args.ambiguous.now r.told r.space
    c.in_ok-traced.ensures.traced (λ z. z.stop) q.0 q.1 done (λ z words next ends marks blocks. refl))
    c.finish.ensures.finished

pub returns-clause-layout : goal.returns-clause-layout
returns-clause-layout c =
    let h = c.requires.some in
    let r = c.in_ok-traced.traced in
    IfOk-weaker c.finish.result (λ (q : Contents × MajorReport). HasFinished r.space r.told q.0 q.1) (λ (q : Contents × MajorReport). q.0.layout ≡ c.args.space.layout)
    (λ q done. keeps_part c.quiet_pause.ensures c.front_law.ensures h.0 c.args.space h.1 h.2 h.3 h.4 h.5 c.in_ok-traced.ensures.before c.args.ambiguous.now r.told r.space
    c.in_ok-traced.ensures.traced (λ z. z.layout) q.0 q.1 done (λ z words next ends marks blocks. refl))
    c.finish.ensures.finished

pub returns-clause-shapes : goal.returns-clause-shapes
returns-clause-shapes c =
    let h = c.requires.some in
    let r = c.in_ok-traced.traced in
    IfOk-weaker c.finish.result (λ (q : Contents × MajorReport). HasFinished r.space r.told q.0 q.1) (λ (q : Contents × MajorReport). q.0.shapes ≡ c.args.space.shapes)
    (λ q done. keeps_part c.quiet_pause.ensures c.front_law.ensures h.0 c.args.space h.1 h.2 h.3 h.4 h.5 c.in_ok-traced.ensures.before c.args.ambiguous.now r.told r.space
    c.in_ok-traced.ensures.traced (λ z. z.shapes) q.0 q.1 done (λ z words next ends marks blocks. refl))
    c.finish.ensures.finished
