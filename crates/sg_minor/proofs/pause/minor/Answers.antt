use Rattle.std.proofs.Common.{sym, ap, ◌∙◌, subst}
use Rattle.sg_space.specs.Space.{Contents}
use Rattle.sg_minor.specs.Joined.{AreFound}
use Rattle.sg_minor.proofs.Sown.{sound_heap}
use Rattle.sg_minor.proofs.Whole.{is_rounded, is_staying, is_paused, round_contents, same_after}
use Rattle.sg_minor.proofs.Cleaned.{paused_clean}
use Rattle.sg_minor.proofs.pause.minor.Goals as goal

pub trace-requires-clause-found : goal.trace-requires-clause-found
trace-requires-clause-found c = subst (AreFound c.args.space) (sym c.all.ensures) c.requires.found

pub finish-requires-clause-contents : goal.finish-requires-clause-contents
finish-requires-clause-contents c =
    let h = c.requires.some in
    let r = c.in_ok-traced.traced in
    let t = c.in_ok-traced.ensures.traced in
    let found = subst (AreFound c.args.space) (sym c.all.ensures) c.requires.found in
    round_contents c.front_law.ensures h.0 c.args.space h.1 h.2 h.3 c.in_ok-traced.ensures.before c.args.ambiguous.now r.pins t.pinned h.4 c.all.result.now found t.tagged t.still
    t.tags r.told t.tells r.space t.moves t.fails
    t.copied

pub finish-requires-clause-rounded : goal.finish-requires-clause-rounded
finish-requires-clause-rounded c =
    let h = c.requires.some in
    let r = c.in_ok-traced.traced in
    let t = c.in_ok-traced.ensures.traced in
    let found = subst (AreFound c.args.space) (sym c.all.ensures) c.requires.found in
    is_rounded c.front_law.ensures h.0 c.args.space h.1 h.2 h.3 c.in_ok-traced.ensures.before c.args.ambiguous.now r.pins t.pinned h.4 c.all.result.now found t.tagged t.still t.tags
    r.told t.tells r.space t.moves t.fails
    t.copied

pub finish-requires-clause-pins : goal.finish-requires-clause-pins
finish-requires-clause-pins c =
    let h = c.requires.some in
    let r = c.in_ok-traced.traced in
    let t = c.in_ok-traced.ensures.traced in
    let found = subst (AreFound c.args.space) (sym c.all.ensures) c.requires.found in
    is_staying c.front_law.ensures h.0 c.args.space h.1 h.2 h.3 c.in_ok-traced.ensures.before c.args.ambiguous.now r.pins t.pinned h.4 c.all.result.now found t.tagged t.still t.tags
    r.told t.tells r.space t.moves t.fails
    t.copied

pub clean-requires : goal.clean-requires
clean-requires c =
    let h = c.requires.some in
    let r = c.in_ok-traced.traced in
    let t = c.in_ok-traced.ensures.traced in
    let found = subst (AreFound c.args.space) (sym c.all.ensures) c.requires.found in
    let paused = is_paused c.front_law.ensures h.0 c.args.space h.1 h.2 h.3 c.in_ok-traced.ensures.before c.args.ambiguous.now r.pins t.pinned h.4 c.all.result.now found t.tagged
    t.still t.tags r.told t.tells r.space
    t.moves t.fails t.copied c.in_ok-space.space c.in_ok-space.report c.in_ok-space.ensures.finished c.join_law.ensures c.pause_law.ensures h.5 in
    let heap = sound_heap c.front_law.ensures h.0 c.in_ok-space.space h.1 paused.book paused.heap c.in_ok-space.ensures.contents in
    (heap.owner, heap.sound)

pub returns : goal.returns
returns c =
    let s = c.args.space in
    let r = c.in_ok-traced.traced in
    let t = c.in_ok-traced.ensures.traced in
    let found = subst (AreFound c.args.space) (sym c.all.ensures) c.requires.found in
    let after = same_after s c.in_ok-space.space c.args.ambiguous.now r.pins c.all.result.now r.told r.space c.in_ok-space.report t
    c.in_ok-space.ensures.finished in
    record {
      paused = λ p g b heap owes plain. paused_clean c.front_law.ensures p c.in_ok-space.space g b c.args.ambiguous.now c.in_ok-space.report
          (is_paused c.front_law.ensures p s g b heap c.in_ok-traced.ensures.before c.args.ambiguous.now r.pins t.pinned owes c.all.result.now found t.tagged t.still t.tags r.told
          t.tells r.space
          t.moves t.fails t.copied c.in_ok-space.space c.in_ok-space.report c.in_ok-space.ensures.finished c.join_law.ensures c.pause_law.ensures plain)
          c.in_ok-space.ensures.contents c.clean.new.space (record { still = c.clean.ensures.still; dirty = c.clean.ensures.dirty });
      contents = c.layout-layout.ensures.contents;
      stop = ap (λ (z : Contents). z.stop) c.clean.ensures.still ∙ ap (λ (z : Contents). z.stop) after;
      layout = ap (λ (z : Contents). z.layout) c.clean.ensures.still ∙ ap (λ (z : Contents). z.layout) after;
      shapes = ap (λ (z : Contents). z.shapes) c.clean.ensures.still ∙ ap (λ (z : Contents). z.shapes) after;
    }
