use Rattle.std.proofs.Common.{◌≡◌, ◌+◌, ◌<◌, ◌≤◌, ap, sym, ◌∙◌, subst, arith}
use Rattle.sg_words.specs.Sections.{old_base}
use Rattle.sg_space.specs.Standing.{TellsYoung}
use Rattle.sg_space.proofs.Reached.{clear_jump, clear_step}
use Rattle.sg_space.proofs.Told.{HasTold, told_jump, told_push, told_all}
use Rattle.sg_space.proofs.space.Space.walk_nursery.Goals as goal

pub free_end-x-requires-clause-section : goal.free_end-x-requires-clause-section
free_end-x-requires-clause-section c =
    let end : c.old_word-end.result ≡ old_base c.args.self.now.layout = c.old_word-end.ensures ∙ ap old_base c.layout.ensures.layout in
    (c.loop-x.invariant.above, subst (λ n. c.loop-x.x < n) end c.loop-x-test.true)

pub loop-x-preserved-in-None : goal.loop-x-preserved-in-None
loop-x-preserved-in-None c =
    let s = c.args.self.now in
    let end : c.old_word-end.result ≡ old_base s.layout = c.old_word-end.ensures ∙ ap old_base c.layout.ensures.layout in
    record {
      clear = clear_jump s c.loop-x.x c.free_end-x.result c.loop-x.invariant.clear c.free_end-x.ensures.free c.free_end-x.ensures.behind;
      told = told_jump s c.loop-x.x c.free_end-x.result c.loop-x.told.items c.loop-x.invariant.told c.free_end-x.ensures.free c.free_end-x.ensures.behind;
      above = let behind = c.free_end-x.ensures.behind in omega arith;
      below = subst (λ n. c.free_end-x.result ≤ n) (sym end) c.free_end-x.ensures.within;
      fragment = c.passed-fragment.ensures;
    }

pub loop-x-preserved : goal.loop-x-preserved
loop-x-preserved c =
    let s = c.args.self.now in
    let o = c.in-Some.object in
    let end : c.old_word-end.result ≡ old_base s.layout = c.old_word-end.ensures ∙ ap old_base c.layout.ensures.layout in
    let before : c.loop-x.x < old_base s.layout = subst (λ n. c.loop-x.x < n) end c.loop-x-test.true in
    record {
      clear = clear_step s c.loop-x.x o c.loop-x.invariant.clear c.in-Some.ensures.told;
      told = subst (λ items. HasTold s (c.loop-x.x + o.words) items) (sym c.in_ok-push-in-Some.ensures.items)
          (told_push s c.loop-x.x c.loop-x.told.items o c.loop-x.invariant.told c.in-Some.ensures.told (c.loop-x.invariant.above, before));
      above = omega arith;
      below = subst (λ n. c.loop-x.x + o.words ≤ n) (sym end) c.in-Some.ensures.small.1;
      fragment = c.loop-x.invariant.fragment;
    }

pub returns : goal.returns
returns c owner sound =
    let s = c.args.self.now in
    let end : c.old_word-end.result ≡ old_base s.layout = c.old_word-end.ensures ∙ ap old_base c.layout.ensures.layout in
    subst (λ told. TellsYoung s owner told) (sym c.from_vec.ensures)
    (told_all s c.loop-x.x c.loop-x.told.items c.loop-x.invariant.told (subst (λ n. n ≤ c.loop-x.x) end c.loop-x-test.false) owner sound)
