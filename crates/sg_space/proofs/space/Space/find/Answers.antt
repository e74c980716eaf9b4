use Rattle.std.proofs.Common.{◌≤◌, arith}
use Rattle.sg_words.specs.Sections.{nursery_base}
use Rattle.sg_space.proofs.Reached.{clear_nursery, clear_skip, clear_step, ahead_first, ahead_skip, ahead_step, free_behind, holds_at}
use Rattle.sg_space.proofs.space.Space.find.Goals as goal

pub loop-x-init : goal.loop-x-init
loop-x-init c = record {
  clear = clear_nursery c.args.self.now;
  ahead = ahead_first c.args.self.now c.args.word nursery_base (clear_nursery c.args.self.now) c.requires.young.0;
  above = omega arith;
}

pub loop-x-preserved-in-None : goal.loop-x-preserved-in-None
loop-x-preserved-in-None c = record {
  clear = clear_skip c.args.self.now c.loop-x.x c.loop-x.invariant.clear c.in-None.ensures.told;
  ahead = ahead_skip c.args.self.now c.args.word c.loop-x.x c.loop-x.invariant.ahead c.in-None.ensures.told;
  above = omega arith;
}

pub returns-then-word-x : goal.returns-then-word-x
returns-then-word-x c =
    let less = c.if-word-x.true in
    let reached : c.loop-x.x ≤ c.args.word = c.loop-x-test.true in
    holds_at c.args.self.now c.args.word c.loop-x.x c.in-Some.object c.in-Some.ensures.told reached (omega arith)

pub loop-x-preserved : goal.loop-x-preserved
loop-x-preserved c =
    let more = c.if-word-x.false in
    let reached : c.loop-x.x ≤ c.args.word = c.loop-x-test.true in
    record {
      clear = clear_step c.args.self.now c.loop-x.x c.in-Some.object c.loop-x.invariant.clear c.in-Some.ensures.told;
      ahead = ahead_step c.args.self.now c.args.word c.loop-x.x c.in-Some.object c.loop-x.invariant.clear c.in-Some.ensures.told (omega arith);
      above = omega arith;
    }

pub returns : goal.returns
returns c = free_behind c.args.self.now c.args.word c.loop-x.x c.loop-x.invariant.ahead c.loop-x-test.false
