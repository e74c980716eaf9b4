use Rattle.sg_gen.proofs.Joined.{moves_more}
use Rattle.sg_gen.proofs.generated.append_moves.Goals as goal

pub loop-preserved : goal.loop-preserved
loop-preserved c =
    let more = moves_more c.args.mutator c.loop.counter c.args.words.now c.loop.words c.draw_move-next.result c.draw_move-next.new.words c.args.text.now.items
    c.loop.text.items c.append_move.new.text.items c.loop.invariant.text c.loop.invariant.words c.draw_move-next.ensures c.in_ok-append_move.ensures in
    record { text = more.0; words = more.1 }
