use Rattle.std.specs.Prelude.{codes, ◌++◌}
use Rattle.sg_gen.specs.Generated.{around, line_feed}
use Rattle.sg_gen.proofs.Joined.{two}
use Rattle.sg_gen.proofs.generated.append_shrinking.Goals as goal

pub returns : goal.returns
returns c =
    two c.args.text.now.items (around (codes "gget r2 ") c.args.global (line_feed ++ codes "get r2 r2 0" ++ line_feed))
    (around (codes "gput ") c.args.global
    (codes " r2" ++ line_feed ++ codes "drop r2" ++ line_feed ++ codes "drop r0" ++ line_feed ++ codes "num r3 0" ++ line_feed))
    c.append_around.new.text.items c.append_around-2.new.text.items c.in_ok-append_around.ensures c.in_ok-append_around-2.ensures
