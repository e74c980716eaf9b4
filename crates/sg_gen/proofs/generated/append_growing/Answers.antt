use Rattle.std.specs.Prelude.{codes, ◌++◌}
use Rattle.sg_gen.specs.Generated.{around, line_feed}
use Rattle.sg_gen.proofs.Joined.{three}
use Rattle.sg_gen.proofs.generated.append_growing.Goals as goal

pub returns : goal.returns
returns c =
    three c.args.text.now.items (around (codes "new r0 Node" ++ line_feed ++ codes "num r1 ") c.args.number (line_feed ++ codes "putd r0 2 r1" ++ line_feed))
    (around (codes "gget r2 ") c.args.global (line_feed ++ codes "put r0 0 r2" ++ line_feed)) (around (codes "gput ") c.args.global (codes " r0" ++ line_feed))
    c.append_around.new.text.items c.append_around-2.new.text.items c.append_around-3.new.text.items
    c.in_ok-append_around.ensures c.in_ok-append_around-2.ensures c.in_ok-append_around-3.ensures
