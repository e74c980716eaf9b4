use Rattle.std.proofs.Common.{◌≤◌, length, sym, arith}
use Rattle.std.proofs.lemmas.List.{length-take-le}
use Rattle.sg_text.proofs.lines.hear_line.Goals as goal

pub slice_bounds-said_by-end : goal.slice_bounds-said_by-end
slice_bounds-said_by-end c =
    let within : c.in_ok-split.split.count ≤ length c.split_line.new.words = omega (arith, c.split_line.ensures.room, c.in_ok-split.ensures.few) in
    sym (length-take-le c.in_ok-split.split.count c.split_line.new.words within)
