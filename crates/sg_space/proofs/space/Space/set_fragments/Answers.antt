use Rattle.std.proofs.Common.{◌≡◌, length, arith, ap, sym, ◌∙◌}
use Rattle.sg_words.proofs.Fragments.{same_count}
use Rattle.sg_words.specs.Pieces.{fronts_of, ends_of}
use Rattle.sg_space.proofs.space.Space.set_fragments.Goals as goal

pub invariant_of-self : goal.invariant_of-self
invariant_of-self c =
    let inv = c.self.invariant in
    let e = c.put_fragments.ensures in
    let fronts : length c.put_fragments.new.next.items ≡ length (fronts_of c.args.pieces.now) = ap length e.fronts in
    let ends : length c.put_fragments.new.ends.items ≡ length (ends_of c.args.pieces.now) = ap length e.ends in
    let same = same_count c.args.pieces.now in
    let few = c.requires in
    let room = e.room in
    let room_of_ends = e.room_of_ends in
    let next_room = inv.room_next in
    let ends_room = inv.room_ends in
    let old = inv.contents in
    record {
      contents = record {
        layout = old.layout;
        shapes = old.shapes;
        words = old.words;
        fragments = fronts ∙ same ∙ sym ends;
        few = omega arith;
        blocks = old.blocks;
        used = old.used;
        marks = old.marks;
        cards = old.cards;
        bits = old.bits;
        pages = old.pages;
        made = old.made;
        registered = old.registered;
      };
      room_next = omega arith;
      room_ends = omega arith;
      room_registered = inv.room_registered;
      within = inv.within;
      clean = inv.clean;
      passed = inv.passed;
      few = inv.few;
    }
