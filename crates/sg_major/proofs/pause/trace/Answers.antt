use Rattle.std.proofs.Common.{false, List, sym, subst}
use Rattle.sg_space.specs.declared.objects.Object.{Object}
use Rattle.sg_space.specs.Standing.{TellsYoung}
use Rattle.sg_major.specs.Parts.{AreRoots}
use Rattle.sg_major.proofs.Unmarked.{contents_after, fronted, first_words, can_mark, sound_after}
use Rattle.sg_major.proofs.pause.trace.Goals as goal

pub walk_nursery-requires : goal.walk_nursery-requires
walk_nursery-requires c =
    let h = c.requires.some in
    sound_after c.front_law.ensures h.0 c.args.space h.1 h.2 h.3 h.5 c.unmark.ensures.contents c.unmark.new.space c.unmark.ensures.unmarked

pub roots_of-requires-clause-sound : goal.roots_of-requires-clause-sound
roots_of-requires-clause-sound c =
    let h = c.requires.some in
    sound_after c.front_law.ensures h.0 c.args.space h.1 h.2 h.3 h.5 c.unmark.ensures.contents c.unmark.new.space c.unmark.ensures.unmarked

pub roots_of-requires-clause-told : goal.roots_of-requires-clause-told
roots_of-requires-clause-told c = λ owner sound. subst (λ (told : List Object). TellsYoung c.unmark.new.space owner told) (sym c.as_slice.ensures)
    (c.in_ok-told.ensures owner sound)

pub mark-requires : goal.mark-requires
mark-requires c =
    let h = c.requires.some in
    let t = c.unmark.new.space in
    let f = fronted c.front_law.ensures h.0 c.args.space h.1 h.2 h.3 h.5 c.unmark.ensures.contents t c.unmark.ensures.unmarked in
    let owner = first_words c.front_law.ensures h.0 c.args.space h.1 h.2 h.3 h.5 c.unmark.ensures.contents t c.unmark.ensures.unmarked in
    let contents = contents_after c.front_law.ensures h.0 c.args.space h.1 h.2 h.3 h.5 c.unmark.ensures.contents t c.unmark.ensures.unmarked in
    record {
      can = (
        t,
        owner,
        (λ _. false),
        can_mark t owner c.args.ambiguous.now c.deref.result.now contents f.sound f.refers c.unmark.ensures.unmarked.none
            (subst (AreRoots t owner c.args.ambiguous.now) (sym c.deref.ensures.value) (c.in_ok-roots.ensures owner f.sound)),
      );
    }

pub returns-clause-traced : goal.returns-clause-traced
returns-clause-traced c =
    let t = c.unmark.new.space in
    record {
      before = t;
      unmarked = c.unmark.ensures.unmarked;
      tells = c.in_ok-told.ensures;
      roots = c.deref.result.now;
      are_roots = λ owner sound. subst (AreRoots t owner c.args.ambiguous.now) (sym c.deref.ensures.value) (c.in_ok-roots.ensures owner sound);
      marks = λ owner can. c.in_ok-mark.ensures.marked t owner (λ _. false) can;
    }
