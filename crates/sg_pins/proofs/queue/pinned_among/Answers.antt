use Rattle.sg_pins.proofs.Owners.{are_reached_as, pinned_by}
use Rattle.sg_pins.proofs.queue.pinned_among.Goals as goal

pub returns-clause-reached : goal.returns-clause-reached
returns-clause-reached c = are_reached_as c.args.ambiguous.now c.in_ok-words.words.items c.args.objects.now c.from_vec.result c.in_ok-words.ensures.permutation
    (rw (c.from_vec.ensures, ← c.deref.ensures.value) c.in_ok-pinned.ensures)

pub returns-clause-pinned : goal.returns-clause-pinned
returns-clause-pinned c = λ s owner sound tells. pinned_by s owner c.args.ambiguous.now c.args.objects.now c.from_vec.result sound tells (returns-clause-reached c)
