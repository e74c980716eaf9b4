use Rattle.sg_gen.proofs.Joined.{mutators_more}
use Rattle.sg_gen.proofs.generated.append_mutators.Goals as goal

pub loop-mutator-preserved : goal.loop-mutator-preserved
loop-mutator-preserved c =
    let more = mutators_more c.loop-mutator.mutator c.args.count c.args.words.now c.loop-mutator.words c.append_mutator.new.words c.args.text.now.items
    c.loop-mutator.text.items c.append_mutator.new.text.items c.loop-mutator.invariant.text c.loop-mutator.invariant.words
    c.in_ok-append_mutator.ensures.text c.in_ok-append_mutator.ensures.words in
    record { text = more.0; words = more.1 }
