use Rattle.std.proofs.Common.{◌≡◌, sym, ap, ◌∙◌, arith}
use Rattle.std.proofs.lemmas.List.{get_or_default}
use Rattle.sg_words.specs.Sections.{old_base}
use Rattle.sg_space.specs.Space.{Contents}
use Rattle.sg_space.specs.Standing.{word}
use Rattle.sg_space.specs.Changes.{still_on, contents_still}
use Rattle.sg_nursery.specs.Pieces.{first_word, word_behind}
use Rattle.sg_nursery.specs.Parts.{blank}
use Rattle.sg_nursery.proofs.Cleaning.{cleaned_next, cleaned_all}
use Rattle.sg_nursery.proofs.Runs.{cleaned_same}
use Rattle.sg_nursery.proofs.sweep.clean.Goals as goal

pub clean_next-run-requires-clause-class : goal.clean_next-run-requires-clause-class
clean_next-run-requires-clause-class c = (c.requires.rounded.each c.object-item.result (c.loop-object.object-index, c.loop-object-test.true, sym c.object-item.is)).class

pub clean_next-run-requires-clause-some : goal.clean_next-run-requires-clause-some
clean_next-run-requires-clause-some c = (c.requires.rounded.standing.each c.object-item.result (c.loop-object.object-index, c.loop-object-test.true, sym c.object-item.is)).0

pub clean_next-run-requires-clause-below : goal.clean_next-run-requires-clause-below
clean_next-run-requires-clause-below c =
    let first = ap first_word c.object-item.is in
    let below = c.loop-object.invariant.below c.loop-object.object-index c.object-item.result (omega arith) c.loop-object-test.true in
    omega (arith, first, below)

pub loop-object-preserved : goal.loop-object-preserved
loop-object-preserved c =
    let layout = c.args.space.now.layout in
    let told = c.args.told.now in
    let i = c.loop-object.object-index in
    let o = c.object-item.result in
    let still = still_on c.args.space.now c.loop-object.space c.clean_next-run.new.space c.loop-object.invariant.still c.clean_next-run.ensures.still in
    let standing = c.requires.rounded.standing in
    let each = standing.each o (i, c.loop-object-test.true, sym c.object-item.is) in
    let behind = c.clean_next-run.ensures.behind in
    let edge : old_base c.clean_next-run.new.space.layout ≡ old_base layout = ap (λ (s : Contents). old_base s.layout) still.0 in
    record {
      contents = contents_still c.loop-object.space c.clean_next-run.new.space c.clean_next-run.ensures.still c.loop-object.invariant.contents;
      from = c.clean_next-run.ensures.from;
      order = c.clean_next-run.ensures.order;
      within = omega (arith, behind, edge, each.2);
      below = λ k d later there.
          let at_i = get_or_default told i o d c.loop-object-test.true in
          let apart = standing.apart i k d (omega arith) there in
          let same = ap word_behind (c.object-item.is ∙ at_i) in
          omega (arith, behind, apart, same);
      cleaned = cleaned_next layout told i o (word c.args.space.now) (blank c.loop-object.run.from c.loop-object.run.to (word c.loop-object.space)) (blank c.clean_next-run.result.from c.clean_next-run.result.to (word c.clean_next-run.new.space))
          standing c.loop-object-test.true c.object-item.is c.loop-object.invariant.cleaned c.clean_next-run.ensures.cleaned;
      still = still;
    }

pub returns-clause-cleaned : goal.returns-clause-cleaned
returns-clause-cleaned c =
    let told = c.args.told.now in
    let old = word c.args.space.now in
    let blanked = blank c.loop-object.run.from c.loop-object.run.to (word c.loop-object.space) in
    cleaned_same told old blanked (word c.clear.new.space) c.clear.ensures.cleared
    (cleaned_all told c.loop-object.object-index old blanked c.loop-object-test.false c.loop-object.invariant.cleaned)
