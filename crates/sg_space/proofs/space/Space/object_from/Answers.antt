use Rattle.std.proofs.Common.{◌∙◌, sym}
use Rattle.sg_space.proofs.Reached.{zero_is_free, tag_begins, sizes_of}
use Rattle.sg_space.proofs.space.Space.object_from.Goals as goal

pub read_object-requires-clause-front : goal.read_object-requires-clause-front
read_object-requires-clause-front c = record {
  begins = tag_begins c.args.self.now c.args.x c.requires.clear (λ z. c.if-word-eq0.false (c.word.ensures ∙ z)) c.requires.young.0 c.requires.young.1;
}

pub returns-then-word-eq0-clause-told : goal.returns-then-word-eq0-clause-told
returns-then-word-eq0-clause-told c = zero_is_free c.args.self.now c.args.x c.requires.clear (sym c.word.ensures ∙ c.if-word-eq0.true)

pub returns-else-word-eq0-clause-small : goal.returns-else-word-eq0-clause-small
returns-else-word-eq0-clause-small c =
    let sizes = sizes_of c.args.self.now c.args.x c.read_object.result c.requires.sound c.read_object.ensures c.requires.young.1 in
    (sizes.least, sizes.within)
