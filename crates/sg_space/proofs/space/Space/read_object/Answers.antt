use Rattle.std.proofs.Common.{◌-◌, ◌/◌, ap, refl, arith}
use Rattle.sg_space.proofs.Read.{can_read, reads_at}
use Rattle.sg_space.proofs.space.Space.read_object.Goals as goal

pub overflow_add-x : goal.overflow_add-x
overflow_add-x c = let far = (can_read c.args.self.now c.args.x c.requires.sound c.requires.contents c.requires.front).far in omega arith

pub word-fields-requires : goal.word-fields-requires
word-fields-requires c = (can_read c.args.self.now c.args.x c.requires.sound c.requires.contents c.requires.front).below

pub overflow_cast-fields : goal.overflow_cast-fields
overflow_cast-fields c = let fields = (can_read c.args.self.now c.args.x c.requires.sound c.requires.contents c.requires.front).fields in
    let e = c.word-fields.ensures in omega arith

pub at_word-requires-clause-above : goal.at_word-requires-clause-above
at_word-requires-clause-above c = (can_read c.args.self.now c.args.x c.requires.sound c.requires.contents c.requires.front).above

pub at_word-requires-clause-below : goal.at_word-requires-clause-below
at_word-requires-clause-below c = (can_read c.args.self.now c.args.x c.requires.sound c.requires.contents c.requires.front).far

pub word-requires : goal.word-requires
word-requires c = let below = (can_read c.args.self.now c.args.x c.requires.sound c.requires.contents c.requires.front).below in omega arith

pub overflow_sub-result : goal.overflow_sub-result
overflow_sub-result c = let i = can_read c.args.self.now c.args.x c.requires.sound c.requires.contents c.requires.front in let tag = i.tag in
    let e = c.word.ensures in omega arith

pub overflow_cast-result : goal.overflow_cast-result
overflow_cast-result c = let i = can_read c.args.self.now c.args.x c.requires.sound c.requires.contents c.requires.front in let tag = i.tag in
    let few = i.few in let e = c.word.ensures in omega arith

pub overflow_add-result : goal.overflow_add-result
overflow_add-result c = let fields = (can_read c.args.self.now c.args.x c.requires.sound c.requires.contents c.requires.front).fields in
    let e = c.word-fields.ensures in omega arith

pub returns : goal.returns
returns c = reads_at c.args.self.now c.args.x _ c.requires.sound c.requires.contents c.requires.front c.at_word.ensures
    (ap (λ n. n / 8 - 1) c.word.ensures) c.word-fields.ensures refl
