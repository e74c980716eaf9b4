use Rattle.std.proofs.Common.{List, length, slice_get, refl, sym, ap, ◌∙◌, subst, arith}
use Rattle.std.proofs.lemmas.Option.{slice_get_within}
use Rattle.sg_desc.specs.declared.shapes.Shape.{Shape}
use Rattle.sg_mark.proofs.Objects.{IsFirstWord, first_word, shapes_same}
use Rattle.sg_mark.proofs.marking.kind_at.Goals as goal

pub class_of-class-requires : goal.class_of-class-requires
class_of-class-requires c =
    let q = c.requires in
    let f = first_word q.0 q.1 q.2 c.args.space.now q.3 c.args.a q.4 in
    (f.0, f.4, subst (IsFirstWord f.0) (sym c.read.ensures.value) f.5)

pub shape-requires : goal.shape-requires
shape-requires c =
    let q = c.requires in
    let f = first_word q.0 q.1 q.2 c.args.space.now q.3 c.args.a q.4 in
    let is = c.class_of-class.ensures f.0 f.4 (subst (IsFirstWord f.0) (sym c.read.ensures.value) f.5) in
    let l = slice_get_within q.0.shapes f.0 f.1 f.2 in
    let same = ap length (shapes_same q.0 q.1 q.2 c.args.space.now q.3) in
    omega arith

pub returns : goal.returns
returns c = λ t owner now is at.
    let f = first_word t owner now c.args.space.now is c.args.a at in
    let class = c.class_of-class.ensures f.0 f.4 (subst (IsFirstWord f.0) (sym c.read.ensures.value) f.5) in
    record {
      class = f.0;
      shape = c.shape.result;
      shape_is = ap (λ (xs : List Shape). slice_get xs f.0) (sym (shapes_same t owner now c.args.space.now is)) ∙ ap (slice_get c.args.space.now.shapes) (sym class) ∙ c.shape.ensures;
      tag = f.3;
      kind_is = refl;
    }
