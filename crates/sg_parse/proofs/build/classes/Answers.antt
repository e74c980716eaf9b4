use Rattle.std.proofs.Common.{◌++◌, ◌∷◌, [], map, get_or, sym, ap, ◌∙◌, subst}
use Rattle.std.proofs.lemmas.List.{append-nil}
use Rattle.sg_text.specs.declared.line.Line.TheVariants.{Head}
use Rattle.sg_limits.specs.Faults.{class_in}
use Rattle.sg_text.specs.Reading.{sentence_of}
use Rattle.sg_limits.specs.LineLimits.{HasSmallNumbers}
use Rattle.sg_parse.proofs.Taken.{read_at}
use Rattle.sg_parse.proofs.Bodies.{small_at}
use Rattle.sg_parse.proofs.BuildLemmas.{class_more, no_class, same_class}
use Rattle.sg_parse.proofs.build.classes.Goals as goal
use Rattle.sg_parse.proofs.build.classes.Goals.{in-Class+in_ok-bytes+in_ok-push, in_default}

pub shape-requires : goal.shape-requires
shape-requires c = subst (λ l. HasSmallNumbers (sentence_of l)) c.in-Class.is
    (small_at (map sentence_of c.args.lines.now) c.loop-line.line-index _ c.requires (read_at sentence_of c.args.lines.now c.loop-line.line-index Head c.loop-line-test.true))

pub loop-line-preserved : goal.loop-line-preserved
loop-line-preserved c = class_more (map sentence_of c.args.lines.now) c.loop-line.line-index (sentence_of (get_or c.args.lines.now c.loop-line.line-index Head)) c.loop-line.classes.items c.match-line.classes.items
    (read_at sentence_of c.args.lines.now c.loop-line.line-index Head c.loop-line-test.true) c.loop-line.invariant
    (elim c.match-line.branch [
      | in-Class+in_ok-bytes+in_ok-push w ↦
          ap (λ v. v.items) w.classes-is ∙ w.in_ok-push.ensures.items
          ∙ ap (λ x. c.loop-line.classes.items ++ x ∷ []) (same_class w.from_vec.result w.in-Class.name.now w.shape.result w.in-Class.form (w.from_vec.ensures ∙ w.in_ok-bytes.ensures.items) w.shape.ensures)
          ∙ ap (λ l. c.loop-line.classes.items ++ class_in (sentence_of l)) (sym w.in-Class.is)
      | in_default w ↦
          ap (λ v. v.items) w.classes-is ∙ sym (append-nil c.loop-line.classes.items) ∙ ap (λ x. c.loop-line.classes.items ++ x) (sym (no_class (get_or c.args.lines.now c.loop-line.line-index Head) w.in_default.not-Class))
    ])
