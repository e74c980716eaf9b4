use Rattle.std.proofs.Common.{◌≡◌, ◌+◌, ◌≤◌, length, map, get_or, Some, None, vec_len, rules, refl, sym, ap, ◌∙◌, subst, arith}
use Rattle.std.proofs.lemmas.List.{length-map}
use Rattle.sg_program.specs.declared.program.Item.{out-Item, Repeat as repeat_item}
use Rattle.sg_program.specs.declared.program.Item.TheOpen.{Repeat}
use Rattle.sg_program.specs.declared.program.Item.TheViews.{the_lemmas}
use Rattle.sg_parse.specs.declared.scripts.Body.{Body}
use Rattle.sg_text.specs.declared.line.Line.TheVariants.{Head}
use Rattle.sg_parse.specs.Names.{classes_of}
use Rattle.sg_text.specs.Lines.{Repeats}
use Rattle.sg_text.specs.Reading.{sentence_of}
use Rattle.sg_parse.specs.Building.{IsStatement}
use Rattle.sg_parse.proofs.Taken.{read_at}
use Rattle.sg_parse.proofs.Bodies.{IsInBody, body_end, body_more, body_none, body_over, repeat_none, repeat_empty, repeat_more, small_at, inner_small, other_line, inner_body, inner_within, some_items, no_items}
use Rattle.sg_parse.proofs.scripts.+read_body.Goals as goal

pub returns-in-End-clause-items : goal.returns-in-End-clause-items
returns-in-End-clause-items t c =
    let b : Body = record { items = c.from_vec.result; lines = c.loop-at.at + 1 } in
    body_end (classes_of c.args.names.now) (map sentence_of c.args.lines.now) c.loop-at.at c.loop-at.items.items b c.loop-at.invariant.state
    (read_at sentence_of c.args.lines.now c.loop-at.at Head c.loop-at-test.true ∙ ap (λ l. Some (sentence_of l)) c.in-End.is) c.from_vec.ensures refl

pub read_body-requires : goal.read_body-requires
read_body-requires t c = (search rules, (λ some. c.requires.few (let l = c.loop-at-test.true in omega arith), inner_small c.args.lines.now c.loop-at.at c.requires.small))

pub overflow_cast-times : goal.overflow_cast-times
overflow_cast-times t c =
    let small : c.in-Repeat.times ≤ 1048576 =
    small_at (map sentence_of c.args.lines.now) c.loop-at.at (Repeats c.in-Repeat.times) c.requires.small
    (read_at sentence_of c.args.lines.now c.loop-at.at Head c.loop-at-test.true ∙ ap (λ l. Some (sentence_of l)) c.in-Repeat.is) in
    omega (arith, small)

pub statement-requires : goal.statement-requires
statement-requires t c = record {
  few = c.requires.few (let l = c.loop-at-test.true in omega arith);
  small = small_at (map sentence_of c.args.lines.now) c.loop-at.at _ c.requires.small (read_at sentence_of c.args.lines.now c.loop-at.at Head c.loop-at-test.true);
}

pub returns-in_default-2-clause-items : goal.returns-in_default-2-clause-items
returns-in_default-2-clause-items t c =
    repeat_none (classes_of c.args.names.now) (map sentence_of c.args.lines.now) c.loop-at.at c.in-Repeat.times c.loop-at.items.items c.loop-at.invariant.state
    (read_at sentence_of c.args.lines.now c.loop-at.at Head c.loop-at-test.true ∙ ap (λ l. Some (sentence_of l)) c.in-Repeat.is)
    (inner_body (classes_of c.args.names.now) c.args.lines.now c.loop-at.at c.in_ok-inner-in-Repeat.field-0 None c.in_default-2.is c.in_ok-inner-in-Repeat.ensures.items)

pub loop-at-preserved-in-Continue-branch-3 : goal.loop-at-preserved-in-Continue-branch-3
loop-at-preserved-in-Continue-branch-3 t c = record {
  within = inner_within c.args.lines.now c.loop-at.at c.in_ok-inner-in-Repeat.field-0 c.in-Some.inner c.in-Some.is c.in_ok-inner-in-Repeat.ensures.within c.loop-at-test.true;
  state = subst (IsInBody (classes_of c.args.names.now) (map sentence_of c.args.lines.now) (c.loop-at.at + (1 + c.in-Some.inner.lines))) (sym c.in_ok-push-in-Repeat.ensures.items)
      (repeat_more (classes_of c.args.names.now) (map sentence_of c.args.lines.now) c.loop-at.at c.in-Repeat.times c.loop-at.items.items c.in-Some.inner _ c.loop-at.invariant.state
      (read_at sentence_of c.args.lines.now c.loop-at.at Head c.loop-at-test.true ∙ ap (λ l. Some (sentence_of l)) c.in-Repeat.is)
      (inner_body (classes_of c.args.names.now) c.args.lines.now c.loop-at.at c.in_ok-inner-in-Repeat.field-0 (Some c.in-Some.inner) c.in-Some.is c.in_ok-inner-in-Repeat.ensures.items)
      (λ e. some_items c.into_vec-inner.result.items (vec_len c.into_vec-inner.result) c.is_empty.result c.into_vec-inner.result.ok.0 c.is_empty.ensures c.if-not-is_empty.true (c.into_vec-inner.ensures ∙ e))
      (let made : out-Item (repeat_item c.in-Repeat.times c.from_vec-then-not-is_empty.result) ≡ Repeat c.in-Repeat.times c.from_vec-then-not-is_empty.result = search (rules, the_lemmas) in
      made ∙ ap (Repeat c.in-Repeat.times) (c.from_vec-then-not-is_empty.ensures ∙ c.into_vec-inner.ensures)));
}

pub loop-at-preserved-else-not-is_empty : goal.loop-at-preserved-else-not-is_empty
loop-at-preserved-else-not-is_empty t c = record {
  within = inner_within c.args.lines.now c.loop-at.at c.in_ok-inner-in-Repeat.field-0 c.in-Some.inner c.in-Some.is c.in_ok-inner-in-Repeat.ensures.within c.loop-at-test.true;
  state = repeat_empty (classes_of c.args.names.now) (map sentence_of c.args.lines.now) c.loop-at.at c.in-Repeat.times c.loop-at.items.items c.in-Some.inner c.loop-at.invariant.state
      (read_at sentence_of c.args.lines.now c.loop-at.at Head c.loop-at-test.true ∙ ap (λ l. Some (sentence_of l)) c.in-Repeat.is)
      (inner_body (classes_of c.args.names.now) c.args.lines.now c.loop-at.at c.in_ok-inner-in-Repeat.field-0 (Some c.in-Some.inner) c.in-Some.is c.in_ok-inner-in-Repeat.ensures.items)
      (sym c.into_vec-inner.ensures ∙ no_items c.into_vec-inner.result.items (vec_len c.into_vec-inner.result) c.is_empty.result c.into_vec-inner.result.ok.0 c.is_empty.ensures c.if-not-is_empty.false);
}

pub returns-in_default-statement : goal.returns-in_default-statement
returns-in_default-statement t c = record {
  items = body_none (classes_of c.args.names.now) (map sentence_of c.args.lines.now) c.loop-at.at c.loop-at.items.items _ c.loop-at.invariant.state
      (read_at sentence_of c.args.lines.now c.loop-at.at Head c.loop-at-test.true) (other_line (get_or c.args.lines.now c.loop-at.at Head) c.in_default.not-End c.in_default.not-Repeat)
      (subst (IsStatement (classes_of c.args.names.now) (sentence_of (get_or c.args.lines.now c.loop-at.at Head))) c.in_default-statement.is c.statement.ensures);
  within = tt;
}

pub loop-at-preserved : goal.loop-at-preserved
loop-at-preserved t c = record {
  within = omega arith;
  state = subst (IsInBody (classes_of c.args.names.now) (map sentence_of c.args.lines.now) (c.loop-at.at + 1)) (sym c.in_ok-push-in_default.ensures.items)
      (body_more (classes_of c.args.names.now) (map sentence_of c.args.lines.now) c.loop-at.at c.loop-at.items.items (sentence_of (get_or c.args.lines.now c.loop-at.at Head)) _ _ c.loop-at.invariant.state
      (read_at sentence_of c.args.lines.now c.loop-at.at Head c.loop-at-test.true) (other_line (get_or c.args.lines.now c.loop-at.at Head) c.in_default.not-End c.in_default.not-Repeat)
      (subst (IsStatement (classes_of c.args.names.now) (sentence_of (get_or c.args.lines.now c.loop-at.at Head))) c.in-Some-statement.is c.statement.ensures) (search (rules, the_lemmas)));
}

pub returns-clause-items : goal.returns-clause-items
returns-clause-items t c = body_over (classes_of c.args.names.now) (map sentence_of c.args.lines.now) c.loop-at.at c.loop-at.items.items c.loop-at.invariant.state
    (let l = length-map c.args.lines.now sentence_of in let q : length (map sentence_of c.args.lines.now) ≤ c.loop-at.at = omega arith in q)
