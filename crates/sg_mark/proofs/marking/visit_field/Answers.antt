use Rattle.std.proofs.Common.{ℕ, inl, inr, ◌∙◌, subst, arith}
use Rattle.sg_words.specs.Address.{word_at}
use Rattle.sg_space.specs.Standing.{IsStanding}
use Rattle.sg_mark.specs.Gray.{marked_with, HasVisited}
use Rattle.sg_mark.proofs.Places.{inside}
use Rattle.sg_mark.proofs.Objects.{word_kept}
use Rattle.sg_mark.proofs.Grays.{grown_none}
use Rattle.sg_mark.proofs.marking.visit_field.Goals as goal

pub returns-in-Some-clause-visited : goal.returns-in-Some-clause-visited
returns-in-Some-clause-visited c = λ t owner marked is field.
    let told = c.in-Some.ensures.0.0 in
    let same = c.in-Some.ensures.1 ∙ c.read.ensures.value ∙ word_kept t owner (marked_with marked c.args.gray.now.items) c.args.space.now is.partly (word_at c.args.field) field.behind in
    let stand : IsStanding owner c.in-Some.target = elim field.refers [
      | inl zero ↦ absurd (omega (arith, c.in-Some.ensures.1))
      | inr at ↦ (at.0, at.1, same ∙ at.2)
    ] in
    subst (λ (v : ℕ). HasVisited t owner marked c.args.gray.now.items v c.visit.new.space c.visit.new.gray.items) same (c.visit.ensures.visited t owner marked is stand)

pub returns-in_default-clause-visited : goal.returns-in_default-clause-visited
returns-in_default-clause-visited c = λ t owner marked is field. record {
  gray = is;
  grown = grown_none _ c.args.gray.now.items;
  visited = λ k o e.
      let same = c.read.ensures.value ∙ word_kept t owner (marked_with marked c.args.gray.now.items) c.args.space.now is.partly (word_at c.args.field) field.behind in
      let lies = inside t owner is.partly.sound k o in
      let low = lies.0 in
      let high = lies.1 in
      let n = is.partly.contents.layout.nursery_most in
      let b = is.partly.contents.layout.blocks_most in
      let p = is.partly.contents.layout.pages in
      absurd (c.in_default.ensures (omega arith, omega arith, omega arith));
}
