use Rattle.std.proofs.Common.{◌≡◌, ◌≢◌, ℕ, ◌+◌, ◌-◌, ◌*◌, ◌/◌, ◌≤◌, sym, ap, ◌∙◌, subst, arith}
use Rattle.sg_words.specs.Sections.{large_base}
use Rattle.sg_space.specs.Standing.{page_in, page_base, IsFront, HoldsWord}
use Rattle.sg_space.proofs.Slots.{IsOnPage, page_free, page_front, page_above, page_behind, none_weaker}
use Rattle.sg_space.proofs.space.Space.in_pages.Goals as goal
use Rattle.sg_space.proofs.space.Space.in_pages.Goals.{After-page-first}

base_is : (c : goal.After-page-first) → c.large_word-base.result ≡ large_base c.args.self.now.layout
base_is c = c.large_word-base.ensures ∙ ap large_base c.layout.ensures.layout

on_page : (c : goal.After-page-first) → IsOnPage c.args.self.now ((c.args.x - c.large_word-base.result) / 128) c.args.x
on_page c =
    let e = base_is c in
    let from = c.requires.from in
    let to = c.requires.to in
    record { there = omega arith; from = omega arith; to = omega arith }

named : (c : goal.After-page-first) → c.page-first.result ≢ 0 → page_in c.args.self.now ((c.args.x - c.large_word-base.result) / 128) ≡
    (c.page-first.result - 1) + 1
named c some = let e = c.page-first.ensures in omega arith

front_is : (c : goal.After-page-first) → c.large_word-base.result + 128 * (c.page-first.result - 1) ≡ page_base c.args.self.now.layout (c.page-first.result - 1)
front_is c = ap (λ (n : ℕ). n + 128 * (c.page-first.result - 1)) (base_is c)

above : (c : goal.After-page-first) → c.page-first.result ≢ 0 → page_base c.args.self.now.layout (c.page-first.result - 1) ≤ c.args.x
above c some = page_above c.args.self.now _ c.args.x (on_page c) c.requires.sound (c.page-first.result - 1) (named c some)

pub returns-then-first-eq0 : goal.returns-then-first-eq0
returns-then-first-eq0 c = page_free c.args.self.now _ c.args.x (on_page (goal.at.returns-then-first-eq0 c).After-page-first) (sym c.page-first.ensures ∙
    c.if-first-eq0.true)

pub returns-else-first-eq0 : goal.returns-else-first-eq0
returns-else-first-eq0 c =
    let o = (goal.at.returns-else-first-eq0 c).After-page-first in
    none_weaker (HoldsWord c.args.self.now c.args.x) c.reaching.result
    (page_behind c.args.self.now _ c.args.x (on_page o) (c.page-first.result - 1) _ (named o c.if-first-eq0.false) (front_is o)) c.reaching.ensures

pub reaching-requires-clause-front : goal.reaching-requires-clause-front
reaching-requires-clause-front c =
    let o = (goal.at.reaching-requires-clause-front c).After-page-first in
    subst (IsFront c.args.self.now) (sym (front_is o)) (page_front c.args.self.now _ c.args.x (on_page o) (c.page-first.result - 1)
    (named o c.if-first-eq0.false))

pub reaching-requires-clause-above : goal.reaching-requires-clause-above
reaching-requires-clause-above c =
    let o = (goal.at.reaching-requires-clause-above c).After-page-first in
    subst (λ n. n ≤ c.args.x) (sym (front_is o)) (above o c.if-first-eq0.false)

pub overflow_mul-first : goal.overflow_mul-first
overflow_mul-first c = let l = above (goal.at.overflow_mul-first c).After-page-first c.if-first-eq0.false in omega arith

pub overflow_add-base : goal.overflow_add-base
overflow_add-base c = let o = (goal.at.overflow_add-base c).After-page-first in let l = above o c.if-first-eq0.false in let i = base_is o in omega arith
