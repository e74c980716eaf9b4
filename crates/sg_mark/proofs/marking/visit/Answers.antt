use Rattle.std.proofs.Common.{◌≡◌, ℕ, Bool, false, Option, List, inl, inr, sym, ◌∙◌, subst, arith}
use Rattle.std.proofs.lemmas.Bool.{cases_Bool, false≢true}
use Rattle.sg_words.specs.Address.{word_at}
use Rattle.sg_space.specs.Space.{Contents}
use Rattle.sg_space.specs.Standing.{IsStanding}
use Rattle.sg_space.specs.Marks.{IsMarked}
use Rattle.sg_mark.specs.Gray.{marked_with, IsGray, HasVisited}
use Rattle.sg_mark.proofs.Places.{stands_at}
use Rattle.sg_mark.proofs.Marked.{is_now, now_is}
use Rattle.sg_mark.proofs.Grays.{mark_place, visited_old, visited_new, has_room, layout_kept}
use Rattle.sg_mark.proofs.marking.visit.Goals as goal

-- an object whose mark isn't read is none of those
off : (t : Contents) (owner : ℕ → Option ℕ) (marked : ℕ → Bool) (s : Contents) (gray : List ℕ) (a : ℕ) → IsGray t owner marked s gray → IsStanding owner a →
    (IsMarked s (word_at a) → ⊥) → marked_with marked gray (word_at a) ≡ false
off t owner marked s gray a is at none = elim (cases_Bool (marked_with marked gray (word_at a))) [
  | inl y ↦ absurd (none (now_is t owner is.partly.sound (word_at a) (stands_at owner a at) (marked_with marked gray) s is.partly.has y))
  | inr n ↦ n
]

pub marked-requires : goal.marked-requires
marked-requires c = let q = c.requires.gray in mark_place q.0 q.1 q.2 c.args.space.now c.args.gray.now.items q.3 c.args.a q.4

pub set_marked-requires : goal.set_marked-requires
set_marked-requires c = let q = c.requires.gray in mark_place q.0 q.1 q.2 c.args.space.now c.args.gray.now.items q.3 c.args.a q.4

pub push_reserved-requires : goal.push_reserved-requires
push_reserved-requires c =
    let q = c.requires.gray in
    let none : IsMarked c.args.space.now (word_at c.args.a) → ⊥ = λ m. false≢true (sym c.if-not-marked.true ∙ c.marked.ensures.1 m) in
    let n = off q.0 q.1 q.2 c.args.space.now c.args.gray.now.items c.args.a q.3 q.4 none in
    let room = has_room q.0 q.1 q.2 c.args.space.now c.args.gray.now.items q.3 c.args.a q.4 n in
    let most = c.requires.room in
    let len = c.args.gray.now.ok.0 in
    omega arith

pub returns-then-not-marked-clause-visited : goal.returns-then-not-marked-clause-visited
returns-then-not-marked-clause-visited c = λ t owner marked is at.
    let none : IsMarked c.args.space.now (word_at c.args.a) → ⊥ = λ m. false≢true (sym c.if-not-marked.true ∙ c.marked.ensures.1 m) in
    let n = off t owner marked c.args.space.now c.args.gray.now.items c.args.a is at none in
    subst (λ (l : List ℕ). HasVisited t owner marked c.args.gray.now.items c.args.a c.set_marked.new.self l) (sym c.push_reserved.ensures.items)
    (visited_new t owner marked c.args.space.now c.args.gray.now.items is c.args.a at n c.set_marked.new.self c.set_marked.ensures)

pub returns-then-not-marked-clause-layout : goal.returns-then-not-marked-clause-layout
returns-then-not-marked-clause-layout c =
    let q = c.requires.gray in
    let none : IsMarked c.args.space.now (word_at c.args.a) → ⊥ = λ m. false≢true (sym c.if-not-marked.true ∙ c.marked.ensures.1 m) in
    let n = off q.0 q.1 q.2 c.args.space.now c.args.gray.now.items c.args.a q.3 q.4 none in
    let v = visited_new q.0 q.1 q.2 c.args.space.now c.args.gray.now.items q.3 c.args.a q.4 n c.set_marked.new.self c.set_marked.ensures in
    layout_kept q.0 q.1 q.2 c.args.space.now c.set_marked.new.self c.args.gray.now.items _ q.3 v.gray

pub returns-else-not-marked-clause-visited : goal.returns-else-not-marked-clause-visited
returns-else-not-marked-clause-visited c = λ t owner marked is at.
    let on : IsMarked c.args.space.now (word_at c.args.a) = c.marked.ensures.0 c.if-not-marked.false in
    visited_old t owner marked c.args.space.now c.args.gray.now.items is c.args.a at
    (is_now t owner is.partly.sound (word_at c.args.a) (stands_at owner c.args.a at) (marked_with marked c.args.gray.now.items) c.args.space.now is.partly.has on)
