-- A script gets shorter by one statement for each answer.
use Rattle.std.proofs.Common.{rules, ◌≡◌, ◌≢◌, ℕ, ◌+◌, true, List, [], ◌∷◌, length, refl, sym, ap, ◌∙◌, subst, inl, inr, arith}
use Rattle.std.proofs.lemmas.Bool.{cases_eq}
use Rattle.sg_words.proofs.Puts.{put-same, put-other}
use Rattle.sg_program.specs.declared.program.Program.{Program}
use Rattle.sg_program.specs.declared.program.Statement.{Statement}
use Rattle.sg_program.specs.declared.program.Statement.TheVariants.{New, NewV, Mature, Put, Get, PutD, GetD, Num, Move, Hide, Unhide, Drop, Push, Pop, GPut, GGet, WSet, WGet, Final, NextFin}
use Rattle.sg_program.specs.declared.answers.Answer.{Answer}
use Rattle.sg_program.specs.declared.answers.Answer.TheVariants.{At, Number, Fine}
use Rattle.sg_graph.specs.declared.reports.Service.{Service}
use Rattle.sg_graph.specs.Graph.{Graph, Mutator, Entry, advanced}
use Rattle.sg_graph.specs.Statements.{heap_after, hands_after, popped}
use Rattle.sg_graph.specs.Book.{Book}
use Rattle.sg_graph.specs.Epoch.{Said, Explains, answers_of}
use Rattle.sg_graph.specs.Stop.{Asked, Placing, Serves}
use Rattle.sg_load.specs.Summary.{answers_in_services}

-- a statement changes no mutator but by what it leaves in its own hands
same_mutators : (p : Program) (g : Graph) (k : ℕ) (m : Mutator) (s : Statement) (a : Answer) → (heap_after p g k m s a).mutator ≡ g.mutator
same_mutators p g k m (New r class) (At name) = refl
same_mutators p g k m (NewV r class count) (At name) = refl
same_mutators p g k m (Mature r class) (At name) = refl
same_mutators p g k m (Put r i s) Fine = refl
same_mutators p g k m (PutD r i s) Fine = refl
same_mutators p g k m (GPut x r) Fine = refl
same_mutators p g k m (WSet w r long) Fine = refl
same_mutators p g k m (NextFin r) (At name) = refl
same_mutators p g k m s a = refl

popped_ended : (m : Mutator) (r : ℕ) (stack : List Entry) → (popped m r stack).ended ≡ m.ended
popped_ended m r [] = refl
popped_ended m r (top ∷ stack) = refl

-- and doesn't end it
same_ended : (m : Mutator) (s : Statement) (a : Answer) → (hands_after m s a).ended ≡ m.ended
same_ended m (New r class) (At name) = refl
same_ended m (New r class) a = refl
same_ended m (NewV r class count) (At name) = refl
same_ended m (NewV r class count) a = refl
same_ended m (Mature r class) (At name) = refl
same_ended m (Mature r class) a = refl
same_ended m (Get d r i) (At target) = refl
same_ended m (Get d r i) a = refl
same_ended m (GetD d r i) (Number n) = refl
same_ended m (GetD d r i) a = refl
same_ended m (Num d n) a = refl
same_ended m (Move d s) a = refl
same_ended m (Hide d s offset) Fine = refl
same_ended m (Hide d s offset) a = refl
same_ended m (Unhide d s) (At name) = refl
same_ended m (Unhide d s) a = refl
same_ended m (Drop r) a = refl
same_ended m (Push r) a = refl
same_ended m (Pop r) a = popped_ended m r m.stack
same_ended m (GGet r x) (At name) = refl
same_ended m (GGet r x) a = refl
same_ended m (WGet r w) (At name) = refl
same_ended m (WGet r w) a = refl
same_ended m (Final r) Fine = refl
same_ended m (NextFin r) (At name) = refl
same_ended m (NextFin r) a = refl
same_ended m s a = refl

-- each mutator that has ended has no statement left
abbrev pub AreDone : Graph → Type 0
AreDone g = (k : ℕ) → (g.mutator k).ended ≡ true → (g.mutator k).script ≡ []

module _ (p : Program) (g : Graph) (by : ℕ) (s : Statement) (rest : List Statement) (a : Answer) (h : Graph) (next : (g.mutator by).script ≡ s ∷ rest)
    (is : h ≡ advanced (heap_after p g by (g.mutator by) s a) by (hands_after (g.mutator by) s a) rest) where
  at_own : h.mutator by ≡ record (hands_after (g.mutator by) s a) { script = rest }
  at_own = ap (λ (x : Graph). x.mutator by) is ∙ put-same (heap_after p g by (g.mutator by) s a).mutator by (record (hands_after (g.mutator by) s a) { script = rest })

  pub at_other : (k : ℕ) → k ≢ by → h.mutator k ≡ g.mutator k
  at_other k other =
      ap (λ (x : Graph). x.mutator k) is ∙ put-other (heap_after p g by (g.mutator by) s a).mutator by (record (hands_after (g.mutator by) s a) { script = rest }) k other
      ∙ ap (λ (f : ℕ → Mutator). f k) (same_mutators p g by (g.mutator by) s a)

  pub shorter : length (h.mutator by).script + 1 ≡ length (g.mutator by).script
  shorter = let after = ap (λ (m : Mutator). length m.script) at_own in let before = ap length next in omega (arith, after, before)

  still_done : AreDone g → AreDone h
  still_done done k ended =
      elim (cases_eq k by) [
        | inl e ↦
            let was : (g.mutator by).ended ≡ true =
            sym (same_ended (g.mutator by) s a) ∙ sym (ap (λ (m : Mutator). m.ended) at_own) ∙ ap (λ (j : ℕ). (h.mutator j).ended) (sym e) ∙ ended in
            let clash : s ∷ rest ≡ [] = sym next ∙ done by was in
            absurd cc
        | inr n ↦ ap (λ (m : Mutator). m.script) (at_other k n) ∙ done k (ap (λ (m : Mutator). m.ended) (sym (at_other k n)) ∙ ended)
      ]

pub own_first : (k : ℕ) (said : Said) (order : List Said) → said.by ≡ k → answers_of k (said ∷ order) ≡ said.answer ∷ answers_of k order
own_first k said order e = search (rules, e)

pub other_first : (k : ℕ) (said : Said) (order : List Said) → said.by ≢ k → answers_of k (said ∷ order) ≡ answers_of k order
other_first k said order n = search (rules, n)

-- the statements of an order
pub explained : (p : Program) (g : Graph) (b : Book) (order : List Said) (h : Graph) (c : Book) → Explains p g b order h c → (k : ℕ) →
    length (answers_of k order) + length (h.mutator k).script ≡ length (g.mutator k).script
explained p g b [] h c (same, books) k = let e = ap (λ (x : Graph). length (x.mutator k).script) same in omega (arith, e)
explained p g b (said ∷ order) h c (h1, c1, turn, more) k =
    let rest = explained p h1 c1 order h c more k in
    elim (cases_eq said.by k) [
      | inl e ↦
          let one = shorter p g said.by turn.statement turn.rest said.answer h1 turn.next turn.does.1 in
          let here = ap (λ (j : ℕ). length (h1.mutator j).script) e in
          let there = ap (λ (j : ℕ). length (g.mutator j).script) e in
          let first = ap length (own_first k said order e) in
          omega (arith, rest, one, here, there, first)
      | inr n ↦
          let same = ap (λ (m : Mutator). length m.script) (at_other p g said.by turn.statement turn.rest said.answer h1 turn.next turn.does.1 k (λ e. n (sym e))) in
          let first = ap length (other_first k said order n) in
          omega (arith, rest, same, first)
    ]

pub other_service : (k : ℕ) (service : Service) (served : List Service) → service.mutator ≢ k → answers_in_services k (service ∷ served) ≡ answers_in_services k served
other_service k service served n = search (rules, n)

pub own_service : (k : ℕ) (service : Service) (served : List Service) → service.mutator ≡ k → answers_in_services k (service ∷ served) ≡ service.answer ∷ answers_in_services k served
own_service k service served e = search (rules, e)

-- what a stop serves
pub served_answers : (p : Program) (how : Placing) (g : Graph) (b : Book) (requests : List Asked) (served : List Service) (h : Graph) (c : Book) →
    Serves p how g b requests served h c → (k : ℕ) → length (answers_in_services k served) + length (h.mutator k).script ≡ length (g.mutator k).script
served_answers p how g b [] [] h c (same, books) k = let e = ap (λ (x : Graph). length (x.mutator k).script) same in omega (arith, e)
served_answers p how g b [] (service ∷ served) h c s k = absurd s
served_answers p how g b (asked ∷ requests) [] h c s k = absurd s
served_answers p how g b (asked ∷ requests) (service ∷ served) h c (h1, c1, is, more) k =
    let rest = served_answers p how h1 c1 requests served h c more k in
    elim (cases_eq asked.by k) [
      | inl e ↦
          let one = shorter p g asked.by is.statement is.rest is.answer h1 is.next is.does.1 in
          let here = ap (λ (j : ℕ). length (h1.mutator j).script) e in
          let there = ap (λ (j : ℕ). length (g.mutator j).script) e in
          let first = ap length (own_service k service served (is.mutator ∙ e)) in
          omega (arith, rest, one, here, there, first)
      | inr n ↦
          let same = ap (λ (m : Mutator). length m.script) (at_other p g asked.by is.statement is.rest is.answer h1 is.next is.does.1 k (λ e. n (sym e))) in
          let first = ap length (other_service k service served (λ e. n (sym is.mutator ∙ e))) in
          omega (arith, rest, same, first)
    ]

pub served_done : (p : Program) (how : Placing) (g : Graph) (b : Book) (requests : List Asked) (served : List Service) (h : Graph) (c : Book) →
    Serves p how g b requests served h c → AreDone g → AreDone h
served_done p how g b [] [] h c (same, books) done = subst AreDone (sym same) done
served_done p how g b [] (service ∷ served) h c s done = absurd s
served_done p how g b (asked ∷ requests) [] h c s done = absurd s
served_done p how g b (asked ∷ requests) (service ∷ served) h c (h1, c1, is, more) done =
    served_done p how h1 c1 requests served h c more (still_done p g asked.by is.statement is.rest is.answer h1 is.next is.does.1 done)
