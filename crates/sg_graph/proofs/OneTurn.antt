-- A mutator's next statement leads to one graph and, with the same place for a new object of the major heap, to one book.
use Rattle.std.proofs.Common.{◌≡◌, ◌≢◌, ℕ, suc, ◌∷◌, sym, ap, ◌∙◌, subst, arith}
use Rattle.sg_program.specs.declared.program.Statement.{Statement}
use Rattle.sg_program.specs.declared.program.Statement.TheVariants.{New, NewV, Mature}
use Rattle.sg_program.specs.declared.program.Program.{Program}
use Rattle.sg_program.specs.declared.answers.Answer.{Answer}
use Rattle.sg_program.specs.declared.answers.Answer.TheVariants.{Full}
use Rattle.sg_program.specs.Scripts.{IsMature}
use Rattle.sg_graph.specs.Graph.{Graph, Mutator}
use Rattle.sg_graph.specs.Statements.{Answers}
use Rattle.sg_graph.specs.Book.{Book, Books}
use Rattle.sg_graph.specs.Epoch.{Said, Turn}
use Rattle.sg_graph.specs.Laws.{HasOneTurn}
use Rattle.sg_graph.proofs.OneAnswer.{the_answer, one_answer}
use Rattle.sg_graph.proofs.OneReport.{turn_graph, turn_book, made_old}

-- a want of room is told at a stop alone
not_full : (p : Program) (g : Graph) (m : Mutator) (b : Book) (k : ℕ) (s : Statement) (c : Book) → Answers p g m s Full → Books p g b k s Full c → ⊥
not_full p g m b k (New r class) c h x = x
not_full p g m b k (NewV r class count) c h x = x
not_full p g m b k (Mature r class) c h x = x
not_full p g m b k s c h x = h

its_answer : (p : Program) (g : Graph) (b : Book) (said : Said) (h : Graph) (c : Book) (t : Turn p g b said h c) →
    said.answer ≡ the_answer p g (g.mutator said.by) t.statement
its_answer p g b said h c t = one_answer p g (g.mutator said.by) t.statement said.answer t.does.0 room
  where
    room : said.answer ≢ Full
    room e = not_full p g (g.mutator said.by) b said.by t.statement c (subst (λ (a : Answer). Answers p g (g.mutator said.by) t.statement a) e t.does.0)
        (subst (λ (a : Answer). Books p g b said.by t.statement a c) e t.books)

pub has_one_turn : HasOneTurn
has_one_turn p g b said said' h h' c c' t u e agree =
    (same, turn_graph p g b b said h h' c c' t there, turn_book p g b said h h' c c' t there here)
  where
    both : (t.statement ∷ t.rest) ≡ (u.statement ∷ u.rest)
    both = sym t.next ∙ subst (λ k. (g.mutator k).script ≡ u.statement ∷ u.rest) (sym e) u.next

    statement : t.statement ≡ u.statement
    statement = cc both

    answer : said.answer ≡ said'.answer
    answer =
        its_answer p g b said h c t
        ∙ ap (λ s. the_answer p g (g.mutator said.by) s) statement
        ∙ ap (λ k. the_answer p g (g.mutator k) u.statement) e
        ∙ sym (its_answer p g b said' h' c' u)

    same : said ≡ said'
    same = λ i. record { by = e i; answer = answer i }

    there : Turn p g b said h' c'
    there = subst (λ (z : Said). Turn p g b z h' c') (sym same) u

    same_next : t.statement ≡ there.statement
    same_next = let q : (t.statement ∷ t.rest) ≡ (there.statement ∷ there.rest) = sym t.next ∙ there.next in cc q

    here : IsMature t.statement → c.address (suc g.count) ≡ c'.address (suc g.count)
    here mature =
        let made = made_old p g b said.by (g.mutator said.by) t.statement said.answer c mature t.does.0 t.books in
        let made' = made_old p g b said.by (g.mutator said.by) there.statement said.answer c' (subst IsMature same_next mature) there.does.0 there.books in
        agree (suc g.count) (record { new = omega arith; stands = made.stands; old = made.old })
        (record { new = omega arith; stands = made'.stands; old = made'.old })
