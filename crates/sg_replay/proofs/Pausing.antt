-- A minor pause that copies in order has one graph, one book and one report.
use Rattle.std.proofs.Common.{◌≡◌, ℕ, zero, suc, inl, inr, List, sym, ap, ◌∙◌, subst, arith}
use Rattle.std.proofs.Math.Path.{fun_ext}
use Rattle.std.proofs.lemmas.Bool.{cases_Bool}
use Rattle.sg_words.specs.Lists.{has}
use Rattle.sg_words.proofs.Members.{not-in}
use Rattle.sg_program.specs.declared.program.Program.{Program}
use Rattle.sg_graph.specs.declared.reports.MinorReport.{MinorReport}
use Rattle.sg_graph.specs.Graph.{Graph}
use Rattle.sg_graph.specs.Book.{Book, IsApart}
use Rattle.sg_graph.specs.Pause.{IsRoot}
use Rattle.sg_graph.specs.Minor.{IsMinorPause, Telling}
use Rattle.sg_graph.specs.Tiling.{IsTiled}
use Rattle.sg_graph.specs.Copies.{AreCopied, CopiesInOrder}
use Rattle.sg_replay.proofs.Keeping as keeping
use Rattle.sg_replay.proofs.Copying.{one_found, StandsAlike, one_copy}
use Rattle.sg_replay.proofs.Tiling.{StandSame, one_tiling, one_count, one_next, one_limit}
use Rattle.sg_replay.proofs.Telling.{one_pins, one_moves, one_fails, one_spares}

module _ (p : Program) (g : Graph) (b : Book) (apart : IsApart p g b) (ambiguous : List ℕ) (r s : MinorReport) (h i : Graph) (c d : Book)
    (x : IsMinorPause p g b ambiguous r h c) (y : IsMinorPause p g b ambiguous s i d) (copies : CopiesInOrder p g b ambiguous c)
    (copies' : CopiesInOrder p g b ambiguous d) where
  one_kept : x.keeps.kept ≡ y.keeps.kept
  one_kept = keeping.one_kept p g (IsRoot p g b ambiguous) h i x.keeps.kept y.keeps.kept x.keeps.pause y.keeps.pause

  pub one_graph : h ≡ i
  one_graph = keeping.one_graph p g (IsRoot p g b ambiguous) h i x.keeps.kept y.keeps.kept x.keeps.pause y.keeps.pause

  found : copies.found ≡ copies'.found
  found = one_found p g b ambiguous c d copies copies'

  copied : AreCopied p g b d b copies.found
  copied = subst (λ (names : List ℕ). AreCopied p g b d b names) (sym found) copies'.copied

  stands : (n : ℕ) → c.stands n ≡ d.stands n
  stands zero = x.keeps.nothing.0 ∙ sym y.keeps.nothing.0
  stands (suc n) = x.keeps.stands (suc n) (omega arith) ∙ ap (λ (kept : ℕ → _). kept (suc n)) one_kept ∙ sym (y.keeps.stands (suc n) (omega arith))

  one_place : (n : ℕ) → StandsAlike c d n
  one_place n = elim (cases_Bool (has n copies.found)) [
    | inl in_found ↦ one_copy p g b c d b copies.found copies.copied copied n in_found
    | inr out ↦ (
        let still = copies.others n (not-in n copies.found out) in
        let still' = copies'.others n (not-in n copies'.found (ap (λ (names : List ℕ). has n names) (sym found) ∙ out)) in
        (still.address ∙ sym still'.address, still.section ∙ sym still'.section)
        )
  ]

  same : StandSame c d
  same = record { stands = stands; address = λ n. (one_place n).0; section = λ n. (one_place n).1 }

  tiled : IsTiled p h d s.pieces
  tiled = subst (λ z. IsTiled p z d s.pieces) (sym one_graph) y.tidies.tiled

  one_from : (k : ℕ) → c.from k ≡ d.from k
  one_from k = (x.tidies.emptied k).0 ∙ sym (y.tidies.emptied k).0

  one_to : (k : ℕ) → c.to k ≡ d.to k
  one_to k = (x.tidies.emptied k).1 ∙ sym (y.tidies.emptied k).1

  pub one_book : c ≡ d
  one_book = λ j. record {
    stands = fun_ext stands j;
    address = fun_ext same.address j;
    section = fun_ext same.section j;
    owed = (x.tidies.owed ∙ sym y.tidies.owed) j;
    fragments = one_count p h c d r.pieces s.pieces same x.tidies.tiled tiled j;
    next = fun_ext (one_next p h c d r.pieces s.pieces same x.tidies.tiled tiled) j;
    limit = fun_ext (one_limit p h c d r.pieces s.pieces same x.tidies.tiled tiled) j;
    from = fun_ext one_from j;
    to = fun_ext one_to j;
  }

  there : Telling p g b ambiguous s c
  there = subst (λ z. Telling p g b ambiguous s z) (sym one_book) y.tells

  pub one_report : r ≡ s
  one_report = λ j. record {
    pins = one_pins p g b apart ambiguous c r s x.tells there j;
    moves = one_moves p g b apart ambiguous c r s x.tells there j;
    fails = one_fails p g b apart ambiguous c r s x.tells there j;
    spares = one_spares p g b apart ambiguous c r s x.tells there j;
    pieces = one_tiling p h c d r.pieces s.pieces same x.tidies.tiled tiled j;
  }
