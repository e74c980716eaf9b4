-- A major pause has one graph, one book and one report.
use Rattle.std.proofs.Common.{◌≡◌, ℕ, zero, suc, Bool, inl, inr, List, sym, ap, ◌∙◌, subst, arith}
use Rattle.std.proofs.Math.Path.{fun_ext}
use Rattle.std.proofs.lemmas.Bool.{cases_lt}
use Rattle.sg_program.specs.declared.program.Program.{Program}
use Rattle.sg_graph.specs.declared.reports.MajorReport.{MajorReport}
use Rattle.sg_graph.specs.Graph.{Graph}
use Rattle.sg_graph.specs.Book.{Book, IsInBlock}
use Rattle.sg_graph.specs.Tiling.{IsTiled}
use Rattle.sg_graph.specs.Major.{IsMajorRoot, HasCount, StandsNow, IsFreed, IsMajorPause}
use Rattle.sg_replay.proofs.Keeping as keeping
use Rattle.sg_replay.proofs.Tiling.{StandSame, one_tiling, one_count as one_fragments, one_next, one_limit}
use Rattle.sg_replay.proofs.Counting.{one_count}

module _ (p : Program) (g : Graph) (b : Book) (ambiguous : List ℕ) (r s : MajorReport) (h i : Graph) (c d : Book)
    (x : IsMajorPause p g b ambiguous r h c) (y : IsMajorPause p g b ambiguous s i d) where
  one_kept : x.keeps.kept ≡ y.keeps.kept
  one_kept = keeping.one_kept p g (IsMajorRoot p g b ambiguous) h i x.keeps.kept y.keeps.kept x.keeps.pause y.keeps.pause

  pub one_graph : h ≡ i
  one_graph = keeping.one_graph p g (IsMajorRoot p g b ambiguous) h i x.keeps.kept y.keeps.kept x.keeps.pause y.keeps.pause

  stands : (n : ℕ) → c.stands n ≡ d.stands n
  stands zero = x.keeps.nothing ∙ sym y.keeps.nothing
  stands (suc n) = x.keeps.stands (suc n) (omega arith) ∙ ap (λ (kept : ℕ → Bool). kept (suc n)) one_kept ∙ sym (y.keeps.stands (suc n) (omega arith))

  same : StandSame c d
  same = record {
    stands = stands;
    address = λ n. x.stays.address n ∙ sym (y.stays.address n);
    section = λ n. x.stays.section n ∙ sym (y.stays.section n);
  }

  tiled : IsTiled p h d s.pieces
  tiled = subst (λ z. IsTiled p z d s.pieces) (sym one_graph) y.tiled

  one_owed : (j : ℕ) → c.owed j ≡ d.owed j
  one_owed j = elim (cases_lt j p.config.blocks) [
    | inl l ↦ keeping.one_test (c.owed j) (d.owed j) ((n : ℕ) × IsInBlock p b n j) (x.owes.used j l) (y.owes.used j l)
    | inr past ↦ x.owes.beyond j past ∙ sym (y.owes.beyond j past)
  ]

  one_from : (k : ℕ) → c.from k ≡ d.from k
  one_from k = (x.emptied k).0 ∙ sym (y.emptied k).0

  one_to : (k : ℕ) → c.to k ≡ d.to k
  one_to k = (x.emptied k).1 ∙ sym (y.emptied k).1

  pub one_book : c ≡ d
  one_book = λ j. record {
    stands = fun_ext stands j;
    address = fun_ext same.address j;
    section = fun_ext same.section j;
    owed = fun_ext one_owed j;
    fragments = one_fragments p h c d r.pieces s.pieces same x.tiled tiled j;
    next = fun_ext (one_next p h c d r.pieces s.pieces same x.tiled tiled) j;
    limit = fun_ext (one_limit p h c d r.pieces s.pieces same x.tiled tiled) j;
    from = fun_ext one_from j;
    to = fun_ext one_to j;
  }

  kept : r.kept ≡ s.kept
  kept = one_count (StandsNow c) r.kept s.kept x.tells.kept (subst (λ z. HasCount (StandsNow z) s.kept) (sym one_book) y.tells.kept)

  freed : r.freed ≡ s.freed
  freed = one_count (IsFreed b c) r.freed s.freed x.tells.freed (subst (λ z. HasCount (IsFreed b z) s.freed) (sym one_book) y.tells.freed)

  pub one_report : r ≡ s
  one_report = λ j. record { kept = kept j; freed = freed j; pieces = one_tiling p h c d r.pieces s.pieces same x.tiled tiled j }
