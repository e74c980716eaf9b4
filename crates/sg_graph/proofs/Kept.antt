-- What an ambiguous word points into stands after a pause, where it stood.
use Rattle.std.proofs.Common.{◌≡◌, ◌≢◌, ℕ, zero, suc, true, List, inl, inr, sym, ap, ◌∙◌, subst, arith, le_refl}
use Rattle.std.specs.List.{Contains}
use Rattle.sg_words.specs.Address.{byte_at}
use Rattle.sg_words.specs.declared.pieces.Move.{Move}
use Rattle.sg_program.specs.declared.program.Program.{Program}
use Rattle.sg_graph.specs.declared.reports.MinorReport.{MinorReport}
use Rattle.sg_graph.specs.Graph.{Graph}
use Rattle.sg_graph.specs.Book.{Book, IsWordOf, IsApart}
use Rattle.sg_graph.specs.Pause.{IsPointedInto, Reach}
use Rattle.sg_graph.specs.Minor.{move_of, IsMinorPause}
use Rattle.sg_graph.specs.Laws.{KeepsPointedInto, KeepsInMajor}

-- a root is reached by any number of rounds
root_stays : (p : Program) (g : Graph) (root : ℕ → Type 0) (k n : ℕ) → root n → Reach p g root k n
root_stays p g root zero n r = r
root_stays p g root (suc k) n r = inl (root_stays p g root k n r)

-- a standing object's first word is its own
first_word : (g : Graph) (b : Book) (n : ℕ) → n ≢ 0 → b.stands n ≡ true → IsWordOf g b n (b.address n)
first_word g b n d q = record { some = omega (arith, d); stands = q; above = le_refl _; below = omega arith }

kept_in_place : (p : Program) (g : Graph) (b : Book) (ambiguous : List ℕ) (report : MinorReport) (h : Graph) (c : Book) → IsApart p g b → IsMinorPause p g b ambiguous report h c →
    (n : ℕ) → n ≢ 0 → b.stands n ≡ true → IsPointedInto g b ambiguous n → (c.stands n ≡ true) × (c.address n ≡ b.address n)
kept_in_place p g b ambiguous report h c apart pause n d q points = (
  stands,
  elim (pause.stays.still n d stands) [
    | inl s ↦ s.address
    | inr m ↦ absurd (moved m)
  ],
)
  where
    stands : c.stands n ≡ true
    stands = pause.keeps.stands n d ∙ (pause.keeps.pause.keeps n d).1 (root_stays p g _ g.count n (inl (d, q, inr (inr (inl points)))))

    moved : Contains report.moves (move_of b c n) → ⊥
    moved m =
        let o = pause.tells.moves (move_of b c n) m in
        let young = o.1.young in
        let same : byte_at (b.address n) ≡ byte_at (b.address o.0) = ap (λ (move : Move). move.from) o.3 in
        let at : b.address n ≡ b.address o.0 = omega arith in
        let e : n ≡ o.0 = apart.apart n o.0 (b.address n) (first_word g b n d q) (subst (λ x. IsWordOf g b o.0 x) (sym at) (first_word g b o.0 young.0 young.1)) in
        o.1.loose (young, subst (IsPointedInto g b ambiguous) e points)

pub keeps_pointed_into : KeepsPointedInto
keeps_pointed_into = record {
  stands = λ p g b ambiguous report h c apart pause n d q points. (kept_in_place p g b ambiguous report h c apart pause n d q points).0;
  stays = λ p g b ambiguous report h c apart pause n d q points. (kept_in_place p g b ambiguous report h c apart pause n d q points).1;
}

pub keeps_in_major : KeepsInMajor
keeps_in_major p g b ambiguous report h c pause n d q points =
    pause.keeps.stands n d ∙ (pause.keeps.pause.keeps n d).1 (root_stays p g _ g.count n (inl (d, q, inl points)))
