-- What is told of a pause is determined by the book after it.
use Rattle.std.proofs.Common.{◌≡◌, ℕ, inl, inr, List, sym, ap, ◌∙◌, subst, arith}
use Rattle.std.specs.List.{Contains}
use Rattle.sg_words.specs.Address.{byte_at}
use Rattle.sg_words.specs.declared.pieces.Move.{Move}
use Rattle.sg_program.specs.declared.program.Program.{Program}
use Rattle.sg_graph.specs.declared.reports.MinorReport.{MinorReport}
use Rattle.sg_graph.specs.Graph.{Graph}
use Rattle.sg_graph.specs.Book.{Book, Young, Old, IsApart}
use Rattle.sg_graph.specs.Minor.{IsLoose, HasMoved, HasFailed, move_of, Telling}
use Rattle.sg_replay.proofs.Rising.{one_by_key, one_by_order}
use Rattle.sg_replay.proofs.Copying.{one_standing}

module _ (p : Program) (g : Graph) (b : Book) (apart : IsApart p g b) (ambiguous : List ℕ) (c : Book) where
  -- an object of one address with another loose one is that one
  one_loose : (m n : ℕ) → IsLoose g b ambiguous c m → IsLoose g b ambiguous c n → byte_at (b.address m) ≡ byte_at (b.address n) → m ≡ n
  one_loose m n x y e = one_standing p g b apart m n x.young.0 x.young.1 y.young.0 y.young.1 (omega arith)

  -- none both moved and failed
  not_both : (spares n : ℕ) → IsLoose g b ambiguous c n → HasMoved p g b c n → HasFailed p g b c spares n → ⊥
  not_both spares n loose moved failed = let e : Young ≡ Old = sym loose.young.2 ∙ sym failed.still.section ∙ moved.goes.old in cc e

  moves_too : (x y : MinorReport) → Telling p g b ambiguous x c → Telling p g b ambiguous y c → (move : Move) → Contains x.moves move → Contains y.moves move
  moves_too x y t u move i = let m = t.moves move i in elim (u.loose m.0 m.1) [
    | inl there ↦ subst (λ z. Contains y.moves z) (sym m.3) there
    | inr fails ↦ (
        let f = u.fails (byte_at (b.address m.0)) fails in
        absurd (not_both y.spares m.0 m.1 m.2 (subst (λ z. HasFailed p g b c y.spares z) (sym (one_loose m.0 f.0 m.1 f.1 f.3)) f.2))
        )
  ]

  fails_too : (x y : MinorReport) → Telling p g b ambiguous x c → Telling p g b ambiguous y c → (a : ℕ) → Contains x.fails a → Contains y.fails a
  fails_too x y t u a i = let f = t.fails a i in elim (u.loose f.0 f.1) [
    | inl moves ↦ (
        let m = u.moves (move_of b c f.0) moves in
        let at : byte_at (b.address f.0) ≡ byte_at (b.address m.0) = ap (λ (move : Move). move.from) m.3 in
        absurd (not_both x.spares f.0 f.1 (subst (λ z. HasMoved p g b c z) (sym (one_loose f.0 m.0 f.1 m.1 at)) m.2) f.2)
        )
    | inr there ↦ subst (λ z. Contains y.fails z) (sym f.3) there
  ]

  module _ (x y : MinorReport) (t : Telling p g b ambiguous x c) (u : Telling p g b ambiguous y c) where
    pub one_pins : x.pins ≡ y.pins
    one_pins = one_by_order x.pins y.pins t.pins_in_order u.pins_in_order (λ a i. (u.pins a).1 ((t.pins a).0 i)) (λ a i. (t.pins a).1 ((u.pins a).0 i))

    pub one_moves : x.moves ≡ y.moves
    one_moves = one_by_key (λ (move : Move). move.from) x.moves y.moves t.moves_in_order u.moves_in_order (moves_too x y t u) (moves_too y x u t)

    pub one_fails : x.fails ≡ y.fails
    one_fails = one_by_order x.fails y.fails t.fails_in_order u.fails_in_order (fails_too x y t u) (fails_too y x u t)

    pub one_spares : x.spares ≡ y.spares
    one_spares = let l = t.spares in let m = u.spares in omega arith
