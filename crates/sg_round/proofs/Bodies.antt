-- The rules by which a worker writes a copy, and stores a slot or its card.
use Rattle.std.proofs.Common.{◌≡◌, ℕ, ◌+◌, ◌≤◌, ◌<◌, false, sym, refl, ap, ◌∙◌, subst, inl, inr, arith}
use Rattle.std.proofs.lemmas.Bool.{cases_eq}
use Rattle.sg_words.specs.Address.{byte_at}
use Rattle.sg_words.specs.Tags.{plain_word}
use Rattle.sg_words.specs.Lists.{In, has}
use Rattle.sg_words.specs.Words.{put, Words}
use Rattle.sg_words.proofs.Puts.{put-at, put-same, put-other}
use Rattle.sg_words.proofs.Members.{out, not-in}
use Rattle.sg_words.proofs.Objects.{sent-at}
use Rattle.sg_round.specs.Area.{card_at}
use Rattle.sg_round.specs.Worker.{Object, Body, Puts, Swap, Send, Dirty, On, Worker, size_for, idle, on}
use Rattle.sg_round.specs.Rules.{Nothing, Ends}
use Rattle.sg_round.specs.Round.{Start, Round}
use Rattle.sg_round.proofs.Relation.{Kept}
use Rattle.sg_round.proofs.Going.{staying, plain-words}
use Rattle.sg_round.proofs.Steps.{plain-not-fixed}
use Rattle.sg_round.proofs.Frame.{object-fits}
use Rattle.sg_round.proofs.Moves.{Before, walks, writing, handles, cards-ended, cards-marked}
use Rattle.sg_round.proofs.Looks.{target-of, same-target, settled-as, idle-stands}

module _ {t : Start} {others : ℕ → Type 0} {k : ℕ} {v : Words} {r : Round} where
  pub word-read : (a : Worker) (s : ℕ) (o : Object) (at j u : ℕ) → j < o.n + 2 → v.word (o.x + j) ≡ u → Before t others k v r (on a s (Body o at j)) →
      Kept t others k v r (on a s (Body o at j)) Nothing v (on a s (Puts o at j u))
  word-read a s o at j u less saw n =
      let q = n.stands.at in
      let tr = target-of (on a s (Body o at j)) s o.x n q.0.seen in
      let e = q.0.length in
      walks (on a s (Body o at j)) (On s (Puts o at j u)) n tt refl (λ at z h. h)
      (q.0, q.1, q.2, less, q.4, λ whole. sym saw ∙ plain-words n.opening.opening n.going o.x j o.class tr q.0.plain whole.1 q.2 (omega arith))

  pub word-written : (a : Worker) (s : ℕ) (o : Object) (at j u : ℕ) → Before t others k v r (on a s (Puts o at j u)) →
      Kept t others k v r (on a s (Puts o at j u)) Nothing (record v { word = put v.word (at + j) u }) (on a s (Body o at (j + 1)))
  word-written a s o at j u n =
      let q = n.stands.at in
      let less = q.3 in let low = q.2 in let f = object-fits o q.0.short in
      writing (on a s (Puts o at j u)) (On s (Body o at (j + 1))) at (size_for o) (at + j) u n tt refl (q.1 (at + j) (omega arith) (omega arith))
      (λ at z h. h) (
        q.0,
        q.1,
        (omega arith),
        (omega arith),
        (
          λ whole i lo hi top. elim (cases_eq i j) [
            | inl e ↦ put-at v.word (at + j) u (at + i) (ap (λ (z : ℕ). at + z) e) ∙ q.5 whole ∙ ap (λ (z : ℕ). t.words.word (o.x + z)) (sym e)
            | inr d ↦ put-other v.word (at + j) u (at + i) (λ e. d (omega arith)) ∙ q.4.0 whole i lo (omega arith) top
          ],
          λ i lo hi. absurd (omega arith),
        ),
      )

  pub zero-written : (a : Worker) (s : ℕ) (o : Object) (at j : ℕ) → o.n + 2 ≤ j → j < size_for o → Before t others k v r (on a s (Body o at j)) →
      Kept t others k v r (on a s (Body o at j)) Nothing (record v { word = put v.word (at + j) 0 }) (on a s (Body o at (j + 1)))
  zero-written a s o at j past less n =
      let q = n.stands.at in
      writing (on a s (Body o at j)) (On s (Body o at (j + 1))) at (size_for o) (at + j) 0 n tt refl (q.1 (at + j) (omega arith) (omega arith)) (λ at z h. h) (
        q.0,
        q.1,
        (omega arith),
        (omega arith),
        (
          λ whole i lo hi top. put-other v.word (at + j) 0 (at + i) (λ e. absurd (omega arith)) ∙ q.4.0 whole i lo (omega arith) top,
          λ i lo hi. elim (cases_eq i j) [
            | inl e ↦ put-at v.word (at + j) 0 (at + i) (ap (λ (z : ℕ). at + z) e)
            | inr d ↦ put-other v.word (at + j) 0 (at + i) (λ e. d (omega arith)) ∙ q.4.1 i lo (omega arith)
          ],
        ),
      )

  pub head-written : (a : Worker) (s : ℕ) (o : Object) (at j : ℕ) → size_for o ≤ j → Before t others k v r (on a s (Body o at j)) →
      Kept t others k v r (on a s (Body o at j)) Nothing (record v { word = put v.word at (plain_word o.class) }) (on a s (Swap o at))
  head-written a s o at j past n =
      let q = n.stands.at in
      let f = object-fits o q.0.short in
      writing (on a s (Body o at j)) (On s (Swap o at)) at (size_for o) at (plain_word o.class) n tt refl (q.1 at (omega arith) (omega arith)) (λ at z h. h) (
        q.0,
        q.1,
        (
          λ whole i lo hi top. elim (cases_eq i 0) [
            | inl e ↦ put-at v.word at (plain_word o.class) (at + i) (omega arith) ∙ sym q.0.plain ∙ ap t.words.word (let g : o.x ≡ o.x + i = omega arith in g)
            | inr d ↦ put-other v.word at (plain_word o.class) (at + i) (λ e. d (omega arith)) ∙ q.4.0 whole i (omega arith) (omega arith) top
          ],
          λ i lo hi. put-other v.word at (plain_word o.class) (at + i) (λ e. absurd (omega arith)) ∙ q.4.1 i lo (omega arith),
        ),
      )

  pub slot-sent : (a : Worker) (s to : ℕ) → Before t others k v r (on a s (Send to)) →
      Kept t others k v r (on a s (Send to)) (Ends s) (record v { word = put v.word s (byte_at to) }) (idle a)
  slot-sent a s to n =
      let q = n.stands.at in
      let a0 = on a s (Send to) in
      handles a0 a s (put v.word s (byte_at to)) v.card n tt q.1.slot refl
      (put-same v.word s (byte_at to) ∙ sym (sent-at r.m (t.words.word (r.source s)) q.0 q.1.held ∙ ap byte_at q.3))
      (λ y d. put-other v.word s (byte_at to) y d)
      (settled-as t r s q.0 q.1 (inl q.2))
      (cards-ended a0 s n (λ x card held young nm. not-in x r.moves nm (subst (λ (u : ℕ). In u r.moves) (same-target t r s q.0 x q.1 held) q.2)))
      (idle-stands a0 n tt (λ at z h. h))

  pub card-marked : (a : Worker) (s : ℕ) → Before t others k v r (on a s Dirty) →
      Kept t others k v r (on a s Dirty) (Ends s) (record v { card = put v.card (card_at t.area s) 1 }) (idle a)
  card-marked a s n =
      let q = n.stands.at in
      let a0 = on a s Dirty in
      handles a0 a s v.word (put v.card (card_at t.area s) 1) n tt q.1.slot refl (staying n.opening.opening n.going s q.0 q.1 (unmoved n)) (λ y d. refl)
      (settled-as t r s q.0 q.1 (inr q.3)) (cards-marked a0 s q.0 n q.2 q.1.held q.1.young q.3) (idle-stands a0 n tt (λ at z h. h))
    where
      unmoved : (n : Before t others k v r (on a s Dirty)) → has n.stands.at.0 r.moves ≡ false
      unmoved n = let q = n.stands.at in elim q.3 [
        | inl h ↦ (n.going.failed q.0 h).2
        | inr h ↦ out q.0 r.moves (λ i. (let m = n.going.moved q.0 i in plain-not-fixed (t.words.word q.0) m.1.0 h.0 m.1.1 h.1))
      ]
