-- Where no slot is left the words are the image of the opening.
use Rattle.std.proofs.Common.{◌≡◌, ◌≢◌, ℕ, ◌+◌, ◌≤◌, ◌<◌, ◌⊎◌, cond, Bool, true, false, List, sym, refl, ap, ◌∙◌, subst, inl, inr, arith}
use Rattle.std.proofs.lemmas.Bool.{cond-true, cond-false, cases_Bool}
use Rattle.sg_words.specs.Address.{byte_at}
use Rattle.sg_words.specs.Tags.{plain_word}
use Rattle.sg_words.specs.Lists.{In, has}
use Rattle.sg_words.specs.Objects.{size_of, sent}
use Rattle.sg_words.specs.Reach.Reached.{Root, Next}
use Rattle.sg_words.proofs.Members.{out, not-in}
use Rattle.sg_round.specs.Area.{Area, IsYoung, is_strong, Traces}
use Rattle.sg_round.specs.Image.{IsImage}
use Rattle.sg_round.specs.Round.{Owner, Nobody, Claimed, Target, Round, is_claimed, is_target, IsOpening, Slot, Given, Copied, Failed, IsSettled, IsGoing}
use Rattle.sg_round.proofs.Going.{target-old, target-zone, target-same, target-clear, free-clear, free-source, below-free, slot-word}
use Rattle.sg_round.proofs.Steps.{plain-not-fixed}
use Rattle.sg_round.proofs.Copies.{common, slot-in, copied-word}

pub at_end : {area : Area} {w : ℕ → ℕ} {items wholes : List ℕ} {zone : ℕ → Bool} (op : IsOpening area w items wholes zone)
    {word : ℕ → ℕ} {todo : ℕ → Type 0} {r : Round} (go : IsGoing area w items zone word todo r) → ((s : ℕ) → todo s → ⊥) →
    IsImage area w items zone r.moves r.fails r.m word (λ y. is_claimed (r.owner y))
at_end {area} {w} {items} {wholes} {zone} op {word} {todo} {r} go none = record {
  inside = λ a i h l. (target-zone op go a i h l, target-clear (r.owner (r.m a + i)) a (go.target a i h l));
  apart = λ a b i j h k l l' e. target-same (r.owner (r.m a + i)) a b (go.target a i h l) (ap r.owner e ∙ go.target b j k l');
  once = go.once;
  others = go.others;
  all = λ a c t p. settled-plain a c t p (reached a t);
  moved = go.moved;
  failed = go.failed;
  forwarded = go.forwarded;
  pinned = go.pinned;
  first = λ a h. ap word (let g : r.m a ≡ r.m a + 0 = omega arith in g)
      ∙ copied-word op go a 0 h (omega arith) (λ k. (let q = slot-in op go a 0 h (omega arith) k in let z = q.1 in absurd (omega arith)))
      ∙ ap w (let g : a + 0 ≡ a = omega arith in g);
  length = λ a h. copied-word op go a 1 h (omega arith) (λ k. (let q = slot-in op go a 1 h (omega arith) k in let z = q.1 in absurd (omega arith)));
  fields = λ a i h l. elim h [
    | inl h ↦ copy-field a i h l
    | inr h ↦ fail-field a i h l
  ];
  held = λ s i. (let k : Slot area w items r.m r.moves r.fails s = Given i in
      let q = free-source op go s (go.rest s (op.item_zone s i)) in
      slot-now s k ∙ ap (λ (z : ℕ). sent r.m (w z)) q);
  same = λ x ni nc nr nm nf ns. go.words x nm nf nc
      ∙ cond-false _ _ _ (out x r.handled (λ h. plainly x ni nr ns (go.slots x (inr h)))) ∙ ap w (go.source_out x (no_copy x nr));
}
  where
    done : (s : ℕ) → Slot area w items r.m r.moves r.fails s → In s r.handled
    done s k = elim (go.all s k) [
      | inl h ↦ absurd (none s h)
      | inr h ↦ h
    ]

    slot-now : (s : ℕ) → Slot area w items r.m r.moves r.fails s → word s ≡ sent r.m (w (r.source s))
    slot-now s k = slot-word op go s k ∙ cond-true _ _ _ (done s k)

    target : (a : ℕ) → In a r.moves → area.high ≤ r.m a
    target = target-old op go

    below : (a : ℕ) → Traces area w items a → a + size_of w a ≤ area.high
    below a t = (op.inside a (inl t)).1

    young-free : (y : ℕ) → y < area.high → r.owner y ≡ Nobody
    young-free = below-free op go

    -- a word of no copy is no copy's
    no_copy : (x : ℕ) → ((a i : ℕ) → In a r.moves → i < size_of w a → x ≢ r.m a + i) → is_target (r.owner x) ≡ false
    no_copy x n = by_owner (r.owner x) refl
      where
        by_owner : (o : Owner) → r.owner x ≡ o → is_target o ≡ false
        by_owner Nobody e = refl
        by_owner (Claimed k at z) e = refl
        by_owner (Target a) e = absurd (let t = go.target_is a x e in n a t.1.0 t.0 t.1.1 t.1.2)

    slot-in-failed : (a j : ℕ) → In a r.fails → j < size_of w a → Slot area w items r.m r.moves r.fails (a + j) →
        (i : ℕ) × (j ≡ 2 + i) × (is_strong area w a i ≡ true)
    slot-in-failed a j h l (Given k) = absurd (let f = go.failed a h in op.item_out (a + j) a f.1.0 k f.0 f.1.1 (omega arith) (let z = l in omega arith))
    slot-in-failed a j h l (Copied b i k v e q) = absurd (let z = target b k in let y = below a (go.failed a h).0 in let u = q in omega arith)
    slot-in-failed a j h l (Failed b i k v e q) =
        let e' : a + j ≡ b + (2 + i) = let z = q in omega arith in
        let c = common op go a b j (2 + i) (go.failed a h).0 (go.failed b k).0 l (omega arith) e' in
        (i, (omega arith), ap (λ (z : ℕ). is_strong area w z i) c ∙ e)

    copy-field : (a i : ℕ) → In a r.moves → i < w (a + 1) → word (r.m a + 2 + i) ≡ cond (is_strong area w a i) (sent r.m (w (a + 2 + i))) (w (a + 2 + i))
    copy-field a i h l =
        let g : r.m a + 2 + i ≡ r.m a + (2 + i) = omega arith in
        let g' : a + (2 + i) ≡ a + 2 + i = omega arith in
        elim (cases_Bool (is_strong area w a i)) [
          | inl e ↦ slot-now (r.m a + 2 + i) (Copied a i h l e refl) ∙ ap (λ (z : ℕ). sent r.m (w z))
              (ap r.source g ∙ go.source_in a (2 + i) h (omega arith) ∙ g') ∙ sym (cond-true _ _ _ e)
          | inr e ↦ ap word g ∙ copied-word op go a (2 + i) h (omega arith)
              (λ k. (let q = slot-in op go a (2 + i) h (omega arith) k in let j : i ≡ q.0 = let z = q.1 in omega arith in
              let t = sym e ∙ ap (λ (z : ℕ). is_strong area w a z) j ∙ q.2 in cc)) ∙ ap w g' ∙ sym (cond-false _ _ _ e)
        ]

    fail-field : (a i : ℕ) → In a r.fails → i < w (a + 1) → word (r.m a + 2 + i) ≡ cond (is_strong area w a i) (sent r.m (w (a + 2 + i))) (w (a + 2 + i))
    fail-field a i h l =
        let f = go.failed a h in
        let y = below a f.0 in
        let e0 : r.m a + 2 + i ≡ a + 2 + i = ap (λ (z : ℕ). z + 2 + i) (go.others a f.2) in
        let free : r.owner (a + 2 + i) ≡ Nobody = young-free (a + 2 + i) (omega arith) in
        let same : r.source (a + 2 + i) ≡ a + 2 + i = free-source op go (a + 2 + i) free in
        let g : a + 2 + i ≡ a + (2 + i) = omega arith in
        let other : (b : ℕ) → Traces area w items b → b ≡ a + 2 + i →
        ⊥ = λ b tb q. (let c = common op go a b (2 + i) 0 f.0 tb (omega arith) (omega arith) (let z = q in omega arith) in let z =
        q in absurd (omega arith)) in
        elim (cases_Bool (is_strong area w a i)) [
          | inl e ↦ ap word e0 ∙ slot-now (a + 2 + i) (Failed a i h l e refl) ∙ ap (λ (z : ℕ). sent r.m (w z)) same ∙ sym (cond-true _ _ _ e)
          | inr e ↦ ap word e0 ∙ go.words (a + 2 + i)
              (out (a + 2 + i) r.moves (λ k. other (a + 2 + i) (go.moved (a + 2 + i) k).0 refl))
              (out (a + 2 + i) r.fails (λ k. other (a + 2 + i) (go.failed (a + 2 + i) k).0 refl))
              (free-clear (r.owner (a + 2 + i)) free)
              ∙ cond-false _ _ _ (out (a + 2 + i) r.handled (λ k.
              (let q = slot-in-failed a (2 + i) h (omega arith)
              (subst (λ (z : ℕ). Slot area w items r.m r.moves r.fails z) g (go.slots (a + 2 + i) (inr k))) in
              let j : i ≡ q.0 = let z = q.1 in omega arith in
              let t = sym e ∙ ap (λ (z : ℕ). is_strong area w a z) j ∙ q.2 in cc)))
              ∙ ap w same ∙ sym (cond-false _ _ _ e)
        ]

    plainly : (x : ℕ) → has x items ≡ false → ((a i : ℕ) → In a r.moves → i < size_of w a → x ≢ r.m a + i) →
        ((a i : ℕ) → In a r.fails → i < w (a + 1) → is_strong area w a i ≡ true → x ≢ a + 2 + i) → Slot area w items r.m r.moves r.fails x → ⊥
    plainly x ni nr ns (Given k) = not-in x items ni k
    plainly x ni nr ns (Copied a i h l e q) = nr a (2 + i) h (omega arith) (let u = q in omega arith)
    plainly x ni nr ns (Failed a i h l e q) = ns a i h l e q

    settled-plain : (a c : ℕ) → Traces area w items a → w a ≡ plain_word c → IsSettled w r.moves r.fails a → In a r.moves ⊎ In a r.fails
    settled-plain a c t p (inl h) = inl h
    settled-plain a c t p (inr (inl h)) = inr h
    settled-plain a c t p (inr (inr h)) = absurd (plain-not-fixed (w a) c h.0 p h.1)

    -- what a slot referred to has settled
    by-slot : (s c : ℕ) → Slot area w items r.m r.moves r.fails s → w (r.source s) ≡ byte_at c → IsYoung area c → IsSettled w r.moves r.fails c
    by-slot s c k e y = go.settled s c (done s k) e y

    by-item : (s c : ℕ) → In s items → w s ≡ byte_at c → IsYoung area c → IsSettled w r.moves r.fails c
    by-item s c i e y = by-slot s c (Given i) (ap w (free-source op go s (go.rest s (op.item_zone s i))) ∙ e) y

    reached : (a : ℕ) → Traces area w items a → IsSettled w r.moves r.fails a
    reached _ (Root a (y, h)) = by-item h.0 a h.1 h.2 y
    reached _ (Next a c t (y, p)) =
        let f = op.first a (inl t) in
        elim f.2 [
          | inr q ↦ by-item (a + 2 + p.0) c (op.whole a f.0 p.0 c t q p.1 p.2 p.3 y) p.3 y
          | inl q ↦ elim (settled-plain a f.0 t q (reached a t)) [
            | inl h ↦ by-slot (r.m a + 2 + p.0) c (Copied a p.0 h p.1 p.2 refl)
                (ap w (ap r.source (let g : r.m a + 2 + p.0 ≡ r.m a + (2 + p.0) = omega arith in g) ∙ go.source_in a (2 + p.0) h (let z = p.1 in omega arith)
                ∙ (let g : a + (2 + p.0) ≡ a + 2 + p.0 = omega arith in g)) ∙ p.3) y
            | inr h ↦ by-slot (a + 2 + p.0) c (Failed a p.0 h p.1 p.2 refl)
                (ap w (free-source op go (a + 2 + p.0) (young-free (a + 2 + p.0) (let z = below a (go.failed a h).0 in let k = p.1 in omega arith))) ∙ p.3) y
          ]
        ]
