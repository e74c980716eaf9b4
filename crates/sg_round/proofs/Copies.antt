-- What the copies hold, and the first words and lengths of the objects whose slots are to come.
use Rattle.std.proofs.Common.{◌≡◌, ℕ, ◌+◌, ◌≤◌, ◌<◌, Bool, true, false, List, sym, refl, ap, ◌∙◌, inl, inr, arith}
use Rattle.std.proofs.lemmas.Bool.{cond-false, cases_lt}
use Rattle.sg_words.specs.Tags.{plain_word}
use Rattle.sg_words.specs.Lists.{In, has}
use Rattle.sg_words.specs.Objects.{size_of}
use Rattle.sg_words.proofs.Members.{out}
use Rattle.sg_round.specs.Area.{Area, is_strong, class_of, Traces}
use Rattle.sg_round.specs.Round.{is_claimed, Round, IsOpening, Slot, Given, Copied, Failed, IsGoing}
use Rattle.sg_round.proofs.Relation.{IsKnown}
use Rattle.sg_round.proofs.Going.{target-old, target-zone, target-clear, free-clear, free-source, below-free, length-stays, slot-apart}
use Rattle.sg_round.proofs.Steps.{plain-not-fixed}

module _ {area : Area} {w : ℕ → ℕ} {items wholes : List ℕ} {zone : ℕ → Bool} (op : IsOpening area w items wholes zone)
    {word : ℕ → ℕ} {todo : ℕ → Type 0} {r : Round} (go : IsGoing area w items zone word todo r) where
  below : (a : ℕ) → Traces area w items a → a + size_of w a ≤ area.high
  below a t = (op.inside a (inl t)).1

  target : (a : ℕ) → In a r.moves → area.high ≤ r.m a
  target = target-old op go

  -- two traced objects with a common word are one
  pub common : (a b i j : ℕ) → Traces area w items a → Traces area w items b → i < size_of w a → j < size_of w b → a + i ≡ b + j → a ≡ b
  common a b i j ta tb l k e = elim (cases_lt b a) [
    | inl p ↦ sym (op.apart b a (inl tb) (inl ta) (omega arith) (omega arith))
    | inr p ↦ op.apart a b (inl ta) (inl tb) p (omega arith)
  ]

  -- the slots in a copy are its strong fields
  pub slot-in : (a j : ℕ) → In a r.moves → j < size_of w a → Slot area w items r.m r.moves r.fails (r.m a + j) →
      (i : ℕ) × (j ≡ 2 + i) × (is_strong area w a i ≡ true)
  slot-in a j h l (Given k) = absurd (let e : true ≡ false = sym (target-zone op go a j h l) ∙ op.item_zone (r.m a + j) k in cc)
  slot-in a j h l (Copied b i k v e q) =
      let s1 = go.source_in a j h l in
      let s2 = go.source_in b (2 + i) k (omega arith) in
      let q' : r.m a + j ≡ r.m b + (2 + i) = let z = q in omega arith in
      let e' : a + j ≡ b + (2 + i) = sym s1 ∙ ap r.source q' ∙ s2 in
      let c = common a b j (2 + i) (go.moved a h).0 (go.moved b k).0 l (omega arith) e' in
      (i, (omega arith), ap (λ (z : ℕ). is_strong area w z i) c ∙ e)
  slot-in a j h l (Failed b i k v e q) = absurd (let z = target a h in let y = below b (go.failed b k).0 in let u = q in omega arith)

  pub copied-word : (a j : ℕ) → In a r.moves → j < size_of w a → (Slot area w items r.m r.moves r.fails (r.m a + j) → ⊥) → word (r.m a + j) ≡ w (a + j)
  copied-word a j h l n =
      let z = target a h in
      go.words (r.m a + j)
      (out (r.m a + j) r.moves (λ k. (let y = below (r.m a + j) (go.moved (r.m a + j) k).0 in absurd (omega arith))))
      (out (r.m a + j) r.fails (λ k. (let y = below (r.m a + j) (go.failed (r.m a + j) k).0 in absurd (omega arith))))
      (target-clear (r.owner (r.m a + j)) a (go.target a j h l))
      ∙ cond-false _ _ _ (out (r.m a + j) r.handled (λ k. n (go.slots (r.m a + j) (inr k)))) ∙ ap w (go.source_in a j h l)

  -- the words of a copy's first two words are unclaimed, and so are those of an object in the nursery
  pub known-free : (x : ℕ) → IsKnown wholes r x → (is_claimed (r.owner x) ≡ false) × (is_claimed (r.owner (x + 1)) ≡ false)
  known-free x (inl h) = let i = op.inside x (inr h) in let l = i.1 in
      (free-clear (r.owner x) (below-free op go x (omega arith)), free-clear (r.owner (x + 1)) (below-free op go (x + 1) (omega arith)))
  known-free x (inr (inl h)) = let l = below x (go.failed x h).0 in
      (free-clear (r.owner x) (below-free op go x (omega arith)), free-clear (r.owner (x + 1)) (below-free op go (x + 1) (omega arith)))
  known-free x (inr (inr h)) = (
    ap (λ (y : ℕ). is_claimed (r.owner y)) (let e = h.2 in let g : x ≡ r.m h.0 + 0 = omega arith in g)
        ∙ target-clear (r.owner (r.m h.0 + 0)) h.0 (go.target h.0 0 h.1 (omega arith)),
    ap (λ (y : ℕ). is_claimed (r.owner (y + 1))) h.2 ∙ target-clear (r.owner (r.m h.0 + 1)) h.0 (go.target h.0 1 h.1 (omega arith)),
  )

  -- the words of an item as a whole
  whole-word : (x : ℕ) → In x wholes → (word x ≡ w x) × (word (x + 1) ≡ w (x + 1))
  whole-word x h =
      let i = op.inside x (inr h) in let l = i.1 in
      let c = op.stays x h in
      let no : (y : ℕ) → x ≤ y → y < x + 2 → Traces area w items y → (d : ℕ) → w y ≡ plain_word d → ⊥ = λ y lo hi t d p.
      plain-not-fixed (w x) d c.0 (ap w (op.apart x y (inr h) (inl t) lo (omega arith)) ∙ p) c.1 in
      let unmoved : (y : ℕ) → x ≤ y → y < x + 2 → has y r.moves ≡ false =
      λ y lo hi. out y r.moves (λ k. (let m = go.moved y k in no y lo hi m.0 m.1.0 m.1.1)) in
      let unfailed : (y : ℕ) → x ≤ y → y < x + 2 → has y r.fails ≡ false =
      λ y lo hi. out y r.fails (λ k. (let m = go.failed y k in no y lo hi m.0 m.1.0 m.1.1)) in (
        go.words x (unmoved x (omega arith) (omega arith)) (unfailed x (omega arith) (omega arith)) (known-free x (inl h)).0
            ∙ cond-false _ _ _ (out x r.handled (λ k. (slot-apart op go x x (go.slots x (inr k)) (inr h)).0 refl))
            ∙ ap w (free-source op go x (below-free op go x (omega arith))),
        go.words (x + 1) (unmoved (x + 1) (omega arith) (omega arith)) (unfailed (x + 1) (omega arith) (omega arith)) (known-free x (inl h)).1
            ∙ cond-false _ _ _ (out (x + 1) r.handled (λ k. (slot-apart op go (x + 1) x (go.slots (x + 1) (inr k)) (inr h)).1 refl))
            ∙ ap w (free-source op go (x + 1) (below-free op go (x + 1) (omega arith))),
      )

  -- by the first word and the length of an object whose slots are to come these are the slots
  pub head-class : (x : ℕ) → IsKnown wholes r x → class_of (word x) ≡ class_of (w (r.source x))
  head-class x (inl h) = ap class_of ((whole-word x h).0 ∙ ap w (sym (free-source op go x (below-free op go x (op.inside x (inr h)).0.1))))
  head-class x (inr (inl h)) =
      let f = go.failed x h in let p = f.1.1 in let e = go.pinned x h in
      let q : class_of (word x) ≡ class_of (w x) = (let g : class_of (w x + 2) ≡ class_of (w x) = omega arith in ap class_of e ∙ g) in
      q ∙ ap (λ (y : ℕ). class_of (w y)) (sym (free-source op go x (below-free op go x (op.inside x (inl f.0)).0.1)))
  head-class x (inr (inr h)) =
      let e : x ≡ r.m h.0 + 0 = let q = h.2 in omega arith in
      let n : Slot area w items r.m r.moves r.fails (r.m h.0 + 0) →
      ⊥ = λ k. (let q = slot-in h.0 0 h.1 (omega arith) k in let z = q.1 in absurd (omega arith)) in
      ap class_of (ap word e ∙ copied-word h.0 0 h.1 (omega arith) n ∙ ap w (sym (ap r.source e ∙ go.source_in h.0 0 h.1 (omega arith))))

  pub head-length : (x : ℕ) → IsKnown wholes r x → word (x + 1) ≡ w (r.source (x + 1))
  head-length x (inl h) =
      let i = op.inside x (inr h) in let l = i.1 in (whole-word x h).1 ∙ ap w (sym (free-source op go (x + 1) (below-free op go (x + 1) (omega arith))))
  head-length x (inr (inl h)) =
      let f = go.failed x h in let l = below x f.0 in
      length-stays op go x f.1.0 f.0 f.1.1 ∙ ap w (sym (free-source op go (x + 1) (below-free op go (x + 1) (omega arith))))
  head-length x (inr (inr h)) =
      let e : x + 1 ≡ r.m h.0 + 1 = let q = h.2 in omega arith in
      let n : Slot area w items r.m r.moves r.fails (r.m h.0 + 1) →
      ⊥ = λ k. (let q = slot-in h.0 1 h.1 (omega arith) k in let z = q.1 in absurd (omega arith)) in
      ap word e ∙ copied-word h.0 1 h.1 (omega arith) n ∙ ap w (sym (ap r.source e ∙ go.source_in h.0 1 h.1 (omega arith)))
