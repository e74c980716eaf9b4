-- What a round under way says of slots, claimed words and first words.
use Rattle.std.proofs.Common.{◌≡◌, ◌≢◌, ℕ, ◌+◌, ◌≤◌, ◌<◌, ◌⊎◌, cond, Bool, true, false, List, sym, refl, ap, ◌∙◌, subst, inl, inr, arith}
use Rattle.std.proofs.lemmas.Bool.{cond-true, cond-false, cases_lt, cases_Bool}
use Rattle.sg_words.specs.Address.{byte_at}
use Rattle.sg_words.specs.Tags.{plain_word, forward_word}
use Rattle.sg_words.specs.Lists.{In, has}
use Rattle.sg_words.specs.Objects.{size_of, sent}
use Rattle.sg_words.specs.Reach.Reached.{Root, Next}
use Rattle.sg_words.proofs.Members.{out, not-in}
use Rattle.sg_words.proofs.Objects.{sent-at, sent-fixed}
use Rattle.sg_round.specs.Area.{Area, IsYoung, IsFixed, Traces}
use Rattle.sg_round.specs.Round.{Owner, Nobody, Claimed, Target, is_claimed, is_target, Round, IsMet, IsOpening, Slot, Given, Copied, Failed, IsSettled}
use Rattle.sg_round.specs.Round.{IsGoing}
use Rattle.sg_round.proofs.Relation.{IsWhole, IsStaying, HasRead}

pub nobody-not-target : (o : Owner) (a : ℕ) → o ≡ Nobody → o ≡ Target a → ⊥
nobody-not-target o a e f = let z : Nobody ≡ Target a = sym e ∙ f in cc

pub nobody-not-claimed : (o : Owner) (k at z : ℕ) → o ≡ Nobody → o ≡ Claimed k at z → ⊥
nobody-not-claimed o k at z e f = let q : Nobody ≡ Claimed k at z = sym e ∙ f in cc

pub target-not-claimed : (o : Owner) (a k at z : ℕ) → o ≡ Target a → o ≡ Claimed k at z → ⊥
target-not-claimed o a k at z e f = let q : Target a ≡ Claimed k at z = sym e ∙ f in cc

pub target-same : (o : Owner) (a b : ℕ) → o ≡ Target a → o ≡ Target b → a ≡ b
target-same o a b e f = let q : Target a ≡ Target b = sym e ∙ f in cc

pub free-clear : (o : Owner) → o ≡ Nobody → is_claimed o ≡ false
free-clear o e = ap is_claimed e

pub target-clear : (o : Owner) (a : ℕ) → o ≡ Target a → is_claimed o ≡ false
target-clear o a e = ap is_claimed e

-- an unclaimed word is in no claim
pub clear-not-claimed : (o : Owner) (k at z : ℕ) → is_claimed o ≡ false → o ≡ Claimed k at z → ⊥
clear-not-claimed o k at z e f = let q : true ≡ false = sym (ap is_claimed f) ∙ e in cc

module _ {area : Area} {w : ℕ → ℕ} {items wholes : List ℕ} {zone : ℕ → Bool} (op : IsOpening area w items wholes zone)
    {word : ℕ → ℕ} {todo : ℕ → Type 0} {r : Round} (go : IsGoing area w items zone word todo r) where
  -- a word that is somebody's is of the zone
  pub owned-zone : (y : ℕ) → (r.owner y ≡ Nobody → ⊥) → zone y ≡ true
  owned-zone y n = elim (cases_Bool (zone y)) [
    | inl e ↦ e
    | inr e ↦ absurd (n (go.rest y e))
  ]

  pub below-zone : (y : ℕ) → y < area.high → zone y ≡ false
  below-zone y l = elim (cases_Bool (zone y)) [
    | inl e ↦ absurd (let z = op.above y e in omega arith)
    | inr e ↦ e
  ]

  -- the words of the nursery are nobody's
  pub below-free : (y : ℕ) → y < area.high → r.owner y ≡ Nobody
  below-free y l = go.rest y (below-zone y l)

  pub free-source : (y : ℕ) → r.owner y ≡ Nobody → r.source y ≡ y
  free-source y e = go.source_out y (ap is_target e)

  pub target-zone : (a j : ℕ) → In a r.moves → j < size_of w a → zone (r.m a + j) ≡ true
  target-zone a j h l = owned-zone (r.m a + j) (λ e. nobody-not-target (r.owner (r.m a + j)) a e (go.target a j h l))

  pub target-old : (a : ℕ) → In a r.moves → area.high ≤ r.m a
  target-old a h = let z = op.above (r.m a + 0) (target-zone a 0 h (omega arith)) in omega arith

  -- whose the word of a slot is
  pub slot-owner : (s : ℕ) → Slot area w items r.m r.moves r.fails s → (r.owner s ≡ Nobody) ⊎ ((a : ℕ) × (In a r.moves) × (r.owner s ≡ Target a))
  slot-owner s (Given h) = inl (go.rest s (op.item_zone s h))
  slot-owner s (Copied a i h l e q) = inr (a, h, ap r.owner (let z = q in let g : s ≡ r.m a + (2 + i) = omega arith in g) ∙ go.target a (2 + i) h (omega arith))
  slot-owner s (Failed a i h l e q) = inl (below-free s (let z = (op.inside a (inl (go.failed a h).0)).1 in let y = q in omega arith))

  pub slot-unclaimed : (s : ℕ) → Slot area w items r.m r.moves r.fails s → is_claimed (r.owner s) ≡ false
  slot-unclaimed s k = elim (slot-owner s k) [
    | inl e ↦ free-clear (r.owner s) e
    | inr e ↦ target-clear (r.owner s) e.0 e.2
  ]

  -- no slot is the first word or the length of an object
  pub slot-apart : (s a : ℕ) → Slot area w items r.m r.moves r.fails s → IsMet area w items wholes a → (s ≢ a) × (s ≢ a + 1)
  slot-apart s a (Given h) t = op.item_apart s a h t
  slot-apart s a (Copied b i h l e x) t = let z = target-old b h in let y = (op.inside a t).1 in let u =
      x in (λ q. absurd (omega arith), λ q. absurd (omega arith))
  slot-apart s a (Failed b i h l e x) t =
      let u = x in
      let before : b ≤ a → a < b + size_of w b → a ≡ b = λ lo hi. sym (op.apart b a (inl (go.failed b h).0) t lo hi) in (
        λ q. (let same = before (omega arith) (omega arith) in absurd (omega arith)),
        λ q. (let same = before (omega arith) (omega arith) in absurd (omega arith)),
      )

  -- no slot lies in a whole object
  pub no-slot : (x j c : ℕ) → Traces area w items x → w x ≡ plain_word c → has x r.fails ≡ false → j < size_of w x →
      Slot area w items r.m r.moves r.fails (x + j) → ⊥
  no-slot x j c t p nf l (Given h) = op.item_out (x + j) x c h t p (omega arith) (let z = l in omega arith)
  no-slot x j c t p nf l (Copied a i h q e u) = let z = target-old a h in let v = (op.inside x (inl t)).1 in let y = u in let g = l in absurd (omega arith)
  no-slot x j c t p nf l (Failed a i h q e u) =
      let y = u in let g = l in
      elim (cases_lt a x) [
        | inl b ↦ not-in x r.fails nf (subst (λ (z : ℕ). In z r.fails) (op.apart a x (inl (go.failed a h).0) (inl t) (omega arith) (omega arith)) h)
        | inr b ↦ not-in x r.fails nf (subst (λ (z : ℕ). In z r.fails) (sym (op.apart x a (inl t) (inl (go.failed a h).0) b (omega arith))) h)
      ]

  -- the words of a traced object that was plain and hasn't failed are the opening's, but for its first
  pub plain-words : (x j c : ℕ) → Traces area w items x → w x ≡ plain_word c → has x r.fails ≡ false → 1 ≤ j → j < size_of w x → word (x + j) ≡ w (x + j)
  plain-words x j c t p nf some l =
      let i = op.inside x (inl t) in
      let y0 = i.0.0 in let y1 = i.1 in
      let out-of : (a : ℕ) → Traces area w items a → x + j ≢ a = λ a ta e.
      (let s = op.apart x a (inl t) (inl ta) (omega arith) (omega arith) in absurd (omega arith)) in
      let m0 : has (x + j) r.moves ≡ false = out (x + j) r.moves (λ h. out-of (x + j) (go.moved (x + j) h).0 refl) in
      let f0 : has (x + j) r.fails ≡ false = out (x + j) r.fails (λ h. out-of (x + j) (go.failed (x + j) h).0 refl) in
      let h0 : has (x + j) r.handled ≡ false = out (x + j) r.handled (λ h. none (go.slots (x + j) (inr h))) in
      go.words (x + j) m0 f0 (free-clear (r.owner (x + j)) (below-free (x + j) (omega arith))) ∙ cond-false _ _ _ h0
      ∙ ap w (free-source (x + j) (below-free (x + j) (omega arith)))
    where
      none : Slot area w items r.m r.moves r.fails (x + j) → ⊥
      none (Given h) = op.item_out (x + j) x c h t p (omega arith) (let z = l in omega arith)
      none (Copied a i h q e u) = let z = target-old a h in let v = (op.inside x (inl t)).1 in let y = u in let g = l in absurd (omega arith)
      none (Failed a i h q e u) =
          let y = u in let g = l in
          elim (cases_lt a x) [
            | inl b ↦ not-in x r.fails nf (subst (λ (z : ℕ). In z r.fails) (op.apart a x (inl (go.failed a h).0) (inl t) (omega arith) (omega arith)) h)
            | inr b ↦ not-in x r.fails nf (subst (λ (z : ℕ). In z r.fails) (sym (op.apart x a (inl t) (inl (go.failed a h).0) b (omega arith))) h)
          ]

  -- the length of an object that was plain doesn't change, even where it fails
  pub length-stays : (x c : ℕ) → Traces area w items x → w x ≡ plain_word c → word (x + 1) ≡ w (x + 1)
  length-stays x c t p =
      let i = op.inside x (inl t) in
      let y0 = i.0.0 in let y1 = i.1 in
      let out-of : (a : ℕ) → Traces area w items a → x + 1 ≢ a = λ a ta e.
      (let s = op.apart x a (inl t) (inl ta) (omega arith) (omega arith) in absurd (omega arith)) in
      let m0 : has (x + 1) r.moves ≡ false = out (x + 1) r.moves (λ h. out-of (x + 1) (go.moved (x + 1) h).0 refl) in
      let f0 : has (x + 1) r.fails ≡ false = out (x + 1) r.fails (λ h. out-of (x + 1) (go.failed (x + 1) h).0 refl) in
      let h0 : has (x + 1) r.handled ≡ false = out (x + 1) r.handled (λ h. none (go.slots (x + 1) (inr h))) in
      go.words (x + 1) m0 f0 (free-clear (r.owner (x + 1)) (below-free (x + 1) (omega arith))) ∙ cond-false _ _ _ h0
      ∙ ap w (free-source (x + 1) (below-free (x + 1) (omega arith)))
    where
      none : Slot area w items r.m r.moves r.fails (x + 1) → ⊥
      none (Given h) = op.item_out (x + 1) x c h t p (omega arith) (omega arith)
      none (Copied a i h q e u) = let z = target-old a h in let v = (op.inside x (inl t)).1 in let y = u in absurd (omega arith)
      none (Failed a i h q e u) =
          let y = u in
          elim (cases_lt a x) [
            | inl b ↦ (let s = op.apart a x (inl (go.failed a h).0) (inl t) (omega arith) (omega arith) in absurd (omega arith))
            | inr b ↦ (let s = op.apart x a (inl t) (inl (go.failed a h).0) b (omega arith) in absurd (omega arith))
          ]

  -- what a slot referred to is traced, if it is young
  pub traced : (s x : ℕ) → Slot area w items r.m r.moves r.fails s → w (r.source s) ≡ byte_at x → IsYoung area x → Traces area w items x
  traced s x (Given h) v y =
      let e = free-source s (go.rest s (op.item_zone s h)) in
      Root x (y, (s, h, ap w (sym e) ∙ v))
  traced s x (Copied a i h l e u) v y =
      let q : r.source s ≡ a + (2 + i) = ap r.source (let z = u in let goal : s ≡ r.m a + (2 + i) = omega arith in goal)
      ∙ go.source_in a (2 + i) h (omega arith) in
      Next a x (go.moved a h).0 (y, (i, l, e, ap w (let z = q in let goal : a + 2 + i ≡ r.source s = omega arith in goal) ∙ v))
  traced s x (Failed a i h l e u) v y =
      let k = op.inside a (inl (go.failed a h).0) in
      let k1 = k.1 in
      let q : r.source s ≡ s = free-source s (below-free s (let g = u in omega arith)) in
      Next a x (go.failed a h).0 (y, (i, l, e, ap w (let z = q in let g = u in let goal : a + 2 + i ≡ r.source s = omega arith in goal) ∙ v))

  pub read-traced : (s x : ℕ) → HasRead area w items r.m r.source r.moves r.fails s x → Traces area w items x
  read-traced s x h = traced s x h.slot h.held h.young

  -- a settled object's place
  pub m-old : (a : ℕ) → IsYoung area (r.m a) → r.m a ≡ a
  m-old a y = elim (cases_Bool (has a r.moves)) [
    | inl h ↦ (let z = target-old a h in let l = y.1 in absurd (omega arith))
    | inr e ↦ go.others a e
  ]

  pub slot-word : (s : ℕ) → Slot area w items r.m r.moves r.fails s → word s ≡ cond (has s r.handled) (sent r.m (w (r.source s))) (w (r.source s))
  slot-word s k = go.words s
      (out s r.moves (λ h. (slot-apart s s k (inl (go.moved s h).0)).0 refl))
      (out s r.fails (λ h. (slot-apart s s k (inl (go.failed s h).0)).0 refl))
      (slot-unclaimed s k)

  -- a slot that refers to a young object holds what it held
  pub found : (s x : ℕ) → Slot area w items r.m r.moves r.fails s → word s ≡ byte_at x → IsYoung area x → word s ≡ w (r.source s)
  found s x k v y = elim (cases_Bool (has s r.handled)) [
    | inl h ↦ (
        let u = w (r.source s) in
        let e : word s ≡ sent r.m u = slot-word s k ∙ cond-true _ _ _ h in
        e ∙ sent-fixed r.m u (λ z q. m-old z (subst (IsYoung area) (let f = sym v ∙ e ∙ sent-at r.m u z q in let goal : x ≡ r.m z = omega arith in goal) y))
        )
    | inr h ↦ slot-word s k ∙ cond-false _ _ _ h
  ]

  -- one that refers to none holds where its object is now
  pub quiet : (s : ℕ) → Slot area w items r.m r.moves r.fails s → ((x : ℕ) → word s ≡ byte_at x → IsYoung area x → ⊥) → word s ≡ sent r.m (w (r.source s))
  quiet s k n = elim (cases_Bool (has s r.handled)) [
    | inl h ↦ slot-word s k ∙ cond-true _ _ _ h
    | inr h ↦ (let e = slot-word s k ∙ cond-false _ _ _ h in e ∙ sym
        (sent-fixed r.m (w (r.source s)) (λ x q. go.others x (out x r.moves (λ i. n x (e ∙ q) (op.inside x (inl (go.moved x i).0)).0)))))
  ]

  -- and what it held has settled
  pub quiet-settled : (s : ℕ) → Slot area w items r.m r.moves r.fails s → ((x : ℕ) → word s ≡ byte_at x → IsYoung area x → ⊥) → (x : ℕ) →
      w (r.source s) ≡ byte_at x → IsYoung area x → IsSettled w r.moves r.fails x
  quiet-settled s k n x q y = elim (cases_Bool (has s r.handled)) [
    | inl h ↦ go.settled s x h q y
    | inr h ↦ absurd (n x (slot-word s k ∙ cond-false _ _ _ h ∙ q) y)
  ]

  -- one whose object stays holds where its object is now
  pub staying : (s x : ℕ) → HasRead area w items r.m r.source r.moves r.fails s x → has x r.moves ≡ false → word s ≡ sent r.m (w (r.source s))
  staying s x h nm =
      let e : sent r.m (w (r.source s)) ≡ w (r.source s) = sent-fixed r.m (w (r.source s))
      (λ z q. go.others z (let p = h.held in subst (λ (z : ℕ). has z r.moves ≡ false) (let g : x ≡ z = omega arith in g) nm)) in
      elim (cases_Bool (has s r.handled)) [
        | inl i ↦ slot-word s h.slot ∙ cond-true _ _ _ i
        | inr i ↦ slot-word s h.slot ∙ cond-false _ _ _ i ∙ sym e
      ]

  -- a first word that isn't in the moves or the fails is the opening's
  pub word-of : (x : ℕ) → Traces area w items x → has x r.moves ≡ false → has x r.fails ≡ false → word x ≡ w x
  word-of x t hm hf = go.words x hm hf (free-clear (r.owner x) (below-free x (op.inside x (inl t)).0.1))
      ∙ cond-false _ _ _ (out x r.handled (λ h. (slot-apart x x (go.slots x (inr h)) (inl t)).0 refl))
      ∙ ap w (free-source x (below-free x (op.inside x (inl t)).0.1))

  -- by the first word of a traced object
  pub tag-plain : (x c : ℕ) → Traces area w items x → word x ≡ plain_word c → IsWhole r x × (w x ≡ plain_word c)
  tag-plain x c t e =
      let nm : has x r.moves ≡ false = out x r.moves (λ h. (let z = go.forwarded x h in omega arith)) in
      let nf : has x r.fails ≡ false = out x r.fails (λ h. (let z = go.pinned x h in let f = (go.failed x h).1 in let y = f.1 in omega arith)) in
      ((nm, nf), sym (word-of x t nm nf) ∙ e)

  pub tag-moves : (x t : ℕ) → Traces area w items x → word x ≡ forward_word (byte_at t) → In x r.moves × (r.m x ≡ t)
  tag-moves x t tx e = elim (cases_Bool (has x r.moves)) [
    | inl h ↦ (h, let z = go.forwarded x h in omega arith)
    | inr hm ↦ elim (cases_Bool (has x r.fails)) [
      | inl h ↦ absurd (let f = (go.failed x h).1 in let z = f.1 in let u = go.pinned x h in omega arith)
      | inr hf ↦ absurd (let q = word-of x tx hm hf in let f = op.first x (inl tx) in elim f.2 [
        | inl p ↦ let z = p in omega arith
        | inr p ↦ elim p [ inl p ↦ let z = p in omega arith | inr p ↦ let z = p in omega arith ]
      ])
    ]
  ]

  pub tag-fixed : (x c v : ℕ) → Traces area w items x → IsFixed c v → word x ≡ v → IsStaying w r.fails x × (has x r.moves ≡ false)
  tag-fixed x c v t f e = (
    elim (cases_Bool (has x r.fails)) [
      | inl h ↦ inl h
      | inr hf ↦ inr (c, subst (IsFixed c) (sym e ∙ word-of x t nm hf) f)
    ],
    nm,
  )
    where
      nm : has x r.moves ≡ false
      nm = out x r.moves (λ h. (let z = go.forwarded x h in elim f [ inl p ↦ let q = p in omega arith | inr p ↦ let q = p in omega arith ]))
