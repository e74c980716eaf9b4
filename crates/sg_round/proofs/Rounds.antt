-- From one round to the next: claimed slots are given back, and more items come, over the same opening.
use Rattle.std.proofs.Common.{◌≡◌, ℕ, ◌+◌, ◌≤◌, ◌<◌, ◌⊎◌, cond, Bool, List, ◌++◌, sym, ap, ◌∙◌, inl, inr}
use Rattle.std.proofs.lemmas.Bool.{cond-false}
use Rattle.sg_words.specs.Reach.Reached.{Root, Next}
use Rattle.sg_words.specs.Lists.{In, has}
use Rattle.sg_words.specs.Objects.{size_of, sent}
use Rattle.sg_words.proofs.Members.{in-left, in-right, in-cases, out}
use Rattle.sg_round.specs.Area.{Area, Traces}
use Rattle.sg_round.specs.Round.{Owner, Nobody, is_claimed, is_target, Round, IsOpening, Slot, Given, Copied, Failed, IsGoing, Owns}
use Rattle.sg_round.proofs.Going.{nobody-not-target, nobody-not-claimed, target-not-claimed, clear-not-claimed, owned-zone, slot-unclaimed}
use Rattle.sg_round.specs.Laws.{Released, MoreItems}
use Rattle.sg_round.proofs.Steps.{by_range, moved-about}

module _ {area : Area} {w : ℕ → ℕ} {items wholes : List ℕ} {zone : ℕ → Bool} (op : IsOpening area w items wholes zone)
    {word : ℕ → ℕ} {todo : ℕ → Type 0} {r : Round} (go : IsGoing area w items zone word todo r) where
  -- a claimed slot whose words are zero again is given back
  pub given_back : (k at z : ℕ) → Owns r.owner k at z → ((y : ℕ) → at ≤ y → y < at + z → word y ≡ 0) → (owner : ℕ → Owner) →
      ((y : ℕ) → at ≤ y → y < at + z → owner y ≡ Nobody) → ((y : ℕ) → (at ≤ y → y < at + z → ⊥) → owner y ≡ r.owner y) →
      IsGoing area w items zone word todo (record r { owner = owner })
  given_back k at z own zero owner free out-of = record {
    once = go.once;
    others = go.others;
    rest = λ y h. by_range (owner y ≡ Nobody) at (at + z) y (λ u v. free y u v) (λ n. out-of y n ∙ go.rest y h);
    target = λ a j h l. out-of (r.m a + j) (λ u v. target-not-claimed (r.owner (r.m a + j)) a k at z (go.target a j h l) (own (r.m a + j) u v))
        ∙ go.target a j h l;
    target_is = λ a y e. by_range (In a r.moves × ((j : ℕ) × (j < size_of w a) × (y ≡ r.m a + j))) at (at + z) y
        (λ u v. absurd (nobody-not-target (owner y) a (free y u v) e))
        (λ n. go.target_is a y (sym (out-of y n) ∙ e));
    source_out = λ y h. by_range (r.source y ≡ y) at (at + z) y (λ u v. go.source_out y (ap is_target (own y u v)))
        (λ n. go.source_out y (ap is_target (sym (out-of y n)) ∙ h));
    source_in = go.source_in;
    words = λ y nm nf nc. by_range (word y ≡ (cond (has y r.handled) (sent r.m (w (r.source y))) (w (r.source y)))) at (at + z) y
        (λ u v. zero y u v ∙ sym (op.zero y (owned-zone op go y (λ f. nobody-not-claimed (r.owner y) k at z f (own y u v))))
        ∙ ap w (sym (go.source_out y (ap is_target (own y u v))))
        ∙ sym (cond-false _ _ _ (out y r.handled (λ h. clear-not-claimed (r.owner y) k at z (slot-unclaimed op go y (go.slots y (inr h))) (own y u v)))))
        (λ n. go.words y nm nf (ap is_claimed (sym (out-of y n)) ∙ nc));
    forwarded = go.forwarded;
    pinned = go.pinned;
    moved = go.moved;
    failed = go.failed;
    settled = go.settled;
    slots = go.slots;
    all = go.all;
  }

-- more items come
pub more_slots : {area : Area} {w : ℕ → ℕ} {items : List ℕ} {zone : ℕ → Bool} {word : ℕ → ℕ} {todo : ℕ → Type 0} {r : Round}
    (go : IsGoing area w items zone word todo r) (new : List ℕ) → IsGoing area w (items ++ new) zone word (λ s. todo s ⊎ In s new) r
more_slots {area} {w} {items} {zone} {word} {todo} {r} go new = record {
  once = go.once;
  others = go.others;
  rest = go.rest;
  target = go.target;
  target_is = go.target_is;
  source_out = go.source_out;
  source_in = go.source_in;
  words = go.words;
  forwarded = go.forwarded;
  pinned = go.pinned;
  moved = λ a h. (let q = go.moved a h in (traces a q.0, q.1));
  failed = λ a h. (let q = go.failed a h in (traces a q.0, q.1, q.2));
  settled = go.settled;
  slots = λ s h. elim h [
    | inr h ↦ slot s (go.slots s (inr h))
    | inl t ↦ elim t [
      | inl t ↦ slot s (go.slots s (inl t))
      | inr i ↦ Given (in-right s items new i)
    ]
  ];
  all = all;
}
  where
    traces : (a : ℕ) → Traces area w items a → Traces area w (items ++ new) a
    traces _ (Root a q) = Root a (q.0, (q.1.0, in-left q.1.0 items new q.1.1, q.1.2))
    traces _ (Next a c t q) = Next a c (traces a t) q

    slot : (s : ℕ) → Slot area w items r.m r.moves r.fails s → Slot area w (items ++ new) r.m r.moves r.fails s
    slot s (Given h) = Given (in-left s items new h)
    slot s (Copied a i h l e q) = Copied a i h l e q
    slot s (Failed a i h l e q) = Failed a i h l e q

    old : (s : ℕ) → todo s ⊎ In s r.handled → (todo s ⊎ In s new) ⊎ In s r.handled
    old s (inl t) = inl (inl t)
    old s (inr h) = inr h

    all : (s : ℕ) → Slot area w (items ++ new) r.m r.moves r.fails s → (todo s ⊎ In s new) ⊎ In s r.handled
    all s (Copied a i h l e q) = old s (go.all s (Copied a i h l e q))
    all s (Failed a i h l e q) = old s (go.all s (Failed a i h l e q))
    all s (Given h) = elim (in-cases s items new h) [
      | inl i ↦ old s (go.all s (Given i))
      | inr i ↦ inl (inr i)
    ]

pub released : Released
released area w items wholes zone op word todo r go k at z own zero owner free out-of = given_back op go k at z own zero owner free out-of

pub more_items : MoreItems
more_items area w items new zone word todo r go = moved-about (more_slots go new)
    (λ s h. elim (in-cases s todo new h) [ inl i ↦ inl i | inr i ↦ inr i ])
    (λ s h. elim h [ inl i ↦ in-left s todo new i | inr i ↦ in-right s todo new i ])
