-- What a step does to a round under way: a slot is handled, a claimed word is written, words are claimed, an object moves, an
-- object fails.
use Rattle.std.proofs.Common.{◌≡◌, ◌≢◌, ℕ, ◌+◌, ◌-◌, ◌≤◌, ◌<◌, ◌⊎◌, ltb, leb, cond, Bool, true, false, List, [], ◌∷◌, ◌++◌, sym, refl, ap, ◌∙◌, subst}
use Rattle.std.proofs.Common.{inl, inr, arith, zero-le}
use Rattle.std.proofs.lemmas.Bool.{cond-true, cond-false, cases_eq, cases_lt, cases_Bool, ne_eqb, le-leb, lt-ltb, lt-leb, le-ltb}
use Rattle.sg_words.specs.Address.{byte_at}
use Rattle.sg_words.specs.Tags.{plain_word, forward_word}
use Rattle.sg_words.specs.Words.{put}
use Rattle.sg_words.specs.Lists.{In, has}
use Rattle.sg_words.specs.Objects.{size_of, sent}
use Rattle.sg_words.proofs.Puts.{put-at, put-other, within_range, range-in, range-below, range-above}
use Rattle.sg_words.proofs.Members.{has-cases, in-last, in-before, last-cases, in-here, in-there, out, not-in, distinct-more}
use Rattle.sg_words.proofs.Objects.{sent-along, slots-in, slots-are}
use Rattle.sg_round.specs.Area.{Area, IsYoung, IsFixed, is_strong, class_of, Traces}
use Rattle.sg_round.specs.Items.{slots_by}
use Rattle.sg_round.specs.Round.{Owner, Nobody, Claimed, Target, is_claimed, is_target, Round, IsOpening, Slot, Given, Copied, Failed, IsSettled, IsGoing, Owns}
use Rattle.sg_round.proofs.Relation.{IsWhole}
use Rattle.sg_round.proofs.Going.{nobody-not-target, nobody-not-claimed, target-not-claimed, target-same, clear-not-claimed, owned-zone, free-source}
use Rattle.sg_round.proofs.Going.{below-free, slot-unclaimed, slot-apart}

pub class-is : (w : ℕ → ℕ) (x c : ℕ) → w x ≡ plain_word c → class_of (w x) ≡ c
class-is w x c p = omega arith

pub plain-not-fixed : (v c d : ℕ) → v ≡ plain_word c → IsFixed d v → ⊥
plain-not-fixed v c d p f = elim f [ inl q ↦ omega arith | inr q ↦ omega arith ]

-- source, but the n words from `at` on come from x on
pub from_range : (ℕ → ℕ) → ℕ → ℕ → ℕ → ℕ → ℕ
from_range source at n x y = cond (leb at y) (cond (ltb y (at + n)) (x + (y - at)) (source y)) (source y)

pub from-in : (source : ℕ → ℕ) (at n x y : ℕ) → at ≤ y → y < at + n → from_range source at n x y ≡ x + (y - at)
unfolding from_range
from-in source at n x y p q = cond-true _ _ _ (le-leb _ _ p) ∙ cond-true _ _ _ (lt-ltb _ _ q)

pub from-out : (source : ℕ → ℕ) (at n x y : ℕ) → (at ≤ y → y < at + n → ⊥) → from_range source at n x y ≡ source y
unfolding from_range
from-out source at n x y h = elim (cases_lt y at) [
  | inl p ↦ cond-false _ _ _ (lt-leb _ _ p)
  | inr p ↦ cond-true _ _ _ (le-leb _ _ p) ∙ elim (cases_lt y (at + n)) [
    | inl q ↦ absurd (h p q)
    | inr q ↦ cond-false _ _ _ (le-ltb _ _ q)
  ]
]

pub range-out : {A : Type 0} (f : ℕ → A) (lo hi : ℕ) (o : A) (y : ℕ) → (lo ≤ y → y < hi → ⊥) → within_range f lo hi o y ≡ f y
range-out f lo hi o y n = elim (cases_lt y lo) [
  | inl a ↦ range-below f lo hi o y a
  | inr a ↦ elim (cases_lt y hi) [
    | inl b ↦ absurd (n a b)
    | inr b ↦ range-above f lo hi o y b
  ]
]

-- by whether y is in the range
pub by_range : (P : Type 0) (lo hi y : ℕ) → (lo ≤ y → y < hi → P) → ((lo ≤ y → y < hi → ⊥) → P) → P
by_range P lo hi y here there = elim (cases_lt y lo) [
  | inl a ↦ there (λ u v. absurd (omega arith))
  | inr a ↦ elim (cases_lt y hi) [
    | inl b ↦ here a b
    | inr b ↦ there (λ u v. absurd (omega arith))
  ]
]

-- by where y is in a slot of z words at `at` with n words of a copy
pub by_part : (P : Type 0) (at n z y : ℕ) → (at ≤ y → y < at + n → P) → (at + n ≤ y → y < at + z → P) → ((at ≤ y → y < at + z → ⊥) → P) → P
by_part P at n z y copy tail out = by_range P at (at + z) y (λ u v. elim (cases_lt y (at + n)) [
  | inl l ↦ copy u l
  | inr l ↦ tail l v
]) out

-- the slots to come are the same, in other places
pub moved-about : {area : Area} {w : ℕ → ℕ} {items : List ℕ} {zone : ℕ → Bool} {word : ℕ → ℕ} {todo todo' : ℕ → Type 0} {r : Round}
    (go : IsGoing area w items zone word todo r) → ((z : ℕ) → todo' z → todo z) → ((z : ℕ) → todo z → todo' z) → IsGoing area w items zone word todo' r
moved-about go back on = record {
  once = go.once;
  others = go.others;
  rest = go.rest;
  target = go.target;
  target_is = go.target_is;
  source_out = go.source_out;
  source_in = go.source_in;
  words = go.words;
  forwarded = go.forwarded;
  pinned = go.pinned;
  moved = go.moved;
  failed = go.failed;
  settled = go.settled;
  slots = λ s h. elim h [
    | inl h ↦ go.slots s (inl (back s h))
    | inr h ↦ go.slots s (inr h)
  ];
  all = λ s k. elim (go.all s k) [
    | inl h ↦ inl (on s h)
    | inr h ↦ inr h
  ];
}

module _ {area : Area} {w : ℕ → ℕ} {items wholes : List ℕ} {zone : ℕ → Bool} (op : IsOpening area w items wholes zone)
    {word : ℕ → ℕ} {todo todo' : ℕ → Type 0} {r : Round} (go : IsGoing area w items zone word todo r) where
  -- the slot s now holds where its object is
  pub settle : (s : ℕ) (word' : ℕ → ℕ) → Slot area w items r.m r.moves r.fails s → ((z : ℕ) → todo' z → todo z) → ((z : ℕ) → todo z → (z ≡ s) ⊎ todo' z) →
      word' s ≡ sent r.m (w (r.source s)) → ((y : ℕ) → y ≢ s → word' y ≡ word y) →
      ((x : ℕ) → w (r.source s) ≡ byte_at x → IsYoung area x → IsSettled w r.moves r.fails x) →
      IsGoing area w items zone word' todo' (record r { handled = s ∷ r.handled })
  settle s word' mine back on here there st = record {
    once = go.once;
    others = go.others;
    rest = go.rest;
    target = go.target;
    target_is = go.target_is;
    source_out = go.source_out;
    source_in = go.source_in;
    words = λ x nm nf nc. elim (cases_eq x s) [
      | inl e ↦ ap word' e ∙ here ∙ sym (cond-true _ _ _ (in-here x s r.handled e) ∙ ap (λ (z : ℕ). sent r.m (w (r.source z))) e)
      | inr d ↦ there x d ∙ go.words x nm nf nc
          ∙ sym (ap (λ (z : Bool). cond z (sent r.m (w (r.source x))) (w (r.source x))) (cond-false _ true (has x r.handled) (ne_eqb x s d)))
    ];
    forwarded = λ a h. there a (λ e. (slot-apart op go s a mine (inl (go.moved a h).0)).0 (sym e)) ∙ go.forwarded a h;
    pinned = λ a h. there a (λ e. (slot-apart op go s a mine (inl (go.failed a h).0)).0 (sym e)) ∙ go.pinned a h;
    moved = go.moved;
    failed = go.failed;
    settled = λ z x h v y. elim (has-cases z s r.handled h) [
      | inl e ↦ st x (ap (λ (q : ℕ). w (r.source q)) (sym e) ∙ v) y
      | inr i ↦ go.settled z x i v y
    ];
    slots = λ x h. elim h [
      | inl h ↦ go.slots x (inl (back x h))
      | inr h ↦ elim (has-cases x s r.handled h) [
        | inl e ↦ subst (λ (z : ℕ). Slot area w items r.m r.moves r.fails z) (sym e) mine
        | inr i ↦ go.slots x (inr i)
      ]
    ];
    all = λ x k. elim (go.all x k) [
      | inl h ↦ elim (on x h) [
        | inl e ↦ inr (in-here x s r.handled e)
        | inr i ↦ inl i
      ]
      | inr h ↦ inr (in-there x s r.handled h)
    ];
  }

module _ {area : Area} {w : ℕ → ℕ} {items wholes : List ℕ} {zone : ℕ → Bool} (op : IsOpening area w items wholes zone)
    {word : ℕ → ℕ} {todo : ℕ → Type 0} {r : Round} (go : IsGoing area w items zone word todo r) where
  -- a claimed word is written
  pub written : (k at z y : ℕ) (word' : ℕ → ℕ) → r.owner y ≡ Claimed k at z → ((x : ℕ) → x ≢ y → word' x ≡ word x) → IsGoing area w items zone word' todo r
  written k at z y word' mine there = record {
    once = go.once;
    others = go.others;
    rest = go.rest;
    target = go.target;
    target_is = go.target_is;
    source_out = go.source_out;
    source_in = go.source_in;
    words = λ x nm nf nc. there x (λ e. clear-not-claimed (r.owner x) k at z nc (ap r.owner e ∙ mine)) ∙ go.words x nm nf nc;
    forwarded = λ a h. there a (other a (go.moved a h).0) ∙ go.forwarded a h;
    pinned = λ a h. there a (other a (go.failed a h).0) ∙ go.pinned a h;
    moved = go.moved;
    failed = go.failed;
    settled = go.settled;
    slots = go.slots;
    all = go.all;
  }
    where
      other : (a : ℕ) → Traces area w items a → a ≢ y
      other a t e = nobody-not-claimed (r.owner a) k at z (below-free op go a (op.inside a (inl t)).0.1) (ap r.owner e ∙ mine)

  -- words that are nobody's are claimed
  pub claimed : (k at z : ℕ) → ((y : ℕ) → at ≤ y → y < at + z → (r.owner y ≡ Nobody) × (zone y ≡ true)) →
      IsGoing area w items zone word todo (record r { owner = within_range r.owner at (at + z) (Claimed k at z) })
  claimed k at z free = record {
    once = go.once;
    others = go.others;
    rest = λ y h. out-of y (λ u v. let e : true ≡ false = sym (free y u v).1 ∙ h in cc) ∙ go.rest y h;
    target = λ a j h l. out-of (r.m a + j) (λ u v. nobody-not-target (r.owner (r.m a + j)) a (free (r.m a + j) u v).0 (go.target a j h l)) ∙ go.target a j h l;
    target_is = λ a y e. by_range (In a r.moves × ((j : ℕ) × (j < size_of w a) × (y ≡ r.m a + j))) at (at + z) y
        (λ u v. absurd (target-not-claimed (within_range r.owner at (at + z) (Claimed k at z) y) a k at z e
        (range-in r.owner at (at + z) (Claimed k at z) y u v)))
        (λ n. go.target_is a y (sym (out-of y n) ∙ e));
    source_out = λ y h. by_range (r.source y ≡ y) at (at + z) y
        (λ u v. free-source op go y (free y u v).0)
        (λ n. go.source_out y (ap is_target (sym (out-of y n)) ∙ h));
    source_in = go.source_in;
    words = λ y nm nf nc. go.words y nm nf (by_range (is_claimed (r.owner y) ≡ false) at (at + z) y
        (λ u v. ap is_claimed (free y u v).0)
        (λ n. ap is_claimed (sym (out-of y n)) ∙ nc));
    forwarded = go.forwarded;
    pinned = go.pinned;
    moved = go.moved;
    failed = go.failed;
    settled = go.settled;
    slots = go.slots;
    all = go.all;
  }
    where
      out-of : (y : ℕ) → (at ≤ y → y < at + z → ⊥) → within_range r.owner at (at + z) (Claimed k at z) y ≡ r.owner y
      out-of y n = range-out r.owner at (at + z) (Claimed k at z) y n

-- the first n words of a slot of z words at `at` are of the copy of x, the others nobody's
pub filled : (ℕ → Owner) → ℕ → ℕ → ℕ → ℕ → ℕ → Owner
filled owner at n z x = within_range (within_range owner at (at + z) Nobody) at (at + n) (Target x)

pub filled-copy : (owner : ℕ → Owner) (at n z x y : ℕ) → at ≤ y → y < at + n → filled owner at n z x y ≡ Target x
unfolding filled
filled-copy owner at n z x y u v = range-in (within_range owner at (at + z) Nobody) at (at + n) (Target x) y u v

pub filled-tail : (owner : ℕ → Owner) (at n z x y : ℕ) → at + n ≤ y → y < at + z → filled owner at n z x y ≡ Nobody
unfolding filled
filled-tail owner at n z x y u v = range-above (within_range owner at (at + z) Nobody) at (at + n) (Target x) y u
    ∙ range-in owner at (at + z) Nobody y (omega arith) v

pub filled-out : (owner : ℕ → Owner) (at n z x y : ℕ) → n ≤ z → (at ≤ y → y < at + z → ⊥) → filled owner at n z x y ≡ owner y
unfolding filled
filled-out owner at n z x y l h = range-out (within_range owner at (at + z) Nobody) at (at + n) (Target x) y (λ u v. h u (omega arith))
    ∙ range-out owner at (at + z) Nobody y h

-- x is at `at` from now on
abbrev pub grown : (ℕ → ℕ) → Round → ℕ → ℕ → ℕ → Round
grown w r x at z = record r {
  m = put r.m x at;
  source = from_range r.source at (size_of w x) x;
  owner = filled r.owner at (size_of w x) z x;
  moves = r.moves ++ x ∷ [];
}

-- x stays from now on
abbrev pub failing : Round → ℕ → Round
failing r x = record r { fails = r.fails ++ x ∷ [] }

-- what was a slot stays one
pub slot-grown : {area : Area} {w : ℕ → ℕ} {items : List ℕ} (r : Round) (x at : ℕ) → IsWhole r x → (s : ℕ) → Slot area w items r.m r.moves r.fails s →
    Slot area w items (put r.m x at) (r.moves ++ x ∷ []) r.fails s
slot-grown r x at whole s (Given h) = Given h
slot-grown r x at whole s (Copied a i h l e q) =
    Copied a i (in-before a x r.moves h) l e (q
    ∙ ap (λ (z : ℕ). z + 2 + i) (sym (put-other r.m x at a (λ e. not-in x r.moves whole.0 (subst (λ (z : ℕ). In z r.moves) e h)))))
slot-grown r x at whole s (Failed a i h l e q) = Failed a i h l e q

pub slot-failing : {area : Area} {w : ℕ → ℕ} {items : List ℕ} (r : Round) (x s : ℕ) → Slot area w items r.m r.moves r.fails s →
    Slot area w items r.m r.moves (r.fails ++ x ∷ []) s
slot-failing r x s (Given h) = Given h
slot-failing r x s (Copied a i h l e q) = Copied a i h l e q
slot-failing r x s (Failed a i h l e q) = Failed a i (in-before a x r.fails h) l e q

-- the source of an unclaimed word stays as x moves
pub source-kept : (w : ℕ → ℕ) (r : Round) (x k at z : ℕ) → Owns r.owner k at z → size_of w x ≤ z → (y : ℕ) → is_claimed (r.owner y) ≡ false →
    (grown w r x at z).source y ≡ r.source y
source-kept w r x k at z own room y h = from-out r.source at (size_of w x) x y (λ u v. clear-not-claimed (r.owner y) k at z h (own y u (omega arith)))

module _ {area : Area} {w : ℕ → ℕ} {items wholes : List ℕ} {zone : ℕ → Bool} (op : IsOpening area w items wholes zone)
    {word : ℕ → ℕ} {todo todo' : ℕ → Type 0} {r : Round} (go : IsGoing area w items zone word todo r) (x c : ℕ) (t : Traces area w items x)
    (p : w x ≡ plain_word c) (whole : IsWhole r x) where
  pub grow : (k at z : ℕ) (word' : ℕ → ℕ) → Owns r.owner k at z → size_of w x ≤ z → ((j : ℕ) → j < size_of w x → word (at + j) ≡ w (x + j)) →
      ((j : ℕ) → size_of w x ≤ j → j < z → word (at + j) ≡ 0) →
      word' x ≡ forward_word (byte_at at) → ((y : ℕ) → y ≢ x → word' y ≡ word y) →
      ((s : ℕ) → todo' s → todo s ⊎ In s (slots_by area c at (w (x + 1)))) → ((s : ℕ) → todo s → todo' s) →
      ((s : ℕ) → In s (slots_by area c at (w (x + 1))) → todo' s) →
      IsGoing area w items zone word' todo' (grown w r x at z)
  grow k at z word' own room body tail tag there back on new =
      record {
        once = (distinct-more x r.moves go.once.0 nm, go.once.1);
        others = λ a h. put-other r.m x at a (λ e. not-in a (r.moves ++ x ∷ []) h (in-last a x r.moves e))
            ∙ go.others a (out a r.moves (λ i. not-in a (r.moves ++ x ∷ []) h (in-before a x r.moves i)));
        rest = λ y h. outside y (λ u v. nobody-not-claimed (r.owner y) k at z (go.rest y h) (own y u v)) ∙ go.rest y h;
        target = λ a j h l. elim (last-cases a x r.moves h) [
          | inr i ↦ ap (λ (u : ℕ). filled r.owner at size z x (u + j)) (old-m a i)
              ∙ outside (r.m a + j) (λ u v. target-not-claimed (r.owner (r.m a + j)) a k at z (go.target a j i l) (own (r.m a + j) u v)) ∙ go.target a j i l
          | inl e ↦ (let s : put r.m x at a ≡ at = put-at r.m x at a e in let q : w (a + 1) ≡ w (x + 1) = ap (λ (u : ℕ). w (u + 1)) e in
              filled-copy r.owner at size z x (put r.m x at a + j) (omega arith) (omega arith) ∙ ap Target (sym e))
        ];
        target_is = λ a y e. by_part (In a (r.moves ++ x ∷ []) × ((j : ℕ) × (j < size_of w a) × (y ≡ put r.m x at a + j))) at size z y
            (λ u v. let q : a ≡ x = target-same (filled r.owner at size z x y) a x e (filled-copy r.owner at size z x y u v) in (
              in-last a x r.moves q,
              (
                y - at,
                (let g : w (a + 1) ≡ w (x + 1) = ap (λ (u : ℕ). w (u + 1)) q in omega arith),
                (let g = put-at r.m x at a q in omega arith),
              ),
            ))
            (λ u v. absurd (nobody-not-target (filled r.owner at size z x y) a (filled-tail r.owner at size z x y u v) e))
            (λ n. let t = go.target_is a y (sym (outside y n) ∙ e) in
            (in-before a x r.moves t.0, (t.1.0, t.1.1, t.1.2 ∙ ap (λ (u : ℕ). u + t.1.0) (sym (old-m a t.0)))));
        source_out = λ y h. by_part (from_range r.source at size x y ≡ y) at size z y
            (λ u v. absurd (let e : true ≡ false = sym (ap is_target (filled-copy r.owner at size z x y u v)) ∙ h in cc))
            (λ u v. from-out r.source at size x y (λ lo hi. absurd (omega arith)) ∙ go.source_out y (ap is_target (own y (omega arith) v)))
            (λ n. from-out r.source at size x y (λ u v. n u (omega arith)) ∙ go.source_out y (ap is_target (sym (outside y n)) ∙ h));
        source_in = λ a j h l. elim (last-cases a x r.moves h) [
          | inr i ↦ ap (λ (u : ℕ). from_range r.source at size x (u + j)) (old-m a i)
              ∙ from-out r.source at size x (r.m a + j) (λ u v.
              target-not-claimed (r.owner (r.m a + j)) a k at z (go.target a j i l) (own (r.m a + j) u (omega arith))) ∙ go.source_in a j i l
          | inl e ↦ (let s : put r.m x at a ≡ at = put-at r.m x at a e in let q : w (a + 1) ≡ w (x + 1) = ap (λ (u : ℕ). w (u + 1)) e in
              from-in r.source at size x (put r.m x at a + j) (omega arith) (omega arith)
              ∙ (let goal : x + (put r.m x at a + j - at) ≡ a + j = omega arith in goal))
        ];
        words = words;
        forwarded = λ a h. elim (last-cases a x r.moves h) [
          | inr i ↦ there a (λ e. nm (subst (λ (z : ℕ). In z r.moves) e i)) ∙ go.forwarded a i ∙ ap (λ (z : ℕ). forward_word (byte_at z)) (sym (old-m a i))
          | inl e ↦ ap word' e ∙ tag ∙ ap (λ (z : ℕ). forward_word (byte_at z)) (sym (put-at r.m x at a e))
        ];
        pinned = λ a i. there a (λ e. nf (subst (λ (z : ℕ). In z r.fails) e i)) ∙ go.pinned a i;
        moved = λ a h. elim (last-cases a x r.moves h) [
          | inr i ↦ go.moved a i
          | inl e ↦ subst (λ (z : ℕ). Traces area w items z × ((c : ℕ) × (w z ≡ plain_word c))) (sym e) (t, (c, p))
        ];
        failed = λ a h. (let f = go.failed a h in (
          f.0,
          f.1,
          out a (r.moves ++ x ∷ []) (λ i. elim (last-cases a x r.moves i) [
            | inr j ↦ not-in a r.moves f.2 j
            | inl e ↦ nf (subst (λ (z : ℕ). In z r.fails) e h)
          ]),
        ));
        settled = λ s z h v y. (let e = same-source s (go.slots s (inr h)) in settled-more z (go.settled s z h (ap w (sym e) ∙ v) y));
        slots = λ s h. elim h [
          | inl h ↦ elim (back s h) [
            | inl i ↦ slot-grown r x at whole s (go.slots s (inl i))
            | inr i ↦ (let q = slots-are (area.strong c) at 0 (w (x + 1)) s i in
                Copied x q.0 (in-last x x r.moves refl) (let z = q.1 in omega arith) (ap (λ (z : ℕ). area.strong z q.0) (class-is w x c p) ∙ q.2)
                (q.3 ∙ ap (λ (z : ℕ). z + 2 + q.0) (sym (put-at r.m x at x refl))))
          ]
          | inr h ↦ slot-grown r x at whole s (go.slots s (inr h))
        ];
        all = all;
      }
    where
      size : ℕ
      size = size_of w x

      nm : In x r.moves → ⊥
      nm = not-in x r.moves whole.0

      nf : In x r.fails → ⊥
      nf = not-in x r.fails whole.1

      outside : (y : ℕ) → (at ≤ y → y < at + z → ⊥) → filled r.owner at (size_of w x) z x y ≡ r.owner y
      outside y n = filled-out r.owner at (size_of w x) z x y room n

      old-m : (a : ℕ) → In a r.moves → put r.m x at a ≡ r.m a
      old-m a h = put-other r.m x at a (λ e. nm (subst (λ (z : ℕ). In z r.moves) e h))

      settled-more : (s : ℕ) → IsSettled w r.moves r.fails s → IsSettled w (r.moves ++ x ∷ []) r.fails s
      settled-more s (inl h) = inl (in-before s x r.moves h)
      settled-more s (inr h) = inr h

      same-source : (s : ℕ) → Slot area w items r.m r.moves r.fails s → from_range r.source at (size_of w x) x s ≡ r.source s
      same-source s k' = from-out r.source at (size_of w x) x s (λ u v.
          clear-not-claimed (r.owner s) k at z (slot-unclaimed op go s k') (own s u (omega arith)))

      old : (s : ℕ) → todo s ⊎ In s r.handled → todo' s ⊎ In s r.handled
      old s (inl h) = inl (on s h)
      old s (inr h) = inr h

      all : (s : ℕ) → Slot area w items (put r.m x at) (r.moves ++ x ∷ []) r.fails s → todo' s ⊎ In s r.handled
      all s (Given h) = old s (go.all s (Given h))
      all s (Failed a i h l e q) = old s (go.all s (Failed a i h l e q))
      all s (Copied a i h l e q) = elim (last-cases a x r.moves h) [
        | inr j ↦ old s (go.all s (Copied a i j l e (q ∙ ap (λ (z : ℕ). z + 2 + i) (old-m a j))))
        | inl j ↦ inl (new s (subst (λ (z : ℕ). In z (slots_by area c at (w (x + 1)))) (sym (q ∙ ap (λ (z : ℕ). z + 2 + i) (put-at r.m x at a j)))
            (slots-in (area.strong c) at 0 (w (x + 1)) i zero-le (let k : w (a + 1) ≡ w (x + 1) = ap (λ (z : ℕ). w (z + 1)) j in omega arith)
            (ap (λ (z : ℕ). area.strong z i) (sym (class-is w x c p)) ∙ ap (λ (z : ℕ). is_strong area w z i) (sym j) ∙ e))))
      ]

      -- where an object that a handled slot referred to is now doesn't change
      same-place : (v : ℕ) → ((y : ℕ) → v ≡ byte_at y → IsYoung area y → IsSettled w r.moves r.fails y) → sent (put r.m x at) v ≡ sent r.m v
      same-place v h = sent-along (put r.m x at) r.m v (λ y e. elim (cases_eq y x) [
        | inl q ↦ absurd (elim (h y e (subst (IsYoung area) (sym q) (op.inside x (inl t)).0)) [
          | inl i ↦ nm (subst (λ (z : ℕ). In z r.moves) q i)
          | inr i ↦ elim i [
            | inl i ↦ nf (subst (λ (z : ℕ). In z r.fails) q i)
            | inr i ↦ plain-not-fixed (w x) c i.0 p (subst (λ (z : ℕ). IsFixed i.0 (w z)) q i.1)
          ]
        ])
        | inr d ↦ put-other r.m x at y d
      ])

      words : (y : ℕ) → has y (r.moves ++ x ∷ []) ≡ false → has y r.fails ≡ false → is_claimed (filled r.owner at (size_of w x) z x y) ≡ false →
          word' y ≡ cond (has y r.handled) (sent (put r.m x at) (w (from_range r.source at (size_of w x) x y))) (w (from_range r.source at (size_of w x) x y))
      words y hm hf nc = by_part (word' y ≡ cond (has y r.handled) (sent (put r.m x at) (w (from_range r.source at (size_of w x) x y)))
          (w (from_range r.source at (size_of w x) x y))) at (size_of w x) z y
          (λ u v. there y d ∙ ap word (let g : y ≡ at + (y - at) = omega arith in g) ∙ body (y - at) (omega arith)
          ∙ ap w (sym (from-in r.source at (size_of w x) x y u v)) ∙ sym (unhandled u (omega arith)))
          (λ u v. let q = own y (omega arith) v in
          there y d ∙ ap word (let g : y ≡ at + (y - at) = omega arith in g) ∙ tail (y - at) (omega arith) (omega arith)
          ∙ sym (op.zero y (owned-zone op go y (λ f. nobody-not-claimed (r.owner y) k at z f q)))
          ∙ ap w (sym (from-out r.source at (size_of w x) x y (λ lo hi. absurd (omega arith)) ∙ go.source_out y (ap is_target q)))
          ∙ sym (unhandled (omega arith) v))
          (λ n.
          let s = from-out r.source at (size_of w x) x y (λ u v. n u (omega arith)) in
          let b = there y d ∙ go.words y (out y r.moves (λ i. not-in y (r.moves ++ x ∷ []) hm (in-before y x r.moves i))) hf
          (ap is_claimed (sym (outside y n)) ∙ nc) in
          elim (cases_Bool (has y r.handled)) [
            | inl h ↦ b ∙ cond-true _ _ _ h ∙ sym (same-place (w (r.source y)) (λ z v q. go.settled y z h v q))
                ∙ ap (λ (z : ℕ). sent (put r.m x at) (w z)) (sym s) ∙ sym (cond-true _ _ _ h)
            | inr h ↦ b ∙ cond-false _ _ _ h ∙ ap w (sym s) ∙ sym (cond-false _ _ _ h)
          ])
        where
          d : y ≢ x
          d e = not-in y (r.moves ++ x ∷ []) hm (in-last y x r.moves e)

          unhandled : at ≤ y → y < at + z → cond (has y r.handled) (sent (put r.m x at) (w (from_range r.source at (size_of w x) x y)))
              (w (from_range r.source at (size_of w x) x y)) ≡ w (from_range r.source at (size_of w x) x y)
          unhandled u v = cond-false _ _ _ (out y r.handled (λ h.
              clear-not-claimed (r.owner y) k at z (slot-unclaimed op go y (go.slots y (inr h))) (own y u v)))

  -- no room: it fails where it stands
  pub fail : (word' : ℕ → ℕ) → word' x ≡ w x + 2 → ((y : ℕ) → y ≢ x → word' y ≡ word y) →
      ((z : ℕ) → todo' z → todo z ⊎ In z (slots_by area c x (w (x + 1)))) → ((z : ℕ) → todo z → todo' z) →
      ((z : ℕ) → In z (slots_by area c x (w (x + 1))) → todo' z) →
      IsGoing area w items zone word' todo' (failing r x)
  fail word' tag there back on new = record {
    once = (go.once.0, distinct-more x r.fails go.once.1 (not-in x r.fails whole.1));
    others = go.others;
    rest = go.rest;
    target = go.target;
    target_is = go.target_is;
    source_out = go.source_out;
    source_in = go.source_in;
    words = λ y hm hf nc. there y (λ e. not-in y (r.fails ++ x ∷ []) hf (in-last y x r.fails e))
        ∙ go.words y hm (out y r.fails (λ i. not-in y (r.fails ++ x ∷ []) hf (in-before y x r.fails i))) nc;
    forwarded = λ a h. there a (λ e. not-in x r.moves whole.0 (subst (λ (z : ℕ). In z r.moves) e h)) ∙ go.forwarded a h;
    pinned = λ a h. elim (last-cases a x r.fails h) [
      | inl e ↦ ap word' e ∙ tag ∙ ap (λ (z : ℕ). w z + 2) (sym e)
      | inr i ↦ there a (λ e. not-in x r.fails whole.1 (subst (λ (z : ℕ). In z r.fails) e i)) ∙ go.pinned a i
    ];
    moved = go.moved;
    failed = λ a h. elim (last-cases a x r.fails h) [
      | inl e ↦ subst (λ (z : ℕ). Traces area w items z × ((c : ℕ) × (w z ≡ plain_word c)) × (has z r.moves ≡ false)) (sym e) (t, (c, p), whole.0)
      | inr i ↦ go.failed a i
    ];
    settled = λ s z h v y. settled-more z (go.settled s z h v y);
    slots = λ s h. elim h [
      | inl h ↦ elim (back s h) [
        | inl i ↦ slot-failing r x s (go.slots s (inl i))
        | inr i ↦ (let q = slots-are (area.strong c) x 0 (w (x + 1)) s i in
            Failed x q.0 (in-last x x r.fails refl) (let z = q.1 in omega arith) (ap (λ (z : ℕ). area.strong z q.0) (class-is w x c p) ∙ q.2) q.3)
      ]
      | inr h ↦ slot-failing r x s (go.slots s (inr h))
    ];
    all = all;
  }
    where
      settled-more : (s : ℕ) → IsSettled w r.moves r.fails s → IsSettled w r.moves (r.fails ++ x ∷ []) s
      settled-more s (inl h) = inl h
      settled-more s (inr h) = inr (elim h [
        | inl h ↦ inl (in-before s x r.fails h)
        | inr h ↦ inr h
      ])

      old : (s : ℕ) → todo s ⊎ In s r.handled → todo' s ⊎ In s r.handled
      old s (inl h) = inl (on s h)
      old s (inr h) = inr h

      all : (s : ℕ) → Slot area w items r.m r.moves (r.fails ++ x ∷ []) s → todo' s ⊎ In s r.handled
      all s (Given h) = old s (go.all s (Given h))
      all s (Copied a i h l e q) = old s (go.all s (Copied a i h l e q))
      all s (Failed a i h l e q) = elim (last-cases a x r.fails h) [
        | inr j ↦ old s (go.all s (Failed a i j l e q))
        | inl j ↦ inl (new s (subst (λ (z : ℕ). In z (slots_by area c x (w (x + 1)))) (sym (q ∙ ap (λ (z : ℕ). z + 2 + i) j))
            (slots-in (area.strong c) x 0 (w (x + 1)) i zero-le (let k : w (a + 1) ≡ w (x + 1) = ap (λ (z : ℕ). w (z + 1)) j in omega arith)
            (ap (λ (z : ℕ). area.strong z i) (sym (class-is w x c p)) ∙ ap (λ (z : ℕ). is_strong area w z i) (sym j) ∙ e))))
      ]
