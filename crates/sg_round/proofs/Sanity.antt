-- Each worker is sane in the midst of a round.
use Rattle.std.proofs.Common.{◌≡◌, ℕ, suc, ◌+◌, ◌-◌, ◌≤◌, ◌<◌, ◌⊎◌, List, [], ◌∷◌, ◌++◌, length, sym, refl, ap, ◌∙◌, subst, inl, inr}
use Rattle.std.proofs.Common.{arith}
use Rattle.std.proofs.lemmas.List.{length-append}
use Rattle.sg_words.specs.Lists.{In}
use Rattle.sg_words.specs.Tags.{plain_word}
use Rattle.sg_words.specs.Objects.{size_of}
use Rattle.sg_words.specs.Reach.{IsFreshIn, AreDistinct, AreAmong}
use Rattle.sg_words.specs.Blocks.{slot_size}
use Rattle.sg_words.specs.Words.{Words}
use Rattle.sg_words.proofs.Members.{in-here, in-there, in-left, in-right, in-cases, not-in}
use Rattle.sg_words.proofs.Distinct.{few}
use Rattle.sg_words.proofs.Blocks.{slot_fits, class_bounds, slot_size-class, slot_size-holds}
use Rattle.sg_round.specs.Area.{IsYoung, IsFixed, class_of}
use Rattle.sg_round.specs.Items.{Item, SlotOf, WholeOf, slots_of}
use Rattle.sg_round.specs.Worker.{Object, Stage, Look, Size, Room, Take, Slots, Mark, Body, Puts, Swap, Pin, Send, Dirty, Mid, Idle, Took, Count, On, Offer}
use Rattle.sg_round.specs.Worker.{Seek, Grab, Over, Worker, size_for}
use Rattle.sg_round.specs.Sane.{IsWord, IsSaneItem, AreSaneItems, IsSaneObject, IsSaneCopy, IsSaneStage, IsSaneAt, IsSane}
use Rattle.sg_round.specs.Round.{Start, IsRoundOpening, Round, Given, Copied, Failed, Owns, IsTaken}
use Rattle.sg_round.proofs.Relation.{InRound, Reads, IsKnown, IsKnownItem, AreKnown, in_hand, Sized, AtStage, AtMid, World}
use Rattle.sg_round.proofs.Lists.{distinct-append}
use Rattle.sg_round.proofs.Going.{read-traced, below-free, free-source}

-- the class in a first word
small-class : (u c : ℕ) → c < 256 → (u ≡ plain_word c) ⊎ IsFixed c u → class_of u < 256
small-class u c l f = elim f [ inl e ↦ omega arith | inr e ↦ elim e [ inl e ↦ omega arith | inr e ↦ omega arith ] ]

class-known : (u class c : ℕ) → u ≡ plain_word class → c < 256 → (u ≡ plain_word c) ⊎ IsFixed c u → class < 256
class-known u class c p l f = elim f [ inl e ↦ omega arith | inr e ↦ elim e [ inl e ↦ omega arith | inr e ↦ omega arith ] ]

-- the objects that moved or failed are different words of the nursery
abbrev shifted : ℕ → List ℕ → List ℕ
shifted low [] = []
shifted low (x ∷ xs) = (suc x - low) ∷ shifted low xs

shifted-length : (low : ℕ) (xs : List ℕ) → length (shifted low xs) ≡ length xs
shifted-length low [] = refl
shifted-length low (x ∷ xs) = ap suc (shifted-length low xs)

shifted-fresh : (low x : ℕ) (xs : List ℕ) → low ≤ x → ((y : ℕ) → In y xs → low ≤ y) → IsFreshIn x xs → IsFreshIn (suc x - low) (shifted low xs)
shifted-fresh low x [] l all f = tt
shifted-fresh low x (y ∷ xs) l all f =
    (λ e. (let m = all y (in-here y y xs refl) in f.0 (let g : x ≡ y = omega arith in g)), shifted-fresh low x xs l (λ z h. all z (in-there z y xs h)) f.1)

shifted-distinct : (low : ℕ) (xs : List ℕ) → ((y : ℕ) → In y xs → low ≤ y) → AreDistinct xs → AreDistinct (shifted low xs)
shifted-distinct low [] all d = tt
shifted-distinct low (x ∷ xs) all d = (
  shifted-fresh low x xs (all x (in-here x x xs refl)) (λ z h. all z (in-there z x xs h)) d.0,
  shifted-distinct low xs (λ z h. all z (in-there z x xs h)) d.1,
)

shifted-among : (low high : ℕ) (xs : List ℕ) → ((y : ℕ) → In y xs → (low ≤ y) × (y < high)) → AreAmong (high - low) (shifted low xs)
shifted-among low high [] all = tt
shifted-among low high (x ∷ xs) all =
    let b = all x (in-here x x xs refl) in let b0 = b.0 in let b1 = b.1 in
    (omega arith, omega arith, shifted-among low high xs (λ y h. all y (in-there y x xs h)))

few-between : (low high : ℕ) (xs : List ℕ) → ((y : ℕ) → In y xs → (low ≤ y) × (y < high)) → AreDistinct xs → length xs ≤ high - low
few-between low high xs all d =
    let e = shifted-length low xs in
    let f = few (high - low) (shifted low xs) (shifted-distinct low xs (λ y h. (all y h).0) d) (shifted-among low high xs all) in omega arith

module _ {t : Start} {v : Words} {workers : ℕ → Worker} (o : IsRoundOpening t) (wo : World t v workers) where
  abbrev pub r : Round
  r = wo.round

  -- a claimed place lies in a block
  claimed-place : (at z : ℕ) → IsTaken t.area v.block t.words.used v.used at z → (t.area.high ≤ at) × (at + z ≤ t.area.rows)
  claimed-place at z q =
      let f = slot_fits z q.i q.fits in
      let l = q.there in
      let e = q.is in
      let h = o.limits.heap in
      (omega arith, omega arith)

  copy-place : (a : ℕ) → In a r.moves → (t.area.high ≤ r.m a) × (r.m a + size_of t.words.word a ≤ t.area.rows)
  copy-place a h =
      let c = claimed-place (r.m a) (slot_size (size_of t.words.word a)) (wo.claims.homed a h) in
      let short = (o.opening.inside a (inl (wo.going.moved a h).0)).2 in
      let room = slot_size-holds (size_of t.words.word a) (omega arith) in
      let c0 = c.0 in let c1 = c.1 in (omega arith, omega arith)

  pub slot-word : (s : ℕ) → InRound t r s → IsWord t.area s
  slot-word s (Given h) = o.opening.item_word s h
  slot-word s (Copied a i h l e q) = let c = copy-place a h in let c0 = c.0 in let c1 = c.1 in let n = o.limits.nursery in let m =
      o.limits.sections in let u = q in (omega arith, omega arith)
  slot-word s (Failed a i h l e q) =
      let c = o.opening.inside a (inl (wo.going.failed a h).0) in let c0 = c.0.0 in let c1 = c.1 in
      let n = o.limits.heap in let m = o.limits.sections in let u = q in (omega arith, omega arith)

  pub known-sane : (item : Item) → IsKnownItem t r item → IsSaneItem t.area item
  known-sane (SlotOf s) h = slot-word s h
  known-sane (WholeOf x) (inl h) = let c = o.opening.inside x (inr h) in let c0 = c.0.0 in let c1 = c.1 in let n = o.limits.heap in (omega arith, omega arith)
  known-sane (WholeOf x) (inr (inl h)) =
      let c = o.opening.inside x (inl (wo.going.failed x h).0) in let c0 = c.0.0 in let c1 = c.1 in let n = o.limits.heap in (omega arith, omega arith)
  known-sane (WholeOf x) (inr (inr h)) = let c = copy-place h.0 h.1 in let c0 = c.0 in let c1 = c.1 in let n = o.limits.nursery in let e =
      h.2 in (omega arith, omega arith)

  list-sane : (items : List Item) → AreKnown t r items → AreSaneItems t.area items
  list-sane [] h = tt
  list-sane (item ∷ items) h = (known-sane item h.0, list-sane items h.1)

  -- the class of an object whose slots are to come
  known-class : (x : ℕ) → IsKnown t.wholes r x → class_of (t.words.word (r.source x)) < 256
  known-class x (inl h) = let c = o.opening.first x (inr h) in
      subst (λ (y : ℕ). class_of (t.words.word y) < 256)
      (sym (free-source o.opening wo.going x (below-free o.opening wo.going x (o.opening.inside x (inr h)).0.1)))
      (small-class (t.words.word x) c.0 c.1 c.2)
  known-class x (inr (inl h)) = let c = o.opening.first x (inl (wo.going.failed x h).0) in
      subst (λ (y : ℕ). class_of (t.words.word y) < 256)
      (sym (free-source o.opening wo.going x (below-free o.opening wo.going x (o.opening.inside x (inl (wo.going.failed x h).0)).0.1)))
      (small-class (t.words.word x) c.0 c.1 c.2)
  known-class x (inr (inr h)) = let c = o.opening.first h.0 (inl (wo.going.moved h.0 h.1).0) in
      subst (λ (y : ℕ). class_of (t.words.word y) < 256)
      (sym (ap r.source (let e = h.2 in let g : x ≡ r.m h.0 + 0 = omega arith in g) ∙ wo.going.source_in h.0 0 h.1 (omega arith)
      ∙ (let g : h.0 + 0 ≡ h.0 = omega arith in g)))
      (small-class (t.words.word h.0) c.0 c.1 c.2)

  read-young : (s x : ℕ) → Reads t r s x → IsYoung t.area x × (x + size_of t.words.word x ≤ t.area.high) × (t.words.word (x + 1) ≤ 62)
  read-young s x h = o.opening.inside x (inl (read-traced o.opening wo.going s x h))

  object-sane : (spare : ℕ → ℕ) (s : ℕ) (ob : Object) → Sized t r spare s ob → IsSaneObject t.area ob
  object-sane spare s ob q =
      let i = read-young s ob.x q.seen in
      let c = o.opening.first ob.x (inl (read-traced o.opening wo.going s ob.x q.seen)) in
      let e = q.length in let f = i.1 in
      record { young = i.0; inside = omega arith; short = q.short; known = class-known (t.words.word ob.x) ob.class c.0 q.plain c.1 c.2 }

  copy-sane : (k at : ℕ) (ob : Object) → Owns r.owner k at (size_for ob) → IsSaneCopy t.area ob at
  copy-sane k at ob own =
      let b = class_bounds (size_for ob) (slot_size-class (ob.n + 2)) in
      claimed-place at (size_for ob) (wo.claims.held k at (size_for ob) at (own at (omega arith) (omega arith)))

  stage-sane : (k : ℕ) (spare : ℕ → ℕ) (s : ℕ) (stage : Stage) → AtStage t v r k spare s stage → IsWord t.area s × IsSaneStage t.area s stage
  stage-sane k spare s (Look x) q = (slot-word s q.slot, q.young)
  stage-sane k spare s (Size x class) q =
      let i = read-young s x q.0 in
      let c = o.opening.first x (inl (read-traced o.opening wo.going s x q.0)) in
      (slot-word s q.0.slot, (i.0, (let f = i.1 in omega arith), class-known (t.words.word x) class c.0 q.1 c.1 c.2))
  stage-sane k spare s (Room ob b) q = (slot-word s q.0.seen.slot, (object-sane spare s ob q.0, q.2))
  stage-sane k spare s (Take ob b) q = (slot-word s q.0.seen.slot, (object-sane spare s ob q.0, q.2))
  stage-sane k spare s (Slots ob b) q = (slot-word s q.0.seen.slot, (object-sane spare s ob q.0, q.2))
  stage-sane k spare s (Mark ob b i) q = (slot-word s q.0.seen.slot, (object-sane spare s ob q.0, q.2, q.4))
  stage-sane k spare s (Body ob at j) q = (slot-word s q.0.seen.slot, (object-sane spare s ob q.0, copy-sane k at ob q.1, q.2, q.3))
  stage-sane k spare s (Puts ob at j u) q = (slot-word s q.0.seen.slot, (object-sane spare s ob q.0, copy-sane k at ob q.1, q.2, q.3))
  stage-sane k spare s (Swap ob at) q = (slot-word s q.0.seen.slot, (object-sane spare s ob q.0, copy-sane k at ob q.1))
  stage-sane k spare s (Pin ob) q = (slot-word s q.0.seen.slot, object-sane spare s ob q.0)
  stage-sane k spare s (Send to) q = let c = copy-place q.0 q.2 in let e = q.3 in let c0 = c.0 in let c1 =
      c.1 in (slot-word s q.1.slot, ((omega arith), (omega arith)))
  stage-sane k spare s Dirty q = (slot-word s q.1.slot, q.2)

  mid-sane : (k : ℕ) (spare : ℕ → ℕ) (list : List Item) (hand : List ℕ) (mid : Mid) → AtMid t v r k spare list hand mid → IsSaneAt t.area t.team list hand mid
  mid-sane k spare list hand Idle q = tt
  mid-sane k spare list hand (Took item) q = (known-sane item q.0, q.1)
  mid-sane k spare list hand (Count x class) q = (known-sane (WholeOf x) q.0, subst (λ (c : ℕ). c < 256) (sym q.1) (known-class x q.0), q.2)
  mid-sane k spare list hand (On s stage) q = stage-sane k spare s stage q
  mid-sane k spare list hand (Offer i next) q = (q.0, q.2, mid-sane k spare list hand next q.3)
  mid-sane k spare list hand (Seek i) q = (q.2, q.0, q.1)
  mid-sane k spare list hand (Grab i item) q = (q.2, known-sane item q.4, q.0, q.1)
  mid-sane k spare list hand Over q = (q.0, q.1)

  -- at most as many objects move and fail as the nursery has words
  pub few-settled : length r.moves + length r.fails ≤ t.area.high - t.area.low
  few-settled =
      let e = length-append r.moves r.fails in
      let f = few-between t.area.low t.area.high (r.moves ++ r.fails)
      (λ y h. elim (in-cases y r.moves r.fails h)
      [ inl i ↦ (o.opening.inside y (inl (wo.going.moved y i).0)).0 | inr i ↦ (o.opening.inside y (inl (wo.going.failed y i).0)).0 ])
      (distinct-append r.moves r.fails wo.going.once.0 wo.going.once.1 (λ z h i. not-in z r.moves (wo.going.failed z h).2 i)) in
      omega arith

  -- the slots that have ended are different words
  pub few-handled : length r.handled ≤ t.area.end - t.area.low
  few-handled = few-between t.area.low t.area.end r.handled (λ y h. slot-word y (wo.going.slots y (inr h))) wo.single.once

  pub is-sane : (k : ℕ) → IsSane t.area t.team t.most k (workers k)
  is-sane k = let st = wo.stands k in record {
    limits = o.limits;
    member = elim st.member [ inl l ↦ inl l | inr e ↦ inr e.0 ];
    list = list-sane (workers k).list st.known;
    few = (let f = st.few in let m = few-settled in omega arith);
    hand = λ s h. slot-word s (wo.going.slots s
        (inl (inl (
          k,
          in-right s (in_hand t r.source (workers k).mid) ((workers k).hand ++ slots_of t.area t.words.word r.source (workers k).list)
              (in-left s (workers k).hand (slots_of t.area t.words.word r.source (workers k).list) h),
        ))));
    spares = λ z some. (let class = st.classes z some in let b = class_bounds z class in
        let c = claimed-place ((workers k).spare z) z
        (wo.claims.held k ((workers k).spare z) z ((workers k).spare z) (st.spares z some ((workers k).spare z) (omega arith) (omega arith))) in
        (class, c.0, c.1));
    passed = λ z. (st.passed z).0;
    at = mid-sane k (workers k).spare (workers k).list (workers k).hand (workers k).mid st.at;
  }
