-- The rules by which a worker looks for a place for a copy, takes a block, and claims a slot.
use Rattle.std.proofs.Common.{◌≡◌, ◌≢◌, ℕ, ◌+◌, ◌^◌, ◌≤◌, ◌<◌, ◌⊎◌, true, length, nat_lt, sym, refl, ap, ◌∙◌, subst, inl}
use Rattle.std.proofs.Common.{inr, arith, le_refl}
use Rattle.std.proofs.lemmas.Bool.{cases_eq, cases_lt, cond-true, cond-false, lt-ltb, le-ltb}
use Rattle.std.specs.Int.{bit_at}
use Rattle.std.specs.Int.Bits.{bit_or}
use Rattle.sg_words.specs.Objects.{size_of}
use Rattle.sg_words.specs.Words.{put, Words}
use Rattle.sg_words.specs.Blocks.{slot_size, slots}
use Rattle.sg_words.specs.declared.steps.BlockWord.{BlockWord}
use Rattle.sg_words.specs.declared.steps.BlockWord.TheVariants.{Free, Swept}
use Rattle.sg_words.proofs.Puts.{put-at, put-other, within_range, range-in}
use Rattle.sg_words.proofs.Blocks.{slot_size-class, class_bounds, slot_once, block_once, bit_set, bit_same, bit_kept, bit_cases}
use Rattle.sg_round.specs.Area.{Area, place}
use Rattle.sg_round.specs.Worker.{Object, Stage, Size, Room, Take, Slots, Mark, Body, Pin, On, Worker, size_for, on, looking}
use Rattle.sg_round.specs.Rules.{Nothing}
use Rattle.sg_round.specs.Round.{Start, InSlot, IsClear, Nobody, Claimed, Round, IsPassed, IsTaken}
use Rattle.sg_round.proofs.Relation.{ArePassed, Sized, AtStage, IsFilling, Kept}
use Rattle.sg_round.proofs.Going.{nobody-not-claimed}
use Rattle.sg_round.proofs.Steps.{range-out, by_range, claimed}
use Rattle.sg_round.proofs.Frame.{passed-later, object-fits}
use Rattle.sg_round.proofs.Moves.{Before, member, resting, claims-as, other-claim, claim-same, claim-size, nothing, walks}
use Rattle.sg_round.proofs.Looks.{object-read}

pub swept-not-free : (z : ℕ) (state : BlockWord) → state ≡ Swept z → state ≡ Free → ⊥
swept-not-free z state e f = let q : Swept z ≡ Free = sym e ∙ f in cc

pub swept-same : (y z : ℕ) (state : BlockWord) → state ≡ Swept y → state ≡ Swept z → y ≡ z
swept-same y z state e f = let q : Swept y ≡ Swept z = sym e ∙ f in cc

-- a slot that is claimed stays so
pub taken-later : {area : Area} {block : ℕ → BlockWord} {used0 used : ℕ → ℕ} {at z : ℕ} (block' : ℕ → BlockWord) (used' : ℕ → ℕ) →
    ((b : ℕ) → block b ≢ Free → block' b ≡ block b) →
    ((b i : ℕ) → bit_at (used b) i ≡ 1 → bit_at (used' b) i ≡ 1) → IsTaken area block used0 used at z → IsTaken area block' used0 used' at z
taken-later {area} {block} {used0} {used} {at} {z} block' used' blocks bits q = record {
  b = q.b;
  i = q.i;
  there = q.there;
  class = q.class;
  fits = q.fits;
  is = q.is;
  state = blocks q.b (swept-not-free z (block q.b) q.state) ∙ q.state;
  clear = q.clear;
  set = bits q.b q.i q.set;
}

module _ {t : Start} {others : ℕ → Type 0} {k : ℕ} {v : Words} {r : Round} where
  -- one more block can't take it
  one-more : (a : Worker) (o : Object) (b : ℕ) → Before t others k v r a → ArePassed t v (size_for o) b →
      (b < t.area.blocks → IsPassed v.block v.used (size_for o) b) → ArePassed t v (size_for o) (b + 1)
  one-more a o b n q p d l h = elim (cases_lt d b) [
    | inl less ↦ q d less h
    | inr more ↦ (let e : b ≡ d = omega arith in subst (λ (d : ℕ). IsPassed v.block v.used (size_for o) d) e (p (omega arith)))
  ]

  at-looking : (a : Worker) (spare : ℕ → ℕ) (s : ℕ) (o : Object) (b : ℕ) → Before t others k v r a → Sized t r spare s o → ArePassed t v (size_for o) b →
      AtStage t v r k spare s (looking t.area o b)
  at-looking a spare s o b n sized passed = elim (cases_lt b t.area.blocks) [
    | inl l ↦ subst (λ (stage : Stage). AtStage t v r k spare s stage)
        (sym (cond-true (nat_lt b t.area.blocks) (Room o b) (Pin o) (lt-ltb b t.area.blocks l))) (sized, passed, l)
    | inr l ↦ subst (λ (stage : Stage). AtStage t v r k spare s stage) (sym (cond-false (nat_lt b t.area.blocks) (Room o b) (Pin o) (le-ltb b t.area.blocks l)))
        (sized, λ d m h. passed d (omega arith) h)
  ]

  -- the worker looks for a place from block b on
  looks-from : (a : Worker) (s : ℕ) (stage : Stage) (o : Object) (b : ℕ) → Before t others k v r (on a s stage) →
      ((at z : ℕ) → IsFilling at z (On s stage) → ⊥) → Sized t r a.spare s o →
      ArePassed t v (size_for o) b → Kept t others k v r (on a s stage) Nothing v (on a s (looking t.area o b))
  looks-from a s stage o b n none sized passed =
      walks (on a s stage) (On s (looking t.area o b)) n tt refl (λ at z h. absurd (none at z h)) (at-looking (on a s stage) a.spare s o b n sized passed)

  pub none-spare : (a : Worker) (s : ℕ) (o : Object) → a.spare (size_for o) ≡ 0 → v.word (o.x + 1) ≡ o.n → Before t others k v r (on a s (Size o.x o.class)) →
      Kept t others k v r (on a s (Size o.x o.class)) Nothing v (on a s (looking t.area o (a.passed (size_for o))))
  none-spare a s o none saw n =
      looks-from a s (Size o.x o.class) o (a.passed (size_for o)) n (λ at z h. h) (object-read a s o none saw n) (n.stands.passed (size_for o)).1

  pub free-seen : (a : Worker) (s : ℕ) (o : Object) (b : ℕ) → Before t others k v r (on a s (Room o b)) →
      Kept t others k v r (on a s (Room o b)) Nothing v (on a s (Take o b))
  free-seen a s o b n = walks (on a s (Room o b)) (On s (Take o b)) n tt refl (λ at z h. h) n.stands.at

  pub swept-seen : (a : Worker) (s : ℕ) (o : Object) (b : ℕ) → v.block b ≡ Swept (size_for o) → Before t others k v r (on a s (Room o b)) →
      Kept t others k v r (on a s (Room o b)) Nothing v (on a s (Slots o b))
  swept-seen a s o b saw n = let q = n.stands.at in walks (on a s (Room o b)) (On s (Slots o b)) n tt refl (λ at z h. h) (q.0, q.1, q.2, saw)

  pub other-seen : (a : Worker) (s : ℕ) (o : Object) (b : ℕ) (state : BlockWord) → state ≢ Free → state ≢ Swept (size_for o) → v.block b ≡ state →
      Before t others k v r (on a s (Room o b)) →
      Kept t others k v r (on a s (Room o b)) Nothing v (on a s (looking t.area o (b + 1)))
  other-seen a s o b state some other saw n =
      let q = n.stands.at in
      looks-from a s (Room o b) o (b + 1) n (λ at z h. h) q.0
      (one-more (on a s (Room o b)) o b n q.1 (λ l. record { taken = λ e. some (sym saw ∙ e); full = λ e. absurd (other (sym saw ∙ e)) }))

  pub take-missed : (a : Worker) (s : ℕ) (o : Object) (b : ℕ) → Before t others k v r (on a s (Take o b)) →
      Kept t others k v r (on a s (Take o b)) Nothing v (on a s (Room o b))
  take-missed a s o b n = walks (on a s (Take o b)) (On s (Room o b)) n tt refl (λ at z h. h) n.stands.at

  pub clear-seen : (a : Worker) (s : ℕ) (o : Object) (b i : ℕ) → i < slots (size_for o) → Before t others k v r (on a s (Slots o b)) →
      Kept t others k v r (on a s (Slots o b)) Nothing v (on a s (Mark o b i))
  clear-seen a s o b i l n = let q = n.stands.at in walks (on a s (Slots o b)) (On s (Mark o b i)) n tt refl (λ at z h. h) (q.0, q.1, q.2, q.3, l)

  pub full-seen : (a : Worker) (s : ℕ) (o : Object) (b u : ℕ) → ((j : ℕ) → j < slots (size_for o) → bit_at u j ≡ 1) → v.used b ≡ u →
      Before t others k v r (on a s (Slots o b)) →
      Kept t others k v r (on a s (Slots o b)) Nothing v (on a s (looking t.area o (b + 1)))
  full-seen a s o b u set saw n =
      let q = n.stands.at in
      looks-from a s (Slots o b) o (b + 1) n (λ at z h. h) q.0
      (one-more (on a s (Slots o b)) o b n q.1 (λ l.
      record { taken = swept-not-free (size_for o) (v.block b) q.3; full = λ e i h. ap (λ (w : ℕ). bit_at w i) saw ∙ set i h }))

  pub mark-missed : (a : Worker) (s : ℕ) (o : Object) (b i : ℕ) → Before t others k v r (on a s (Mark o b i)) →
      Kept t others k v r (on a s (Mark o b i)) Nothing v (on a s (Room o b))
  mark-missed a s o b i n = let q = n.stands.at in walks (on a s (Mark o b i)) (On s (Room o b)) n tt refl (λ at z h. h) (q.0, q.1, q.2)

  -- a free block gets a size
  pub block-taken : (a : Worker) (s : ℕ) (o : Object) (b : ℕ) → v.block b ≡ Free → Before t others k v r (on a s (Take o b)) →
      Kept t others k v r (on a s (Take o b)) Nothing (record v { block = put v.block b (Swept (size_for o)) }) (on a s (Room o b))
  block-taken a s o b saw n =
      let z0 = size_for o in
      let block' = put v.block b (Swept z0) in
      let cl = n.claims in
      let q = n.stands.at in
      let st = n.stands in
      let other : (d : ℕ) → d ≢ b → block' d ≡ v.block d = λ d h. put-other v.block b (Swept z0) d h in
      let here : (d : ℕ) → d ≡ b → block' d ≡ Swept z0 = λ d e. put-at v.block b (Swept z0) d e in
      let blocks : (d : ℕ) → v.block d ≢ Free → block' d ≡ v.block d = λ d some. other d (λ e. some (ap v.block e ∙ saw)) in
      let passes : (z d : ℕ) → IsPassed v.block v.used z d → IsPassed block' v.used z d =
      λ z d p. passed-later v.block block' v.used v.used blocks (λ b i e. e) z d p in
      record {
        round = r;
        later = record {
          blocks = blocks;
          bits = λ b i e. e;
          moves = λ x h. (h, refl);
          fails = λ x h. h;
          more = le_refl (length r.moves + length r.fails);
          whole = λ x h. h;
          slots = λ s h. h;
          sources = λ s h. refl;
          heads = λ x h. (refl, refl);
          owns = λ j at z y d e. (e, refl);
          claims = λ j at z y d e. e;
          cells = λ j i d l e. e;
        };
        going = n.going;
        claims = record {
          opened = λ d. elim (cases_eq d b) [
            | inr h ↦ elim (cl.opened d) [ inl e ↦ inl (other d h ∙ e) | inr e ↦ inr (e.0, e.1, (e.2.0, e.2.1, other d h ∙ e.2.2)) ]
            | inl h ↦ inr (
              subst (λ (c : ℕ). c < t.area.blocks) (sym h) q.2,
              elim (cl.opened d) [ inl e ↦ sym e ∙ ap v.block h ∙ saw | inr e ↦ e.1 ],
              (z0, slot_size-class (o.n + 2), here d h),
            )
          ];
          risen = cl.risen;
          clear = λ d z i y h c. cl.clear d z i y h (elim (cases_eq d b) [
            | inl e ↦ inl (ap v.block e ∙ saw)
            | inr e ↦ elim c [ inl f ↦ inl (sym (other d e) ∙ f) | inr f ↦ inr (sym (other d e) ∙ f.0, f.1) ]
          ]);
          held = λ j at z y e. taken-later block' v.used blocks (λ b i e. e) (cl.held j at z y e);
          homed = λ x h. taken-later block' v.used blocks (λ b i e. e) (cl.homed x h);
          taken = λ d i e c. (let u = cl.taken d i e c in (u.0, u.1, u.2, u.3, blocks d (swept-not-free u.0 (v.block d) u.4) ∙ u.4, u.5));
          full = λ x d h l. passes (slot_size (size_of t.words.word x)) d (cl.full x d h l);
          short = cl.short;
        };
        cards = n.cards;
        cells = n.cells;
        stands = record {
          member = inl (member (on a s (Take o b)) tt n);
          spares = st.spares;
          claims = claims-as (on a s (Take o b)) (On s (Room o b)) n (λ at z h. h);
          classes = st.classes;
          passed = λ z. ((st.passed z).0, λ d l h. passes z d ((st.passed z).1 d l h));
          known = st.known;
          few = st.few;
          at = (q.0, λ d l h. passes z0 d (q.1 d l h), q.2);
        };
        told = nothing r;
        single = λ h. h;
      }

  -- a slot is claimed
  pub slot-marked : (a : Worker) (s : ℕ) (o : Object) (b i u : ℕ) → bit_at u i ≡ 0 → v.used b ≡ u → Before t others k v r (on a s (Mark o b i)) →
      Kept t others k v r (on a s (Mark o b i)) Nothing (record v { used = put v.used b (bit_or (v.used b) (2 ^ i)) })
      (record a { passed = put a.passed (size_for o) b; mid = On s (Body o (place t.area b (size_for o) i) 1) })
  slot-marked a s o b i u unset saw n =
      let a0 = on a s (Mark o b i) in
      let z0 = size_for o in
      let at = place t.area b z0 i in
      let q = n.stands.at in
      let cl = n.claims in
      let st = n.stands in
      let clear : bit_at (v.used b) i ≡ 0 = ap (λ (w : ℕ). bit_at w i) saw ∙ unset in
      let used' = put v.used b (bit_or (v.used b) (2 ^ i)) in
      let class = slot_size-class (o.n + 2) in
      let here : (d : ℕ) → d ≡ b → used' d ≡ bit_or (v.used b) (2 ^ i) = λ d e. put-at v.used b (bit_or (v.used b) (2 ^ i)) d e in
      let there : (d : ℕ) → d ≢ b → used' d ≡ v.used d = λ d h. put-other v.used b (bit_or (v.used b) (2 ^ i)) d h in
      let bits : (d j : ℕ) → bit_at (v.used d) j ≡ 1 → bit_at (used' d) j ≡ 1 = λ d j e. elim (cases_eq d b) [
        | inl h ↦ ap (λ (w : ℕ). bit_at w j) (here d h) ∙ bit_kept (v.used b) i j (ap (λ (c : ℕ). bit_at (v.used c) j) (sym h) ∙ e)
        | inr h ↦ ap (λ (w : ℕ). bit_at w j) (there d h) ∙ e
      ] in
      let unset' : (d j : ℕ) → bit_at (used' d) j ≡ 0 → bit_at (v.used d) j ≡ 0 = λ d j e. elim (bit_cases (v.used d) j) [
        | inl f ↦ absurd (let g = bits d j f in omega arith)
        | inr f ↦ f
      ] in
      let set-only : (d j : ℕ) → bit_at (used' d) j ≡ 1 → ((d ≡ b) × (j ≡ i)) ⊎ (bit_at (v.used d) j ≡ 1) = λ d j e. elim (cases_eq d b) [
        | inr h ↦ inr (ap (λ (w : ℕ). bit_at w j) (sym (there d h)) ∙ e)
        | inl h ↦ elim (cases_eq j i) [
          | inl f ↦ inl (h, f)
          | inr f ↦ inr (ap (λ (c : ℕ). bit_at (v.used c) j) h ∙ sym (bit_same (v.used b) i j f) ∙ ap (λ (w : ℕ). bit_at w j) (sym (here d h)) ∙ e)
        ]
      ] in
      let set-here : (d j : ℕ) → d ≡ b → j ≡ i → bit_at (used' d) j ≡ 1 = λ d j e f. ap (λ (w : ℕ). bit_at w j) (here d e)
      ∙ ap (bit_at (bit_or (v.used b) (2 ^ i))) f ∙ bit_set (v.used b) i in
      let passes : (z d : ℕ) → IsPassed v.block v.used z d → IsPassed v.block used' z d =
      λ z d p. passed-later v.block v.block v.used used' (λ b h. refl) bits z d p in
      let free : (y : ℕ) → at ≤ y → y < at + z0 → (r.owner y ≡ Nobody) × (t.zone y ≡ true) = λ y lo hi. (
        cl.clear b z0 i y (q.2, q.4, lo, hi) (inr (q.3, clear)),
        n.opening.zoned.clear b z0 i y (q.2, q.4, lo, hi) (elim (cl.opened b) [
          | inl e ↦ inr (sym e ∙ q.3, cl.risen b i clear)
          | inr e ↦ inl e.1
        ]),
      ) in
      let owner' = within_range r.owner at (at + z0) (Claimed k at z0) in
      let inside : (y : ℕ) → at ≤ y → y < at + z0 → owner' y ≡ Claimed k at z0 = λ y lo hi. range-in r.owner at (at + z0) (Claimed k at z0) y lo hi in
      let outside : (y : ℕ) → (at ≤ y → y < at + z0 → ⊥) → owner' y ≡ r.owner y = λ y h. range-out r.owner at (at + z0) (Claimed k at z0) y h in
      let old : (y : ℕ) → (r.owner y ≡ Nobody → ⊥) → owner' y ≡ r.owner y = λ y h. outside y (λ lo hi. h (free y lo hi).0) in
      let bounds = class_bounds z0 class in
      -- a slot that can be claimed is another one
      let apart : (d z j y : ℕ) → InSlot t.area d z j y → IsClear v.block used' d z j → at ≤ y → y < at + z0 → ⊥ = λ d z j y h f lo hi.
      (let same : d ≡ b = block_once t.area.high d b z z0 j i y h.1 q.4 h.2 h.3 lo hi in elim f [
        | inl e ↦ swept-not-free z0 (v.block b) q.3 (ap v.block (sym same) ∙ e)
        | inr e ↦ (
            let size : z ≡ z0 = swept-same z z0 (v.block b) (ap v.block (sym same) ∙ e.0) q.3 in
            let h' : InSlot t.area b z0 j y = subst (λ (c : ℕ). InSlot t.area b c j y) size (subst (λ (c : ℕ). InSlot t.area c z j y) same h) in
            let slot : j ≡ i = slot_once t.area.high b z0 j i y h'.2 h'.3 lo hi in
            let g = set-here d j same slot in let e1 = e.1 in absurd (omega arith))
      ]) in
      let taken : IsTaken t.area v.block t.words.used used' at z0 = record {
        b = b;
        i = i;
        there = q.2;
        class = class;
        fits = q.4;
        is = refl;
        state = q.3;
        clear = cl.risen b i clear;
        set = set-here b i refl refl;
      } in
      record {
        round = record r { owner = owner' };
        later = record {
          blocks = λ b h. refl;
          bits = bits;
          moves = λ x h. (h, refl);
          fails = λ x h. h;
          more = le_refl (length r.moves + length r.fails);
          whole = λ x h. h;
          slots = λ s h. h;
          sources = λ s h. refl;
          heads = λ x h. (refl, refl);
          owns = λ j at' z y d e. (old y (λ f. nobody-not-claimed (r.owner y) j at' z f e) ∙ e, refl);
          claims = λ j at' z y d e. by_range (r.owner y ≡ Claimed j at' z) at (at + z0) y
              (λ lo hi. absurd (other-claim (owner' y) j k at' at z z0 d e (inside y lo hi)))
              (λ h. sym (outside y h) ∙ e);
          cells = λ j i d l e. e;
        };
        going = claimed n.opening.opening n.going k at z0 free;
        claims = record {
          opened = cl.opened;
          risen = λ d j e. cl.risen d j (unset' d j e);
          clear = λ d z j y h f. outside y (apart d z j y h f) ∙ cl.clear d z j y h (elim f [ inl e ↦ inl e | inr e ↦ inr (e.0, unset' d j e.1) ]);
          held = λ j at' z y e. by_range (IsTaken t.area v.block t.words.used used' at' z) at (at + z0) y
              (λ lo hi. (let f = claim-place k j at at' z0 z (sym (inside y lo hi) ∙ e) in
              subst (λ (p : ℕ). IsTaken t.area v.block t.words.used used' p z) (sym f.0)
              (subst (λ (z : ℕ). IsTaken t.area v.block t.words.used used' at z) (sym f.1) taken)))
              (λ h. taken-later v.block used' (λ b h. refl) bits (cl.held j at' z y (sym (outside y h) ∙ e)));
          homed = λ x h. taken-later v.block used' (λ b h. refl) bits (cl.homed x h);
          taken = λ d j e c. elim (set-only d j e) [
            | inl h ↦ (
              z0,
              class,
              subst (λ (c : ℕ). c < t.area.blocks) (sym h.0) q.2,
              subst (λ (c : ℕ). c < slots z0) (sym h.1) q.4,
              ap v.block h.0 ∙ q.3,
              λ f. nobody-not-claimed (owner' at) k at z0
                  (ap owner' (ap (λ (c : ℕ). place t.area c z0 i) (sym h.0) ∙ ap (λ (c : ℕ). place t.area d z0 c) (sym h.1)) ∙ f)
                  (inside at (omega arith) (omega arith)),
            )
            | inr h ↦ (let g = cl.taken d j h c in (
              g.0,
              g.1,
              g.2,
              g.3,
              g.4,
              λ f. by_range ⊥ at (at + z0) (place t.area d g.0 j)
                  (λ lo hi. nobody-not-claimed (owner' (place t.area d g.0 j)) k at z0 f (inside (place t.area d g.0 j) lo hi))
                  (λ out-of. g.5 (sym (outside (place t.area d g.0 j) out-of) ∙ f)),
            ))
          ];
          full = λ x d h l. passes (slot_size (size_of t.words.word x)) d (cl.full x d h l);
          short = λ x h. (let c = cl.short x h in (
            c.0,
            c.1,
            λ at' y e. by_range ⊥ at (at + z0) y
                (λ lo hi. (let f = claim-same k c.0 at at' z0 (slot_size (size_of t.words.word x)) (sym (inside y lo hi) ∙ e) in
                let p = subst (λ (z : ℕ). IsPassed v.block v.used z b) f (cl.full x b h q.2) in
                let g = p.full q.3 i q.4 in absurd (omega arith)))
                (λ h. c.2 at' y (sym (outside y h) ∙ e)),
          ));
        };
        cards = n.cards;
        cells = record { filled = n.cells.filled; beyond = n.cells.beyond };
        stands = record {
          member = inl (member a0 tt n);
          spares = λ z some y lo hi. (let e = st.spares z some y lo hi in old y (λ f. nobody-not-claimed (r.owner y) k (a.spare z) z f e) ∙ e);
          claims = λ at' z y e. by_range (((a.spare z ≡ at') ⊎ ((at' ≡ at) × (z ≡ z0))) × (at' ≤ y) × (y < at' + z) × (at' ≢ 0)) at (at + z0) y
              (λ lo hi. (let f = claim-size k at at' z0 z (sym (inside y lo hi) ∙ e) in let f0 = f.0 in let f1 = f.1 in
              let above = n.opening.limits.above in let nursery = n.opening.limits.nursery in
              (inr f, (omega arith), (omega arith), λ g. absurd (omega arith))))
              (λ h. (let c = resting a0 n (λ at z h. h) at' z y (sym (outside y h) ∙ e) in (inl c.0, c.1, c.2, c.3)));
          classes = st.classes;
          passed = λ z. elim (cases_eq z z0) [
            | inl e ↦ (
              (let p = put-at a.passed z0 b z e in let l = q.2 in omega arith),
              λ d m h. passes z d (subst (λ (z : ℕ). IsPassed v.block v.used z d) (sym e) (q.1 d (let p = put-at a.passed z0 b z e in omega arith) h)),
            )
            | inr h ↦ (
              (let p = put-other a.passed z0 b z h in let m = (st.passed z).0 in omega arith),
              λ d m g. passes z d ((st.passed z).1 d (let p = put-other a.passed z0 b z h in omega arith) g),
            )
          ];
          known = st.known;
          few = st.few;
          at = (
            q.0,
            inside,
            le_refl 1,
            (let f = object-fits o q.0.short in omega arith),
            (λ whole i lo hi top. absurd (omega arith), λ i lo hi. absurd (omega arith)),
          );
        };
        told = nothing r;
        single = λ h. h;
      }
    where
      claim-place : (k k' at at' z z' : ℕ) → Claimed k at z ≡ Claimed k' at' z' → (at' ≡ at) × (z' ≡ z)
      claim-place k k' at at' z z' e = (cc, cc)
