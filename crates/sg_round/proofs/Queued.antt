-- Each rule keeps the order of one worker's objects.
use Rattle.std.proofs.Common.{◌≡◌, ◌≢◌, ℕ, ◌+◌, ◌^◌, ◌<◌, ◌⊎◌, nat_lt, List, [], ◌++◌, sym, refl, ap, ◌∙◌, subst, inl, inr, arith}
use Rattle.std.proofs.lemmas.Bool.{cases_eq, cases_lt, cond-true, cond-false, lt-ltb, le-ltb}
use Rattle.std.proofs.lemmas.List.{append-nil}
use Rattle.std.proofs.Math.Path.{fun_ext}
use Rattle.std.specs.Int.{bit_at}
use Rattle.std.specs.Int.Bits.{bit_or}
use Rattle.sg_words.specs.Address.{byte_at}
use Rattle.sg_words.specs.Tags.{plain_word, forward_word}
use Rattle.sg_words.specs.Lists.{has}
use Rattle.sg_words.specs.Words.{put, Words}
use Rattle.sg_words.specs.Blocks.{slots}
use Rattle.sg_words.specs.declared.steps.BlockWord.{BlockWord}
use Rattle.sg_words.specs.declared.steps.BlockWord.TheVariants.{Free, Swept}
use Rattle.sg_words.proofs.Puts.{put-at, put-other}
use Rattle.std.proofs.lemmas.Nat.Bits.{bit_at-zero}
use Rattle.sg_words.proofs.Blocks.{has_slots, bit_cases}
use Rattle.sg_round.specs.Area.{Area, IsFixed, place}
use Rattle.sg_round.specs.Items.{Item, SlotOf, WholeOf, slots_by, slots_of}
use Rattle.sg_round.specs.Worker.{Object, Stage, Look, Size, Room, Take, Slots, Mark, Body, Puts, Swap, Pin, Send, Dirty, Mid, Idle, Count, On}
use Rattle.sg_round.specs.Worker.{Worker, size_for, idle, on, looking}
use Rattle.sg_round.specs.Rules.{Effect, Nothing, Ends, IsNext, IsLooking}
use Rattle.sg_round.specs.Rules.IsNext.{Of_hand, Of_list, Of_cell}
use Rattle.sg_round.specs.Order.{IsLowest}
use Rattle.sg_round.specs.Round.{Start, Round}
use Rattle.sg_round.proofs.Relation.{IsWhole, in_hand, Kept}
use Rattle.sg_round.proofs.Going.{tag-plain, tag-fixed, tag-moves, word-of}
use Rattle.sg_round.proofs.Moves.{Before}
use Rattle.sg_round.proofs.Looks.{next-todo, next-known, next-stands, counted-todo, target-of, settled-as}
use Rattle.sg_round.proofs.Rooms.{swept-not-free}
use Rattle.sg_round.proofs.Fits.{with_block, with_bit}
use Rattle.sg_round.proofs.Alone.{seen, IsAlone, IsWholeAt, IsNow, IsOpened, AtFit, IsQueued}
use Rattle.sg_round.proofs.Alone.{whole-same, IsHandKnown, same, learns, quiet-end, end-seen}

-- a block that has this word already
block-self : (block : ℕ → BlockWord) (b z : ℕ) → block b ≡ Swept z → block ≡ with_block block b z
block-self block b z e = fun_ext (λ c. elim (cases_eq c b) [
  | inl h ↦ ap block h ∙ e ∙ sym (put-at block b (Swept z) c h)
  | inr h ↦ sym (put-other block b (Swept z) c h)
])

-- where the worker goes on to look for a place
at-looking : (area : Area) (now : ℕ → BlockWord) (bits : ℕ → ℕ) (block : ℕ → BlockWord) (used : ℕ → ℕ) (s : ℕ) (o : Object) (b : ℕ) →
    IsNow now bits block used →
    AtFit area now bits block used (On s (looking area o b))
at-looking area now bits block used s o b h = elim (cases_lt b area.blocks) [
  | inl l ↦ subst (λ (stage : Stage). AtFit area now bits block used (On s stage))
      (sym (cond-true (nat_lt b area.blocks) (Room o b) (Pin o) (lt-ltb b area.blocks l))) (inl h)
  | inr l ↦ subst (λ (stage : Stage). AtFit area now bits block used (On s stage))
      (sym (cond-false (nat_lt b area.blocks) (Room o b) (Pin o) (le-ltb b area.blocks l))) h
]

-- what is so of a stage wherever the worker looks
by-looking : (area : Area) (P : Stage → Type 0) (o : Object) (b : ℕ) → P (Room o b) → P (Pin o) → P (looking area o b)
by-looking area P o b room pin = elim (cases_lt b area.blocks) [
  | inl l ↦ subst P (sym (cond-true (nat_lt b area.blocks) (Room o b) (Pin o) (lt-ltb b area.blocks l))) room
  | inr l ↦ subst P (sym (cond-false (nat_lt b area.blocks) (Room o b) (Pin o) (le-ltb b area.blocks l))) pin
]

next-mid : (a : Worker) (item : Item) (b : Worker) → IsNext a item b → IsAlone a.mid → a.mid ≡ Idle
next-mid _ _ _ (Of_hand a s rest) h = refl
next-mid _ _ _ (Of_list a item rest) h = refl
next-mid _ _ _ (Of_cell a item) h = absurd h

next-spare : (a : Worker) (item : Item) (b : Worker) → IsNext a item b → b.spare ≡ a.spare
next-spare _ _ _ (Of_hand a s rest) = refl
next-spare _ _ _ (Of_list a item rest) = refl
next-spare _ _ _ (Of_cell a item) = refl

module _ (t : Start) (items : List ℕ) (others : ℕ → Type 0) (v : Words) (r : Round) where
  abbrev pub Result : Worker → Effect → Words → Worker → Type 0
  Result a effect v' b = (n : Before t others 0 v r a) (s : Kept t others 0 v r a effect v' b) → IsQueued t items v r a → IsQueued t items v' s.round b

  pub queue-opens : (a b : Worker) (x class : ℕ) → IsNext a (WholeOf x) b → Result a Nothing v (record b { mid = Count x class })
  queue-opens a b x class nx n s q =
      let e = next-mid a (WholeOf x) b nx q.alone in
      same t items others v v r a (record b { mid = Count x class }) Nothing n s q refl refl (next-stands a (WholeOf x) b nx n).known
      (next-known a (WholeOf x) b nx n)
      (subst (AtFit t.area v.block v.used q.block q.used) e q.now) tt (λ z. ap (λ (f : ℕ → ℕ). f z) (next-spare a (WholeOf x) b nx) ∙ q.none z) tt q.cells
      (sym (next-todo a (WholeOf x) b nx n)) (ap (seen r) e) refl

  pub queue-sees-none : (a b : Worker) (sl : ℕ) → IsNext a (SlotOf sl) b → Result a (Ends sl) v (idle b)
  queue-sees-none a b sl nx n s q =
      let e = next-mid a (SlotOf sl) b nx q.alone in
      quiet-end t items others v v r a (idle b) (Ends sl) n s q refl refl (next-stands a (SlotOf sl) b nx n).known tt
      (subst (AtFit t.area v.block v.used q.block q.used) e q.now) tt (λ z. ap (λ (f : ℕ → ℕ). f z) (next-spare a (SlotOf sl) b nx) ∙ q.none z) tt q.cells
      sl refl (next-todo a (SlotOf sl) b nx n) (ap (seen r) e) refl

  pub queue-sees : (a b : Worker) (sl x : ℕ) → IsNext a (SlotOf sl) b → Result a Nothing v (on b sl (Look x))
  queue-sees a b sl x nx n s q =
      let e = next-mid a (SlotOf sl) b nx q.alone in
      same t items others v v r a (on b sl (Look x)) Nothing n s q refl refl (next-stands a (SlotOf sl) b nx n).known tt
      (subst (AtFit t.area v.block v.used q.block q.used) e q.now) tt (λ z. ap (λ (f : ℕ → ℕ). f z) (next-spare a (SlotOf sl) b nx) ∙ q.none z) tt q.cells
      (sym (next-todo a (SlotOf sl) b nx n)) (ap (seen r) e) refl

  pub queue-counts : (a : Worker) (x class u : ℕ) → v.word (x + 1) ≡ u →
      Result (record a { mid = Count x class }) Nothing v (record a { hand = slots_by t.area class x u; mid = Idle })
  queue-counts a x class u saw n s q =
      same t items others v v r (record a { mid = Count x class }) (record a { hand = slots_by t.area class x u; mid = Idle }) Nothing n s q refl refl
      n.stands.known tt
      q.now tt q.none tt q.cells (counted-todo a x class u saw n) refl refl

  pub queue-forwarded : (a : Worker) (sl x to : ℕ) → v.word x ≡ forward_word (byte_at to) → Result (on a sl (Look x)) Nothing v (on a sl (Send to))
  queue-forwarded a sl x to saw n s q =
      let h = tag-moves n.opening.opening n.going x to (target-of (on a sl (Look x)) sl x n n.stands.at) saw in
      learns t items others v v r (on a sl (Look x)) (on a sl (Send to)) Nothing n s q refl refl n.stands.known tt q.now tt q.none tt q.cells
      sl n.stands.at.slot refl refl refl (settled-as t r sl x n.stands.at (inl h.0))

  pub queue-fixed : (a : Worker) (sl x class u : ℕ) → IsFixed class u → v.word x ≡ u → Result (on a sl (Look x)) Nothing v (on a sl Dirty)
  queue-fixed a sl x class u fixed saw n s q =
      let h = tag-fixed n.opening.opening n.going x class u (target-of (on a sl (Look x)) sl x n n.stands.at) fixed saw in
      learns t items others v v r (on a sl (Look x)) (on a sl Dirty) Nothing n s q refl refl n.stands.known tt q.now tt q.none tt q.cells
      sl n.stands.at.slot refl refl refl (settled-as t r sl x n.stands.at (inr h.0))

  pub queue-bare : (a : Worker) (sl x : ℕ) → Result (on a sl (Look x)) (Ends sl) v (idle a)
  queue-bare a sl x n s q =
      quiet-end t items others v v r (on a sl (Look x)) (idle a) (Ends sl) n s q refl refl n.stands.known tt q.now tt q.none tt q.cells sl refl refl refl refl

  pub queue-plain : (a : Worker) (sl x class : ℕ) → v.word x ≡ plain_word class → Result (on a sl (Look x)) Nothing v (on a sl (Size x class))
  queue-plain a sl x class saw n s q =
      let h = tag-plain n.opening.opening n.going x class (target-of (on a sl (Look x)) sl x n n.stands.at) saw in
      same t items others v v r (on a sl (Look x)) (on a sl (Size x class)) Nothing n s q refl refl n.stands.known tt q.now
      (whole-same t items others v v r (on a sl (Look x)) (on a sl (Size x class)) Nothing n s q refl refl x h.0) q.none tt q.cells refl refl refl

  -- the worker goes from one stage to another, of the same object, and finds nothing
  stage-on : (a : Worker) (sl : ℕ) (stage stage' : Stage) (v' : Words) → ((i : ℕ) → v'.cell i ≡ v.cell i) →
      ((s : Kept t others 0 v r (on a sl stage) Nothing v' (on a sl stage')) → IsWholeAt r (On sl stage) → IsWholeAt s.round (On sl stage')) →
      ((q : IsQueued t items v r (on a sl stage)) → Before t others 0 v r (on a sl stage) → AtFit t.area v'.block v'.used q.block q.used (On sl stage')) →
      seen r (On sl stage) ≡ [] → ((r : Round) → seen r (On sl stage') ≡ []) → IsAlone (On sl stage') → Result (on a sl stage) Nothing v' (on a sl stage')
  stage-on a sl stage stage' v' cells whole now f g alone n s q =
      same t items others v v' r (on a sl stage) (on a sl stage') Nothing n s q refl refl n.stands.known tt (now q n) (whole s q.whole) q.none alone
      (λ i. cells i ∙ q.cells i) refl f (g s.round)

  keep-whole : (a : Worker) (sl : ℕ) (stage stage' : Stage) (v' : Words) (x : ℕ) → (s : Kept t others 0 v r (on a sl stage) Nothing v' (on a sl stage')) →
      IsWhole r x → IsWhole s.round x
  keep-whole a sl stage stage' v' x s h =
      (ap (has x) (s.told.1 ∙ append-nil r.moves) ∙ h.0, ap (has x) (s.told.2 ∙ append-nil r.fails) ∙ h.1)

  -- the search
  pub queue-none : (a : Worker) (sl : ℕ) (o : Object) → Result (on a sl (Size o.x o.class)) Nothing v (on a sl (looking t.area o (a.passed (size_for o))))
  queue-none a sl o n s q =
      let b = a.passed (size_for o) in
      stage-on a sl (Size o.x o.class) (looking t.area o b) v (λ i. refl)
      (λ s h. by-looking t.area (λ (stage : Stage). IsWholeAt s.round (On sl stage)) o b (keep-whole a sl (Size o.x o.class) (looking t.area o b) v o.x s h)
      (keep-whole a sl (Size o.x o.class) (looking t.area o b) v o.x s h))
      (λ q n. at-looking t.area v.block v.used q.block q.used sl o b q.now) refl
      (λ r. by-looking t.area (λ (stage : Stage). seen r (On sl stage) ≡ []) o b refl refl) tt n s q

  -- a look at a block that leads on to the next one
  pub queue-passes : (a : Worker) (sl : ℕ) (stage : Stage) (o : Object) (b : ℕ) →
      ((r : Round) → IsWholeAt r (On sl stage) → IsWhole r o.x) → seen r (On sl stage) ≡ [] →
      ((q : IsQueued t items v r (on a sl stage)) → Before t others 0 v r (on a sl stage) → IsNow v.block v.used q.block q.used) →
      Result (on a sl stage) Nothing v (on a sl (looking t.area o b))
  queue-passes a sl stage o b whole f now n s q =
      stage-on a sl stage (looking t.area o b) v (λ i. refl)
      (λ s h. by-looking t.area (λ (stage : Stage). IsWholeAt s.round (On sl stage)) o b (keep-whole a sl stage (looking t.area o b) v o.x s (whole r h))
      (keep-whole a sl stage (looking t.area o b) v o.x s (whole r h)))
      (λ q n. at-looking t.area v.block v.used q.block q.used sl o b (now q n)) f
      (λ r. by-looking t.area (λ (stage : Stage). seen r (On sl stage) ≡ []) o b refl refl) tt n s q

  -- a block that was just taken has its size, and no bit set
  opened-swept : (block : ℕ → BlockWord) (used : ℕ → ℕ) (z b : ℕ) → IsOpened v.block v.used block used z b → v.block b ≡ Swept z
  opened-swept block used z b h = ap (λ (f : ℕ → BlockWord). f b) h.is ∙ put-at block b (Swept z) b refl

  pub queue-other : (a : Worker) (sl : ℕ) (o : Object) (b : ℕ) (state : BlockWord) → state ≢ Swept (size_for o) → v.block b ≡ state →
      Result (on a sl (Room o b)) Nothing v (on a sl (looking t.area o (b + 1)))
  queue-other a sl o b state other saw =
      queue-passes a sl (Room o b) o (b + 1) (λ r h. h) refl (λ q n. elim q.now [
        | inl h ↦ h
        | inr h ↦ absurd (other (sym saw ∙ opened-swept q.block q.used (size_for o) b h))
      ])

  pub queue-full : (a : Worker) (sl : ℕ) (o : Object) (b u : ℕ) → ((j : ℕ) → j < slots (size_for o) → bit_at u j ≡ 1) → v.used b ≡ u →
      Result (on a sl (Slots o b)) Nothing v (on a sl (looking t.area o (b + 1)))
  queue-full a sl o b u set saw =
      queue-passes a sl (Slots o b) o (b + 1) (λ r h. h) refl (λ q n. elim q.now [
        | inl h ↦ h
        | inr h ↦ absurd (let e = set 0 (has_slots (o.n + 2)) in let f = h.bare 0 in let g = ap (λ (f : ℕ → ℕ). bit_at (f b) 0) h.same in let k =
            ap (λ (c : ℕ). bit_at c 0) saw in omega arith)
      ])

  pub queue-free : (a : Worker) (sl : ℕ) (o : Object) (b : ℕ) → v.block b ≡ Free → Result (on a sl (Room o b)) Nothing v (on a sl (Take o b))
  queue-free a sl o b saw =
      stage-on a sl (Room o b) (Take o b) v (λ i. refl) (keep-whole a sl (Room o b) (Take o b) v o.x) (λ q n. elim q.now [
        | inl h ↦ h
        | inr h ↦ absurd (swept-not-free (size_for o) (v.block b) (opened-swept q.block q.used (size_for o) b h) saw)
      ]) refl (λ r. refl) tt

  pub queue-takes : (a : Worker) (sl : ℕ) (o : Object) (b : ℕ) → v.block b ≡ Free →
      Result (on a sl (Take o b)) Nothing (record v { block = put v.block b (Swept (size_for o)) }) (on a sl (Room o b))
  queue-takes a sl o b saw =
      stage-on a sl (Take o b) (Room o b) (record v { block = put v.block b (Swept (size_for o)) }) (λ i. refl)
      (keep-whole a sl (Take o b) (Room o b) (record v { block = put v.block b (Swept (size_for o)) }) o.x)
      (λ q n. inr (record {
        free = ap (λ (f : ℕ → BlockWord). f b) (sym q.now.0) ∙ saw;
        bare = λ i. ap (λ (f : ℕ → ℕ). bit_at (f b) i) (sym q.now.1) ∙ bare n i;
        is = ap (λ (f : ℕ → BlockWord). with_block f b (size_for o)) q.now.0;
        same = q.now.1;
      })) refl (λ r. refl) tt
    where
      bare : Before t others 0 v r (on a sl (Take o b)) → (i : ℕ) → bit_at (v.used b) i ≡ 0
      bare n i = elim (bit_cases (v.used b) i) [
        | inr e ↦ e
        | inl e ↦ elim (bit_cases (t.words.used b) i) [
          | inr f ↦ absurd (let g = n.claims.taken b i e f in swept-not-free g.0 (v.block b) g.4 saw)
          | inl f ↦ absurd (let g = n.opening.zoned.bare b n.stands.at.2 (free0 n) in let h = bit_at-zero i in let k =
              ap (λ (u : ℕ). bit_at u i) g in omega arith)
        ]
      ]
        where
          free0 : Before t others 0 v r (on a sl (Take o b)) → t.words.block b ≡ Free
          free0 n = elim (n.claims.opened b) [ inl e ↦ sym e ∙ saw | inr e ↦ e.1 ]

  pub queue-takes-not : (a : Worker) (sl : ℕ) (o : Object) (b : ℕ) → Result (on a sl (Take o b)) Nothing v (on a sl (Room o b))
  queue-takes-not a sl o b = stage-on a sl (Take o b) (Room o b) v (λ i. refl) (keep-whole a sl (Take o b) (Room o b) v o.x) (λ q n. inl q.now) refl
      (λ r. refl) tt

  pub queue-swept : (a : Worker) (sl : ℕ) (o : Object) (b : ℕ) → Result (on a sl (Room o b)) Nothing v (on a sl (Slots o b))
  queue-swept a sl o b = stage-on a sl (Room o b) (Slots o b) v (λ i. refl) (keep-whole a sl (Room o b) (Slots o b) v o.x) (λ q n. q.now) refl (λ r. refl) tt

  pub queue-clear : (a : Worker) (sl : ℕ) (o : Object) (b i u : ℕ) → bit_at u i ≡ 0 → ((j : ℕ) → j < i → bit_at u j ≡ 1) → v.used b ≡ u →
      Result (on a sl (Slots o b)) Nothing v (on a sl (Mark o b i))
  queue-clear a sl o b i u clear set saw =
      stage-on a sl (Slots o b) (Mark o b i) v (λ i. refl) (keep-whole a sl (Slots o b) (Mark o b i) v o.x)
      (λ q n. (q.now, ap (λ (w : ℕ). bit_at w i) saw ∙ clear, λ j l. ap (λ (w : ℕ). bit_at w j) saw ∙ set j l)) refl (λ r. refl) tt

  pub queue-marks : (a : Worker) (sl : ℕ) (o : Object) (b i : ℕ) →
      Result (on a sl (Mark o b i)) Nothing (record v { used = put v.used b (bit_or (v.used b) (2 ^ i)) })
      (record a { passed = put a.passed (size_for o) b; mid = On sl (Body o (place t.area b (size_for o) i) 1) })
  queue-marks a sl o b i n s q =
      let z = size_for o in
      let at = n.stands.at in
      let fit = q.now in
      let v' : Words = record v { used = put v.used b (bit_or (v.used b) (2 ^ i)) } in
      let b' : Worker = record a { passed = put a.passed z b; mid = On sl (Body o (place t.area b z i) 1) } in
      let bits : v.used ≡ q.used = elim fit.0 [ inl h ↦ h.1 | inr h ↦ h.same ] in
      let block-is : v.block ≡ with_block q.block b z = elim fit.0 [
        | inl h ↦ h.0 ∙ block-self q.block b z (ap (λ (f : ℕ → BlockWord). f b) (sym h.0) ∙ at.3)
        | inr h ↦ h.is
      ] in
      let state : (q.block b ≡ Free) ⊎ (q.block b ≡ Swept z) = elim fit.0 [
        | inl h ↦ inr (ap (λ (f : ℕ → BlockWord). f b) (sym h.0) ∙ at.3)
        | inr h ↦ inl h.free
      ] in
      let below : (c : ℕ) → c < b → q.block c ≡ v.block c = λ c l. sym (put-other q.block b (Swept z) c (λ e. absurd (omega arith)))
      ∙ ap (λ (f : ℕ → BlockWord). f c) (sym block-is) in
      let low : IsLowest t.area q.block q.used z b i = record {
        there = at.2;
        fits = at.4;
        state = state;
        clear = ap (λ (f : ℕ → ℕ). bit_at (f b) i) (sym bits) ∙ fit.1;
        slots = λ j l. ap (λ (f : ℕ → ℕ). bit_at (f b) j) (sym bits) ∙ fit.2 j l;
        blocks = λ c l. (let p = at.1 c l (let m = at.2 in omega arith) in record {
          taken = λ e. p.taken (sym (below c l) ∙ e);
          full = λ e j m. ap (λ (f : ℕ → ℕ). bit_at (f c) j) (sym bits) ∙ p.full (sym (below c l) ∙ e) j m;
        });
      } in
      same t items others v v' r (on a sl (Mark o b i)) b' Nothing n s q refl refl n.stands.known tt
      (record { b = b; i = i; low = low; place_is = refl; blocks_are = block-is; bits_are = ap (λ (f : ℕ → ℕ). with_bit f b i) bits })
      (whole-same t items others v v' r (on a sl (Mark o b i)) b' Nothing n s q refl refl o.x q.whole) q.none tt q.cells refl refl refl

  -- the copy
  pub queue-reads : (a : Worker) (sl : ℕ) (o : Object) (at j u : ℕ) → Result (on a sl (Body o at j)) Nothing v (on a sl (Puts o at j u))
  queue-reads a sl o at j u = stage-on a sl (Body o at j) (Puts o at j u) v (λ i. refl) (keep-whole a sl (Body o at j) (Puts o at j u) v o.x)
      (λ q n. q.now) refl (λ r. refl) tt

  pub queue-writes : (a : Worker) (sl : ℕ) (o : Object) (at j u x y : ℕ) →
      Result (on a sl (Puts o at j u)) Nothing (record v { word = put v.word x y }) (on a sl (Body o at (j + 1)))
  queue-writes a sl o at j u x y =
      stage-on a sl (Puts o at j u) (Body o at (j + 1)) (record v { word = put v.word x y }) (λ i. refl)
      (keep-whole a sl (Puts o at j u) (Body o at (j + 1)) (record v { word = put v.word x y }) o.x)
      (λ q n. q.now) refl (λ r. refl) tt

  pub queue-clears : (a : Worker) (sl : ℕ) (o : Object) (at j x y : ℕ) →
      Result (on a sl (Body o at j)) Nothing (record v { word = put v.word x y }) (on a sl (Body o at (j + 1)))
  queue-clears a sl o at j x y =
      stage-on a sl (Body o at j) (Body o at (j + 1)) (record v { word = put v.word x y }) (λ i. refl)
      (keep-whole a sl (Body o at j) (Body o at (j + 1)) (record v { word = put v.word x y }) o.x)
      (λ q n. q.now) refl (λ r. refl) tt

  pub queue-heads : (a : Worker) (sl : ℕ) (o : Object) (at j x y : ℕ) →
      Result (on a sl (Body o at j)) Nothing (record v { word = put v.word x y }) (on a sl (Swap o at))
  queue-heads a sl o at j x y =
      stage-on a sl (Body o at j) (Swap o at) (record v { word = put v.word x y }) (λ i. refl)
      (keep-whole a sl (Body o at j) (Swap o at) (record v { word = put v.word x y }) o.x)
      (λ q n. q.now) refl (λ r. refl) tt

  pub queue-fails-not : (a : Worker) (sl : ℕ) (o : Object) → Result (on a sl (Pin o)) Nothing v (on a sl (Look o.x))
  queue-fails-not a sl o = stage-on a sl (Pin o) (Look o.x) v (λ i. refl) (λ s h. tt) (λ q n. q.now) refl (λ r. refl) tt

  -- no exchange to Forwarded is lost
  pub never-lost : (a : Worker) (sl : ℕ) (o : Object) (at : ℕ) → Before t others 0 v r (on a sl (Swap o at)) → IsQueued t items v r (on a sl (Swap o at)) →
      v.word o.x ≡ plain_word o.class
  never-lost a sl o at n q =
      let h = n.stands.at.0 in
      word-of n.opening.opening n.going o.x (target-of (on a sl (Swap o at)) sl o.x n h.seen) q.whole.0 q.whole.1 ∙ h.plain

  pub queue-sends : (a : Worker) (sl to : ℕ) → Result (on a sl (Send to)) (Ends sl) (record v { word = put v.word sl (byte_at to) }) (idle a)
  queue-sends a sl to n s q =
      end-seen t items others v (record v { word = put v.word sl (byte_at to) }) r (on a sl (Send to)) (idle a)
      (Ends sl) n s q refl refl n.stands.known tt q.now tt q.none tt q.cells sl refl refl refl

  pub queue-dirties : (a : Worker) (sl c : ℕ) → Result (on a sl Dirty) (Ends sl) (record v { card = put v.card c 1 }) (idle a)
  queue-dirties a sl c n s q =
      end-seen t items others v (record v { card = put v.card c 1 }) r (on a sl Dirty) (idle a)
      (Ends sl) n s q refl refl n.stands.known tt q.now tt q.none tt q.cells sl refl refl refl

  pub queue-looks : (a : Worker) (i : ℕ) (mid : Mid) → IsLooking a i → IsAlone mid → in_hand t r.source mid ≡ [] →
      ((now : ℕ → BlockWord) (bits : ℕ → ℕ) (block : ℕ → BlockWord) (used : ℕ → ℕ) → IsNow now bits block used → AtFit t.area now bits block used mid) →
      ((r : Round) → IsWholeAt r mid) → ((r : Round) → seen r mid ≡ []) → ((r : Round) → IsHandKnown t r mid) → Result a Nothing v (record a { mid = mid })
  queue-looks a i mid is alone hand fit whole quiet known n s q =
      same t items others v v r a (record a { mid = mid }) Nothing n s q refl refl n.stands.known (known r) (fit v.block v.used q.block q.used now)
      (whole s.round) q.none alone q.cells
      (ap (λ (l : List ℕ). l ++ (a.hand ++ slots_of t.area t.words.word r.source a.list)) (hand ∙ sym mine)) unseen (quiet s.round)
    where
      now : IsNow v.block v.used q.block q.used
      now = elim is.at [
        | inl e ↦ subst (AtFit t.area v.block v.used q.block q.used) e.0 q.now
        | inr e ↦ subst
            (AtFit t.area v.block v.used q.block q.used) e q.now
      ]

      mine : in_hand t r.source a.mid ≡ []
      mine = elim is.at [ inl e ↦ ap (in_hand t r.source) e.0 | inr e ↦ ap (in_hand t r.source) e ]

      unseen : seen r a.mid ≡ []
      unseen = elim is.at [ inl e ↦ ap (seen r) e.0 | inr e ↦ ap (seen r) e ]
