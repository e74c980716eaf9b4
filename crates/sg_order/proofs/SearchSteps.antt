-- Each rule of a search for a slot, and of the background sweeper's way through the blocks, keeps the relation.
use Rattle.std.proofs.Common.{◌≡◌, ◌≢◌, ℕ, suc, ◌+◌, ◌^◌, ◌<◌, ◌≤◌, subst, Bool, true, false, List, ◌∷◌, sym, refl, ap, ◌∙◌, arith, inl, inr}
use Rattle.std.proofs.Math.Path.{fun_ext}
use Rattle.std.proofs.lemmas.Bool.{cases_eq}
use Rattle.std.specs.Int.{bit_at}
use Rattle.std.specs.Int.Bits.{bit_or}
use Rattle.sg_words.specs.Blocks.{IsOf, is_taken, IsOwing, slots}
use Rattle.sg_words.specs.Words.{put, Words}
use Rattle.sg_words.specs.declared.steps.BlockWord.{BlockWord}
use Rattle.sg_words.specs.declared.steps.BlockWord.TheVariants.{Free, Swept, Sweeping}
use Rattle.sg_words.proofs.Blocks.{slot_fits, slot_size-class, slot_size-holds, has_slots, bit_kept, bit_again}
use Rattle.sg_words.proofs.Puts.{put-at, put-same, put-other}
use Rattle.sg_program.specs.declared.program.Statement.{Statement}
use Rattle.sg_program.specs.declared.program.Program.{Program}
use Rattle.sg_program.specs.declared.answers.Answer.{Answer}
use Rattle.sg_program.specs.declared.answers.Answer.TheVariants.{At}
use Rattle.sg_program.specs.Scripts.{words_for, IsMature, MakesObject, made_class, made_fields, made_words, made_slot}
use Rattle.sg_graph.specs.Graph.{Graph}
use Rattle.sg_graph.specs.Book.{Book, Books, Old, slot_words, slot_at, placed_in, IsSlotted}
use Rattle.sg_graph.specs.Heap.{Owner}
use Rattle.sg_graph.specs.Laws.{BlocksGo}
use Rattle.sg_rules.specs.Rules.{Constants, Task, Search, Roam, Mid, SeeBlock, TakeBlock, SeeUsed, TakeSlot, StoreLength, Actor, MaySee, AreTaken, slot_front, onward, before, within}
use Rattle.sg_rules.specs.Resting.{IsRunnable}
use Rattle.sg_order.specs.Knowing.{IsPast, IsPassed, KnowsAt, IsInSearch, HasObject}
use Rattle.sg_order.proofs.Cases.{by_mature}
use Rattle.sg_order.proofs.Relation.{Ground, AtTask, AtMid, Stands}
use Rattle.sg_order.proofs.Moves.{runnable_as, turned}
use Rattle.sg_order.proofs.Makes.{made_known, made_no_pair, made_sized, does_making, kinds_making, piled_making}
use Rattle.sg_order.proofs.Places.{places}
use Rattle.sg_order.proofs.Beside.{Beside, BlockLater, has_passed_later, passed_later}
use Rattle.sg_order.proofs.BlockGround.{put-from, ground_take}
use Rattle.sg_order.proofs.BlockClaims.{place, blocks_claim, slotted, zero_there, in_major, owner'}
use Rattle.sg_order.proofs.BlockSteps.{Both, later_same, moves_on, stays, block_moved, other_mine, other_fills, object_in_block, passes, task_onward, knows_onward}

-- putting what stands there changes nothing
put-again : {A : Type 0} (f : ℕ → A) (k : ℕ) (v : A) → f k ≡ v → put f k v ≡ f
put-again f k v e = fun_ext (λ j. elim (cases_eq j k) [ inl q ↦ put-at f k v j q ∙ sym e ∙ ap f (sym q) | inr n ↦ put-other f k v j n ])

module _ (p : Program) (lay : Constants) (w : Words) (g : Graph) (b : Book) (said : ℕ → List Answer) (by : ℕ → ℕ) (k : ℕ) (owner : ℕ → Owner)
    (t : Ground p lay w g b owner) where
  -- a block that isn't swept is none that a search fills
  unfilled : (u : Task) (begins : Bool) (j : ℕ) (state : BlockWord) → w.block j ≡ state → ((y : ℕ) → state ≡ Swept y → ⊥) → (c y : ℕ) →
      w.block c ≡ Swept y → c < p.config.blocks → IsInSearch p c y (SeeBlock u begins j) → ⊥
  unfilled Roam begins j state e n c y f l h = h
  unfilled (Search s) begins j state e n c y f l h = n y (sym e ∙ ap w.block (sym h.0) ∙ f)

  module _ (a : Actor) (rest : List Statement) where
    -- the search begins
    pub begins_search : (s : Statement) → IsMature s → Stands p lay w g b said k (before a s rest) → Beside p lay w b by k (before a s rest).mid →
        Both p lay w g b said by k by (before a s rest).mid false w (within a rest (onward p (Search s) 0))
    begins_search s mature st be = stays p lay w g b said by k owner t (before a s rest) st rest (onward p (Search s) 0) tt
        (task_onward p lay w g b said by k owner t st.entry st.answers rest (Search s) 0 (mature, st.at))
        (knows_onward p lay w g b said by k owner t st.entry st.answers rest (Search s) 0 (mature, st.at) (λ i l. absurd (omega arith)))
        be (λ c z h. absurd h) (λ c z e l h. absurd h)

    -- a look at a block that isn't swept
    pub sees_unswept : (u : Task) (begins : Bool) (c : ℕ) (state : BlockWord) (mid : Mid) → w.block c ≡ state → ((y : ℕ) → state ≡ Swept y → ⊥) →
        (st : Stands p lay w g b said k (within a rest (SeeBlock u begins c))) → Beside p lay w b by k (SeeBlock u begins c) →
        AtMid p lay w g b said k st.entry st.answers rest mid → KnowsAt p lay w b.owed by k mid →
        Both p lay w g b said by k by (SeeBlock u begins c) false w (within a rest mid)
    sees_unswept u begins c state mid e n st be at here =
        stays p lay w g b said by k owner t (within a rest (SeeBlock u begins c)) st rest mid tt at here be (λ c z h. absurd h)
        (λ d y f l h. absurd (unfilled u begins c state e n d y f l h))

    -- a block that somebody sweeps is passed over
    pub sees_busy : (u : Task) (begins : Bool) (c z : ℕ) → MaySee u begins → w.block c ≡ Sweeping z →
        Stands p lay w g b said k (within a rest (SeeBlock u begins c)) → Beside p lay w b by k (SeeBlock u begins c) →
        Both p lay w g b said by k by (SeeBlock u begins c) false w (within a rest (onward p u (c + 1)))
    sees_busy u begins c z may e st be = sees_unswept u begins c (Sweeping z) (onward p u (c + 1)) e (λ y q. cc) st be
        (task_onward p lay w g b said by k owner t st.entry st.answers rest u (c + 1) st.at)
        (knows_onward p lay w g b said by k owner t st.entry st.answers rest u (c + 1) st.at
        (passes p lay w g b said by k owner t u c (λ s q. inl (
          (t.blocks.each c (be.at.1 may)).owing z (subst (λ state. IsOwing state z) (sym e) refl),
          subst IsPast (sym e) tt,
        ))
        be.at.0))

    -- and one with other slots
    pub sees_another : (s : Statement) (begins : Bool) (c z : ℕ) → z ≢ made_slot p s → w.block c ≡ Swept z →
        Stands p lay w g b said k (within a rest (SeeBlock (Search s) begins c)) → Beside p lay w b by k (SeeBlock (Search s) begins c) →
        Both p lay w g b said by k by (SeeBlock (Search s) begins c) false w (within a rest (onward p (Search s) (c + 1)))
    sees_another s begins c z o e st be =
        stays p lay w g b said by k owner t (within a rest (SeeBlock (Search s) begins c)) st rest (onward p (Search s) (c + 1)) tt
        (task_onward p lay w g b said by k owner t st.entry st.answers rest (Search s) (c + 1) st.at)
        (knows_onward p lay w g b said by k owner t st.entry st.answers rest (Search s) (c + 1) st.at
        (passes p lay w g b said by k owner t (Search s) c here be.at.0))
        be (λ c z h. absurd h)
        (λ d y f l h. let q : Swept z ≡ Swept y = sym e ∙ ap w.block (sym h.0) ∙ f in let q : z ≡ y = cc in absurd (o (q ∙ h.1)))
      where
        here : (r : Statement) → Search s ≡ Search r → IsPassed w b.owed (made_slot p r) c
        here r q = let same : s ≡ r = cc in subst (λ r. IsPassed w b.owed (made_slot p r) c) same (inr (inl (z, e, o)))

    -- a swept block with such slots is looked at
    pub sees_fitting : (s : Statement) (begins : Bool) (c : ℕ) → w.block c ≡ Swept (made_slot p s) →
        Stands p lay w g b said k (within a rest (SeeBlock (Search s) begins c)) → Beside p lay w b by k (SeeBlock (Search s) begins c) →
        Both p lay w g b said by k by (SeeBlock (Search s) begins c) false w (within a rest (SeeUsed s c))
    sees_fitting s begins c e st be = stays p lay w g b said by k owner t (within a rest (SeeBlock (Search s) begins c)) st rest (SeeUsed s c) tt st.at
        (be.at.0, be.at.1 tt, e) be (λ c z h. absurd h) (λ d z e l h. inr h)

    -- all its slots are occupied: it is passed over, and it has an object
    pub sees_filled : (s : Statement) (c : ℕ) → AreTaken (w.used c) (slots (made_slot p s)) → Stands p lay w g b said k (within a rest (SeeUsed s c)) →
        Beside p lay w b by k (SeeUsed s c) → Both p lay w g b said by k by (SeeUsed s c) false w (within a rest (onward p (Search s) (c + 1)))
    sees_filled s c full st be =
        stays p lay w g b said by k owner t (within a rest (SeeUsed s c)) st rest (onward p (Search s) (c + 1)) tt
        (task_onward p lay w g b said by k owner t st.entry st.answers rest (Search s) (c + 1) st.at)
        (knows_onward p lay w g b said by k owner t st.entry st.answers rest (Search s) (c + 1) st.at
        (passes p lay w g b said by k owner t (Search s) c here m.0))
        be (λ c z h. absurd h) (λ d y f l h. inl (subst (λ c. HasObject p b.stands b.address c) (sym h.0) has))
      where
        m : KnowsAt p lay w b.owed by k (SeeUsed s c)
        m = be.at

        z : ℕ
        z = made_slot p s

        here : (r : Statement) → Search s ≡ Search r → IsPassed w b.owed (made_slot p r) c
        here r q = let same : s ≡ r = cc in subst (λ r. IsPassed w b.owed (made_slot p r) c) same (inr (inr (m.2, full)))

        has : HasObject p b.stands b.address c
        has =
            let some : 0 < slots (made_slot p s) = has_slots (made_words p s) in
            let at = (t.blocks.each c m.1).filled (made_slot p s) 0 (subst (λ state. IsOf state (made_slot p s)) (sym m.2) refl) some
            (subst (λ state. is_taken state (w.used c) (lay.marks c) 0 ≡ 1) (sym m.2) (full 0 some)) in
            object_in_block p lay w g b said by k owner t c (made_slot p s) 0 at.0 some at.1

    -- the lowest slot is free
    pub sees_open : (s : Statement) (c i : ℕ) → i < slots (made_slot p s) → AreTaken (w.used c) i → Stands p lay w g b said k (within a rest (SeeUsed s c)) →
        Beside p lay w b by k (SeeUsed s c) → Both p lay w g b said by k by (SeeUsed s c) false w (within a rest (TakeSlot s c i))
    sees_open s c i l below st be = stays p lay w g b said by k owner t (within a rest (SeeUsed s c)) st rest (TakeSlot s c i) tt st.at
        (be.at.0, be.at.1, be.at.2, l, below) be (λ c z h. absurd h) (λ d z e l h. inr h)

    -- an exchange that is lost changes nothing
    pub misses_free : (s : Statement) (c : ℕ) → Stands p lay w g b said k (within a rest (TakeBlock s c)) → Beside p lay w b by k (TakeBlock s c) →
        Both p lay w g b said by k by (TakeBlock s c) false w (within a rest (SeeBlock (Search s) false c))
    misses_free s c st be = stays p lay w g b said by k owner t (within a rest (TakeBlock s c)) st rest (SeeBlock (Search s) false c) tt st.at
        (be.at.0, λ _. be.at.1) be (λ c z h. absurd h) (λ d z e l h. absurd h)

    -- a free block gets slots
    pub takes_free : (s : Statement) (c : ℕ) → w.block c ≡ Free → Stands p lay w g b said k (within a rest (TakeBlock s c)) →
        Beside p lay w b by k (TakeBlock s c) →
        Both p lay w g b said by k (put by c k) (TakeBlock s c) false (record w { block = put w.block c (Swept (made_slot p s)) })
        (within a rest (SeeBlock (Search s) false c))
    takes_free s c e st be =
        let z = made_slot p s in
        let v : Words = record w { block = put w.block c (Swept (made_slot p s)) } in
        let bl = block_moved p lay w g b said by k owner t (put by c k) c (Swept (made_slot p s)) (λ z q. let f : Free ≡ Swept z = sym e ∙ q in cc) tt
        (λ z q. let f : Free ≡ Sweeping z = sym e ∙ q in cc) (put-same by c k) (λ d o. put-other by c k d o) in
        moves_on p lay w g b said by k owner t v (put by c k) owner (later_same p lay w g b said by k owner t v refl refl)
        (ground_take p lay w g b owner t c z e (slot_size-class (made_words p s))) bl (within a rest (TakeBlock s c)) st rest
        (SeeBlock (Search s) false c) tt st.at
        (record {
          at = (has_passed_later p lay w b by v b (put by c k) k bl (Search s) c be.at.0, λ _. be.at.1);
          mine = other_mine p lay w g b said by k owner t (put by c k) c (Swept (made_slot p s)) (TakeBlock s c) (SeeBlock (Search s) false c) be
              (λ d o. put-other by c k d o) (λ z q. cc) (λ d z n h. h);
          fills = other_fills p lay w g b said by k owner t (put by c k) c (Swept (made_slot p s)) (TakeBlock s c) (SeeBlock (Search s) false c) be
              (λ d o. put-other by c k d o) (λ z q. inr (refl, let q : z ≡ made_slot p s = cc in q)) (λ d z h. h);
        })

    -- a claim that is lost found the bit set
    pub misses_bit : (s : Statement) (c i : ℕ) → bit_at (w.used c) i ≡ 1 → Stands p lay w g b said k (within a rest (TakeSlot s c i)) →
        Beside p lay w b by k (TakeSlot s c i) →
        Both p lay w g b said by k by (TakeSlot s c i) false (record w { used = put w.used c (bit_or (w.used c) (2 ^ i)) })
        (within a rest (SeeBlock (Search s) false c))
    misses_bit s c i set st be =
        let e : put w.used c (bit_or (w.used c) (2 ^ i)) ≡ w.used = put-again w.used c (bit_or (w.used c) (2 ^ i)) (sym (bit_again (w.used c) i set)) in
        subst (λ used. Both p lay w g b said by k by (TakeSlot s c i) false (record w { used = used }) (within a rest (SeeBlock (Search s) false c))) (sym e)
        (stays p lay w g b said by k owner t (within a rest (TakeSlot s c i)) st rest (SeeBlock (Search s) false c) tt st.at (be.at.0, λ _. be.at.1) be
        (λ c z h. absurd h) (λ d z e l h. inr h))

    -- the sweeper goes on, and ends
    pub roams : (begins : Bool) (c : ℕ) (mid : Mid) → (st : Stands p lay w g b said k (within a rest (SeeBlock Roam begins c))) →
        Beside p lay w b by k (SeeBlock Roam begins c) → AtMid p lay w g b said k st.entry st.answers rest mid → KnowsAt p lay w b.owed by k mid →
        Both p lay w g b said by k by (SeeBlock Roam begins c) false w (within a rest mid)
    roams begins c mid st be at here = stays p lay w g b said by k owner t (within a rest (SeeBlock Roam begins c)) st rest mid tt at here be
        (λ c z h. absurd h) (λ d z e l h. absurd h)

    pub roams_to : (begins : Bool) (c d : ℕ) → Stands p lay w g b said k (within a rest (SeeBlock Roam begins c)) →
        Beside p lay w b by k (SeeBlock Roam begins c) → Both p lay w g b said by k by (SeeBlock Roam begins c) false w (within a rest (onward p Roam d))
    roams_to begins c d st be = roams begins c (onward p Roam d) st be
        (task_onward p lay w g b said by k owner t st.entry st.answers rest Roam d st.at)
        (knows_onward p lay w g b said by k owner t st.entry st.answers rest Roam d st.at tt)

    -- the claim of a slot
    pub claims_slot : BlocksGo → (s : Statement) (c i : ℕ) → bit_at (w.used c) i ≡ 0 → Stands p lay w g b said k (within a rest (TakeSlot s c i)) →
        Beside p lay w b by k (TakeSlot s c i) →
        Both p lay w g b said by k by (TakeSlot s c i) true (record w { used = put w.used c (bit_or (w.used c) (2 ^ i)) })
        (within a rest (StoreLength s (slot_front p c (made_slot p s) i)))
    unfolding places turned
    claims_slot go s c i none st be =
        let m : AtTask p g said k st.entry st.answers rest (Search s) = st.at in
        let q = be.at in
        let n : ℕ = made_fields p s in
        let z : ℕ = made_slot p s in
        let x : ℕ = slot_at p c z i in
        let new : ℕ = suc g.count in
        let run : IsRunnable p s = (runnable_as p lay w g b said k st.entry (s ∷ rest) st.answers m.1 st.runnable).0 in
        let small = run.small in
        let made : MakesObject s = inr m.0 in
        let fit : words_for n ≤ z = slot_size-holds (words_for n) (omega arith) in
        let v : Words = record w { used = put w.used c (bit_or (w.used c) (2 ^ i)) } in
        let kept = places p lay w g b said k owner t (made_class s) n x b.next w.next b.from b.to
        (owner' p lay w g b k owner t c i n z q.1 q.2 q.3 none refl fit)
        (place p lay w g b k owner t c i n z q.1 q.2 q.3 none refl fit) Old
        (let h = in_major p lay w g b k owner t c i n z q.1 q.2 q.3 none refl fit in inr (refl, h.0, h.1))
        (zero_there p lay w g b k owner t c i n z q.1 q.2 q.3 none refl fit) (put w.used c (bit_or (w.used c) (2 ^ i)))
        (blocks_claim p lay w g b k owner t c i n z q.1 q.2 q.3 none refl fit go)
        (made_known p s made run) (made_sized p s made run) (made_no_pair p s made run)
        t.words (TakeSlot s c i) tt (within a rest (TakeSlot s c i)) rest s st run made refl refl m.1
        (does_making p g k (record (g.mutator k) { register = st.entry; script = s ∷ rest }) s rest made)
        (by_mature (λ s. IsSlotted p g b (made_slot p s) new (placed_in b Old new x) → Books p g b k s (At new) (placed_in b Old new x)) (λ r class h. h) s m.0
        (slotted p lay w g b k owner t c i n z q.1 q.2 q.3 none refl fit q.4))
        (kinds_making s st.entry (g.mutator k).stack new made) (piled_making s st.entry (g.mutator k).stack made)
        x a.from a.to refl st.from_is st.to_is in
        let has : (j : ℕ) → HasObject p b.stands b.address j → HasObject p (put b.stands new true) (put b.address new x) j = (λ j h.
        let d : h.0 ≢ new = (λ e. let l = t.laid.objects.given h.0 h.2 in absurd (omega arith)) in
        let e = put-other b.address new x h.0 d in let lo = h.3 in let hi = h.4 in
        (h.0, h.1, put-other b.stands new true h.0 d ∙ h.2, omega arith, omega arith)) in
        let here : HasObject p (put b.stands new true) (put b.address new x) c =
        (let e = put-same b.address new x in let u = slot_fits z i q.3 in (new, omega arith, put-same b.stands new true, omega arith, omega arith)) in
        let bl : BlockLater p lay w b by v (placed_in b Old new x) by k = record {
          owed = refl;
          has = has;
          swept = λ j y e. e;
          used = λ j y m e u. put-from (λ j used. bit_at used m ≡ 1) w.used c (bit_or (w.used c) (2 ^ i)) (bit_kept (w.used c) i m) j u;
          past = λ j h. h;
          held = λ j y l e o. (
            e,
            refl,
            put-other w.used c (bit_or (w.used c) (2 ^ i)) j
                (λ r. let f : Swept z ≡ Sweeping y = sym q.2 ∙ ap w.block (sym r) ∙ e in cc),
          );
          zeros = λ j y m x l e f u lo hi r. r;
          begun = λ j y l e o. (e, refl);
          settled = λ j y l e o. (e, refl);
        } in
        record {
          kept = kept;
          later = bl;
          beside = record {
            at = tt;
            mine = λ j y l e o. be.mine j y l e o;
            fills = λ j y l e o. elim (be.fills j y l e o) [
              | inl h ↦ inl (has j h)
              | inr h ↦ inl (subst (λ j. HasObject p (put b.stands new true) (put b.address new x) j) (sym h.0) here)
            ];
          };
          found = λ m j st l lo. elim (cases_eq m new) [
            | inl e ↦ inr (
                let a = put-at b.address new x m e in
                let u = slot_fits z i q.3 in
                let under : j < c = omega arith in
                let size : slot_words (put g.size new n m) ≡ z = ap slot_words (put-at g.size new n m e) in
                subst (λ y. IsPassed v b.owed y j) (sym size) (passed_later p lay w b by v (placed_in b Old new x) by k bl z j (q.0 j under))
                )
            | inr d ↦ inl (sym (put-other b.stands new true m d) ∙ st)
          ];
          born = λ m some st old. elim (cases_eq m new) [
            | inl e ↦ inr (record { statement = s; block = c; slot = i; at = refl; word = q.2; place = put-at b.address new x m e })
            | inr d ↦ inl (sym (put-other b.stands new true m d) ∙ st)
          ];
        }
