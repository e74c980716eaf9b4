-- What all rules on blocks share: a step on blocks alone, a change of one block's word, and a step on no block.
use Rattle.std.proofs.Common.{◌≡◌, ◌≢◌, ℕ, ◌+◌, ◌<◌, ◌≤◌, nat_lt, subst, Bool, true, false, List, sym, refl, ap, ◌∙◌, arith, inl, inr, ◌⊎◌, le_refl}
use Rattle.std.proofs.lemmas.Bool.{cases_eq, cases_lt, cond-true, cond-false, lt-ltb, le-ltb}
use Rattle.std.specs.Int.{bit_at}
use Rattle.sg_words.specs.Blocks.{IsOwing, slots}
use Rattle.sg_words.specs.Words.{put, Words}
use Rattle.sg_words.specs.declared.steps.BlockWord.{BlockWord}
use Rattle.sg_words.specs.declared.steps.BlockWord.TheVariants.{Swept, Sweeping}
use Rattle.sg_words.proofs.Blocks.{slot_fits, slot_in}
use Rattle.sg_words.proofs.Puts.{put-at, put-other}
use Rattle.sg_program.specs.declared.program.Statement.{Statement}
use Rattle.sg_program.specs.declared.program.Program.{Program}
use Rattle.sg_program.specs.declared.answers.Answer.{Answer}
use Rattle.sg_program.specs.Scripts.{words_for, made_slot}
use Rattle.sg_graph.specs.Graph.{Entry, Graph}
use Rattle.sg_graph.specs.Book.{Book, Old, nursery_end, block_at, slot_at, slot_words}
use Rattle.sg_graph.specs.Heap.{Owner}
use Rattle.sg_graph.specs.Blocks.{IsOldAt, IsTakenAt}
use Rattle.sg_rules.specs.Rules.{Constants, Task, Search, Roam, Mid, SeeBlock, TakeSlot, Actor, ends_at, onward, within}
use Rattle.sg_order.specs.Knowing.{IsPast, IsPassed, HasPassed, HasPassedAll, KnowsAt, IsInSweep, IsInSearch, HasObject}
use Rattle.sg_order.proofs.Cases.{by_mature}
use Rattle.sg_order.proofs.Frame.{entry_later, stack_later}
use Rattle.sg_order.proofs.Relation.{Ground, AsksForRoom, AtTask, AtMid, Stands, Later, IsQuiet, Kept}
use Rattle.sg_order.proofs.Moves.{silent, no_heads, no_mark}
use Rattle.sg_order.proofs.Loads.{same_object}
use Rattle.sg_order.proofs.Beside.{Beside, BlockLater}
use Rattle.sg_order.proofs.BlockGround.{unheld, in_size, put-from}

-- the object n stands, by the book c, in the slot that an actor at this point is about to claim
pub record IsAboutToClaim (p : Program) (w : Words) (mid : Mid) (c : Book) (n : ℕ) : Type 0 where
  pub statement : Statement
  pub block : ℕ
  pub slot : ℕ
  pub at : mid ≡ TakeSlot statement block slot
  pub word : w.block block ≡ Swept (made_slot p statement)
  pub place : c.address n ≡ slot_at p block (made_slot p statement) slot

-- what a step gives: what it gives of objects, and what it gives of blocks
pub record Both (p : Program) (lay : Constants) (w : Words) (g : Graph) (b : Book) (said : ℕ → List Answer) (by : ℕ → ℕ) (k : ℕ) (by' : ℕ → ℕ) (mid : Mid)
    (d : Bool) (v : Words) (a : Actor) : Type 0 where
  pub kept : Kept p lay w g b said k mid d v a
  pub later : BlockLater p lay w b by v kept.c by' k
  pub beside : Beside p lay v kept.c by' k a.mid
  -- the blocks below a new object of the major heap were passed over
  pub found : (n j : ℕ) → kept.c.stands n ≡ true → j < p.config.blocks → block_at p j + 256 ≤ kept.c.address n →
      (b.stands n ≡ true) ⊎ IsPassed v kept.c.owed (slot_words (kept.h.size n)) j
  -- and it stands where its actor claimed
  pub born : (n : ℕ) → 1 ≤ n → kept.c.stands n ≡ true → kept.c.section n ≡ Old → (b.stands n ≡ true) ⊎ IsAboutToClaim p w mid kept.c n

-- what holds of each point to which the way through the blocks leads
pub by_onward : (p : Program) (P : Mid → Type 0) (t : Task) (c : ℕ) → (c < p.config.blocks → P (SeeBlock t false c)) → (p.config.blocks ≤ c → P (ends_at t)) →
    P (onward p t c)
by_onward p P t c more last = elim (cases_lt c p.config.blocks) [
  | inl l ↦ subst P (sym (cond-true (nat_lt c p.config.blocks) (SeeBlock t false c) (ends_at t) (lt-ltb c p.config.blocks l))) (more l)
  | inr l ↦ subst P (sym (cond-false (nat_lt c p.config.blocks) (SeeBlock t false c) (ends_at t) (le-ltb c p.config.blocks l))) (last l)
]

module _ (p : Program) (lay : Constants) (w : Words) (g : Graph) (b : Book) (said : ℕ → List Answer) (by : ℕ → ℕ) (k : ℕ) (owner : ℕ → Owner)
    (t : Ground p lay w g b owner) where
  -- a step that changes no block's words
  pub block_quiet : (v : Words) (h : Graph) (c : Book) (said' : ℕ → List Answer) → Later p w g b said v h c said' k → v.block ≡ w.block → v.used ≡ w.used →
      BlockLater p lay w b by v c by k
  block_quiet v h c said' l eb eu = record {
    owed = l.owed;
    has = λ j h. let e = l.address h.0 h.2 in let lo = h.3 in let hi = h.4 in (h.0, h.1, l.stands h.0 h.2, omega arith, omega arith);
    swept = λ j s e. ap (λ (f : ℕ → BlockWord). f j) eb ∙ e;
    used = λ j s i e u. ap (λ (f : ℕ → ℕ). bit_at (f j) i) eu ∙ u;
    past = λ j q. subst IsPast (ap (λ (f : ℕ → BlockWord). f j) (sym eb)) q;
    held = λ j z l e o. (ap (λ (f : ℕ → BlockWord). f j) eb ∙ e, refl, ap (λ (f : ℕ → ℕ). f j) eu);
    zeros = λ j z i x q e f u lo hi r.
        let below = (slot_in (nursery_end p) j z i x f lo hi).1 in
        l.zeros x (omega arith)
        (λ n st a d. unheld p lay w g b owner t j z i x n (subst (λ state. IsOwing state z) (sym e) refl) f u lo hi st a d) r;
    begun = λ j z l e o. (ap (λ (f : ℕ → BlockWord). f j) (sym eb) ∙ e, refl);
    settled = λ j z l e o. (ap (λ (f : ℕ → BlockWord). f j) (sym eb) ∙ e, refl);
  }

  -- what a change of block words and occupancies leaves of what the others rest on
  pub later_same : (v : Words) → v.word ≡ w.word → v.card ≡ w.card → Later p w g b said v g b said k
  later_same v e ec = record {
    stands = λ n q. q;
    known = λ n q. (q.0, elim q.1 [ inl z ↦ inl z | inr h ↦ inr (at (b.address n) ∙ h.0, at (b.address n + 1) ∙ h.1) ]);
    address = λ n q. refl;
    size = λ n q. refl;
    class = λ n q. refl;
    next = λ f. le_refl _;
    limit = λ f. refl;
    length_word = λ n q z u. at (b.address n + 1) ∙ u;
    owed = refl;
    zeros = λ x l none u. at x ∙ u;
    dirty = λ x u. ap (λ (f : ℕ → ℕ). f x) ec ∙ u;
    mutator = λ j n. refl;
    says = λ j n. refl;
    from = λ j n. refl;
    to = λ j n. refl;
  }
    where
      at : (x : ℕ) → v.word x ≡ w.word x
      at x = ap (λ (f : ℕ → ℕ). f x) e

  -- and what a zeroing store leaves of it
  pub later_zero : (j z i x : ℕ) → IsOwing (w.block j) z → i < slots z → bit_at (lay.marks j) i ≡ 0 → slot_at p j z i ≤ x → x < slot_at p j z i + z →
      Later p w g b said (record w { word = put w.word x 0 }) g b said k
  later_zero j z i x o f u lo hi = record {
    stands = λ n q. q;
    known = λ n q. (
      q.0,
      elim q.1 [
        | inl z ↦ inl z
        | inr h ↦ inr (off n (b.address n) q.0 (omega arith) (omega arith) ∙ h.0, off n (b.address n + 1) q.0 (omega arith) (omega arith) ∙ h.1)
      ],
    );
    address = λ n q. refl;
    size = λ n q. refl;
    class = λ n q. refl;
    next = λ f. le_refl _;
    limit = λ f. refl;
    length_word = λ n q z u. off n (b.address n + 1) q (omega arith) (omega arith) ∙ u;
    owed = refl;
    zeros = λ y l none u. elim (cases_eq y x) [ inl e ↦ put-at w.word x 0 y e | inr n ↦ put-other w.word x 0 y n ∙ u ];
    dirty = λ y u. u;
    mutator = λ j n. refl;
    says = λ j n. refl;
    from = λ j n. refl;
    to = λ j n. refl;
  }
    where
      off : (n y : ℕ) → b.stands n ≡ true → b.address n ≤ y → y < b.address n + words_for (g.size n) → put w.word x 0 y ≡ w.word y
      off n y st a d = put-other w.word x 0 y (λ e. unheld p lay w g b owner t j z i x n o f u lo hi st (omega arith) (omega arith))

  -- a step within a statement, on blocks alone
  pub moves_on : (v : Words) (by' : ℕ → ℕ) (owner' : ℕ → Owner) → Later p w g b said v g b said k → Ground p lay v g b owner' →
      BlockLater p lay w b by v b by' k → (a : Actor) (s : Stands p lay w g b said k a) (rest : List Statement) (mid : Mid) →
      IsQuiet a.mid → AtMid p lay v g b said k s.entry s.answers rest mid → Beside p lay v b by' k mid →
      Both p lay w g b said by k by' a.mid false v (within a rest mid)
  moves_on v by' owner' l ground bl a s rest mid quiet at beside =
      let kept = silent p lay w g b said k a.mid v g b (within a rest mid)
      (record { owner = owner'; later = l; needs = λ x q. inl q; ground = ground; mutators = refl }) refl refl
      (no_heads w g b a.mid v g b mid (λ n q. q) quiet) (λ x m. absurd (no_mark a.mid quiet x m)) (record {
        entry = s.entry;
        answers = s.answers;
        regs = s.regs;
        known = λ r. entry_later w g b v g b (s.entry r) l.known (s.known r);
        offsets = s.offsets;
        stack = stack_later w g b v g b l.known (λ n q. q) (λ n q. refl) (λ n q. refl) a.stack (g.mutator k).stack s.stack;
        told = s.told;
        given = s.given;
        from_is = s.from_is;
        to_is = s.to_is;
        at = at;
        fits = s.fits;
        runnable = s.runnable;
      }) in
      record {
        kept = kept;
        later = subst (λ c. BlockLater p lay w b by v c by' k) (sym kept.moves.1) bl;
        beside = subst (λ c. Beside p lay v c by' k mid) (sym kept.moves.1) beside;
        found = λ n j st l lo. inl (ap (λ (c : Book). c.stands n) (sym kept.moves.1) ∙ st);
        born = λ n some st old. inl (ap (λ (c : Book). c.stands n) (sym kept.moves.1) ∙ st);
      }

  -- a step that changes nothing but where its actor stands
  pub stays : (a : Actor) (s : Stands p lay w g b said k a) (rest : List Statement) (mid : Mid) → IsQuiet a.mid →
      AtMid p lay w g b said k s.entry s.answers rest mid → KnowsAt p lay w b.owed by k mid →
      Beside p lay w b by k a.mid → ((c z : ℕ) → IsInSweep c z a.mid → IsInSweep c z mid) →
      ((c z : ℕ) → w.block c ≡ Swept z → c < p.config.blocks → IsInSearch p c z a.mid → HasObject p b.stands b.address c ⊎ IsInSearch p c z mid) →
      Both p lay w g b said by k by a.mid false w (within a rest mid)
  stays a s rest mid quiet at here be same fill =
      moves_on w by owner (later_same w refl refl) t (block_quiet w g b said (later_same w refl refl) refl refl) a s rest mid quiet at (record {
        at = here;
        mine = λ c z l e o. same c z (be.mine c z l e o);
        fills = λ c z l e o. elim (be.fills c z l e o) [ inl h ↦ inl h | inr f ↦ fill c z e l f ];
      })

  -- a change of the word of block j: it wasn't swept, and no other actor sweeps it
  pub block_moved : (by' : ℕ → ℕ) (j : ℕ) (state : BlockWord) → ((s : ℕ) → w.block j ≡ Swept s → ⊥) → IsPast state →
      ((z : ℕ) → w.block j ≡ Sweeping z → by j ≢ k → ⊥) → by' j ≡ k → ((c : ℕ) → c ≢ j → by' c ≡ by c) →
      BlockLater p lay w b by (record w { block = put w.block j state }) b by' k
  block_moved by' j state unswept past alone mine others = record {
    owed = refl;
    has = λ c h. h;
    swept = λ c s e. put-other w.block j state c (λ r. unswept s (ap w.block (sym r) ∙ e)) ∙ e;
    used = λ j s i e u. u;
    past = λ c q. put-from (λ c state. IsPast state) w.block j state (λ _. past) c q;
    held = λ c z l e o.
        let n : c ≢ j = (λ r. alone z (ap w.block (sym r) ∙ e) (λ q. o (ap by r ∙ q))) in (put-other w.block j state c n ∙ e, others c n, refl);
    zeros = λ c z i x l e f u lo hi r. r;
    begun = λ c z l e o. elim (cases_eq c j) [
      | inl r ↦ absurd (o (ap by' r ∙ mine))
      | inr n ↦ (sym (put-other w.block j state c n) ∙ e, others c n)
    ];
    settled = λ c z l e o. elim (cases_eq c j) [
      | inl r ↦ absurd (o (ap by' r ∙ mine))
      | inr n ↦ (sym (put-other w.block j state c n) ∙ e, others c n)
    ];
  }

  -- what the own step leaves of what k knows of blocks that it doesn't touch
  pub other_mine : (by' : ℕ → ℕ) (j : ℕ) (state : BlockWord) (from to : Mid) → Beside p lay w b by k from → ((c : ℕ) → c ≢ j → by' c ≡ by c) →
      ((z : ℕ) → state ≡ Sweeping z → IsInSweep j z to) → ((c z : ℕ) → c ≢ j → IsInSweep c z from → ⊥) →
      (c z : ℕ) → c < p.config.blocks → put w.block j state c ≡ Sweeping z → by' c ≡ k → IsInSweep c z to
  other_mine by' j state from to be others here none c z l e o = elim (cases_eq c j) [
    | inl r ↦ subst (λ c. IsInSweep c z to) (sym r) (here z (sym (put-at w.block j state c r) ∙ e))
    | inr n ↦ absurd (none c z n (be.mine c z l (sym (put-other w.block j state c n) ∙ e) (sym (others c n) ∙ o)))
  ]

  pub other_fills : (by' : ℕ → ℕ) (j : ℕ) (state : BlockWord) (from to : Mid) → Beside p lay w b by k from → ((c : ℕ) → c ≢ j → by' c ≡ by c) →
      ((z : ℕ) → state ≡ Swept z → HasObject p b.stands b.address j ⊎ IsInSearch p j z to) → ((c z : ℕ) → IsInSearch p c z from → ⊥) →
      (c z : ℕ) → c < p.config.blocks → put w.block j state c ≡ Swept z → by' c ≡ k → HasObject p b.stands b.address c ⊎ IsInSearch p c z to
  other_fills by' j state from to be others here none c z l e o = elim (cases_eq c j) [
    | inl r ↦ subst (λ c. HasObject p b.stands b.address c ⊎ IsInSearch p c z to) (sym r) (here z (sym (put-at w.block j state c r) ∙ e))
    | inr n ↦ elim (be.fills c z l (sym (put-other w.block j state c n) ∙ e) (sym (others c n) ∙ o)) [ inl h ↦ inl h | inr f ↦ absurd (none c z f) ]
  ]

  -- an object in a slot is an object in the block
  pub object_in_block : (j s i n : ℕ) → i < slots s → IsOldAt g.size b.stands b.address b.section n (slot_at p j s i) s → HasObject p b.stands b.address j
  object_in_block j s i n f a =
      let e = a.at in
      let u = slot_fits s i f in
      let some = in_size p lay w g b owner t n a.some a.standing in
      let size = a.sized in
      (n, a.some, a.standing, omega arith, omega arith)

  -- one more block was passed over
  pub passes : (u : Task) (c : ℕ) → ((s : Statement) → u ≡ Search s → IsPassed w b.owed (made_slot p s) c) → HasPassed p w b.owed u c →
      HasPassed p w b.owed u (c + 1)
  passes (Search s) c here m = λ i l. elim (cases_eq i c) [
    | inl e ↦ subst (λ i. IsPassed w b.owed (made_slot p s) i) (sym e) (here s refl)
    | inr n ↦ m i (omega arith)
  ]
  passes Roam c here m = tt

  -- the way goes on: the graph's mutator stands as it did, and each block below was passed over
  pub task_onward : (entry : ℕ → Entry) (answers : List Answer) (rest : List Statement) (u : Task) (c : ℕ) → AtTask p g said k entry answers rest u →
      AtMid p lay w g b said k entry answers rest (onward p u c)
  task_onward entry answers rest u c m = by_onward p (λ mid. AtMid p lay w g b said k entry answers rest mid) u c (λ l. m) (λ l. ends u m)
    where
      ends : (u : Task) → AtTask p g said k entry answers rest u → AtMid p lay w g b said k entry answers rest (ends_at u)
      ends (Search s) m = (by_mature (λ s. AsksForRoom p lay b k s) (λ r class. tt) s m.0, m.1)
      ends Roam m = m

  pub knows_onward : (entry : ℕ → Entry) (answers : List Answer) (rest : List Statement) (u : Task) (c : ℕ) → AtTask p g said k entry answers rest u →
      HasPassed p w b.owed u c → KnowsAt p lay w b.owed by k (onward p u c)
  knows_onward entry answers rest u c m q = by_onward p (λ mid. KnowsAt p lay w b.owed by k mid) u c (λ l. (q, λ _. l)) (λ l. ends u m q l)
    where
      ends : (u : Task) → AtTask p g said k entry answers rest u → HasPassed p w b.owed u c → p.config.blocks ≤ c → KnowsAt p lay w b.owed by k (ends_at u)
      ends (Search s) m q l =
          by_mature (λ s. ((i : ℕ) → i < c → IsPassed w b.owed (made_slot p s) i) → HasPassedAll p w b.owed s) (λ r class q. λ i h. q i (omega arith)) s m.0 q
      ends Roam m q l = tt

  -- a step on no block's words
  pub quietly : (mid : Mid) (d : Bool) (v : Words) (a : Actor) (kept : Kept p lay w g b said k mid d v a) → v.block ≡ w.block → v.used ≡ w.used →
      Beside p lay w b by k mid → ((c z : ℕ) → IsInSweep c z mid → ⊥) → ((c z : ℕ) → IsInSearch p c z mid → ⊥) →
      (BlockLater p lay w b by v kept.c by k → KnowsAt p lay v kept.c.owed by k a.mid) → Both p lay w g b said by k by mid d v a
  quietly mid d v a kept eb eu be uns unf here = record {
    kept = kept;
    later = bl;
    beside = record {
      at = here bl;
      mine = λ c z l e o. absurd (uns c z (be.mine c z l (ap (λ (f : ℕ → BlockWord). f c) (sym eb) ∙ e) o));
      fills = λ c z l e o. elim (be.fills c z l (ap (λ (f : ℕ → BlockWord). f c) (sym eb) ∙ e) o) [ inl h ↦ inl (bl.has c h) | inr f ↦ absurd (unf c z f) ];
    };
    found = λ n j st l lo. inl (found_there n j st lo);
    born = λ n some st old. inl (old_before n some st old);
  }
    where
      bl : BlockLater p lay w b by v kept.c by k
      bl = block_quiet v kept.h kept.c kept.said' kept.later eb eu

      -- an object in the major heap has its slot's bit set before the step, so it stood there
      old_before : (n : ℕ) → 1 ≤ n → kept.c.stands n ≡ true → kept.c.section n ≡ Old → b.stands n ≡ true
      old_before n some st old_one =
          let h = kept.ground.blocks.placed n some st old_one in
          let inside = kept.ground.laid.objects.inside n some st in
          let s = slot_words (kept.h.size n) in
          let here : IsTakenAt p (lay.marks h.0) (kept.c.address n) s h.0 (w.block h.0) (w.used h.0) =
          subst (λ used. IsTakenAt p (lay.marks h.0) (kept.c.address n) s h.0 (w.block h.0) used) (ap (λ (f : ℕ → ℕ). f h.0) eu)
          (subst (λ state. IsTakenAt p (lay.marks h.0) (kept.c.address n) s h.0 state (v.used h.0)) (ap (λ (f : ℕ → BlockWord). f h.0) eb) h.2) in
          let old = (t.blocks.each h.0 h.1).filled s here.slot here.of here.fits here.taken in
          let m = old.0 in
          let at : kept.c.address m ≡ kept.c.address n = kept.later.address m old.1.standing ∙ old.1.at ∙ sym here.address in
          let same : m ≡ n = same_object p lay v kept.h kept.c kept.said' k kept.owner kept.ground m n (kept.c.address n)
          (kept.later.stands m old.1.standing) st (omega arith) (omega arith) (omega arith) (omega arith) in
          ap b.stands (sym same) ∙ old.1.standing

      found_there : (n j : ℕ) → kept.c.stands n ≡ true → block_at p j + 256 ≤ kept.c.address n → b.stands n ≡ true
      found_there n j st lo =
          let some : n ≢ 0 = (λ z. let e = ap kept.c.address z ∙ kept.ground.laid.nothing.at_nil in absurd (omega arith)) in
          elim (kept.ground.laid.objects.inside n (omega arith) st) [
            | inl y ↦ absurd (let top = y.2 in omega arith)
            | inr y ↦ old_before n (omega arith) st y.0
          ]
