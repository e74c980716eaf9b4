-- Each rule of the sweep of a block keeps the relation.
use Rattle.std.proofs.Common.{◌≡◌, ◌≢◌, ℕ, ◌+◌, ◌<◌, ◌≤◌, subst, true, false, List, sym, refl, ap, ◌∙◌, arith, inl, inr, le_refl}
use Rattle.std.proofs.lemmas.Bool.{cases_eq, cases_lt}
use Rattle.std.specs.Int.{bit_at}
use Rattle.sg_words.specs.Blocks.{IsOf, is_taken, IsOwing, slots}
use Rattle.sg_words.specs.Sweeps.{swept_word}
use Rattle.sg_words.specs.Words.{put, Words}
use Rattle.sg_words.specs.declared.steps.BlockWord.{BlockWord}
use Rattle.sg_words.specs.declared.steps.BlockWord.TheVariants.{Free, Swept, Need, Sweeping}
use Rattle.sg_words.proofs.Puts.{put-at, put-same, put-other}
use Rattle.sg_words.proofs.Sweeps.{by_marks, some_bit}
use Rattle.sg_program.specs.declared.program.Statement.{Statement}
use Rattle.sg_program.specs.declared.program.Program.{Program}
use Rattle.sg_program.specs.declared.answers.Answer.{Answer}
use Rattle.sg_graph.specs.Graph.{Graph}
use Rattle.sg_graph.specs.Book.{Book, slot_at}
use Rattle.sg_graph.specs.Heap.{Owner}
use Rattle.sg_rules.specs.Rules.{Constants, Task, Mid, SeeBlock, TakeOver, StoreOccupancy, ClearSlots, ClearWords, Actor, AreMarked, slot_word, within}
use Rattle.sg_order.specs.Knowing.{IsPast, Sweeps, IsZeroTo, AreZeroBelow, KnowsAt, IsInSweep, IsInSearch, HasObject}
use Rattle.sg_order.proofs.Relation.{Ground, AtMid, Stands, IsQuiet}
use Rattle.sg_order.proofs.Beside.{Beside, BlockLater, has_passed_later}
use Rattle.sg_order.proofs.BlockGround.{ground_win, ground_mark, ground_zero, ground_close, ground_free}
use Rattle.sg_order.proofs.BlockSteps.{Both, later_same, later_zero, block_quiet, moves_on, stays, block_moved, other_mine, other_fills, object_in_block}

module _ (p : Program) (lay : Constants) (w : Words) (g : Graph) (b : Book) (said : ℕ → List Answer) (by : ℕ → ℕ) (k : ℕ) (owner : ℕ → Owner)
    (t : Ground p lay w g b owner) (a : Actor) (rest : List Statement) where
  -- an exchange that is lost changes nothing
  pub misses_owed : (u : Task) (c z : ℕ) → Stands p lay w g b said k (within a rest (TakeOver u c z)) → Beside p lay w b by k (TakeOver u c z) →
      Both p lay w g b said by k by (TakeOver u c z) false w (within a rest (SeeBlock u false c))
  misses_owed u c z st be = stays p lay w g b said by k owner t (within a rest (TakeOver u c z)) st rest (SeeBlock u false c) tt st.at
      (be.at.0, λ _. be.at.1) be (λ c z h. absurd h) (λ d z e l h. absurd h)

  -- the sweep of an owed block is taken over
  pub takes_owed : (u : Task) (c z : ℕ) → w.block c ≡ Need z → Stands p lay w g b said k (within a rest (TakeOver u c z)) →
      Beside p lay w b by k (TakeOver u c z) →
      Both p lay w g b said by k (put by c k) (TakeOver u c z) false (record w { block = put w.block c (Sweeping z) }) (within a rest (StoreOccupancy u c z))
  takes_owed u c z e st be =
      let v : Words = record w { block = put w.block c (Sweeping z) } in
      let bl = block_moved p lay w g b said by k owner t (put by c k) c (Sweeping z) (λ y q. let f : Need z ≡ Swept y = sym e ∙ q in cc) tt
      (λ y q. let f : Need z ≡ Sweeping y = sym e ∙ q in cc) (put-same by c k) (λ d o. put-other by c k d o) in
      moves_on p lay w g b said by k owner t v (put by c k) owner (later_same p lay w g b said by k owner t v refl refl)
      (ground_win p lay w g b owner t c z e) bl (within a rest (TakeOver u c z)) st rest (StoreOccupancy u c z) tt st.at (record {
        at = (
          has_passed_later p lay w b by v b (put by c k) k bl u c be.at.0,
          record { there = be.at.1; word = put-same w.block c (Sweeping z); mine = put-same by c k },
        );
        mine = other_mine p lay w g b said by k owner t (put by c k) c (Sweeping z) (TakeOver u c z) (StoreOccupancy u c z) be
            (λ d o. put-other by c k d o) (λ y q. (refl, let q : y ≡ z = cc in q)) (λ d y n h. h);
        fills = other_fills p lay w g b said by k owner t (put by c k) c (Sweeping z) (TakeOver u c z) (StoreOccupancy u c z) be
            (λ d o. put-other by c k d o) (λ y q. cc) (λ d y h. h);
      })

  -- the occupancy becomes the marks
  pub stores_marks : (u : Task) (c z : ℕ) → Stands p lay w g b said k (within a rest (StoreOccupancy u c z)) →
      Beside p lay w b by k (StoreOccupancy u c z) →
      Both p lay w g b said by k by (StoreOccupancy u c z) false (record w { used = put w.used c (lay.marks c) }) (within a rest (ClearSlots u c z 0))
  stores_marks u c z st be =
      let v : Words = record w { used = put w.used c (lay.marks c) } in
      let sw = be.at.1 in
      let bl : BlockLater p lay w b by v b by k = record {
        owed = refl;
        has = λ j h. h;
        swept = λ j s e. e;
        used = λ j s i f q. ap (λ u. bit_at u i) (put-other w.used c (lay.marks c) j
            (λ r. let e : Sweeping z ≡ Swept s = sym sw.word ∙ ap w.block (sym r) ∙ f in cc)) ∙ q;
        past = λ j q. q;
        held = λ j y l f o. (f, refl, put-other w.used c (lay.marks c) j (λ r. o (ap by r ∙ sw.mine)));
        zeros = λ j y i x l e f q lo hi r. r;
        begun = λ j y l e o. (e, refl);
        settled = λ j y l e o. (e, refl);
      } in
      moves_on p lay w g b said by k owner t v by owner (later_same p lay w g b said by k owner t v refl refl) (ground_mark p lay w g b owner t c z sw.word) bl
      (within a rest (StoreOccupancy u c z)) st rest (ClearSlots u c z 0) tt st.at (record {
        at = (
          has_passed_later p lay w b by v b by k bl u c be.at.0,
          record {
            sweeps = record { there = sw.there; word = sw.word; mine = sw.mine };
            occupied = put-same w.used c (lay.marks c);
            zero = λ m l. absurd (omega arith);
          },
        );
        mine = λ d y l e o. be.mine d y l e o;
        fills = λ d y l e o. elim (be.fills d y l e o) [ inl h ↦ inl h | inr h ↦ absurd h ];
      })

  -- the words after a word was zeroed
  abbrev zeroed : ℕ → Words
  zeroed x = record w { word = put w.word x 0 }

  -- a zeroing store
  zeroes : (u : Task) (c z i x : ℕ) (from next : Mid) (st : Stands p lay w g b said k (within a rest from)) → Beside p lay w b by k from →
      Sweeps p w.block by k c z → i < slots z → bit_at (lay.marks c) i ≡ 0 → slot_at p c z i ≤ x → x < slot_at p c z i + z →
      IsQuiet from → ((d y : ℕ) → IsInSweep d y from → IsInSweep d y next) → ((d y : ℕ) → IsInSearch p d y from → ⊥) →
      AtMid p lay (zeroed x) g b said k st.entry st.answers rest next →
      (BlockLater p lay w b by (zeroed x) b by k → KnowsAt p lay (zeroed x) b.owed by k next) →
      Both p lay w g b said by k by from false (zeroed x) (within a rest next)
  zeroes u c z i x from next st be sw f o lo hi quiet same unf at here =
      let owing : IsOwing (w.block c) z = subst (λ state. IsOwing state z) (sym sw.word) refl in
      let l = later_zero p lay w g b said by k owner t c z i x owing f o lo hi in
      let bl = block_quiet p lay w g b said by k owner t (zeroed x) g b said l refl refl in
      moves_on p lay w g b said by k owner t (zeroed x) by owner l (ground_zero p lay w g b owner t c z i x sw.there owing f o lo hi) bl
      (within a rest from) st rest next quiet at (record {
        at = here bl;
        mine = λ d y l e n. same d y (be.mine d y l e n);
        fills = λ d y l e n. elim (be.fills d y l e n) [ inl h ↦ inl h | inr h ↦ absurd (unf d y h) ];
      })

  -- what was zero is zero still
  zero_on : (x y : ℕ) → w.word y ≡ 0 → put w.word x 0 y ≡ 0
  zero_on x y e = elim (cases_eq y x) [ inl h ↦ put-at w.word x 0 y h | inr n ↦ put-other w.word x 0 y n ∙ e ]

  -- who sweeps is in the midst of it still
  sweeps_on : (c z x : ℕ) → Sweeps p w.block by k c z → Sweeps p (zeroed x).block by k c z
  sweeps_on c z x s = record { there = s.there; word = s.word; mine = s.mine }

  pub clears_begin : (u : Task) (c z i m : ℕ) → i ≤ m → m < slots z → AreMarked lay c i m → bit_at (lay.marks c) m ≡ 0 → 1 < z →
      Stands p lay w g b said k (within a rest (ClearSlots u c z i)) → Beside p lay w b by k (ClearSlots u c z i) →
      Both p lay w g b said by k by (ClearSlots u c z i) false (zeroed (slot_word p c z m 0)) (within a rest (ClearWords u c z m 1))
  clears_begin u c z i m le f marked o one st be =
      let q = be.at.1 in
      let x = slot_word p c z m 0 in
      zeroes u c z m x (ClearSlots u c z i) (ClearWords u c z m 1) st be q.sweeps f o (omega arith) (omega arith) tt (λ d y h. h) (λ d y h. h) st.at
      (λ bl. (
        has_passed_later p lay w b by (zeroed x) b by k bl u c be.at.0,
        record {
          mid = record {
            sweeps = sweeps_on c z x q.sweeps;
            occupied = q.occupied;
            zero = λ d l n u y lo hi. elim (cases_lt d i) [
              | inl h ↦ zero_on x y (q.zero d h n u y lo hi)
              | inr h ↦ absurd (let e = marked d h l in omega arith)
            ];
          };
          fits = f;
          unmarked = o;
          front = λ y lo hi. put-at w.word x 0 y (omega arith);
          more = omega arith;
        },
      ))

  -- the words of the slot below number f + 1 are zero
  front_on : (c z i f : ℕ) → IsZeroTo p w.word c z i f → IsZeroTo p (put w.word (slot_word p c z i f) 0) c z i (f + 1)
  front_on c z i f q y lo hi = elim (cases_eq y (slot_word p c z i f)) [
    | inl e ↦ put-at w.word (slot_word p c z i f) 0 y e
    | inr n ↦ put-other w.word (slot_word p c z i f) 0 y n ∙ q y lo (omega arith)
  ]

  pub clears_on : (u : Task) (c z i f : ℕ) → f + 1 < z → Stands p lay w g b said k (within a rest (ClearWords u c z i f)) →
      Beside p lay w b by k (ClearWords u c z i f) →
      Both p lay w g b said by k by (ClearWords u c z i f) false (zeroed (slot_word p c z i f)) (within a rest (ClearWords u c z i (f + 1)))
  clears_on u c z i f l st be =
      let q = be.at.1 in
      let x = slot_word p c z i f in
      zeroes u c z i x (ClearWords u c z i f) (ClearWords u c z i (f + 1)) st be q.mid.sweeps q.fits q.unmarked (omega arith) (omega arith) tt
      (λ d y h. h) (λ d y h. h) st.at
      (λ bl. (
        has_passed_later p lay w b by (zeroed x) b by k bl u c be.at.0,
        record {
          mid = record {
            sweeps = sweeps_on c z x q.mid.sweeps;
            occupied = q.mid.occupied;
            zero = λ d l n u y lo hi. zero_on x y (q.mid.zero d l n u y lo hi);
          };
          fits = q.fits;
          unmarked = q.unmarked;
          front = front_on c z i f q.front;
          more = omega arith;
        },
      ))

  pub clears_end : (u : Task) (c z i f : ℕ) → f + 1 ≡ z → Stands p lay w g b said k (within a rest (ClearWords u c z i f)) →
      Beside p lay w b by k (ClearWords u c z i f) →
      Both p lay w g b said by k by (ClearWords u c z i f) false (zeroed (slot_word p c z i f)) (within a rest (ClearSlots u c z (i + 1)))
  clears_end u c z i f l st be =
      let q = be.at.1 in
      let x = slot_word p c z i f in
      zeroes u c z i x (ClearWords u c z i f) (ClearSlots u c z (i + 1)) st be q.mid.sweeps q.fits q.unmarked (omega arith) (omega arith) tt
      (λ d y h. h) (λ d y h. h) st.at
      (λ bl. (
        has_passed_later p lay w b by (zeroed x) b by k bl u c be.at.0,
        record {
          sweeps = sweeps_on c z x q.mid.sweeps;
          occupied = q.mid.occupied;
          zero = λ d n m o y lo hi. elim (cases_eq d i) [
            | inl e ↦ let s : slot_at p c z d ≡ slot_at p c z i = ap (λ j. slot_at p c z j) e in front_on c z i f q.front y (omega arith) (omega arith)
            | inr ne ↦ zero_on x y (q.mid.zero d (omega arith) m o y lo hi)
          ];
        },
      ))

  -- with no unmarked slot left, all are zero
  all_zero : (c z i : ℕ) → AreMarked lay c i (slots z) → AreZeroBelow p (lay.marks c) w.word c z i → AreZeroBelow p (lay.marks c) w.word c z (slots z)
  all_zero c z i marked q d l n o y lo hi = elim (cases_lt d i) [
    | inl h ↦ q d h n o y lo hi
    | inr h ↦ absurd (let e = marked d h l in omega arith)
  ]

  -- the last store of a sweep
  finishes : (u : Task) (c z i : ℕ) (state : BlockWord) → IsPast state → ((y : ℕ) → state ≡ Sweeping y → ⊥) →
      ((y : ℕ) → state ≡ Swept y → HasObject p b.stands b.address c) → Stands p lay w g b said k (within a rest (ClearSlots u c z i)) →
      Beside p lay w b by k (ClearSlots u c z i) → Ground p lay (record w { block = put w.block c state }) g b owner →
      Both p lay w g b said by k by (ClearSlots u c z i) false (record w { block = put w.block c state }) (within a rest (SeeBlock u true c))
  finishes u c z i state past not has st be ground =
      let q = be.at.1.sweeps in
      let v : Words = record w { block = put w.block c state } in
      let bl = block_moved p lay w g b said by k owner t by c state (λ y r. let f : Sweeping z ≡ Swept y = sym q.word ∙ r in cc) past
      (λ y r o. o q.mine) q.mine (λ d o. refl) in
      moves_on p lay w g b said by k owner t v by owner (later_same p lay w g b said by k owner t v refl refl) ground bl
      (within a rest (ClearSlots u c z i)) st rest (SeeBlock u true c) tt st.at (record {
        at = (has_passed_later p lay w b by v b by k bl u c be.at.0, λ _. q.there);
        mine = other_mine p lay w g b said by k owner t by c state (ClearSlots u c z i) (SeeBlock u true c) be (λ d o. refl)
            (λ y r. absurd (not y r)) (λ d y n h. n h.0);
        fills = other_fills p lay w g b said by k owner t by c state (ClearSlots u c z i) (SeeBlock u true c) be (λ d o. refl)
            (λ y r. inl (has y r)) (λ d y h. h);
      })

  -- the block is swept, or free where nothing is marked
  pub ends_block : (u : Task) (c z i : ℕ) → AreMarked lay c i (slots z) → Stands p lay w g b said k (within a rest (ClearSlots u c z i)) →
      Beside p lay w b by k (ClearSlots u c z i) →
      Both p lay w g b said by k by (ClearSlots u c z i) false (record w { block = put w.block c (swept_word (Need z) (lay.marks c)) })
      (within a rest (SeeBlock u true c))
  ends_block u c z i marked st be =
      let q = be.at.1 in
      let sw = q.sweeps in
      let zero = all_zero c z i marked q.zero in
      by_marks (λ state. Both p lay w g b said by k by (ClearSlots u c z i) false (record w { block = put w.block c state })
      (within a rest (SeeBlock u true c)))
      z (lay.marks c)
      (λ bare. finishes u c z i Free tt (λ y e. cc) (λ y e. cc) st be (ground_free p lay w g b owner t c z sw.word q.occupied zero bare))
      (λ some. finishes u c z i (Swept z) tt (λ y e. cc) (λ y r. has c z sw.there sw.word some) st be
      (ground_close p lay w g b owner t c z sw.word q.occupied zero))
    where
      -- an object stands in a marked slot
      has : (c z : ℕ) → c < p.config.blocks → w.block c ≡ Sweeping z → lay.marks c ≢ 0 → HasObject p b.stands b.address c
      has c z there e some =
          let m = some_bit (lay.marks c) (lay.marks c) (le_refl _) some in
          let o = t.blocks.each c there in
          let f : m.0 < slots z = (o.kept z m.0 (subst (λ state. IsOwing state z) (sym e) refl) m.1).0 in
          let at = o.filled z m.0 (subst (λ state. IsOf state z) (sym e) refl) f
          (subst (λ state. is_taken state (w.used c) (lay.marks c) m.0 ≡ 1) (sym e) m.1) in
          object_in_block p lay w g b said by k owner t c z m.0 at.0 f at.1
