-- What each kind of step on blocks leaves of the words' relation to the book.
use Rattle.std.proofs.Common.{◌≡◌, ◌≢◌, ℕ, ◌+◌, ◌<◌, ◌≤◌, subst, true, sym, refl, ap, ◌∙◌, arith, inl, inr}
use Rattle.std.proofs.lemmas.Bool.{cases_eq}
use Rattle.std.proofs.lemmas.Nat.Bits.{bit_at-zero}
use Rattle.std.specs.Int.{bit_at}
use Rattle.sg_words.specs.Blocks.{IsSizeClass, IsOf, is_taken, IsOwing, slots}
use Rattle.sg_words.specs.Sections.{globals_base}
use Rattle.sg_words.specs.Words.{put, Words}
use Rattle.sg_words.specs.declared.steps.BlockWord.{BlockWord}
use Rattle.sg_words.specs.declared.steps.BlockWord.TheVariants.{Free, Swept, Need, Sweeping}
use Rattle.sg_words.proofs.Blocks.{slot_in, slot_once, block_once, find_slot, slot_size-holds, bit_cases}
use Rattle.sg_words.proofs.Puts.{put-at, put-other}
use Rattle.sg_program.specs.declared.program.Program.{Program}
use Rattle.sg_program.specs.Scripts.{words_for}
use Rattle.sg_graph.specs.Graph.{Entry, Ref, Int, Inner, Graph}
use Rattle.sg_graph.specs.Book.{Book, nursery_end, slot_words, block_at, slot_at}
use Rattle.sg_graph.specs.Heap.{Owner, Of, IsKnown, IsKnownEntry, layout_of}
use Rattle.sg_graph.specs.Blocks.{IsDirty, IsTakenAt, IsBlock, IsClear}
use Rattle.sg_rules.specs.Rules.{Constants}
use Rattle.sg_order.specs.Knowing.{AreZeroBelow}
use Rattle.sg_order.proofs.Relation.{Ground}

-- what a change at k keeps at k, holds at each j after it where it held before
pub put-from : {A : Type 0} (P : ℕ → A → Type 0) (f : ℕ → A) (k : ℕ) (v : A) → (P k (f k) → P k v) → (j : ℕ) → P j (f j) → P j (put f k v j)
put-from P f k v step j q = elim (cases_eq j k) [
  | inl e ↦ subst (λ u. P j u) (sym (put-at f k v j e)) (subst (λ i. P i v) (sym e) (step (subst (λ i. P i (f i)) e q)))
  | inr n ↦ subst (λ u. P j u) (sym (put-other f k v j n)) q
]

-- a block has slots of one size
pub same_size : (state : BlockWord) (y s : ℕ) → IsOf state y → IsOf state s → y ≡ s
same_size Free y s a q = absurd a
same_size (Swept z) y s a q = sym a ∙ q
same_size (Need z) y s a q = sym a ∙ q
same_size (Sweeping z) y s a q = sym a ∙ q

owing_taken : (state : BlockWord) (z used marks i : ℕ) → IsOwing state z → is_taken state used marks i ≡ bit_at marks i
owing_taken Free z used marks i o = absurd o
owing_taken (Swept y) z used marks i o = absurd o
owing_taken (Need y) z used marks i o = refl
owing_taken (Sweeping y) z used marks i o = refl

owing_is : (state : BlockWord) (z : ℕ) → IsOwing state z → IsOf state z
owing_is Free z o = absurd o
owing_is (Swept y) z o = absurd o
owing_is (Need y) z o = o
owing_is (Sweeping y) z o = o

module _ (p : Program) (lay : Constants) (w : Words) (g : Graph) (b : Book) (owner : ℕ → Owner) (t : Ground p lay w g b owner) where
  abbrev Block : ℕ → BlockWord → ℕ → Type 0
  Block c state used = IsBlock p (lay.marks c) g.size b.stands b.address b.section b.owed c state used

  abbrev Taken : ℕ → ℕ → ℕ → BlockWord → ℕ → Type 0
  Taken x s c state used = IsTakenAt p (lay.marks c) x s c state used

  abbrev Clear : ℕ → BlockWord → Type 0
  Clear c state = IsClear p (lay.marks c) w.word owner c state

  -- a small object fits in its slot
  pub in_size : (n : ℕ) → 1 ≤ n → b.stands n ≡ true → words_for (g.size n) ≤ slot_words (g.size n)
  in_size n l q = let h = (t.laid.objects.shaped n l q).1.0 in slot_size-holds (words_for (g.size n)) (omega arith)

  -- no object has a word in a slot of a block unless its bit is set, and the slot is then the object's
  pub in_slot : (j s i n x : ℕ) → i < slots s → IsOf (w.block j) s → slot_at p j s i ≤ x → x < slot_at p j s i + s → 1 ≤ n → b.stands n ≡ true →
      b.address n ≤ x → x < b.address n + words_for (g.size n) → (slot_words (g.size n) ≡ s) × (is_taken (w.block j) (w.used j) (lay.marks j) i ≡ 1)
  in_slot j s i n x f o u q l st lo hi = elim (t.laid.objects.inside n l st) [
    | inl y ↦ absurd (let top = y.2 in omega arith)
    | inr y ↦
        let h = t.blocks.placed n l st y.0 in
        let size = slot_words (g.size n) in
        let fit = in_size n l st in
        let in_j : h.0 ≡ j = (let e = h.2.address in block_once (nursery_end p) h.0 j size s h.2.slot i x h.2.fits f (omega arith) (omega arith) u q) in
        let here : Taken (b.address n) size j (w.block j) (w.used j) = subst (λ c. Taken (b.address n) size c (w.block c) (w.used c)) in_j h.2 in
        let same : size ≡ s = same_size (w.block j) size s here.of o in
        let there : Taken (b.address n) s j (w.block j) (w.used j) = subst (λ z. Taken (b.address n) z j (w.block j) (w.used j)) same here in
        let slot : there.slot ≡ i = (let e = there.address in slot_once (nursery_end p) j s there.slot i x (omega arith) (omega arith) u q) in
        (same, subst (λ i. is_taken (w.block j) (w.used j) (lay.marks j) i ≡ 1) slot there.taken)
  ]

  -- what is to be zeroed is no object's
  pub unheld : (j z i x n : ℕ) → IsOwing (w.block j) z → i < slots z → bit_at (lay.marks j) i ≡ 0 → slot_at p j z i ≤ x → x < slot_at p j z i + z →
      b.stands n ≡ true → b.address n ≤ x → x < b.address n + words_for (g.size n) → ⊥
  unheld j z i x n o f u a q st lo hi = elim (cases_eq n 0) [
    | inl e ↦ absurd (let c = ap b.address e ∙ t.laid.nothing.at_nil in let d = ap g.size e ∙ t.laid.nothing.no_size in omega arith)
    | inr some ↦
        let r = in_slot j z i n x f (owing_is (w.block j) z o) a q (omega arith) st lo hi in
        let m : bit_at (lay.marks j) i ≡ 1 = sym (owing_taken (w.block j) z (w.used j) (lay.marks j) i o) ∙ r.1 in
        absurd (omega arith)
  ]

  -- a change of one block's word
  ground_block : (j : ℕ) (state : BlockWord) →
      (j < p.config.blocks → Block j (w.block j) (w.used j) → Block j state (w.used j)) →
      ((x s : ℕ) → j < p.config.blocks → Taken x s j (w.block j) (w.used j) → Taken x s j state (w.used j)) →
      (j < p.config.blocks → Clear j (w.block j) → Clear j state) →
      ((s : ℕ) → j < p.config.blocks → IsOf state s → IsSizeClass s) → Ground p lay (record w { block = put w.block j state }) g b owner
  ground_block j state block slot clean class = record {
    laid = t.laid;
    blocks = record {
      placed = λ n l q o. let h = t.blocks.placed n l q o in (
        h.0,
        h.1,
        put-from (λ c state. c < p.config.blocks → Taken (b.address n) (slot_words (g.size n)) c state (w.used c)) w.block j state
            (λ old m. slot (b.address n) (slot_words (g.size n)) m (old m)) h.0 (λ _. h.2) h.1,
      );
      each = λ c l. put-from (λ c state. c < p.config.blocks → Block c state (w.used c)) w.block j state (λ old m. block m (old m)) c (t.blocks.each c) l;
      clear = λ c l. put-from (λ c state. c < p.config.blocks → Clear c state) w.block j state (λ old m. clean m (old m)) c (t.blocks.clear c) l;
      sized = λ c s l. put-from (λ c state. c < p.config.blocks → IsOf state s → IsSizeClass s) w.block j state (λ old m. class s m) c
          (λ m. t.blocks.sized c s m) l;
    };
    plain = t.plain;
    number = t.number;
    limits = t.limits;
    words = t.words;
    marks = t.marks;
  }

  -- a free block gets slots
  pub ground_take : (j s : ℕ) → w.block j ≡ Free → IsSizeClass s → Ground p lay (record w { block = put w.block j (Swept s) }) g b owner
  ground_take j s e class = ground_block j (Swept s)
      (λ l o. record {
        filled = λ z i f m r. let c = ap (λ u. bit_at u i) (o.bare e) ∙ bit_at-zero i in absurd (omega arith);
        bare = λ f. cc;
        owing = λ z f. absurd f;
        kept = λ z i f. absurd f;
        unmarked = λ f. cc;
        within = λ z f i u. let c = ap (λ m. bit_at m i) (o.unmarked e) ∙ bit_at-zero i in absurd (omega arith);
      })
      (λ x z l o. absurd (subst (λ state. IsOf state z) e o.of))
      (λ l o x a q none clean. o x a q none (λ d. subst (λ state. IsOwing state d.size) e d.owing))
      (λ z l q. subst IsSizeClass q class)

  -- an owed block is taken over
  pub ground_win : (j z : ℕ) → w.block j ≡ Need z → Ground p lay (record w { block = put w.block j (Sweeping z) }) g b owner
  ground_win j z e = ground_block j (Sweeping z)
      (λ l o. let o : Block j (Need z) (w.used j) = subst (λ state. Block j state (w.used j)) e o in
      record { filled = o.filled; bare = λ f. cc; owing = o.owing; kept = o.kept; unmarked = λ f. cc; within = λ s f. cc })
      (λ x s l o. let o : Taken x s j (Need z) (w.used j) = subst (λ state. Taken x s j state (w.used j)) e o in
      record { slot = o.slot; fits = o.fits; address = o.address; of = o.of; taken = o.taken })
      (λ l o x a q none clean. let o : Clear j (Need z) = subst (λ state. Clear j state) e o in
      o x a q none (λ d. clean (record { size = d.size; slot = d.slot; owing = d.owing; fits = d.fits; unmarked = d.unmarked; from = d.from; to = d.to })))
      (λ s l o. t.blocks.sized j s l (subst (λ state. IsOf state s) (sym e) o))

  -- what the sweeper has zeroed is all that was to be zeroed
  swept_clear : (j z : ℕ) → w.block j ≡ Sweeping z → AreZeroBelow p (lay.marks j) w.word j z (slots z) → Clear j (w.block j) →
      (x : ℕ) → block_at p j ≤ x → x < block_at p j + 256 → ((n : ℕ) → owner x ≢ Of n) → w.word x ≡ 0
  swept_clear j z e zero o x a q none =
      let same : (d : IsDirty p (lay.marks j) (w.block j) j x) → z ≡ d.size =
      (λ d. let f : IsOwing (Sweeping z) d.size = subst (λ state. IsOwing state d.size) e d.owing in f) in
      elim (find_slot (nursery_end p) j z (slots z) x) [
        | inl h ↦ elim (bit_cases (lay.marks j) h.0) [
          | inl m ↦ o x a q none (λ d.
              let i : h.0 ≡ d.slot = slot_once (nursery_end p) j z h.0 d.slot x h.2 h.3 (subst (λ y. slot_at p j y d.slot ≤ x) (sym (same d)) d.from)
              (subst (λ y. x < slot_at p j y d.slot + y) (sym (same d)) d.to) in
              let c = ap (bit_at (lay.marks j)) i in let u = d.unmarked in absurd (omega arith))
          | inr m ↦ zero h.0 h.1 h.1 m x h.2 h.3
        ]
        | inr out ↦ o x a q none (λ d. out d.slot (subst (λ y. d.slot < slots y) (sym (same d)) d.fits)
            (subst (λ y. slot_at p j y d.slot ≤ x) (sym (same d)) d.from) (subst (λ y. x < slot_at p j y d.slot + y) (sym (same d)) d.to))
      ]

  -- the sweep of a block ends: the block is swept
  pub ground_close : (j z : ℕ) → w.block j ≡ Sweeping z → w.used j ≡ lay.marks j → AreZeroBelow p (lay.marks j) w.word j z (slots z) →
      Ground p lay (record w { block = put w.block j (Swept z) }) g b owner
  ground_close j z e u zero = ground_block j (Swept z)
      (λ l o. let o : Block j (Sweeping z) (w.used j) = subst (λ state. Block j state (w.used j)) e o in
      record {
        filled = λ s i f m r. o.filled s i f m (sym (ap (λ v. bit_at v i) u) ∙ r);
        bare = λ f. cc;
        owing = λ s f. absurd f;
        kept = λ s i f. absurd f;
        unmarked = λ f. cc;
        within = λ s f i m. ap (λ v. bit_at v i) u ∙ m;
      })
      (λ x s l o. let o : Taken x s j (Sweeping z) (w.used j) = subst (λ state. Taken x s j state (w.used j)) e o in
      record { slot = o.slot; fits = o.fits; address = o.address; of = o.of; taken = ap (λ v. bit_at v o.slot) u ∙ o.taken })
      (λ l o x a q none clean. swept_clear j z e zero o x a q none)
      (λ s l o. t.blocks.sized j s l (subst (λ state. IsOf state s) (sym e) o))

  -- or free
  pub ground_free : (j z : ℕ) → w.block j ≡ Sweeping z → w.used j ≡ lay.marks j → AreZeroBelow p (lay.marks j) w.word j z (slots z) → lay.marks j ≡ 0 →
      Ground p lay (record w { block = put w.block j Free }) g b owner
  ground_free j z e u zero bare = ground_block j Free
      (λ l o. record {
        filled = λ s i f. absurd f;
        bare = λ f. u ∙ bare;
        owing = λ s f. absurd f;
        kept = λ s i f. absurd f;
        unmarked = λ f. bare;
        within = λ s f. cc;
      })
      (λ x s l o. let o : Taken x s j (Sweeping z) (w.used j) = subst (λ state. Taken x s j state (w.used j)) e o in
      absurd (let c = ap (λ v. bit_at v o.slot) bare ∙ bit_at-zero o.slot in let d = o.taken in omega arith))
      (λ l o x a q none clean. swept_clear j z e zero o x a q none)
      (λ s l o. absurd o)

  -- the occupancy of a block that is being swept becomes its marks
  pub ground_mark : (j z : ℕ) → w.block j ≡ Sweeping z → Ground p lay (record w { used = put w.used j (lay.marks j) }) g b owner
  ground_mark j z e = record {
    laid = t.laid;
    blocks = record {
      placed = λ n l q o. let h = t.blocks.placed n l q o in let s = slot_words (g.size n) in (
        h.0,
        h.1,
        put-from (λ c used. Taken (b.address n) s c (w.block c) used) w.used j (lay.marks j)
            (λ o. let o : Taken (b.address n) s j (Sweeping z) (w.used j) = subst (λ state. Taken (b.address n) s j state (w.used j)) e o in
            subst (λ state. Taken (b.address n) s j state (lay.marks j)) (sym e)
            (record { slot = o.slot; fits = o.fits; address = o.address; of = o.of; taken = o.taken }))
            h.0 h.2,
      );
      each = λ c l. put-from (λ c used. c < p.config.blocks → Block c (w.block c) used) w.used j (lay.marks j)
          (λ old m. let o : Block j (Sweeping z) (w.used j) = subst (λ state. Block j state (w.used j)) e (old m) in
          subst (λ state. Block j state (lay.marks j)) (sym e)
          (record {
            filled = o.filled;
            bare = λ f. cc;
            owing = o.owing;
            kept = λ s i f q. ((o.kept s i f q).0, q);
            unmarked = λ f. cc;
            within = λ s f. cc;
          }))
          c (t.blocks.each c) l;
      clear = t.blocks.clear;
      sized = t.blocks.sized;
    };
    plain = t.plain;
    number = t.number;
    limits = t.limits;
    words = t.words;
    marks = t.marks;
  }

  -- a word that is to be zeroed is zeroed
  pub ground_zero : (j z i x : ℕ) → j < p.config.blocks → IsOwing (w.block j) z → i < slots z → bit_at (lay.marks j) i ≡ 0 → slot_at p j z i ≤ x →
      x < slot_at p j z i + z → Ground p lay (record w { word = put w.word x 0 }) g b owner
  ground_zero j z i x there o f u a q =
      let zero : (y : ℕ) → w.word y ≡ 0 → put w.word x 0 y ≡ 0 =
      (λ y e. elim (cases_eq y x) [ inl h ↦ put-at w.word x 0 y h | inr n ↦ put-other w.word x 0 y n ∙ e ]) in
      let inside = slot_in (nursery_end p) j z i x f a q in
      let lo = inside.0 in let hi = inside.1 in
      record {
        laid = record {
          nothing = t.laid.nothing;
          objects = t.laid.objects;
          fields = record {
            holds = λ n d st l. put-other w.word x 0 (b.address n + 2 + d) (λ e. unheld j z i x n o f u a q st (omega arith) (omega arith))
                ∙ t.laid.fields.holds n d st l;
            known = λ n d st l. entry (g.field n d) (t.laid.fields.known n d st l);
            sorted = t.laid.fields.sorted;
          };
          globals = record {
            holds = λ y l. put-other w.word x 0 (globals_base (layout_of p) + y) (λ e. absurd (omega arith)) ∙ t.laid.globals.holds y l;
            known = λ y l. known (g.global y) (t.laid.globals.known y l);
            empty = λ y l m. zero y (t.laid.globals.empty y l m);
          };
          clear = record {
            large = λ y l m. zero y (t.laid.clear.large y l m);
            clear = λ y l m none. zero y (t.laid.clear.clear y l m none);
          };
          fragments = t.laid.fragments;
          buffers = t.laid.buffers;
        };
        blocks = record {
          placed = t.blocks.placed;
          each = t.blocks.each;
          clear = λ c l y r s none clean. zero y (t.blocks.clear c l y r s none clean);
          sized = t.blocks.sized;
        };
        plain = t.plain;
        number = t.number;
        limits = t.limits;
        words = t.words;
        marks = t.marks;
      }
    where
      tag_off : (n : ℕ) → b.stands n ≡ true → put w.word x 0 (b.address n) ≡ w.word (b.address n)
      tag_off n st = put-other w.word x 0 (b.address n) (λ e. unheld j z i x n o f u a q st (omega arith) (omega arith))

      length_off : (n : ℕ) → b.stands n ≡ true → put w.word x 0 (b.address n + 1) ≡ w.word (b.address n + 1)
      length_off n st = put-other w.word x 0 (b.address n + 1) (λ e. unheld j z i x n o f u a q st (omega arith) (omega arith))

      known : (n : ℕ) → IsKnown w.word g b n → IsKnown (put w.word x 0) g b n
      known n q = (q.0, elim q.1 [ inl z ↦ inl z | inr h ↦ inr (tag_off n q.0 ∙ h.0, length_off n q.0 ∙ h.1) ])

      entry : (e : Entry) → IsKnownEntry w.word g b e → IsKnownEntry (put w.word x 0) g b e
      entry (Ref n) q = known n q
      entry (Int v) q = tt
      entry (Inner n o) q = known n q
