-- What holds of blocks where all actors are over, and of the book in which what was swept isn't owed any more.
use Rattle.std.proofs.Common.{◌≡◌, ℕ, ◌+◌, ◌<◌, ◌⊎◌, Bool, true, false, List, [], ◌∷◌, inl, inr, sym, refl, ap, ◌∙◌, subst, arith}
use Rattle.std.proofs.lemmas.Bool.{cases_eq, cases_Bool}
use Rattle.std.specs.Int.{bit_at}
use Rattle.sg_words.specs.Blocks.{IsOf, is_taken, IsOwing, card_of}
use Rattle.sg_words.specs.Lists.{In}
use Rattle.sg_words.specs.Words.{put, Words}
use Rattle.sg_words.specs.declared.steps.BlockWord.{BlockWord}
use Rattle.sg_words.specs.declared.steps.BlockWord.TheVariants.{Free, Swept, Need, Sweeping}
use Rattle.sg_words.proofs.Blocks.{slot_fits}
use Rattle.sg_words.proofs.Members.{has-cases, in-here, in-there}
use Rattle.sg_words.proofs.Puts.{put-at, put-other}
use Rattle.sg_program.specs.declared.program.Statement.{Statement}
use Rattle.sg_program.specs.declared.program.Program.{Program}
use Rattle.sg_program.specs.declared.answers.Answer.{Answer}
use Rattle.sg_graph.specs.Graph.{Entry, Ref, Int, Inner, Graph}
use Rattle.sg_graph.specs.Book.{Book, slot_words, swept_in, IsClosed}
use Rattle.sg_graph.specs.Heap.{IsKnownEntry, layout_of}
use Rattle.sg_graph.specs.Blocks.{IsTakenAt, IsClear}
use Rattle.sg_rules.specs.Rules.{Constants, Search, Roam, Mid, Idle, Left, Yielded, SeeBlock, StoreOccupancy, ClearSlots, ClearWords, Retired, Actor}
use Rattle.sg_rules.specs.Rules.{TakeBlock, SeeUsed, TakeSlot, TakeOver}
use Rattle.sg_order.specs.Rest.{IsHeld, IsOver, AreOver}
use Rattle.sg_order.specs.OneOrder.{IsSeeking}
use Rattle.sg_order.specs.Knowing.{IsPast, IsPassed, Sweeps, KnowsAt, IsInSweep, IsInSearch, HasObject, Seeks}
use Rattle.sg_order.proofs.Relation.{AtTask, AtMid, WritesHeader, IsNeeded, Marks}
use Rattle.sg_order.proofs.Beside.{World}
use Rattle.sg_order.proofs.BlockGround.{in_size, same_size}

-- what holds of each point at which an actor is over
pub by_over : (P : Mid → Type 0) → P Idle → ((s : Statement) → P (Left s)) → P Yielded → P Retired → ((begins : Bool) (c : ℕ) → P (SeeBlock Roam begins c)) →
    (mid : Mid) → IsOver mid → P mid
by_over P idle left yielded retired roam mid over = elim over [
  | inl e ↦ subst P (sym e) idle
  | inr o ↦ elim o [
    | inl e ↦ subst P (sym e.1) (left e.0)
    | inr o ↦ elim o [
      | inl e ↦ subst P (sym e) yielded
      | inr o ↦ elim o [
        | inl e ↦ subst P (sym e) retired
        | inr e ↦ subst P (sym e.2) (roam e.0 e.1)
      ]
    ]
  ]
]

-- who is over writes no header, marks no card, sweeps no block, and searches none
over_makes_none : (x : ℕ) (mid : Mid) → IsOver mid → WritesHeader x mid → ⊥
over_makes_none x = by_over (λ mid. WritesHeader x mid → ⊥) (λ m. m) (λ s m. m) (λ m. m) (λ m. m) (λ b c m. m)

over_marks_none : (card : ℕ) (mid : Mid) → IsOver mid → Marks card mid → ⊥
over_marks_none card = by_over (λ mid. Marks card mid → ⊥) (λ m. m) (λ s m. m) (λ m. m) (λ m. m) (λ b c m. m)

over_sweeps_none : (c z : ℕ) (mid : Mid) → IsOver mid → IsInSweep c z mid → ⊥
over_sweeps_none c z = by_over (λ mid. IsInSweep c z mid → ⊥) (λ m. m) (λ s m. m) (λ m. m) (λ m. m) (λ b d m. m)

over_searches_none : (p : Program) (c z : ℕ) (mid : Mid) → IsOver mid → IsInSearch p c z mid → ⊥
over_searches_none p c z = by_over (λ mid. IsInSearch p c z mid → ⊥) (λ m. m) (λ s m. m) (λ m. m) (λ m. m) (λ b d m. m)

-- the sweeping of some blocks changes what is owed alone
pub swept_is : (b : Book) (l : List ℕ) → swept_in b l ≡ record b { owed = (swept_in b l).owed }
swept_is b [] = refl
swept_is b (j ∷ more) = swept_is (record b { owed = put b.owed j false }) more

still_swept : (b : Book) (l : List ℕ) (j : ℕ) → b.owed j ≡ false → (swept_in b l).owed j ≡ false
still_swept b [] j e = e
still_swept b (i ∷ more) j e = still_swept (record b { owed = put b.owed i false }) more j
    (elim (cases_eq j i) [ inl h ↦ put-at b.owed i false j h | inr n ↦ put-other b.owed i false j n ∙ e ])

pub swept_now : (b : Book) (l : List ℕ) (j : ℕ) → In j l → (swept_in b l).owed j ≡ false
swept_now b [] j h = absurd (let z = h in cc)
swept_now b (i ∷ more) j h = elim (has-cases j i more h) [
  | inl e ↦ still_swept (record b { owed = put b.owed i false }) more j (put-at b.owed i false j e)
  | inr later ↦ swept_now (record b { owed = put b.owed i false }) more j later
]

pub owed_still : (b : Book) (l : List ℕ) (j : ℕ) → (In j l → ⊥) → (swept_in b l).owed j ≡ b.owed j
owed_still b [] j n = refl
owed_still b (i ∷ more) j n =
    owed_still (record b { owed = put b.owed i false }) more j (λ h. n (in-there j i more h)) ∙ put-other b.owed i false j (λ e. n (in-here j i more e))

-- who is in the midst of a sweep has taken it over
sweeps_at : (p : Program) (lay : Constants) (w : Words) (owed : ℕ → Bool) (by : ℕ → ℕ) (k c z : ℕ) (mid : Mid) → IsInSweep c z mid →
    KnowsAt p lay w owed by k mid → Sweeps p w.block by k c z
sweeps_at p lay w owed by k c z (StoreOccupancy t d y) m q =
    subst (λ c. Sweeps p w.block by k c z) (sym m.0) (subst (λ z. Sweeps p w.block by k d z) (sym m.1) q.1)
sweeps_at p lay w owed by k c z (ClearSlots t d y i) m q =
    subst (λ c. Sweeps p w.block by k c z) (sym m.0) (subst (λ z. Sweeps p w.block by k d z) (sym m.1) q.1.sweeps)
sweeps_at p lay w owed by k c z (ClearWords t d y i f) m q =
    subst (λ c. Sweeps p w.block by k c z) (sym m.0) (subst (λ z. Sweeps p w.block by k d z) (sym m.1) q.1.mid.sweeps)
sweeps_at p lay w owed by k c z mid m q = absurd m

-- and who looks for a slot has its statement still to come
seeks_at : (p : Program) (lay : Constants) (w : Words) (g : Graph) (b : Book) (said : ℕ → List Answer) (k : ℕ) (entry : ℕ → Entry) (answers : List Answer)
    (a : Actor) (s : Statement) (mid : Mid) → Seeks s mid → AtMid p lay w g b said k entry answers a.script mid → IsSeeking g k a s
seeks_at p lay w g b said k entry answers a s mid = go mid
  where
    by_task : (r : Statement) → s ≡ r → AtTask p g said k entry answers a.script (Search r) → IsSeeking g k a s
    by_task r e m = subst (λ s. IsSeeking g k a s) (sym e) (record { makes = m.0; script = m.1.script_is })

    go : (mid : Mid) → Seeks s mid → AtMid p lay w g b said k entry answers a.script mid → IsSeeking g k a s
    go (SeeBlock (Search r) begins c) e m = by_task r e m
    go (TakeBlock r c) e m = by_task r e m
    go (SeeUsed r c) e m = by_task r e m
    go (TakeSlot r c i) e m = by_task r e m
    go (TakeOver (Search r) c z) e m = by_task r e m
    go (StoreOccupancy (Search r) c z) e m = by_task r e m
    go (ClearSlots (Search r) c z i) e m = by_task r e m
    go (ClearWords (Search r) c z i f) e m = by_task r e m
    go mid e m = absurd e

not_owed : (state : BlockWord) (s : ℕ) → IsOwing state s → IsPast state → (z : ℕ) × (state ≡ Sweeping z)
not_owed Free s o q = absurd o
not_owed (Swept z) s o q = absurd o
not_owed (Need z) s o q = absurd q
not_owed (Sweeping z) s o q = (z, refl)

module _ (p : Program) (lay : Constants) (first : ℕ) (v : Words) (g : Graph) (b : Book) (said : ℕ → List Answer) (by : ℕ → ℕ) (actors : ℕ → Actor)
    (wo : World p lay first v g b said by actors) where
  -- each block that is being swept has its sweeper
  pub sweeper_there : (c z : ℕ) → c < p.config.blocks → v.block c ≡ Sweeping z → IsInSweep c z (actors (by c)).mid
  sweeper_there c z l e = (wo.beside (by c)).mine c z l e refl

  pub sweeper_alone : (j k c y z : ℕ) → IsInSweep c y (actors j).mid → IsInSweep c z (actors k).mid → j ≡ k
  sweeper_alone j k c y z q r =
      let mine = (sweeps_at p lay v b.owed by j c y (actors j).mid q (wo.beside j).at).mine in
      let yours = (sweeps_at p lay v b.owed by k c z (actors k).mid r (wo.beside k).at).mine in
      sym mine ∙ yours

  pub object_there : (c z : ℕ) → c < p.config.blocks → v.block c ≡ Swept z → HasObject p b.stands b.address c ⊎ ((k : ℕ) × IsInSearch p c z (actors k).mid)
  object_there c z l e = elim ((wo.beside (by c)).fills c z l e refl) [ inl h ↦ inl h | inr f ↦ inr (by c, f) ]

  pub seeks : (k : ℕ) (s : Statement) → Seeks s (actors k).mid → IsSeeking g k (actors k) s
  seeks k s q = let st = wo.stands k in seeks_at p lay v g b said k st.entry st.answers (actors k) s (actors k).mid q st.at

  -- Where all are over: the words hold the graph by the book with other blocks owed, those that are still to be swept.
  module _ (over : AreOver actors) (owed : ℕ → Bool) (needs : (c : ℕ) → c < p.config.blocks → owed c ≡ true → (s : ℕ) × (v.block c ≡ Need s))
      (owes : (c s : ℕ) → c < p.config.blocks → v.block c ≡ Need s → owed c ≡ true) where
    abbrev end : Book
    end = record b { owed = owed }

    settled : (c z : ℕ) → c < p.config.blocks → v.block c ≡ Sweeping z → ⊥
    settled c z l e = over_sweeps_none c z (actors (by c)).mid (over (by c)) (sweeper_there c z l e)

    inhabited : (c z : ℕ) → c < p.config.blocks → v.block c ≡ Swept z → HasObject p b.stands b.address c
    inhabited c z l e = elim (object_there c z l e) [
      | inl h ↦ h
      | inr f ↦ absurd (over_searches_none p c z (actors f.0).mid (over f.0) f.1)
    ]

    entry_end : (e : Entry) → IsKnownEntry v.word g b e → IsKnownEntry v.word g end e
    entry_end (Ref n) q = q
    entry_end (Int i) q = tt
    entry_end (Inner n o) q = q

    owing_need : (state : BlockWord) (s : ℕ) → IsOwing state s → ((z : ℕ) → state ≡ Sweeping z → ⊥) → (z : ℕ) × (state ≡ Need z)
    owing_need Free s o n = absurd o
    owing_need (Swept z) s o n = absurd o
    owing_need (Need z) s o n = (z, refl)
    owing_need (Sweeping z) s o n = absurd (n z refl)

    pub held_end : IsHeld p lay v g end
    held_end = record {
      owner = wo.owner;
      heap = record {
        laid = record {
          nothing = wo.ground.laid.nothing;
          objects = wo.ground.laid.objects;
          fields = record {
            holds = wo.ground.laid.fields.holds;
            known = λ n i q l. entry_end (g.field n i) (wo.ground.laid.fields.known n i q l);
            sorted = wo.ground.laid.fields.sorted;
          };
          globals = record {
            holds = wo.ground.laid.globals.holds;
            known = wo.ground.laid.globals.known;
            empty = wo.ground.laid.globals.empty;
          };
          clear = wo.ground.laid.clear;
          fragments = wo.ground.laid.fragments;
          buffers = wo.ground.laid.buffers;
        };
        headed = λ n l q. elim (wo.headed n l q) [ inl h ↦ h | inr m ↦ absurd (over_makes_none (b.address n) (actors m.0).mid (over m.0) m.1) ];
      };
      settled = record {
        blocks = record {
          placed = λ n l q o. subst (λ m. (c : ℕ) × (c < p.config.blocks) × IsTakenAt p (m c) (b.address n) (slot_words (g.size n)) c (v.block c) (v.used c))
              (sym wo.ground.marks) (wo.ground.blocks.placed n l q o);
          each = λ c l. let o = wo.ground.blocks.each c l in let same = sym (ap (λ (m : ℕ → ℕ). m c) wo.ground.marks) in record {
            filled = λ s i q f u. o.filled s i q f (subst (λ m. is_taken (v.block c) (v.used c) m i ≡ 1) (sym same) u);
            bare = o.bare;
            owing = λ s q. let need = owing_need (v.block c) s q (λ z e. settled c z l e) in owes c need.0 l need.1;
            kept = λ s i q u. o.kept s i q (subst (λ m. bit_at m i ≡ 1) (sym same) u);
            unmarked = λ e. sym same ∙ o.unmarked e;
            within = λ s e i u. o.within s e i (subst (λ m. bit_at m i ≡ 1) (sym same) u);
          };
          clear = λ c l. subst (λ m. IsClear p m v.word wo.owner c (v.block c)) (sym (ap (λ (m : ℕ → ℕ). m c) wo.ground.marks)) (wo.ground.blocks.clear c l);
          sized = wo.ground.blocks.sized;
        };
        settled = settled;
        inhabited = inhabited;
        owes = needs;
        cards = record {
          dirty = λ n i m some standing old inside strong refers one young.
              let need : IsNeeded p g b (card_of (layout_of p) (b.address n + 2 + i)) = record {
                name = n;
                index = i;
                target = m;
                some = some;
                standing = standing;
                old = old;
                inside = inside;
                strong = strong;
                refers = refers;
                one = one;
                young = young;
                at = refl;
              } in
              elim (wo.carded (card_of (layout_of p) (b.address n + 2 + i)) need) [
                | inl dirty ↦ dirty
                | inr j ↦ absurd (over_marks_none (card_of (layout_of p) (b.address n + 2 + i)) (actors j.0).mid (over j.0) j.1)
              ];
        };
      };
      plain = wo.ground.plain;
      number = wo.ground.number;
      limits = wo.ground.limits;
      nexts = wo.ground.words;
      marks = wo.ground.marks;
    }

    -- a block that isn't to be swept any more isn't owed
    unowed : (c : ℕ) → c < p.config.blocks → IsPast (v.block c) → owed c ≡ false
    unowed c l q = elim (cases_Bool (owed c)) [
      | inl e ↦ absurd (let n = needs c l e in subst IsPast n.1 q)
      | inr e ↦ e
    ]

    of_swept : (state : BlockWord) (z s : ℕ) → state ≡ Swept z → IsOf state s → z ≡ s
    of_swept state z s e o = same_size state z s (subst (λ state. IsOf state z) (sym e) refl) o

    -- a block that was passed over has no place, by the book then
    pub closed_end : (before : ℕ → Bool) (z j : ℕ) → j < p.config.blocks → IsPassed v before z j → IsClosed p before g end j z
    closed_end before z j l q = elim q [
      | inl r ↦ record { swept = unowed j l r.1; shut = λ o. absurd (let e : true ≡ false = sym r.0 ∙ o in cc) }
      | inr r ↦ elim r [
        | inl r ↦
            let h = inhabited j r.0 l r.1 in
            let lo = h.3 in
            let hi = h.4 in
            record {
              swept = unowed j l (subst IsPast (sym r.1) tt);
              shut = λ o. elim (wo.ground.laid.objects.inside h.0 h.1 h.2) [
                | inl y ↦ absurd (let top = y.2 in omega arith)
                | inr y ↦
                    let a = wo.ground.blocks.placed h.0 h.1 h.2 y.0 in
                    let e = a.2.address in
                    let s = slot_words (g.size h.0) in
                    let fit = slot_fits s a.2.slot a.2.fits in
                    let some = in_size p lay v g b wo.owner wo.ground h.0 h.1 h.2 in
                    let same : a.0 ≡ j = omega arith in
                    let size : r.0 ≡ s = of_swept (v.block j) r.0 s r.1 (subst (λ c. IsOf (v.block c) s) same a.2.of) in
                    inl (h.0, record { some = h.1; stands = h.2; old = y.0; above = lo; below = hi }, λ u. r.2 (size ∙ u))
              ];
            }
        | inr r ↦ record {
          swept = unowed j l (subst IsPast (sym r.0) tt);
          shut = λ o. inr (λ i f.
              let at = (wo.ground.blocks.each j l).filled z i (subst (λ state. IsOf state z) (sym r.0) refl) f
              (subst (λ state. is_taken state (v.used j) (lay.marks j) i ≡ 1) (sym r.0) (r.1 i f)) in (
                at.0,
                record { some = at.1.some; stands = at.1.standing; old = at.1.old; sized = at.1.sized; there = l; fits = f; at = at.1.at },
              ));
        }
      ]
    ]
