-- The blocks, the counts and the book after a major pause.
use Rattle.std.proofs.Common.{◌≡◌, ◌≢◌, ℕ, ◌≤◌, ◌<◌, ◌⊎◌, ◌&&◌, Bool, true, false, not, List, length, filter, slice_index, sym, refl, ap, ◌∙◌, subst, inl, inr, arith}
use Rattle.std.proofs.lemmas.Bool.{cases_Bool, false≢true, eq-eqb, eqb-true}
use Rattle.std.proofs.lemmas.List.{get_or_past}
use Rattle.std.proofs.lemmas.List.Filters.{length-filter_both}
use Rattle.std.proofs.lemmas.Nat.Bits.{bit_at-zero}
use Rattle.std.specs.List.{Contains}
use Rattle.std.specs.Int.{bit_at}
use Rattle.sg_words.specs.Blocks.{slots, IsOf, IsOwing, is_taken}
use Rattle.sg_words.specs.declared.steps.BlockWord.{BlockWord}
use Rattle.sg_words.specs.declared.steps.BlockWord.TheVariants.{Free, Swept, Need, Sweeping}
use Rattle.sg_words.proofs.Blocks.{class_slots}
use Rattle.sg_graph.specs.declared.reports.MajorReport.{MajorReport}
use Rattle.sg_graph.specs.Book.{Young, Old, slot_at, slot_words}
use Rattle.sg_graph.specs.Major.{AreNames, StandsNow, IsFreed, KeepsReached, TellsCounts}
use Rattle.sg_space.specs.declared.objects.Object.{Object}
use Rattle.sg_space.specs.Space.{Contents, words_of}
use Rattle.sg_space.specs.Standing.{word, block_in, used_in, marks_in}
use Rattle.sg_heap.specs.Holding.{HoldsHeap}
use Rattle.sg_nursery.specs.Pieces.{AreStanding, first_word}
use Rattle.sg_major.specs.Parts.{HasFinished, is_marked, marked_among, owed_word, bits_in}
use Rattle.sg_major.specs.Law.{HasCollected}
use Rattle.sg_major.proofs.Told.{told_stand}
use Rattle.sg_major.proofs.Standing.{passed, passes, standing_passed}
use Rattle.sg_major.proofs.Reached.{kept, live_nil, live_kept, pauses}
use Rattle.sg_major.proofs.Shrunk.{Shrunk, booked, owner2, held, tiled}
use Rattle.sg_major.proofs.Owing.{owes, one_size_of, IsSeated, seated, seat_is, settled_after, used_blocks, sound_book}
use Rattle.sg_major.proofs.Collected.{Marked, firsts, now, alive, stood, alive_now, now_alive, front_is, IsYoungName, told_named, named_told, mark_is, shrunk, space_of, layout_is}
use Rattle.sg_major.proofs.Listed.{picks_bits, picks_rest, has_bit}
use Rattle.sg_major.proofs.Counted.{IsYoungOn, IsInSlotOf, names, are_names, how_many}

swept_bit : (state : BlockWord) (used marks i : ℕ) → ((z : ℕ) → IsOwing state z → ⊥) → (state ≡ Free → used ≡ 0) → bit_at used i ≡ 1 → (z : ℕ) × (state ≡ Swept z) × (is_taken state used marks i ≡ 1)
swept_bit Free used marks i none bare e = absurd (let z = ap (λ k. bit_at k i) (bare refl) ∙ bit_at-zero i in omega arith)
swept_bit (Swept z) used marks i none bare e = (z, refl, e)
swept_bit (Need z) used marks i none bare e = absurd (none z refl)
swept_bit (Sweeping z) used marks i none bare e = absurd (none z refl)

not_true : (b : Bool) → not b ≡ true → b ≡ false
not_true true e = absurd (false≢true e)
not_true false e = refl

both_true : (a b : Bool) → (a && b) ≡ true → (a ≡ true) × (b ≡ true)
both_true true b e = (refl, e)
both_true false b e = absurd (false≢true e)

true_both : (a b : Bool) → a ≡ true → b ≡ true → (a && b) ≡ true
true_both true b e f = f
true_both false b e f = absurd (false≢true e)

of_swept : (state : BlockWord) (z : ℕ) → state ≡ Swept z → IsOf state z
of_swept state z e = subst (λ (k : BlockWord). IsOf k z) (sym e) refl

module _ (c : Marked) (none : (j z : ℕ) → j < c.p.config.blocks → IsOwing (block_in c.t j) z → ⊥) (v : Contents) (report : MajorReport) (done : HasFinished c.m c.told v report) where
  abbrev after : Shrunk
  after = shrunk c v report done

  few : (n : ℕ) → n ≢ 0 → c.b.stands n ≡ true → c.g.size n ≤ 62
  few n d s = c.fronted.few_fields n d s

  -- each live name in the major heap has its slot marked
  hits : (n j z i : ℕ) → n ≢ 0 → alive c n ≡ true → c.b.section n ≡ Old → j < c.p.config.blocks → IsOf (block_in c.t j) z → i < slots z →
      c.b.address n ≡ slot_at c.p j z i → bit_at (marks_in c.m j) i ≡ 1
  hits n j z i d l o there of fits at =
      let nursery = c.fronted.nursery_is in
      let blocks = c.fronted.blocks_is in
      c.marked.has.set (c.b.address n) j z i (front_is c n d (stood c n l))
      (record { there = omega arith; sized = of; class = c.settled.blocks.sized j z there of; fits = fits; front = omega arith })
      (alive_now c n d l)

  -- and each mark is on the slot of one
  only : (j i : ℕ) → bit_at (marks_in c.m j) i ≡ 1 → (n z : ℕ) × (n ≢ 0) × (alive c n ≡ true) × (c.b.section n ≡ Old) × IsOf (block_in c.t j) z × (i < slots z) × (c.b.address n ≡ slot_at c.p j z i)
  only j i e =
      let q = c.marked.has.only j i e in
      let h = q.0 in
      let n = c.fronted.named_front h h q.2 in
      let s = (c.fronted.owned n.0 h n.2).0 in
      let at = n.3 in
      let front = q.3.front in
      let nursery = c.fronted.nursery_is in
      (n.0, q.1, n.1, now_live n.0 h n.1 s n.3 q.4, c.fronted.old_there n.0 n.1 s (omega arith), q.3.sized, q.3.fits, omega arith)
    where
      now_live : (n h : ℕ) → n ≢ 0 → c.b.stands n ≡ true → c.b.address n ≡ h → now c h ≡ true → alive c n ≡ true
      now_live n h d s e m = now_alive c n d s (ap (now c) e ∙ m)

  seat : (n : ℕ) → 1 ≤ n → c.b.stands n ≡ true → c.b.section n ≡ Old → IsSeated after (words_of c.t) c.settled none (λ x. refl) (λ j. refl) few (marks_in c.m) hits only n
  seat = seated after (words_of c.t) c.settled none (λ x. refl) (λ j. refl) few (marks_in c.m) hits only

  beyond : (j : ℕ) → c.p.config.blocks ≤ j → owes (block_in c.t j) ≡ false
  unfolding owes
  beyond j l =
      let many = c.contents.blocks in
      let blocks = c.fronted.blocks_is in
      ap owes (get_or_past c.t.blocks j Free (omega arith))

  -- the words of v
  block_after : (j : ℕ) → block_in v j ≡ owed_word (block_in c.t j)
  block_after j = done.owes.each j ∙ ap (λ (z : Contents). owed_word (block_in z j)) done.still.0 ∙ ap (λ (z : Contents). owed_word (block_in z j)) c.marked.has.same

  used_after : (j : ℕ) → used_in v j ≡ used_in c.t j
  used_after j = ap (λ (z : Contents). used_in z j) done.owes.same ∙ ap (λ (z : Contents). used_in z j) done.still.0 ∙ ap (λ (z : Contents). used_in z j) c.marked.has.same

  marks_after : (j : ℕ) → marks_in v j ≡ marks_in c.m j
  marks_after j = ap (λ (z : Contents). marks_in z j) done.owes.same ∙ ap (λ (z : Contents). marks_in z j) done.still.0

  card_after : (k : ℕ) → slice_index v.cards k ≡ slice_index c.t.cards k
  card_after k = ap (λ (z : Contents). slice_index z.cards k) done.owes.same ∙ ap (λ (z : Contents). slice_index z.cards k) done.still.0 ∙
      ap (λ (z : Contents). slice_index z.cards k) c.marked.has.same

  pub holds : HoldsHeap c.p v c.g (booked after)
  holds = (
    space_of c v report done,
    (
      owner2 after,
      held after,
      settled_after after (words_of c.t) c.settled none (λ x. refl) (λ j. refl) few (marks_in c.m) hits only (words_of v) block_after used_after marks_after (λ x. refl) card_after,
    ),
  )

  keeps : KeepsReached c.p c.g c.b c.ambiguous c.g (booked after)
  keeps = record {
    kept = kept c.p c.t c.g c.b c.owner c.is.layout c.contents.layout c.heap c.fronted c.ambiguous c.roots c.are (now c) c.marked.exact;
    pause = pauses c.p c.t c.g c.b c.owner c.is.layout c.contents.layout c.heap c.fronted c.ambiguous c.roots c.are (now c) c.marked.exact c.quiet c.plain;
    nothing = live_nil c.p c.t c.g c.b c.owner c.is.layout c.contents.layout c.heap c.fronted c.ambiguous c.roots c.are (now c) c.marked.exact;
    stands = λ n d. live_kept c.p c.t c.g c.b c.owner c.is.layout c.contents.layout c.heap c.fronted c.ambiguous c.roots c.are (now c) c.marked.exact n d;
    stood = stood c;
  }

  some : (n : ℕ) → n ≢ 0 → 1 ≤ n
  some n d = omega arith

  sides : (n : ℕ) → n ≢ 0 → c.b.stands n ≡ true → (c.b.section n ≡ Young) ⊎ (c.b.section n ≡ Old)
  sides n d s = elim (c.heap.laid.objects.inside n (some n d) s) [ inl i ↦ inl i.0 | inr i ↦ inr i.0 ]

  -- the slots of one name are one
  once : (sort : ℕ → Type 0) (n j i k l : ℕ) → IsInSlotOf c.p c.b (block_in c.t) sort j i n → IsInSlotOf c.p c.b (block_in c.t) sort k l n → (j ≡ k) × (i ≡ l)
  once sort n j i k l x y =
      let s = seat n (some n x.some) x.stands x.old in
      let a = seat_is after (words_of c.t) c.settled none (λ x. refl) (λ j. refl) few (marks_in c.m) hits only n j x.size i s x.of x.fits x.at in
      let d = seat_is after (words_of c.t) c.settled none (λ x. refl) (λ j. refl) few (marks_in c.m) hits only n k y.size l s y.of y.fits y.at in
      (sym a.0 ∙ d.0, sym a.2 ∙ d.2)

  few_slots : (j z i : ℕ) → j < c.p.config.blocks → IsOf (block_in c.t j) z → i < slots z → i < 64
  few_slots j z i there of fits = let most = (class_slots z (c.settled.blocks.sized j z there of)).1 in omega arith

  abbrev IsKeptName : ℕ → Type 0
  IsKeptName = StandsNow (booked after)

  abbrev marked_test : ℕ → ℕ → Bool
  marked_test j = has_bit (marks_in c.m j)

  stand : AreStanding c.t.layout c.told
  stand = told_stand c.t (firsts c) c.fronted.sound c.told c.tells

  abbrev stays : List Object
  stays = marked_among (word c.m) c.told

  kept_young : (o : Object) → Contains stays o → (n : ℕ) × IsYoungOn c.b IsKeptName o n
  kept_young o i =
      let q = passed (is_marked (word c.m)) c.told o i in
      let n = told_named c o q.0 in
      (n.0, record { of_sort = (n.1.some, sym (mark_is c o n.0 n.1 n.2) ∙ q.1); stands = n.1.stands; young = n.1.young; at = n.2 })

  young_kept : (n : ℕ) → IsKeptName n → c.b.section n ≡ Young → (o : Object) × Contains stays o × (first_word o ≡ c.b.address n)
  young_kept n s y =
      let name : IsYoungName c n = record { some = s.0; stands = stood c n s.1; young = y } in
      let o = named_told c n name in
      (o.0, passes (is_marked (word c.m)) c.told o.0 o.1 (mark_is c o.0 n name o.2 ∙ s.1), o.2)

  kept_old : (j i : ℕ) → j < c.p.config.blocks → marked_test j i ≡ true → (n : ℕ) × IsInSlotOf c.p c.b (block_in c.t) IsKeptName j i n
  kept_old j i there e =
      let n = only j i (eqb-true _ _ e) in
      (n.0, record { of_sort = (n.2, n.3); stands = stood c n.0 n.3; old = n.4; some = n.2; size = n.1; of = n.5; fits = n.6; at = n.7 })

  old_kept : (n : ℕ) → IsKeptName n → c.b.section n ≡ Old → (j i : ℕ) × (j < c.p.config.blocks) × (i < 64) × (marked_test j i ≡ true) × IsInSlotOf c.p c.b (block_in c.t) IsKeptName j i n
  old_kept n s o =
      let q = seat n (some n s.0) (stood c n s.1) o in (
        q.block,
        q.slot,
        q.there,
        few_slots q.block (slot_words (c.g.size n)) q.slot q.there q.of q.fits,
        eq-eqb _ _ (hits n q.block (slot_words (c.g.size n)) q.slot s.0 s.1 o q.there q.of q.fits q.at),
        record { of_sort = s; stands = stood c n s.1; old = o; some = s.0; size = slot_words (c.g.size n); of = q.of; fits = q.fits; at = q.at },
      )

  -- the names of what is kept
  kept_names : List ℕ
  kept_names = names c.p (word c.t) c.g c.b c.owner c.heap (block_in c.t) c.t.layout IsKeptName stays (standing_passed c.t.layout (is_marked (word c.m)) c.told stand) marked_test
      (λ n s. sides n s.0 (stood c n s.1)) kept_young young_kept (λ n s. stood c n s.1) kept_old old_kept (λ n j i k l a d s t. once IsKeptName n j i k l)

  kept_are : AreNames IsKeptName kept_names
  unfolding kept_names
  kept_are = are_names c.p (word c.t) c.g c.b c.owner c.heap (block_in c.t) c.t.layout IsKeptName stays (standing_passed c.t.layout (is_marked (word c.m)) c.told stand) marked_test
      (λ n s. sides n s.0 (stood c n s.1)) kept_young young_kept (λ n s. stood c n s.1) kept_old old_kept (λ n j i k l a d s t. once IsKeptName n j i k l)

  blocks_is : c.m.layout.blocks ≡ c.p.config.blocks
  blocks_is = ap (λ l. l.blocks) (layout_is c v report done)

  kept_count : length kept_names ≡ report.kept
  unfolding kept_names
  kept_count =
      let many = how_many c.p (word c.t) c.g c.b c.owner c.heap (block_in c.t) c.t.layout IsKeptName stays (standing_passed c.t.layout (is_marked (word c.m)) c.told stand)
      marked_test (λ n s. sides n s.0 (stood c n s.1)) kept_young young_kept (λ n s. stood c n s.1) kept_old old_kept (λ n j i k l a d s t. once IsKeptName n j i k l) in
      let bits = picks_bits (λ j i. 0) (marks_in c.m) c.p.config.blocks in
      let blocks = ap (bits_in (marks_in c.m)) blocks_is in
      let told = done.kept in
      omega arith

  -- what stood and doesn't stand any more
  abbrev IsFreedName : ℕ → Type 0
  IsFreedName = IsFreed c.b (booked after)

  abbrev used_test : ℕ → ℕ → Bool
  used_test j = has_bit (used_in c.t j)

  abbrev freed_test : ℕ → ℕ → Bool
  freed_test j i = used_test j i && not (marked_test j i)

  abbrev goes : Object → Bool
  goes o = not (is_marked (word c.m) o)

  freed_young : (o : Object) → Contains (filter goes c.told) o → (n : ℕ) × IsYoungOn c.b IsFreedName o n
  freed_young o i =
      let q = passed goes c.told o i in
      let n = told_named c o q.0 in (
        n.0,
        record {
          of_sort = ((n.1.some, n.1.stands), sym (mark_is c o n.0 n.1 n.2) ∙ not_true (is_marked (word c.m) o) q.1);
          stands = n.1.stands;
          young = n.1.young;
          at = n.2;
        },
      )

  young_freed : (n : ℕ) → IsFreedName n → c.b.section n ≡ Young → (o : Object) × Contains (filter goes c.told) o × (first_word o ≡ c.b.address n)
  young_freed n s y =
      let name : IsYoungName c n = record { some = s.0.0; stands = s.0.1; young = y } in
      let o = named_told c n name in
      (o.0, passes goes c.told o.0 o.1 (ap not (mark_is c o.0 n name o.2 ∙ s.1)), o.2)

  freed_old : (j i : ℕ) → j < c.p.config.blocks → freed_test j i ≡ true → (n : ℕ) × IsInSlotOf c.p c.b (block_in c.t) IsFreedName j i n
  freed_old j i there e =
      let both = both_true (used_test j i) (not (marked_test j i)) e in
      let bit = eqb-true (bit_at (used_in c.t j) i) 1 both.0 in
      let state = swept_bit (block_in c.t j) (used_in c.t j) (marks_in c.t j) i (λ z. none j z there) (c.settled.blocks.each j there).bare bit in
      let of = of_swept (block_in c.t j) state.0 state.1 in
      let fits = c.is.fits j state.0 i there state.1 bit in
      let n = (c.settled.blocks.each j there).filled state.0 i of fits state.2 in
      let d : n.0 ≢ 0 = λ z. (let l = n.1.some in absurd (omega arith)) in (
        n.0,
        record {
          of_sort = (
            (d, n.1.standing),
            elim (cases_Bool (alive c n.0)) [
              | inl l ↦ absurd (false≢true (sym (not_true (marked_test j i) both.1) ∙ eq-eqb _ _ (hits n.0 j state.0 i d l n.1.old there of fits n.1.at)))
              | inr l ↦ l
            ],
          );
          stands = n.1.standing;
          old = n.1.old;
          some = d;
          size = state.0;
          of = of;
          fits = fits;
          at = n.1.at;
        },
      )

  old_freed : (n : ℕ) → IsFreedName n → c.b.section n ≡ Old → (j i : ℕ) × (j < c.p.config.blocks) × (i < 64) × (freed_test j i ≡ true) × IsInSlotOf c.p c.b (block_in c.t) IsFreedName j i n
  old_freed n s o =
      let q = seat n (some n s.0.0) s.0.1 o in (
        q.block,
        q.slot,
        q.there,
        few_slots q.block (slot_words (c.g.size n)) q.slot q.there q.of q.fits,
        true_both (used_test q.block q.slot) (not (marked_test q.block q.slot)) (eq-eqb _ _ q.used) (elim (cases_Bool (marked_test q.block q.slot)) [
          | inl m ↦
              (let k = only q.block q.slot (eqb-true _ _ m) in
              let size = one_size_of (block_in c.t q.block) k.1 (slot_words (c.g.size n)) k.5 q.of in
              let at : c.b.address k.0 ≡ c.b.address n = k.7 ∙ ap (λ z. slot_at c.p q.block z q.slot) size ∙ sym q.at in
              let same = c.fronted.one_owner k.0 n (c.b.address n) (ap c.owner (sym at) ∙ c.fronted.owns_first k.0 (stood c k.0 k.3)) (c.fronted.owns_first n s.0.1) in
              absurd (false≢true (sym s.1 ∙ ap (alive c) (sym same) ∙ k.3)))
          | inr m ↦ ap not m
        ]),
        record { of_sort = s; stands = s.0.1; old = o; some = s.0.0; size = slot_words (c.g.size n); of = q.of; fits = q.fits; at = q.at },
      )

  freed_names : List ℕ
  freed_names = names c.p (word c.t) c.g c.b c.owner c.heap (block_in c.t) c.t.layout IsFreedName (filter goes c.told) (standing_passed c.t.layout goes c.told stand) freed_test
      (λ n s. sides n s.0.0 s.0.1) freed_young young_freed (λ n s. s.0.1) freed_old old_freed (λ n j i k l a d s t. once IsFreedName n j i k l)

  freed_are : AreNames IsFreedName freed_names
  unfolding freed_names
  freed_are = are_names c.p (word c.t) c.g c.b c.owner c.heap (block_in c.t) c.t.layout IsFreedName (filter goes c.told) (standing_passed c.t.layout goes c.told stand) freed_test
      (λ n s. sides n s.0.0 s.0.1) freed_young young_freed (λ n s. s.0.1) freed_old old_freed (λ n j i k l a d s t. once IsFreedName n j i k l)

  -- only occupied slots are marked
  pub marks_used : (j i : ℕ) → bit_at (marks_in c.m j) i ≡ 1 → bit_at (used_in c.t j) i ≡ 1
  marks_used j i e =
      let n = only j i e in
      let q = seat n.0 (some n.0 n.2) (stood c n.0 n.3) n.4 in
      let a = seat_is after (words_of c.t) c.settled none (λ x. refl) (λ j. refl) few (marks_in c.m) hits only n.0 j n.1 i q n.5 n.6 n.7 in
      ap (bit_at (used_in c.t j)) (sym a.2) ∙ ap (λ k. bit_at (used_in c.t k) q.slot) (sym a.0) ∙ q.used

  freed_count : length freed_names ≡ report.freed
  unfolding freed_names
  freed_count =
      let many = how_many c.p (word c.t) c.g c.b c.owner c.heap (block_in c.t) c.t.layout IsFreedName (filter goes c.told) (standing_passed c.t.layout goes c.told stand)
      freed_test (λ n s. sides n s.0.0 s.0.1) freed_young young_freed (λ n s. s.0.1) freed_old old_freed (λ n j i k l a d s t. once IsFreedName n j i k l) in
      let marked = picks_bits (λ j i. 0) (marks_in c.m) c.p.config.blocks in
      let used = picks_bits (λ j i. 0) (used_in c.t) c.p.config.blocks in
      let rest = picks_rest (λ j i. 0) used_test marked_test c.p.config.blocks (λ j i e. eq-eqb _ _ (marks_used j i (eqb-true _ _ e))) in
      let both = length-filter_both (is_marked (word c.m)) goes (λ o. refl) c.told in
      let blocks = ap (bits_in (marks_in c.m)) blocks_is in
      let blocks_used : bits_in (used_in c.m) c.m.layout.blocks ≡ bits_in (used_in c.t) c.p.config.blocks =
      ap (bits_in (used_in c.m)) blocks_is ∙ ap (λ (z : Contents). bits_in (used_in z) c.p.config.blocks) c.marked.has.same in
      let told = done.kept in
      let all = done.freed in
      omega arith

  tells : TellsCounts c.b (booked after) report
  tells = record { kept = (kept_names, kept_are, kept_count); freed = (freed_names, freed_are, freed_count) }

  pub collected : HasCollected c.p c.g c.b c.ambiguous v report
  collected = record {
    book = booked after;
    pause = record {
      keeps = keeps;
      stays = record { address = λ n. refl; section = λ n. refl };
      tells = tells;
      owes = record {
        used = used_blocks after (words_of c.t) c.settled none (λ x. refl) (λ j. refl) few (marks_in c.m) hits only;
        beyond = beyond;
      };
      tiled = tiled after;
      emptied = λ k. (refl, refl);
      sound = sound_book after (words_of c.t) c.settled none (λ x. refl) (λ j. refl) few (marks_in c.m) hits only;
    };
    heap = holds;
  }
