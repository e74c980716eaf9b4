-- The claim of a slot gives a new old object its place.
use Rattle.std.proofs.Common.{◌≡◌, ◌≢◌, ℕ, suc, ◌+◌, ◌^◌, ◌<◌, ◌≤◌, subst, Bool, true, sym, refl, ap, ◌∙◌, arith, inl, inr, le_refl}
use Rattle.std.proofs.lemmas.Bool.{cases_eq}
use Rattle.std.specs.Int.{bit_at}
use Rattle.std.specs.Int.Bits.{bit_or}
use Rattle.sg_words.specs.Blocks.{IsOf, is_taken, IsOwing, slots}
use Rattle.sg_words.specs.Words.{put, Words}
use Rattle.sg_words.specs.declared.steps.BlockWord.TheVariants.{Swept}
use Rattle.sg_words.proofs.Blocks.{slot_fits, slot_in}
use Rattle.sg_words.proofs.Puts.{put-at, put-other, within_range, range-in, range-keeps}
use Rattle.sg_program.specs.declared.program.Program.{Program}
use Rattle.sg_program.specs.Scripts.{words_for}
use Rattle.sg_graph.specs.Graph.{Graph}
use Rattle.sg_graph.specs.Book.{Book, Section, Old, nursery_end, old_end, slot_words, slot_at, IsSlotted, placed_in}
use Rattle.sg_graph.specs.Heap.{Owner, Of, Frag, Buf}
use Rattle.sg_graph.specs.Blocks.{AreBlocks}
use Rattle.sg_graph.specs.Laws.{IsOldNow, BlocksGo}
use Rattle.sg_rules.specs.Rules.{Constants, AreTaken}
use Rattle.sg_order.proofs.Events.{range-was}
use Rattle.sg_order.proofs.Relation.{Ground}
use Rattle.sg_order.proofs.BlockGround.{same_size, in_size, in_slot}
use Rattle.sg_order.proofs.Places.{Place}

module _ (p : Program) (lay : Constants) (w : Words) (g : Graph) (b : Book) (k : ℕ) (owner : ℕ → Owner) (t : Ground p lay w g b owner)
    (j i n z : ℕ) (there : j < p.config.blocks) (e : w.block j ≡ Swept z) (f : i < slots z) (none : bit_at (w.used j) i ≡ 0)
    (ez : slot_words n ≡ z) (fit : words_for n ≤ z) where
  abbrev pub x : ℕ
  x = slot_at p j z i

  abbrev pub new : ℕ
  new = suc g.count

  abbrev pub owner' : ℕ → Owner
  owner' = within_range owner x (x + (n + 2)) (Of new)

  of_block : IsOf (w.block j) z
  of_block = subst (λ state. IsOf state z) (sym e) refl

  -- no object has a word in the slot
  untaken : (m y : ℕ) → 1 ≤ m → b.stands m ≡ true → b.address m ≤ y → y < b.address m + words_for (g.size m) → x ≤ y → y < x + z → ⊥
  untaken m y l q lo hi a r =
      let h = in_slot p lay w g b owner t j z i m y f of_block a r l q lo hi in
      let u : bit_at (w.used j) i ≡ 1 = subst (λ state. is_taken state (w.used j) (lay.marks j) i ≡ 1) e h.1 in
      absurd (omega arith)

  free : (y : ℕ) → x ≤ y → y < x + z → (o : ℕ) → owner y ≢ Of o
  free y a r o q =
      let h = t.laid.objects.owned o y q in
      elim (cases_eq o 0) [
        | inl u ↦ absurd (let c = ap b.address u ∙ t.laid.nothing.at_nil in let d = ap g.size u ∙ t.laid.nothing.no_size in
            let lo = h.1 in let hi = h.2 in omega arith)
        | inr some ↦ untaken o y (omega arith) h.0 h.1 h.2 a r
      ]

  pub in_major : (nursery_end p ≤ x) × (x + (n + 2) ≤ old_end p)
  in_major = let u = slot_fits z i f in (omega arith, omega arith)

  pub place : Place p g b k (n + 2) x b.next b.from b.to owner owner'
  place = record {
    free = λ y a r o q. free y a (omega arith) o q;
    new = λ y a r. range-in owner x (x + (n + 2)) (Of new) y a r;
    old = λ o y q. range-keeps owner x (x + (n + 2)) (Of new) (Of o) y q (λ a r. absurd (free y a (omega arith) o q));
    only = λ o y q. elim (range-was owner x (x + (n + 2)) (Of new) (Of o) y q) [
      | inl h ↦ inl ((let q : Of o ≡ Of new = h.0 in cc), h.1, h.2)
      | inr q ↦ inr q
    ];
    buffers = λ c y a r.
        let q = t.laid.buffers.owns c y a r in
        let top = (t.laid.buffers.inside c (omega arith)).1 in
        range-keeps owner x (x + (n + 2)) (Of new) (Buf c) y q (λ u v. absurd (let s = in_major.0 in omega arith));
    frags = λ c y l a r.
        let q = t.laid.fragments.owns c y l a r in
        let top = (t.laid.fragments.inside c l).2 in
        range-keeps owner x (x + (n + 2)) (Of new) (Frag c) y q (λ u v. absurd (let s = in_major.0 in omega arith));
    in_buffers = t.laid.buffers.inside;
    within = λ c l. (t.laid.fragments.inside c l).1;
    rises = λ c. le_refl _;
    other_from = λ c o. refl;
    other_to = λ c o. refl;
  }

  pub zero_there : (y : ℕ) → x ≤ y → y < x + (n + 2) → w.word y ≡ 0
  zero_there y a r =
      let h = slot_in (nursery_end p) j z i y f a (omega arith) in
      t.blocks.clear j there y h.0 h.1 (free y a (omega arith)) (λ d. subst (λ state. IsOwing state d.size) e d.owing)

  abbrev size' : ℕ → ℕ
  size' = put g.size new n

  abbrev stands' : ℕ → Bool
  stands' = put b.stands new true

  abbrev address' : ℕ → ℕ
  address' = put b.address new x

  abbrev section' : ℕ → Section
  section' = put b.section new Old

  old_now : IsOldNow g.size size' b.stands stands' b.address address' b.section section' new x z
  old_now = record {
    here = record {
      some = omega arith;
      standing = put-at b.stands new true new refl;
      old = put-at b.section new Old new refl;
      at = put-at b.address new x new refl;
      sized = ap slot_words (put-at g.size new n new refl) ∙ ez;
    };
    new = λ q o. let l = t.laid.objects.given new q in absurd (omega arith);
    others = λ m d o. record {
      same_size = put-other g.size new n m d;
      same_stands = put-other b.stands new true m d;
      same_address = put-other b.address new x m d;
      same_section = put-other b.section new Old m d;
    };
  }

  pub blocks_claim : BlocksGo → AreBlocks p lay.marks w.block (put w.used j (bit_or (w.used j) (2 ^ i))) w.word size' stands' address' section' b.owed owner'
  blocks_claim go = go.slot_gets p lay.marks w.used w.word w.word g.size size' b.address address' w.block b.stands stands' b.owed b.section section'
      owner owner' new j z i t.blocks there e f none old_now (λ c y l a q no. (refl, λ o h. no o (place.old o y h)))

  -- the place that the book says
  pub slotted : AreTaken (w.used j) i → IsSlotted p g b z new (placed_in b Old new x)
  slotted below = record {
    block = j;
    slot = i;
    open_slot = record {
      there = there;
      fits = f;
      size = λ m q.
          let h = t.blocks.placed m q.some q.stands q.old in
          let a = h.2.address in
          let u = slot_fits (slot_words (g.size m)) h.2.slot h.2.fits in
          let v = in_size p lay w g b owner t m q.some q.stands in
          let lo = q.above in
          let hi = q.below in
          let c : h.0 ≡ j = omega arith in
          same_size (w.block j) (slot_words (g.size m)) z (subst (λ c. IsOf (w.block c) (slot_words (g.size m))) c h.2.of) of_block;
      empty = λ m y q a r. untaken m y q.some q.stands q.above q.below a r;
      lowest = λ m l.
          let o = (t.blocks.each j there).filled z m of_block (omega arith)
          (subst (λ state. is_taken state (w.used j) (lay.marks j) m ≡ 1) (sym e) (below m l)) in (
            o.0,
            record {
              some = o.1.some;
              stands = o.1.standing;
              old = o.1.old;
              sized = o.1.sized;
              there = there;
              fits = let q : m < slots z = omega arith in q;
              at = o.1.at;
            },
          );
    };
    after = refl;
  }
