-- The blocks of a space that holds a graph by a book, and the words of its major heap that are no object's.
use Rattle.std.proofs.Common.{◌≡◌, ◌≢◌, ℕ, ◌-◌, ◌/◌, ◌<◌, ◌≤◌, ◌⊎◌, inl, inr, cond, leb, ltb, Bool, true, false, refl, sym, ap, ◌∙◌, subst, arith}
use Rattle.std.specs.Int.{bit_at}
use Rattle.std.proofs.lemmas.Bool.{cases_Bool, cond-true, cond-false, le-leb, lt-ltb, leb-true, ltb-true, false≢true}
use Rattle.sg_words.specs.Blocks.{IsSizeClass, IsOf, IsOwing, is_taken}
use Rattle.sg_words.specs.declared.steps.BlockWord.{BlockWord}
use Rattle.sg_words.specs.declared.steps.BlockWord.TheVariants.{Free, Swept, Need, Sweeping}
use Rattle.sg_words.proofs.Blocks.{slot_fits}
use Rattle.sg_program.specs.declared.program.Program.{Program}
use Rattle.sg_graph.specs.Graph.{Graph}
use Rattle.sg_graph.specs.Book.{Book, nursery_end, old_end, slot_words}
use Rattle.sg_graph.specs.Blocks.{AreSettled}
use Rattle.sg_graph.specs.Heap.{Owner, Of, Frag, Buf, Nobody, IsHeap}
use Rattle.sg_space.specs.Space.{Contents, words_of}
use Rattle.sg_space.specs.Standing.{word, block_in, used_in, marks_in}
use Rattle.sg_round.specs.Round.{AreZoned}
use Rattle.sg_heap.specs.Fronts.{IsFronted}
use Rattle.sg_heap.specs.Holding.{IsSpaceOf, OwesNothing}
use Rattle.sg_minor.proofs.Areas.{area_for}
use Rattle.sg_minor.proofs.Mirrors.{AreBlocksBy, clear_empty}

-- whether a word with this owner is no object's
is_free : Owner → Bool
is_free (Of n) = false
is_free (Frag f) = true
is_free (Buf k) = true
is_free Nobody = true

free-not : (o : Owner) (n : ℕ) → is_free o ≡ true → o ≢ Of n
unfolding is_free
free-not (Of m) n e k = absurd (false≢true e)
free-not (Frag f) n e k = let z = k in cc
free-not (Buf f) n e k = let z = k in cc
free-not Nobody n e k = let z = k in cc

not-free : (o : Owner) → ((n : ℕ) → o ≢ Of n) → is_free o ≡ true
unfolding is_free
not-free (Of m) f = absurd (f m refl)
not-free (Frag f) g = refl
not-free (Buf f) g = refl
not-free Nobody g = refl

-- which words these are: of the blocks, zero, and no object's
pub record IsZone (p : Program) (w : ℕ → ℕ) (owner : ℕ → Owner) (zone : ℕ → Bool) : Type 0 where
  pub above : (y : ℕ) → zone y ≡ true → nursery_end p ≤ y
  pub below : (y : ℕ) → zone y ≡ true → y < old_end p
  pub zero : (y : ℕ) → zone y ≡ true → w y ≡ 0
  pub free : (y n : ℕ) → zone y ≡ true → owner y ≢ Of n

pub zone_in : Program → (ℕ → Owner) → ℕ → Bool
zone_in p owner y = cond (leb (nursery_end p) y) (cond (ltb y (old_end p)) (is_free (owner y)) false) false

zone_is : (p : Program) (owner : ℕ → Owner) (y : ℕ) → zone_in p owner y ≡ true → (nursery_end p ≤ y) × (y < old_end p) × (is_free (owner y) ≡ true)
unfolding zone_in
zone_is p owner y e = elim (cases_Bool (leb (nursery_end p) y)) [
  | inr low ↦ absurd (false≢true (sym (cond-false _ (cond (ltb y (old_end p)) (is_free (owner y)) false) false low) ∙ e))
  | inl up ↦ (let e1 : cond (ltb y (old_end p)) (is_free (owner y)) false ≡ true = sym (cond-true _ _ _ up) ∙ e in
      elim (cases_Bool (ltb y (old_end p))) [
        | inr high ↦ absurd (false≢true (sym (cond-false _ (is_free (owner y)) false high) ∙ e1))
        | inl down ↦ (leb-true (nursery_end p) y up, ltb-true y (old_end p) down, sym (cond-true _ _ _ down) ∙ e1)
      ])
]

is_zone : (p : Program) (owner : ℕ → Owner) (y : ℕ) → nursery_end p ≤ y → y < old_end p → is_free (owner y) ≡ true → zone_in p owner y ≡ true
unfolding zone_in
is_zone p owner y from to e = cond-true _ _ _ (le-leb (nursery_end p) y from) ∙ cond-true _ _ _ (lt-ltb y (old_end p) to) ∙ e

swept_of : (state : BlockWord) (z : ℕ) → IsOf state z → ((y : ℕ) → state ≢ Need y) → ((y : ℕ) → state ≢ Sweeping y) → state ≡ Swept z
swept_of Free z h need sweeping = absurd h
swept_of (Swept y) z h need sweeping = ap Swept h
swept_of (Need y) z h need sweeping = absurd (need y refl)
swept_of (Sweeping y) z h need sweeping = absurd (sweeping y refl)

states_of : (state : BlockWord) → ((y : ℕ) → state ≢ Need y) → ((y : ℕ) → state ≢ Sweeping y) → ((z : ℕ) → IsOf state z → IsSizeClass z) →
    (state ≡ Free) ⊎ ((z : ℕ) × IsSizeClass z × (state ≡ Swept z))
states_of Free need sweeping sized = inl refl
states_of (Swept y) need sweeping sized = inr (y, sized y refl, refl)
states_of (Need y) need sweeping sized = absurd (need y refl)
states_of (Sweeping y) need sweeping sized = absurd (sweeping y refl)

module _ (p : Program) (s : Contents) (g : Graph) (b : Book) (is : IsSpaceOf p s b) (owner : ℕ → Owner) (heap : IsHeap p (word s) g b owner)
    (front : IsFronted p s g b owner) (settled : AreSettled p (words_of s) g b owner) (owes : OwesNothing p b) where
  not_owing : (c z : ℕ) → c < p.config.blocks → IsOwing (block_in s c) z → ⊥
  not_owing c z there owing = false≢true (sym (owes c there) ∙ (settled.blocks.each c there).owing z owing)

  not_need : (c y : ℕ) → c < p.config.blocks → block_in s c ≢ Need y
  not_need c y there e = not_owing c y there (subst (λ (w : BlockWord). IsOwing w y) (sym e) refl)

  not_sweeping : (c y : ℕ) → c < p.config.blocks → block_in s c ≢ Sweeping y
  not_sweeping c y there e = settled.settled c y there e

  swept : (c z : ℕ) → c < p.config.blocks → IsOf (block_in s c) z → block_in s c ≡ Swept z
  swept c z there of = swept_of (block_in s c) z of (λ y. not_need c y there) (λ y. not_sweeping c y there)

  bit_of : (c z i : ℕ) → block_in s c ≡ Swept z → is_taken (block_in s c) (used_in s c) (marks_in s c) i ≡ bit_at (used_in s c) i
  bit_of c z i e = ap (λ (w : BlockWord). is_taken w (used_in s c) (marks_in s c) i) e

  pub blocks_by : AreBlocksBy p g b (block_in s) (used_in s)
  blocks_by = record {
    seated = λ n l stands old.
        let q = settled.blocks.placed n l stands old in
        let state = swept q.0 (slot_words (g.size n)) q.1 q.2.of in
        record {
          block = q.0;
          slot = q.2.slot;
          seat = record { some = l; stands = stands; old = old; sized = refl; there = q.1; fits = q.2.fits; at = q.2.address };
          state = state;
          bit = sym (bit_of q.0 (slot_words (g.size n)) q.2.slot state) ∙ q.2.taken;
        };
    filled = λ c z i there state set.
        let fits = is.fits c z i there state set in
        let n = (settled.blocks.each c there).filled z i (subst (λ (w : BlockWord). IsOf w z) (sym state) refl) fits (bit_of c z i state ∙ set) in
        (n.0, record { some = n.1.some; stands = n.1.standing; old = n.1.old; sized = n.1.sized; there = there; fits = fits; at = n.1.at });
    states = λ c there. states_of (block_in s c) (λ y. not_need c y there) (λ y. not_sweeping c y there) (λ z of. settled.blocks.sized c z there of);
    bare = λ c there e. (settled.blocks.each c there).bare e;
    inhabited = λ c z there e.
        let n = settled.inhabited c z there e in
        let some : n.0 ≢ 0 = λ k. (let l = n.1 in absurd (omega arith)) in (
          n.0,
          record {
            some = n.1;
            stands = n.2;
            old = front.old_there n.0 some n.2 (let low = n.3 in omega arith);
            above = n.3;
            below = n.4;
          },
        );
    small = λ n l stands. let few = front.few_fields n (λ k. absurd (omega arith)) stands in omega arith;
    others = λ n l stands. elim (heap.laid.objects.inside n l stands) [
      | inl young ↦ inr young.2
      | inr old ↦ inl old.0
    ];
  }

  -- a word of the blocks that is no object's is zero
  pub clear_heap : (y : ℕ) → nursery_end p ≤ y → y < old_end p → ((n : ℕ) → owner y ≢ Of n) → word s y ≡ 0
  clear_heap y from to none =
      let c = (y - nursery_end p) / 256 in
      settled.blocks.clear c (omega arith) y (omega arith) (omega arith) none (λ d. not_owing c d.size (omega arith) d.owing)

  pub zone_zero : IsZone p (word s) owner (zone_in p owner)
  zone_zero = record {
    above = λ y e. (zone_is p owner y e).0;
    below = λ y e. (zone_is p owner y e).1;
    zero = λ y e.
        let q = zone_is p owner y e in
        clear_heap y q.0 q.1 (λ n. free-not (owner y) n q.2);
    free = λ y n e. free-not (owner y) n (zone_is p owner y e).2;
  }

  pub zoned : AreZoned (area_for p) (block_in s) (used_in s) (zone_in p owner)
  zoned = record {
    clear = λ c z i y inner clear.
        let there = inner.0 in
        let fit = slot_fits z i inner.1 in
        let from = inner.2 in
        let to = inner.3 in
        is_zone p owner y (omega arith) (omega arith) (not-free (owner y) (λ n e.
        let o = front.owned n y e in
        let some : n ≢ 0 = λ k. (let nil = ap b.address k ∙ heap.laid.nothing.at_nil in let none = ap g.size k ∙ heap.laid.nothing.no_size in let end = o.2 in
        absurd (omega arith)) in
        clear_empty p g b (block_in s) (used_in s) blocks_by c z i inner.1 clear n y
        (record { some = omega (arith, some); stands = o.0; above = o.1; below = o.2 }) from to));
    bare = λ c there e. (settled.blocks.each c there).bare e;
  }
