-- After a pause blocks and cards are settled.
use Rattle.std.proofs.Common.{◌≡◌, ◌≢◌, ℕ, ◌+◌, ◌<◌, ◌≤◌, inl, inr, true, refl, sym, ap, ◌∙◌, subst, arith, ◌⊎◌}
use Rattle.std.specs.Int.{bit_at}
use Rattle.std.proofs.lemmas.Bool.{false≢true}
use Rattle.sg_words.specs.Address.{byte_at}
use Rattle.sg_words.specs.Blocks.{IsSizeClass, IsOf, IsOwing, is_taken, card_of}
use Rattle.sg_words.specs.Words.{Words}
use Rattle.sg_words.specs.declared.steps.BlockWord.{BlockWord}
use Rattle.sg_words.specs.declared.steps.BlockWord.TheVariants.{Free, Swept, Sweeping}
use Rattle.sg_desc.specs.Shapes.{is_strong as is_strong_by}
use Rattle.sg_program.specs.Scripts.{kind_of}
use Rattle.sg_graph.specs.Book.{Young, Old, nursery_end, old_end, slot_words, word_of, IsWordOf}
use Rattle.sg_graph.specs.Blocks.{IsClear, AreBlocks, AreSettled}
use Rattle.sg_graph.specs.Heap.{Of, layout_of}
use Rattle.sg_round.specs.Area.{IsYoung}
use Rattle.sg_heap.specs.Holding.{OwesNothing}
use Rattle.sg_minor.specs.Joined.{IsOldField, OfOld, OfCopy, IsUncopied}
use Rattle.sg_minor.proofs.Mirrors.{AreBlocksBy}
use Rattle.sg_minor.proofs.Names.{some-name, name-some, size-is, strong-of}
use Rattle.sg_minor.proofs.After.{Ended, lies, names, stood, stands_on, stands-kept, address_of, section_of, booked, at-sent, old-still, Place, Stayed, Moved, Older, place, owner3, owns, copied-owner}
use Rattle.sg_minor.proofs.Holds.{fields-hold, target-stands}

no-of : (state : BlockWord) (z : ℕ) → state ≡ Free → IsOf state z → ⊥
no-of state z e h = subst (λ (w : BlockWord). IsOf w z) e h

swept-of : (state : BlockWord) (y z : ℕ) → state ≡ Swept y → IsOf state z → y ≡ z
swept-of state y z e h = subst (λ (w : BlockWord). IsOf w z) e h

no-owing : (state : BlockWord) (z : ℕ) → (state ≡ Free) ⊎ ((y : ℕ) × IsSizeClass y × (state ≡ Swept y)) → IsOwing state z → ⊥
no-owing state z (inl e) h = subst (λ (w : BlockWord). IsOwing w z) e h
no-owing state z (inr q) h = subst (λ (w : BlockWord). IsOwing w z) q.2 h

of-class : (state : BlockWord) (z : ℕ) → (state ≡ Free) ⊎ ((y : ℕ) × IsSizeClass y × (state ≡ Swept y)) → IsOf state z → IsSizeClass z
of-class state z (inl e) h = absurd (no-of state z e h)
of-class state z (inr q) h = subst IsSizeClass (swept-of state q.0 z q.2 h) q.1

of-swept : (state : BlockWord) (z : ℕ) → (state ≡ Free) ⊎ ((y : ℕ) × IsSizeClass y × (state ≡ Swept y)) → IsOf state z → state ≡ Swept z
of-swept state z (inl e) h = absurd (no-of state z e h)
of-swept state z (inr q) h = q.2 ∙ ap Swept (swept-of state q.0 z q.2 h)

not-sweeping : (state : BlockWord) (z : ℕ) → (state ≡ Free) ⊎ ((y : ℕ) × IsSizeClass y × (state ≡ Swept y)) → state ≡ Sweeping z → ⊥
not-sweeping state z (inl e) h = let k : Free ≡ Sweeping z = sym e ∙ h in cc
not-sweeping state z (inr q) h = let k : Swept q.0 ≡ Sweeping z = sym q.2 ∙ h in cc

-- free blocks have no mark, and swept ones on occupied slots alone
pub record AreMarked (blocks : ℕ) (w : Words) : Type 0 where
  pub unmarked : (j : ℕ) → j < blocks → w.block j ≡ Free → w.marks j ≡ 0
  pub within : (j z i : ℕ) → j < blocks → w.block j ≡ Swept z → bit_at (w.marks j) i ≡ 1 → bit_at (w.used j) i ≡ 1

module _ (c : Ended) (w : Words) (is : (x : ℕ) → w.word x ≡ c.v x) (by : AreBlocksBy c.p c.g (booked c) w.block w.used)
    (clear : (x : ℕ) → nursery_end c.p ≤ x → x < old_end c.p → ((n : ℕ) → c.owner x ≢ Of n) → c.w x ≡ 0) (marked : AreMarked c.p.config.blocks w) where
  -- an object that had a word of the major heap has it still
  old-word : (n x : ℕ) → nursery_end c.p ≤ x → IsWordOf c.g c.b n x → owner3 c x ≡ Of n
  old-word n x l o = elim (lies c n o.stands (name-some n o.some)) [
    | inl i ↦ absurd (let below = i.below in let to = o.below in omega arith)
    | inr i ↦
        let still = (old-still c n i.old).address in
        let from = o.above in
        let to = o.below in
        owns c n x (stands-kept c n o.stands (λ y. absurd (i.old y))) (omega arith) (omega arith)
  ]

  uncopied : (x : ℕ) → ((n : ℕ) → owner3 c x ≢ Of n) → IsUncopied c.w c.moves c.m x
  uncopied x none a i h l e =
      let k = names c a (inr h) in
      none k.name (copied-owner c a x k.name h (omega arith, omega arith) k.stands k.at)

  is-clear : (j : ℕ) → j < c.p.config.blocks → IsClear c.p (w.marks j) w.word (owner3 c) j (w.block j)
  is-clear j there x from to none dirty =
      is x ∙ c.picture.same x (omega arith) (λ k l e. omega arith) (λ n o. none n (old-word n x (omega arith) o)) (uncopied x none)
      ∙ clear x (omega arith) (omega arith) (λ n e.
      let o = c.heap.laid.objects.owned n x e in
      let some : n ≢ 0 = λ z. (let nil = ap c.b.address z ∙ c.heap.laid.nothing.at_nil in let size = ap c.g.size z ∙ c.heap.laid.nothing.no_size in let end =
      o.2 in absurd (omega arith)) in
      none n (old-word n x (omega arith) (record { some = some-name n some; stands = o.0; above = o.1; below = o.2 })))

  are-blocks : AreBlocks c.p w.marks w.block w.used w.word c.g.size (stands_on c) (address_of c) (section_of c) c.b.owed (owner3 c)
  are-blocks = record {
    placed = λ n l s o.
        let q = by.seated n l s o in (
          q.block,
          q.seat.there,
          record {
            slot = q.slot;
            fits = q.seat.fits;
            address = q.seat.at;
            of = subst (λ (b : BlockWord). IsOf b (slot_words (c.g.size n))) (sym q.state) refl;
            taken = ap (λ (b : BlockWord). is_taken b (w.used q.block) (w.marks q.block) q.slot) q.state ∙ q.bit;
          },
        );
    each = λ j there. record {
      filled = λ z i of l taken.
          let state = of-swept (w.block j) z (by.states j there) of in
          let n = by.filled j z i there state (ap (λ (b : BlockWord). is_taken b (w.used j) (w.marks j) i) (sym state) ∙ taken) in
          (n.0, record { some = n.1.some; standing = n.1.stands; old = n.1.old; at = n.1.at; sized = n.1.sized });
      bare = by.bare j there;
      owing = λ z h. absurd (no-owing (w.block j) z (by.states j there) h);
      kept = λ z i h set. absurd (no-owing (w.block j) z (by.states j there) h);
      unmarked = marked.unmarked j there;
      within = λ z e i set. marked.within j z i there e set;
    };
    clear = is-clear;
    sized = λ j z there of. of-class (w.block j) z (by.states j there) of;
  }

  -- a strong field of an old object
  old-field : (n i : ℕ) → 1 ≤ n → stands_on c n ≡ true → section_of c n ≡ Old → i < c.g.size n → is_strong_by (kind_of c.p (c.g.class n)) i (c.g.size n) ≡
      true →
      Place c n → IsOldField c.p c.area c.w c.g c.b c.moves c.m (address_of c n + 2 + i)
  old-field n i l s o within strong (Stayed inside h q e) = absurd (let z : Young ≡ Old = sym q ∙ o in cc)
  old-field n i l s o within strong (Moved inside h q from to) =
      let here = stood c n s in
      let d = name-some n l in
      let size = size-is c.p c.area c.tie c.w c.g c.b c.ambiguous c.owner c.heap n d here in
      OfCopy (c.b.address n) i h (omega arith) (strong-of c.p c.area c.tie c.w c.g c.b c.ambiguous c.owner c.heap n i here d ∙ strong)
      (ap (λ (z : ℕ). z + 2 + i) (at-sent c n here))
  old-field n i l s o within strong (Older old q e) = OfOld n i (name-some n l) (stood c n s) old.section within strong (ap (λ (z : ℕ). z + 2 + i) e)

  young-at : (n : ℕ) → section_of c n ≡ Young → Place c n → IsYoung c.area (address_of c n)
  young-at n y (Stayed inside h q e) = subst (IsYoung c.area) (sym e) inside.young
  young-at n y (Moved inside h q from to) = absurd (let z : Young ≡ Old = sym y ∙ q in cc)
  young-at n y (Older old q e) = absurd (let z : Young ≡ Old = sym y ∙ q in cc)

  module _ (carded : (x y : ℕ) → IsOldField c.p c.area c.w c.g c.b c.moves c.m x → c.v x ≡ byte_at y → IsYoung c.area y → w.card (card_of (layout_of c.p) x) ≡
      1)
      (owes : OwesNothing c.p c.b) where
    pub is-settled : AreSettled c.p w c.g (booked c) (owner3 c)
    is-settled = record {
      blocks = are-blocks;
      settled = λ j z there e. not-sweeping (w.block j) z (by.states j there) e;
      inhabited = λ j z there e.
          let n = by.inhabited j z there e in
          (n.0, n.1.some, n.1.stands, n.1.above, n.1.below);
      owes = λ j there e. absurd (false≢true (sym (owes j there) ∙ e));
      cards = record {
        dirty = λ n i m l s o within strong ref some young.
            let stands = target-stands c n i m s within ref in
            carded (address_of c n + 2 + i) (address_of c m) (old-field n i l s o within strong (place c n (name-some n l) s))
            (fields-hold c n i s within ∙ ap (word_of (address_of c)) ref)
            (young-at m young (place c m (name-some m some) stands));
      };
    }
