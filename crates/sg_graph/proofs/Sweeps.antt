-- The blocks after all that were to be swept were swept.
use Rattle.std.proofs.Common.{◌≡◌, ◌≢◌, ℕ, ◌+◌, ◌<◌, ◌≤◌, Bool, true, false, sym, ap, ◌∙◌, refl, subst, inl, inr, arith, le_refl}
use Rattle.std.proofs.lemmas.Bool.{cases_eq}
use Rattle.std.proofs.lemmas.Nat.Bits.{bit_at-zero}
use Rattle.std.specs.Int.{bit_at}
use Rattle.sg_words.specs.Blocks.{IsOf, IsSizeClass}
use Rattle.sg_words.specs.Sweeps.{swept_word, swept_used}
use Rattle.sg_words.specs.declared.steps.BlockWord.{BlockWord}
use Rattle.sg_words.specs.declared.steps.BlockWord.TheVariants.{Free, Swept, Need, Sweeping}
use Rattle.sg_words.proofs.Blocks.{slot_fits, class_bounds}
use Rattle.sg_words.proofs.Sweeps.{by_marks, swept-of, some_bit}
use Rattle.sg_program.specs.declared.program.Program.{Program}
use Rattle.sg_graph.specs.Book.{Section, block_at, slot_words}
use Rattle.sg_graph.specs.Heap.{Owner}
use Rattle.sg_graph.specs.Blocks.{IsTakenAt, IsBlock, IsClear, AreBlocks}
use Rattle.sg_graph.specs.Swept.{AreSwept, AreAtRest, AreInhabited}
use Rattle.sg_graph.specs.Laws.{BlocksAreSwept}

-- a block that isn't being swept is neither to be swept nor being swept after it
swept-rests : (w : BlockWord) (m z : ℕ) → ((s : ℕ) → w ≡ Sweeping s → ⊥) → swept_word w m ≡ Sweeping z → ⊥
swept-rests Free m z rest e = rest z e
swept-rests (Swept y) m z rest e = rest z e
swept-rests (Need y) m z rest e = by_marks (λ w. w ≡ Sweeping z → ⊥) y m (λ q f. cc) (λ n f. cc) e
swept-rests (Sweeping y) m z rest e = rest z e

module _ (p : Program) (m : ℕ) (size : ℕ → ℕ) (stands : ℕ → Bool) (address : ℕ → ℕ) (section : ℕ → Section) (owed : ℕ → Bool) (c : ℕ) where
  abbrev Before : BlockWord → ℕ → Type 0
  Before w u = IsBlock p m size stands address section owed c w u

  abbrev After : BlockWord → ℕ → Type 0
  After w u = IsBlock p m size stands address section (λ _. false) c w u

  block_swept : (w : BlockWord) (u : ℕ) → ((s : ℕ) → w ≡ Sweeping s → ⊥) → Before w u → After (swept_word w m) (swept_used w u m)
  block_swept Free u rest o = record {
    filled = λ s i q. absurd q;
    bare = o.bare;
    owing = λ s q. absurd q;
    kept = λ s i q. absurd q;
    unmarked = o.unmarked;
    within = o.within;
  }
  block_swept (Swept z) u rest o = record {
    filled = o.filled;
    bare = o.bare;
    owing = λ s q. absurd q;
    kept = λ s i q. absurd q;
    unmarked = o.unmarked;
    within = o.within;
  }
  block_swept (Need z) u rest o = by_marks (λ w. After w m) z m
      (λ e. record {
        filled = λ s i q. absurd q;
        bare = λ q. e;
        owing = λ s q. absurd q;
        kept = λ s i q. absurd q;
        unmarked = λ q. e;
        within = λ s q i b. b;
      })
      (λ n. record {
        filled = o.filled;
        bare = λ q. cc;
        owing = λ s q. absurd q;
        kept = λ s i q. absurd q;
        unmarked = λ q. cc;
        within = λ s q i b. b;
      })
  block_swept (Sweeping z) u rest o = absurd (rest z refl)

  taken_swept : (x s : ℕ) (w : BlockWord) (u : ℕ) → ((s : ℕ) → w ≡ Sweeping s → ⊥) → IsTakenAt p m x s c w u →
      IsTakenAt p m x s c (swept_word w m) (swept_used w u m)
  taken_swept x s Free u rest o = absurd o.of
  taken_swept x s (Swept z) u rest o = o
  taken_swept x s (Need z) u rest o = by_marks (λ w. IsTakenAt p m x s c w m) z m
      (λ e. absurd (let bit = ap (λ bits. bit_at bits o.slot) e ∙ bit_at-zero o.slot in let taken : bit_at m o.slot ≡ 1 = o.taken in omega arith))
      (λ n. record { slot = o.slot; fits = o.fits; address = o.address; of = o.of; taken = o.taken })
  taken_swept x s (Sweeping z) u rest o = absurd (rest z refl)

  -- an object stands in it, if one did before where it was swept
  inhabited_swept : (w : BlockWord) (u z : ℕ) → ((s : ℕ) → w ≡ Sweeping s → ⊥) → Before w u → ((s : ℕ) → IsOf w s → IsSizeClass s) →
      ((s : ℕ) → w ≡ Swept s → (n : ℕ) × (1 ≤ n) × (stands n ≡ true) × (block_at p c ≤ address n) × (address n < block_at p c + 256)) →
      swept_word w m ≡ Swept z → (n : ℕ) × (1 ≤ n) × (stands n ≡ true) × (block_at p c ≤ address n) × (address n < block_at p c + 256)
  inhabited_swept Free u z rest o sized there e = there z e
  inhabited_swept (Swept y) u z rest o sized there e = there z e
  inhabited_swept (Need y) u z rest o sized there e =
      by_marks (λ w. w ≡ Swept z → (n : ℕ) × (1 ≤ n) × (stands n ≡ true) × (block_at p c ≤ address n) × (address n < block_at p c + 256)) y m
      (λ q f. absurd (cc)) (λ n f. here n) e
    where
      here : m ≢ 0 → (n : ℕ) × (1 ≤ n) × (stands n ≡ true) × (block_at p c ≤ address n) × (address n < block_at p c + 256)
      here n =
          let bit = some_bit m m (le_refl m) n in
          let fits = (o.kept y bit.0 refl bit.1).0 in
          let old = o.filled y bit.0 refl fits bit.1 in
          let at = old.1.at in
          let ends = slot_fits y bit.0 fits in
          let least = (class_bounds y (sized y refl)).0 in
          (old.0, old.1.some, old.1.standing, omega arith, omega arith)
  inhabited_swept (Sweeping y) u z rest o sized there e = there z e

module _ (p : Program) (marks used used' word word' size address : ℕ → ℕ) (state state' : ℕ → BlockWord) (stands owed : ℕ → Bool) (section : ℕ → Section)
    (owner : ℕ → Owner) (t : AreBlocks p marks state used word size stands address section owed owner) (rest : AreAtRest p state)
    (h : AreSwept p marks used used' word word' state state') where
  -- a word of a block that is no object's is zero: it was to be zeroed, or it was zero and is as it was
  clear_swept : (c : ℕ) → c < p.config.blocks → IsClear p (marks c) word' owner c (state' c)
  clear_swept c l x from to none clean = elim (cases_eq (word' x) 0) [
    | inl e ↦ e
    | inr n ↦
        let still : word' x ≡ word x = h.kept x (λ d k dirty. n (h.zero d x k dirty)) in
        still ∙ t.clear c l x from to none (λ dirty. n (h.zero c x l dirty))
  ]

  swept : AreBlocks p marks state' used' word' size stands address section (λ _. false) owner
  swept = record {
    placed = λ n l q o.
        let k = t.placed n l q o in
        let after = taken_swept p (marks k.0) size stands address section owed k.0 (address n) (slot_words (size n)) (state k.0) (used k.0) (λ s e. rest k.0 s k.1 e) k.2 in (
          k.0,
          k.1,
          subst (λ w. IsTakenAt p (marks k.0) (address n) (slot_words (size n)) k.0 w (used' k.0)) (sym (h.states k.0 k.1))
              (subst (λ u. IsTakenAt p (marks k.0) (address n) (slot_words (size n)) k.0 (swept_word (state k.0) (marks k.0)) u) (sym (h.occupied k.0 k.1)) after),
        );
    each = λ c l.
        let after = block_swept p (marks c) size stands address section owed c (state c) (used c) (λ s e. rest c s l e) (t.each c l) in
        subst (λ w. IsBlock p (marks c) size stands address section (λ _. false) c w (used' c)) (sym (h.states c l))
        (subst (λ u. IsBlock p (marks c) size stands address section (λ _. false) c (swept_word (state c) (marks c)) u) (sym (h.occupied c l)) after);
    clear = clear_swept;
    sized = λ c s l o. t.sized c s l (swept-of (state c) (marks c) s (subst (λ w. IsOf w s) (h.states c l) o));
  }

  inhabited : AreInhabited p state stands address → AreInhabited p state' stands address
  inhabited there c z l e =
      inhabited_swept p (marks c) size stands address section owed c (state c) (used c) z (λ s q. rest c s l q) (t.each c l) (λ s o. t.sized c s l o)
      (λ s q. there c s l q) (sym (h.states c l) ∙ e)

pub blocks_are_swept : BlocksAreSwept
blocks_are_swept = record {
  blocks = λ p marks used used' word word' size address state state' stands owed section owner t rest h.
      swept p marks used used' word word' size address state state' stands owed section owner t rest h;
  settled = λ p marks used used' word word' state state' rest h c s l e.
      swept-rests (state c) (marks c) s (λ s q. rest c s l q) (sym (h.states c l) ∙ e);
  inhabited = λ p marks used used' word word' size address state state' stands owed section owner t rest h there.
      inhabited p marks used used' word word' size address state state' stands owed section owner t rest h there;
}
