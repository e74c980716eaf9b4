-- The steps of who sweeps a block, from the store of its occupancy to that of its word.
use Rattle.std.proofs.Common.{◌≡◌, ℕ, List, [], ◌∷◌, ◌++◌, refl, sym, ap, ◌∙◌, subst}
use Rattle.sg_words.specs.declared.steps.BlockWord.{BlockWord}
use Rattle.sg_words.specs.declared.steps.BlockWord.TheVariants.{Need, Sweeping}
use Rattle.sg_words.specs.declared.steps.BlockStep.TheVariants.{LoadBlock, WonBlock, StoreBlock, StoreUsed}
use Rattle.sg_words.specs.declared.steps.Step.{Step}
use Rattle.sg_words.specs.declared.steps.Step.TheVariants.{OnBlock}
use Rattle.sg_words.specs.declared.steps.Call.{Call}
use Rattle.sg_words.specs.declared.steps.Call.TheVariants.{OnBlocks}
use Rattle.sg_words.specs.declared.steps.BlockCall.TheVariants.{StoresBlock}
use Rattle.sg_words.specs.Blocks.{slots}
use Rattle.sg_words.specs.Sweeps.{swept_word}
use Rattle.sg_cells.specs.Made.{Makes, makes_then, makes_lead}
use Rattle.sg_cells.specs.Allowed.{MayMake, may_first, may_rest}
use Rattle.sg_sweep.specs.declared.sweep.Sweep.TheVariants.{Done}
use Rattle.sg_sweep.specs.Sweeping.{taken_word, clear_steps, sweep_steps, unmarked, MaySweep, Sweeps}

-- a port, of which no step changes the marks of a block, nor where block 0 begins
pub record IsSweepPort {P : Type 0} (leads : P → List Step → P → Type 0) (heap : P → ℕ) (marks : P → ℕ → ℕ) : Type 0 where
  pub stays : (p : P) → leads p [] p
  pub chains : (p q r : P) (es fs : List Step) → leads p es q → leads q fs r → leads p (es ++ fs) r
  pub fixed : (p q : P) (es : List Step) → leads p es q → (marks q ≡ marks p) × (heap q ≡ heap p)

module _ {P : Type 0} (leads : P → List Step → P → Type 0) (sees : P → Step → Type 0) (may : P → Call → Type 0) (heap : P → ℕ) (marks : P → ℕ → ℕ)
    (port : IsSweepPort leads heap marks) where
  same_marks : (p : P) (es : List Step) (q : P) → Makes leads sees p es q → marks q ≡ marks p
  same_marks p es q made = (port.fixed p q es (makes_lead leads sees port.stays port.chains p es q made)).0

  same_heap : (p : P) (es : List Step) (q : P) → Makes leads sees p es q → heap q ≡ heap p
  same_heap p es q made = (port.fixed p q es (makes_lead leads sees port.stays port.chains p es q made)).1

  -- the occupancy was stored, which led from p to r
  module _ (b z : ℕ) (p r : P) (m : ℕ) (is : m ≡ marks p b) (led : leads p (OnBlock (StoreUsed b m) ∷ []) r) (seen : sees p (OnBlock (StoreUsed b m)))
    where
      same : heap r ≡ heap p
      same = (port.fixed p r (OnBlock (StoreUsed b m) ∷ []) led).1

      may_behind : MayMake leads sees may p (sweep_steps (heap p) b z (marks p b)) →
          MayMake leads sees may r (clear_steps (heap p) b z m (slots z) ++ OnBlock (StoreBlock b (swept_word (Need z) m)) ∷ [])
      may_behind h = (subst (λ (k : ℕ). MayMake leads sees may p (sweep_steps (heap p) b z k)) (sym is) h).1 r led seen

      pub may_clear : MayMake leads sees may p (sweep_steps (heap p) b z (marks p b)) → MayMake leads sees may r (clear_steps (heap r) b z m (slots z))
      may_clear h = subst (λ (a : ℕ). MayMake leads sees may r (clear_steps a b z m (slots z))) (sym same)
          (may_first leads sees may r (clear_steps (heap p) b z m (slots z)) (OnBlock (StoreBlock b (swept_word (Need z) m)) ∷ []) (may_behind h))

      module _ (q : P) (made : Makes leads sees r (clear_steps (heap r) b z m (slots z)) q) (new : BlockWord) (word : new ≡ swept_word (Need z) m) where
        cleared : Makes leads sees r (clear_steps (heap p) b z m (slots z)) q
        cleared = subst (λ (a : ℕ). Makes leads sees r (clear_steps a b z m (slots z)) q) same made

        pub may_store : MayMake leads sees may p (sweep_steps (heap p) b z (marks p b)) → may q (OnBlocks (StoresBlock b new))
        may_store h = subst (λ (w : BlockWord). may q (OnBlocks (StoresBlock b w))) (sym word)
            (may_rest leads sees may r (clear_steps (heap p) b z m (slots z)) (OnBlock (StoreBlock b (swept_word (Need z) m)) ∷ []) q (may_behind h) cleared).0

        pub written : (u : P) → leads q (OnBlock (StoreBlock b new) ∷ []) u → sees q (OnBlock (StoreBlock b new)) →
            Makes leads sees p (sweep_steps (heap p) b z (marks p b)) u
        written u on saw =
            let last : Makes leads sees q (OnBlock (StoreBlock b (swept_word (Need z) m)) ∷ []) u =
            subst (λ (w : BlockWord). Makes leads sees q (OnBlock (StoreBlock b w) ∷ []) u) word (u, on, saw, refl) in
            subst (λ (k : ℕ). Makes leads sees p (sweep_steps (heap p) b z k) u) is
            (r, led, seen, makes_then leads sees r (clear_steps (heap p) b z m (slots z)) q (OnBlock (StoreBlock b (swept_word (Need z) m)) ∷ []) u cleared last)

  -- block b was seen to be still to be swept, and was taken over, which led from p to q
  module _ (b z : ℕ) (p r q : P) (need : BlockWord) (is : need ≡ Need z) (load : Makes leads sees p (OnBlock (LoadBlock b need) ∷ []) r)
      (swap : Makes leads sees r (OnBlock (WonBlock b need (taken_word need)) ∷ []) q) where
    begins : Makes leads sees p (OnBlock (LoadBlock b (Need z)) ∷ OnBlock (WonBlock b (Need z) (Sweeping z)) ∷ []) q
    begins = makes_then leads sees p (OnBlock (LoadBlock b (Need z)) ∷ []) r (OnBlock (WonBlock b (Need z) (Sweeping z)) ∷ []) q
        (subst (λ (w : BlockWord). Makes leads sees p (OnBlock (LoadBlock b w) ∷ []) r) is load)
        (subst (λ (w : BlockWord). Makes leads sees r (OnBlock (WonBlock b w (taken_word w)) ∷ []) q) is swap)

    marks_now : marks q b ≡ marks p b
    marks_now = ap (λ (f : ℕ → ℕ). f b) (same_marks p (OnBlock (LoadBlock b (Need z)) ∷ OnBlock (WonBlock b (Need z) (Sweeping z)) ∷ []) q begins)

    heap_now : heap q ≡ heap p
    heap_now = same_heap p (OnBlock (LoadBlock b (Need z)) ∷ OnBlock (WonBlock b (Need z) (Sweeping z)) ∷ []) q begins

    pub may_write : MaySweep leads sees may (heap p) b (marks p b) p → MayMake leads sees may q (sweep_steps (heap q) b z (marks q b))
    may_write h = subst (λ (a : ℕ). MayMake leads sees may q (sweep_steps a b z (marks q b))) (sym heap_now)
        (subst (λ (k : ℕ). MayMake leads sees may q (sweep_steps (heap p) b z k)) (sym marks_now) (h.write z q begins))

    pub sweeps : (u : P) (freed : ℕ) → Makes leads sees q (sweep_steps (heap q) b z (marks q b)) u → freed ≡ unmarked (marks q b) (slots z) →
        Sweeps leads sees (heap p) b (marks p b) p u (Done freed)
    sweeps u freed made count =
        let ends : Makes leads sees q (sweep_steps (heap p) b z (marks p b)) u =
        subst (λ (a : ℕ). Makes leads sees q (sweep_steps a b z (marks p b)) u) heap_now
        (subst (λ (k : ℕ). Makes leads sees q (sweep_steps (heap q) b z k) u) marks_now made) in (
          z,
          makes_then leads sees p (OnBlock (LoadBlock b (Need z)) ∷ OnBlock (WonBlock b (Need z) (Sweeping z)) ∷ []) q (sweep_steps (heap p) b z (marks p b)) u
              begins ends,
          count ∙ ap (λ (k : ℕ). unmarked k (slots z)) marks_now,
        )
