-- Each rule's step is lawful, and harmless; and a block whose sweep it takes over was owed.
use Rattle.std.proofs.Common.{◌≡◌, ℕ, ◌+◌, ◌<◌, ◌≤◌, Bool, true, subst, sym, refl, ap, ◌∙◌, inl, inr, arith}
use Rattle.std.specs.Int.{bit_at}
use Rattle.sg_words.specs.Blocks.{IsOwing, slots}
use Rattle.sg_words.specs.Words.{Words, Saw}
use Rattle.sg_words.specs.declared.steps.Step.{Step}
use Rattle.sg_words.specs.declared.steps.Step.TheVariants.{OnBlock}
use Rattle.sg_words.specs.declared.steps.BlockWord.TheVariants.{Need, Sweeping}
use Rattle.sg_words.specs.declared.steps.BlockStep.TheVariants.{WonBlock, Zero}
use Rattle.sg_words.proofs.Blocks.{slot_once, block_once}
use Rattle.sg_program.specs.declared.program.Program.{Program}
use Rattle.sg_program.specs.Scripts.{made_slot}
use Rattle.sg_graph.specs.Graph.{Graph}
use Rattle.sg_graph.specs.Book.{Book, nursery_end, slot_at}
use Rattle.sg_graph.specs.Heap.{Owner}
use Rattle.sg_rules.specs.Rules.{Constants, Actor, slot_word, Comes, BlockComes, NextStep}
use Rattle.sg_rules.specs.Rules.Comes.{test_null}
use Rattle.sg_rules.specs.Rules.BlockComes.{takes_block, takes_slot, misses_slot, takes_over, stores_occupancy, clears_first, clears_next, clears_last, ends_sweep}
use Rattle.sg_order.specs.Sweep.{IsLawful, IsHarmless, IsHarmlessOn}
use Rattle.sg_order.specs.Knowing.{Sweeps}
use Rattle.sg_order.proofs.Relation.{Ground}
use Rattle.sg_order.proofs.Beside.{Beside}
use Rattle.sg_order.proofs.BlockGround.{unheld}

-- the step takes over only the sweep of an owed block
abbrev pub TakesOwed : Program → (ℕ → Bool) → Step → Type 0
TakesOwed p owed (OnBlock (WonBlock c (Need z) new)) = (c < p.config.blocks) × (owed c ≡ true)
TakesOwed p owed step = Unit {0}

module _ (p : Program) (lay : Constants) (w : Words) (g : Graph) (b : Book) (by : ℕ → ℕ) (k : ℕ) (owner : ℕ → Owner) (t : Ground p lay w g b owner) where
  harmless : (j z i x : ℕ) → w.block j ≡ Sweeping z → i < slots z → bit_at (lay.marks j) i ≡ 0 → slot_at p j z i ≤ x → x < slot_at p j z i + z →
      IsHarmlessOn p lay w g b (Zero x)
  harmless j z i x e f u lo hi = (
    λ n q. unheld p lay w g b owner t j z i x n (subst (λ state. IsOwing state z) (sym e) refl) f u lo hi q.stands q.above q.below,
    λ c s m there h l v from to.
        let same : c ≡ j = block_once (nursery_end p) c j s z m i x l f from to lo hi in
        let size : Sweeping s ≡ Sweeping z = sym h ∙ ap w.block same ∙ e in
        let size : s ≡ z = cc in
        let at : slot_at p c s m ≡ slot_at p j z m = ap (λ c. slot_at p c s m) same ∙ ap (λ s. slot_at p j s m) size in
        let slot : m ≡ i = slot_once (nursery_end p) j z m i x (omega arith) (omega arith) lo hi in
        let r = ap (λ c. bit_at (lay.marks c) m) same in let q = ap (bit_at (lay.marks j)) slot in absurd (omega arith),
  )

  -- a step of actor k is lawful and harmless, and takes over only what is owed
  pub record IsFine (e : Step) : Type 0 where
    pub lawful : IsLawful p lay w by k e
    pub harmless : IsHarmless p lay w g b e
    pub owed : TakesOwed p b.owed e

  plain : (a : Actor) (e : Step) (d : Bool) (a' : Actor) → Comes p lay a e d a' → IsFine e
  plain _ _ _ _ (test_null a s rest test e z) = record { lawful = tt; harmless = tt; owed = tt }
  plain _ _ _ _ c = record { lawful = tt; harmless = tt; owed = tt }

  clearing : (c z i x : ℕ) → Sweeps p w.block by k c z → i < slots z → bit_at (lay.marks c) i ≡ 0 → slot_at p c z i ≤ x → x < slot_at p c z i + z →
      IsFine (OnBlock (Zero x))
  clearing c z i x q f u lo hi = record {
    lawful = (c, z, q.there, (q.word, q.mine), record { slot = i; fits = f; unmarked = u; from = lo; to = hi });
    harmless = harmless c z i x q.word f u lo hi;
    owed = tt;
  }

  on_block : (a : Actor) (e : Step) (d : Bool) (a' : Actor) → BlockComes p lay a e d a' → Saw w e → Beside p lay w b by k a.mid → IsFine e
  on_block _ _ _ _ (takes_block a s rest c) saw be = record { lawful = inl (made_slot p s, refl, refl); harmless = tt; owed = tt }
  on_block _ _ _ _ (takes_slot a s rest c i found o) saw be = record { lawful = (made_slot p s, be.at.2, be.at.3); harmless = tt; owed = tt }
  on_block _ _ _ _ (misses_slot a s rest c i found o) saw be = record { lawful = (made_slot p s, be.at.2, be.at.3); harmless = tt; owed = tt }
  on_block _ _ _ _ (takes_over a u rest c z) saw be = record {
    lawful = inr (z, refl, refl);
    harmless = tt;
    owed = (be.at.1, (t.blocks.each c be.at.1).owing z (subst (λ state. IsOwing state z) (sym saw) refl));
  }
  on_block _ _ _ _ (stores_occupancy a u rest c z) saw be = let q = be.at.1 in record { lawful = (z, (q.word, q.mine), refl); harmless = tt; owed = tt }
  on_block _ _ _ _ (clears_first a u rest c z i m le f marked o one) saw be =
      clearing c z m (slot_word p c z m 0) be.at.1.sweeps f o (omega arith) (omega arith)
  on_block _ _ _ _ (clears_next a u rest c z i f l) saw be =
      let q = be.at.1 in clearing c z i (slot_word p c z i f) q.mid.sweeps q.fits q.unmarked (omega arith) (omega arith)
  on_block _ _ _ _ (clears_last a u rest c z i f l) saw be =
      let q = be.at.1 in clearing c z i (slot_word p c z i f) q.mid.sweeps q.fits q.unmarked (omega arith) (omega arith)
  on_block _ _ _ _ (ends_sweep a u rest c z i marked) saw be =
      let q = be.at.1.sweeps in record { lawful = (z, (q.word, q.mine), refl); harmless = tt; owed = tt }
  on_block _ _ _ _ c saw be = record { lawful = tt; harmless = tt; owed = tt }

  pub fine : (a : Actor) (e : Step) (d : Bool) (a' : Actor) → NextStep p lay a e d a' → Saw w e → Beside p lay w b by k a.mid → IsFine e
  fine a e d a' c saw be = elim c [ inl c ↦ plain a e d a' c | inr c ↦ on_block a e d a' c saw be ]
