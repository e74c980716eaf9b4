-- A search that has come to a block.
use Rattle.std.proofs.Common.{◌≡◌, ◌≢◌, ℕ, suc, ◌+◌, ◌<◌, ◌≤◌, List, [], ◌∷◌, ◌++◌, refl, sym, subst, arith}
use Rattle.sg_words.specs.declared.steps.BlockWord.{BlockWord}
use Rattle.sg_words.specs.declared.steps.BlockWord.TheVariants.{Free, Swept}
use Rattle.sg_words.specs.declared.steps.BlockStep.TheVariants.{LoadBlock, LoadUsed}
use Rattle.sg_words.specs.declared.steps.Step.{Step}
use Rattle.sg_words.specs.declared.steps.Step.TheVariants.{OnBlock}
use Rattle.sg_words.specs.declared.steps.Call.{Call}
use Rattle.sg_words.specs.declared.steps.Call.TheVariants.{OnBlocks}
use Rattle.sg_words.specs.declared.steps.BlockCall.TheVariants.{LoadsBlock, LoadsUsed}
use Rattle.sg_words.specs.Blocks.{slots}
use Rattle.sg_cells.specs.Made.{Makes, makes_then}
use Rattle.sg_slots.specs.declared.search.Found.{Found}
use Rattle.sg_slots.specs.declared.search.Found.TheVariants.{Free as IsFree, Slot, None as NoSlot}
use Rattle.sg_slots.specs.Looks.{IsFull, IsLowest, PassesOver, PassesOther, PassesFull, ArePassed, Finds, FindsFree, FindsSlot, AreLooks, PassesAll, PassesTo}
use Rattle.sg_slots.specs.Looks.{MayLook}

-- from p on, loads have passed over the blocks from `from` on to before `to`, and led to q
pub record HasPassed {P : Type 0} (leads : P → List Step → P → Type 0) (sees : P → Step → Type 0) (size from to : ℕ) (p q : P) : Type 0 where
  pub n : ℕ
  pub es : List Step
  pub place : to ≡ from + n
  pub passed : ArePassed size from n es
  pub made : Makes leads sees p es q

-- the result of a search
abbrev pub HasFound : {P : Type 0} → (P → List Step → P → Type 0) → (P → Step → Type 0) → ℕ → ℕ → ℕ → P → P → Found → Type 0
HasFound {P} leads sees size blocks from p q found = (es : List Step) × Makes leads sees p es q × AreLooks size blocks from es found

module _ {P : Type 0} (leads : P → List Step → P → Type 0) (sees : P → Step → Type 0) (size from : ℕ) (p : P) where
  pub passed_none : HasPassed leads sees size from from p p
  passed_none = record { n = 0; es = []; place = omega arith; passed = refl; made = refl }

  -- one block more
  module _ (c : ℕ) (q : P) (h : HasPassed leads sees size from c p q) where
    passed_more : (ts : List Step) (r : P) → PassesOver size c ts → Makes leads sees q ts r → HasPassed leads sees size from (c + 1) p r
    passed_more ts r over made = record {
      n = suc h.n;
      es = h.es ++ ts;
      place = let e = h.place in omega arith;
      passed = (h.es, ts, h.passed, subst (λ (k : ℕ). PassesOver size k ts) h.place over, refl);
      made = makes_then leads sees p h.es q ts r h.made made;
    }

    -- the port lets its actor look at it
    module _ (may : P → Call → Type 0) (blocks : ℕ) (asks : MayLook leads sees may size blocks from p) (there : c < blocks) where
      pub may_block : may q (OnBlocks (LoadsBlock c))
      may_block = subst (λ (k : ℕ). may q (OnBlocks (LoadsBlock k))) (sym h.place)
          (asks.block h.n h.es q h.passed h.made (subst (λ (k : ℕ). k < blocks) h.place there))

      pub may_used : (r : P) (saw : BlockWord) → saw ≡ Swept size → leads q (OnBlock (LoadBlock c saw) ∷ []) r → sees q (OnBlock (LoadBlock c saw)) →
          may r (OnBlocks (LoadsUsed c))
      may_used r saw is led seen =
          let step = subst (λ (k : ℕ). Makes leads sees q (OnBlock (LoadBlock k saw) ∷ []) r) h.place (r, led, seen, refl) in
          let swept = subst (λ (v : BlockWord). Makes leads sees q (OnBlock (LoadBlock (from + h.n) v) ∷ []) r) is step in
          subst (λ (k : ℕ). may r (OnBlocks (LoadsUsed k))) (sym h.place)
          (asks.used h.n h.es r h.passed (makes_then leads sees p h.es q (OnBlock (LoadBlock (from + h.n) (Swept size)) ∷ []) r h.made swept)
          (subst (λ (k : ℕ). k < blocks) h.place there))

    -- it is passed over, or something is found there
    pub passes_other : (r : P) (saw : BlockWord) → saw ≢ Free → saw ≢ Swept size → leads q (OnBlock (LoadBlock c saw) ∷ []) r →
        sees q (OnBlock (LoadBlock c saw)) → HasPassed leads sees size from (c + 1) p r
    passes_other r saw a b led seen = passed_more (OnBlock (LoadBlock c saw) ∷ []) r (PassesOther saw a b) (r, led, seen, refl)

    both : (m r : P) (saw : BlockWord) (used : ℕ) → saw ≡ Swept size → leads q (OnBlock (LoadBlock c saw) ∷ []) m → sees q (OnBlock (LoadBlock c saw)) →
        leads m (OnBlock (LoadUsed c used) ∷ []) r → sees m (OnBlock (LoadUsed c used)) →
        Makes leads sees q (OnBlock (LoadBlock c (Swept size)) ∷ OnBlock (LoadUsed c used) ∷ []) r
    both m r saw used is led seen led2 seen2 = subst (λ (v : BlockWord). Makes leads sees q (OnBlock (LoadBlock c v) ∷ OnBlock (LoadUsed c used) ∷ []) r) is
        (m, led, seen, (r, led2, seen2, refl))

    pub passes_full : (m r : P) (saw : BlockWord) (used : ℕ) → saw ≡ Swept size → IsFull used (slots size) → leads q (OnBlock (LoadBlock c saw) ∷ []) m →
        sees q (OnBlock (LoadBlock c saw)) →
        leads m (OnBlock (LoadUsed c used) ∷ []) r → sees m (OnBlock (LoadUsed c used)) → HasPassed leads sees size from (c + 1) p r
    passes_full m r saw used is full led seen led2 seen2 = passed_more _ r (PassesFull used full) (both m r saw used is led seen led2 seen2)

    module _ (blocks : ℕ) (there : c < blocks) where
      found_here : (ts : List Step) (r : P) (found : Found) → Finds size c ts found → Makes leads sees q ts r → HasFound leads sees size blocks from p r found
      found_here ts r found finds made = (
        h.es ++ ts,
        makes_then leads sees p h.es q ts r h.made made,
        PassesTo h.n h.es ts found h.passed (subst (λ (k : ℕ). k < blocks) h.place there) (subst (λ (k : ℕ). Finds size k ts found) h.place finds),
      )

      pub finds_free : (r : P) (saw : BlockWord) → saw ≡ Free → leads q (OnBlock (LoadBlock c saw) ∷ []) r → sees q (OnBlock (LoadBlock c saw)) →
          HasFound leads sees size blocks from p r (IsFree c)
      finds_free r saw is led seen = found_here _ r (IsFree c) FindsFree
          (subst (λ (v : BlockWord). Makes leads sees q (OnBlock (LoadBlock c v) ∷ []) r) is (r, led, seen, refl))

      pub finds_slot : (m r : P) (saw : BlockWord) (used i : ℕ) → saw ≡ Swept size → IsLowest used (slots size) i →
          leads q (OnBlock (LoadBlock c saw) ∷ []) m → sees q (OnBlock (LoadBlock c saw)) →
          leads m (OnBlock (LoadUsed c used) ∷ []) r → sees m (OnBlock (LoadUsed c used)) → HasFound leads sees size blocks from p r (Slot c i)
      finds_slot m r saw used i is low led seen led2 seen2 = found_here _ r (Slot c i) (FindsSlot used i low) (both m r saw used is led seen led2 seen2)

  -- no block is left
  pub finds_none : (blocks c : ℕ) (q : P) → HasPassed leads sees size from c p q → blocks ≤ c → (from ≤ blocks → c ≤ blocks) → (blocks < from → c ≡ from) →
      HasFound leads sees size blocks from p q NoSlot
  finds_none blocks c q h behind most none = (h.es, h.made, PassesAll h.n h.es h.passed (let e = h.place in grind arith))
