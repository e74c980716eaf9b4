-- Facts of the steps of a claim: which blocks they have passed over.
use Rattle.std.proofs.Common.{◌≡◌, ℕ, zero, suc, ◌+◌, ◌-◌, ◌<◌, ◌≤◌, List, [], ◌∷◌, ◌++◌, append_assoc, refl, sym, ap, ◌∙◌, subst, inl, inr, arith}
use Rattle.std.proofs.lemmas.List.{append-nil}
use Rattle.std.proofs.lemmas.Bool.{cases_eq, cases_lt}
use Rattle.std.specs.List.{AllByRecursion}
use Rattle.sg_words.specs.declared.steps.BlockWord.TheVariants.{Free, Swept}
use Rattle.sg_words.specs.declared.steps.BlockStep.TheVariants.{LoadBlock, LoadUsed}
use Rattle.sg_words.specs.declared.steps.Step.{Step}
use Rattle.sg_words.specs.declared.steps.Step.TheVariants.{OnBlock}
use Rattle.sg_words.specs.Blocks.{slots}
use Rattle.sg_slots.specs.declared.search.Found.TheVariants.{Free as IsFree, Slot, None as NoSlot}
use Rattle.sg_slots.specs.Looks.{IsLowest, PassesOver, PassesOther, PassesFull, ArePassed, Finds, FindsFree, FindsSlot, AreLooks, PassesAll, PassesTo}
use Rattle.sg_slots.specs.Claims.{IsOfClaim, IsPassedIn}

-- steps of a claim that have passed over each block below c
pub record AreTries (size blocks c : ℕ) (es : List Step) : Type 0 where
  pub steps : AllByRecursion (IsOfClaim size blocks) es
  pub passed : (b : ℕ) → b < c → IsPassedIn size b es

pub all_append : (P : Step → Type 0) (xs ys : List Step) → AllByRecursion P xs → AllByRecursion P ys → AllByRecursion P (xs ++ ys)
all_append P [] ys a b = b
all_append P (x ∷ xs) ys a b = (a.0, all_append P xs ys a.1 b)

-- what was passed over stays so with more steps before and behind
passed_before : (size c : ℕ) (es fs : List Step) → IsPassedIn size c es → IsPassedIn size c (es ++ fs)
passed_before size c es fs p = record {
  before = p.before;
  passing = p.passing;
  after = p.after ++ fs;
  parts = ap (λ (xs : List Step). xs ++ fs) p.parts ∙ append_assoc (p.before ++ p.passing) p.after fs;
  passes = p.passes;
}

passed_behind : (size c : ℕ) (es fs : List Step) → IsPassedIn size c fs → IsPassedIn size c (es ++ fs)
passed_behind size c es fs p = record {
  before = es ++ p.before;
  passing = p.passing;
  after = p.after;
  parts = ap (λ (xs : List Step). es ++ xs) p.parts ∙ sym (append_assoc es (p.before ++ p.passing) p.after) ∙
      ap (λ (xs : List Step). xs ++ p.after) (sym (append_assoc es p.before p.passing));
  passes = p.passes;
}

module _ (size from : ℕ) where
  -- each block that a search has passed over
  pub passes_each : (n : ℕ) (es : List Step) → ArePassed size from n es → (b : ℕ) → from ≤ b → b < from + n → IsPassedIn size b es
  passes_each zero es p b low high = absurd (omega arith)
  passes_each (suc n) es p b low high = subst (λ (xs : List Step). IsPassedIn size b xs) (sym p.4) (elim (cases_eq b (from + n)) [
    | inl e ↦ passed_behind size b p.0 p.1 (record {
      before = [];
      passing = p.1;
      after = [];
      parts = sym (append-nil p.1);
      passes = subst (λ (k : ℕ). PassesOver size k p.1) (sym e) p.3;
    })
    | inr ne ↦ passed_before size b p.0 p.1 (passes_each n p.0 p.2 b low (omega arith))
  ])

  -- its loads are steps of a claim
  passing_claims : (blocks c : ℕ) (ts : List Step) → c < blocks → PassesOver size c ts → AllByRecursion (IsOfClaim size blocks) ts
  passing_claims blocks c ts l (PassesOther state a b) = (l, tt)
  passing_claims blocks c ts l (PassesFull used full) = (l, (l, tt))

  pub passed_claims : (blocks n : ℕ) (es : List Step) → ArePassed size from n es → from + n ≤ blocks → AllByRecursion (IsOfClaim size blocks) es
  passed_claims blocks zero es p l = subst (λ (xs : List Step). AllByRecursion (IsOfClaim size blocks) xs) (sym p) tt
  passed_claims blocks (suc n) es p l = subst (λ (xs : List Step). AllByRecursion (IsOfClaim size blocks) xs) (sym p.4)
      (all_append (IsOfClaim size blocks) p.0 p.1 (passed_claims blocks n p.0 p.2 (omega arith)) (passing_claims blocks (from + n) p.1 (omega arith) p.3))

-- a search that found the free block c
pub record HasFoundFree (size blocks from c : ℕ) (es : List Step) : Type 0 where
  pub n : ℕ
  pub before : List Step
  pub passed : ArePassed size from n before
  pub place : c ≡ from + n
  pub there : c < blocks
  pub parts : es ≡ before ++ OnBlock (LoadBlock c Free) ∷ []

-- a search that found slot i of block c clear
pub record HasFoundSlot (size blocks from c i : ℕ) (es : List Step) : Type 0 where
  pub n : ℕ
  pub before : List Step
  pub used : ℕ
  pub passed : ArePassed size from n before
  pub place : c ≡ from + n
  pub there : c < blocks
  pub lowest : IsLowest used (slots size) i
  pub parts : es ≡ before ++ OnBlock (LoadBlock c (Swept size)) ∷ OnBlock (LoadUsed c used) ∷ []

module _ (size blocks from : ℕ) where
  free_finds : (n c d : ℕ) (before ts : List Step) → ArePassed size from n before → d ≡ from + n → from + n < blocks → Finds size d ts (IsFree c) →
      HasFoundFree size blocks from c (before ++ ts)
  free_finds n c d before ts passed e there (FindsFree) = record {
    n = n;
    before = before;
    passed = passed;
    place = e;
    there =
        subst (λ (k : ℕ). k < blocks) (sym e) there;
    parts = refl;
  }

  pub free_found : (c : ℕ) (es : List Step) → AreLooks size blocks from es (IsFree c) → HasFoundFree size blocks from c es
  free_found c es (PassesTo n before ts found passed there finds) = free_finds n c (from + n) before ts passed refl there finds

  slot_finds : (n c i d : ℕ) (before ts : List Step) → ArePassed size from n before → d ≡ from + n → from + n < blocks → Finds size d ts (Slot c i) →
      HasFoundSlot size blocks from c i (before ++ ts)
  slot_finds n c i d before ts passed e there (FindsSlot used j low) = record {
    n = n;
    before = before;
    used = used;
    passed = passed;
    place = e;
    there = subst (λ (k : ℕ). k < blocks) (sym e) there;
    lowest = low;
    parts = refl;
  }

  pub slot_found : (c i : ℕ) (es : List Step) → AreLooks size blocks from es (Slot c i) → HasFoundSlot size blocks from c i es
  slot_found c i es (PassesTo n before ts found passed there finds) = slot_finds n c i (from + n) before ts passed refl there finds

  none_finds : (n d : ℕ) (before ts : List Step) → Finds size d ts NoSlot → ⊥
  none_finds n d before ts h = elim h [ ]

  pub none_found : (es : List Step) → AreLooks size blocks from es NoSlot → (n : ℕ) × ArePassed size from n es × (n ≡ blocks - from)
  none_found es (PassesAll n fs passed e) = (n, passed, e)
  none_found es (PassesTo n before ts found passed there finds) = absurd (none_finds n (from + n) before ts finds)

module _ (size blocks : ℕ) where
  pub tries_none : AreTries size blocks 0 []
  tries_none = record { steps = tt; passed = λ b l. absurd (omega arith) }

  -- a step behind them
  pub tries_step : (c : ℕ) (es : List Step) (t : Step) → AreTries size blocks c es → IsOfClaim size blocks t → AreTries size blocks c (es ++ t ∷ [])
  tries_step c es t tries is = record {
    steps = all_append (IsOfClaim size blocks) es (t ∷ []) tries.steps (is, tt);
    passed = λ b l. passed_before size b es (t ∷ []) (tries.passed b l);
  }

  -- a search behind them has passed over n blocks
  pub tries_pass : (from n : ℕ) (es fs : List Step) → AreTries size blocks from es → ArePassed size from n fs → from + n ≤ blocks →
      AreTries size blocks (from + n) (es ++ fs)
  tries_pass from n es fs tries passed l = record {
    steps = all_append (IsOfClaim size blocks) es fs tries.steps (passed_claims size from blocks n fs passed l);
    passed = λ b m. elim (cases_lt b from) [
      | inl low ↦ passed_before size b es fs (tries.passed b low)
      | inr high ↦ passed_behind size b es fs (passes_each size from n fs passed b high m)
    ];
  }

  pub tries_free : (from c : ℕ) (es fs : List Step) → AreTries size blocks from es → HasFoundFree size blocks from c fs → AreTries size blocks c (es ++ fs)
  tries_free from c es fs tries f =
      let there = f.there in
      let place = f.place in
      subst (λ (xs : List Step). AreTries size blocks c xs) (append_assoc es f.before (OnBlock (LoadBlock c Free) ∷ []) ∙
      ap (λ (xs : List Step). es ++ xs) (sym f.parts))
      (tries_step c (es ++ f.before) (OnBlock (LoadBlock c Free))
      (subst (λ (k : ℕ). AreTries size blocks k (es ++ f.before)) (sym f.place) (tries_pass from f.n es f.before tries f.passed (omega arith))) f.there)

  pub tries_slot : (from c i : ℕ) (es fs : List Step) → AreTries size blocks from es → HasFoundSlot size blocks from c i fs → AreTries size blocks c (es ++ fs)
  tries_slot from c i es fs tries f =
      let there = f.there in
      let place = f.place in
      let load = OnBlock (LoadBlock c (Swept size)) in
      let used = OnBlock (LoadUsed c f.used) in
      let first = subst (λ (k : ℕ). AreTries size blocks k (es ++ f.before)) (sym f.place) (tries_pass from f.n es f.before tries f.passed (omega arith)) in
      let second = tries_step c (es ++ f.before) load first f.there in
      let third = tries_step c ((es ++ f.before) ++ load ∷ []) used second f.there in
      subst (λ (xs : List Step). AreTries size blocks c xs)
      (append_assoc (es ++ f.before) (load ∷ []) (used ∷ []) ∙ append_assoc es f.before (load ∷ used ∷ []) ∙
      ap (λ (xs : List Step). es ++ xs) (sym f.parts)) third
