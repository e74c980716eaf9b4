-- A port over a space lets its actor make the steps of a sweep.
use Rattle.std.proofs.Common.{ℕ, zero, suc, ◌+◌, ◌≤◌, ◌<◌, List, [], ◌∷◌, ◌++◌, length, sym, subst, inl, inr, arith}
use Rattle.std.proofs.lemmas.Bool.{cases_eq, cond-true, cond-false, eq-eqb, ne_eqb}
use Rattle.std.specs.Int.{bit_at}
use Rattle.std.specs.List.{AllByRecursion}
use Rattle.sg_words.specs.declared.steps.BlockWord.TheVariants.{Need, Sweeping}
use Rattle.sg_words.specs.declared.steps.BlockStep.TheVariants.{LoadBlock, WonBlock, StoreBlock, Zero}
use Rattle.sg_words.specs.declared.steps.Step.{Step}
use Rattle.sg_words.specs.declared.steps.Step.TheVariants.{OnBlock}
use Rattle.sg_words.specs.Calls.{call_of}
use Rattle.sg_words.specs.Blocks.{slots, slot_from}
use Rattle.sg_words.specs.Sections.{old_base, IsInSection}
use Rattle.sg_words.specs.Sweeps.{swept_word, zero_steps}
use Rattle.sg_words.proofs.Blocks.{slot_fits}
use Rattle.sg_space.specs.Space.{Contents, IsContents}
use Rattle.sg_space.specs.Standing.{marks_in}
use Rattle.sg_cells.specs.Made.{Makes, makes_lead}
use Rattle.sg_cells.specs.Allowed.{MayMake}
use Rattle.sg_frag.specs.Plain.{KeepsSections, Led, MayCall}
use Rattle.sg_frag.specs.Leading.{led_chain}
use Rattle.sg_sweep.specs.Sweeping.{slot_steps, clear_steps, sweep_steps, MaySweep}

-- what holds of the steps of each slot holds of all
all_append : (Q : Step → Type 0) (es fs : List Step) → AllByRecursion Q es → AllByRecursion Q fs → AllByRecursion Q (es ++ fs)
all_append Q [] fs h k = k
all_append Q (e ∷ es) fs h k = (h.0, all_append Q es fs h.1 k)

all_zero : (Q : Step → Type 0) (from n : ℕ) → ((x : ℕ) → from ≤ x → x < from + n → Q (OnBlock (Zero x))) → AllByRecursion Q (zero_steps from n)
all_zero Q from zero h = tt
all_zero Q from (suc n) h =
    all_append Q (zero_steps from n) (OnBlock (Zero (from + n)) ∷ []) (all_zero Q from n (λ x a l. h x a (omega arith))) (h (from + n) (omega arith) (omega arith), tt)

all_clear : (Q : Step → Type 0) (heap c z m n : ℕ) → ((i x : ℕ) → i < n → slot_from heap c z i ≤ x → x < slot_from heap c z i + z → Q (OnBlock (Zero x))) →
    AllByRecursion Q (clear_steps heap c z m n)
all_clear Q heap c z m zero h = tt
all_clear Q heap c z m (suc n) h =
    all_append Q (clear_steps heap c z m n) (slot_steps heap c z m n) (all_clear Q heap c z m n (λ i x l. h i x (omega arith))) (elim (cases_eq (bit_at m n) 0) [
      | inl e ↦ subst (λ (es : List Step). AllByRecursion Q es) (sym (cond-true _ (zero_steps (slot_from heap c z n) z) [] (eq-eqb (bit_at m n) 0 e)))
          (all_zero Q (slot_from heap c z n) z (λ x a l. h n x (omega arith) a l))
      | inr d ↦ subst (λ (es : List Step). AllByRecursion Q es) (sym (cond-false _ (zero_steps (slot_from heap c z n) z) [] (ne_eqb (bit_at m n) 0 d))) tt
    ])

-- the step is allowed wherever steps lead from the space
abbrev IsAllowed : Contents → Step → Type 0
IsAllowed s t = (u : Contents) → KeepsSections s u → MayCall u (call_of t)

module _ (s : Contents) (contents : IsContents s) (c : ℕ) (there : c < length s.blocks) where
  allows_zero : (z i x : ℕ) → i < slots z → slot_from (old_base s.layout) c z i ≤ x → x < slot_from (old_base s.layout) c z i + z →
      IsAllowed s (OnBlock (Zero x))
  allows_zero z i x l a b u k =
      let ends = slot_fits z i l in
      let blocks = contents.blocks in
      let words = contents.words in
      let same = k.words in
      let nursery = contents.layout.nursery_most in
      let most = contents.layout.blocks_most in
      let pages = contents.layout.pages in (
        subst (λ layout. IsInSection layout x) (sym k.layout) (omega arith, omega arith),
        omega arith,
        omega arith,
      )

  allows_sweep : (z m : ℕ) → AllByRecursion (IsAllowed s) (sweep_steps (old_base s.layout) c z m)
  allows_sweep z m = (
    λ u k. let same = k.used in let blocks = contents.blocks in let used = contents.used in omega arith,
    all_append (IsAllowed s) (clear_steps (old_base s.layout) c z m (slots z)) (OnBlock (StoreBlock c (swept_word (Need z) m)) ∷ [])
        (all_clear (IsAllowed s) (old_base s.layout) c z m (slots z) (λ i x l. allows_zero z i x l)) (λ u k. let same = k.blocks in omega arith, tt),
  )

-- a port over spaces: `now` is the space in a state of the port
module _ {P : Type 0} (leads : P → List Step → P → Type 0) (sees : P → Step → Type 0) (now : P → Contents) (stays : (p : P) → leads p [] p)
    (chains : (p q r : P) (es fs : List Step) → leads p es q → leads q fs r → leads p (es ++ fs) r)
    (led : (p q : P) (es : List Step) → leads p es q → Led (now p) es (now q)) where
  pub made_led : (p : P) (es : List Step) (q : P) → Makes leads sees p es q → Led (now p) es (now q)
  made_led p es q made = led p q es (makes_lead leads sees stays chains p es q made)

  may_all : (s : Contents) (es : List Step) (p : P) (ts : List Step) → Led s es (now p) → AllByRecursion (IsAllowed s) ts →
      MayMake leads sees (λ p call. MayCall (now p) call) p ts
  may_all s es p [] l h = tt
  may_all s es p (t ∷ ts) l h = (
    h.0 (now p) l.keeps,
    λ q on saw. may_all s (es ++ t ∷ []) q ts (led_chain s (now p) (now q) es (t ∷ []) l (led p q (t ∷ []) on)) h.1,
  )

  pub may_sweep : (p : P) (c : ℕ) → IsContents (now p) → c < length (now p).blocks →
      MaySweep leads sees (λ p call. MayCall (now p) call) (old_base (now p).layout) c (marks_in (now p) c) p
  may_sweep p c contents there = record {
    load = there;
    swap = λ z q made. let same = (made_led p (OnBlock (LoadBlock c (Need z)) ∷ []) q made).keeps.blocks in omega arith;
    write = λ z q made. may_all (now p) (OnBlock (LoadBlock c (Need z)) ∷ OnBlock (WonBlock c (Need z) (Sweeping z)) ∷ []) q
        (sweep_steps (old_base (now p).layout) c z (marks_in (now p) c))
        (made_led p (OnBlock (LoadBlock c (Need z)) ∷ OnBlock (WonBlock c (Need z) (Sweeping z)) ∷ []) q made)
        (allows_sweep (now p) contents c there z (marks_in (now p) c));
  }
