-- The steps of a sweep are an actor's next ones, from the store of the block's occupancy to that of its word.
use Rattle.std.proofs.Common.{◌≡◌, ℕ, zero, suc, ◌+◌, ◌-◌, ◌<◌, ◌≤◌, true, false, List, [], ◌∷◌, ◌++◌, inl, inr, refl, sym, ap, subst, arith}
use Rattle.std.proofs.Math.Numerals.{add-one}
use Rattle.std.proofs.lemmas.Bool.{cases_eq, cond-true, cond-false, eq-eqb, ne_eqb}
use Rattle.std.specs.Int.{bit_at}
use Rattle.sg_words.specs.declared.steps.BlockWord.TheVariants.{Need}
use Rattle.sg_words.specs.declared.steps.BlockStep.TheVariants.{StoreBlock, StoreUsed}
use Rattle.sg_words.specs.declared.steps.Step.{Step}
use Rattle.sg_words.specs.declared.steps.Step.TheVariants.{OnBlock}
use Rattle.sg_words.specs.Blocks.{IsSizeClass, slots, slot_from}
use Rattle.sg_words.specs.Sections.{old_base}
use Rattle.sg_words.specs.Sweeps.{swept_word, zero_steps}
use Rattle.sg_words.specs.Programs.{FollowsBy}
use Rattle.sg_words.proofs.Blocks.{class_bounds, bit_cases}
use Rattle.sg_sweep.specs.Sweeping.{slot_steps, clear_steps, sweep_steps}
use Rattle.sg_program.specs.declared.program.Program.{Program}
use Rattle.sg_program.specs.declared.program.Statement.{Statement}
use Rattle.sg_rules.specs.Rules.{Constants, Task, Mid, SeeBlock, StoreOccupancy, ClearSlots, ClearWords, Actor, AreMarked, sections_of, within}
use Rattle.sg_rules.specs.Rules.BlockComes.{stores_occupancy, clears_first, clears_next, clears_last, ends_sweep}
use Rattle.sg_rules.specs.Acting.{Acts, ActsOn}
use Rattle.sg_actor.proofs.Paths.{along}

module _ (p : Program) (lay : Constants) (a : Actor) (rest : List Statement) (t : Task) (c z : ℕ) where
  abbrev at : Mid → Actor
  at mid = within a rest mid

  abbrev base : ℕ
  base = old_base (sections_of p)

  abbrev Leads : Mid → List Step → Mid → Type 0
  Leads from es to = FollowsBy (ActsOn p lay) (at from) es (at to)

  -- the words of slot j, which isn't marked: the first ones, and all
  module _ (i j : ℕ) (l : i ≤ j) (fits : j < slots z) (marked : AreMarked lay c i j) (clear : bit_at (lay.marks c) j ≡ 0) where
    words : (k : ℕ) → suc k < z → Leads (ClearSlots t c z i) (zero_steps (slot_from base c z j) (suc k)) (ClearWords t c z j (suc k))
    words zero more = (_, ((λ r. r), (false, inr (clears_first a t rest c z i j l fits marked clear more))), refl)
    words (suc k) more =
        along (ActsOn p lay) _ _ _ (zero_steps (slot_from base c z j) (suc k)) _ (words k (omega arith))
        (_, ((λ r. r), (false, inr (clears_next a t rest c z j (suc k) (omega arith)))), ap (λ n. at (ClearWords t c z j n)) (sym (add-one (suc k))))

    all_words : (k : ℕ) → z ≡ suc (suc k) → Leads (ClearSlots t c z i) (zero_steps (slot_from base c z j) (suc (suc k))) (ClearSlots t c z (j + 1))
    all_words k is =
        along (ActsOn p lay) _ _ _ (zero_steps (slot_from base c z j) (suc k)) _ (words k (omega arith))
        (_, ((λ r. r), (false, inr (clears_last a t rest c z j (suc k) (omega arith)))), refl)

    slot : IsSizeClass z → Leads (ClearSlots t c z i) (zero_steps (slot_from base c z j) z) (ClearSlots t c z (j + 1))
    slot class =
        let most = class_bounds z class in
        let is : z ≡ suc (suc (z - 2)) = omega (arith, most.0) in
        subst (λ n. Leads (ClearSlots t c z i) (zero_steps (slot_from base c z j) n) (ClearSlots t c z (j + 1))) (sym is) (all_words (z - 2) is)

  -- n slots were gone over: those from i on are marked
  record Cleared (n : ℕ) : Type 0 where
    i : ℕ
    within_n : i ≤ n
    marked : AreMarked lay c i n
    leads : Leads (ClearSlots t c z 0) (clear_steps base c z (lay.marks c) n) (ClearSlots t c z i)

  module _ (class : IsSizeClass z) where
    more : (n : ℕ) → n < slots z → Cleared n → (es : List Step) → es ≡ slot_steps base c z (lay.marks c) n → Cleared (suc n)
    more n l h es is = elim (bit_cases (lay.marks c) n) [
      | inr clear ↦ record {
        i = n + 1;
        within_n = omega arith;
        marked = λ k above below. absurd (omega arith);
        leads = along (ActsOn p lay) _ _ _ (clear_steps base c z (lay.marks c) n) (slot_steps base c z (lay.marks c) n) h.leads
            (subst (λ fs. Leads (ClearSlots t c z h.i) fs (ClearSlots t c z (n + 1))) (sym (cond-true _ _ _ (eq-eqb (bit_at (lay.marks c) n) 0 clear)))
            (slot h.i n h.within_n l h.marked clear class));
      }
      | inl set ↦ record {
        i = h.i;
        within_n = let l = h.within_n in omega arith;
        marked = λ k above below. elim (cases_eq k n) [
          | inl last ↦ subst (λ j. bit_at (lay.marks c) j ≡ 1) (sym last) set
          | inr before ↦ h.marked k above (omega arith)
        ];
        leads = along (ActsOn p lay) _ _ _ (clear_steps base c z (lay.marks c) n) (slot_steps base c z (lay.marks c) n) h.leads
            (subst (λ fs. Leads (ClearSlots t c z h.i) fs (ClearSlots t c z h.i))
            (sym (cond-false _ (zero_steps (slot_from base c z n) z) [] (ne_eqb (bit_at (lay.marks c) n) 0 (λ none. absurd (omega arith))))) refl);
      }
    ]

    cleared : (n : ℕ) → n ≤ slots z → Cleared n
    cleared zero l = record { i = 0; within_n = omega arith; marked = λ k above below. absurd (omega arith); leads = refl }
    cleared (suc n) l = more n (omega arith) (cleared n (omega arith)) _ refl

    abbrev pub behind : List Step
    behind = clear_steps base c z (lay.marks c) (slots z) ++ OnBlock (StoreBlock c (swept_word (Need z) (lay.marks c))) ∷ []

    -- the steps behind the first one
    pub sweep_leads : Leads (ClearSlots t c z 0) behind (SeeBlock t true c)
    sweep_leads =
        let h = cleared (slots z) (omega arith) in
        along (ActsOn p lay) _ _ _ (clear_steps base c z (lay.marks c) (slots z)) _ h.leads
        (_, ((λ r. r), (false, inr (ends_sweep a t rest c z h.i h.marked))), refl)

    as_acts : (b d : Actor) (es : List Step) → FollowsBy (ActsOn p lay) b es d → FollowsBy (Acts p lay) b es d
    as_acts b d [] f = f
    as_acts b d (e ∷ es) f = (f.0, f.1.1, as_acts f.0 d es f.2)

    pub sweep_begins : Acts p lay (at (StoreOccupancy t c z)) (OnBlock (StoreUsed c (lay.marks c))) (at (ClearSlots t c z 0))
    sweep_begins = (false, inr (stores_occupancy a t rest c z))

    -- all
    pub sweep_follows : FollowsBy (Acts p lay) (at (StoreOccupancy t c z)) (sweep_steps base c z (lay.marks c)) (at (SeeBlock t true c))
    sweep_follows = (_, sweep_begins, as_acts _ _ behind sweep_leads)
