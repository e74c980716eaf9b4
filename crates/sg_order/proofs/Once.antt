-- What a lawful list says of the sweep: each block is taken over once, each slot is claimed once, and marked slots keep their bits.
use Rattle.std.proofs.Common.{◌≡◌, ℕ, ◌^◌, ◌<◌, ◌⊎◌, Bool, true, subst, List, [], ◌∷◌, sym, refl, ap, ◌∙◌, inl, inr, arith}
use Rattle.std.proofs.lemmas.Bool.{cases_eq}
use Rattle.std.specs.Int.{bit_at}
use Rattle.std.specs.Int.Bits.{bit_or}
use Rattle.std.specs.List.{AllByRecursion}
use Rattle.sg_words.specs.Events.{Event, ticks}
use Rattle.sg_words.specs.Lists.{In}
use Rattle.sg_words.specs.Reach.{IsFreshIn, AreDistinct}
use Rattle.sg_words.specs.Sweeps.{swept_word}
use Rattle.sg_words.specs.Words.{Words, Saw, SawBlock, write, after_step, after_block, after, Legal}
use Rattle.sg_words.specs.declared.steps.Step.{Step}
use Rattle.sg_words.specs.declared.steps.Step.TheVariants.{OnBlock, Load, Store, Won, Lost}
use Rattle.sg_words.specs.declared.steps.Place.{Place}
use Rattle.sg_words.specs.declared.steps.Place.TheVariants.{Stop, Next, Word, Card, Head, Cell}
use Rattle.sg_words.specs.declared.steps.BlockStep.{BlockStep}
use Rattle.sg_words.specs.declared.steps.BlockStep.TheVariants.{WonBlock, StoreBlock, OrUsed, StoreUsed}
use Rattle.sg_words.specs.declared.steps.BlockWord.{BlockWord}
use Rattle.sg_words.specs.declared.steps.BlockWord.TheVariants.{Free, Swept, Need, Sweeping}
use Rattle.sg_words.proofs.Blocks.{bit_set, bit_kept}
use Rattle.sg_words.proofs.Members.{in-here, in-there, has-cases, in_contains}
use Rattle.sg_words.proofs.Puts.{put-at, put-other}
use Rattle.sg_words.proofs.Sweeps.{by_marks}
use Rattle.sg_program.specs.declared.program.Program.{Program}
use Rattle.sg_rules.specs.Rules.{Constants}
use Rattle.sg_order.specs.Sweep.{IsLawful, IsLawfulOn, winner_after, Never, Once, IsClaim, Always, taken_over, swept_of, IsSweep}
use Rattle.sg_order.specs.Knowing.{IsPast}
use Rattle.sg_order.proofs.BlockGround.{put-from}

-- each step of the list is lawful
abbrev pub AreLawful : Program → Constants → Words → (ℕ → ℕ) → List Event → Type 0
AreLawful p lay w by [] = Unit {0}
AreLawful p lay w by (e ∷ es) = IsLawful p lay w by e.by e.tick.step × AreLawful p lay (after_step w e.tick.step) (winner_after by e.by e.tick.step) es

-- the exchange by which the sweep of block c is taken over
abbrev IsTakeOver : ℕ → Step → Type 0
IsTakeOver c (OnBlock (WonBlock d (Need z) new)) = d ≡ c
IsTakeOver c step = ⊥

-- a store or an exchange of another word leaves the blocks
write_block : (w : Words) (place : Place) (v : ℕ) → ((write w place v).block ≡ w.block) × ((write w place v).used ≡ w.used)
write_block w Stop v = (refl, refl)
write_block w (Next f) v = (refl, refl)
write_block w (Word x) v = (refl, refl)
write_block w (Card x) v = (refl, refl)
write_block w Head v = (refl, refl)
write_block w (Cell x) v = (refl, refl)

-- a step on no block leaves all blocks' words
plain_step : (P : (ℕ → BlockWord) → (ℕ → ℕ) → Type 0) (w : Words) (e : Step) → P w.block w.used →
    ((step : BlockStep) → e ≡ OnBlock step → P (after_block w step).block (after_block w step).used) → P (after_step w e).block (after_step w e).used
plain_step P w (OnBlock step) q f = f step refl
plain_step P w (Load place saw) q f = q
plain_step P w (Store place v) q f =
    let h = write_block w place v in subst (λ x. P (write w place v).block x) (sym h.1) (subst (λ x. P x w.used) (sym h.0) q)
plain_step P w (Won place seen v) q f =
    let h = write_block w place v in subst (λ x. P (write w place v).block x) (sym h.1) (subst (λ x. P x w.used) (sym h.0) q)
plain_step P w (Lost place seen v found) q f = q

-- what a sweep leaves is past
past_swept : (z m : ℕ) → IsPast (swept_word (Need z) m)
past_swept z m = by_marks IsPast z m (λ e. tt) (λ n. tt)

module _ (p : Program) (lay : Constants) (w : Words) (by : ℕ → ℕ) (k b : ℕ) where
  past_block : (e : BlockStep) → IsLawfulOn p lay w by k e → IsPast (w.block b) → IsPast ((after_block w e).block b)
  past_block (WonBlock c seen new) law q = put-from (λ c state. IsPast state) w.block c new
      (λ _. elim law [ inl h ↦ subst IsPast (sym h.2) tt | inr h ↦ subst IsPast (sym h.2) tt ]) b q
  past_block (StoreBlock c new) law q = put-from (λ c state. IsPast state) w.block c new (λ _. subst IsPast (sym law.2) (past_swept law.0 (lay.marks c))) b q
  past_block e law q = q

  swept_block : (s : ℕ) (e : BlockStep) → SawBlock w e → IsLawfulOn p lay w by k e → w.block b ≡ Swept s → (after_block w e).block b ≡ Swept s
  swept_block s (WonBlock c seen new) saw law q = put-other w.block c new b (λ h. let r : Swept s ≡ seen = sym q ∙ ap w.block h ∙ saw in elim law [
    | inl u ↦ let r : Swept s ≡ Free = r ∙ u.1 in cc
    | inr u ↦ let r : Swept s ≡ Need u.0 = r ∙ u.1 in cc
  ]) ∙ q
  swept_block s (StoreBlock c new) saw law q =
      put-other w.block c new b (λ h. let r : Swept s ≡ Sweeping law.0 = sym q ∙ ap w.block h ∙ law.1.0 in cc) ∙ q
  swept_block s e saw law q = q

  -- a block that is to be swept is so until its sweep is taken over
  need_block : (z : ℕ) (e : BlockStep) → SawBlock w e → IsLawfulOn p lay w by k e → (IsTakeOver b (OnBlock e) → ⊥) → w.block b ≡ Need z →
      (after_block w e).block b ≡ Need z
  need_block z (WonBlock c seen new) saw law not q = put-other w.block c new b (λ h. let r : Need z ≡ seen = sym q ∙ ap w.block h ∙ saw in elim law [
    | inl u ↦ let r : Need z ≡ Free = r ∙ u.1 in cc
    | inr u ↦ not (subst (λ seen. IsTakeOver b (OnBlock (WonBlock c seen new))) (sym u.1) (sym h))
  ]) ∙ q
  need_block z (StoreBlock c new) saw law not q =
      put-other w.block c new b (λ h. let r : Need z ≡ Sweeping law.0 = sym q ∙ ap w.block h ∙ law.1.0 in cc) ∙ q
  need_block z e saw law not q = q

  bit_block : (s i : ℕ) (e : BlockStep) → IsLawfulOn p lay w by k e → w.block b ≡ Swept s → bit_at (w.used b) i ≡ 1 → bit_at ((after_block w e).used b) i ≡ 1
  bit_block s i (OrUsed c j found) law q u = put-from (λ c used. bit_at used i ≡ 1) w.used c (bit_or (w.used c) (2 ^ j)) (bit_kept (w.used c) j i) b u
  bit_block s i (StoreUsed c new) law q u =
      ap (λ v. bit_at v i) (put-other w.used c new b (λ h. let r : Swept s ≡ Sweeping law.0 = sym q ∙ ap w.block h ∙ law.1.0 in cc)) ∙ u
  bit_block s i e law q u = u

  marked_block : (i : ℕ) (e : BlockStep) → IsLawfulOn p lay w by k e → bit_at (lay.marks b) i ≡ 1 → bit_at (w.used b) i ≡ 1 →
      bit_at ((after_block w e).used b) i ≡ 1
  marked_block i (OrUsed c j found) law m u = put-from (λ c used. bit_at used i ≡ 1) w.used c (bit_or (w.used c) (2 ^ j)) (bit_kept (w.used c) j i) b u
  marked_block i (StoreUsed c new) law m u = elim (cases_eq b c) [
    | inl h ↦ ap (λ v. bit_at v i) (put-at w.used c new b h ∙ law.2 ∙ ap lay.marks (sym h)) ∙ m
    | inr n ↦ ap (λ v. bit_at v i) (put-other w.used c new b n) ∙ u
  ]
  marked_block i e law m u = u

  past_step : (e : Step) → IsLawful p lay w by k e → IsPast (w.block b) → IsPast ((after_step w e).block b)
  past_step e law q = plain_step (λ block used. IsPast (block b)) w e q (λ step eq. past_block step (subst (λ e. IsLawful p lay w by k e) eq law) q)

  swept_step : (s : ℕ) (e : Step) → Saw w e → IsLawful p lay w by k e → w.block b ≡ Swept s → (after_step w e).block b ≡ Swept s
  swept_step s e saw law q = plain_step (λ block used. block b ≡ Swept s) w e q
      (λ step eq. swept_block s step (subst (λ e. Saw w e) eq saw) (subst (λ e. IsLawful p lay w by k e) eq law) q)

  need_step : (z : ℕ) (e : Step) → Saw w e → IsLawful p lay w by k e → (IsTakeOver b e → ⊥) → w.block b ≡ Need z → (after_step w e).block b ≡ Need z
  need_step z e saw law not q = plain_step (λ block used. block b ≡ Need z) w e q
      (λ step eq. need_block z step (subst (λ e. Saw w e) eq saw) (subst (λ e. IsLawful p lay w by k e) eq law)
      (λ h. not (subst (λ e. IsTakeOver b e) (sym eq) h)) q)

  bit_step : (s i : ℕ) (e : Step) → IsLawful p lay w by k e → w.block b ≡ Swept s → bit_at (w.used b) i ≡ 1 → bit_at ((after_step w e).used b) i ≡ 1
  bit_step s i e law q u = plain_step (λ block used. bit_at (used b) i ≡ 1) w e u
      (λ step eq. bit_block s i step (subst (λ e. IsLawful p lay w by k e) eq law) q u)

  marked_step : (i : ℕ) (e : Step) → IsLawful p lay w by k e → bit_at (lay.marks b) i ≡ 1 → bit_at (w.used b) i ≡ 1 →
      bit_at ((after_step w e).used b) i ≡ 1
  marked_step i e law m u = plain_step (λ block used. bit_at (used b) i ≡ 1) w e u
      (λ step eq. marked_block i step (subst (λ e. IsLawful p lay w by k e) eq law) m u)

  taken_past : (e : Step) → IsLawful p lay w by k e → IsTakeOver b e → IsPast ((after_step w e).block b)
  taken_past (OnBlock (WonBlock c (Need z) new)) law h = subst IsPast (sym (put-at w.block c new b (sym h)))
      (elim law [ inl r ↦ subst IsPast (sym r.2) tt | inr r ↦ subst IsPast (sym r.2) tt ])
  taken_past e law h = absurd h

  no_take_over : (e : Step) → Saw w e → IsPast (w.block b) → IsTakeOver b e → ⊥
  no_take_over (OnBlock (WonBlock c (Need z) new)) saw q h = subst IsPast (ap w.block (sym h) ∙ saw) q
  no_take_over e saw q h = absurd h

  claimed_set : (i : ℕ) (e : Step) → IsLawful p lay w by k e → IsClaim b i e →
      (s : ℕ) × ((after_step w e).block b ≡ Swept s) × (bit_at ((after_step w e).used b) i ≡ 1)
  claimed_set i (OnBlock (OrUsed c j found)) law h = (
    law.0,
    ap w.block (sym h.0) ∙ law.1,
    ap (λ v. bit_at v i) (put-at w.used c (bit_or (w.used c) (2 ^ j)) b (sym h.0)) ∙ ap (bit_at (bit_or (w.used c) (2 ^ j))) (sym h.1) ∙ bit_set (w.used c) j,
  )
  claimed_set i e law h = absurd h

  no_claim : (i : ℕ) (e : Step) → Saw w e → bit_at (w.used b) i ≡ 1 → IsClaim b i e → ⊥
  no_claim i (OnBlock (OrUsed c j found)) saw u h =
      let x = ap w.used h.0 in
      let y : bit_at (w.used b) j ≡ bit_at (w.used b) i = ap (bit_at (w.used b)) h.1 in
      let z : bit_at (w.used b) j ≡ bit_at found j = ap (λ v. bit_at v j) (sym x ∙ saw) in
      let o = h.2 in
      absurd (omega arith)
  no_claim i e saw u h = absurd h

-- a member of the blocks that were taken over: by this step, or by a later one
taken_cases : (c : ℕ) (e : Step) (more : List ℕ) → In c (taken_over e more) → IsTakeOver c e ⊎ In c more
taken_cases c (OnBlock (WonBlock d (Need z) new)) more h = elim (has-cases c d more h) [ inl e ↦ inl (sym e) | inr i ↦ inr i ]
taken_cases c e more h = inr h

taken_here : (c : ℕ) (e : Step) (more : List ℕ) → IsTakeOver c e → In c (taken_over e more)
taken_here c (OnBlock (WonBlock d (Need z) new)) more h = in-here c d more (sym h)
taken_here c e more h = absurd h

taken_more : (c : ℕ) (e : Step) (more : List ℕ) → In c more → In c (taken_over e more)
taken_more c (OnBlock (WonBlock d (Need z) new)) more h = in-there c d more h
taken_more c e more h = h

module _ (p : Program) (lay : Constants) where
  -- a block that isn't to be swept any more isn't taken over
  past_fresh : (c : ℕ) (es : List Event) (w : Words) (by : ℕ → ℕ) → Legal w (ticks es) → AreLawful p lay w by es → IsPast (w.block c) →
      IsFreshIn c (swept_of es)
  past_fresh c [] w by legal law q = tt
  past_fresh c (e ∷ es) w by legal law q = fresh e.tick.step (no_take_over p lay w by e.by c e.tick.step legal.0 q)
      (past_fresh c es (after_step w e.tick.step) (winner_after by e.by e.tick.step) legal.1 law.1 (past_step p lay w by e.by c e.tick.step law.0 q))
    where
      fresh : (e : Step) → (IsTakeOver c e → ⊥) → IsFreshIn c (swept_of es) → IsFreshIn c (taken_over e (swept_of es))
      fresh (OnBlock (WonBlock d (Need z) new)) not f = (λ h. not (sym h), f)
      fresh e not f = f

  -- so each is taken over once
  pub taken_once : (es : List Event) (w : Words) (by : ℕ → ℕ) → Legal w (ticks es) → AreLawful p lay w by es → AreDistinct (swept_of es)
  taken_once [] w by legal law = tt
  taken_once (e ∷ es) w by legal law = distinct e.tick.step
      (λ c h. past_fresh c es (after_step w e.tick.step) (winner_after by e.by e.tick.step) legal.1 law.1 (taken_past p lay w by e.by c e.tick.step law.0 h))
      (taken_once es (after_step w e.tick.step) (winner_after by e.by e.tick.step) legal.1 law.1)
    where
      distinct : (e : Step) → ((c : ℕ) → IsTakeOver c e → IsFreshIn c (swept_of es)) → AreDistinct (swept_of es) → AreDistinct (taken_over e (swept_of es))
      distinct (OnBlock (WonBlock d (Need z) new)) f q = (f d refl, q)
      distinct e f q = q

  -- what isn't to be swept stays so
  past_after : (c : ℕ) (es : List Event) (w : Words) (by : ℕ → ℕ) → AreLawful p lay w by es → IsPast (w.block c) → IsPast ((after w (ticks es)).block c)
  past_after c [] w by law q = q
  past_after c (e ∷ es) w by law q =
      past_after c es (after_step w e.tick.step) (winner_after by e.by e.tick.step) law.1 (past_step p lay w by e.by c e.tick.step law.0 q)

  -- a block that was taken over isn't to be swept any more, and one that wasn't is as it was
  pub taken_is_past : (c : ℕ) (es : List Event) (w : Words) (by : ℕ → ℕ) → Legal w (ticks es) → AreLawful p lay w by es → In c (swept_of es) →
      IsPast ((after w (ticks es)).block c)
  taken_is_past c [] w by legal law h = absurd (let z = h in cc)
  taken_is_past c (e ∷ es) w by legal law h =
      let v = after_step w e.tick.step in
      let by' = winner_after by e.by e.tick.step in
      elim (taken_cases c e.tick.step (swept_of es) h) [
        | inl here ↦ past_after c es v by' law.1 (taken_past p lay w by e.by c e.tick.step law.0 here)
        | inr later ↦ taken_is_past c es v by' legal.1 law.1 later
      ]

  pub untaken_needs : (c z : ℕ) (es : List Event) (w : Words) (by : ℕ → ℕ) → Legal w (ticks es) → AreLawful p lay w by es → (In c (swept_of es) → ⊥) →
      w.block c ≡ Need z → (after w (ticks es)).block c ≡ Need z
  untaken_needs c z [] w by legal law out q = q
  untaken_needs c z (e ∷ es) w by legal law out q =
      untaken_needs c z es (after_step w e.tick.step) (winner_after by e.by e.tick.step) legal.1 law.1 (λ h. out (taken_more c e.tick.step (swept_of es) h))
      (need_step p lay w by e.by c z e.tick.step legal.0 law.0 (λ h. out (taken_here c e.tick.step (swept_of es) h)) q)

  never_claimed : (c s i : ℕ) (es : List Event) (w : Words) (by : ℕ → ℕ) → Legal w (ticks es) → AreLawful p lay w by es → w.block c ≡ Swept s →
      bit_at (w.used c) i ≡ 1 → Never (IsClaim c i) es
  never_claimed c s i [] w by legal law q u = tt
  never_claimed c s i (e ∷ es) w by legal law q u = (
    no_claim p lay w by e.by c i e.tick.step legal.0 u,
    never_claimed c s i es (after_step w e.tick.step) (winner_after by e.by e.tick.step) legal.1 law.1
        (swept_step p lay w by e.by c s e.tick.step legal.0 law.0 q) (bit_step p lay w by e.by c s i e.tick.step law.0 q u),
  )

  claimed_once : (c i : ℕ) (es : List Event) (w : Words) (by : ℕ → ℕ) → Legal w (ticks es) → AreLawful p lay w by es → Once (IsClaim c i) es
  claimed_once c i [] w by legal law = tt
  claimed_once c i (e ∷ es) w by legal law = (
    λ h. let q = claimed_set p lay w by e.by c i e.tick.step law.0 h in
        never_claimed c q.0 i es (after_step w e.tick.step) (winner_after by e.by e.tick.step) legal.1 law.1 q.1 q.2,
    claimed_once c i es (after_step w e.tick.step) (winner_after by e.by e.tick.step) legal.1 law.1,
  )

  marked_always : (c i : ℕ) (es : List Event) (w : Words) (by : ℕ → ℕ) → AreLawful p lay w by es → bit_at (lay.marks c) i ≡ 1 → bit_at (w.used c) i ≡ 1 →
      Always (λ v. bit_at (v.used c) i ≡ 1) w es
  marked_always c i [] w by law m u = u
  marked_always c i (e ∷ es) w by law m u =
      (u, marked_always c i es (after_step w e.tick.step) (winner_after by e.by e.tick.step) law.1 m (marked_step p lay w by e.by c i e.tick.step law.0 m u))

-- a member of a list of which all are so is so
all_in : (P : ℕ → Type 0) (xs : List ℕ) → AllByRecursion P xs → (c : ℕ) → In c xs → P c
all_in P [] all c h = absurd (let z = h in cc)
all_in P (x ∷ xs) all c h = elim (has-cases c x xs h) [ inl e ↦ subst P (sym e) all.0 | inr i ↦ all_in P xs all.1 c i ]

-- each block whose sweep was taken over had been owed
abbrev pub WereOwed : Program → (ℕ → Bool) → List ℕ → Type 0
WereOwed p owed = AllByRecursion (λ c. (c < p.config.blocks) × (owed c ≡ true))

pub sweep_law : (p : Program) (lay : Constants) (es : List Event) (w : Words) (owed : ℕ → Bool) (by : ℕ → ℕ) → Legal w (ticks es) → AreLawful p lay w by es →
    WereOwed p owed (swept_of es) → IsSweep p lay w owed es
sweep_law p lay es w owed by legal law were = record {
  were_owed = λ c h. all_in (λ c. (c < p.config.blocks) × (owed c ≡ true)) (swept_of es) were c (in_contains c (swept_of es) h);
  once = taken_once p lay es w by legal law;
  claimed = λ c i. claimed_once p lay c i es w by legal law;
  marked = λ c i m u. marked_always p lay c i es w by law m u;
}
