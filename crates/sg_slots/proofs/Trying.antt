-- A claim under way: what is known of the blocks, and what the port may show.
use Rattle.std.proofs.Common.{◌≡◌, ◌≢◌, ℕ, ◌+◌, ◌-◌, ◌*◌, ◌<◌, ◌≤◌, Some, None, Result, Ok, Err, MatchResult, List, [], ◌∷◌, ◌++◌, append_assoc, refl, sym, ap}
use Rattle.std.proofs.Common.{◌∙◌, subst, inl, inr, arith}
use Rattle.std.specs.Int.{bit_at}
use Rattle.std.specs.List.{AllByRecursion}
use Rattle.std.proofs.lemmas.Bool.{cases_eq, cases_lt}
use Rattle.sg_words.specs.declared.steps.BlockWord.{BlockWord}
use Rattle.sg_words.specs.declared.steps.BlockWord.TheVariants.{Free, Swept, Need, Sweeping}
use Rattle.sg_words.specs.declared.steps.BlockStep.{BlockStep}
use Rattle.sg_words.specs.declared.steps.BlockStep.TheVariants.{LoadBlock, WonBlock, LostBlock, LoadUsed, OrUsed}
use Rattle.sg_words.specs.declared.steps.Step.{Step}
use Rattle.sg_words.specs.declared.steps.Step.TheVariants.{Load, Store, Won, Lost, OnBlock}
use Rattle.sg_words.specs.declared.steps.Call.{Call}
use Rattle.sg_words.specs.Calls.{call_of}
use Rattle.sg_words.specs.Blocks.{IsOwing}
use Rattle.sg_words.specs.Words.{Words}
use Rattle.sg_cells.specs.Made.{Makes, makes_then}
use Rattle.sg_slots.specs.declared.search.Found.TheVariants.{Free as IsFree, Slot, None as NoSlot}
use Rattle.sg_slots.specs.Looks.{AreLooks, MayLook}
use Rattle.sg_slots.specs.Claims.{IsOfClaim, IsOfClaimOn, Shows, KeepsKnown, ShowsGrowing, IsSettled, MayClaim, IsExchange, IsWon, IsLost, IsTried, Begins}
use Rattle.sg_slots.specs.Claims.{Opens, Misses, Claims}
use Rattle.sg_slots.proofs.Tries.{AreTries, all_append, passed_claims, HasFoundFree, HasFoundSlot, none_found, tries_free, tries_slot, tries_step, tries_pass}

-- a block that isn't free and isn't to be swept has slots of some size
swept_else : (state : BlockWord) → state ≢ Free → ((z : ℕ) → IsOwing state z → ⊥) → (z : ℕ) × (state ≡ Swept z)
swept_else Free n none = absurd (n refl)
swept_else (Swept size) n none = (size, refl)
swept_else (Need size) n none = absurd (none size refl)
swept_else (Sweeping size) n none = absurd (none size refl)

module _ {P : Type 0} (leads : P → List Step → P → Type 0) (sees : P → Step → Type 0) (size blocks : ℕ) where
  -- the last of several steps
  pub makes_last : (p : P) (es : List Step) (t : Step) (q : P) → Makes leads sees p (es ++ t ∷ []) q → (r : P) × Makes leads sees p es r × leads r (t ∷ []) q ×
      sees r t
  makes_last p [] t q h = (p, refl, subst (λ (z : P). leads p (t ∷ []) z) (sym h.3) h.1, h.2)
  makes_last p (e ∷ es) t q h = let m = makes_last h.0 es t q h.3 in (m.0, (h.0, h.1, h.2, m.1), m.2, m.3)

  -- what is known stays known over steps of a claim
  module _ (knows : P → Words) (shows : ShowsGrowing leads sees size blocks knows) where
    keeps_same : (w v : Words) → v ≡ w → KeepsKnown w v
    keeps_same w v e = record {
      swept = λ c z h. subst (λ (u : Words). u.block c ≡ Swept z) (sym e) h;
      owing = λ c z h. subst (λ (u : Words). IsOwing (u.block c) z) e h;
      bits = λ c i h. subst (λ (u : Words). bit_at (u.used c) i ≡ 1) (sym e) h;
    }

    keeps_chain : (u v w : Words) → KeepsKnown u v → KeepsKnown v w → KeepsKnown u w
    keeps_chain u v w k l = record {
      swept = λ c z h. l.swept c z (k.swept c z h);
      owing = λ c z h. k.owing c z (l.owing c z h);
      bits = λ c i h. l.bits c i (k.bits c i h);
    }

    keeps_one : (p q : P) (t : Step) → IsOfClaim size blocks t → sees p t → leads p (t ∷ []) q → KeepsKnown (knows p) (knows q)
    keeps_one p q (Load place saw) is seen led = elim is [ ]
    keeps_one p q (Store place new) is seen led = elim is [ ]
    keeps_one p q (Won place seen new) is see led = elim is [ ]
    keeps_one p q (Lost place seen new found) is see led = elim is [ ]
    keeps_one p q (OnBlock t) is seen led = (shows.keeps p q t is seen led).0

    pub keeps_all : (p : P) (es : List Step) (q : P) → AllByRecursion (IsOfClaim size blocks) es → Makes leads sees p es q → KeepsKnown (knows p) (knows q)
    keeps_all p [] q all made = keeps_same (knows p) (knows q) (ap knows made)
    keeps_all p (t ∷ ts) q all made = keeps_chain (knows p) (knows made.0) (knows q) (keeps_one p made.0 t all.0 made.2 made.1)
        (keeps_all made.0 ts q all.1 made.3)

  -- nothing is known of block c, or it is known to be swept and `known` bits less one to be set
  pub record KnowsBits (w : Words) (c known : ℕ) : Type 0 where
    pub few : known ≤ 65
    pub swept : 1 ≤ known → (z : ℕ) × (w.block c ≡ Swept z)
    pub bits : (i : ℕ) → i + 1 < known → bit_at (w.used c) i ≡ 1

  pub knows_none : (w : Words) (c : ℕ) → KnowsBits w c 0
  knows_none w c = record { few = omega arith; swept = λ l. absurd (omega arith); bits = λ i l. absurd (omega arith) }

  -- a claim under way from p on, at q
  pub record IsTrying (from known : ℕ) (p q : P) : Type 0 where
    pub knows : P → Words
    pub shows : ShowsGrowing leads sees size blocks knows
    pub es : List Step
    pub made : Makes leads sees p es q
    pub tries : AreTries size blocks from es
    pub tried : IsTried size blocks es from
    pub settled : IsSettled (knows q) blocks
    pub within : from ≤ blocks
    pub bits : KnowsBits (knows q) from known

  pub trying_first : (p : P) (knows : P → Words) → ShowsGrowing leads sees size blocks knows → IsSettled (knows p) blocks → AreTries size blocks 0 [] →
      IsTrying 0 0 p p
  trying_first p knows shows settled tries = record {
    knows = knows;
    shows = shows;
    es = [];
    made = refl;
    tries = tries;
    tried = Begins;
    settled = settled;
    within = omega arith;
    bits = knows_none (knows p) 0;
  }

  module _ (from known : ℕ) (p q : P) (try : IsTrying from known p q) where
    -- the search from here on is allowed
    pub may_look : (may : P → Call → Type 0) → MayClaim leads sees may size blocks p → MayLook leads sees may size blocks from q
    may_look may asks = record {
      block = λ n es r passed made there. asks (try.es ++ es) r (OnBlock (LoadBlock (from + n) Free))
          (all_append (IsOfClaim size blocks) try.es es try.tries.steps (passed_claims size from blocks n es passed (omega arith)))
          (makes_then leads sees p try.es q es r try.made made) there;
      used = λ n es r passed made there. asks (try.es ++ es ++ OnBlock (LoadBlock (from + n) (Swept size)) ∷ []) r (OnBlock (LoadUsed (from + n) 0))
          (let left = all_append (IsOfClaim size blocks) try.es es try.tries.steps (passed_claims size from blocks n es passed (omega arith)) in
          all_append (IsOfClaim size blocks) (try.es ++ es) (OnBlock (LoadBlock (from + n) (Swept size)) ∷ []) left (there, tt))
          (subst (λ (xs : List Step). Makes leads sees p xs r) (sym (append_assoc try.es es (OnBlock (LoadBlock (from + n) (Swept size)) ∷ [])))
          (makes_then leads sees p try.es q (es ++ OnBlock (LoadBlock (from + n) (Swept size)) ∷ []) r try.made made)) there;
    }

    -- a search has found the free block c
    module _ (c : ℕ) (fs : List Step) (r : P) (made : Makes leads sees q fs r) (looks : AreLooks size blocks from fs (IsFree c))
        (f : HasFoundFree size blocks from c fs) where
      all_made : Makes leads sees p (try.es ++ fs) r
      all_made = makes_then leads sees p try.es q fs r try.made made

      all_tries : AreTries size blocks c (try.es ++ fs)
      all_tries = tries_free size blocks from c try.es fs try.tries f

      pub may_swap : (may : P → Call → Type 0) → MayClaim leads sees may size blocks p → may r (call_of (OnBlock (WonBlock c Free (Swept size))))
      may_swap may asks = asks (try.es ++ fs) r (OnBlock (WonBlock c Free (Swept size))) all_tries.steps all_made (f.there, refl, refl)

      before_claims : AllByRecursion (IsOfClaim size blocks) f.before
      before_claims = let place = f.place in let there = f.there in passed_claims size from blocks f.n f.before f.passed (omega arith)

      last : (m : P) × Makes leads sees q f.before m × leads m (OnBlock (LoadBlock c Free) ∷ []) r × sees m (OnBlock (LoadBlock c Free))
      last = makes_last q f.before (OnBlock (LoadBlock c Free)) r (subst (λ (xs : List Step). Makes leads sees q xs r) f.parts made)

      kept : KeepsKnown (try.knows q) (try.knows r)
      kept = keeps_chain try.knows try.shows (try.knows q) (try.knows last.0) (try.knows r)
          (keeps_all try.knows try.shows q f.before last.0 before_claims last.1)
          (keeps_one try.knows try.shows last.0 r (OnBlock (LoadBlock c Free)) f.there last.3 last.2)

      -- it wasn't known to be swept
      free_unknown : (z : ℕ) → (try.knows q).block c ≡ Swept z → ⊥
      free_unknown z e =
          let k = keeps_all try.knows try.shows q f.before last.0 before_claims last.1 in
          let fits = try.shows.fits last.0 (LoadBlock c Free) f.there last.3 in
          let same = fits.swept z (k.swept c z e) in
          cc

      pub free_smaller : (blocks - c) * 66 + (66 - 1) < (blocks - from) * 66 + (66 - known)
      free_smaller =
          let place = f.place in
          let there = f.there in
          let few = try.bits.few in
          elim (cases_eq c from) [
            | inl e ↦ elim (cases_lt 0 known) [
              | inl some ↦ let s = try.bits.swept (omega arith) in absurd (free_unknown s.0 (subst (λ (k : ℕ). (try.knows q).block k ≡ Swept s.0) (sym e) s.1))
              | inr none ↦ omega arith
            ]
            | inr n ↦ omega arith
          ]

      settled_r : IsSettled (try.knows r) blocks
      settled_r = λ d z l h. try.settled d z l (kept.owing d z h)

      -- after the exchange it is known to be swept
      module _ (t : BlockStep) (u : P) (is : IsOfClaimOn size blocks t) (led : leads r (OnBlock t ∷ []) u) (seen : sees r (OnBlock t))
          (exchange : IsExchange size c t) (z : ℕ) (swept : (try.knows u).block c ≡ Swept z) where
        pub free_trying : IsTrying c 1 p u
        free_trying =
            let k = (try.shows.keeps r u t is seen led).0 in
            let there = f.there in
            record {
              knows = try.knows;
              shows = try.shows;
              es = (try.es ++ fs) ++ OnBlock t ∷ [];
              made = makes_then leads sees p (try.es ++ fs) r (OnBlock t ∷ []) u all_made (u, led, seen, refl);
              tries = tries_step size blocks c (try.es ++ fs) (OnBlock t) all_tries is;
              tried = Opens try.es fs from c t try.tried looks exchange;
              settled = λ d y l h. settled_r d y l (k.owing d y h);
              within = omega arith;
              bits = record { few = omega arith; swept = λ l. (z, swept); bits = λ i l. absurd (omega arith) };
            }

      pub won_trying : (u : P) → leads r (OnBlock (WonBlock c Free (Swept size)) ∷ []) u → sees r (OnBlock (WonBlock c Free (Swept size))) → IsTrying c 1 p u
      won_trying u led seen =
          let t = WonBlock c Free (Swept size) in
          let is : IsOfClaimOn size blocks t = (f.there, refl, refl) in
          free_trying t u is led seen IsWon size ((try.shows.keeps r u t is seen led).1 size refl)

      pub lost_trying : (u : P) (found : BlockWord) → leads r (OnBlock (LostBlock c Free (Swept size) found) ∷ []) u →
          sees r (OnBlock (LostBlock c Free (Swept size) found)) → IsTrying c 1 p u
      lost_trying u found led seen =
          let t = LostBlock c Free (Swept size) found in
          let is : IsOfClaimOn size blocks t = (f.there, refl, refl) in
          let shown = (try.shows.keeps r u t is seen led).1 in
          let fits = try.shows.fits r t is seen in
          let s = swept_else found shown.0 (λ z h. settled_r c z f.there (fits.owing z h)) in
          free_trying t u is led seen (IsLost found) s.0 (shown.1 s.0 s.1)

      -- whether the exchange is won or lost
      pub swapped : (u : P) (o : Result (Unit {0}) BlockWord) →
          MatchResult o (λ _. leads r (OnBlock (WonBlock c Free (Swept size)) ∷ []) u)
          (λ found. leads r (OnBlock (LostBlock c Free (Swept size) found) ∷ []) u) →
          MatchResult o (λ _. sees r (OnBlock (WonBlock c Free (Swept size)))) (λ found. sees r (OnBlock (LostBlock c Free (Swept size) found))) →
          IsTrying c 1 p u
      swapped u (Ok x) led seen = won_trying u led seen
      swapped u (Err found) led seen = lost_trying u found led seen

    -- a search has found slot i of block c clear
    module _ (c i : ℕ) (fs : List Step) (r : P) (made : Makes leads sees q fs r) (looks : AreLooks size blocks from fs (Slot c i))
        (f : HasFoundSlot size blocks from c i fs) where
      slot_made : Makes leads sees p (try.es ++ fs) r
      slot_made = makes_then leads sees p try.es q fs r try.made made

      slot_tries : AreTries size blocks c (try.es ++ fs)
      slot_tries = tries_slot size blocks from c i try.es fs try.tries f

      pub may_take : (may : P → Call → Type 0) → MayClaim leads sees may size blocks p → may r (call_of (OnBlock (OrUsed c i 0)))
      may_take may asks = asks (try.es ++ fs) r (OnBlock (OrUsed c i 0)) slot_tries.steps slot_made (f.there, f.lowest.within)

      slot_claims : AllByRecursion (IsOfClaim size blocks) f.before
      slot_claims = let place = f.place in let there = f.there in passed_claims size from blocks f.n f.before f.passed (omega arith)

      -- the states before the last two loads
      second : (m : P) × Makes leads sees q (f.before ++ OnBlock (LoadBlock c (Swept size)) ∷ []) m × leads m (OnBlock (LoadUsed c f.used) ∷ []) r ×
          sees m (OnBlock (LoadUsed c f.used))
      second = makes_last q (f.before ++ OnBlock (LoadBlock c (Swept size)) ∷ []) (OnBlock (LoadUsed c f.used)) r
          (subst (λ (xs : List Step). Makes leads sees q xs r) (f.parts ∙
          sym (append_assoc f.before (OnBlock (LoadBlock c (Swept size)) ∷ []) (OnBlock (LoadUsed c f.used) ∷ []))) made)

      first : (m : P) × Makes leads sees q f.before m × leads m (OnBlock (LoadBlock c (Swept size)) ∷ []) second.0 × sees m (OnBlock (LoadBlock c (Swept size)))
      first = makes_last q f.before (OnBlock (LoadBlock c (Swept size))) second.0 second.1

      kept_first : KeepsKnown (try.knows q) (try.knows first.0)
      kept_first = keeps_all try.knows try.shows q f.before first.0 slot_claims first.1

      at_load : KeepsKnown (try.knows first.0) (try.knows second.0) × Shows (LoadBlock c (Swept size)) (try.knows second.0)
      at_load = try.shows.keeps first.0 second.0 (LoadBlock c (Swept size)) f.there first.3 first.2

      at_used : KeepsKnown (try.knows second.0) (try.knows r) × Shows (LoadUsed c f.used) (try.knows r)
      at_used = try.shows.keeps second.0 r (LoadUsed c f.used) f.there second.3 second.2

      -- bit i wasn't known to be set
      slot_unknown : bit_at ((try.knows q).used c) i ≡ 1 → ⊥
      slot_unknown e =
          let fits = try.shows.fits second.0 (LoadUsed c f.used) f.there second.3 in
          let set = fits i (at_load.0.bits c i (kept_first.bits c i e)) in
          let clear = f.lowest.clear in
          omega arith

      pub slot_smaller : i < 64 → (blocks - c) * 66 + (66 - (i + 2)) < (blocks - from) * 66 + (66 - known)
      slot_smaller few_slots =
          let place = f.place in
          let there = f.there in
          let few = try.bits.few in
          elim (cases_eq c from) [
            | inl e ↦ elim (cases_lt (i + 1) known) [
              | inl below ↦ absurd (slot_unknown (subst (λ (k : ℕ). bit_at ((try.knows q).used k) i ≡ 1) (sym e) (try.bits.bits i below)))
              | inr above ↦ omega arith
            ]
            | inr n ↦ omega arith
          ]

      settled_slot : IsSettled (try.knows r) blocks
      settled_slot = λ d z l h. try.settled d z l (kept_first.owing d z (at_load.0.owing d z (at_used.0.owing d z h)))

      -- the bit that the claim found
      module _ (u : P) (found : ℕ) (led : leads r (OnBlock (OrUsed c i found) ∷ []) u) (seen : sees r (OnBlock (OrUsed c i found))) where
        slot_is : IsOfClaimOn size blocks (OrUsed c i found)
        slot_is = (f.there, f.lowest.within)

        pub slot_trying : i < 64 → bit_at found i ≡ 1 → IsTrying c (i + 2) p u
        slot_trying few_slots set =
            let k = try.shows.keeps r u (OrUsed c i found) slot_is seen led in
            let there = f.there in
            record {
              knows = try.knows;
              shows = try.shows;
              es = (try.es ++ fs) ++ OnBlock (OrUsed c i found) ∷ [];
              made = makes_then leads sees p (try.es ++ fs) r (OnBlock (OrUsed c i found) ∷ []) u slot_made (u, led, seen, refl);
              tries = tries_step size blocks c (try.es ++ fs) (OnBlock (OrUsed c i found)) slot_tries slot_is;
              tried = Misses try.es fs from c i found try.tried looks set;
              settled = λ d y l h. settled_slot d y l (k.0.owing d y h);
              within = omega arith;
              bits = record {
                few = omega arith;
                swept = λ l. (size, k.0.swept c size (at_used.0.swept c size (at_load.1 size refl)));
                bits = λ j l. elim (cases_eq j i) [
                  | inl e ↦ subst (λ (x : ℕ). bit_at ((try.knows u).used c) x ≡ 1) (sym e) k.1.0
                  | inr n ↦ k.0.bits c j (at_used.1 j (f.lowest.below j (omega arith)))
                ];
              };
            }

        pub slot_got : bit_at found i ≡ 0 → Claims leads sees size blocks p u (Some (c, i))
        slot_got clear = (
          try.es,
          fs,
          found,
          makes_then leads sees p (try.es ++ fs) r (OnBlock (OrUsed c i found) ∷ []) u slot_made (u, led, seen, refl),
          record { from = from; tried = try.tried; finds = looks; passed = slot_tries.passed },
          f.there,
          f.lowest.within,
          clear,
        )

    -- a search has found nothing
    pub none_claims : (fs : List Step) (r : P) → Makes leads sees q fs r → AreLooks size blocks from fs NoSlot → Claims leads sees size blocks p r None
    none_claims fs r made looks =
        let n = none_found size blocks from fs looks in
        let within = try.within in
        let e = n.2 in
        let end : from + n.0 ≡ blocks = omega arith in
        let tries = subst (λ (k : ℕ). AreTries size blocks k (try.es ++ fs)) end (tries_pass size blocks from n.0 try.es fs try.tries n.1 (omega arith)) in
        (try.es, fs, makes_then leads sees p try.es q fs r try.made made, record { from = from; tried = try.tried; finds = looks; passed = tries.passed })
