-- A port whose calls are done at once on a space shows blocks and bits that grow, while a claim makes its steps.
use Rattle.std.proofs.Common.{◌≡◌, ◌≢◌, ℕ, ◌^◌, Option, Some, None, List, [], ◌∷◌, ◌++◌, length, sym, ap, ◌∙◌, subst, arith}
use Rattle.std.specs.Int.{bit_at}
use Rattle.std.specs.Int.Bits.{bit_or}
use Rattle.sg_words.specs.declared.steps.BlockWord.{BlockWord}
use Rattle.sg_words.specs.declared.steps.BlockWord.TheVariants.{Free, Swept, Need, Sweeping}
use Rattle.sg_words.specs.declared.steps.BlockStep.{BlockStep}
use Rattle.sg_words.specs.declared.steps.BlockStep.TheVariants.{LoadBlock, WonBlock, LostBlock, StoreBlock, LoadUsed, OrUsed, StoreUsed, LoadMarks, OrMarks}
use Rattle.sg_words.specs.declared.steps.BlockStep.TheVariants.{StoreMarks, Zero}
use Rattle.sg_words.specs.declared.steps.Step.{Step}
use Rattle.sg_words.specs.declared.steps.Step.TheVariants.{Load, Store, Won, Lost, OnBlock}
use Rattle.sg_words.specs.Calls.{call_of}
use Rattle.sg_words.specs.Blocks.{IsOwing, IsSizeClass}
use Rattle.sg_words.specs.Words.{Words, Saw, SawBlock, after_block, put}
use Rattle.sg_words.proofs.Puts.{put-all, put-same}
use Rattle.sg_words.proofs.Blocks.{class_slots, bit_set, bit_kept}
use Rattle.sg_space.specs.Space.{Contents, words_of}
use Rattle.sg_frag.specs.Plain.{Led, MayCall}
use Rattle.sg_frag.specs.Leading.{led_none, led_chain}
use Rattle.sg_cells.specs.Made.{Makes, makes_lead}
use Rattle.sg_slots.specs.Claims.{IsOfClaim, IsOfClaimOn, FitsBlock, Fits, Shows, KeepsKnown, ShowsGrowing, Claims}

fits_block : (w saw : BlockWord) → w ≡ saw → FitsBlock w saw
fits_block w saw e = record { swept = λ z k. sym e ∙ k; owing = λ z o. subst (λ (b : BlockWord). IsOwing b z) (sym e) o }

fits_seen : (w : Words) (t : BlockStep) → SawBlock w t → Fits w t
fits_seen w (LoadBlock c saw) e = fits_block (w.block c) saw e
fits_seen w (WonBlock c seen new) e = tt
fits_seen w (LostBlock c seen new found) e = fits_block (w.block c) found e.0
fits_seen w (StoreBlock c new) e = tt
fits_seen w (LoadUsed c saw) e = λ i b. subst (λ (n : ℕ). bit_at n i ≡ 1) e b
fits_seen w (OrUsed c i found) e = λ j b. subst (λ (n : ℕ). bit_at n j ≡ 1) e b
fits_seen w (StoreUsed c new) e = tt
fits_seen w (LoadMarks c saw) e = tt
fits_seen w (OrMarks c i found) e = tt
fits_seen w (StoreMarks c new) e = tt
fits_seen w (Zero x) e = tt

keeps_same : (w : Words) → KeepsKnown w w
keeps_same w = record { swept = λ c z k. k; owing = λ c z o. o; bits = λ c i b. b }

abbrev IsNoSwept : BlockWord → Type 0
IsNoSwept Free = Unit {0}
IsNoSwept (Swept z) = ⊥
IsNoSwept (Need z) = Unit {0}
IsNoSwept (Sweeping z) = Unit {0}

free_swept : (state : BlockWord) (z : ℕ) → state ≡ Free → state ≢ Swept z
free_swept state z e k = subst IsNoSwept (sym e ∙ k) tt

-- an exchange from free to swept
keeps_won : (w : Words) (c size : ℕ) → w.block c ≡ Free → KeepsKnown w (record w { block = put w.block c (Swept size) })
keeps_won w c size e = record {
  swept = λ d z. put-all (λ (d : ℕ) (b : BlockWord). w.block d ≡ Swept z → b ≡ Swept z) w.block c (Swept size)
      (λ k. absurd (free_swept (w.block c) z e k)) (λ j n k. k) d;
  owing = λ d z. put-all (λ (d : ℕ) (b : BlockWord). IsOwing b z → IsOwing (w.block d) z) w.block c (Swept size) (λ o. absurd o) (λ j n o. o) d;
  bits = λ d i b. b;
}

-- one bit more
keeps_claimed : (w : Words) (c i : ℕ) → KeepsKnown w (record w { used = put w.used c (bit_or (w.used c) (2 ^ i)) })
keeps_claimed w c i = record {
  swept = λ d z k. k;
  owing = λ d z o. o;
  bits = λ d j. put-all (λ (d n : ℕ). bit_at (w.used d) j ≡ 1 → bit_at n j ≡ 1) w.used c (bit_or (w.used c) (2 ^ i))
      (λ b. bit_kept (w.used c) i j b) (λ k n b. b) d;
}

grown : (size blocks : ℕ) (w : Words) (t : BlockStep) → IsOfClaimOn size blocks t → SawBlock w t → KeepsKnown w (after_block w t) × Shows t (after_block w t)
grown size blocks w (LoadBlock c saw) is e = (keeps_same w, λ z k. e ∙ k)
grown size blocks w (WonBlock c seen new) is e = (
  subst (λ (b : BlockWord). KeepsKnown w (record w { block = put w.block c b })) (sym is.2) (keeps_won w c size (e ∙ is.1)),
  λ z k. put-same w.block c new ∙ k,
)
grown size blocks w (LostBlock c seen new found) is e = (keeps_same w, (λ f. e.1 (f ∙ sym is.1), λ z k. e.0 ∙ k))
grown size blocks w (StoreBlock c new) is e = absurd is
grown size blocks w (LoadUsed c saw) is e = (keeps_same w, λ i b. subst (λ (n : ℕ). bit_at n i ≡ 1) (sym e) b)
grown size blocks w (OrUsed c i found) is e =
    let now = put-same w.used c (bit_or (w.used c) (2 ^ i)) in (
      keeps_claimed w c i,
      (
        ap (λ (n : ℕ). bit_at n i) now ∙ bit_set (w.used c) i,
        λ j b. ap (λ (n : ℕ). bit_at n j) now ∙ bit_kept (w.used c) i j (ap (λ (n : ℕ). bit_at n j) e ∙ b),
      ),
    )
grown size blocks w (StoreUsed c new) is e = absurd is
grown size blocks w (LoadMarks c saw) is e = absurd is
grown size blocks w (OrMarks c i found) is e = absurd is
grown size blocks w (StoreMarks c new) is e = absurd is
grown size blocks w (Zero x) is e = absurd is

-- such a step is allowed on a space with so many blocks, and an occupancy for each
may_step : (s : Contents) (size blocks : ℕ) (t : Step) → IsSizeClass size → blocks ≡ length s.blocks → blocks ≡ length s.used → IsOfClaim size blocks t →
    MayCall s (call_of t)
may_step s size blocks (Load place saw) class words used is = absurd is
may_step s size blocks (Store place new) class words used is = absurd is
may_step s size blocks (Won place seen new) class words used is = absurd is
may_step s size blocks (Lost place seen new found) class words used is = absurd is
may_step s size blocks (OnBlock (LoadBlock c saw)) class words used is = omega arith
may_step s size blocks (OnBlock (WonBlock c seen new)) class words used is = let there = is.0 in omega arith
may_step s size blocks (OnBlock (LostBlock c seen new found)) class words used is = let there = is.0 in omega arith
may_step s size blocks (OnBlock (StoreBlock c new)) class words used is = absurd is
may_step s size blocks (OnBlock (LoadUsed c saw)) class words used is = omega arith
may_step s size blocks (OnBlock (OrUsed c i found)) class words used is =
    let there = is.0 in let fits = is.1 in let most = (class_slots size class).1 in (omega arith, omega arith)
may_step s size blocks (OnBlock (StoreUsed c new)) class words used is = absurd is
may_step s size blocks (OnBlock (LoadMarks c saw)) class words used is = absurd is
may_step s size blocks (OnBlock (OrMarks c i found)) class words used is = absurd is
may_step s size blocks (OnBlock (StoreMarks c new)) class words used is = absurd is
may_step s size blocks (OnBlock (Zero x)) class words used is = absurd is

-- a port over spaces: `now` is the space in a state of the port
module _ {P : Type 0} (leads : P → List Step → P → Type 0) (sees : P → Step → Type 0) (now : P → Contents)
    (led : (p q : P) (es : List Step) → leads p es q → Led (now p) es (now q)) (saw : (p : P) (t : Step) → sees p t → Saw (words_of (now p)) t) where
  makes_over : (p : P) (es : List Step) (q : P) → Makes leads sees p es q → Makes Led (λ s t. Saw (words_of s) t) (now p) es (now q)
  makes_over p [] q h = ap now h
  makes_over p (t ∷ ts) q h = (now h.0, led p h.0 (t ∷ []) h.1, saw p t h.2, makes_over h.0 ts q h.3)

  pub claims_over : (size blocks : ℕ) (p q : P) (r : Option (ℕ × ℕ)) → Claims leads sees size blocks p q r →
      Claims Led (λ s t. Saw (words_of s) t) size blocks (now p) (now q) r
  claims_over size blocks p q None h = (h.0, h.1, makes_over p (h.0 ++ h.1) q h.2, h.3)
  claims_over size blocks p q (Some place) h =
      (h.0, h.1, h.2, makes_over p ((h.0 ++ h.1) ++ OnBlock (OrUsed place.0 place.1 h.2) ∷ []) q h.3, h.4, h.5, h.6, h.7)

  pub shows_growing : (size blocks : ℕ) → ShowsGrowing leads sees size blocks (λ p. words_of (now p))
  shows_growing size blocks = record {
    fits = λ p t is seen. fits_seen (words_of (now p)) t (saw p (OnBlock t) seen);
    keeps = λ p q t is seen along.
        let e = (led p q (OnBlock t ∷ []) along).words in
        subst (λ (w : Words). KeepsKnown (words_of (now p)) w × Shows t w) (sym e) (grown size blocks (words_of (now p)) t is (saw p (OnBlock t) seen));
  }

  -- such a step is allowed wherever steps have led the port
  pub may_claim : (size : ℕ) (p : P) → IsSizeClass size → length (now p).used ≡ length (now p).blocks → (es : List Step) (q : P) (t : Step) →
      Makes leads sees p es q → IsOfClaim size (length (now p).blocks) t → MayCall (now q) (call_of t)
  may_claim size p class whole es q t made is =
      let to = makes_lead Led (λ s t. Saw (words_of s) t) led_none led_chain (now p) es (now q) (makes_over p es q made) in
      may_step (now q) size (length (now p).blocks) t class (sym to.keeps.blocks) (sym whole ∙ sym to.keeps.used) is

  -- what no step changes of the port is the same after a claim
  module _ {N : Type 0} (name : P → N) (same : (p q : P) (es : List Step) → leads p es q → name q ≡ name p) where
    makes_same : (p : P) (es : List Step) (q : P) → Makes leads sees p es q → name q ≡ name p
    makes_same p [] q h = ap name h
    makes_same p (t ∷ ts) q h = makes_same h.0 ts q h.3 ∙ same p h.0 (t ∷ []) h.1

    pub claims_same : (size blocks : ℕ) (p q : P) (r : Option (ℕ × ℕ)) → Claims leads sees size blocks p q r → name q ≡ name p
    claims_same size blocks p q None h = makes_same p (h.0 ++ h.1) q h.2
    claims_same size blocks p q (Some place) h = makes_same p ((h.0 ++ h.1) ++ OnBlock (OrUsed place.0 place.1 h.2) ∷ []) q h.3
