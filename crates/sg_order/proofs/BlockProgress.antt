-- Nor is an actor ever stuck in a search or in a sweep: whatever a call for a next step of it sees, some rule applies.
use Rattle.std.proofs.Common.{◌≡◌, ℕ, zero, suc, ◌<◌, ◌⊎◌, Bool, true, false, List, ap, ap₂, sym, ◌∙◌, subst, inl, inr, refl, arith}
use Rattle.std.proofs.lemmas.Bool.{cases_eq}
use Rattle.std.specs.Int.{bit_at}
use Rattle.sg_words.specs.Blocks.{IsOf, slots}
use Rattle.sg_words.specs.Calls.{block_call_of, call_of}
use Rattle.sg_words.specs.Words.{Words, SawBlock, Saw}
use Rattle.sg_words.specs.declared.steps.Place.TheVariants.{Stop}
use Rattle.sg_words.specs.declared.steps.Step.{Step}
use Rattle.sg_words.specs.declared.steps.Step.TheVariants.{Load, Store, Won, Lost, OnBlock}
use Rattle.sg_words.specs.declared.steps.Call.TheVariants.{Loads, OnBlocks}
use Rattle.sg_words.specs.declared.steps.BlockWord.{BlockWord}
use Rattle.sg_words.specs.declared.steps.BlockWord.TheVariants.{Free, Swept, Need, Sweeping}
use Rattle.sg_words.specs.declared.steps.BlockStep.{BlockStep}
use Rattle.sg_words.specs.declared.steps.BlockStep.TheVariants.{LoadBlock, WonBlock, LostBlock, StoreBlock, LoadUsed, OrUsed, StoreUsed, Zero}
use Rattle.sg_words.specs.declared.steps.BlockCall.{BlockCall}
use Rattle.sg_words.specs.declared.steps.BlockCall.TheVariants.{LoadsBlock, SwapsBlock, StoresBlock, LoadsUsed, OrsUsed, StoresUsed, Zeroes}
use Rattle.sg_words.proofs.Blocks.{bit_cases}
use Rattle.sg_program.specs.declared.program.Statement.{Statement}
use Rattle.sg_program.specs.declared.program.Program.{Program}
use Rattle.sg_program.specs.declared.answers.Answer.{Answer}
use Rattle.sg_program.specs.Scripts.{made_slot}
use Rattle.sg_graph.specs.Graph.{Graph}
use Rattle.sg_graph.specs.Book.{Book}
use Rattle.sg_graph.specs.Heap.{Owner}
use Rattle.sg_rules.specs.Rules.{Constants, Task, Search, Roam, SeeBlock, TakeBlock, SeeUsed, TakeSlot, TakeOver, Actor, MaySee, AreTaken, within, BlockComes}
use Rattle.sg_rules.specs.Rules.BlockComes.{mature_begins, sees_free, takes_block, misses_block, sees_size, sees_full, sees_slot, takes_slot, misses_slot}
use Rattle.sg_rules.specs.Rules.BlockComes.{sees_other, sees_sweeping, sees_need, takes_over, misses_sweep, stores_occupancy, clears_first, clears_next, clears_last}
use Rattle.sg_rules.specs.Rules.BlockComes.{ends_sweep, roams_on, retires, roams_free, roams_swept}
use Rattle.sg_order.proofs.Relation.{Ground, Stands}
use Rattle.sg_order.proofs.Beside.{Beside}
use Rattle.sg_order.proofs.Progress.{loads, GoesOn, begins}

-- a call on blocks is for a step on blocks
record IsOnBlocks (w : Words) (call : BlockCall) (other : Step) : Type 0 where
  step : BlockStep
  is : other ≡ OnBlock step
  called : block_call_of step ≡ call
  saw : SawBlock w step

on_blocks : (w : Words) (call : BlockCall) (other : Step) → call_of other ≡ OnBlocks call → Saw w other → IsOnBlocks w call other
on_blocks w call (Load place seen) e saw = cc
on_blocks w call (Store place new) e saw = cc
on_blocks w call (Won place from new) e saw = cc
on_blocks w call (Lost place from new found) e saw = cc
on_blocks w call (OnBlock step) e saw = record { step = step; is = refl; called = cc; saw = saw }

-- what each call on blocks sees
loads_block : (w : Words) (c : ℕ) (s : BlockStep) → block_call_of s ≡ LoadsBlock c → SawBlock w s → s ≡ LoadBlock c (w.block c)
loads_block w c (LoadBlock d seen) e saw = let at : d ≡ c = cc in ap₂ LoadBlock at (sym saw ∙ ap w.block at)
loads_block w c s e saw = cc

loads_used : (w : Words) (c : ℕ) (s : BlockStep) → block_call_of s ≡ LoadsUsed c → SawBlock w s → s ≡ LoadUsed c (w.used c)
loads_used w c (LoadUsed d seen) e saw = let at : d ≡ c = cc in ap₂ LoadUsed at (sym saw ∙ ap w.used at)
loads_used w c s e saw = cc

ors_used : (w : Words) (c i : ℕ) (s : BlockStep) → block_call_of s ≡ OrsUsed c i → SawBlock w s → s ≡ OrUsed c i (w.used c)
ors_used w c i (OrUsed d j found) e saw =
    let at : d ≡ c = cc in let bit : OrUsed d j found ≡ OrUsed c i found = cc in bit ∙ ap (OrUsed c i) (sym saw ∙ ap w.used at)
ors_used w c i s e saw = cc

stores_used : (c new : ℕ) (s : BlockStep) → block_call_of s ≡ StoresUsed c new → s ≡ StoreUsed c new
stores_used c new (StoreUsed d v) e = cc
stores_used c new s e = cc

stores_block : (c : ℕ) (new : BlockWord) (s : BlockStep) → block_call_of s ≡ StoresBlock c new → s ≡ StoreBlock c new
stores_block c new (StoreBlock d v) e = cc
stores_block c new s e = cc

zeroes : (x : ℕ) (s : BlockStep) → block_call_of s ≡ Zeroes x → s ≡ Zero x
zeroes x (Zero y) e = cc
zeroes x s e = cc

-- an exchange of a block's word is won, or lost to some word
swaps_block : (w : Words) (c : ℕ) (seen new : BlockWord) (s : BlockStep) → block_call_of s ≡ SwapsBlock c seen new →
    (s ≡ WonBlock c seen new) ⊎ ((found : BlockWord) × (s ≡ LostBlock c seen new found))
swaps_block w c seen new (WonBlock d old v) e = inl (cc)
swaps_block w c seen new (LostBlock d old v found) e = inr (found, cc)
swaps_block w c seen new s e = cc

-- the first n bits are set, or there is a lowest clear one
lowest_clear : (u n : ℕ) → AreTaken u n ⊎ ((i : ℕ) × (i < n) × (bit_at u i ≡ 0) × AreTaken u i)
lowest_clear u zero = inl (λ i l. absurd (omega arith))
lowest_clear u (suc n) = elim (lowest_clear u n) [
  | inr h ↦ inr (h.0, (let l = h.1 in omega arith), h.2, h.3)
  | inl full ↦ elim (bit_cases u n) [
    | inr clear ↦ inr (n, omega arith, clear, full)
    | inl set ↦ inl (λ i l. elim (cases_eq i n) [ inl e ↦ ap (bit_at u) e ∙ set | inr d ↦ full i (omega arith) ])
  ]
]

module _ (p : Program) (lay : Constants) (w : Words) (g : Graph) (b : Book) (said : ℕ → List Answer) (by : ℕ → ℕ) (k : ℕ) (owner : ℕ → Owner)
    (t : Ground p lay w g b owner) where
  by_block_rule : (a : Actor) (step : Step) (d : Bool) (a' : Actor) → BlockComes p lay a step d a' → (other : Step) → other ≡ step → GoesOn p lay a other
  by_block_rule a step d a' rule other e = subst (λ o. GoesOn p lay a o) (sym e) (a', (d, inr rule))

  -- the same, of a call on blocks
  by_rule_on : (a : Actor) (step : BlockStep) (d : Bool) (a' : Actor) → BlockComes p lay a (OnBlock step) d a' → (other : Step) (s : BlockStep) →
      other ≡ OnBlock s → s ≡ step → GoesOn p lay a other
  by_rule_on a step d a' rule other s is e = by_block_rule a (OnBlock step) d a' rule other (is ∙ ap OnBlock e)

  module _ (a : Actor) (rest : List Statement) where
    -- a look at a block's word
    search_sees : (s : Statement) (begins : Bool) (c : ℕ) → c < p.config.blocks → (state : BlockWord) → w.block c ≡ state →
        GoesOn p lay (within a rest (SeeBlock (Search s) begins c)) (OnBlock (LoadBlock c state))
    search_sees s begins c there Free e = by_block_rule _ _ _ _ (sees_free a s rest begins c) _ refl
    search_sees s begins c there (Swept z) e = elim (cases_eq z (made_slot p s)) [
      | inl same ↦ by_block_rule _ _ _ _ (sees_size a s rest begins c) _ (ap (λ z. OnBlock (LoadBlock c (Swept z))) same)
      | inr other ↦ by_block_rule _ _ _ _ (sees_other a s rest begins c z other) _ refl
    ]
    search_sees s begins c there (Need z) e =
        by_block_rule _ _ _ _ (sees_need a (Search s) rest begins c z tt (t.blocks.sized c z there (subst (λ state. IsOf state z) (sym e) refl))) _ refl
    search_sees s begins c there (Sweeping z) e = by_block_rule _ _ _ _ (sees_sweeping a (Search s) rest begins c z tt) _ refl

    roam_sees : (c : ℕ) → c < p.config.blocks → (state : BlockWord) → w.block c ≡ state →
        GoesOn p lay (within a rest (SeeBlock Roam false c)) (OnBlock (LoadBlock c state))
    roam_sees c there Free e = by_block_rule _ _ _ _ (roams_free a rest c) _ refl
    roam_sees c there (Swept z) e = by_block_rule _ _ _ _ (roams_swept a rest c z) _ refl
    roam_sees c there (Need z) e =
        by_block_rule _ _ _ _ (sees_need a Roam rest false c z tt (t.blocks.sized c z there (subst (λ state. IsOf state z) (sym e) refl))) _ refl
    roam_sees c there (Sweeping z) e = by_block_rule _ _ _ _ (sees_sweeping a Roam rest false c z tt) _ refl

    task_sees : (u : Task) (begins : Bool) (c : ℕ) → MaySee u begins → c < p.config.blocks →
        GoesOn p lay (within a rest (SeeBlock u begins c)) (OnBlock (LoadBlock c (w.block c)))
    task_sees (Search s) begins c may there = search_sees s begins c there (w.block c) refl
    task_sees Roam true c may there = absurd may
    task_sees Roam false c may there = roam_sees c there (w.block c) refl

    look_comes : (u : Task) (begins : Bool) (c : ℕ) → MaySee u begins → Beside p lay w b by k (SeeBlock u begins c) → (other : Step) →
        call_of other ≡ OnBlocks (LoadsBlock c) → Saw w other → GoesOn p lay (within a rest (SeeBlock u begins c)) other
    look_comes u begins c may be other e saw =
        let o = on_blocks w (LoadsBlock c) other e saw in
        subst (λ s. GoesOn p lay (within a rest (SeeBlock u begins c)) s) (sym (o.is ∙ ap OnBlock (loads_block w c o.step o.called o.saw)))
        (task_sees u begins c may (be.at.1 may))

    -- an exchange of a block's word
    take_comes : (s : Statement) (c : ℕ) → (other : Step) → call_of other ≡ OnBlocks (SwapsBlock c Free (Swept (made_slot p s))) → Saw w other →
        GoesOn p lay (within a rest (TakeBlock s c)) other
    take_comes s c other e saw =
        let o = on_blocks w (SwapsBlock c Free (Swept (made_slot p s))) other e saw in
        elim (swaps_block w c Free (Swept (made_slot p s)) o.step o.called) [
          | inl won ↦ by_rule_on _ _ _ _ (takes_block a s rest c) other o.step o.is won
          | inr lost ↦ by_rule_on _ _ _ _ (misses_block a s rest c lost.0) other o.step o.is lost.1
        ]

    over_comes : (u : Task) (c z : ℕ) → (other : Step) → call_of other ≡ OnBlocks (SwapsBlock c (Need z) (Sweeping z)) → Saw w other →
        GoesOn p lay (within a rest (TakeOver u c z)) other
    over_comes u c z other e saw =
        let o = on_blocks w (SwapsBlock c (Need z) (Sweeping z)) other e saw in
        elim (swaps_block w c (Need z) (Sweeping z) o.step o.called) [
          | inl won ↦ by_rule_on _ _ _ _ (takes_over a u rest c z) other o.step o.is won
          | inr lost ↦ by_rule_on _ _ _ _ (misses_sweep a u rest c z lost.0) other o.step o.is lost.1
        ]

    -- a look at an occupancy, and a claim
    used_comes : (s : Statement) (c : ℕ) → (other : Step) → call_of other ≡ OnBlocks (LoadsUsed c) → Saw w other →
        GoesOn p lay (within a rest (SeeUsed s c)) other
    used_comes s c other e saw =
        let o = on_blocks w (LoadsUsed c) other e saw in
        let is = loads_used w c o.step o.called o.saw in
        elim (lowest_clear (w.used c) (slots (made_slot p s))) [
          | inl full ↦ by_rule_on _ _ _ _ (sees_full a s rest c (w.used c) full) other o.step o.is is
          | inr h ↦ by_rule_on _ _ _ _ (sees_slot a s rest c h.0 (w.used c) h.1 h.2 h.3) other o.step o.is is
        ]

    claim_comes : (s : Statement) (c i : ℕ) → (other : Step) → call_of other ≡ OnBlocks (OrsUsed c i) → Saw w other →
        GoesOn p lay (within a rest (TakeSlot s c i)) other
    claim_comes s c i other e saw =
        let o = on_blocks w (OrsUsed c i) other e saw in
        let is = ors_used w c i o.step o.called o.saw in
        elim (bit_cases (w.used c) i) [
          | inl set ↦ by_rule_on _ _ _ _ (misses_slot a s rest c i (w.used c) set) other o.step o.is is
          | inr clear ↦ by_rule_on _ _ _ _ (takes_slot a s rest c i (w.used c) clear) other o.step o.is is
        ]

    -- the sweeper's load of the stop word
    roam_comes : (c : ℕ) → (other : Step) → call_of other ≡ Loads Stop → Saw w other → GoesOn p lay (within a rest (SeeBlock Roam true c)) other
    roam_comes c other e saw = elim (cases_eq w.stop 0) [
      | inl z ↦ by_block_rule _ _ _ _ (roams_on a rest c) other (loads w Stop other e saw ∙ ap (Load Stop) z)
      | inr set ↦ by_block_rule _ _ _ _ (retires a rest c w.stop set) other (loads w Stop other e saw)
    ]

  -- a store is one, whatever there was
  zero_comes : (a : Actor) (x : ℕ) (d : Bool) (a' : Actor) → BlockComes p lay a (OnBlock (Zero x)) d a' → (other : Step) →
      call_of other ≡ OnBlocks (Zeroes x) → Saw w other → GoesOn p lay a other
  zero_comes a x d a' rule other e saw =
      let o = on_blocks w (Zeroes x) other e saw in by_rule_on a (Zero x) d a' rule other o.step o.is (zeroes x o.step o.called)

  -- one line for each rule
  pub goes_on_blocks : (a : Actor) (step : Step) (d : Bool) (a' : Actor) → BlockComes p lay a step d a' → Stands p lay w g b said k a →
      Beside p lay w b by k a.mid → (other : Step) → call_of other ≡ call_of step → Saw w other → GoesOn p lay a other
  goes_on_blocks _ _ _ _ (mature_begins a s rest mature) st be other e saw = begins p lay w g b said k owner t a rest s st other e saw
  goes_on_blocks _ _ _ _ (sees_free a s rest begins c) st be other e saw = look_comes a rest (Search s) begins c tt be other e saw
  goes_on_blocks _ _ _ _ (takes_block a s rest c) st be other e saw = take_comes a rest s c other e saw
  goes_on_blocks _ _ _ _ (misses_block a s rest c found) st be other e saw = take_comes a rest s c other e saw
  goes_on_blocks _ _ _ _ (sees_size a s rest begins c) st be other e saw = look_comes a rest (Search s) begins c tt be other e saw
  goes_on_blocks _ _ _ _ (sees_full a s rest c u full) st be other e saw = used_comes a rest s c other e saw
  goes_on_blocks _ _ _ _ (sees_slot a s rest c i u l o below) st be other e saw = used_comes a rest s c other e saw
  goes_on_blocks _ _ _ _ (takes_slot a s rest c i found o) st be other e saw = claim_comes a rest s c i other e saw
  goes_on_blocks _ _ _ _ (misses_slot a s rest c i found o) st be other e saw = claim_comes a rest s c i other e saw
  goes_on_blocks _ _ _ _ (sees_other a s rest begins c z o) st be other e saw = look_comes a rest (Search s) begins c tt be other e saw
  goes_on_blocks _ _ _ _ (sees_sweeping a u rest begins c z may) st be other e saw = look_comes a rest u begins c may be other e saw
  goes_on_blocks _ _ _ _ (sees_need a u rest begins c z may class) st be other e saw = look_comes a rest u begins c may be other e saw
  goes_on_blocks _ _ _ _ (takes_over a u rest c z) st be other e saw = over_comes a rest u c z other e saw
  goes_on_blocks _ _ _ _ (misses_sweep a u rest c z found) st be other e saw = over_comes a rest u c z other e saw
  goes_on_blocks _ _ _ _ (stores_occupancy a u rest c z) st be other e saw =
      let o = on_blocks w (StoresUsed c (lay.marks c)) other e saw in
      by_rule_on _ _ _ _ (stores_occupancy a u rest c z) other o.step o.is (stores_used c (lay.marks c) o.step o.called)
  goes_on_blocks _ _ _ _ (clears_first a u rest c z i j le f marked o one) st be other e saw =
      zero_comes _ _ _ _ (clears_first a u rest c z i j le f marked o one) other e saw
  goes_on_blocks _ _ _ _ (clears_next a u rest c z i f l) st be other e saw = zero_comes _ _ _ _ (clears_next a u rest c z i f l) other e saw
  goes_on_blocks _ _ _ _ (clears_last a u rest c z i f l) st be other e saw = zero_comes _ _ _ _ (clears_last a u rest c z i f l) other e saw
  goes_on_blocks _ _ _ _ (ends_sweep a u rest c z i marked) st be other e saw =
      let o = on_blocks w _ other e saw in by_rule_on _ _ _ _ (ends_sweep a u rest c z i marked) other o.step o.is (stores_block c _ o.step o.called)
  goes_on_blocks _ _ _ _ (roams_on a rest c) st be other e saw = roam_comes a rest c other e saw
  goes_on_blocks _ _ _ _ (retires a rest c v set) st be other e saw = roam_comes a rest c other e saw
  goes_on_blocks _ _ _ _ (roams_free a rest c) st be other e saw = look_comes a rest Roam false c tt be other e saw
  goes_on_blocks _ _ _ _ (roams_swept a rest c z) st be other e saw = look_comes a rest Roam false c tt be other e saw
