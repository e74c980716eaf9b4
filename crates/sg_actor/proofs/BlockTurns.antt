-- The exchanges and claims of a search through the blocks, each of which begins a turn, over any port.
use Rattle.std.proofs.Common.{◌≡◌, ℕ, ◌<◌, true, false, Result, Ok, Err, MatchResult, [], ◌∷◌, inr, sym, ap, ◌∙◌, subst}
use Rattle.std.specs.Int.{bit_at}
use Rattle.std.proofs.lemmas.Nat.Bits.{bit_at-zero}
use Rattle.sg_words.specs.declared.steps.BlockWord.{BlockWord}
use Rattle.sg_words.specs.declared.steps.BlockWord.TheVariants.{Free, Swept, Need, Sweeping}
use Rattle.sg_words.specs.declared.steps.BlockStep.TheVariants.{WonBlock, LostBlock, OrUsed}
use Rattle.sg_words.specs.declared.steps.Step.{Step}
use Rattle.sg_words.specs.declared.steps.Step.TheVariants.{OnBlock}
use Rattle.sg_words.specs.declared.steps.Call.TheVariants.{OnBlocks}
use Rattle.sg_words.specs.declared.steps.BlockCall.TheVariants.{SwapsBlock, OrsUsed}
use Rattle.sg_words.specs.Calls.{call_of}
use Rattle.sg_cells.specs.Made.{Makes}
use Rattle.sg_program.specs.declared.program.Statement.{Statement}
use Rattle.sg_program.specs.Scripts.{made_slot}
use Rattle.sg_rules.specs.Rules.{Constants, Idle, Search, SeeBlock, StoreOccupancy, StoreLength, Mid}
use Rattle.sg_rules.specs.Rules.{Actor, onward, slot_front, within}
use Rattle.sg_rules.specs.Rules.BlockComes.{takes_block, misses_block, takes_slot, misses_slot, takes_over, misses_sweep}
use Rattle.sg_rules.specs.Acting.{Acts, RestsAt}
use Rattle.sg_rules.specs.Sane.{IsSearching}
use Rattle.sg_actor.specs.declared.mutator.Stage.{Stage}
use Rattle.sg_actor.specs.declared.mutator.Stage.TheVariants.{OpeningBlock, TakingSlot, TakingOver}
use Rattle.sg_actor.specs.State.{Mutating, actor_of, mid_of}
use Rattle.sg_actor.proofs.Ports.{Ports, On, Gone, Did, none_yet, may_act}
use Rattle.sg_actor.proofs.Turnings.{Turned, first_on, turned, on_as, gone_as, midst}
use Rattle.sg_actor.proofs.Resting.{rests_there, on_there}
use Rattle.sg_actor.proofs.Slots.{onward_at}

-- the search of m for the object of s, right before it looks at block c
abbrev pub again : Mutating → Statement → ℕ → Actor
again m s c = within (actor_of m) m.script (onward m.program (Search s) c)

-- a turn has begun with a step that led to b
pub record Led {P : Type 0} (o : Ports P) (m : Mutating) (lay : Constants) (x : P) (b : Actor) (y : P) : Type 0 where
  pub step : Step
  pub acts : Acts m.program lay (actor_of m) step b
  pub did : Did o m.program lay x step y

module _ {P : Type 0} (o : Ports P) (m : Mutating) (lay : Constants) (x : P)
    (on : On o m.program lay x (actor_of m)) (b : Actor) (y : P) (led : Led o m lay x b y) where
  pub led_on : On o m.program lay y b
  led_on = first_on o m.program lay (actor_of m) b x y led.step on led.acts led.did

  pub led_turned : (d : Actor) (z : P) → Gone o m.program lay b y d z → RestsAt d.mid → Turned o m.program lay (actor_of m) x d z
  led_turned d z gone rests = turned o m.program lay (actor_of m) b x y led.step on led.acts led.did d z gone rests

  -- the turn ends here
  pub led_ends : (d : Actor) → d ≡ b → RestsAt b.mid → Turned o m.program lay (actor_of m) x d y
  led_ends d is rests = subst (λ (e : Actor). Turned o m.program lay (actor_of m) x e y) (sym is) (led_turned b y (none_yet o m.program lay b y led_on) rests)

-- n is m, which goes on with its statement
module _ (m n : Mutating) (resumed : actor_of n ≡ within (actor_of m) m.script Idle) (same : n.program ≡ m.program) where
  pub goes_at : (mid : Mid) → within (actor_of n) n.script mid ≡ within (actor_of m) m.script mid
  goes_at mid = midst n (within (actor_of m) m.script Idle) mid resumed

  module _ (s : Statement) (c : ℕ) {P : Type 0} (o : Ports P) (lay : Constants) (y : P) where
    again_is : again n s c ≡ again m s c
    again_is = goes_at (onward n.program (Search s) c) ∙ ap (λ p. within (actor_of m) m.script (onward p (Search s) c)) same

    pub again_on : On o m.program lay y (again m s c) → On o n.program lay y (again n s c)
    again_on on = on_as o lay m.program n.program same (again m s c) (again n s c) again_is y on

    pub again_gone : (d : Actor) (z : P) → Gone o n.program lay (again n s c) y d z → Gone o m.program lay (again m s c) y d z
    again_gone d z gone = gone_as o lay m.program n.program same (again m s c) (again n s c) again_is y z d gone

module _ {P : Type 0} (o : Ports P) (m : Mutating) (lay : Constants) (s : Statement) (c : ℕ) (x : P) (on : On o m.program lay x (actor_of m)) where
  -- the mutator rests there, and a rule on blocks leads on
  module _ (at : Stage) (stage : m.stage ≡ at) where
    abbrev here : Actor
    here = within (actor_of m) m.script (mid_of at)

    here_on : On o m.program lay x here
    here_on = on_there m at stage o lay x on

    may : (t : Step) (b : Actor) → Acts m.program lay here t b → o.may x (call_of t)
    may t b n = may_act o m.program lay here here x x here_on (none_yet o m.program lay here x here_on) t n.0 b n.1

    led : (t : Step) (b : Actor) (y : P) → Acts m.program lay here t b → Did o m.program lay x t y → Led o m lay x b y
    led t b y n did = record { step = t; acts = subst (λ (a : Actor). Acts m.program lay a t b) (sym (rests_there m at stage)) n; did = did }

    led_again : (t : Step) (y : P) → IsSearching m.program s c → Acts m.program lay here t (within (actor_of m) m.script (SeeBlock (Search s) false c)) →
        Did o m.program lay x t y → Led o m lay x (again m s c) y
    led_again t y sane n did =
        led t (again m s c) y
        (subst (λ (mid : Mid). Acts m.program lay here t (within (actor_of m) m.script mid)) (sym (onward_at m.program s c sane.there)) n) did

  -- the exchange by which a free block gets slots
  module _ (stage : m.stage ≡ OpeningBlock s c) (size : ℕ) (is : size ≡ made_slot m.program s) where
    pub open_there : c < m.program.config.blocks
    open_there = (here_on (OpeningBlock s c) stage).guided.is_sane.there

    pub open_may : o.may x (OnBlocks (SwapsBlock c Free (Swept size)))
    open_may = subst (λ z. o.may x (OnBlocks (SwapsBlock c Free (Swept z)))) (sym is)
        (may (OpeningBlock s c) stage (OnBlock (WonBlock c Free (Swept (made_slot m.program s)))) _ (false, inr (takes_block (actor_of m) s m.script c)))

    pub opened : (y : P) (r : Result (Unit {0}) BlockWord) →
        MatchResult r (λ _. o.leads x (OnBlock (WonBlock c Free (Swept size)) ∷ []) y)
        (λ found. o.leads x (OnBlock (LostBlock c Free (Swept size) found) ∷ []) y) →
        MatchResult r (λ _. o.sees x (OnBlock (WonBlock c Free (Swept size)))) (λ found. o.sees x (OnBlock (LostBlock c Free (Swept size) found))) →
        Led o m lay x (again m s c) y
    opened y (Ok u) on seen =
        led_again (OpeningBlock s c) stage _ y (here_on (OpeningBlock s c) stage).guided.is_sane (false, inr (takes_block (actor_of m) s m.script c))
        (subst (λ z. Did o m.program lay x (OnBlock (WonBlock c Free (Swept z))) y) is (seen, on))
    opened y (Err found) on seen =
        led_again (OpeningBlock s c) stage _ y (here_on (OpeningBlock s c) stage).guided.is_sane (false, inr (misses_block (actor_of m) s m.script c found))
        (subst (λ z. Did o m.program lay x (OnBlock (LostBlock c Free (Swept z) found)) y) is (seen, on))

  -- the claim of a slot
  module _ (i : ℕ) (stage : m.stage ≡ TakingSlot s c i) where
    pub take_there : c < m.program.config.blocks
    take_there = (here_on (TakingSlot s c i) stage).guided.is_sane.0.there

    pub take_may : o.may x (OnBlocks (OrsUsed c i))
    take_may = may (TakingSlot s c i) stage (OnBlock (OrUsed c i 0)) _ (true, inr (takes_slot (actor_of m) s m.script c i 0 (bit_at-zero i)))

    module _ (y : P) (found : ℕ) (did : Did o m.program lay x (OnBlock (OrUsed c i found)) y) where
      pub took : bit_at found i ≡ 0 → Led o m lay x (within (actor_of m) m.script (StoreLength s (slot_front m.program c (made_slot m.program s) i))) y
      took clear = led (TakingSlot s c i) stage _ _ y (true, inr (takes_slot (actor_of m) s m.script c i found clear)) did

      pub missed : bit_at found i ≡ 1 → Led o m lay x (again m s c) y
      missed set = led_again (TakingSlot s c i) stage _ y (here_on (TakingSlot s c i) stage).guided.is_sane.0
          (false, inr (misses_slot (actor_of m) s m.script c i found set)) did

  -- the exchange by which it takes the sweep of a block over
  module _ (z : ℕ) (stage : m.stage ≡ TakingOver s c z) where
    pub over_there : c < m.program.config.blocks
    over_there = (here_on (TakingOver s c z) stage).guided.is_sane.there

    pub over_may : o.may x (OnBlocks (SwapsBlock c (Need z) (Sweeping z)))
    over_may = may (TakingOver s c z) stage (OnBlock (WonBlock c (Need z) (Sweeping z))) _ (false, inr (takes_over (actor_of m) (Search s) m.script c z))

    did : (y : P) (t : Step) → Makes o.leads o.sees x (t ∷ []) y → Did o m.program lay x t y
    did y t made = (made.2, subst (λ (u : P). o.leads x (t ∷ []) u) (sym made.3) made.1)

    pub won_over : (y : P) → Makes o.leads o.sees x (OnBlock (WonBlock c (Need z) (Sweeping z)) ∷ []) y →
        Led o m lay x (within (actor_of m) m.script (StoreOccupancy (Search s) c z)) y
    won_over y made = led (TakingOver s c z) stage _ _ y (false, inr (takes_over (actor_of m) (Search s) m.script c z)) (did y _ made)

    pub lost_over : (y : P) (found : BlockWord) → Makes o.leads o.sees x (OnBlock (LostBlock c (Need z) (Sweeping z) found) ∷ []) y →
        Led o m lay x (again m s c) y
    lost_over y found made = led_again (TakingOver s c z) stage _ y (here_on (TakingOver s c z) stage).guided.is_sane.task
        (false, inr (misses_sweep (actor_of m) (Search s) m.script c z found)) (did y _ made)
