-- Who has yielded has its next statement before it.
use Rattle.std.proofs.Common.{◌≡◌, ◌≢◌, ℕ, nat_lt, if◌then◌else◌, Bool, true, false, List, [], ◌∷◌, inl, inr, sym, subst, ◌+◌}
use Rattle.sg_words.specs.declared.steps.Step.{Step}
use Rattle.sg_words.specs.declared.steps.Tick.{Tick}
use Rattle.sg_program.specs.declared.program.Statement.{Statement}
use Rattle.sg_program.specs.declared.program.Program.{Program}
use Rattle.sg_rules.specs.Rules.{Constants, Task, Search, Roam, Mid, Look, SeeBlock, Ask, Yielded, Actor, looking, ends_at, onward, Comes, BlockComes}
use Rattle.sg_rules.specs.Rules.{NextStep, Follows}
use Rattle.sg_rules.specs.Rules.Comes.{new_looks, look_goes_on, yields, claim_goes_on}
use Rattle.sg_rules.specs.Rules.BlockComes.{mature_begins, sees_full, sees_other, sees_sweeping, roams_on, roams_free, roams_swept}
use Rattle.sg_order.specs.Rest.{IsFirst}

abbrev Waits : Mid → List Statement → Type 0
Waits Yielded script = script ≢ []
Waits mid script = Unit {0}

either : (b : Bool) (s : Statement) (f : ℕ) (script : List Statement) → Waits (if b then Look s f else Ask s) script
either true s f script = tt
either false s f script = tt

looks : (lay : Constants) (s : Statement) (f : ℕ) (script : List Statement) → Waits (looking lay s f) script
looks lay s f script = either (nat_lt f lay.fragments) s f script

ends : (t : Task) (script : List Statement) → Waits (ends_at t) script
ends (Search s) script = tt
ends Roam script = tt

seen : (b : Bool) (t : Task) (c : ℕ) (script : List Statement) → Waits (if b then SeeBlock t false c else ends_at t) script
seen true t c script = tt
seen false t c script = ends t script

goes_through : (p : Program) (t : Task) (c : ℕ) (script : List Statement) → Waits (onward p t c) script
goes_through p t c script = seen (nat_lt c p.config.blocks) t c script

module _ (p : Program) (lay : Constants) where
  waits_then : (a : Actor) (t : Step) (d : Bool) (b : Actor) → Comes p lay a t d b → Waits b.mid b.script
  waits_then _ _ _ _ (new_looks a s rest making l) = looks lay s 0 rest
  waits_then _ _ _ _ (look_goes_on a s rest f next l) = looks lay s _ rest
  waits_then _ _ _ _ (yields a s rest word set) = λ e. (let q : s ∷ rest ≡ [] = e in cc q)
  waits_then _ _ _ _ (claim_goes_on a s rest f seen next later l) = looks lay s _ rest
  waits_then a t d b comes = tt

  waits_block : (a : Actor) (t : Step) (d : Bool) (b : Actor) → BlockComes p lay a t d b → Waits b.mid b.script
  waits_block _ _ _ _ (mature_begins a s rest mature) = goes_through p (Search s) 0 rest
  waits_block _ _ _ _ (sees_full a s rest c saw full) = goes_through p (Search s) (c + 1) rest
  waits_block _ _ _ _ (sees_other a s rest begins c z other) = goes_through p (Search s) (c + 1) rest
  waits_block _ _ _ _ (sees_sweeping a t rest begins c z may) = goes_through p t (c + 1) rest
  waits_block _ _ _ _ (roams_on a rest c) = goes_through p Roam c rest
  waits_block _ _ _ _ (roams_free a rest c) = goes_through p Roam (c + 1) rest
  waits_block _ _ _ _ (roams_swept a rest c z) = goes_through p Roam (c + 1) rest
  waits_block a t d b comes = tt

  waits_next : (a : Actor) (t : Step) (d : Bool) (b : Actor) → NextStep p lay a t d b → Waits b.mid b.script
  waits_next a t d b (inl comes) = waits_then a t d b comes
  waits_next a t d b (inr comes) = waits_block a t d b comes

  waits_along : (a : Actor) (ts : List Tick) (b : Actor) → Waits a.mid a.script → Follows p lay a ts b → Waits b.mid b.script
  waits_along a [] b w f = subst (λ (x : Actor). Waits x.mid x.script) (sym f) w
  waits_along a (t ∷ ts) b w f = waits_along f.0 ts b (waits_next a t.step t.decides f.0 f.1) f.2

  first_waits : (mid : Mid) (script : List Statement) → IsFirst mid → Waits mid script
  first_waits mid script (inl idle) = subst (λ (mid : Mid). Waits mid script) (sym idle) tt
  first_waits mid script (inr roams) = subst (λ (mid : Mid). Waits mid script) (sym roams) tt

  -- who has begun between two statements
  pub waiting : (a : Actor) (ts : List Tick) (b : Actor) → IsFirst a.mid → Follows p lay a ts b → b.mid ≡ Yielded → b.script ≢ []
  waiting a ts b first f yielded =
      subst (λ (mid : Mid). Waits mid b.script) yielded (waits_along a ts b (first_waits a.mid a.script first) f)
