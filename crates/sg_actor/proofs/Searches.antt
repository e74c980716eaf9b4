-- The search for a fragment with room, and the exchange of its next word, over any port.
use Rattle.std.proofs.Common.{◌≡◌, ℕ, ◌+◌, ◌*◌, ◌<◌, ◌≤◌, false, refl, ap, subst, arith}
use Rattle.sg_words.specs.Address.{byte_at, word_at}
use Rattle.sg_words.specs.declared.steps.Place.TheVariants.{Stop, Next}
use Rattle.sg_words.specs.declared.steps.Step.TheVariants.{Load, Store}
use Rattle.sg_words.specs.declared.steps.Call.TheVariants.{Loads, Stores}
use Rattle.sg_program.specs.declared.program.Statement.{Statement}
use Rattle.sg_program.specs.Scripts.{made_words}
use Rattle.sg_rules.specs.Rules.{Constants, Mid, Look, Claim, Ask, Left, Actor, within, looking}
use Rattle.sg_rules.specs.Rules.Comes.{look_finds, look_goes_on, asks}
use Rattle.sg_actor.specs.State.{Mutating, actor_of}
use Rattle.sg_actor.proofs.Ports.{Ports, On, Gone, Did, on_then, loads_may, loads_saw, loads_done, stores_may, stores_done}
use Rattle.sg_actor.proofs.Facts.{looks_at, looks_past}

-- who asks sets the stop word
module _ {P : Type 0} (o : Ports P) (m : Mutating) (lay : Constants) (s : Statement) (a : Actor) (x y : P) (on : On o m.program lay x a)
    (gone : Gone o m.program lay a x (within (actor_of m) m.script (Ask s)) y) where
  abbrev asking : Actor
  asking = within (actor_of m) m.script (Ask s)

  pub stop_may : o.may y (Stores Stop 1)
  stop_may = stores_may o m.program lay a asking x y on gone Stop Stop refl false _ 1 1 refl (asks (actor_of m) m.script s)

  pub stop_done : (z : P) (b : Actor) → b ≡ within (actor_of m) m.script (Left s) → Did o m.program lay y (Store Stop 1) z → Gone o m.program lay a x b z
  stop_done z b e did = stores_done o m.program lay a asking x y on gone Stop Stop refl false _ 1 1 refl (asks (actor_of m) m.script s) z b (λ r. r) e did

module _ {P : Type 0} (o : Ports P) (m : Mutating) (lay : Constants) (s : Statement) (a : Actor) (x : P) (on : On o m.program lay x a) (f : ℕ) (y : P)
    (gone : Gone o m.program lay a x (within (actor_of m) m.script (looking lay s f)) y) where
  -- all were looked at
  pub search_ends : lay.fragments ≤ f → Gone o m.program lay a x (within (actor_of m) m.script (Ask s)) y
  search_ends l = subst (λ (mid : Mid). Gone o m.program lay a x (within (actor_of m) m.script mid) y) (looks_past lay s f l) gone

  module _ (l : f < lay.fragments) where
    abbrev there : Actor
    there = within (actor_of m) m.script (Look s f)

    looks : Gone o m.program lay a x there y
    looks = subst (λ (mid : Mid). Gone o m.program lay a x (within (actor_of m) m.script mid) y) (looks_at lay s f l) gone

    limit_is : o.limit y f ≡ lay.limit f
    limit_is = ap (λ (g : ℕ → ℕ). g f) (on_then o m.program lay a _ x y on gone).limits_are

    full : lay.limit f < lay.limit f + made_words m.program s
    full = omega arith

    pub look_may : o.may y (Loads (Next f))
    look_may = loads_may o m.program lay a there x y on looks (Next f) (Next f) refl false _ (byte_at (lay.limit f)) (look_goes_on (actor_of m) s m.script f (lay.limit f) full)

    module _ (z : P) (seen : ℕ) (did : Did o m.program lay y (Load (Next f) seen) z) where
      whole : seen ≡ byte_at (word_at seen)
      whole =
          let at = loads_saw o m.program lay a there x y on looks (Next f) (Next f) refl false _ (byte_at (lay.limit f)) seen (look_goes_on (actor_of m) s m.script f (lay.limit f) full) did.0 in
          let is : seen ≡ 8 * at.0 = at.1 in omega arith

      as_whole : Did o m.program lay y (Load (Next f) (byte_at (word_at seen))) z
      as_whole = subst (λ v. Did o m.program lay y (Load (Next f) v) z) whole did

      pub search_finds : word_at seen + made_words m.program s ≤ o.limit y f → (b : Actor) → b ≡ within (actor_of m) m.script (Claim s f (word_at seen)) → Gone o m.program lay a x b z
      search_finds room b e =
          loads_done o m.program lay a there x y on looks (Next f) (Next f) refl false _ z (byte_at (word_at seen)) b (λ r. r)
          (look_finds (actor_of m) s m.script f (word_at seen) (subst (λ n. word_at seen + made_words m.program s ≤ n) limit_is room)) e as_whole

      pub search_goes_on : o.limit y f < word_at seen + made_words m.program s → Gone o m.program lay a x (within (actor_of m) m.script (looking lay s (f + 1))) z
      search_goes_on short =
          loads_done o m.program lay a there x y on looks (Next f) (Next f) refl false _ z (byte_at (word_at seen)) _ (λ r. r)
          (look_goes_on (actor_of m) s m.script f (word_at seen) (subst (λ n. n < word_at seen + made_words m.program s) limit_is short)) refl as_whole
