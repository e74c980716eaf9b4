-- A port's members, and one step more of a turn over any port.
use Rattle.std.proofs.Common.{◌≡◌, ℕ, Bool, List, [], ◌∷◌, ◌++◌, inl, refl, sym, ap, ◌∙◌, subst}
use Rattle.sg_words.specs.declared.steps.Step.{Step}
use Rattle.sg_words.specs.declared.steps.Call.{Call}
use Rattle.sg_words.specs.declared.steps.Place.{Place}
use Rattle.sg_words.specs.declared.steps.Step.TheVariants.{Load, Store}
use Rattle.sg_words.specs.declared.steps.Call.TheVariants.{Loads, Stores}
use Rattle.sg_words.specs.Calls.{call_of}
use Rattle.sg_words.specs.Programs.{FollowsBy, SeesNext, Goes}
use Rattle.sg_words.proofs.Programs.{may_do, sees_it, guided, follows-append, goes_then}
use Rattle.sg_program.specs.declared.program.Program.{Program}
use Rattle.sg_rules.specs.Rules.{Constants, Actor, Comes, NextStep}
use Rattle.sg_rules.specs.Sane.{IsSane}
use Rattle.sg_rules.specs.Acting.{Acts, ActsOn, RestsAt, HasGoneOn}
use Rattle.sg_actor.specs.Turning.{IsOnPort}
use Rattle.sg_actor.proofs.Seen.{SawAt, saw_next}

-- what a port says of itself
pub record Ports (P : Type 0) : Type 1 where
  pub leads : P → List Step → P → Type 0
  pub may : P → Call → Type 0
  pub sees : P → Step → Type 0
  pub fragments : P → ℕ
  pub limit : P → ℕ → ℕ
  pub stays : (x : P) → leads x [] x
  pub chains : (x y z : P) (es fs : List Step) → leads x es y → leads y fs z → leads x (es ++ fs) z
  pub fixed : (x y : P) (es : List Step) → leads x es y → (fragments y ≡ fragments x) × (limit y ≡ limit x)
  pub blocks : P → ℕ
  pub heap : P → ℕ
  pub marks : P → ℕ → ℕ
  pub fixed_blocks : (x y : P) (es : List Step) → leads x es y → blocks y ≡ blocks x
  pub fixed_sweep : (x y : P) (es : List Step) → leads x es y → (marks y ≡ marks x) × (heap y ≡ heap x)

module _ {P : Type 0} (o : Ports P) (p : Program) (lay : Constants) where
  abbrev pub On : P → Actor → Type 0
  On x a = IsOnPort p lay o.leads o.may o.sees o.fragments o.limit o.blocks o.heap o.marks x a

  abbrev pub Gone : Actor → P → Actor → P → Type 0
  Gone a x b y = HasGoneOn p lay o.leads a x b y

  -- the port made this step
  abbrev pub Did : P → Step → P → Type 0
  Did x s y = o.sees x s × o.leads x (s ∷ []) y

  as_acts : (a b : Actor) (es : List Step) → FollowsBy (ActsOn p lay) a es b → FollowsBy (Acts p lay) a es b
  as_acts a b [] f = f
  as_acts a b (e ∷ es) f = (f.0, f.1.1, as_acts f.0 b es f.2)

  by_rules : (a b : Actor) (x y : P) → Gone a x b y → Goes (Acts p lay) (IsSane p lay) o.leads a x b y
  by_rules a b x y w = record { steps = w.steps; led = w.led; follows = as_acts a b w.steps w.follows; is_sane = w.is_sane }

  -- no step yet
  pub none_yet : (a : Actor) (x : P) → On x a → Gone a x a x
  none_yet a x on = record { steps = []; led = o.stays x; follows = refl; is_sane = on.guided.is_sane }

  module _ (a b : Actor) (x y : P) (on : On x a) (gone : Gone a x b y) where
    -- from here on, too, the mutator is on the port
    pub on_then : On y b
    on_then = record {
      guided = guided (Acts p lay) (IsSane p lay) o.leads o.may o.sees o.stays o.chains x y a b on.guided (by_rules a b x y gone);
      fragments_are = (o.fixed x y gone.steps gone.led).0 ∙ on.fragments_are;
      limits_are = (o.fixed x y gone.steps gone.led).1 ∙ on.limits_are;
      blocks_are = o.fixed_blocks x y gone.steps gone.led ∙ on.blocks_are;
      heap_is = (o.fixed_sweep x y gone.steps gone.led).1 ∙ on.heap_is;
      marks_are = (o.fixed_sweep x y gone.steps gone.led).0 ∙ on.marks_are;
    }

    -- a next step may be made
    pub may_act : (s : Step) (d : Bool) (c : Actor) → NextStep p lay b s d c → o.may y (call_of s)
    may_act s d c n = may_do (Acts p lay) (IsSane p lay) o.leads o.may o.sees o.stays o.chains x y a b s c on.guided (by_rules a b x y gone) (d, n)

    -- what was seen has a next step
    pub saw_it : (s : Step) (d : Bool) (c : Actor) (t : Step) → NextStep p lay b s d c → call_of t ≡ call_of s → o.sees y t → SeesNext (Acts p lay) (IsSane p lay) b t
    saw_it s d c t n e w = sees_it (Acts p lay) (IsSane p lay) o.leads o.may o.sees o.stays o.chains x y a b s c t on.guided (by_rules a b x y gone) (d, n) e w

    -- the step was made
    pub step_on : (z : P) (s t : Step) (d : Bool) (c : Actor) → (¬ RestsAt b.mid) → NextStep p lay b s d c → t ≡ s → Did y t z → Gone a x c z
    step_on z s t d c on_it n e did =
        let made : Did y s z = subst (λ (r : Step). Did y r z) e did in record {
          steps = gone.steps ++ s ∷ [];
          led = o.chains x y z gone.steps (s ∷ []) gone.led made.1;
          follows = follows-append (ActsOn p lay) (IsSane p lay) o.leads o.may o.sees o.stays o.chains a b c gone.steps (s ∷ []) gone.follows (c, (on_it, (d, n)), refl);
          is_sane = (saw_it s d c s n refl made.0).1 c (d, n);
        }

    -- one way behind another
    pub gone_then : (c : Actor) (z : P) → Gone b y c z → Gone a x c z
    gone_then c z more = goes_then (ActsOn p lay) (IsSane p lay) o.leads o.may o.sees o.stays o.chains x y z a b c gone more

    -- the same mutator, written otherwise
    pub gone_to : (c : Actor) → c ≡ b → Gone a x c y
    gone_to c e = subst (λ (d : Actor). Gone a x d y) (sym e) gone

    -- the same for loads and stores: the place, the word and the mutator may be written otherwise
    module _ (place place' : Place) (same : place' ≡ place) (d : Bool) (c : Actor) where
      pub loads_may : (v : ℕ) → Comes p lay b (Load place v) d c → o.may y (Loads place')
      loads_may v n = subst (λ (q : Place). o.may y (Loads q)) (sym same) (may_act (Load place v) d c (inl n))

      -- what is seen there
      pub loads_saw : (u v : ℕ) → Comes p lay b (Load place u) d c → o.sees y (Load place' v) → SawAt p lay b.mid (Load place v)
      loads_saw u v n w =
          let next = saw_it (Load place u) d c (Load place v) (inl n) refl (subst (λ (q : Place). o.sees y (Load q v)) same w) in
          saw_next p lay b (Load place v) next.0.1.0 next.0.0 next.0.1.1

      pub loads_done : (z : P) (v : ℕ) (e : Actor) → (¬ RestsAt b.mid) → Comes p lay b (Load place v) d c → e ≡ c → Did y (Load place' v) z → Gone a x e z
      loads_done z v e inside n is did = subst (λ (f : Actor). Gone a x f z) (sym is)
          (step_on z (Load place v) (Load place' v) d c inside (inl n) (ap (λ q. Load q v) same) did)

      module _ (w w' : ℕ) (alike : w' ≡ w) (n : Comes p lay b (Store place w) d c) where
        pub stores_may : o.may y (Stores place' w')
        stores_may = subst (λ (q : Place). o.may y (Stores q w')) (sym same) (subst (λ u. o.may y (Stores place u)) (sym alike) (may_act (Store place w) d c (inl n)))

        pub stores_done : (z : P) (e : Actor) → (¬ RestsAt b.mid) → e ≡ c → Did y (Store place' w') z → Gone a x e z
        stores_done z e inside is did = subst (λ (f : Actor). Gone a x f z) (sym is)
            (step_on z (Store place w) (Store place' w') d c inside (inl n) (ap (λ q. Store q w') same ∙ ap (λ u. Store place u) alike) did)
