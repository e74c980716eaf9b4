-- How a turn begins and goes on: from the first step to where the turn ends.
use Rattle.std.proofs.Common.{◌≡◌, Bool, [], ◌∷◌, refl, sym, ap, ◌∙◌, subst}
use Rattle.sg_words.specs.declared.steps.Step.{Step}
use Rattle.sg_words.specs.declared.steps.Place.TheVariants.{Stop}
use Rattle.sg_words.specs.declared.steps.Step.TheVariants.{Load}
use Rattle.sg_words.specs.Programs.{Goes}
use Rattle.sg_words.proofs.Programs.{going, goes_on, guided}
use Rattle.sg_program.specs.declared.program.Program.{Program}
use Rattle.sg_rules.specs.Rules.{Constants, Actor, Mid, NextStep, within}
use Rattle.sg_rules.specs.Sane.{IsSane}
use Rattle.sg_rules.specs.Acting.{Acts, RestsAt, HasTurned}
use Rattle.sg_actor.specs.State.{Mutating, actor_of}
use Rattle.sg_actor.specs.Turning.{HasBegun, HasRun}
use Rattle.sg_actor.proofs.Ports.{Ports, On, Gone, Did, none_yet}

-- the same program and mutator, written otherwise
module _ {P : Type 0} (o : Ports P) (lay : Constants) (p q : Program) (e : q ≡ p) (a b : Actor) (f : b ≡ a) where
  pub on_as : (x : P) → On o p lay x a → On o q lay x b
  on_as x on = subst (λ (r : Program). On o r lay x b) (sym e) (subst (λ (c : Actor). On o p lay x c) (sym f) on)

  pub gone_as : (x y : P) (c : Actor) → Gone o q lay b x c y → Gone o p lay a x c y
  gone_as x y c gone = subst (λ (d : Actor). Gone o p lay d x c y) f (subst (λ (r : Program). Gone o r lay b x c y) e gone)

-- the mutator in the midst of its statement, where it is this one
pub midst : (n : Mutating) (a : Actor) (mid : Mid) → actor_of n ≡ a → within (actor_of n) n.script mid ≡ within a a.script mid
midst n a mid e = ap (λ (b : Actor). within b b.script mid) e

module _ {P : Type 0} (o : Ports P) (p : Program) (lay : Constants) where
  abbrev pub Begun : P → Actor → Type 0
  Begun x a = HasBegun p lay o.leads o.may o.sees o.fragments o.limit o.blocks o.heap o.marks x a

  abbrev pub Ran : Actor → P → Actor → P → Type 0
  Ran a x b y = HasRun p lay o.leads a x b y

  abbrev pub Turned : Actor → P → Actor → P → Type 0
  Turned a x b y = HasTurned p lay o.leads a x b y

  -- the first step of a turn
  module _ (a b : Actor) (x y : P) (s : Step) (on : On o p lay x a) (n : Acts p lay a s b) (did : Did o p lay x s y) where
    went : Goes (Acts p lay) (IsSane p lay) o.leads a x b y
    went = goes_on (Acts p lay) (IsSane p lay) o.leads o.may o.sees o.stays o.chains x x y a a s b on.guided (going (Acts p lay) (IsSane p lay) o.leads o.may o.sees o.stays o.chains x a on.guided) n did.0 did.1

    pub first_on : On o p lay y b
    first_on = record {
      guided = guided (Acts p lay) (IsSane p lay) o.leads o.may o.sees o.stays o.chains x y a b on.guided went;
      fragments_are = (o.fixed x y (s ∷ []) did.1).0 ∙ on.fragments_are;
      limits_are = (o.fixed x y (s ∷ []) did.1).1 ∙ on.limits_are;
      blocks_are = o.fixed_blocks x y (s ∷ []) did.1 ∙ on.blocks_are;
      heap_is = (o.fixed_sweep x y (s ∷ []) did.1).1 ∙ on.heap_is;
      marks_are = (o.fixed_sweep x y (s ∷ []) did.1).0 ∙ on.marks_are;
    }

    -- one turn
    pub turned : (c : Actor) (z : P) → Gone o p lay b y c z → RestsAt c.mid → Turned a x c z
    turned c z gone rests = record {
      steps = s ∷ gone.steps;
      led = o.chains x y z (s ∷ []) gone.steps did.1 gone.led;
      turn = record { first = s; then = b; more = gone.steps; steps_are = refl; begins = n; goes = gone.follows; rests = rests };
      sane = gone.is_sane;
    }

  -- a statement has begun with the load of the stop word
  module _ (a b : Actor) (x : P) (begun : Begun x a) (d : Bool) (n : NextStep p lay a (Load Stop 0) d b) where
    pub ran : (c : Actor) (y : P) → Gone o p lay b x c y → Ran a x c y
    ran c y gone = record { begun = b; begins = (d, n); goes = gone }

    -- and is over
    pub ran_at_once : (c : Actor) → c ≡ b → Ran a x c x
    ran_at_once c e = subst (λ (k : Actor). Ran a x k x) (sym e) (ran b x (none_yet o p lay b x (begun b (d, n))))

  -- from the stop word's load on
  pub turned_by : (a b : Actor) (x y z : P) → On o p lay x a → Did o p lay x (Load Stop 0) y → Ran a y b z → RestsAt b.mid → Turned a x b z
  turned_by a b x y z on did r rests = turned a r.begun x y (Load Stop 0) on r.begins did b z r.goes rests
