-- Steps that are known to come next, one after another, over any port: they may be made, and lead the mutator along.
use Rattle.std.proofs.Common.{List, [], ◌∷◌, ◌++◌, refl, sym, subst}
use Rattle.sg_words.specs.declared.steps.Step.{Step}
use Rattle.sg_words.specs.Programs.{FollowsBy}
use Rattle.sg_cells.specs.Made.{Makes}
use Rattle.sg_cells.specs.Allowed.{MayMake}
use Rattle.sg_program.specs.declared.program.Program.{Program}
use Rattle.sg_rules.specs.Rules.{Constants, Actor}
use Rattle.sg_rules.specs.Acting.{Acts, ActsOn, RestsAt}
use Rattle.sg_actor.proofs.Ports.{Ports, On, Gone, none_yet, may_act, step_on, gone_then, gone_to}
use Rattle.sg_actor.proofs.Turnings.{Turned, first_on, turned}

-- one way behind another
pub along : {A : Type 0} (comes : A → Step → A → Type 0) (a b c : A) (es fs : List Step) → FollowsBy comes a es b →
    FollowsBy comes b fs c → FollowsBy comes a (es ++ fs) c
along comes a b c [] fs f g = subst (λ x. FollowsBy comes x fs c) f g
along comes a b c (t ∷ ts) fs f g = (f.0, f.1, along comes f.0 b c ts fs f.2 g)

module _ {P : Type 0} (o : Ports P) (p : Program) (lay : Constants) where
  -- the port lets the mutator make them
  pub path_may : (a b : Actor) (es : List Step) (x : P) → On o p lay x a → FollowsBy (Acts p lay) a es b → MayMake o.leads o.sees o.may x es
  path_may a b [] x on f = tt
  path_may a b (t ∷ ts) x on f = (
    may_act o p lay a a x x on (none_yet o p lay a x on) t f.1.0 f.0 f.1.1,
    λ y led seen. path_may f.0 b ts y (first_on o p lay a f.0 x y t on f.1 (seen, led)) f.2,
  )

  -- where no turn ends on the way, they have led it there
  pub path_gone : (a b : Actor) (es : List Step) (x y : P) → On o p lay x a → FollowsBy (ActsOn p lay) a es b →
      Makes o.leads o.sees x es y → Gone o p lay a x b y
  path_gone a b [] x y on f made =
      subst (λ (z : P). Gone o p lay a x b z) (sym made) (gone_to o p lay a a x x on (none_yet o p lay a x on) b f)
  path_gone a b (t ∷ ts) x y on f made =
      let one = step_on o p lay a a x x on (none_yet o p lay a x on) made.0 t t f.1.1.0 f.0 f.1.0 f.1.1.1 refl (made.2, made.1) in
      let at = first_on o p lay a f.0 x made.0 t on f.1.1 (made.2, made.1) in
      gone_then o p lay a f.0 x made.0 on one b y (path_gone f.0 b ts made.0 y at f.2 made.3)

  -- the first of them begins a turn, which ends behind the last one
  pub path_turned : (a b c : Actor) (t : Step) (ts : List Step) (x y : P) → On o p lay x a → Acts p lay a t c → FollowsBy (ActsOn p lay) c ts b →
      Makes o.leads o.sees x (t ∷ ts) y → RestsAt b.mid → Turned o p lay a x b y
  path_turned a b c t ts x y on n f made rests =
      turned o p lay a c x made.0 t on n (made.2, made.1) b y (path_gone c b ts made.0 y (first_on o p lay a c x made.0 t on n (made.2, made.1)) f made.3) rests
