-- One step more of any program over any port.
use Rattle.std.proofs.Common.{◌≡◌, List, [], ◌∷◌, ◌++◌, refl, subst}
use Rattle.sg_words.specs.declared.steps.Step.{Step}
use Rattle.sg_words.specs.declared.steps.Call.{Call}
use Rattle.sg_words.specs.Calls.{call_of}
use Rattle.sg_words.specs.Programs.{FollowsBy, SeesNext, Guides, Goes}

module _ {A P : Type 0} (comes : A → Step → A → Type 0) (sane : A → Type 0) (leads : P → List Step → P → Type 0) (may : P → Call → Type 0) (saw : P → Step → Type 0)
    (stays : (p : P) → leads p [] p) (chains : (p q r : P) (es fs : List Step) → leads p es q → leads q fs r → leads p (es ++ fs) r) where
  pub follows-append : (a b c : A) (es fs : List Step) → FollowsBy comes a es b → FollowsBy comes b fs c → FollowsBy comes a (es ++ fs) c
  follows-append a b c [] fs f g = subst (λ (x : A). FollowsBy comes x fs c) f g
  follows-append a b c (t ∷ ts) fs f g = (f.0, f.1, follows-append f.0 b c ts fs f.2 g)

  -- no step yet
  pub going : (p : P) (a : A) → Guides comes sane leads may saw p a → Goes comes sane leads a p a p
  going p a g = record { steps = []; led = stays p; follows = refl; is_sane = g.is_sane }

  -- a next step may be made
  pub may_do : (p q : P) (a b : A) (s : Step) (c : A) → Guides comes sane leads may saw p a → Goes comes sane leads a p b q → comes b s c → may q (call_of s)
  may_do p q a b s c g o n = g.allows o.steps q b s c o.led o.follows o.is_sane n

  -- what was seen has a next step
  pub sees_it : (p q : P) (a b : A) (s : Step) (c : A) (t : Step) → Guides comes sane leads may saw p a → Goes comes sane leads a p b q → comes b s c → call_of t ≡ call_of s → saw q t → SeesNext comes sane b t
  sees_it p q a b s c t g o n e w = g.goes o.steps q b s c t o.led o.follows o.is_sane n e w

  -- the step was made
  pub goes_on : (p q r : P) (a b : A) (s : Step) (c : A) → Guides comes sane leads may saw p a → Goes comes sane leads a p b q → comes b s c → saw q s → leads q (s ∷ []) r → Goes comes sane leads a p c r
  goes_on p q r a b s c g o n w l = record {
    steps = o.steps ++ s ∷ [];
    led = chains p q r o.steps (s ∷ []) o.led l;
    follows = follows-append a b c o.steps (s ∷ []) o.follows (c, n, refl);
    is_sane = (sees_it p q a b s c s g o n refl w).1 c n;
  }

  -- what guided from the beginning guides from here
  pub guided : (p q : P) (a b : A) → Guides comes sane leads may saw p a → Goes comes sane leads a p b q → Guides comes sane leads may saw q b
  guided p q a b g o = record {
    is_sane = o.is_sane;
    allows = λ es r c s d l f i n. g.allows (o.steps ++ es) r c s d (chains p q r o.steps es o.led l) (follows-append a b c o.steps es o.follows f) i n;
    goes = λ es r c s d t l f i n e w. g.goes (o.steps ++ es) r c s d t (chains p q r o.steps es o.led l) (follows-append a b c o.steps es o.follows f) i n e w;
  }

  -- one way behind another
  pub goes_then : (p q r : P) (a b c : A) → Goes comes sane leads a p b q → Goes comes sane leads b q c r → Goes comes sane leads a p c r
  goes_then p q r a b c o n = record {
    steps = o.steps ++ n.steps;
    led = chains p q r o.steps n.steps o.led n.led;
    follows = follows-append a b c o.steps n.steps o.follows n.follows;
    is_sane = n.is_sane;
  }
