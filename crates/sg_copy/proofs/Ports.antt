-- A port's members, and the steps of a turn over any port.
use Rattle.std.proofs.Common.{◌≡◌, ℕ, List, [], ◌∷◌, ◌++◌, inl, refl, sym, ◌∙◌, subst}
use Rattle.sg_words.specs.Address.{byte_at, word_at}
use Rattle.sg_words.proofs.Numbers.{word_at-byte_at}
use Rattle.sg_words.specs.declared.steps.Step.{Step}
use Rattle.sg_words.specs.declared.steps.Call.{Call}
use Rattle.sg_words.specs.Calls.{call_of}
use Rattle.sg_words.specs.Programs.{FollowsBy, SeesNext, Goes}
use Rattle.sg_words.proofs.Programs.{going, goes_on, may_do, sees_it, guided, follows-append, goes_then}
use Rattle.sg_round.specs.Acting.{RestsAt}
use Rattle.sg_copy.specs.Telling.{Seat, Teller, Tells, TellsOn, IsSaneTeller, IsOn, HasGoneOn, HasStarted}

-- what a port says of itself
pub record Ports (P : Type 0) : Type 1 where
  pub leads : P → List Step → P → Type 0
  pub may : P → Call → Type 0
  pub sees : P → Step → Type 0
  pub blocks : P → ℕ
  pub stays : (x : P) → leads x [] x
  pub chains : (x y z : P) (es fs : List Step) → leads x es y → leads y fs z → leads x (es ++ fs) z
  pub fixed : (x y : P) (es : List Step) → leads x es y → blocks y ≡ blocks x

module _ {P : Type 0} (o : Ports P) (seat : Seat) where
  abbrev pub On : P → Teller → Type 0
  On x a = IsOn seat o.leads o.may o.sees o.blocks x a

  abbrev pub Gone : Teller → P → Teller → P → Type 0
  Gone a x b y = HasGoneOn seat o.leads a x b y

  abbrev pub Started : Teller → P → Teller → P → Type 0
  Started a x b y = HasStarted seat o.leads a x b y

  -- the port made this step
  abbrev pub Did : P → Step → P → Type 0
  Did x s y = o.sees x s × o.leads x (s ∷ []) y

  as_tells : (a b : Teller) (es : List Step) → FollowsBy (TellsOn seat) a es b → FollowsBy (Tells seat) a es b
  as_tells a b [] f = f
  as_tells a b (e ∷ es) f = (f.0, f.1.1, as_tells f.0 b es f.2)

  by_rules : (a b : Teller) (x y : P) → Gone a x b y → Goes (Tells seat) (IsSaneTeller seat) o.leads a x b y
  by_rules a b x y w = record { steps = w.steps; led = w.led; follows = as_tells a b w.steps w.follows; is_sane = w.is_sane }

  -- no step yet
  pub none_yet : (a : Teller) (x : P) → On x a → Gone a x a x
  none_yet a x on = record { steps = []; led = o.stays x; follows = refl; is_sane = on.guided.is_sane }

  nothing : (a : Teller) (x : P) → On x a → Goes (Tells seat) (IsSaneTeller seat) o.leads a x a x
  nothing a x on = going (Tells seat) (IsSaneTeller seat) o.leads o.may o.sees o.stays o.chains x a on.guided

  on_by : (a b : Teller) (x y : P) → On x a → Goes (Tells seat) (IsSaneTeller seat) o.leads a x b y → On y b
  on_by a b x y on goes = record {
    guided = guided (Tells seat) (IsSaneTeller seat) o.leads o.may o.sees o.stays o.chains x y a b on.guided goes;
    blocks_are = o.fixed x y goes.steps goes.led ∙ on.blocks_are;
  }

  -- from here on, too, the worker is on the port
  pub on_then : (a b : Teller) (x y : P) → On x a → Gone a x b y → On y b
  on_then a b x y on gone = on_by a b x y on (by_rules a b x y gone)

  pub on_started : (a b : Teller) (x y : P) → On x a → Started a x b y → On y b
  on_started a b x y on s = on_by a b x y on (record {
    steps = s.first ∷ s.more;
    led = s.led;
    follows = (s.then, s.begins, as_tells s.then b s.more s.goes);
    is_sane = s.is_sane;
  })

  -- one way behind another
  pub gone_then : (a b c : Teller) (x y z : P) → Gone a x b y → Gone b y c z → Gone a x c z
  gone_then a b c x y z gone more = goes_then (TellsOn seat) (IsSaneTeller seat) o.leads o.may o.sees o.stays o.chains x y z a b c gone more

  pub started_then : (a b c : Teller) (x y z : P) → Started a x b y → Gone b y c z → Started a x c z
  started_then a b c x y z s gone = record {
    first = s.first;
    then = s.then;
    more = s.more ++ gone.steps;
    led = o.chains x y z (s.first ∷ s.more) gone.steps s.led gone.led;
    begins = s.begins;
    goes = follows-append (TellsOn seat) (IsSaneTeller seat) o.leads o.may o.sees o.stays o.chains s.then b c s.more gone.steps s.goes gone.follows;
    is_sane = gone.is_sane;
  }

  -- where no turn ends, the first steps are steps of one turn
  pub gone_started : (a b : Teller) (x y : P) → (¬ RestsAt a.worker) → Started a x b y → Gone a x b y
  gone_started a b x y inside s = record {
    steps = s.first ∷ s.more;
    led = s.led;
    follows = (s.then, (inl inside, s.begins), s.goes);
    is_sane = s.is_sane;
  }

  -- the next step of a worker on the port
  module _ (a b : Teller) (x : P) (on : On x a) (s : Step) (n : Tells seat a s b) where
    pub may_now : o.may x (call_of s)
    may_now = may_do (Tells seat) (IsSaneTeller seat) o.leads o.may o.sees o.stays o.chains x x a a s b on.guided (nothing a x on) n

    pub saw_now : (t : Step) → call_of t ≡ call_of s → o.sees x t → SeesNext (Tells seat) (IsSaneTeller seat) a t
    saw_now t e w = sees_it (Tells seat) (IsSaneTeller seat) o.leads o.may o.sees o.stays o.chains x x a a s b t on.guided (nothing a x on) n e w

    module _ (y : P) (did : Did x s y) where
      went : Goes (Tells seat) (IsSaneTeller seat) o.leads a x b y
      went = goes_on (Tells seat) (IsSaneTeller seat) o.leads o.may o.sees o.stays o.chains x x y a a s b on.guided (nothing a x on) n did.0 did.1

      pub on_now : On y b
      on_now = on_by a b x y on went

      pub started : Started a x b y
      started = record { first = s; then = b; more = []; led = did.1; begins = n; goes = refl; is_sane = (on_now).guided.is_sane }

      pub one_step : (¬ RestsAt a.worker) → Gone a x b y
      one_step inside = gone_started a b x y inside started

  -- the same for the word at the byte address of w
  pub may_at : (call : ℕ → Call) (w : ℕ) (x : P) → o.may x (call w) → o.may x (call (word_at (byte_at w)))
  may_at call w x m = subst (λ k. o.may x (call k)) (sym (word_at-byte_at w)) m

  pub did_at : (step : ℕ → Step) (w : ℕ) (x y : P) → o.sees x (step (word_at (byte_at w))) → o.leads x (step (word_at (byte_at w)) ∷ []) y → Did x (step w) y
  did_at step w x y saw led = (subst (λ k. o.sees x (step k)) (word_at-byte_at w) saw, subst (λ k. o.leads x (step k ∷ []) y) (word_at-byte_at w) led)
