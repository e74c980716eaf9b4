-- Any program of an actor, over any port: `comes` says which step comes next and what the actor is then, and `sane` what is known
-- of an actor by itself, whatever stands in the words.
use Rattle.std.specs.Prelude.{◌≡◌, List, [], ◌∷◌}
use Rattle.sg_words.specs.declared.steps.Step.{Step}
use Rattle.sg_words.specs.declared.steps.Call.{Call}
use Rattle.sg_words.specs.Calls.{call_of}

-- these steps are the next ones of the program, and lead the actor a to `last`
abbrev pub FollowsBy : {A : Type 0} → (A → Step → A → Type 0) → A → List Step → A → Type 0
FollowsBy {A} comes a [] last = last ≡ a
FollowsBy {A} comes a (t ∷ ts) last = (mid : A) × comes a t mid × FollowsBy comes mid ts last

-- the step is a next one, and whatever the actor is after it is sane
abbrev pub SeesNext : {A : Type 0} → (A → Step → A → Type 0) → (A → Type 0) → A → Step → Type 0
SeesNext {A} comes sane a s = ((b : A) × comes a s b) × ((b : A) → comes a s b → sane b)

-- From p on, where the actor is a, the port lets it make each next step of its program, and whatever it sees then has a next
-- step. `leads` says which steps lead from one state of the port to another, `may` which calls it allows, `sees` which steps it
-- may answer.
pub record Guides {A P : Type 0} (comes : A → Step → A → Type 0) (sane : A → Type 0) (leads : P → List Step → P → Type 0) (may : P → Call → Type 0) (sees : P → Step → Type 0)
    (p : P) (a : A) : Type 0 where
  pub is_sane : sane a
  pub allows : (es : List Step) (q : P) (b : A) (s : Step) (c : A) → leads p es q → FollowsBy comes a es b → sane b → comes b s c → may q (call_of s)
  pub goes : (es : List Step) (q : P) (b : A) (s : Step) (c : A) (t : Step) → leads p es q → FollowsBy comes a es b → sane b → comes b s c → call_of t ≡ call_of s → sees q t →
      SeesNext comes sane b t

-- these steps of the program have led the actor and the port from here to there
pub record Goes {A P : Type 0} (comes : A → Step → A → Type 0) (sane : A → Type 0) (leads : P → List Step → P → Type 0) (a : A) (p : P) (b : A) (q : P) : Type 0 where
  pub steps : List Step
  pub led : leads p steps q
  pub follows : FollowsBy comes a steps b
  pub is_sane : sane b
