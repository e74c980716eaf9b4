-- The search for a slot through the blocks, over any port.
use Rattle.std.proofs.Common.{◌≡◌, ◌≢◌, ℕ, zero, suc, ◌+◌, ◌<◌, ◌≤◌, nat_lt, Bool, false, Option, Some, None, List, [], ◌∷◌, ◌++◌, inr, refl, sym, subst, arith}
use Rattle.std.proofs.lemmas.Bool.{cond-true, cond-false, lt-ltb, le-ltb}
use Rattle.std.proofs.lemmas.Nat.Bits.{bit_at-zero}
use Rattle.sg_words.specs.declared.steps.BlockWord.TheVariants.{Free, Swept, Need}
use Rattle.sg_words.specs.declared.steps.BlockStep.TheVariants.{LoadBlock, LoadUsed}
use Rattle.sg_words.specs.declared.steps.Step.{Step}
use Rattle.sg_words.specs.declared.steps.Step.TheVariants.{OnBlock}
use Rattle.sg_words.specs.Blocks.{IsSizeClass, slots}
use Rattle.sg_words.specs.Programs.{FollowsBy}
use Rattle.sg_words.proofs.Blocks.{class_slots, slot_size-class}
use Rattle.sg_cells.specs.Made.{Makes}
use Rattle.sg_cells.specs.Allowed.{MayMake}
use Rattle.sg_cells.specs.Passing.{PassesBlock, SeesOther as PassesOther, SeesFull as PassesFull, PassBlocks}
use Rattle.sg_program.specs.declared.program.Program.{Program}
use Rattle.sg_program.specs.declared.program.Statement.{Statement}
use Rattle.sg_program.specs.Scripts.{made_words, made_slot}
use Rattle.sg_rules.specs.Rules.{Constants, Mid, Search, SeeBlock, SeeUsed, TakeSlot, Ask, Actor, onward, within}
use Rattle.sg_rules.specs.Rules.BlockComes.{sees_free, sees_size, sees_full, sees_slot, sees_other, sees_sweeping, sees_need}
use Rattle.sg_rules.specs.Acting.{Acts, ActsOn, RestsAt}
use Rattle.sg_actor.specs.declared.mutator.Stage.{Stage}
use Rattle.sg_actor.specs.State.{Mutating, actor_of, mid_of}
use Rattle.sg_actor.specs.Searching.{looks_within, IsLook, SeesFree, SeesSlot, SeesFull, SeesOther, SeesOwed, SeesSweep}
use Rattle.sg_actor.proofs.Ports.{Ports, On, Gone, Did, none_yet, saw_it, on_then, step_on, gone_then}
use Rattle.sg_actor.proofs.Seen.{saw_next}
use Rattle.sg_actor.proofs.Turnings.{Turned, first_on, turned}
use Rattle.sg_actor.proofs.Paths.{path_may, path_gone}

-- whether there is a block to look at
pub onward_at : (p : Program) (s : Statement) (c : ℕ) → c < p.config.blocks → onward p (Search s) c ≡ SeeBlock (Search s) false c
onward_at p s c l = cond-true (nat_lt c p.config.blocks) (SeeBlock (Search s) false c) (Ask s) (lt-ltb c p.config.blocks l)

pub onward_past : (p : Program) (s : Statement) (c : ℕ) → p.config.blocks ≤ c → onward p (Search s) c ≡ Ask s
onward_past p s c l = cond-false (nat_lt c p.config.blocks) (SeeBlock (Search s) false c) (Ask s) (le-ltb c p.config.blocks l)

-- where a look at block c leads that ended so
abbrev pub landed : Program → Statement → ℕ → Option Stage → Mid
landed p s c None = onward p (Search s) (c + 1)
landed p s c (Some stage) = mid_of stage

-- what a look prepares is done in another turn
abbrev EndsThere : Option Stage → Type 0
EndsThere None = Unit {0}
EndsThere (Some stage) = RestsAt (mid_of stage)

look_rests : (s : Statement) (size c : ℕ) (es : List Step) (found : Option Stage) → IsLook s size c es found → EndsThere found
look_rests s size c _ _ SeesFree = tt
look_rests s size c _ _ (SeesSlot used i low) = tt
look_rests s size c _ _ (SeesFull used full) = tt
look_rests s size c _ _ (SeesOther z other) = tt
look_rests s size c _ _ (SeesOwed z) = tt
look_rests s size c _ _ (SeesSweep z) = tt

pub sight_rests : (s : Statement) (size c : ℕ) (es : List Step) (stage : Stage) → IsLook s size c es (Some stage) → RestsAt (mid_of stage)
sight_rests s size c es stage look = look_rests s size c es (Some stage) look

-- a slot for the object has such a size
pub slot_class : (p : Program) (s : Statement) → IsSizeClass (made_slot p s)
slot_class p s = slot_size-class (made_words p s)

module _ (p : Program) (lay : Constants) (a : Actor) (rest : List Statement) (s : Statement) (begins : Bool) (c : ℕ) where
  abbrev at : Mid → Actor
  at mid = within a rest mid

  abbrev here : Actor
  here = at (SeeBlock (Search s) begins c)

  -- the first load of a look, and the steps behind it
  record Path (es : List Step) (mid : Mid) : Type 0 where
    first : Step
    then : Actor
    more : List Step
    steps_are : es ≡ first ∷ more
    acts : Acts p lay here first then
    follows : FollowsBy (ActsOn p lay) then more (at mid)

  one : (t : Step) (mid : Mid) → Acts p lay here t (at mid) → Path (t ∷ []) mid
  one t mid acts = record { first = t; then = at mid; more = []; steps_are = refl; acts = acts; follows = refl }

  sees : (size : ℕ) → size ≡ made_slot p s → Acts p lay here (OnBlock (LoadBlock c (Swept size))) (at (SeeUsed s c))
  sees size is = subst (λ z. Acts p lay here (OnBlock (LoadBlock c (Swept z))) (at (SeeUsed s c))) (sym is) (false, inr (sees_size a s rest begins c))

  two : (size used : ℕ) (mid : Mid) → size ≡ made_slot p s → Acts p lay (at (SeeUsed s c)) (OnBlock (LoadUsed c used)) (at mid) →
      Path (looks_within size c used) mid
  two size used mid is acts = record {
    first = OnBlock (LoadBlock c (Swept size));
    then = at (SeeUsed s c);
    more = OnBlock (LoadUsed c used) ∷ [];
    steps_are = refl;
    acts = sees size is;
    follows = (_, ((λ r. r), acts), refl);
  }

  -- each look is the next steps of the search
  path : (size : ℕ) (es : List Step) (found : Option Stage) → size ≡ made_slot p s →
      ((z : ℕ) → es ≡ OnBlock (LoadBlock c (Need z)) ∷ [] → IsSizeClass z) →
      IsLook s size c es found → Path es (landed p s c found)
  path size _ _ is owed SeesFree = one _ _ (false, inr (sees_free a s rest begins c))
  path size _ _ is owed (SeesSlot used i low) =
      two size used (TakeSlot s c i) is (false, inr (sees_slot a s rest c i used (subst (λ z. i < slots z) is low.within) low.clear low.below))
  path size _ _ is owed (SeesFull used full) =
      two size used (onward p (Search s) (c + 1)) is (false, inr (sees_full a s rest c used (λ i l. full i (subst (λ z. i < slots z) (sym is) l))))
  path size _ _ is owed (SeesOther z other) = one _ _ (false, inr (sees_other a s rest begins c z (subst (λ n. z ≢ n) is other)))
  path size _ _ is owed (SeesOwed z) = one _ _ (false, inr (sees_need a (Search s) rest begins c z tt (owed z refl)))
  path size _ _ is owed (SeesSweep z) = one _ _ (false, inr (sees_sweeping a (Search s) rest begins c z tt))

  module _ {P : Type 0} (o : Ports P) (size : ℕ) (is : size ≡ made_slot p s) (x : P) (on : On o p lay x here) where
    -- the port lets the mutator look at the block
    pub sight_may : MayMake o.leads o.sees o.may x (looks_within size c 0)
    sight_may =
        let many = class_slots (made_slot p s) (slot_class p s) in
        let clear : Acts p lay (at (SeeUsed s c)) (OnBlock (LoadUsed c 0)) (at (TakeSlot s c 0)) =
        (false, inr (sees_slot a s rest c 0 0 (omega (arith, many.0)) (bit_at-zero 0) (λ k l. absurd (omega arith)))) in
        path_may o p lay here (at (TakeSlot s c 0)) (looks_within size c 0) x on (_, sees size is, (_, clear, refl))

    -- an owed block that it sees has slots of a size class
    owed_class : (z : ℕ) → o.sees x (OnBlock (LoadBlock c (Need z))) → IsSizeClass z
    owed_class z seen =
        let n = saw_it o p lay here here x x on (none_yet o p lay here x on) (OnBlock (LoadBlock c Free)) false _ (OnBlock (LoadBlock c (Need z)))
        (inr (sees_free a s rest begins c)) refl seen in
        saw_next p lay here (OnBlock (LoadBlock c (Need z))) n.0.1.0 n.0.0 n.0.1.1

    module _ (es : List Step) (found : Option Stage) (look : IsLook s size c es found) (y : P) (made : Makes o.leads o.sees x es y) where
      class_of : (z : ℕ) → es ≡ OnBlock (LoadBlock c (Need z)) ∷ [] → IsSizeClass z
      class_of z e = owed_class z (subst (λ fs. Makes o.leads o.sees x fs y) e made).2

      way : Path es (landed p s c found)
      way = path size es found is class_of look

      steps : Makes o.leads o.sees x (way.first ∷ way.more) y
      steps = subst (λ fs. Makes o.leads o.sees x fs y) way.steps_are made

      did : Did o p lay x way.first steps.0
      did = (steps.2, steps.1)

      then_gone : Gone o p lay way.then steps.0 (at (landed p s c found)) y
      then_gone = path_gone o p lay way.then _ way.more steps.0 y (first_on o p lay here way.then x steps.0 way.first on way.acts did) way.follows steps.3

      -- the mutator is there
      pub sight_on : On o p lay y (at (landed p s c found))
      sight_on = on_then o p lay way.then _ steps.0 y (first_on o p lay here way.then x steps.0 way.first on way.acts did) then_gone

      -- on the way of a turn
      pub sight_gone : (¬ RestsAt (SeeBlock (Search s) begins c)) → Gone o p lay here x (at (landed p s c found)) y
      sight_gone inside = gone_then o p lay here way.then x steps.0 on
          (step_on o p lay here here x x on (none_yet o p lay here x on) steps.0 way.first way.first way.acts.0 way.then inside way.acts.1 refl did)
          (at (landed p s c found)) y then_gone

      -- at the beginning of one
      pub sight_turned : (b : Actor) (z : P) → Gone o p lay (at (landed p s c found)) y b z → RestsAt b.mid → Turned o p lay here x b z
      sight_turned b z gone rests = turned o p lay here way.then x steps.0 way.first on way.acts did b z
          (gone_then o p lay way.then (at (landed p s c found)) steps.0 y (first_on o p lay here way.then x steps.0 way.first on way.acts did) then_gone b z gone) rests

-- a search that has come to block c
module _ {P : Type 0} (o : Ports P) (m : Mutating) (lay : Constants) (s : Statement) (a : Actor) (x : P) (on : On o m.program lay x a) (c : ℕ) (y : P)
    (gone : Gone o m.program lay a x (within (actor_of m) m.script (onward m.program (Search s) c)) y) where
  -- all were looked at
  pub slots_end : m.program.config.blocks ≤ c → Gone o m.program lay a x (within (actor_of m) m.script (Ask s)) y
  slots_end l = subst (λ (mid : Mid). Gone o m.program lay a x (within (actor_of m) m.script mid) y) (onward_past m.program s c l) gone

  module _ (l : c < m.program.config.blocks) (size : ℕ) (is : size ≡ made_slot m.program s) where
    abbrev there : Actor
    there = within (actor_of m) m.script (SeeBlock (Search s) false c)

    comes : Gone o m.program lay a x there y
    comes = subst (λ (mid : Mid). Gone o m.program lay a x (within (actor_of m) m.script mid) y) (onward_at m.program s c l) gone

    there_on : On o m.program lay y there
    there_on = on_then o m.program lay a there x y on comes

    pub look_may : MayMake o.leads o.sees o.may y (looks_within size c 0)
    look_may = sight_may m.program lay (actor_of m) m.script s false c o size is y there_on

    pub look_gone : (es : List Step) (found : Option Stage) (z : P) → IsLook s size c es found → Makes o.leads o.sees y es z →
        Gone o m.program lay a x (within (actor_of m) m.script (landed m.program s c found)) z
    look_gone es found z look made =
        gone_then o m.program lay a there x y on comes (within (actor_of m) m.script (landed m.program s c found)) z
        (sight_gone m.program lay (actor_of m) m.script s false c o size is y there_on es found look z made (λ r. r))

-- a search that has come to block c, and passes over the next n blocks
module _ {P : Type 0} (o : Ports P) (m : Mutating) (lay : Constants) (s : Statement) (a : Actor) (x : P) (on : On o m.program lay x a) (c : ℕ) (y : P)
    (gone : Gone o m.program lay a x (within (actor_of m) m.script (onward m.program (Search s) c)) y) (size : ℕ) (is : size ≡ made_slot m.program s) where
  -- where the steps in front have led
  split : (q : P) (es fs : List Step) (z : P) → Makes o.leads o.sees q (es ++ fs) z → (r : P) × Makes o.leads o.sees q es r × Makes o.leads o.sees r fs z
  split q [] fs z h = (q, refl, h)
  split q (e ∷ es) fs z h = let rest = split h.0 es fs z h.3 in (rest.0, (h.0, h.1, h.2, rest.1), rest.2)

  -- a block that is passed over is looked at, and nothing is to be done there
  looked : (d : ℕ) (es : List Step) → PassesBlock size d es → IsLook s size d es None
  looked d _ (PassesOther z other) = SeesOther z other
  looked d _ (PassesFull used full) = SeesFull used full

  pub pass_gone : (n : ℕ) (es : List Step) (z : P) → PassBlocks size c n es → c + n ≤ m.program.config.blocks → Makes o.leads o.sees y es z →
      Gone o m.program lay a x (within (actor_of m) m.script (onward m.program (Search s) (c + n))) z
  pass_gone zero es z over l made =
      let none : z ≡ y = subst (λ fs. Makes o.leads o.sees y fs z) over made in
      let at : c ≡ c + 0 = omega arith in
      subst (λ d. Gone o m.program lay a x (within (actor_of m) m.script (onward m.program (Search s) d)) z) at
      (subst (λ (q : P). Gone o m.program lay a x (within (actor_of m) m.script (onward m.program (Search s) c)) q) (sym none) gone)
  pass_gone (suc n) es z over l made =
      let parts = split y over.0 over.1 z (subst (λ fs. Makes o.leads o.sees y fs z) over.4 made) in
      let before = pass_gone n over.0 parts.0 over.2 (omega arith) parts.1 in
      let at : c + n + 1 ≡ c + suc n = omega arith in
      subst (λ d. Gone o m.program lay a x (within (actor_of m) m.script (onward m.program (Search s) d)) z) at
      (look_gone o m lay s a x on (c + n) parts.0 before (omega arith) size is over.1 None z (looked (c + n) over.1 over.3) parts.2)
