-- The ways through a global's access and through `hide`, over any port.
use Rattle.std.proofs.Common.{◌≡◌, ℕ, ◌+◌, true, List, sym, ap, subst, inl, inr, arith}
use Rattle.std.proofs.lemmas.Bool.{cases_lt}
use Rattle.sg_words.specs.Address.{byte_at}
use Rattle.sg_words.specs.Words.{put}
use Rattle.sg_words.specs.declared.steps.Place.TheVariants.{Word}
use Rattle.sg_words.specs.declared.steps.Step.TheVariants.{Load, Store}
use Rattle.sg_words.specs.declared.steps.Call.TheVariants.{Loads}
use Rattle.sg_program.specs.declared.program.Program.{Program}
use Rattle.sg_program.specs.declared.program.Statement.{Statement}
use Rattle.sg_program.specs.declared.program.Statement.TheVariants.{GPut, GGet}
use Rattle.sg_program.specs.declared.answers.Answer.TheVariants.{Fine, Field}
use Rattle.sg_program.specs.Scripts.{words_for}
use Rattle.sg_rules.specs.Rules.{Constants, AccessGlobal, HideLength, Actor, Comes, IsLength, IsReference, global_word, object_in, within, over, over_with, hides_none, reference_answer}
use Rattle.sg_rules.specs.Rules.Comes.{gput_stores, gget_loads, hide_fits, hide_misses}
use Rattle.sg_actor.specs.State.{Mutating, actor_of}
use Rattle.sg_actor.proofs.Ports.{Ports, On, Gone, Did, none_yet, loads_may, loads_saw, loads_done}

-- the rule of each access
module _ (p : Program) (lay : Constants) (a : Actor) (rest : List Statement) (s : Statement) where
  pub gput_comes : (x r : ℕ) → s ≡ GPut x r → Comes p lay (within a rest (AccessGlobal s)) (Store (Word (global_word p x)) (a.reg r)) true (over a rest a.reg Fine)
  gput_comes x r is = subst (λ (u : Statement). Comes p lay (within a rest (AccessGlobal u)) (Store (Word (global_word p x)) (a.reg r)) true (over a rest a.reg Fine)) (sym is) (gput_stores a rest x r)

  pub gget_comes : (r x v : ℕ) → s ≡ GGet r x → IsReference p v → Comes p lay (within a rest (AccessGlobal s)) (Load (Word (global_word p x)) v) true (over a rest (put a.reg r v) (reference_answer v))
  gget_comes r x v is ref =
      subst (λ (u : Statement). Comes p lay (within a rest (AccessGlobal u)) (Load (Word (global_word p x)) v) true (over a rest (put a.reg r v) (reference_answer v))) (sym is) (gget_loads a rest r x v ref)

-- the load of the length
module _ {P : Type 0} (o : Ports P) (m : Mutating) (lay : Constants) (d s offset : ℕ) (x : P) (on : On o m.program lay x (within (actor_of m) m.script (HideLength d s offset)))
    (place : ℕ) (e : place ≡ object_in (actor_of m) s + 1) where
  abbrev there : Actor
  there = within (actor_of m) m.script (HideLength d s offset)

  abbrev length_at : ℕ
  length_at = object_in (actor_of m) s + 1

  start : Gone o m.program lay there x there x
  start = none_yet o m.program lay there x on

  -- the load of the length 0 has a rule
  none : (c : Actor) × Comes m.program lay there (Load (Word length_at) 0) true c
  none = elim (cases_lt offset (byte_at (words_for 0))) [
    | inl fits ↦ (over_with (actor_of m) m.script (put (actor_of m).reg d ((actor_of m).reg s + offset)) (put (actor_of m).offset d offset) (actor_of m).stack Fine, hide_fits (actor_of m) m.script d s offset 0 (omega arith) fits)
    | inr past ↦ (hides_none (actor_of m) m.script d Field, hide_misses (actor_of m) m.script d s offset 0 (omega arith) past)
  ]

  pub hide_may : o.may x (Loads (Word place))
  hide_may = loads_may o m.program lay there there x x on start (Word length_at) (Word place) (ap (λ n. Word n) e) true none.0 0 none.1

  pub hide_saw : (len : ℕ) → o.sees x (Load (Word place) len) → IsLength len
  hide_saw len w = loads_saw o m.program lay there there x x on start (Word length_at) (Word place) (ap (λ n. Word n) e) true none.0 0 len none.1 w

  pub hide_done : (y : P) (len : ℕ) (b c : Actor) → Comes m.program lay there (Load (Word length_at) len) true c → b ≡ c → Did o m.program lay x (Load (Word place) len) y → Gone o m.program lay there x b y
  hide_done y len b c n is did = loads_done o m.program lay there there x x on start (Word length_at) (Word place) (ap (λ n. Word n) e) true c y len b (λ r. r) n is did
