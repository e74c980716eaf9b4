-- The exchange of a fragment's next word, with which a turn begins, over any port.
use Rattle.std.proofs.Common.{◌≡◌, ℕ, ◌+◌, ◌-◌, ◌*◌, ◌<◌, ◌≤◌, min, max, true, false, inl, refl, sym, ap, ◌∙◌, subst, arith}
use Rattle.sg_words.specs.Address.{byte_at, word_at}
use Rattle.sg_words.proofs.Numbers.{word_at-byte_at}
use Rattle.sg_words.specs.declared.steps.Place.TheVariants.{Next}
use Rattle.sg_words.specs.declared.steps.Step.{Step}
use Rattle.sg_words.specs.declared.steps.Step.TheVariants.{Won, Lost}
use Rattle.sg_words.specs.declared.steps.Call.TheVariants.{Swaps}
use Rattle.sg_program.specs.declared.program.Statement.{Statement}
use Rattle.sg_program.specs.Scripts.{made_words}
use Rattle.sg_rules.specs.Rules.{Constants, Claim, StoreLength, Actor, within, owning, looking, taken}
use Rattle.sg_rules.specs.Rules.Comes.{claim_wins, claim_moves, claim_goes_on}
use Rattle.sg_rules.specs.Sane.{IsClaiming}
use Rattle.sg_rules.specs.Acting.{Acts, RestsAt}
use Rattle.sg_actor.specs.declared.mutator.Stage.{Stage}
use Rattle.sg_actor.specs.declared.mutator.Stage.TheVariants.{Claiming}
use Rattle.sg_actor.specs.State.{Mutating, actor_of, mid_of}
use Rattle.sg_actor.proofs.Ports.{Ports, On, Gone, Did, none_yet, may_act, saw_it}
use Rattle.sg_actor.proofs.Seen.{saw_next}
use Rattle.sg_actor.proofs.Turnings.{Turned, first_on, turned}

module _ {P : Type 0} (o : Ports P) (m : Mutating) (lay : Constants) (s : Statement) (f next : ℕ) (stage : m.stage ≡ Claiming s f next) (x : P) (on : On o m.program lay x (actor_of m)) where
  abbrev there : Actor
  there = within (actor_of m) m.script (Claim s f next)

  -- the byte address behind what is claimed
  abbrev new : ℕ
  new = byte_at (next + taken m.program lay f next (made_words m.program s))

  claiming_is : actor_of m ≡ there
  claiming_is = ap (λ (st : Stage). record (actor_of m) { mid = mid_of st }) stage

  here : On o m.program lay x there
  here = subst (λ (a : Actor). On o m.program lay x a) claiming_is on

  pub claiming_sane : IsClaiming m.program lay s f next
  claiming_sane = here.guided.is_sane

  abbrev owner : Actor
  owner = within (owning (actor_of m) (next + made_words m.program s) (next + taken m.program lay f next (made_words m.program s))) m.script (StoreLength s next)

  from_here : (t : Step) (b : Actor) → Acts m.program lay there t b → Acts m.program lay (actor_of m) t b
  from_here t b n = subst (λ (a : Actor). Acts m.program lay a t b) (sym claiming_is) n

  pub exchange_may : (end : ℕ) → end ≡ new → o.may x (Swaps (Next f) (byte_at next) end)
  exchange_may end e = subst (λ n. o.may x (Swaps (Next f) (byte_at next) n)) (sym e)
      (may_act o m.program lay there there x x here (none_yet o m.program lay there x here) (Won (Next f) (byte_at next) new) true owner (inl (claim_wins (actor_of m) s m.script f next)))

  -- so the code works it out
  pub ends_at : (limit want : ℕ) → limit ≡ lay.limit f → want ≡ max (made_words m.program s) m.program.config.buffer → byte_at (word_at (byte_at next) + min (limit - word_at (byte_at next)) want) ≡ new
  ends_at limit want l w =
      ap (λ k. byte_at (k + min (limit - k) want)) (word_at-byte_at next)
      ∙ ap (λ k. byte_at (next + min (k - next) want)) l
      ∙ ap (λ k. byte_at (next + min (lay.limit f - next) k)) w

  -- it was won
  module _ (y : P) (end : ℕ) (e : end ≡ new) (did : Did o m.program lay x (Won (Next f) (byte_at next) end) y) where
    wins : Acts m.program lay (actor_of m) (Won (Next f) (byte_at next) new) owner
    wins = from_here (Won (Next f) (byte_at next) new) owner (true, inl (claim_wins (actor_of m) s m.script f next))

    as_won : Did o m.program lay x (Won (Next f) (byte_at next) new) y
    as_won = subst (λ n. Did o m.program lay x (Won (Next f) (byte_at next) n) y) e did

    pub won_on : On o m.program lay y owner
    won_on = first_on o m.program lay (actor_of m) owner x y (Won (Next f) (byte_at next) new) on wins as_won

    pub won_turn : (b : Actor) (z : P) → Gone o m.program lay owner y b z → RestsAt b.mid → Turned o m.program lay (actor_of m) x b z
    won_turn b z gone rests = turned o m.program lay (actor_of m) owner x y (Won (Next f) (byte_at next) new) on wins as_won b z gone rests

  -- it was lost
  module _ (y : P) (end found : ℕ) (e : end ≡ new) (did : Did o m.program lay x (Lost (Next f) (byte_at next) end found) y) where
    as_lost : Did o m.program lay x (Lost (Next f) (byte_at next) new found) y
    as_lost = subst (λ n. Did o m.program lay x (Lost (Next f) (byte_at next) n found) y) e did

    later : (at : ℕ) × (next < at) × (found ≡ byte_at at)
    later =
        let n = saw_it o m.program lay there there x x here (none_yet o m.program lay there x here) (Won (Next f) (byte_at next) new) true owner (Lost (Next f) (byte_at next) new found)
        (inl (claim_wins (actor_of m) s m.script f next)) refl as_lost.0 in
        saw_next m.program lay there (Lost (Next f) (byte_at next) new found) n.0.1.0 n.0.0 n.0.1.1

    pub found_later : next < word_at found
    found_later = let is : found ≡ 8 * later.0 = later.2 in let l : next < later.0 = later.1 in omega arith

    whole : found ≡ byte_at (word_at found)
    whole = let is : found ≡ 8 * later.0 = later.2 in omega arith

    abbrev lost : Step
    lost = Lost (Next f) (byte_at next) new (byte_at (word_at found))

    as_whole : Did o m.program lay x lost y
    as_whole = subst (λ n. Did o m.program lay x (Lost (Next f) (byte_at next) new n) y) whole as_lost

    -- the fragment still has room
    pub moved_turn : word_at found + made_words m.program s ≤ lay.limit f → (b : Actor) → b ≡ within (actor_of m) m.script (Claim s f (word_at found)) → Turned o m.program lay (actor_of m) x b y
    moved_turn room b is =
        let moves = from_here lost (within (actor_of m) m.script (Claim s f (word_at found))) (false, inl (claim_moves (actor_of m) s m.script f next (word_at found) found_later room)) in
        let at = first_on o m.program lay (actor_of m) (within (actor_of m) m.script (Claim s f (word_at found))) x y lost on moves as_whole in
        subst (λ (c : Actor). Turned o m.program lay (actor_of m) x c y) (sym is)
        (turned o m.program lay (actor_of m) (within (actor_of m) m.script (Claim s f (word_at found))) x y lost on moves as_whole _ y (none_yet o m.program lay _ y at) tt)

    -- it has none
    module _ (short : lay.limit f < word_at found + made_words m.program s) where
      abbrev behind : Actor
      behind = within (actor_of m) m.script (looking lay s (f + 1))

      goes : Acts m.program lay (actor_of m) lost behind
      goes = from_here lost behind (false, inl (claim_goes_on (actor_of m) s m.script f next (word_at found) found_later short))

      pub behind_on : On o m.program lay y behind
      behind_on = first_on o m.program lay (actor_of m) behind x y lost on goes as_whole

      pub behind_turn : (b : Actor) (z : P) → Gone o m.program lay behind y b z → RestsAt b.mid → Turned o m.program lay (actor_of m) x b z
      behind_turn b z gone rests = turned o m.program lay (actor_of m) behind x y lost on goes as_whole b z gone rests
