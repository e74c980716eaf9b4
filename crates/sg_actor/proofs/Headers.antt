-- The header of a new object, over any port.
use Rattle.std.proofs.Common.{◌≡◌, ℕ, ◌+◌, false, refl, ap}
use Rattle.sg_words.specs.Address.{byte_at}
use Rattle.sg_words.specs.Tags.{plain_word}
use Rattle.sg_words.specs.declared.steps.Place.TheVariants.{Word}
use Rattle.sg_words.specs.declared.steps.Step.TheVariants.{Store}
use Rattle.sg_words.specs.declared.steps.Call.TheVariants.{Stores}
use Rattle.sg_words.specs.Words.{put}
use Rattle.sg_program.specs.declared.program.Statement.{Statement}
use Rattle.sg_program.specs.declared.answers.Answer.TheVariants.{At}
use Rattle.sg_program.specs.Scripts.{made_in, made_class, made_fields}
use Rattle.sg_rules.specs.Rules.{Constants, StoreLength, StoreTag, Actor, within, over}
use Rattle.sg_rules.specs.Rules.Comes.{stores_length, stores_tag}
use Rattle.sg_actor.specs.State.{Mutating, actor_of}
use Rattle.sg_actor.proofs.Ports.{Ports, On, Gone, Did, none_yet, stores_may, stores_done}

module _ {P : Type 0} (o : Ports P) (m : Mutating) (lay : Constants) (s : Statement) (n : ℕ) (x : P)
    (on : On o m.program lay x (within (actor_of m) m.script (StoreLength s n))) where
  abbrev there : Actor
  there = within (actor_of m) m.script (StoreLength s n)

  start : Gone o m.program lay there x there x
  start = none_yet o m.program lay there x on

  module _ (place w : ℕ) (e : place ≡ n + 1) (is : w ≡ made_fields m.program s) where
    pub header_may : o.may x (Stores (Word place) w)
    header_may = stores_may o m.program lay there there x x on start (Word (n + 1)) (Word place) (ap (λ k. Word k) e) false _ (made_fields m.program s) w is (stores_length (actor_of m) s m.script n)

    pub header_begun : (y : P) → Did o m.program lay x (Store (Word place) w) y → Gone o m.program lay there x (within (actor_of m) m.script (StoreTag s n)) y
    header_begun y did = stores_done o m.program lay there there x x on start (Word (n + 1)) (Word place) (ap (λ k. Word k) e) false _ (made_fields m.program s) w is (stores_length (actor_of m) s m.script n) y _ (λ r. r) refl did

  module _ (y : P) (gone : Gone o m.program lay there x (within (actor_of m) m.script (StoreTag s n)) y) (place w : ℕ) (e : place ≡ n) (is : w ≡ plain_word (made_class s)) where
    abbrev halfway : Actor
    halfway = within (actor_of m) m.script (StoreTag s n)

    pub header_tag_may : o.may y (Stores (Word place) w)
    header_tag_may = stores_may o m.program lay there halfway x y on gone (Word n) (Word place) (ap (λ k. Word k) e) false _ (plain_word (made_class s)) w is (stores_tag (actor_of m) s m.script n)

    pub header_done : (z : P) (b : Actor) → b ≡ over (actor_of m) m.script (put (actor_of m).reg (made_in s) (byte_at n)) (At (byte_at n)) → Did o m.program lay y (Store (Word place) w) z →
        Gone o m.program lay there x b z
    header_done z b same did = stores_done o m.program lay there halfway x y on gone (Word n) (Word place) (ap (λ k. Word k) e) false _ (plain_word (made_class s)) w is (stores_tag (actor_of m) s m.script n) z b (λ r. r) same did
