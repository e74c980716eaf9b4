-- The law is proved in `proofs/Sown.antt` and `proofs/Whole.antt`.
use Rattle.sg_minor.proofs.Sown.{sound_heap}
use Rattle.sg_minor.proofs.Whole.{plain_pins, can_copy}
use Rattle.sg_minor.proofs.law.heap_law.Goals as goal

pub returns : goal.returns
returns c = record {
  sound = sound_heap c.front_law.ensures;
  plain = λ p s g b heap contents ambiguous pins pinned. plain_pins c.front_law.ensures p s g b heap contents ambiguous pins pinned;
  copies = λ p s g b heap owes contents ambiguous pins pinned found seeds tagged still tags. can_copy c.front_law.ensures p s g b heap contents ambiguous pins pinned owes found seeds tagged
      still tags c.join_law.ensures;
}
