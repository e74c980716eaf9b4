use Rattle.std.proofs.Common.{◌≢◌, subst, arith}
use Rattle.std.proofs.lemmas.Grind.{common_steps}
use Rattle.sg_words.specs.Address.{word_at}
use Rattle.sg_space.specs.Standing.{HoldsWord, IsFree}
use Rattle.sg_space.proofs.Reached.{free_no_front, held_no_front}
use Rattle.sg_space.proofs.space.Space.object_at.Goals as goal

pub returns-else-eq : goal.returns-else-eq
returns-else-eq c =
    let holds = subst (λ v. HoldsWord c.args.self.now (word_at v) c.in-Some.object) c.get.ensures.value c.in-Some.ensures in
    let other : c.in-Some.object.at ≢ c.args.a = grind (arith, common_steps) in
    held_no_front c.args.self.now c.args.a c.in-Some.object holds c.get.ensures.address.2 other

pub returns-in-None : goal.returns-in-None
returns-in-None c =
    free_no_front c.args.self.now (word_at c.args.a) (subst (λ v. IsFree c.args.self.now (word_at v)) c.get.ensures.value c.in-None.ensures)
