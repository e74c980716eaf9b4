use Rattle.std.proofs.Common.{◌≡◌, ◌∷◌, [], sym, ◌∙◌}
use Rattle.sg_load.specs.Summary.{answers_in_service}
use Rattle.sg_load.proofs.Counting.{answers_of_service, room_for}
use Rattle.sg_load.proofs.summary.count_services.Goals as goal

pub count-so_far-requires-clause-few : goal.count-so_far-requires-clause-few
count-so_far-requires-clause-few c =
    let own : c.service-item.result.mutator ≡ c.args.k = sym c.from.ensures ∙ c.if-from-k.true in
    let few = room_for (answers_in_service c.args.k) c.args.tally c.loop-service.so_far c.args.served.now c.loop-service.service-index c.service-item.result (c.service-item.result.answer ∷ []) c.loop-service.invariant.0 c.loop-service-test.true
    c.service-item.is (answers_of_service c.args.k c.service-item.result own) c.requires.few in
    few
