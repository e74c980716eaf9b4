use Rattle.sg_mutate.proofs.Taking.{turns_are_taken}
use Rattle.sg_mutate.proofs.laws.turns_are_taken.Goals as goal

pub returns : goal.returns
returns c = turns_are_taken c.orders_so_far.ensures c.one_turn.ensures c.turns_keep_old.ensures c.blocks_go.ensures
