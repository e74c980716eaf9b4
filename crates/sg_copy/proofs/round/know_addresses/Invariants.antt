use Rattle.std.proofs.Common.{take}
use Rattle.std.specs.List.{All}
use Rattle.sg_words.specs.Address.{IsAddress}
use Rattle.sg_copy.proofs.round.know_addresses.Given as goal

abbrev pub invariant-loop-at : goal.invariant-loop-at
invariant-loop-at l = All IsAddress (take l.at-index l.addresses)
