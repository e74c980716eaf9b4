use Rattle.std.proofs.Common.{◌≤◌, ◌<◌, List, ℕ, length, subst, arith}
use Rattle.std.specs.List.{All}
use Rattle.std.proofs.lemmas.List.{take_all}
use Rattle.std.proofs.lemmas.List.Elements.{All-more}
use Rattle.sg_words.specs.Address.{IsAddress}
use Rattle.sg_copy.proofs.round.know_addresses.Goals as goal

pub loop-at-preserved : goal.loop-at-preserved
loop-at-preserved c =
    let xs = c.args.addresses.now in let i = c.loop-at.at-index in
    let l : i < length xs = omega arith in
    All-more IsAddress xs i c.at-item.result l c.loop-at.invariant (subst IsAddress c.at-item.is c.get.ensures.address)

pub returns : goal.returns
returns c =
    let xs = c.args.addresses.now in let i = c.loop-at.at-index in
    let l : length xs ≤ i = omega arith in
    subst (λ (ys : List ℕ). All IsAddress ys) (take_all i xs l) c.loop-at.invariant
