use Rattle.std.proofs.Common.{◌≡◌, ◌++◌, ◌+◌, ◌<◌, length, map, take, drop, set, sym, subst, ◌∙◌, arith}
use Rattle.std.proofs.lemmas.List.Edits.{map_over_more}
use Rattle.std.proofs.lemmas.List.Elements.{All-get_or, All-more}
use Rattle.sg_words.specs.Address.{IsAddress}
use Rattle.sg_words.specs.declared.pieces.Move.{Move}
use Rattle.sg_copy.specs.Rounds.{IsForwarded, found_move}
use Rattle.sg_copy.proofs.RoundLists.{untouched}
use Rattle.sg_copy.proofs.round.find_copies.Goals as goal

pub find_copy-requires-clause-forwarded : goal.find_copy-requires-clause-forwarded
find_copy-requires-clause-forwarded c =
    let xs = c.args.moves.now in let k = c.loop-k.k in let d = c.index-moves-k.result in
    let l : k < length xs = omega arith in
    subst (λ (m : Move). IsForwarded c.args.space.now m)
    (sym (c.index-moves-k.is ∙ untouched (λ (m : Move). found_move c.args.space.now m) xs c.loop-k.moves k d l c.loop-k.invariant.0))
    (All-get_or (λ (m : Move). IsForwarded c.args.space.now m) xs k d l c.requires.forwarded)

pub loop-k-preserved : goal.loop-k-preserved
loop-k-preserved c =
    let xs = c.args.moves.now in let k = c.loop-k.k in let d = c.index-moves-k.result in
    let f = λ (m : Move). found_move c.args.space.now m in
    let l : k < length xs = omega arith in
    let is = c.index-moves-k.is ∙ untouched f xs c.loop-k.moves k d l c.loop-k.invariant.0 in (
      subst (λ (m : Move). set c.loop-k.moves k m ≡ map f (take (k + 1) xs) ++ drop (k + 1) xs) (sym c.find_copy.ensures.moved)
          (map_over_more f xs c.loop-k.moves k d l c.loop-k.invariant.0 c.index-moves-k.is),
      All-more (λ (m : Move). IsAddress m.from) xs k d l c.loop-k.invariant.1 (subst (λ (m : Move). IsAddress m.from) is c.find_copy.ensures.address),
    )
