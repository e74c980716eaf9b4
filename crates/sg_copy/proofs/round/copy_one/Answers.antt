use Rattle.std.proofs.Common.{ℕ, List, map, sym, ap, ◌∙◌, subst}
use Rattle.std.specs.List.{All}
use Rattle.sg_words.specs.Address.{IsAddress, word_at}
use Rattle.sg_words.specs.Sections.{IsInSection}
use Rattle.sg_words.specs.declared.pieces.Move.{Move}
use Rattle.sg_copy.specs.Rounds.{IsReady, HasRun, IsForwarded, found_move}
use Rattle.sg_copy.proofs.RoundTold.{told-there, told-forwarded, copied-all}
use Rattle.sg_copy.proofs.round.copy_one.Goals as goal

pub with_copies-moves-requires-clause-there : goal.with_copies-moves-requires-clause-there
with_copies-moves-requires-clause-there c =
    let old = c.args.space in let new = c.run.new.space in let slots = map word_at c.args.slots.now in let wholes = map word_at c.args.wholes.now in
    let ready : IsReady old slots wholes c.in_ok-copier.copier =
    record { can = c.requires; items = c.in_ok-items.items.items; items_are = c.in_ok-items.ensures.items; fresh = c.in_ok-copier.ensures } in
    let ran : HasRun old slots wholes new c.run.new.copier = c.run.ensures slots wholes ready in
    subst (λ (ms : List Move). All (λ (m : Move). IsInSection new.layout (word_at m.from)) ms) (sym c.into_told-moves.ensures.moves)
    (told-there old slots wholes new c.run.new.copier c.requires ran)

pub with_copies-moves-requires-clause-forwarded : goal.with_copies-moves-requires-clause-forwarded
with_copies-moves-requires-clause-forwarded c =
    let old = c.args.space in let new = c.run.new.space in let slots = map word_at c.args.slots.now in let wholes = map word_at c.args.wholes.now in
    let ready : IsReady old slots wholes c.in_ok-copier.copier =
    record { can = c.requires; items = c.in_ok-items.items.items; items_are = c.in_ok-items.ensures.items; fresh = c.in_ok-copier.ensures } in
    let ran : HasRun old slots wholes new c.run.new.copier = c.run.ensures slots wholes ready in
    subst (λ (ms : List Move). All (λ (m : Move). IsForwarded new m) ms) (sym c.into_told-moves.ensures.moves)
    (told-forwarded old slots wholes new c.run.new.copier c.requires ran)

pub returns-clause-copied : goal.returns-clause-copied
returns-clause-copied c =
    let old = c.args.space in let new = c.run.new.space in let slots = map word_at c.args.slots.now in let wholes = map word_at c.args.wholes.now in
    let ready : IsReady old slots wholes c.in_ok-copier.copier =
    record { can = c.requires; items = c.in_ok-items.items.items; items_are = c.in_ok-items.ensures.items; fresh = c.in_ok-copier.ensures } in
    let ran : HasRun old slots wholes new c.run.new.copier = c.run.ensures slots wholes ready in
    copied-all old slots wholes new c.run.new.copier c.requires ran c.with_copies-moves.result.items c.into_told-moves.result.1.items
    (c.with_copies-moves.ensures.moves ∙ ap (map (λ (m : Move). found_move new m)) c.into_told-moves.ensures.moves) c.into_told-moves.ensures.fails
    (subst (λ (ms : List Move). All (λ (m : Move). IsAddress m.from) ms) c.into_told-moves.ensures.moves c.with_copies-moves.ensures.addresses)
    (subst (λ (l : List ℕ). All IsAddress l) (c.as_slice.ensures.value ∙ c.into_told-moves.ensures.fails) c.know_addresses.ensures)
