use Rattle.std.proofs.Common.{◌+◌, length, sym, refl, ◌∙◌, subst}
use Rattle.sg_actor.specs.declared.mutator.Stage.{Stage}
use Rattle.sg_actor.specs.State.{MayServe}
use Rattle.sg_placing.specs.Answering.{placing_in}
use Rattle.sg_world.specs.Serving.{CanTell}
use Rattle.sg_world.specs.Worlds.{HasLeftReady}
use Rattle.sg_world.proofs.Onward.{answered, goes_anew, asks_at, asks_none}
use Rattle.sg_world.proofs.Services.{is_service, owes_by, fits_by}
use Rattle.sg_world.proofs.serving.go_on.Goals as goal

pub returns-in_default-clause-goes : goal.returns-in_default-clause-goes
returns-in_default-clause-goes c g b k holding fits may =
    let m = c.args.mutator.now in
    goes_anew c.args.program.now (placing_in c.args.room) c.args.space.now g b holding k m c.begin_epoch.new.self c.args.space.now refl c.begin_epoch.ensures
    m.stage refl (asks_none m m.stage (sym c.asking.ensures ∙ c.in_default.is)) may.left

pub sections_for-requires : goal.sections_for-requires
sections_for-requires c =
    let p = c.args.program.now in
    let m = c.args.mutator.now in
    let may = c.requires.may in
    let at = asks_at m.stage c.in-Some.asking (sym c.asking.ensures ∙ c.in-Some.is) in
    let left = subst (λ (x : Stage). HasLeftReady p may.0 may.1 may.2 m x) at.1 may.5.left in
    let tells = subst (λ (x : Stage). CanTell p may.1 x) at.1 may.5.tells in
    record { swept = λ e. (p, may.0, may.1, may.3.heap, owes_by p may.1 c.in-Some.asking at.0 left.1 tells e) }

pub answer_to-requires-clause-run : goal.answer_to-requires-clause-run
answer_to-requires-clause-run c =
    let p = c.args.program.now in
    let m = c.args.mutator.now in
    let may = c.requires.may in
    let at = asks_at m.stage c.in-Some.asking (sym c.asking.ensures ∙ c.in-Some.is) in
    let left = subst (λ (x : Stage). HasLeftReady p may.0 may.1 may.2 m x) at.1 may.5.left in
    left.2.runnable.0

pub answer_to-requires-clause-asks : goal.answer_to-requires-clause-asks
answer_to-requires-clause-asks c =
    let p = c.args.program.now in
    let m = c.args.mutator.now in
    let may = c.requires.may in
    let at = asks_at m.stage c.in-Some.asking (sym c.asking.ensures ∙ c.in-Some.is) in
    let left = subst (λ (x : Stage). HasLeftReady p may.0 may.1 may.2 m x) at.1 may.5.left in
    (at.0, left.1)

pub answer_to-requires-clause-held : goal.answer_to-requires-clause-held
answer_to-requires-clause-held c =
    let p = c.args.program.now in
    let m = c.args.mutator.now in
    let may = c.requires.may in
    let at = asks_at m.stage c.in-Some.asking (sym c.asking.ensures ∙ c.in-Some.is) in
    let left = subst (λ (x : Stage). HasLeftReady p may.0 may.1 may.2 m x) at.1 may.5.left in
    let tells = subst (λ (x : Stage). CanTell p may.1 x) at.1 may.5.tells in
    (may.0, may.1, may.3.heap, may.3.plain, may.4, fits_by p may.1 c.in-Some.asking at.0 left.1 tells)

pub serve-requires : goal.serve-requires
serve-requires c =
    let p = c.args.program.now in
    let m = c.args.mutator.now in
    let may = c.requires.may in
    let at = asks_at m.stage c.in-Some.asking (sym c.asking.ensures ∙ c.in-Some.is) in
    let left = subst (λ (x : Stage). HasLeftReady p may.0 may.1 may.2 m x) at.1 may.5.left in
    let tells = subst (λ (x : Stage). CanTell p may.1 x) at.1 may.5.tells in
    let turn = c.answer_to.ensures.answered may.0 may.1 may.2 m.script may.3.heap may.3.plain may.4
    (fits_by p may.1 c.in-Some.asking at.0 left.1 tells) left.2.script_is in
    subst (λ (x : Stage). MayServe x c.answer_to.result) (sym at.1)
    (is_service p (placing_in c.args.room) may.0 may.1 c.in-Some.asking turn.named c.answer_to.result turn.book left.2.runnable.0 turn.places turn.told)

pub returns-clause-goes : goal.returns-clause-goes
returns-clause-goes c g b k holding fits may =
    let p = c.args.program.now in
    let m = c.args.mutator.now in
    let asks = sym c.asking.ensures ∙ c.in-Some.is in
    let at = asks_at m.stage c.in-Some.asking asks in
    let left = subst (λ (x : Stage). HasLeftReady p g b k m x) at.1 may.left in
    let tells = subst (λ (x : Stage). CanTell p b x) at.1 may.tells in
    let turn = c.answer_to.ensures.answered g b k m.script holding.heap holding.plain fits (fits_by p b c.in-Some.asking at.0 left.1 tells)
    left.2.script_is in
    answered p (placing_in c.args.room) c.args.space.now g b holding k m c.serve.new.self c.answer_to.new.space c.serves_ready.ensures may.number
    c.in-Some.asking at.0 at.1 left _ c.number.ensures (λ i. c.first.ensures.value i + length (c.answers.ensures i)) turn
    (c.in_ok-sections.ensures p g b holding.heap (owes_by p b c.in-Some.asking at.0 left.1 tells)) (c.serve.ensures c.in-Some.asking asks)
    c.answer_to.ensures.contents
