use Rattle.std.proofs.Common.{subst}
use Rattle.sg_program.specs.declared.program.Program.{Program}
use Rattle.sg_placing.proofs.Fresh.{IsAnswered, still_answers}
use Rattle.sg_placing.proofs.tests.answer.Goals as goal

pub returns : goal.returns
returns c =
    let s = c.args.space.now in
    let t = c.answer_to.new.space in
    still_answers s t c.args.asking c.args.room c.answer_to.result c.requires.space c.answer_to.ensures.contents
    (subst (λ (p : Program). IsAnswered p s c.args.asking c.args.room c.answer_to.result t) c.requires.program c.answer_to.ensures.answered)
