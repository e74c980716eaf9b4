use Rattle.std.proofs.Common.{rules, ◌≡◌, ℕ, List, sym, ◌∙◌, subst}
use Rattle.std.specs.Prelude.{Result, Err, IfErr}
use Rattle.sg_program.specs.declared.program.Program.{Program}
use Rattle.sg_gen.specs.Generated.{script_text}
use Rattle.sg_load.specs.Generated.{generated}
use Rattle.sg_parse.specs.Accepted.{IsAccepted, IsAcceptedAs}
use Rattle.sg_run.proofs.Made.{accepted_of, same_program}
use Rattle.sg_run.proofs.summary.generated.Goals as goal

-- it isn't refused
pub unreachable-requires : goal.unreachable-requires
unreachable-requires c =
    let text = script_text c.args.seed c.args.size in
    let bytes : c.as_slice.result.now ≡ text = search rules in
    let accepted = accepted_of text (generated c.args.seed c.args.size) (c.generated_are_accepted.ensures c.args.seed c.args.size c.requires.seed_fits c.requires.large c.requires.small) in
    let none : ¬ IsAccepted c.as_slice.result.now = rw c.in_default.is at c.in_ok-program.ensures.none in
    none (generated c.args.seed c.args.size, subst (λ (t : List ℕ). IsAcceptedAs t (generated c.args.seed c.args.size)) (sym bytes) accepted)

pub returns-clause-same : goal.returns-clause-same
returns-clause-same c =
    let text = script_text c.args.seed c.args.size in
    let accepted = accepted_of text (generated c.args.seed c.args.size) (c.generated_are_accepted.ensures c.args.seed c.args.size c.requires.seed_fits c.requires.large c.requires.small) in
    let bytes : c.as_slice.result.now ≡ text = search rules in
    let read : IsAcceptedAs c.as_slice.result.now c.in-Ok.program = rw c.in-Ok.is at c.in_ok-program.ensures.found in
    same_program c.one_reading.ensures text c.in-Ok.program (generated c.args.seed c.args.size)
    (subst (λ (t : List ℕ). IsAcceptedAs t c.in-Ok.program) bytes read) accepted
