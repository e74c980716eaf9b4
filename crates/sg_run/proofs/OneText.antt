-- An input and a list of turns have one text.
use Rattle.std.proofs.Common.{◌≡◌, sym, ◌∙◌, subst}
use Rattle.sg_program.specs.declared.program.Program.{Program}
use Rattle.sg_grammar.specs.Text.{HasOneReading}
use Rattle.sg_graph.specs.Follows.{IsWholeRunBy}
use Rattle.sg_replay.specs.OneText.{HasOneText as OfOneProgram}
use Rattle.sg_run.specs.Jobs.{HasOneText}

pub of_one_input : OfOneProgram → HasOneReading → HasOneText
of_one_input text reading turns input bytes bytes' w w' =
    let r = w.2.reads in
    let r' = w'.2.reads in
    let same : w'.0 ≡ w.0 = reading.one input w'.0 w.0 (r'.found, r'.says, r'.is) (r.found, r.says, r.is) in
    w.5 ∙ text w.0 turns w.1 w'.1 w.4 (subst (λ (p : Program). IsWholeRunBy p turns w'.1) same w'.4) ∙ sym w'.5
