use Rattle.std.proofs.Common.{◌≡◌, ◌*◌, ◌/◌, arith, ap, ◌∙◌}
use Rattle.std.proofs.lemmas.Bool.{ltb-true, lt-ltb}
use Rattle.sg_words.specs.Sections.{old_base}
use Rattle.sg_minor.proofs.slots.is_young.Goals as goal

pub returns-in-Some : goal.returns-in-Some
returns-in-Some c =
    let end : c.old_base.result ≡ 8 * old_base c.args.space.now.layout = c.old_base.ensures ∙ ap (λ l. 8 * old_base l) c.layout.ensures.layout in
    let address = c.in-Some.ensures.0 in
    let from = address.0 in
    let whole = address.2 in (
      (λ t. let below = ltb-true c.args.value c.old_base.result t in (c.args.value / 8, omega arith, (omega arith, omega arith))),
      λ q. lt-ltb c.args.value c.old_base.result (let e = q.1 in let l = q.2.1 in omega arith),
    )
