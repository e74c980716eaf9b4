use Rattle.std.proofs.Common.{Some, sym, ap, ◌∙◌, append-nil}
use Rattle.sg_program.specs.declared.answers.Leave.{Leave}
use Rattle.sg_program.specs.declared.answers.Leave.TheVariants.{Wants as HasAsked}
use Rattle.sg_program.specs.declared.answers.Request.{Request}
use Rattle.sg_program.specs.declared.answers.Request.TheVariants.{Need, Slot, Minor, Major, Sections as AllSections}
use Rattle.sg_world.proofs.Wanting.{asks_by, wants_one, or_true, or_false}
use Rattle.sg_world.proofs.wants.add.Goals as goal

pub returns-in_ok-push-in-Need : goal.returns-in_ok-push-in-Need
returns-in_ok-push-in-Need c requests are =
    let m = c.args.mutator.now in
    let old = c.args.wants.now in
    wants_one requests m m.stage (Need c.in-Need.words) old _
    (asks_by m m.stage (Need c.in-Need.words) (sym c.leave.ensures ∙ c.in-Some-Wants.is
    ∙ ap (λ (l : Leave). Some l) (c.in-Some-Wants.field-0-is ∙ ap (λ (r : Request). HasAsked r) c.in-Need.is))) are
    (or_true old.minor) (or_false old.major) (or_false old.blocks) c.in_ok-push-in-Need.ensures.items (sym (append-nil old.sizes.items))

pub returns-in-Minor : goal.returns-in-Minor
returns-in-Minor c requests are =
    let m = c.args.mutator.now in
    let old = c.args.wants.now in
    wants_one requests m m.stage Minor old _
    (asks_by m m.stage Minor (sym c.leave.ensures ∙ c.in-Some-Wants.is
    ∙ ap (λ (l : Leave). Some l) (c.in-Some-Wants.field-0-is ∙ ap (λ (r : Request). HasAsked r) c.in-Minor.is))) are
    (or_true old.minor) (or_false old.major) (or_false old.blocks) (sym (append-nil old.needs.items)) (sym (append-nil old.sizes.items))

pub returns-in-Major : goal.returns-in-Major
returns-in-Major c requests are =
    let m = c.args.mutator.now in
    let old = c.args.wants.now in
    wants_one requests m m.stage Major old _
    (asks_by m m.stage Major (sym c.leave.ensures ∙ c.in-Some-Wants.is
    ∙ ap (λ (l : Leave). Some l) (c.in-Some-Wants.field-0-is ∙ ap (λ (r : Request). HasAsked r) c.in-Major.is))) are
    (or_true old.minor) (or_true old.major) (or_false old.blocks) (sym (append-nil old.needs.items)) (sym (append-nil old.sizes.items))

pub returns-in_ok-push-in-Slot : goal.returns-in_ok-push-in-Slot
returns-in_ok-push-in-Slot c requests are =
    let m = c.args.mutator.now in
    let old = c.args.wants.now in
    wants_one requests m m.stage (Slot c.in-Slot.size) old _
    (asks_by m m.stage (Slot c.in-Slot.size) (sym c.leave.ensures ∙ c.in-Some-Wants.is
    ∙ ap (λ (l : Leave). Some l) (c.in-Some-Wants.field-0-is ∙ ap (λ (r : Request). HasAsked r) c.in-Slot.is))) are
    (or_false old.minor) (or_false old.major) (or_true old.blocks) (sym (append-nil old.needs.items)) c.in_ok-push-in-Slot.ensures.items

pub returns-in-Sections : goal.returns-in-Sections
returns-in-Sections c requests are =
    let m = c.args.mutator.now in
    let old = c.args.wants.now in
    wants_one requests m m.stage AllSections old _
    (asks_by m m.stage AllSections (sym c.leave.ensures ∙ c.in-Some-Wants.is
    ∙ ap (λ (l : Leave). Some l) (c.in-Some-Wants.field-0-is ∙ ap (λ (r : Request). HasAsked r) c.in-Sections.is))) are
    (or_false old.minor) (or_false old.major) (or_true old.blocks) (sym (append-nil old.needs.items)) (sym (append-nil old.sizes.items))
