use Rattle.std.proofs.Common.{rules, ◌≡◌, ◌∷◌, [], sym, subst}
use Rattle.sg_desc.specs.declared.shapes.Descriptor.TheVariants.{PtrFree}
use Rattle.sg_program.specs.declared.program.Class.{Class}
use Rattle.sg_program.specs.declared.program.Script.{Script}
use Rattle.sg_program.specs.declared.program.Program.{Program}
use Rattle.sg_world.specs.Worlds.{CanRun}
use Rattle.sg_world.proofs.Given.{settings, can_fill}
use Rattle.sg_world.proofs.tests.crowded.Goals as goal

pub returns : goal.returns
returns c =
    let name = c.from_vec.result in
    let one : Script = c.in_ok-script.field-0 in
    let class : Class = record { name = name; shape = record { fields = 62; kind = PtrFree } } in
    let classes : c.from_vec-2.result ≡ class ∷ [] = search rules in
    let mutators : c.from_vec-3.result ≡ one ∷ [] = search rules in
    let is : record { config = settings; classes = class ∷ []; mutators = one ∷ [] }
    ≡ record { config = settings; classes = c.from_vec-2.result; mutators = c.from_vec-3.result } =
    λ i. record { config = settings; classes = sym classes i; mutators = sym mutators i } in
    let e = c.in_ok-script.ensures in
    subst (λ (p : Program). CanRun p) is (can_fill name one (record { out = e.out; written = e.written; times = e.times; nesting = e.nesting }))
