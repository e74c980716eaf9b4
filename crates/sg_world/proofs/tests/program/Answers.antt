use Rattle.std.proofs.Common.{rules, ◌≡◌, ◌∷◌, [], sym, subst}
use Rattle.sg_desc.specs.declared.shapes.Descriptor.TheVariants.{PtrFree}
use Rattle.sg_program.specs.declared.program.Class.{Class}
use Rattle.sg_program.specs.declared.program.Script.{Script}
use Rattle.sg_program.specs.declared.program.Program.{Program}
use Rattle.sg_world.specs.Worlds.{CanRun}
use Rattle.sg_world.proofs.Given.{can_run}
use Rattle.sg_world.proofs.tests.program.Goals as goal

pub returns : goal.returns
returns c =
    let name = c.from_vec.result in
    let one : Script = c.in_ok-script.field-0 in
    let two : Script = c.in_ok-script-2.field-0 in
    let class : Class = record { name = name; shape = record { fields = 2; kind = PtrFree } } in
    let classes : c.from_vec-2.result ≡ class ∷ [] = search rules in
    let mutators : c.from_vec-3.result ≡ one ∷ two ∷ [] = search rules in
    let is : record {
      config = record { nursery = 256; blocks = 1; pages = 0; buffer = 16; workers = 1; cement = 1 };
      classes = class ∷ [];
      mutators =
          one ∷ two ∷ [];
    }
    ≡ record {
      config = record { nursery = 256; blocks = 1; pages = 0; buffer = 16; workers = 1; cement = 1 };
      classes = c.from_vec-2.result;
      mutators =
          c.from_vec-3.result;
    } =
    λ i. record {
      config = record { nursery = 256; blocks = 1; pages = 0; buffer = 16; workers = 1; cement = 1 };
      classes = sym classes i;
      mutators =
          sym mutators i;
    } in
    let e = c.in_ok-script.ensures in
    let f = c.in_ok-script-2.ensures in
    subst (λ (p : Program). CanRun p) is
    (can_run name one two (record { out = e.out; written = e.written; times = e.times; nesting = e.nesting })
    (record { out = f.out; written = f.written; times = f.times; nesting = f.nesting }))
