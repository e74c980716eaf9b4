use Rattle.std.proofs.Common.{◌≡◌, map, take}
use Rattle.sg_program.specs.declared.program.Class.{Class}
use Rattle.sg_world.proofs.world.shapes_of.Given as goal

-- the shapes of the classes so far
abbrev pub invariant-loop-class : goal.invariant-loop-class
invariant-loop-class l = l.shapes.items ≡ map (λ (class : Class). class.shape) (take l.class-index l.classes)
