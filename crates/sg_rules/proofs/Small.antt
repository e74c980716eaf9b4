-- A program within the limits makes small objects alone.
use Rattle.std.proofs.Common.{ℕ, zero, suc, ◌≤◌, List, [], ◌∷◌, zero-le, arith}
use Rattle.std.specs.List.{AllByRecursion, slice_get}
use Rattle.sg_desc.specs.declared.shapes.Descriptor.{Descriptor}
use Rattle.sg_desc.specs.declared.shapes.Descriptor.TheVariants.{PtrFree, Run, Bitmap, VectorRefs, VectorPlain, Ephemeron}
use Rattle.sg_program.specs.declared.program.Class.{Class}
use Rattle.sg_program.specs.declared.program.Statement.{Statement}
use Rattle.sg_program.specs.declared.program.Statement.TheVariants.{New, NewV, Mature, Put, Get, PutD, GetD, Num, Move, Hide, Unhide, Drop, Push, Pop, GPut, GGet, WSet, WGet, Final, NextFin, Same, Collect, Sections}
use Rattle.sg_program.specs.declared.program.Program.{Program}
use Rattle.sg_program.specs.Scripts.{shape_at, fields_of, made_fields}
use Rattle.sg_program.specs.Limits.{MayHave}
use Rattle.sg_program.specs.Invariants.{IsSmallClass, IsGood, IsBuilt}
use Rattle.sg_rules.specs.Resting.{IsRunnable}

few : (kind : Descriptor) (n : ℕ) → MayHave kind n → n ≤ 62
few PtrFree n m = m
few (Run first count) n m = m.2
few (Bitmap bits) n m = omega arith
few VectorRefs n m = omega arith
few VectorPlain n m = omega arith
few Ephemeron n m = omega arith

small_at : (classes : List Class) (c : ℕ) → AllByRecursion IsSmallClass classes → (shape_at (slice_get classes c)).fields ≤ 62
small_at [] c all = zero-le
small_at (class ∷ classes) zero all = few class.shape.kind class.shape.fields all.0
small_at (class ∷ classes) (suc c) all = small_at classes c all.1

-- the objects of a class of the program are small
pub small_class : (p : Program) (c : ℕ) → AllByRecursion IsSmallClass p.classes → fields_of p c ≤ 62
small_class p c all = small_at p.classes c all

-- an object that a statement makes which is run now
pub small_made : (p : Program) (s : Statement) → AllByRecursion IsSmallClass p.classes → IsBuilt p s → made_fields p s ≤ 62
small_made p (New r class) all run = small_class p class all
small_made p (NewV r class count) all run = run
small_made p (Mature r class) all run = small_class p class all
small_made p (Put r i s) all run = zero-le
small_made p (Get d r i) all run = zero-le
small_made p (PutD r i s) all run = zero-le
small_made p (GetD d r i) all run = zero-le
small_made p (Num d n) all run = zero-le
small_made p (Move d s) all run = zero-le
small_made p (Hide d s offset) all run = zero-le
small_made p (Unhide d s) all run = zero-le
small_made p (Drop r) all run = zero-le
small_made p (Push r) all run = zero-le
small_made p (Pop r) all run = zero-le
small_made p (GPut x r) all run = zero-le
small_made p (GGet r x) all run = zero-le
small_made p (WSet x r long) all run = absurd run
small_made p (WGet r x) all run = absurd run
small_made p (Final r) all run = absurd run
small_made p (NextFin r) all run = absurd run
small_made p (Same r s) all run = zero-le
small_made p (Collect major) all run = zero-le
small_made p Sections all run = zero-le

pub runnable : (p : Program) (s : Statement) → AllByRecursion IsSmallClass p.classes → IsGood p s → IsBuilt p s → IsRunnable p s
runnable p s all good run = record { good = good; run = run; small = small_made p s all run }

-- and so for a whole script
pub all_runnable : (p : Program) (script : List Statement) → AllByRecursion IsSmallClass p.classes → AllByRecursion (IsGood p) script →
    AllByRecursion (IsBuilt p) script → AllByRecursion (IsRunnable p) script
all_runnable p [] all good run = tt
all_runnable p (s ∷ script) all good run = (runnable p s all good.0 run.0, all_runnable p script all good.1 run.1)
