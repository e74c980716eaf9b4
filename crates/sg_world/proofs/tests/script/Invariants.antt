use Rattle.std.proofs.Common.{◌≡◌, ◌≤◌, [], take}
use Rattle.std.specs.List.{flat_map, AllByRecursion}
use Rattle.sg_program.specs.declared.program.Item.{Item}
use Rattle.sg_program.specs.Scripts.{written, written_out}
use Rattle.sg_program.specs.Invariants.{item_depth, item_times}
use Rattle.sg_world.proofs.tests.script.Given as goal

-- the items so far
abbrev pub invariant-loop-statement : goal.invariant-loop-statement
invariant-loop-statement l = record {
  out : written_out l.items.items ≡ take l.statement-index l.statements;
  written : written l.items.items ≡ take l.statement-index l.statements;
  times : flat_map item_times l.items.items ≡ [];
  nesting : AllByRecursion (λ (item : Item). item_depth item ≤ 4) l.items.items;
}
