use Rattle.std.proofs.Common.{◌≡◌, length, map, ◌-◌, ◌≤◌}
use Rattle.sg_parse.specs.Names.{classes_of}
use Rattle.sg_text.specs.Reading.{sentence_of}
use Rattle.sg_parse.specs.Building.{total_of, finals_of}
use Rattle.sg_parse.proofs.ScriptLemmas.{IsInScripts}
use Rattle.sg_parse.proofs.scripts.read_scripts.Given as goal

abbrev pub invariant-loop-at : goal.invariant-loop-at
invariant-loop-at l = record {
  within : l.at ≤ length l.lines;
  state : IsInScripts (classes_of l.names) (map sentence_of l.lines) l.at l.scripts.items;
  statements_are : l.statements ≡ total_of l.scripts.items;
  finals_are : l.finals ≡ finals_of l.scripts.items;
  statements_few : l.statements ≤ 1048576;
  finals_few : l.finals ≤ 1024;
}

abbrev pub decreases-loop-at : goal.decreases-loop-at
decreases-loop-at l = length l.lines - l.at
