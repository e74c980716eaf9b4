use Rattle.std.proofs.Common.{◌≡◌, ◌≤◌, map, length, vec_len}
use Rattle.std.specs.List.{AllByRecursion}
use Rattle.std.specs.Fmt.{decimal}
use Rattle.sg_command.proofs.turns.turns_in.Given as goal

-- the numbers so far are those of the parts so far
abbrev pub invariant-loop-part : goal.invariant-loop-part
invariant-loop-part l = record {
  so_far : map decimal l.turns.items ≡ map (λ p. p.now) l.yielded;
  len : vec_len l.turns ≡ length l.turns.items;
  few : length l.turns.items ≤ 65536;
  small : AllByRecursion (λ n. n ≤ 63) l.turns.items;
}
