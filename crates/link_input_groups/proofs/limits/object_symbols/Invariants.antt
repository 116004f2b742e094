use Rattle.std.proofs.Common.{◌≡◌, ◌+◌, ◌≤◌, ◌*◌, ◌^◌, drop, map}
use Rattle.link_input.specs.InputFiles.{object, symbol_count}
use Rattle.link_input.specs.Limits.{total}
use Rattle.link_input_groups.proofs.limits.object_symbols.Given as goal

abbrev pub invariant-loop-object : goal.invariant-loop-object
invariant-loop-object g l = record {
  counted : l.count + total symbol_count (map object (drop l.object-index l.objects)) ≡ total symbol_count (map object l.objects);
  small : l.count ≤ l.object-index * 2 ^ 64;
}
