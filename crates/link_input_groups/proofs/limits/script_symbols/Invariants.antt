use Rattle.std.proofs.Common.{◌≡◌, ◌+◌, ◌≤◌, ◌*◌, ◌^◌, drop, map}
use Rattle.link_input.specs.InputFiles.{linker_script, symbol_count}
use Rattle.link_input.specs.Limits.{total}
use Rattle.link_input_groups.proofs.limits.script_symbols.Given as goal

abbrev pub invariant-loop-script : goal.invariant-loop-script
invariant-loop-script l = record {
  counted : l.count + total symbol_count (map linker_script (drop l.script-index l.scripts)) ≡ total symbol_count (map linker_script l.scripts);
  small : l.count ≤ l.script-index * 2 ^ 64;
}
