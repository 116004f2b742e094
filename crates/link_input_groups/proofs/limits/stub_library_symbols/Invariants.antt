use Rattle.std.proofs.Common.{◌≡◌, ◌+◌, ◌≤◌, ◌*◌, ◌^◌, drop, map}
use Rattle.link_input.specs.InputFiles.{symbol_count, stub_input}
use Rattle.link_input.specs.Limits.{total}
use Rattle.link_input_groups.proofs.limits.stub_library_symbols.Given as goal

abbrev pub invariant-loop-stub : goal.invariant-loop-stub
invariant-loop-stub l = record {
  counted : l.count + total symbol_count (map stub_input (drop l.stub-index l.stubs)) ≡ total symbol_count (map stub_input l.stubs);
  small : l.count ≤ l.stub-index * 2 ^ 65;
}
