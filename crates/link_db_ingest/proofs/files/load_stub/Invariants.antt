use Rattle.std.proofs.Common.{◌≡◌, ◌+◌, ◌++◌, drop, length, map}
use Rattle.link_input.specs.declared.world.StubSymbol.{StubSymbol}
use Rattle.link_input.specs.Symbols.{in_stub, stub_strength, symbol_of}
use Rattle.link_input_groups.specs.Groups.{stub_file}
use Rattle.link_rules.specs.Opening.{opening_flags}
use Rattle.link_rules.specs.World.{Stage}
use Rattle.link_db_ingest.specs.Definitions.{definitions_from}
use Rattle.link_db_ingest.specs.Files.{file_definitions, file_flags, numbers_of}
use Rattle.link_db_ingest.proofs.files.load_stub.Given as goal

abbrev pub invariant-loop-place : goal.invariant-loop-place
invariant-loop-place l = record {
  definitions : l.read.definitions.items ++ definitions_from (l.ids.start + l.place) (map (λ (s : StubSymbol). symbol_of s.name (in_stub (stub_strength s))) (drop l.place l.symbol-items))
      ≡ l.fn.read.definitions.items ++ file_definitions (stub_file l.stub);
  flags : (w : Stage) → numbers_of l.read.flags.items ++ map (opening_flags w) (map (λ (s : StubSymbol). symbol_of s.name (in_stub (stub_strength s))) (drop l.place l.symbol-items))
      ≡ numbers_of l.fn.read.flags.items ++ file_flags w (stub_file l.stub);
  count : length l.read.flags.items ≡ length l.fn.read.flags.items + l.place;
}
