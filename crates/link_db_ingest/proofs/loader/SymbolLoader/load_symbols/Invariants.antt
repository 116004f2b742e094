use Rattle.std.proofs.Common.{◌≡◌, ◌+◌, ◌++◌, drop, length, map}
use Rattle.link_input.specs.Symbols.{object_symbol}
use Rattle.link_input_groups.specs.Groups.{object_file}
use Rattle.link_rules.specs.Opening.{opening_flags}
use Rattle.link_rules.specs.World.{Stage}
use Rattle.link_db_ingest.specs.Definitions.{definitions_from}
use Rattle.link_db_ingest.specs.Files.{file_definitions, file_flags, numbers_of}
use Rattle.link_db_ingest.proofs.loader.SymbolLoader.load_symbols.Given as goal

abbrev pub invariant-loop-offset : goal.invariant-loop-offset
invariant-loop-offset g l = record {
  definitions : l.read.definitions.items
      ++ definitions_from (l.object.symbol_id_range.start + l.offset) (map (object_symbol 0 l.object.parsed) (drop l.offset l.object.parsed.object.symbols))
      ≡ l.fn.read.definitions.items ++ file_definitions (object_file l.object);
  flags : (w : Stage) → g.Self.SymbolLoader.reads_for l.self w
      → numbers_of l.read.flags.items ++ map (opening_flags w) (map (object_symbol 0 l.object.parsed) (drop l.offset l.object.parsed.object.symbols))
      ≡ numbers_of l.fn.read.flags.items ++ file_flags w (object_file l.object);
  count : length l.read.flags.items ≡ length l.fn.read.flags.items + l.offset;
}
