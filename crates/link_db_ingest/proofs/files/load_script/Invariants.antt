use Rattle.std.proofs.Common.{◌≡◌, ◌+◌, ◌++◌, drop, length, map}
use Rattle.link_input.specs.declared.internal_symbols.InternalSymDefInfo.{InternalSymDefInfo}
use Rattle.link_input.specs.Symbols.{in_script, symbol_of}
use Rattle.link_input_groups.specs.Groups.{script_file}
use Rattle.link_rules.specs.Opening.{opening_flags}
use Rattle.link_rules.specs.World.{Stage}
use Rattle.link_db_ingest.specs.Definitions.{definitions_from}
use Rattle.link_db_ingest.specs.Files.{file_definitions, file_flags, numbers_of}
use Rattle.link_db_ingest.proofs.files.load_script.Given as goal

abbrev pub invariant-loop-place : goal.invariant-loop-place
invariant-loop-place l = record {
  definitions : l.read.definitions.items ++ definitions_from (l.ids.start + l.place) (map (λ (d : InternalSymDefInfo). symbol_of d.name (in_script d)) (drop l.place l.definition-items))
      ≡ l.fn.read.definitions.items ++ file_definitions (script_file l.script);
  flags : (w : Stage) → numbers_of l.read.flags.items ++ map (opening_flags w) (map (λ (d : InternalSymDefInfo). symbol_of d.name (in_script d)) (drop l.place l.definition-items))
      ≡ numbers_of l.fn.read.flags.items ++ file_flags w (script_file l.script);
  count : length l.read.flags.items ≡ length l.fn.read.flags.items + l.place;
}
