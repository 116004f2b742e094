-- Definitions that come in parts.
use Rattle.std.specs.Prelude.{List}
use Rattle.std.specs.List.{flat_map}
use Rattle.link_db_buckets.specs.declared.definition.Definition.{Definition}
use Rattle.link_db_ingest.specs.declared.read_symbols.ReadSymbols.{ReadSymbols}

-- the definitions of parts that follow one another
abbrev pub definitions_in : List ReadSymbols → List Definition
definitions_in parts = flat_map (λ p. p.definitions.items) parts
