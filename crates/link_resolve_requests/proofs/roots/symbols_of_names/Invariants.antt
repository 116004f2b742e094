use Rattle.std.proofs.Common.{◌≡◌, ◌++◌, drop}
use Rattle.std.specs.Prelude.{filter_map}
use Rattle.link_db.specs.Seen.{seen}
use Rattle.link_db_mapping.specs.Mapped.{mapping_of}
use Rattle.link_resolve_requests.proofs.roots.symbols_of_names.Given as goal

-- the symbols so far, and those of the names that are left
abbrev pub invariant-loop-name : goal.invariant-loop-name
invariant-loop-name g l =
    l.ids.items ++ filter_map (mapping_of (seen l.db).mapping) (drop l.name-index l.names) ≡ filter_map (mapping_of (seen l.db).mapping) l.names
