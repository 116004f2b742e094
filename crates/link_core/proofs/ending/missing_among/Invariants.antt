use Rattle.std.proofs.Common.{◌≡◌, ◌++◌, drop}
use Rattle.std.specs.Prelude.{filter, is_none}
use Rattle.link_db_mapping.specs.Mapped.{mapping_of}
use Rattle.link_db.specs.Seen.{seen}
use Rattle.link_core.proofs.ending.missing_among.Given as goal

-- the missing ones so far, and those among the names that are left
abbrev pub invariant-loop-name : goal.invariant-loop-name
invariant-loop-name g l =
    l.missing.items ++ filter (λ name. is_none (mapping_of (seen l.db).mapping name)) (drop l.name-index l.names)
    ≡ filter (λ name. is_none (mapping_of (seen l.db).mapping name)) l.names
