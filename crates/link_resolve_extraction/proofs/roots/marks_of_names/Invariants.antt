use Rattle.std.proofs.Common.{◌≡◌, ◌++◌, ◌<◌, All, drop, length, map}
use Rattle.link_db_mapping.specs.Mapped.{mapping_of}
use Rattle.link_resolve_marks.specs.Marks.{marks_on_names}
use Rattle.link_claim_pool.specs.Marks.{mark_of_pair}
use Rattle.link_db.specs.Database.{symbol_names}
use Rattle.link_db.specs.Seen.{seen}
use Rattle.link_resolve_extraction.proofs.roots.marks_of_names.Given as goal

-- the marks so far, and those of the names that are left
abbrev pub invariant-loop-name : goal.invariant-loop-name
invariant-loop-name g l =
    let mapping = mapping_of (seen l.db).mapping in
    (map mark_of_pair l.marks.items ++ marks_on_names mapping (drop l.name-index l.names) ≡ marks_on_names mapping l.names)
    × All (λ m. m.0 < length (symbol_names (seen l.db))) l.marks.items
