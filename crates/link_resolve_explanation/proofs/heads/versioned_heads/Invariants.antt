use Rattle.std.proofs.Common.{◌≡◌, ◌++◌, map}
use Rattle.link_db_files.specs.GroupFiles.{symbols_in}
use Rattle.link_db_mapping.specs.Keys.{versioned_key}
use Rattle.link_db_mapping.specs.Mapped.{mapped_key}
use Rattle.link_db.specs.Seen.{seen}
use Rattle.link_resolve_explanation.specs.Heads.{versioned_head}
use Rattle.link_resolve_explanation.proofs.heads.versioned_heads.Given as goal

abbrev pub invariant-loop-symbol : goal.invariant-loop-symbol
invariant-loop-symbol g l =
    let head = versioned_head (λ name version. mapped_key (seen l.db).mapping (versioned_key name version)) in
    l.heads.items ++ map head l.symbol-iterator.left ≡ map head (symbols_in (seen l.db).mapping.files.groups)
