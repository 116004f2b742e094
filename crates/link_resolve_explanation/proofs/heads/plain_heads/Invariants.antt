use Rattle.std.proofs.Common.{◌≡◌, ◌++◌, map}
use Rattle.link_db_files.specs.GroupFiles.{symbols_in}
use Rattle.link_db_mapping.specs.Mapped.{mapping_of}
use Rattle.link_db.specs.Seen.{seen}
use Rattle.link_names.specs.Names.{value_in}
use Rattle.link_resolve_explanation.specs.Heads.{known_first, plain_head}
use Rattle.link_resolve_explanation.proofs.heads.plain_heads.Given as goal

abbrev pub invariant-loop-symbol : goal.invariant-loop-symbol
invariant-loop-symbol g l =
    let head = plain_head (known_first (mapping_of (seen l.db).mapping) (value_in l.noted)) in
    l.heads.items ++ map head l.symbol-iterator.left ≡ map head (symbols_in (seen l.db).mapping.files.groups)
