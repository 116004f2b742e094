use Rattle.std.proofs.Common.{◌≡◌, ◌++◌, drop, map}
use Rattle.link_db_files.specs.GroupFiles.{symbols_in}
use Rattle.link_input.specs.Symbols.{object_in}
use Rattle.link_resolve_rivals.specs.Settled.{clash_line}
use Rattle.link_rules.specs.World.{Stage}
use Rattle.link_db.specs.Seen.{seen}
use Rattle.link_resolve.proofs.duplicates.push_lines.Given as goal

-- the lines so far, and those that are left
abbrev pub invariant-loop-clash : goal.invariant-loop-clash
invariant-loop-clash g l =
    (w : Stage) → w.symbols ≡ symbols_in (seen l.db).mapping.files.groups → l.names ≡ map (λ o. o.input) w.objects → l.places ≡ map (λ x. object_in x.origin) w.symbols
    → l.lines.items ++ map (clash_line w) (drop l.clash-index l.clashes) ≡ l.initial.lines.items ++ map (clash_line w) l.clashes
