use Rattle.std.proofs.Common.{◌≡◌, ℕ, List, [], map, take}
use Rattle.std.specs.Prelude.{fold}
use Rattle.link_rules.specs.Names.{wrapped}
use Rattle.link_check_names.specs.Named.{mapped_by}
use Rattle.link_check_names.proofs.changes.changes.Given as goal

abbrev pub invariant-loop-name : goal.invariant-loop-name
invariant-loop-name l =
    (asked : List ℕ) → mapped_by l.lists l.changed asked ≡ fold wrapped (mapped_by l.lists []) (map (λ w. w.name) (take l.name-index l.wraps)) asked
