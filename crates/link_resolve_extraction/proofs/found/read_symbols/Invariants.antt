use Rattle.std.proofs.Common.{◌≡◌, ◌++◌, drop, map}
use Rattle.std.specs.List.{flat_map}
use Rattle.link_db_symbols.specs.Walk.{with_ids}
use Rattle.link_db.specs.Seen.{seen}
use Rattle.link_resolve_extraction.specs.Asked.{found_mark, found_target, known_by, marks_by, requests_by, targets_by}
use Rattle.link_resolve_extraction.proofs.found.read_symbols.Given as goal

-- what was found so far, and what the symbols that are left give
abbrev pub invariant-loop-at : goal.invariant-loop-at
invariant-loop-at g l =
    let known = known_by g.P.Platform.WEAK_SYMBOLS_OVERRIDE_COMMON (seen l.db) l.settled in
    (l.requests.items ++ flat_map (requests_by known) (drop l.at (with_ids l.symbols)) ≡ flat_map (requests_by known) (with_ids l.symbols))
    × (map found_target l.references.items ++ flat_map (targets_by known) (drop l.at (with_ids l.symbols)) ≡ flat_map (targets_by known) (with_ids l.symbols))
    × (map found_mark l.references.items ++ flat_map (marks_by known) (drop l.at (with_ids l.symbols)) ≡ flat_map (marks_by known) (with_ids l.symbols))
