use Rattle.std.proofs.Common.{◌≡◌, drop, map, option_map}
use Rattle.json.specs.Value as tree
use Rattle.serde_json.specs.Data.{Members}
use Rattle.link_manifest_json.specs.Tree.{members_view, put_all}
use Rattle.link_manifest.specs.Reading.{unknown_key}
use Rattle.link_manifest.proofs.Keys.{IsSorted}
use Rattle.link_manifest.proofs.reading.unknown_key.Given as goal

-- the members so far are put in order, and have the least key
abbrev pub invariant-loop-member : goal.invariant-loop-member
invariant-loop-member l =
    (found : Members) × IsSorted found × (option_map (λ k. k.now) l.least ≡ unknown_key (map (λ k. k.now) l.known) found)
    × (unknown_key (map (λ k. k.now) l.known) (put_all (tree.members_view (drop l.member-index l.members)) found) ≡ unknown_key (map (λ k. k.now) l.known) (members_view l.members))
