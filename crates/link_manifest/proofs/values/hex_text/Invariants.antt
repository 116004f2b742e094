use Rattle.std.proofs.Common.{◌≡◌, drop, option_map}
use Rattle.json.specs.Value as tree
use Rattle.serde_json.specs.Data.{Members}
use Rattle.link_manifest_json.specs.Tree.{members_view, put_all}
use Rattle.link_manifest.specs.Values.{hex_text}
use Rattle.link_manifest.proofs.OneKey.{IsReplaced}
use Rattle.link_manifest.proofs.values.hex_text.Given as goal

-- the members so far have the one key, and its last text
abbrev pub invariant-loop-member : goal.invariant-loop-member
invariant-loop-member l =
    (found : Members) × IsReplaced found × (option_map (λ t. t.now) l.text ≡ hex_text found)
    × (hex_text (put_all (tree.members_view (drop l.member-index l.members)) found) ≡ hex_text (members_view l.members))
