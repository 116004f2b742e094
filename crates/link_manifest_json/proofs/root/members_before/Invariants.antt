use Rattle.std.proofs.Common.{length}
use Rattle.link_manifest_json.specs.Spans.{AreOthers, MembersRead}
use Rattle.link_manifest_json.proofs.root.members_before.Given as goal

abbrev pub invariant-members : goal.invariant-members
invariant-members l = MembersRead l.found.items l.initial.reader l.reader × AreOthers l.key l.found.items

abbrev pub decreases-members : goal.decreases-members
decreases-members l = length l.reader
