use Rattle.std.proofs.Common.{◌≡◌, ◌<◌, All, take}
use Rattle.std.specs.Prelude.{filter_map}
use Rattle.link_gc.specs.Numbering.{AreNumbersOf, node_number}
use Rattle.link_rules.specs.Selection.{Selection}
use Rattle.link_gc.proofs.edges.kept_members.Given as goal

-- the numbers of the members so far
abbrev pub invariant-loop-member : goal.invariant-loop-member
invariant-loop-member l = record {
  members : (s : Selection) → AreNumbersOf s l.numbers.spans.items l.numbers.groups.now → l.members.items ≡ filter_map (λ member. node_number s (l.fn.object, member)) (take l.member-index l.member-items);
  within : All (λ n. n < l.numbers.count) l.members.items;
}
