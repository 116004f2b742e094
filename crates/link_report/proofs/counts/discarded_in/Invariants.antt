use Rattle.std.proofs.Common.{◌≡◌, ◌+◌, ◌≤◌, ◌*◌, ◌^◌, drop}
use Rattle.std.specs.HashSet.{contains}
use Rattle.link_rules.specs.Comdat.{is_same_place}
use Rattle.link_input.specs.Limits.{total}
use Rattle.link_report.specs.Summary.{discarded_of}
use Rattle.link_report.proofs.counts.discarded_in.Given as goal

abbrev pub invariant-loop-object : goal.invariant-loop-object
invariant-loop-object g l = record {
  counted : l.count + total (discarded_of (contains is_same_place l.kept)) (drop l.object-index l.objects) ≡ total (discarded_of (contains is_same_place l.kept)) l.objects;
  small : l.count ≤ l.object-index * 2 ^ 64;
}
