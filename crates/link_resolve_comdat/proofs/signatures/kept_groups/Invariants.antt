use Rattle.std.proofs.Common.{◌≡◌, ◌++◌, drop}
use Rattle.link_rules.specs.Places.{Bytes}
use Rattle.link_rules.specs.Comdat.{groups_of}
use Rattle.link_resolve_comdat.specs.InOrder.{is_met, met_with, kept_in_order}
use Rattle.link_resolve_comdat.proofs.signatures.kept_groups.Given as goal

abbrev pub invariant-loop-group : goal.invariant-loop-group
invariant-loop-group g l = record {
  kept : l.kept.items ++ kept_in_order (is_met l.signatures) (drop l.group (groups_of l.fn.candidate)) ≡ kept_in_order (is_met l.initial.signatures) (groups_of l.fn.candidate);
  met : (name : Bytes) → met_with (is_met l.signatures) (drop l.group (groups_of l.fn.candidate)) name ≡ met_with (is_met l.initial.signatures) (groups_of l.fn.candidate) name;
}
