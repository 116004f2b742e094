use Rattle.std.proofs.Common.{◌≡◌, ◌++◌, false, drop}
use Rattle.std.specs.Prelude.{filter_map}
use Rattle.link_rules.specs.Places.{first_of}
use Rattle.link_rules.specs.Refusals.{group_cause}
use Rattle.link_resolve_comdat.specs.InOrder.{is_met, objects_in_order, comdats_in_order}
use Rattle.link_resolve_comdat.proofs.selection.Selection.select.Given as goal

abbrev pub invariant-loop-candidate : goal.invariant-loop-candidate
invariant-loop-candidate g l = record {
  cause : first_of (filter_map group_cause (drop l.candidate-index l.objects)) ≡ first_of (filter_map group_cause l.objects);
  groups : l.groups ++ objects_in_order (is_met l.signatures) (drop l.candidate-index l.objects) ≡ objects_in_order (λ name. false) l.objects;
  kept : l.kept ++ comdats_in_order (is_met l.signatures) (drop l.candidate-index l.objects) ≡ comdats_in_order (λ name. false) l.objects;
}
