use Rattle.std.proofs.Common.{◌≡◌, ◌++◌, drop}
use Rattle.link_rules.specs.Comdat.{groups_of}
use Rattle.link_resolve_comdat.specs.InOrder.{comdats_told}
use Rattle.link_resolve_comdat.proofs.signatures.tell_comdats.Given as goal

abbrev pub invariant-loop-group : goal.invariant-loop-group
invariant-loop-group g l = record {
  done : l.comdats ++ comdats_told (drop l.group (groups_of l.candidate)) (drop l.group l.kept) ≡ l.initial.comdats ++ comdats_told (groups_of l.candidate) l.kept;
}
