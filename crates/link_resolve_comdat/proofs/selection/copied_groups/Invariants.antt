use Rattle.std.proofs.Common.{◌≡◌, take}
use Rattle.link_resolve_comdat.specs.Tables.{AreInside}
use Rattle.link_resolve_comdat.proofs.selection.copied_groups.Given as goal

abbrev pub invariant-loop-group : goal.invariant-loop-group
invariant-loop-group g l = record {
  copied : l.groups ≡ take l.group l.object.groups;
  inside : AreInside l.object.sections (take l.group l.object.groups);
}
