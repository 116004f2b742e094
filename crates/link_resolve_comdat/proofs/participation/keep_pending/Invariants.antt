use Rattle.std.proofs.Common.{◌≡◌, ◌&&◌, ◌++◌, map, take, drop}
use Rattle.std.specs.List.{zip}
use Rattle.link_resolve_comdat.specs.ObjectGroups.{has_two}
use Rattle.link_resolve_comdat.proofs.participation.keep_pending.Given as goal

abbrev pub invariant-loop-i : goal.invariant-loop-i
invariant-loop-i l = record {
  done : take l.i l.pending ++ map (λ g. l.enabled && g.1 && has_two l.marks g.0) (zip (drop l.i l.groups) (drop l.i l.pending)) ≡ map (λ g. l.enabled && g.1 && has_two l.marks g.0) (zip l.groups l.initial.pending);
}
