use Rattle.std.proofs.Common.{◌≡◌, ◌||◌, ◌&&◌, ℕ, not, drop}
use Rattle.std.specs.List.{list_any, zip}
use Rattle.link_closure.specs.Closure.{is_marked}
use Rattle.link_rules.specs.Places.{contains}
use Rattle.link_resolve_comdat.specs.ObjectGroups.{sections_of}
use Rattle.link_resolve_comdat.proofs.tables.mark_discarded.Given as goal

abbrev pub invariant-loop-i : goal.invariant-loop-i
invariant-loop-i l = (section : ℕ) →
    (is_marked l.marks section || list_any (λ g. not g.1 && contains section (sections_of g.0)) (zip (drop l.i l.groups) (drop l.i l.kept)))
    ≡ (is_marked l.initial.marks section || list_any (λ g. not g.1 && contains section (sections_of g.0)) (zip l.groups l.kept))
