use Rattle.std.proofs.Common.{◌≡◌, ◌||◌, ℕ, drop}
use Rattle.link_closure.specs.Closure.{is_marked}
use Rattle.link_rules.specs.Places.{contains}
use Rattle.link_resolve_comdat.proofs.tables.mark_sections.Given as goal

abbrev pub invariant-loop-section : goal.invariant-loop-section
invariant-loop-section l = (section : ℕ) →
    (is_marked l.marks section || contains section (drop l.section-index l.group.members)) ≡ (is_marked l.initial.marks section || contains section l.group.members)
