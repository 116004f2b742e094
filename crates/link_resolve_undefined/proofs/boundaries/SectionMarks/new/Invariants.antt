use Rattle.std.proofs.Common.{◌≡◌, ◌||◌, drop}
use Rattle.link_names.specs.Names.{has_name, is_member}
use Rattle.link_rules.specs.Places.{Bytes}
use Rattle.link_resolve_undefined.proofs.boundaries.SectionMarks.new.Given as goal

abbrev pub invariant-loop-section : goal.invariant-loop-section
invariant-loop-section l = (asked : Bytes) →
    is_member l.names asked || has_name (drop l.section-index l.sections) asked ≡ has_name l.sections asked
