use Rattle.std.proofs.Common.{◌≡◌, ◌++◌, drop}
use Rattle.std.specs.Prelude.{◌||◌, is_some}
use Rattle.link_rules.specs.Places.{each_from}
use Rattle.link_resolve_reasons.specs.Told.{entry_at, rooted_marks}
use Rattle.link_resolve_reasons.proofs.levels.rooted_marks.Given as goal

-- the marks so far, and those of the objects that are left
abbrev pub invariant-loop-object : goal.invariant-loop-object
invariant-loop-object l =
    l.marks.items ++ each_from (λ f is_mandatory. is_mandatory || is_some (entry_at l.first_roots f)) l.object (drop l.object l.mandatory) ≡ rooted_marks l.mandatory l.first_roots
