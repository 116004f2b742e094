use Rattle.std.proofs.Common.{◌≡◌, ℕ, take}
use Rattle.std.specs.Prelude.{filter, not}
use Rattle.link_rules.specs.Comdat.{comdats_among, is_discarded_by, is_kept_among}
use Rattle.link_check_groups.specs.Sections.{is_in}
use Rattle.link_check_groups.proofs.groups.LoadedGroups.discarded_sections.Given as goal

abbrev pub invariant-loop-group : goal.invariant-loop-group
invariant-loop-group l =
    (f n : ℕ) → is_in l.sections f n ≡ is_discarded_by (filter (λ g. not (is_kept_among (comdats_among l.self) g)) (take l.group-index l.groups)) f n
