use Rattle.std.proofs.Common.{◌≡◌, ◌==◌, ◌&&◌, ◌||◌, ℕ, take}
use Rattle.link_rules.specs.Places.{contains}
use Rattle.link_check_groups.specs.Sections.{is_in}
use Rattle.link_check_groups.proofs.discarded.add_sections.Given as goal

abbrev pub invariant-loop-member : goal.invariant-loop-member
invariant-loop-member l =
    (f n : ℕ) → is_in l.sections f n ≡ (is_in l.initial.sections f n || (l.object == f && contains n (take l.member-index l.members)))
