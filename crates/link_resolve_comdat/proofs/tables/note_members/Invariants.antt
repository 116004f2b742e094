use Rattle.std.proofs.Common.{◌≡◌, ℕ, Some, None, if◌then◌else◌, take, drop}
use Rattle.std.specs.Option.{option_or}
use Rattle.link_rules.specs.Places.{contains}
use Rattle.link_resolve_comdat.specs.Tables.{group_at, is_noted, first_again}
use Rattle.link_resolve_comdat.proofs.tables.note_members.Given as goal

abbrev pub invariant-loop-section : goal.invariant-loop-section
invariant-loop-section l = record {
  again : first_again (is_noted l.initial.member_of) l.members ≡ first_again (is_noted l.member_of) (drop l.section-index l.members);
  noted : (section : ℕ) → group_at l.member_of section ≡ option_or (group_at l.initial.member_of section) (if contains section (take l.section-index l.members) then Some l.group else None);
}
