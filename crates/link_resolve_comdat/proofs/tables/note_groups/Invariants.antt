use Rattle.std.proofs.Common.{◌≡◌, ℕ, drop}
use Rattle.std.specs.Option.{option_or}
use Rattle.link_input.specs.Checks.{first_place}
use Rattle.link_rules.specs.Places.{contains}
use Rattle.link_resolve_comdat.specs.Tables.{members_of, group_with, group_at, is_noted, first_again}
use Rattle.link_resolve_comdat.proofs.tables.note_groups.Given as goal

abbrev pub invariant-loop-i : goal.invariant-loop-i
invariant-loop-i l = record {
  again : first_again (is_noted l.initial.member_of) (members_of l.groups) ≡ first_again (is_noted l.member_of) (members_of (drop l.i l.groups));
  noted : (section : ℕ) → option_or (group_at l.member_of section) (first_place (λ i g. contains section g.members) l.i (drop l.i l.groups))
      ≡ option_or (group_at l.initial.member_of section) (group_with l.groups section);
}
