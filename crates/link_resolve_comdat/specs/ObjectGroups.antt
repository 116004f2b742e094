-- The section groups of one loaded regular object, and what became of them (ELF gABI, "Section Groups").
use Rattle.std.specs.Prelude.{ℕ, List, [], ◌∷◌, ◌++◌, map, Bool, false, not, ◌&&◌, Option, nat_le, count_by, slice_set}
use Rattle.std.specs.Option.{option_map_or}
use Rattle.std.specs.List.{list_any, zip}
use Rattle.link_closure.specs.Closure.{is_marked}
use Rattle.link_input.specs.declared.object.SectionGroup.{SectionGroup}
use Rattle.link_input.specs.Checks.{first_place}
use Rattle.link_rules.specs.Places.{contains}

-- the groups of an object with so many sections, in order, with a truth value for each: it is kept; its sections can still be
-- visited through a member
pub record ObjectGroups : Type 0 where
  pub sections : ℕ
  pub groups : List SectionGroup
  pub kept : List Bool
  pub pending : List Bool

-- the sections of a group: its members in order, then its header
abbrev pub sections_of : SectionGroup → List ℕ
sections_of g = g.members ++ g.index ∷ []

-- a section of a group that isn't kept
abbrev pub is_discarded : ObjectGroups → ℕ → Bool
is_discarded o section = list_any (λ g. not g.1 && contains section (sections_of g.0)) (zip o.groups o.kept)

-- the pending group that has the section as a member
abbrev pub pending_group : ObjectGroups → ℕ → Option ℕ
pending_group o section = first_place (λ i g. g.1 && contains section g.0.members) 0 (zip o.groups o.pending)

-- the group through which the section was asked for is visited, and so no longer pending
abbrev pub after_visit : ObjectGroups → ℕ → ObjectGroups
after_visit o section = record o { pending = option_map_or (λ g. slice_set o.pending g false) (pending_group o section) o.pending }

-- two or more sections of a group are marked
abbrev pub has_two : List Bool → SectionGroup → Bool
has_two marks g = nat_le 2 (count_by (is_marked marks) (sections_of g))

-- no group stays pending, or, where that is asked, those of which two or more sections are marked
abbrev pub prepared : List Bool → Bool → ObjectGroups → ObjectGroups
prepared marks enabled o = record o { pending = map (λ g. enabled && g.1 && has_two marks g.0) (zip o.groups o.pending) }

-- no group stays pending
abbrev pub released : ObjectGroups → ObjectGroups
released o = record o { pending = map (λ p. false) o.pending }
