-- What the tables by sections say of an object's groups.
use Rattle.std.specs.Prelude.{◌≡◌, ◌<◌, ◌==◌, ◌||◌, ℕ, List, [], ◌∷◌, length, Bool, Option, Some, None, All, is_some, if◌then◌else◌}
use Rattle.std.specs.List.{flat_map, slice_index_or}
use Rattle.link_closure.specs.Closure.{is_marked}
use Rattle.link_input.specs.declared.object.SectionGroup.{SectionGroup}
use Rattle.link_input.specs.Checks.{first_place}
use Rattle.link_rules.specs.Places.{contains}
use Rattle.link_rules.specs.Refusals.{first_repeated}
use Rattle.link_resolve_comdat.specs.ObjectGroups.{ObjectGroups, sections_of, is_discarded}

-- the sections of the groups are among so many
abbrev pub AreInside : ℕ → List SectionGroup → Type 0
AreInside sections groups = All (λ g. All (λ section. section < sections) (sections_of g)) groups

-- the members of groups, one after another
abbrev pub members_of : List SectionGroup → List ℕ
members_of groups = flat_map (λ g. g.members) groups

-- the group that has the section as a member
abbrev pub group_with : List SectionGroup → ℕ → Option ℕ
group_with groups section = first_place (λ i g. contains section g.members) 0 groups

-- what a table says of a section
abbrev pub group_at : List (Option ℕ) → ℕ → Option ℕ
group_at table section = slice_index_or table section None

-- a table says something of a section
abbrev pub is_noted : List (Option ℕ) → ℕ → Bool
is_noted table section = is_some (group_at table section)

-- the first number that stood before, where a test says which ones did at first
abbrev pub first_again : (ℕ → Bool) → List ℕ → Option ℕ
first_again before [] = None
first_again before (x ∷ xs) = if before x then Some x else first_again (λ n. (x == n) || before n) xs

-- the groups' sections are those of the object, and no section is a member twice; the tables say of each section which group it
-- is a member of, and whether it is discarded
pub record AreTabled (o : ObjectGroups) (member_of : List (Option ℕ)) (discarded : List Bool) : Type 0 where
  pub each_kept : length o.kept ≡ length o.groups
  pub each_pending : length o.pending ≡ length o.groups
  pub inside : AreInside o.sections o.groups
  pub once : first_repeated [] (members_of o.groups) ≡ None
  pub members : (section : ℕ) → group_at member_of section ≡ group_with o.groups section
  pub lost : (section : ℕ) → is_marked discarded section ≡ is_discarded o section
