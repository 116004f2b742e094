-- The sections of discarded groups.
use Rattle.std.specs.Prelude.{ℕ, ◌&&◌, List, filter, Bool, not}
use Rattle.std.specs.BTreeSet as tree
use Rattle.std.specs.BTreeSet.{BTreeSet}
use Rattle.std.specs.declared.cmp.Ordering.{Ordering}
use Rattle.std.specs.Ordering.{nat_cmp, ordering_then}
use Rattle.link_rules.specs.Comdat.{Comdat, PlacedGroup, comdats_among, is_kept_among, sections_in}
use Rattle.link_rules.specs.Places.{contains}

-- pairs in order, by the first number and then by the second
abbrev pub pair_cmp : ℕ × ℕ → ℕ × ℕ → Ordering
pair_cmp x y = ordering_then (nat_cmp x.0 y.0) (nat_cmp x.1 y.1)

-- the section of the object at this place is among these
abbrev pub is_in : BTreeSet (ℕ × ℕ) → ℕ → ℕ → Bool
is_in sections f n = tree.contains pair_cmp sections (f, n)

-- the groups that are not kept: at a stage with these loaded groups they are `discarded_groups`
abbrev pub discarded_among : List PlacedGroup → List PlacedGroup
discarded_among groups = filter (λ g. not (is_kept_among (comdats_among groups) g)) groups

-- the section of the object at this place goes with the group
abbrev pub is_lost_with : List Comdat → ℕ → ℕ → PlacedGroup → Bool
is_lost_with comdats f n g = not (is_kept_among comdats g) && contains n (sections_in f g)
