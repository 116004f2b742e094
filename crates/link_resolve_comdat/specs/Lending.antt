-- What becomes of a selection while the groups of one object are lent.
use Rattle.std.specs.Prelude.{ℕ, slice_set}
use Rattle.std.specs.Borrow.{Lends, MutBor, Fml}
use Rattle.link_resolve_comdat.specs.ObjectGroups.{ObjectGroups}
use Rattle.link_resolve_comdat.specs.Selected.{SelectedGroups}
use Rattle.link_resolve_comdat.specs.contracts.selection.Selection as selection
use Rattle.link_resolve_comdat.specs.contracts.section_groups.ObjectSectionGroups as groups

-- the selection with other groups of the object at this index
abbrev pub with_groups : SelectedGroups → ℕ → ObjectGroups → SelectedGroups
with_groups s i groups = record s { objects = slice_set s.objects i groups }

-- it ends with what is left of the groups that were lent
abbrev pub LendsGroups : MutBor SelectedGroups → ℕ → MutBor ObjectGroups → Fml
LendsGroups s i r = Lends selection.the_row groups.the_row s r (with_groups s.now i)
