-- Which versions a file can define.
use Rattle.std.specs.Prelude.{ℕ, ◌==◌, ◌&&◌, ◌||◌, nat_le, nat_lt, Bool, true, List, length, Option, Some, None}
use Rattle.std.specs.List.{enumerate_from, list_all}
use Rattle.link_verdef.specs.declared.item.VersionItem.{VersionItem}

-- no parent, or one behind the base and before the version itself
abbrev pub is_lawful_parent : ℕ → Option ℕ → Bool
is_lawful_parent number None = true
is_lawful_parent number (Some parent) = nat_le 1 parent && nat_lt parent number

-- a version beside its number
abbrev pub is_lawful_item : ℕ × VersionItem → Bool
is_lawful_item (number, item) = is_lawful_parent number item.parent

-- each version, by its number
abbrev pub are_lawful : List VersionItem → Bool
are_lawful items = list_all is_lawful_item (enumerate_from 0 items)

-- none at all, or a base and at least one version
abbrev pub is_lawful_count : ℕ → Bool
is_lawful_count count = (count == 0) || (nat_le 2 count && nat_le count 32767)

-- what a file can define
abbrev pub is_lawful : List VersionItem → Bool
is_lawful items = is_lawful_count (length items) && are_lawful items
