-- The strings that version definitions name.
use Rattle.std.specs.Prelude.{ℕ, ◌==◌, Bool, List, [], ◌∷◌, ◌++◌, length, take}
use Rattle.std.specs.List.{flat_map, list_any}
use Rattle.link_verdef.specs.declared.item.VersionItem.{VersionItem}

-- a name as a string table has it: its bytes, and a zero byte (ELF gABI, "String Table")
abbrev pub string_of : VersionItem → List ℕ
string_of item = item.name ++ 0 ∷ []

-- the empty string, and then the name of each item in order
abbrev pub verdef_strings : List VersionItem → List ℕ
verdef_strings items = 0 ∷ flat_map string_of items

-- where the name of an item stands: behind the strings of the items in front of it
abbrev pub place_of : List VersionItem → ℕ → ℕ
place_of items number = length (verdef_strings (take number items))

-- a name that no string table can hold
abbrev pub has_zero : VersionItem → Bool
has_zero item = list_any (λ byte. byte == 0) item.name
