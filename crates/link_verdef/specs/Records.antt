-- The records of version definitions (LSB Core, "Symbol Versioning", `Elfxx_Verdef` and `Elfxx_Verdaux`).
use Rattle.std.specs.Prelude.{ℕ, ◌+◌, ◌*◌, ◌==◌, nat_lt, if◌then◌else◌, List, [], ◌∷◌, ◌++◌, length, Option, Some, None}
use Rattle.std.specs.List.{flat_map, enumerate_from}
use Rattle.std.specs.Int.{w16, w32, to_le_bytes}
use Rattle.link_verdef.specs.declared.item.VersionItem.{VersionItem}
use Rattle.link_verdef.specs.declared.record.Verdef.{Verdef}
use Rattle.link_verdef.specs.declared.record.Verdaux.{Verdaux}
use Rattle.link_verdef.specs.Hash.{sysv_hash}
use Rattle.link_verdef.specs.Strings.{place_of}

-- the fields of a definition one after another, lowest byte first
abbrev pub verdef_bytes : Verdef → List ℕ
verdef_bytes d = to_le_bytes w16 d.vd_version ++ to_le_bytes w16 d.vd_flags ++ to_le_bytes w16 d.vd_ndx ++ to_le_bytes w16 d.vd_cnt
    ++ to_le_bytes w32 d.vd_hash ++ to_le_bytes w32 d.vd_aux ++ to_le_bytes w32 d.vd_next

-- the fields of one of its names
abbrev pub verdaux_bytes : Verdaux → List ℕ
verdaux_bytes a = to_le_bytes w32 a.vda_name ++ to_le_bytes w32 a.vda_next

-- how many names a definition has: its own, and that of the version that it extends
abbrev pub name_count : Option ℕ → ℕ
name_count None = 1
name_count (Some parent) = 2

-- the flag of the base, `VER_FLG_BASE`
abbrev pub flags_of : ℕ → ℕ
flags_of number = if number == 0 then 1 else 0

-- how far behind a definition the next one begins, and 0 for the last: a definition has 20 bytes, a name 8
abbrev pub next_of : ℕ → ℕ → Option ℕ → ℕ
next_of count number parent = if nat_lt (number + 1) count then 20 + 8 * name_count parent else 0

-- the definition of the item of this number, of so many items
abbrev pub verdef_of : ℕ → ℕ → VersionItem → Verdef
verdef_of count number item = record {
  vd_version = 1;
  vd_flags = flags_of number;
  vd_ndx = number + 1;
  vd_cnt = name_count item.parent;
  vd_hash = sysv_hash item.name;
  vd_aux = 20;
  vd_next = next_of count number item.parent;
}

-- its names, by the place that each number's name has in the strings
abbrev pub verdauxes_of : (ℕ → ℕ) → ℕ → Option ℕ → List Verdaux
verdauxes_of place number None = record { vda_name = place number; vda_next = 0 } ∷ []
verdauxes_of place number (Some parent) =
    record { vda_name = place number; vda_next = 8 } ∷ record { vda_name = place parent; vda_next = 0 } ∷ []

-- a definition and its names, of so many items, by the places of their names
abbrev pub item_bytes : ℕ → (ℕ → ℕ) → ℕ × VersionItem → List ℕ
item_bytes count place (number, item) =
    verdef_bytes (verdef_of count number item) ++ flat_map verdaux_bytes (verdauxes_of place number item.parent)

-- those of all items in order
abbrev pub verdef_records : List VersionItem → List ℕ
verdef_records items = flat_map (item_bytes (length items) (place_of items)) (enumerate_from 0 items)
