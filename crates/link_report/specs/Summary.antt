-- The summary of a link: how much of it was loaded, kept and left undefined.
use Rattle.std.specs.Prelude.{ℕ, ◌==◌, ◌&&◌, Bool, List, ◌++◌, not, length, count_by, codes, decimal, slice_get, if◌then◌else◌}
use Rattle.std.specs.Option.{option_map_or}
use Rattle.std.specs.List.{enumerate_from, list_any}
use Rattle.link_input.specs.Limits.{total}
use Rattle.link_input.specs.ObjectFile.{ObjectFile}
use Rattle.link_rules.specs.declared.linked.KeptGroup.{KeptGroup}
use Rattle.link_rules.specs.Comdat.{GroupPlace, is_same_place}
use Rattle.link_rules.specs.Linked.{Linked}
use Rattle.link_rules.specs.Places.{Bytes}

-- how many of the loaded objects are members: all but the one that stands first
abbrev pub loaded_members : Linked → ℕ
loaded_members linked = count_by (λ o. not (o.object == 0)) linked.loaded

-- the group at this place is one of those that are kept
abbrev pub is_kept : List KeptGroup → GroupPlace → Bool
is_kept kept place = list_any (λ k. is_same_place place (k.object, k.group)) kept

-- how many COMDAT groups of an object, told with its place among all, are none of those that are kept; a shared one brings none
abbrev pub discarded_of : (GroupPlace → Bool) → ℕ × ObjectFile → ℕ
discarded_of kept o =
    if o.1.object.is_dynamic then 0 else count_by (λ g. g.1.is_comdat && not (kept (o.0, g.0))) (enumerate_from 0 o.1.object.groups)

-- the same of the object at this place among all
abbrev pub discarded_at : (GroupPlace → Bool) → List ObjectFile → ℕ → ℕ
discarded_at kept objects place = option_map_or (λ o. discarded_of kept (place, o)) (slice_get objects place) 0

-- how many COMDAT groups of loaded objects are none of those that are kept
abbrev pub discarded_comdats : List ObjectFile → Linked → ℕ
discarded_comdats objects linked = total (λ o. discarded_at (is_kept linked.kept) objects o.object) linked.loaded

-- what was counted, and how much of it there is
abbrev pub count_line : Bytes → ℕ → Bytes
count_line what count = what ++ codes " " ++ decimal count ++ codes "\n"

-- the summary of a link with so many members, of these objects, that has this answer
abbrev pub summary_text : ℕ → List ObjectFile → Linked → Bytes
summary_text members objects linked =
    count_line (codes "members") members ++ count_line (codes "loaded members") (loaded_members linked)
    ++ count_line (codes "kept") (length linked.kept) ++ count_line (codes "discarded") (discarded_comdats objects linked)
    ++ count_line (codes "symbols") (length linked.names) ++ count_line (codes "undefined") (length linked.undefined)
