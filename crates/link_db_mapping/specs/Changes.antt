-- What calls change of a mapping.
use Rattle.std.specs.Prelude.{◌++◌, ℕ, List, [], ◌∷◌, Some, if◌then◌else◌, slice_get}
use Rattle.std.specs.Option.{option_and_then, option_map_or}
use Rattle.link_db_buckets.specs.Keys.{Key, same_key}
use Rattle.link_db_files.specs.HeldFiles.{names_in}
use Rattle.link_input_groups.specs.declared.group.Group.{Group}
use Rattle.link_rules.specs.Names.{mapping_with}
use Rattle.link_db_mapping.specs.Keys.{plain_key}
use Rattle.link_db_mapping.specs.Mapped.{Mapped, mapping_of}

-- one plain name is overridden
abbrev pub with_override : {P : Type 0} → List ℕ → ℕ → Mapped P → Mapped P
with_override name id m = record m { overridden = mapping_with name (Some id) m.overridden }

-- one group of files more, with no symbols
abbrev pub with_group : {P : Type 0} → Group P → Mapped P → Mapped P
with_group group m = record m { files = record m.files { groups = m.files.groups ++ group ∷ [] } }

-- the name under which a new symbol of this name is listed: that of the symbol to which the name is mapped, if it is
abbrev pub listing_name : {P : Type 0} → Mapped P → List ℕ → List ℕ
listing_name m name = option_map_or (λ own. own) (option_and_then (λ s. slice_get (names_in m.files) s) (mapping_of m name)) name

-- one definition more of a plain name, behind the others
abbrev pub listed_under : List ℕ → ℕ → (Key → List ℕ) → Key → List ℕ
listed_under name id old = λ key. if same_key (plain_key name) key then old key ++ id ∷ [] else old key
