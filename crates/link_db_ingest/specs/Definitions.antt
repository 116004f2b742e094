-- The definitions of names that symbols give.
use Rattle.std.specs.Prelude.{ℕ, ◌+◌, List, [], ◌∷◌, ◌++◌, Option, None}
use Rattle.link_db_buckets.specs.declared.definition.Definition.{Definition}
use Rattle.link_db_buckets.specs.declared.label.Label.{Label}
use Rattle.link_db_buckets.specs.declared.label.Label.TheVariants.{Plain, Versioned}
use Rattle.link_db_buckets.specs.Keys.{hash_of}
use Rattle.link_input.specs.Symbols.{Symbol}
use Rattle.link_rules.specs.Names.{is_listed, is_version_listed}
use Rattle.link_rules.specs.Places.{kept_if}

-- a definition of the symbol of this id, by its name with this version or without one, to which the label leads
abbrev pub definition_by : Label → Option (List ℕ) → ℕ → Symbol → Definition
definition_by label version id x = record { hash = hash_of (record { name = x.name; version = version }); label = label; id = id }

-- what the symbol of this id defines: its plain name, and its name and version
abbrev pub definitions_by : ℕ → Symbol → List Definition
definitions_by id x =
    kept_if (is_listed x) (definition_by (Plain id) None id x) (kept_if (is_version_listed x) (definition_by (Versioned id) x.version id x) [])

-- what symbols define, of which the first has this id
abbrev pub definitions_from : ℕ → List Symbol → List Definition
definitions_from id [] = []
definitions_from id (x ∷ xs) = definitions_by id x ++ definitions_from (id + 1) xs
