-- The items of a version script.
use Rattle.std.specs.Prelude.{ℕ, ◌==◌, if◌then◌else◌, List, [], ◌∷◌, map, None}
use Rattle.link_script.specs.declared.rules.Version.{Version}
use Rattle.link_script.specs.declared.script.VersionScript.{VersionScript}
use Rattle.link_script.specs.declared.script.VersionScript.TheVariants.{Regular, Rust}
use Rattle.link_script.specs.Script.{script_count}
use Rattle.link_script_syntax.specs.declared.named.RawVersion.{RawVersion}
use Rattle.link_script_syntax.specs.declared.script.RawScript.{RawScript}
use Rattle.link_script_syntax.specs.declared.script.RawScript.TheVariants.{Anonymous, Named}
use Rattle.link_verdef.specs.declared.item.VersionItem.{VersionItem}

-- the versions of a script by number, the base first
abbrev pub versions_of : VersionScript → List Version
versions_of (Regular versions) = versions
versions_of (Rust script) = []

-- a version, with the number of its parent
abbrev pub item_of : Version → VersionItem
item_of version = record { name = version.name; parent = version.parent_index }

-- the same items, but that the base has this name
abbrev pub with_soname : List ℕ → List VersionItem → List VersionItem
with_soname soname [] = []
with_soname soname (base ∷ items) = record { name = soname; parent = base.parent } ∷ items

-- the versions of a script, the base being named by the soname; none where the script counts none
abbrev pub items_of : VersionScript → List ℕ → List VersionItem
items_of script soname = if script_count script == 0 then [] else with_soname soname (map item_of (versions_of script))

-- a version as the text has it
abbrev pub item_of_text : RawVersion → VersionItem
item_of_text version = record { name = version.name; parent = version.parent_index }

-- The items of a script as it is spelled: the soname, which extends nothing, and the named versions, if there are any.
abbrev pub items_of_text : RawScript → List ℕ → List VersionItem
items_of_text (Anonymous body) soname = []
items_of_text (Named []) soname = []
items_of_text (Named (version ∷ versions)) soname =
    record { name = soname; parent = None } ∷ map item_of_text (version ∷ versions)
