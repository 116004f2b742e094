-- What is kept of the texts of a link, once they are read.
use Rattle.std.specs.Prelude.{◌≡◌, ℕ, Bool, List, [], Option, Some, None}
use Rattle.link_script_syntax.specs.declared.profile.ScriptProfile.{ScriptProfile}
use Rattle.link_names.specs.Names.{Names, is_member, has_name}
use Rattle.link_script.specs.declared.export_list.ExportList.{ExportList}
use Rattle.link_script.specs.declared.script.VersionScript.{VersionScript}
use Rattle.link_script.specs.declared.script.VersionScript.TheVariants.{Regular, Rust}

-- the profile in which texts are read, the version script, whether a text of one was given, and the list of exported names
pub record ReadTexts : Type 0 where
  pub profile : ScriptProfile
  pub script : VersionScript
  pub is_taken : Bool
  pub list : Option ExportList

-- the names that a script of the Rust form lists
abbrev pub names_in : VersionScript → List (List ℕ)
names_in (Regular versions) = []
names_in (Rust script) = script.global

-- the set has exactly these names
abbrev pub HasNames : List (List ℕ) → Names → Type 0
HasNames names set = (asked : List ℕ) → is_member set asked ≡ has_name names asked

-- a version script, and whether a text of one was given
pub record TakenText : Type 0 where
  pub script : VersionScript
  pub is_taken : Bool

-- those that are kept
abbrev pub script_taken : ReadTexts → TakenText
script_taken read = record { script = read.script; is_taken = read.is_taken }

-- with a version script that was read, if one was
abbrev pub with_taken : Option TakenText → ReadTexts → ReadTexts
with_taken None read = read
with_taken (Some taken) read = record read { script = taken.script; is_taken = taken.is_taken }
