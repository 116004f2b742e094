-- The script that a text spells, and what it says.
use Rattle.std.specs.Prelude.{◌≡◌, ℕ, Bool, true, false, List, [], ◌∷◌, Option, None, Result, Ok, Err}
use Rattle.link_script_syntax.specs.declared.fault.Fault.{Fault}
use Rattle.link_script_syntax.specs.declared.fault.ScriptFault.{ScriptFault}
use Rattle.link_script_syntax.specs.declared.fault.ScriptFault.TheVariants as faults
use Rattle.link_script_syntax.specs.declared.named.RawVersion.{RawVersion}
use Rattle.link_script_syntax.specs.declared.script.RawScript.{RawScript}
use Rattle.link_script_syntax.specs.declared.script.RawScript.TheVariants.{Anonymous, Named}
use Rattle.link_script_syntax.specs.Fault.{Refuses}
use Rattle.link_script_syntax.specs.Named.{raw_names}
use Rattle.link_script.specs.declared.rust_form.RustVersionScript.{RustVersionScript}
use Rattle.link_script.specs.declared.script.VersionScript.{VersionScript}
use Rattle.link_script.specs.declared.script.VersionScript.TheVariants.{Regular, Rust}
use Rattle.link_script.specs.Filter.{AreVersions}
use Rattle.link_script.specs.Lookup.{Asked}
use Rattle.link_script.specs.Rank.{filters_of, filters_in}
use Rattle.link_script.specs.Regular.{unnamed, base, counted, parents}
use Rattle.link_script.specs.RustForm.{is_rust_form, listed_names}
use Rattle.link_script.specs.VersionOf.{Undeclared, version_names, version_of, IsVersionOf}

-- the versions that a text has, number 0 being the base
abbrev pub versions_in : RawScript → List RawVersion
versions_in (Anonymous body) = unnamed body ∷ []
versions_in (Named versions) = base ∷ versions

-- the text is of the Rust form and lists these names
abbrev pub IsRustOf : RawScript → RustVersionScript → Type 0
IsRustOf (Anonymous body) script = (is_rust_form body ≡ true) × (script.global ≡ listed_names body.globals)
IsRustOf (Named versions) script = ⊥

abbrev pub of_rust_form : RawScript → Bool
of_rust_form (Anonymous body) = is_rust_form body
of_rust_form (Named versions) = false

-- The script of a text: its names where it is of the Rust form, and otherwise versions with its filters.
abbrev pub IsScriptOf : RawScript → VersionScript → Type 0
IsScriptOf raw (Rust script) = IsRustOf raw script
IsScriptOf raw (Regular versions) = (of_rust_form raw ≡ false) × AreVersions (versions_in raw) versions

-- the script of what was read, or its fault at its place, unless memory ran out
abbrev pub Parses : List ℕ → Result VersionScript ScriptFault → Result RawScript Fault → Type 0
Parses text (Ok script) read = (raw : RawScript) × (read ≡ Ok raw) × IsScriptOf raw script
Parses text (Err e) read = Refuses e text read

-- the script of what was read, unless memory ran out
abbrev pub IsSpelledBy : RawScript → Result VersionScript ScriptFault → Type 0
IsSpelledBy raw (Ok script) = IsScriptOf raw script
IsSpelledBy raw (Err faults.Memory) = Unit {0}
IsSpelledBy raw (Err (faults.Text t)) = ⊥

abbrev pub is_rust : VersionScript → Bool
is_rust (Regular versions) = false
is_rust (Rust script) = true

abbrev pub script_count : VersionScript → ℕ
script_count (Regular versions) = counted versions
script_count (Rust script) = 0

abbrev pub script_parents : VersionScript → ℕ
script_parents (Regular versions) = parents versions
script_parents (Rust script) = 0

-- the version of a symbol by a script: none by one of the Rust form
abbrev pub IsVersionIn : VersionScript → Asked → Option (List ℕ) → Result (Option ℕ) Undeclared → Type 0
IsVersionIn (Regular versions) a explicit r = IsVersionOf (filters_of versions) (version_names versions) a explicit r
IsVersionIn (Rust script) a explicit r = r ≡ Ok None

-- the version of a symbol by the text of a script: none where it is of the Rust form
abbrev pub VersionBy : Bool → RawScript → Asked → Option (List ℕ) → Result (Option ℕ) Undeclared → Type 0
VersionBy true raw a explicit r = r ≡ Ok None
VersionBy false raw a explicit r = IsVersionOf (filters_in (versions_in raw)) (raw_names (versions_in raw)) a explicit r

abbrev pub IsVersionBy : RawScript → Asked → Option (List ℕ) → Result (Option ℕ) Undeclared → Type 0
IsVersionBy raw a explicit r = VersionBy (of_rust_form raw) raw a explicit r

abbrev pub version_in_script : VersionScript → Asked → Option (List ℕ) → Result (Option ℕ) Undeclared
version_in_script (Regular versions) a explicit = version_of versions a explicit
version_in_script (Rust script) a explicit = Ok None
