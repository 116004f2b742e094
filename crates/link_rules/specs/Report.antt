-- The report of a link, line by line, and the text of a refusal.
use Rattle.std.specs.Prelude.{ℕ, List, [], ◌∷◌, ◌++◌, Option, Some, None, codes, decimal, slice_get}
use Rattle.std.specs.Option.{option_map_or}
use Rattle.std.specs.List.{flat_map}
use Rattle.link_names.specs.NameText.{name_text}
use Rattle.link_flags.specs.FlagText.{flags_text}
use Rattle.link_script_syntax.specs.ErrorText.{error_text}
use Rattle.link_rules.specs.Linked.{LoadedObject, UndefinedName, Linked}
use Rattle.link_rules.specs.declared.linked.KeptGroup.{KeptGroup}
use Rattle.link_flags.specs.declared.value_flags.ValueFlags.{ValueFlags}
use Rattle.link_rules.specs.Rivals.{two_steps}
use Rattle.link_rules.specs.declared.linked.GivenVersion.{GivenVersion}
use Rattle.link_rules.specs.declared.refusal.ScriptOrigin.{ScriptOrigin}
use Rattle.link_rules.specs.declared.refusal.ScriptOrigin.TheVariants.{VersionScript, ExportList, ForcedExport, LinkerScript}
use Rattle.link_input.specs.declared.too_many.TooManyKind.{TooManyKind}
use Rattle.link_input.specs.declared.too_many.TooManyKind.TheVariants.{Objects, LinkerScripts, StubLibraries, Sections, Symbols}
use Rattle.link_rules.specs.declared.refusal.LinkError.{LinkError}
use Rattle.link_rules.specs.declared.refusal.LinkError.TheVariants.{Script, MultipleVersionScripts, LateVersionScript, TooMany, NoInputs, SectionInTwoGroups, DuplicateSymbols, UndefinedVersion, Memory}
use Rattle.link_rules.specs.Places.{Bytes, each_from}

abbrev pub loaded_line : LoadedObject → Bytes
loaded_line o = codes "loaded " ++ decimal o.object ++ codes " " ++ name_text o.name ++ codes "\n"

abbrev pub kept_line : KeptGroup → Bytes
kept_line g = codes "kept " ++ decimal g.object ++ codes " " ++ decimal g.group ++ codes " " ++ name_text g.signature ++ codes "\n"

-- an empty name is shown only here
abbrev pub symbol_name : Bytes → Bytes
symbol_name [] = codes "<unnamed>"
symbol_name (b ∷ bs) = name_text (b ∷ bs)

-- the flags of the symbol of this id
abbrev pub flags_at : List ValueFlags → ℕ → ℕ
flags_at flags s = option_map_or (λ f. f.0) (slice_get flags s) 0

-- what a symbol means by the table, and the flags of its own value
abbrev pub symbol_line : List ℕ → List ValueFlags → ℕ → Bytes → Bytes
symbol_line table flags s name =
    codes "symbol " ++ decimal s ++ codes " " ++ symbol_name name ++ codes " -> " ++ decimal (two_steps table s)
    ++ codes " [" ++ flags_text (flags_at flags s) ++ codes "]\n"

abbrev pub version_line : GivenVersion → Bytes
version_line v = codes "version " ++ decimal v.symbol ++ codes " " ++ decimal v.index ++ codes "\n"

-- the version of a name, where it has one
abbrev pub version_text : Option Bytes → Bytes
version_text None = []
version_text (Some version) = codes "@" ++ name_text version

abbrev pub undefined_line : UndefinedName → Bytes
undefined_line u = codes "undefined " ++ decimal u.symbol ++ codes " " ++ name_text u.name ++ version_text u.version ++ codes "\n"

abbrev pub missing_line : Bytes → Bytes
missing_line name = codes "missing " ++ name_text name ++ codes "\n"

-- lines one after another
abbrev pub joined_lines : List Bytes → Bytes
joined_lines lines = flat_map (λ line. line) lines

abbrev pub report_text : Linked → Bytes
report_text linked =
    flat_map loaded_line linked.loaded ++ flat_map kept_line linked.kept ++ joined_lines (each_from (symbol_line linked.table linked.flags) 0 linked.names)
    ++ flat_map version_line linked.versions ++ flat_map undefined_line linked.undefined ++ flat_map missing_line linked.missing

-- texts with a line feed between two
abbrev pub separated_lines : List Bytes → Bytes
separated_lines [] = []
separated_lines (x ∷ xs) = x ++ flat_map (λ y. codes "\n" ++ y) xs

-- which text it was that is no script
abbrev pub origin_text : ScriptOrigin → Bytes
origin_text VersionScript = codes "version script"
origin_text ExportList = codes "symbol export list"
origin_text (ForcedExport i) = codes "forced export " ++ decimal i
origin_text (LinkerScript i) = codes "version script of linker script " ++ decimal i

abbrev pub kind_text : TooManyKind → Bytes
kind_text Objects = codes "objects"
kind_text LinkerScripts = codes "linker scripts"
kind_text StubLibraries = codes "stub libraries"
kind_text Sections = codes "sections"
kind_text Symbols = codes "symbols"

abbrev pub refusal_text : LinkError → Bytes
refusal_text (Script origin error) = codes "Failed to parse " ++ origin_text origin ++ codes ": " ++ error_text error
refusal_text (MultipleVersionScripts script) = codes "Multiple version scripts provided"
refusal_text (TooMany kind count) = codes "Too many " ++ kind_text kind ++ codes ": " ++ decimal count
refusal_text (LateVersionScript script) = codes "Version script in a later batch"
refusal_text NoInputs = codes "no input files"
refusal_text (SectionInTwoGroups file section) =
    name_text file ++ codes ": section " ++ decimal section ++ codes " belongs to multiple groups"
refusal_text (DuplicateSymbols lines) = codes "Duplicate symbols detected: " ++ separated_lines lines
refusal_text (UndefinedVersion name version) =
    codes "Symbol " ++ name_text name ++ codes " has undefined version " ++ name_text version
refusal_text Memory = codes "out of memory"
