-- Why a link is refused: the first cause, in one order.
use Rattle.std.specs.Prelude.{ℕ, ◌+◌, ◌&&◌, ◌||◌, List, [], ◌∷◌, ◌++◌, map, filter_map, length, Bool, Option, Some, None, is_some, if◌then◌else◌, slice_get, option_map, option_and_then, codes}
use Rattle.std.specs.Option.{option_map_or, option_or}
use Rattle.std.specs.List.{enumerate_from, flat_map}
use Rattle.link_names.specs.NameText.{name_text}
use Rattle.link_input.specs.declared.world.ProcessedLinkerScript.{ProcessedLinkerScript}
use Rattle.link_input.specs.ObjectFile.{ObjectFile}
use Rattle.link_input.specs.InputFiles.{Batch}
use Rattle.link_input.specs.Limits.{Counts, Excess, first_excess, section_total, with_boundaries}
use Rattle.link_script_syntax.specs.declared.fault.ScriptError.{ScriptError}
use Rattle.link_script_syntax.specs.declared.profile.ScriptProfile.{ScriptProfile}
use Rattle.link_script_syntax.specs.ForcedName.{forced_name}
use Rattle.link_script_syntax.specs.Script.{script_at}
use Rattle.link_rules.specs.declared.refusal.ScriptOrigin.{ScriptOrigin}
use Rattle.link_rules.specs.declared.refusal.ScriptOrigin.TheVariants.{VersionScript, ExportList, ForcedExport, LinkerScript}
use Rattle.link_rules.specs.declared.refusal.LinkError.{LinkError}
use Rattle.link_rules.specs.declared.refusal.LinkError.TheVariants.{Script, MultipleVersionScripts, LateVersionScript, TooMany, NoInputs, SectionInTwoGroups, DuplicateSymbols}
use Rattle.link_rules.specs.Places.{Bytes, first_of, is_number, are_several, is_empty, contains}
use Rattle.link_rules.specs.Rules.{fault_in, taken_text}
use Rattle.link_rules.specs.World.{World, Stage, with_batch, object_of}
use Rattle.link_rules.specs.Comdat.{loaded_regular}
use Rattle.link_rules.specs.Selection.{Selection}
use Rattle.link_rules.specs.Rivals.{clash, stand_in, plain_list, versioned_list, plain_table}
use Rattle.link_rules.specs.Sorting.{sorted_texts}
use Rattle.link_rules.specs.Undefined.{Resolution}
use Rattle.link_rules.specs.Versions.{version_refusal}

-- the first cause that holds
abbrev pub first_cause : List (Option LinkError) → Option LinkError
first_cause [] = None
first_cause (cause ∷ causes) = option_or cause (first_cause causes)

-- a faulty text is a cause
abbrev pub script_cause : ScriptOrigin → Option ScriptError → Option LinkError
script_cause origin fault = option_map (λ error. Script origin error) fault

-- why a text is no version script
abbrev pub version_script_fault : ScriptProfile → Bytes → Option ScriptError
version_script_fault profile text = fault_in text (script_at profile text)

-- of the version text of a linker script, which counts only where none was taken before, and in the first batch
abbrev pub version_text_cause : ScriptProfile → Bool → Bool → ℕ → Bytes → Option LinkError
version_text_cause profile is_late is_taken i text =
    if is_taken then Some (MultipleVersionScripts i)
    else (if is_late then Some (LateVersionScript i) else script_cause (LinkerScript i) (version_script_fault profile text))

-- of the linker scripts of a batch, of which the first has this place among all
abbrev pub linker_script_cause : ScriptProfile → Bool → Bool → ℕ → List ProcessedLinkerScript → Option LinkError
linker_script_cause profile is_late is_taken i [] = None
linker_script_cause profile is_late is_taken i (s ∷ ss) = option_or
    (option_and_then (version_text_cause profile is_late is_taken i) s.version)
    (linker_script_cause profile is_late (is_taken || is_some s.version) (i + 1) ss)

-- a forced export name that can't be read is a cause
abbrev pub forced_export_cause : ℕ × Bytes → Option LinkError
forced_export_cause name = script_cause (ForcedExport name.0) (fault_in name.1 (forced_name name.1))

-- a text of the options that is no script
abbrev pub text_refusal : World → Option LinkError
text_refusal w = first_cause
    (script_cause VersionScript (option_and_then (version_script_fault w.options.script_profile) w.texts.version_script)
    ∷ script_cause ExportList (option_and_then w.rules.export_list_fault w.texts.export_list)
    ∷ first_of (filter_map forced_export_cause (enumerate_from 0 w.options.force_export)) ∷ [])

-- more of a kind than ids can name is a cause
abbrev pub too_many : Option Excess → Option LinkError
too_many excess = option_map (λ e. TooMany e.kind e.count) excess

-- what is counted of all batches up to this one
abbrev pub counts_at : Stage → Counts
counts_at w = record {
  objects = length w.objects;
  scripts = length w.scripts;
  stubs = length w.stubs;
  sections = section_total w.objects;
  symbols = with_boundaries w.options (length w.symbols);
}

-- more of something than ids can name
abbrev pub limit_refusal : Stage → Option LinkError
limit_refusal w = too_many (first_excess (counts_at w))

-- no object up to this batch, be it regular or shared, is a cause
abbrev pub empty_refusal : Stage → Option LinkError
empty_refusal w = if is_empty w.objects then Some NoInputs else None

-- the first number that stood before
abbrev pub first_repeated : List ℕ → List ℕ → Option ℕ
first_repeated before [] = None
first_repeated before (x ∷ xs) = if contains x before then Some x else first_repeated (x ∷ before) xs

-- a section that an object lists as a member twice, in one group or in two
abbrev pub group_cause : ℕ × ObjectFile → Option LinkError
group_cause o = option_map (λ section. SectionInTwoGroups o.1.input section)
    (first_repeated [] (flat_map (λ g. g.members) o.1.object.groups))

-- the first loaded regular object that lists a section twice
abbrev pub group_refusal : Selection → Option LinkError
group_refusal l = first_of (filter_map group_cause (loaded_regular l.stage l.marks))

-- the name of the file of the symbol of this id
abbrev pub file_name : Stage → ℕ → Bytes
file_name w s = option_map_or (λ o. o.input) (option_and_then (slice_get w.objects) (object_of w s)) []

-- a name with the files of two definitions
abbrev pub duplicate_line : Stage → Bytes → ℕ × ℕ → Bytes
duplicate_line w name pair = name_text name ++ codes ", defined in " ++ name_text (file_name w pair.0)
    ++ codes " and " ++ name_text (file_name w pair.1)

-- the line of the list that begins with this symbol, where two of its entries clash
abbrev pub line_at_head : Selection → ℕ → Bytes → List ℕ → List ℕ → Option Bytes
line_at_head l s name own entries =
    if is_number (first_of own) s && are_several own then option_map (duplicate_line l.stage name) (clash l entries) else None

-- the lines of plain names
abbrev pub plain_duplicates : Selection → List Bytes
plain_duplicates l = filter_map
    (λ s. line_at_head l s.0 s.1.name (plain_list l.stage s.1) (plain_list l.stage s.1)) (enumerate_from 0 l.stage.symbols)

-- the lines of names with versions, by what their definitions stand for
abbrev pub versioned_duplicates : Selection → List ℕ → List Bytes
versioned_duplicates l table = filter_map
    (λ s. line_at_head l s.0 s.1.name (versioned_list l.stage s.1) (map (stand_in l table) (versioned_list l.stage s.1)))
    (enumerate_from 0 l.stage.symbols)

-- a line for each name, or name with version, of which two strong definitions are left
abbrev pub duplicate_lines : Selection → List Bytes
duplicate_lines l = sorted_texts (plain_duplicates l ++ versioned_duplicates l (plain_table l))

-- duplicates are a cause where there are any
abbrev pub unless_none : List Bytes → Option LinkError
unless_none [] = None
unless_none (x ∷ xs) = Some (DuplicateSymbols (x ∷ xs))

-- the first cause that a batch brings before anything of it is loaded; each but the first batch is late for a version script, since what is local was
-- told of earlier symbols without it
abbrev pub batch_refusal : Bool → Stage → Batch → Option LinkError
batch_refusal is_late before b = first_cause
    (linker_script_cause before.options.script_profile is_late (is_some (taken_text before.texts before.scripts)) (length before.scripts) b.scripts
    ∷ limit_refusal (with_batch before b) ∷ empty_refusal (with_batch before b) ∷ [])

-- the first cause that shows once the objects of all batches are loaded
abbrev pub late_refusal : Resolution → Option LinkError
late_refusal r = first_cause (unless_none (duplicate_lines r.selection) ∷ version_refusal r ∷ [])
