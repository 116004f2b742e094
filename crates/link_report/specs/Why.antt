-- Why the objects of a link are loaded, and which of several definitions of a name counts, line by line.
use Rattle.std.specs.Prelude.{ℕ, List, [], ◌++◌, Bool, Option, codes, decimal, option_and_then, slice_get, if◌then◌else◌}
use Rattle.std.specs.List.{flat_map}
use Rattle.std.specs.Option.{option_map_or}
use Rattle.link_input.specs.Symbols.{Symbol}
use Rattle.link_names.specs.NameText.{name_text}
use Rattle.link_rules.specs.declared.explanation.ChoiceCase.{ChoiceCase}
use Rattle.link_rules.specs.declared.explanation.ChoiceCase.TheVariants.{Strong, Common, Weak, Surviving, Loaded, First}
use Rattle.link_rules.specs.declared.explanation.Explanation.{Explanation}
use Rattle.link_rules.specs.declared.explanation.LoadedReason.{LoadedReason}
use Rattle.link_rules.specs.declared.explanation.NameChoice.{NameChoice}
use Rattle.link_rules.specs.declared.explanation.Reason.{Reason}
use Rattle.link_rules.specs.declared.explanation.Reason.TheVariants.{Required, Root, Reference}
use Rattle.link_rules.specs.Places.{Bytes}
use Rattle.link_rules.specs.Report.{symbol_name, version_text}

-- an empty root name is shown, as in the line of a symbol
abbrev pub reason_text : Reason → Bytes
reason_text Required = codes "required"
reason_text (Root name) = codes "root " ++ symbol_name name
reason_text (Reference s object) = codes "symbol " ++ decimal s ++ codes " of " ++ decimal object

abbrev pub why_line : LoadedReason → Bytes
why_line r = codes "why " ++ decimal r.object ++ codes " " ++ reason_text r.reason ++ codes "\n"

abbrev pub case_text : ChoiceCase → Bytes
case_text Strong = codes "strong"
case_text Common = codes "common"
case_text Weak = codes "weak"
case_text Surviving = codes "surviving"
case_text Loaded = codes "loaded"
case_text First = codes "first"

-- the name of a symbol, with its version where definitions of a name and version are meant
abbrev pub listed_name : (ℕ → Bytes) → (ℕ → Option Bytes) → Bool → ℕ → Bytes
listed_name name version is_versioned s = name_text (name s) ++ (if is_versioned then version_text (version s) else [])

-- definitions go by the name of the first of them
abbrev pub rule_line : (ℕ → Bytes) → (ℕ → Option Bytes) → NameChoice → Bytes
rule_line name version c =
    codes "rule " ++ option_map_or (listed_name name version c.is_versioned) (slice_get c.symbols 0) [] ++ codes " " ++ decimal c.chosen
    ++ codes " " ++ case_text c.case ++ flat_map (λ s. codes " " ++ decimal s) c.symbols ++ codes "\n"

-- the explanation of a link whose symbols have these names and versions
abbrev pub why_text : (ℕ → Bytes) → (ℕ → Option Bytes) → Explanation → Bytes
why_text name version explanation = flat_map why_line explanation.reasons ++ flat_map (rule_line name version) explanation.choices

-- the name of the symbol of this id, empty where there is none
abbrev pub name_at : List Symbol → ℕ → Bytes
name_at symbols s = option_map_or (λ x. x.name) (slice_get symbols s) []

-- the version of the symbol of this id, where it has one
abbrev pub version_at : List Symbol → ℕ → Option Bytes
version_at symbols s = option_and_then (λ x. x.version) (slice_get symbols s)
