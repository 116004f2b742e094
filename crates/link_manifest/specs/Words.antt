-- The words of a manifest, and what each stands for.
use Rattle.std.specs.Prelude.{ℕ, List, [], ◌∷◌, Result, codes}
use Rattle.std.specs.Option.{option_and_then}
use Rattle.serde_json.specs.Data.{Data}
use Rattle.serde_json.specs.Find.{as_str}
use Rattle.link_names.specs.Names.{value_in}
use Rattle.link_flags.specs.declared.visibility.Visibility.{Visibility}
use Rattle.link_flags.specs.declared.visibility.Visibility.TheVariants.{Default, Protected, Hidden}
use Rattle.link_input.specs.declared.options.OutputKind.{OutputKind}
use Rattle.link_input.specs.declared.options.OutputKind.TheVariants.{StaticExecutable, DynamicExecutable, SharedObject, Partial}
use Rattle.link_input.specs.declared.symbol_entry.SymbolBinding.{SymbolBinding}
use Rattle.link_input.specs.declared.symbol_entry.SymbolBinding.TheVariants.{Local, Global, Weak, Unique}
use Rattle.link_input.specs.declared.symbol_entry.SymbolKind.{SymbolKind}
use Rattle.link_input.specs.declared.symbol_entry.SymbolKind.TheVariants.{Plain, Func, Ifunc, Tls}
use Rattle.link_manifest.specs.declared.words.PlatformName.{PlatformName}
use Rattle.link_manifest.specs.declared.words.PlatformName.TheVariants as platform
use Rattle.link_manifest.specs.declared.words.PlacementName.{PlacementName}
use Rattle.link_manifest.specs.declared.words.PlacementName.TheVariants as placement
use Rattle.link_manifest.specs.declared.fault.Kind.TheVariants as kind
use Rattle.link_manifest.specs.declared.fault.Problem.TheVariants.{Expected}
use Rattle.link_manifest.specs.declared.fault.ManifestFault.{ManifestFault}
use Rattle.link_manifest.specs.Reading.{read_or}

-- what a word stands for that is one of these
abbrev pub word_read : {A : Type 0} → List (List ℕ × A) → Data → Result A ManifestFault
word_read words value = read_or (Expected kind.Word) (option_and_then (value_in words) (as_str value))

abbrev pub platform_words : List (List ℕ × PlatformName)
platform_words = (codes "elf", platform.Elf) ∷ (codes "macho", platform.Mach) ∷ []

abbrev pub output_words : List (List ℕ × OutputKind)
output_words =
    (codes "static", StaticExecutable) ∷ (codes "dynamic", DynamicExecutable) ∷ (codes "shared", SharedObject) ∷ (codes "partial", Partial) ∷ []

abbrev pub placement_words : List (List ℕ × PlacementName)
placement_words =
    (codes "section_start", placement.SectionStart) ∷ (codes "section_end", placement.SectionEnd) ∷ (codes "section_group_end", placement.SectionGroupEnd)
    ∷ (codes "tls_end", placement.TlsEnd) ∷ (codes "load_base", placement.LoadBase) ∷ (codes "platform", placement.PlatformSpecific) ∷ []

abbrev pub binding_words : List (List ℕ × SymbolBinding)
binding_words = (codes "local", Local) ∷ (codes "global", Global) ∷ (codes "weak", Weak) ∷ (codes "unique", Unique) ∷ []

abbrev pub visibility_words : List (List ℕ × Visibility)
visibility_words = (codes "default", Default) ∷ (codes "protected", Protected) ∷ (codes "hidden", Hidden) ∷ []

abbrev pub kind_words : List (List ℕ × SymbolKind)
kind_words = (codes "plain", Plain) ∷ (codes "func", Func) ∷ (codes "ifunc", Ifunc) ∷ (codes "tls", Tls) ∷ []
