-- Symbols that are defined as other names, in the options and in linker scripts: their keys, in the order in which they are walked.
use Rattle.std.specs.Prelude.{ℕ, List, [], ◌∷◌, false, Bool, Result, Ok, codes, if◌then◌else◌}
use Rattle.serde_json.specs.Data.{Data}
use Rattle.link_input.specs.declared.internal_symbols.InternalSymDefInfo.{InternalSymDefInfo}
use Rattle.link_input.specs.declared.internal_symbols.RedirectKind.{RedirectKind}
use Rattle.link_input.specs.declared.internal_symbols.RedirectKind.TheVariants.{DefSym, Script, Provide}
use Rattle.link_input.specs.declared.internal_symbols.SymbolLoc.TheVariants as loc
use Rattle.link_input.specs.declared.internal_symbols.SymbolPlacement.TheVariants.{Redirect}
use Rattle.link_manifest.specs.declared.fault.ManifestFault.{ManifestFault}
use Rattle.link_manifest.specs.Reading.{and_read, object_of_keys, required, optional, list_read}
use Rattle.link_manifest.specs.Values.{bytes_read, bool_read}

-- a symbol that is defined as other names, and has no location
abbrev pub redirect_of : RedirectKind → List ℕ → List (List ℕ) → Bool → InternalSymDefInfo
redirect_of kind name targets hidden = record {
  placement = Redirect (record { kind = kind; targets = targets; loc = loc.None });
  name = name;
  hidden = hidden;
}

abbrev pub defsym_keys : List (List ℕ)
defsym_keys = codes "name" ∷ codes "targets" ∷ []

abbrev pub defsym_read : Data → Result InternalSymDefInfo ManifestFault
defsym_read value =
    and_read (object_of_keys defsym_keys value) (λ _.
    and_read (required (codes "name") bytes_read value) (λ name.
    and_read (optional (codes "targets") (list_read bytes_read) [] value) (λ targets.
    Ok (redirect_of DefSym name targets false))))

-- what a linker script defines, perhaps only where nothing else does (`PROVIDE`)
abbrev pub script_kind : Bool → RedirectKind
script_kind provide = if provide then Provide else Script

abbrev pub script_symbol_keys : List (List ℕ)
script_symbol_keys = codes "name" ∷ codes "targets" ∷ codes "hidden" ∷ codes "provide" ∷ []

abbrev pub script_symbol_read : Data → Result InternalSymDefInfo ManifestFault
script_symbol_read value =
    and_read (object_of_keys script_symbol_keys value) (λ _.
    and_read (required (codes "name") bytes_read value) (λ name.
    and_read (optional (codes "targets") (list_read bytes_read) [] value) (λ targets.
    and_read (optional (codes "hidden") bool_read false value) (λ hidden.
    and_read (optional (codes "provide") bool_read false value) (λ provide.
    Ok (redirect_of (script_kind provide) name targets hidden))))))
