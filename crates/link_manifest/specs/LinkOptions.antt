-- The options that a manifest gives: their keys at the root, in the order in which they are walked.
use Rattle.std.specs.Prelude.{ℕ, List, [], ◌∷◌, false, Option, None, Result, Ok, codes}
use Rattle.serde_json.specs.Data.{Data}
use Rattle.link_check_claims.specs.declared.claim.Claim.{Claim}
use Rattle.link_input.specs.declared.internal_symbols.InternalSymDefInfo.{InternalSymDefInfo}
use Rattle.link_input.specs.declared.internal_symbols.SymbolPlacement.{SymbolPlacement}
use Rattle.link_input.specs.declared.internal_symbols.SymbolPlacement.TheVariants as at
use Rattle.link_input.specs.declared.options.Options.{Options}
use Rattle.link_input.specs.declared.options.OutputKind.TheVariants.{StaticExecutable}
use Rattle.link_input.specs.declared.world.Scripts.{Scripts}
use Rattle.link_script_syntax.specs.declared.profile.ScriptProfile.TheVariants.{Wild}
use Rattle.link_manifest.specs.declared.words.PlacementName.{PlacementName}
use Rattle.link_manifest.specs.declared.words.PlacementName.TheVariants as placement
use Rattle.link_manifest.specs.declared.fault.ManifestFault.{ManifestFault}
use Rattle.link_manifest.specs.Claims.{claim_read}
use Rattle.link_manifest.specs.Reading.{and_read, object_of_keys, required, optional, or_null, list_read}
use Rattle.link_manifest.specs.Values.{bytes_read, bool_read, number_read, group_size_read, profile_read}
use Rattle.link_manifest.specs.Words.{word_read, output_words, placement_words}
use Rattle.link_manifest.specs.Redirects.{defsym_read}

-- where a symbol of the linker stands; only some places are of a section
abbrev pub placement_at : PlacementName → ℕ → SymbolPlacement
placement_at placement.SectionStart section = at.SectionStart section
placement_at placement.SectionEnd section = at.SectionEnd section
placement_at placement.SectionGroupEnd section = at.SectionGroupEnd section
placement_at placement.TlsEnd section = at.TlsEnd section
placement_at placement.LoadBase section = at.LoadBaseAddress
placement_at placement.PlatformSpecific section = at.PlatformSpecific

abbrev pub linker_symbol_keys : List (List ℕ)
linker_symbol_keys = codes "name" ∷ codes "placement" ∷ codes "section" ∷ codes "hidden" ∷ []

abbrev pub linker_symbol_read : Data → Result InternalSymDefInfo ManifestFault
linker_symbol_read value =
    and_read (object_of_keys linker_symbol_keys value) (λ _.
    and_read (required (codes "name") bytes_read value) (λ name.
    and_read (required (codes "placement") (word_read placement_words) value) (λ placement.
    and_read (optional (codes "section") number_read 0 value) (λ section.
    and_read (optional (codes "hidden") bool_read false value) (λ hidden.
    Ok (record { placement = placement_at placement section; name = name; hidden = hidden }))))))

-- the options of the keys in front of the files; names are never shown demangled
abbrev pub options_read : Data → Result Options ManifestFault
options_read value =
    and_read (optional (codes "output") (word_read output_words) StaticExecutable value) (λ output.
    and_read (optional (codes "entry") (or_null bytes_read) None value) (λ entry.
    and_read (optional (codes "default_entry") (or_null bytes_read) None value) (λ default_entry.
    and_read (optional (codes "allow_multiple") bool_read false value) (λ allow_multiple.
    and_read (optional (codes "files_per_group") group_size_read 256 value) (λ files_per_group.
    and_read (optional (codes "wrap") (list_read bytes_read) [] value) (λ wrap.
    and_read (optional (codes "force_undefined") (list_read bytes_read) [] value) (λ force_undefined.
    and_read (optional (codes "force_export") (list_read bytes_read) [] value) (λ force_export.
    and_read (optional (codes "defsym") (list_read defsym_read) [] value) (λ defsym.
    and_read (optional (codes "linker_symbols") (list_read linker_symbol_read) [] value) (λ linker_symbols.
    and_read (optional (codes "custom_sections") (list_read bytes_read) [] value) (λ custom_sections.
    Ok (record {
      output = output;
      entry = entry;
      default_entry = default_entry;
      allow_multiple = allow_multiple;
      files_per_group = files_per_group;
      wrap = wrap;
      force_undefined = force_undefined;
      force_export = force_export;
      defsym = defsym;
      linker_symbols = linker_symbols;
      custom_sections = custom_sections;
      demangle = false;
      script_profile = Wild;
      soname = None;
    }))))))))))))

-- these options with those of the keys behind the files, and the claim, whose key stands between those
abbrev pub later_keys_read : Options → Data → Result (Options × Option Claim) ManifestFault
later_keys_read options value =
    and_read (optional (codes "script_profile") profile_read Wild value) (λ profile.
    and_read (optional (codes "claim") (or_null claim_read) None value) (λ claim.
    and_read (optional (codes "soname") (or_null bytes_read) None value) (λ soname.
    Ok (record options { script_profile = profile; soname = soname }, claim))))

-- the texts of the version script and of the export list
abbrev pub texts_read : Data → Result Scripts ManifestFault
texts_read value =
    and_read (optional (codes "version_script") (or_null bytes_read) None value) (λ version_script.
    and_read (optional (codes "export_list") (or_null bytes_read) None value) (λ export_list.
    Ok (record { version_script = version_script; export_list = export_list })))
