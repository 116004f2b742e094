-- The linker scripts and stub libraries of a manifest: their keys, in the order in which they are walked.
use Rattle.std.specs.Prelude.{ℕ, List, [], ◌∷◌, None, Result, Ok, codes}
use Rattle.serde_json.specs.Data.{Data}
use Rattle.link_input.specs.declared.world.ProcessedLinkerScript.{ProcessedLinkerScript}
use Rattle.link_input.specs.declared.world.StubLibrary.{StubLibrary}
use Rattle.link_manifest.specs.declared.fault.ManifestFault.{ManifestFault}
use Rattle.link_manifest.specs.Reading.{and_read, object_of_keys, required, optional, or_null, list_read}
use Rattle.link_manifest.specs.Values.{text_read, bytes_read}
use Rattle.link_manifest.specs.Redirects.{script_symbol_read}

abbrev pub script_keys : List (List ℕ)
script_keys = codes "name" ∷ codes "entry" ∷ codes "version" ∷ codes "symbols" ∷ []

abbrev pub script_read : Data → Result ProcessedLinkerScript ManifestFault
script_read value =
    and_read (object_of_keys script_keys value) (λ _.
    and_read (required (codes "name") text_read value) (λ name.
    and_read (optional (codes "entry") (or_null bytes_read) None value) (λ entry.
    and_read (optional (codes "version") (or_null bytes_read) None value) (λ version.
    and_read (optional (codes "symbols") (list_read script_symbol_read) [] value) (λ symbols.
    Ok (record { input = name; entry = entry; version = version; symbol_defs = symbols }))))))

abbrev pub stub_keys : List (List ℕ)
stub_keys = codes "name" ∷ codes "strong" ∷ codes "weak" ∷ []

abbrev pub stub_read : Data → Result StubLibrary ManifestFault
stub_read value =
    and_read (object_of_keys stub_keys value) (λ _.
    and_read (required (codes "name") text_read value) (λ name.
    and_read (optional (codes "strong") (list_read bytes_read) [] value) (λ strong.
    and_read (optional (codes "weak") (list_read bytes_read) [] value) (λ weak.
    Ok (record { input = name; strong = strong; weak = weak })))))
