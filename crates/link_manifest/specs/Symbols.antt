-- The symbols of an object: their keys, in the order in which they are walked.
use Rattle.std.specs.Prelude.{ℕ, List, [], ◌∷◌, ◌++◌, true, false, Bool, None, Result, Ok, codes}
use Rattle.serde_json.specs.Data.{Data}
use Rattle.link_flags.specs.declared.visibility.Visibility.TheVariants.{Default}
use Rattle.link_input.specs.declared.symbol_entry.SymbolEntry.{SymbolEntry}
use Rattle.link_input.specs.declared.symbol_entry.SymbolBinding.TheVariants.{Local, Global}
use Rattle.link_input.specs.declared.symbol_entry.SymbolKind.TheVariants.{Plain}
use Rattle.link_input.specs.declared.symbol_entry.Place.TheVariants.{Undefined}
use Rattle.link_manifest.specs.declared.fault.ManifestFault.{ManifestFault}
use Rattle.link_manifest.specs.Reading.{and_read, object_of_keys, required, optional, or_null, list_read}
use Rattle.link_manifest.specs.Values.{bytes_read, bool_read, size_read, place_read}
use Rattle.link_manifest.specs.Words.{word_read, binding_words, visibility_words, kind_words}

abbrev pub symbol_keys : List (List ℕ)
symbol_keys =
    codes "name" ∷ codes "place" ∷ codes "bind" ∷ codes "vis" ∷ codes "kind" ∷ codes "size" ∷ codes "version" ∷ codes "default" ∷ []

abbrev pub symbol_read : Data → Result SymbolEntry ManifestFault
symbol_read value =
    and_read (object_of_keys symbol_keys value) (λ _.
    and_read (required (codes "name") bytes_read value) (λ name.
    and_read (required (codes "place") place_read value) (λ place.
    and_read (optional (codes "bind") (word_read binding_words) Global value) (λ binding.
    and_read (optional (codes "vis") (word_read visibility_words) Default value) (λ visibility.
    and_read (optional (codes "kind") (word_read kind_words) Plain value) (λ kind.
    and_read (optional (codes "size") size_read 0 value) (λ size.
    and_read (optional (codes "version") (or_null bytes_read) None value) (λ version.
    and_read (optional (codes "default") bool_read true value) (λ is_default.
    Ok (record { name = name; version = version; is_default = is_default; binding = binding; visibility = visibility; kind = kind; size = size; place = place }))))))))))

-- the entry that stands before all others of a table (ELF gABI, "Symbol Table", index 0)
abbrev pub null_entry : SymbolEntry
null_entry = record { name = []; version = None; is_default = true; binding = Local; visibility = Default; kind = Plain; size = 0; place = Undefined }

-- what stands before the symbols that are given, on a platform that has a null entry or has none
abbrev pub entries_before : Bool → List SymbolEntry
entries_before true = null_entry ∷ []
entries_before false = []

-- the symbols that are given, behind what stands before them
abbrev pub table_read : Bool → Data → Result (List SymbolEntry) ManifestFault
table_read has_null value = and_read (list_read symbol_read value) (λ symbols. Ok (entries_before has_null ++ symbols))
