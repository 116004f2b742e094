-- The objects of a manifest, their section groups, and what their sections refer to: their keys, in the order in which they are walked.
use Rattle.std.specs.Prelude.{ℕ, List, [], ◌∷◌, true, false, Bool, Result, Ok, codes}
use Rattle.serde_json.specs.Data.{Data}
use Rattle.link_input.specs.declared.object.SectionGroup.{SectionGroup}
use Rattle.link_input.specs.declared.object.SectionReference.{SectionReference}
use Rattle.link_input.specs.declared.parsed_object.Modifiers.{Modifiers}
use Rattle.link_input.specs.ObjectFile.{ObjectFile}
use Rattle.link_manifest.specs.declared.fault.ManifestFault.{ManifestFault}
use Rattle.link_manifest.specs.Reading.{and_read, object_of_keys, required, optional, list_read}
use Rattle.link_manifest.specs.Values.{text_read, bytes_read, bool_read, number_read}
use Rattle.link_manifest.specs.Symbols.{table_read, entries_before}

abbrev pub group_keys : List (List ℕ)
group_keys = codes "header" ∷ codes "signature" ∷ codes "comdat" ∷ codes "members" ∷ []

abbrev pub group_read : Data → Result SectionGroup ManifestFault
group_read value =
    and_read (object_of_keys group_keys value) (λ _.
    and_read (required (codes "header") number_read value) (λ header.
    and_read (required (codes "signature") number_read value) (λ signature.
    and_read (optional (codes "comdat") bool_read true value) (λ is_comdat.
    and_read (optional (codes "members") (list_read number_read) [] value) (λ members.
    Ok (record { index = header; signature_symbol = signature; is_comdat = is_comdat; members = members }))))))

abbrev pub section_reference_keys : List (List ℕ)
section_reference_keys = codes "from" ∷ codes "to" ∷ []

abbrev pub section_reference_read : Data → Result SectionReference ManifestFault
section_reference_read value =
    and_read (object_of_keys section_reference_keys value) (λ _.
    and_read (required (codes "from") number_read value) (λ from.
    and_read (required (codes "to") number_read value) (λ to.
    Ok (record { from = from; to = to }))))

abbrev pub object_keys : List (List ℕ)
object_keys =
    codes "name" ∷ codes "dynamic" ∷ codes "archive" ∷ codes "whole_archive" ∷ codes "as_needed" ∷ codes "lib_name" ∷ codes "sections" ∷ codes "symbols"
    ∷ codes "groups" ∷ codes "section_refs" ∷ codes "retain" ∷ []

-- how the linker was told to take the object
abbrev pub modifiers_read : Data → Result Modifiers ManifestFault
modifiers_read value =
    and_read (optional (codes "archive") bool_read false value) (λ archive.
    and_read (optional (codes "whole_archive") bool_read false value) (λ whole_archive.
    and_read (optional (codes "as_needed") bool_read false value) (λ as_needed.
    Ok (record { archive = archive; whole_archive = whole_archive; as_needed = as_needed }))))

-- what the object's sections refer to, and those that are kept in any case
abbrev pub kept_sections_read : Data → Result (List SectionReference × List ℕ) ManifestFault
kept_sections_read value =
    and_read (optional (codes "section_refs") (list_read section_reference_read) [] value) (λ section_references.
    and_read (optional (codes "retain") (list_read number_read) [] value) (λ retained_sections.
    Ok (section_references, retained_sections)))

-- an object of a platform that has a null entry or has none; the name by which it is asked for at run time is its own, where no other is given
abbrev pub object_read : Bool → Data → Result ObjectFile ManifestFault
object_read has_null value =
    and_read (object_of_keys object_keys value) (λ _.
    and_read (required (codes "name") text_read value) (λ name.
    and_read (optional (codes "dynamic") bool_read false value) (λ is_dynamic.
    and_read (modifiers_read value) (λ modifiers.
    and_read (optional (codes "lib_name") bytes_read name value) (λ lib_name.
    and_read (optional (codes "sections") number_read 0 value) (λ sections.
    and_read (optional (codes "symbols") (table_read has_null) (entries_before has_null) value) (λ symbols.
    and_read (optional (codes "groups") (list_read group_read) [] value) (λ groups.
    and_read (kept_sections_read value) (λ kept.
    Ok (record {
      input = name;
      object = record {
        is_dynamic = is_dynamic;
        lib_name = lib_name;
        sections = sections;
        symbols = symbols;
        groups = groups;
        section_references = kept.0;
        retained_sections = kept.1;
      };
      modifiers = modifiers;
    }))))))))))
