-- A made-up link: an object, and an archive with so many members that refer to each other.
use Rattle.std.specs.Prelude.{ℕ, ◌+◌, ◌==◌, List, [], map, true, false, None, if◌then◌else◌}
use Rattle.std.specs.List.{range_with_len}
use Rattle.link_input.specs.Defaults.{default_options}
use Rattle.link_input.specs.declared.object.ObjectTable.{ObjectTable}
use Rattle.link_input.specs.ObjectFile.{ObjectFile}
use Rattle.link_manifest.specs.declared.manifest.Manifest.{Manifest}
use Rattle.link_manifest.specs.declared.manifest.PlatformWorld.TheVariants.{Elf}
use Rattle.link_manifest_bulk.specs.Names.{main_file, member_file}
use Rattle.link_manifest_bulk.specs.Tables.{main_table, member_table}

-- the object that is linked in any case, with this table
abbrev pub required_object : ObjectTable → ObjectFile
required_object table = record { input = main_file; object = table; modifiers = record { archive = false; whole_archive = false; as_needed = false } }

-- member i of an archive, with this table
abbrev pub archived_object : ℕ → ObjectTable → ObjectFile
archived_object i table = record { input = member_file i; object = table; modifiers = record { archive = true; whole_archive = false; as_needed = false } }

-- the object that is linked in any case
abbrev pub main_object : ObjectFile
main_object = required_object main_table

-- member i of so many
abbrev pub member_object : ℕ → ℕ → ObjectFile
member_object members i = archived_object i (member_table members i)

-- the object at a place: the one that is linked in any case, and behind it the members from 1 on
abbrev pub bulk_object : ℕ → ℕ → ObjectFile
bulk_object members place = if place == 0 then main_object else member_object members place

-- all objects
abbrev pub bulk_objects : ℕ → List ObjectFile
bulk_objects members = map (bulk_object members) (range_with_len 0 (members + 1))

-- a link of these objects, for a platform like ELF and by the options of a link of which the user says nothing, and of which nothing is claimed
abbrev pub manifest_with : List ObjectFile → Manifest
manifest_with objects = record {
  world = Elf (record {
    inputs = record { objects = objects; scripts = []; stubs = [] };
    later = [];
    options = default_options;
    scripts = record { version_script = None; export_list = None };
  });
  claim = None;
}

-- what is linked
abbrev pub bulk_manifest : ℕ → Manifest
bulk_manifest members = manifest_with (bulk_objects members)
