-- Which manifest some bytes are: the keys of its root, in the order in which they are walked.
use Rattle.std.specs.Prelude.{ℕ, ◌^◌, List, [], ◌∷◌, true, false, Bool, length, map, Option, None, Result, Ok, Err, codes, nat_lt, if◌then◌else◌}
use Rattle.std.specs.Str.{is_utf8}
use Rattle.serde_json.specs.Data.{Data}
use Rattle.serde_json.specs.Read.{read}
use Rattle.link_check_claims.specs.declared.claim.Claim.{Claim}
use Rattle.link_input.specs.declared.world.World.{World}
use Rattle.link_input.specs.ObjectFile.{ObjectFile}
use Rattle.link_manifest.specs.declared.fault.Problem.TheVariants.{TooLong, NotJson}
use Rattle.link_manifest.specs.declared.fault.ManifestFault.{ManifestFault}
use Rattle.link_manifest.specs.declared.contents.Contents.{Contents}
use Rattle.link_manifest.specs.declared.manifest.Manifest.{Manifest}
use Rattle.link_manifest.specs.declared.manifest.PlatformWorld.TheVariants.{Elf, Mach}
use Rattle.link_manifest.specs.declared.words.PlatformName.{PlatformName}
use Rattle.link_manifest.specs.declared.words.PlatformName.TheVariants as platform
use Rattle.link_manifest.specs.Reading.{fault_here, and_read, read_or, object_of_keys, optional}
use Rattle.link_manifest.specs.Words.{word_read, platform_words}
use Rattle.link_manifest.specs.LinkOptions.{options_read, later_keys_read, texts_read}
use Rattle.link_manifest.specs.Batches.{batches_read, inputs_of, objects_read}
use Rattle.link_manifest.specs.Checked.{contents_checked}

abbrev pub root_keys : List (List ℕ)
root_keys =
    codes "platform" ∷ codes "output" ∷ codes "entry" ∷ codes "default_entry" ∷ codes "allow_multiple" ∷ codes "files_per_group" ∷ codes "wrap"
    ∷ codes "force_undefined" ∷ codes "force_export" ∷ codes "defsym" ∷ codes "linker_symbols" ∷ codes "custom_sections" ∷ codes "version_script"
    ∷ codes "export_list" ∷ codes "objects" ∷ codes "scripts" ∷ codes "stubs" ∷ codes "batches" ∷ codes "script_profile" ∷ codes "claim"
    ∷ codes "soname" ∷ []

-- what the root says behind its platform, where that has a null entry or has none, beside what was read of its objects
abbrev pub contents_read : Bool → Result (List ObjectFile) ManifestFault → Data → Result Contents ManifestFault
contents_read has_null objects value =
    and_read (options_read value) (λ options.
    and_read (texts_read value) (λ texts.
    and_read (batches_read has_null objects value) (λ batches.
    and_read (later_keys_read options value) (λ keys.
    Ok (record { options = keys.0; texts = texts; first = batches.0; later = batches.1; claim = keys.1 })))))

-- the world of some contents
abbrev pub world_of : {P : Type 0} → Contents → World P
world_of contents = record {
  inputs = inputs_of contents.first;
  later = map inputs_of contents.later;
  options = contents.options;
  scripts = contents.texts;
}

-- the world of a platform that has a null entry or has none, and the claim: all is walked, and then the checks are made
abbrev pub world_read : {P : Type 0} → Bool → Result (List ObjectFile) ManifestFault → Data → Result (World P × Option Claim) ManifestFault
world_read has_null objects value =
    and_read (contents_read has_null objects value) (λ contents. and_read (contents_checked has_null contents) (λ _. Ok (world_of contents, contents.claim)))

-- tables have a null entry on platforms like ELF, and none on those like Mach-O
abbrev pub has_null_entry : PlatformName → Bool
has_null_entry platform.Elf = true
has_null_entry platform.Mach = false

-- what is linked for a platform, beside what was read of the objects
abbrev pub platform_read : PlatformName → Result (List ObjectFile) ManifestFault → Data → Result Manifest ManifestFault
platform_read platform.Elf objects value = and_read (world_read true objects value) (λ read. Ok (record { world = Elf read.0; claim = read.1 }))
platform_read platform.Mach objects value = and_read (world_read false objects value) (λ read. Ok (record { world = Mach read.0; claim = read.1 }))

-- the platform that the root names; before it, the root's least unknown key is told
abbrev pub platform_name_read : Data → Result PlatformName ManifestFault
platform_name_read value =
    and_read (object_of_keys root_keys value) (λ _. optional (codes "platform") (word_read platform_words) platform.Elf value)

abbrev pub root_read : Data → Result Manifest ManifestFault
root_read value =
    and_read (platform_name_read value) (λ name. platform_read name (objects_read (has_null_entry name) value) value)

-- ---- the bytes

-- the JSON value of some bytes
abbrev pub json_of : List ℕ → Option Data
json_of bytes = if is_utf8 bytes then read bytes else None

-- the JSON value of bytes that are not too many
abbrev pub tree_of : List ℕ → Result Data ManifestFault
tree_of bytes = if nat_lt (2 ^ 28) (length bytes) then Err (fault_here TooLong) else read_or NotJson (json_of bytes)

-- the manifest that a text is, or what is wrong with it
abbrev pub text_manifest : List ℕ → Result Manifest ManifestFault
text_manifest text = and_read (read_or NotJson (read text)) root_read

-- the manifest that some bytes are, or what is wrong with them
abbrev pub manifest_of : List ℕ → Result Manifest ManifestFault
manifest_of bytes = and_read (tree_of bytes) root_read
