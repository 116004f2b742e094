-- Small manifests, for worked examples.
use Rattle.std.specs.Prelude.{ℕ, List, [], ◌∷◌, true, false, None, Some}
use Rattle.link_check_claims.specs.declared.claim.Claim.{Claim}
use Rattle.link_flags.specs.declared.visibility.Visibility.TheVariants.{Default}
use Rattle.link_input.specs.declared.object.SectionGroup.{SectionGroup}
use Rattle.link_input.specs.declared.options.Options.{Options}
use Rattle.link_input.specs.declared.symbol_entry.SymbolEntry.{SymbolEntry}
use Rattle.link_input.specs.declared.symbol_entry.SymbolBinding.TheVariants.{Global}
use Rattle.link_input.specs.declared.symbol_entry.SymbolKind.TheVariants.{Plain}
use Rattle.link_input.specs.declared.symbol_entry.Place.{Place}
use Rattle.link_input.specs.declared.world.ProcessedLinkerScript.{ProcessedLinkerScript}
use Rattle.link_input.specs.declared.world.StubLibrary.{StubLibrary}
use Rattle.link_input.specs.ObjectFile.{ObjectFile}
use Rattle.link_input.specs.Defaults.{default_options}
use Rattle.link_manifest.specs.declared.contents.Contents.{Contents}
use Rattle.link_manifest.specs.declared.contents.UncheckedBatch.{UncheckedBatch}
use Rattle.link_manifest.specs.declared.manifest.Manifest.{Manifest}
use Rattle.link_manifest.specs.declared.manifest.PlatformWorld.TheVariants.{Elf, Mach}
use Rattle.link_manifest.specs.Manifest.{world_of}

-- a global symbol that is plain in all else
abbrev pub global_symbol : List ℕ → Place → SymbolEntry
global_symbol name place = record { name = name; version = None; is_default = true; binding = Global; visibility = Default; kind = Plain; size = 0; place = place }

-- a regular object that is no member of an archive
abbrev pub regular_object : List ℕ → ℕ → List SymbolEntry → List SectionGroup → ObjectFile
regular_object name sections symbols groups = record {
  input = name;
  object = record { is_dynamic = false; lib_name = name; sections = sections; symbols = symbols; groups = groups; section_references = []; retained_sections = [] };
  modifiers = record { archive = false; whole_archive = false; as_needed = false };
}

-- objects and no other files, with these options and no text
abbrev pub of_objects : Options → List ObjectFile → Contents
of_objects options objects = record {
  options = options;
  texts = record { version_script = None; export_list = None };
  first = record { objects = objects; scripts = []; stubs = [] };
  later = [];
  claim = None;
}

-- options alone
abbrev pub of_options : Options → Contents
of_options options = of_objects options []

-- a linker script and a stub library alone
abbrev pub of_libraries : ProcessedLinkerScript → StubLibrary → Contents
of_libraries script stub = record (of_options default_options) { first = record { objects = []; scripts = script ∷ []; stubs = stub ∷ [] } }

-- batches behind one without a file
abbrev pub of_batches : List UncheckedBatch → Contents
of_batches later = record (of_options default_options) { later = later }

-- options and a claim alone
abbrev pub of_claim : Options → Claim → Contents
of_claim options claim = record (of_options options) { claim = Some claim }

-- what is linked for a platform like ELF
abbrev pub elf_manifest : Contents → Manifest
elf_manifest contents = record { world = Elf (world_of contents); claim = contents.claim }

-- what is linked for one like Mach-O
abbrev pub mach_manifest : Contents → Manifest
mach_manifest contents = record { world = Mach (world_of contents); claim = contents.claim }
