-- What is linked: the files of some batches, one after another, with the rules; and how far a link has come with a batch.
use Rattle.std.specs.Prelude.{ℕ, ◌&&◌, List, [], ◌++◌, Bool, false, not, Option, length, position, slice_get, option_and_then, unwrap_or}
use Rattle.std.specs.Option.{option_map_or}
use Rattle.link_input.specs.declared.options.Options.{Options}
use Rattle.link_input.specs.declared.world.ProcessedLinkerScript.{ProcessedLinkerScript}
use Rattle.link_input.specs.declared.world.StubLibrary.{StubLibrary}
use Rattle.link_input.specs.declared.world.Scripts.{Scripts}
use Rattle.link_input.specs.Entries.{is_undefined, is_hidden, is_local}
use Rattle.link_input.specs.InputFiles.{Batch, batch_files, prelude_file}
use Rattle.link_input.specs.ObjectFile.{ObjectFile}
use Rattle.link_input.specs.Symbols.{Symbol, Origin, file_symbols, symbols_of, object_in, is_shared, entry_passes}
use Rattle.link_rules.specs.Places.{Bytes, is_number}
use Rattle.link_rules.specs.Rules.{PlatformRules, Rules, rules_of}

-- the files of a link in batches, its options, and the texts of its scripts
pub record Given : Type 0 where
  pub first : Batch
  pub later : List Batch
  pub options : Options
  pub texts : Scripts

-- the same with another size of the groups in which objects are read
abbrev pub with_files_per_group : ℕ → Given → Given
with_files_per_group n given = record given { options = record given.options { files_per_group = n } }

-- what is linked, and the rules that it is linked by
pub record World : Type 0 where
  pub first : Batch
  pub later : List Batch
  pub options : Options
  pub texts : Scripts
  pub rules : Rules

-- the world of what is given, by rules that are known
abbrev pub world_with : Rules → Given → World
world_with rules given = record { first = given.first; later = given.later; options = given.options; texts = given.texts; rules = rules }

-- the world of what is given, on a platform and with a demangler; only the first batch brings a version script
abbrev pub world_of : PlatformRules → (Bytes → Bytes) → Given → World
world_of platform demangle given = world_with (rules_of platform demangle given.options given.texts given.first.scripts) given

-- what earlier batches left: a mark for each loaded object, what the references in these stand for, and the flags of each symbol
pub record Earlier : Type 0 where
  pub loaded : List Bool
  pub targets : List (Option ℕ)
  pub flags : List ℕ

-- what is left where no batch came
abbrev pub nothing_earlier : Earlier
nothing_earlier = record { loaded = []; targets = []; flags = [] }

-- a link with the files of some batches, all their symbols, and what the batches before the last one left
pub record Stage : Type 0 where
  pub objects : List ObjectFile
  pub scripts : List ProcessedLinkerScript
  pub stubs : List StubLibrary
  pub options : Options
  pub texts : Scripts
  pub rules : Rules
  pub symbols : List Symbol
  pub earlier : Earlier

-- before any batch there is the prelude
abbrev pub start_of : World → Stage
start_of w = record {
  objects = [];
  scripts = [];
  stubs = [];
  options = w.options;
  texts = w.texts;
  rules = w.rules;
  symbols = file_symbols 0 (prelude_file w.options);
  earlier = nothing_earlier;
}

-- the files of a batch follow those of the batches before it
abbrev pub with_batch : Stage → Batch → Stage
with_batch before b = record before {
  objects = before.objects ++ b.objects;
  scripts = before.scripts ++ b.scripts;
  stubs = before.stubs ++ b.stubs;
  symbols = before.symbols ++ symbols_of (length before.objects) (batch_files b);
}

-- a link with its first batch
abbrev pub first_stage : World → Stage
first_stage w = with_batch (start_of w) w.first

-- whether a test holds of the symbol of this id
abbrev pub holds_at : Stage → (Symbol → Bool) → ℕ → Bool
holds_at w p s = option_map_or p (slice_get w.symbols s) false

-- the place of the object that holds the symbol of this id
abbrev pub object_of : Stage → ℕ → Option ℕ
object_of w s = option_and_then (λ x. object_in x.origin) (slice_get w.symbols s)

-- whether the symbol of this id stands in a shared file
abbrev pub is_shared_at : Stage → ℕ → Bool
is_shared_at w s = holds_at w (λ x. is_shared x.origin) s

-- a hidden symbol of a shared object neither defines a name nor refers to one
abbrev pub is_concealed : Origin → Bool
is_concealed origin = is_shared origin && entry_passes (λ e. is_hidden e.visibility) origin

-- it stands for a place of its own; all symbols that no object gives are definitions
abbrev pub is_definition : Symbol → Bool
is_definition x = not (entry_passes (λ e. is_undefined e.place) x.origin) && not (is_concealed x.origin)

-- among undefined entries only the null entry is local (ELF gABI, "Symbol Table", index 0)
abbrev pub is_reference : Symbol → Bool
is_reference x = entry_passes (λ e. is_undefined e.place && not (is_local e.binding)) x.origin && not (is_concealed x.origin)

-- the id of the first symbol of the object at this place
abbrev pub first_symbol_of : Stage → ℕ → ℕ
first_symbol_of w f = unwrap_or (position (λ x. is_number (object_in x.origin) f) w.symbols) 0
