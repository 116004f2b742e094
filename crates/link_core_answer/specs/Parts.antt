-- What is kept of a link, and what that tells of it.
use Rattle.std.specs.Prelude.{ℕ, ◌≡◌, ◌<◌, List, [], All, Bool, filter, length, map}
use Rattle.std.specs.List.{enumerate_from, slice_index_or}
use Rattle.link_closure.specs.Closure.{is_marked}
use Rattle.link_input.specs.ObjectFile.{ObjectFile}
use Rattle.link_db_files.specs.HeldFiles.{HeldFiles, names_in, version_of}
use Rattle.link_db_files.specs.Inputs.{objects_in}
use Rattle.link_rules.specs.declared.linked.GivenVersion.{GivenVersion}
use Rattle.link_rules.specs.Linked.{Linked as Answer, LoadedObject, UndefinedName}
use Rattle.link_rules.specs.Places.{Bytes}
use Rattle.link_resolve_discarded.specs.Indexed.{IndexedGroups}
use Rattle.link_db.specs.Database.{Database, HasTable, symbol_names}
use Rattle.link_resolve.specs.Known.{Known}

-- a database at its end; what is known of its objects and symbols, and the groups of the loaded regular objects; the flags and the versions of symbols; the
-- references that stand for undefined names; the names that are required and that nothing defines; the symbols that root names are mapped to
pub record Parts (P : Type 0) : Type 0 where
  pub db : Database P
  pub known : Known
  pub groups : IndexedGroups
  pub flags : List ℕ
  pub versions : List GivenVersion
  pub undefined : List ℕ
  pub missing : List Bytes
  pub roots : List ℕ

-- the table and the flags have an entry for each symbol, and undefined names are those of symbols
pub record AreWhole {P : Type 0} (x : Parts P) : Type 0 where
  pub table : HasTable x.db
  pub flags : length x.flags ≡ length (symbol_names x.db)
  pub undefined : All (λ s. s < length (symbol_names x.db)) x.undefined

-- the loaded ones of some objects, each with its place
abbrev pub loaded_among : List Bool → List ObjectFile → List (ℕ × ObjectFile)
loaded_among marks objects = filter (λ o. is_marked marks o.0) (enumerate_from 0 objects)

-- an object as a report tells of it
abbrev pub told_object : ℕ × ObjectFile → LoadedObject
told_object o = record { object = o.0; name = o.1.input }

-- an undefined name, by the reference that stands for it
abbrev pub undefined_name : {P : Type 0} → HeldFiles P → ℕ → UndefinedName
undefined_name held s = record { symbol = s; name = slice_index_or (names_in held) s []; version = version_of held s }

-- the answer that these parts make
abbrev pub answer_of : {P : Type 0} → Parts P → Answer
answer_of x = record {
  loaded = map told_object (loaded_among x.known.marks (objects_in x.db.mapping.files.groups));
  kept = x.groups.groups.kept;
  names = symbol_names x.db;
  table = x.db.table;
  flags = map (λ flags. record { 0 = flags }) x.flags;
  versions = x.versions;
  undefined = map (undefined_name x.db.mapping.files) x.undefined;
  missing = x.missing;
}
