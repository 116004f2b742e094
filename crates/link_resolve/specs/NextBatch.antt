-- What the next batch of a link leaves once its objects are loaded.
use Rattle.std.specs.Prelude.{◌≡◌, ℕ, ◌≤◌, Bool, List, Option, length, max, min}
use Rattle.link_claim.specs.Later.{HasReadAll}
use Rattle.link_claim.specs.Seats.{Ending, IsSettled}
use Rattle.link_db.specs.Database.{Database, HasTable, symbol_names}
use Rattle.link_db_files.specs.GroupFiles.{symbols_in}
use Rattle.link_db_files.specs.Inputs.{objects_in}
use Rattle.link_db_symbols.specs.Lookups.{AreBelow}
use Rattle.link_resolve_discarded.specs.Indexed.{AreGroupsOf}
use Rattle.link_resolve_extraction.specs.Answer.{AreFoundBelow, AreTargetsRead}
use Rattle.link_resolve_extraction.specs.Planned.{opening_of}
use Rattle.link_resolve_extraction.specs.Requests.{readers_of, requests_of}
use Rattle.link_resolve_extraction.specs.declared.loading.BatchRead.{BatchRead}
use Rattle.link_resolve_extraction.specs.declared.loading.LoadedObjects.{LoadedObjects}
use Rattle.link_rules.specs.Loading.{IsLoaded}
use Rattle.link_rules.specs.Marking.{flags_before, marked_flags}
use Rattle.link_rules.specs.Places.{Bytes, each_from}
use Rattle.link_rules.specs.Rivals.{reference_table}
use Rattle.link_rules.specs.Rules.{PlatformRules}
use Rattle.link_rules.specs.Selection.{loaded_target, selection_of}
use Rattle.link_rules.specs.Work.{workload_of}
use Rattle.link_rules.specs.World.{Stage}
use Rattle.link_resolve.specs.Known.{IsListed, IsSelection, Known}
use Rattle.link_resolve.specs.Resolving.{IsNextStage, Resolving}

-- the database lists its names, and what is known is of objects that it has, with targets that are its symbols
pub record IsReadyFor {P : Type 0} (known : Known) (db : Database P) : Type 0 where
  pub listed : IsListed db
  pub loaded : length known.marks ≤ length (objects_in db.mapping.files.groups)
  pub targets : AreBelow (length (symbol_names db)) known.targets

-- so it is of each stage that comes next, and of the objects that are loaded there
abbrev pub AtNextStages : {P : Type 0} → PlatformRules → Database P → Known → ((Bytes → Bytes) → Stage → List Bool → Type 0) → Type 0
AtNextStages platform db known IsSo =
    (demangle : Bytes → Bytes) (w : Stage) → IsNextStage platform demangle db known w → (marks : List Bool) → IsLoaded w marks → IsSo demangle w marks

-- ---- what is left of the reading

-- all was read that the work of these words asks for
pub record AreAllRead (words : Ending) : Type 0 where
  pub read : HasReadAll words.view
  pub settled : IsSettled words

-- as many requests are told as that work lists for the items of these objects, and as many readers as of so many workers read: from 1 to 256, and no
-- more than there are items
pub record IsCounted (workers : ℕ) (marks : List Bool) (read : BatchRead) : Type 0 where
  pub requests : read.requests ≡ requests_of read.closed.view.work marks
  pub readers : read.readers ≡ readers_of (min (max workers 1) 256) (length read.closed.view.work.items)

-- at this stage, of which these objects are loaded: from the flags before the batch come those that its marks make
abbrev pub AreMarkedAt : Stage → List Bool → List ℕ → List ℕ → Type 0
AreMarkedAt w marks before after = before ≡ each_from (flags_before w) 0 w.symbols → after ≡ marked_flags (selection_of w marks)

-- the words are of the work of each stage that comes next, where symbols had its flags before the batch
abbrev pub AreOfNextWork : {P : Type 0} → PlatformRules → Database P → Known → List ℕ → Ending → Type 0
AreOfNextWork platform db known before words =
    (demangle : Bytes → Bytes) (w : Stage) → IsNextStage platform demangle db known w → before ≡ each_from (flags_before w) 0 w.symbols → words.view.work ≡ workload_of w

-- so many workers read the next batch, whose symbols had these flags, and these objects are loaded
pub record IsReadNext {P : Type 0} (platform : PlatformRules) (db : Database P) (known : Known) (before : List ℕ) (workers : ℕ) (marks : List Bool) (read : BatchRead) : Type 0 where
  pub work : (demangle : Bytes → Bytes) (w : Stage) → IsNextStage platform demangle db known w
      → read.closed.view.work ≡ record (workload_of w) { opening = opening_of (length (symbol_names db)) before }
  pub symbols : length read.closed.view.work.opening ≡ length (symbol_names db)
  pub all : AreAllRead read.closed
  pub counted : IsCounted workers marks read

-- ---- what is loaded

-- these objects are loaded of the next batch, and this was found in them
pub record AreLoadedNext {P : Type 0} (platform : PlatformRules) (db : Database P) (known : Known) (before : List ℕ) (workers : ℕ) (found : LoadedObjects) : Type 0 where
  pub loaded : (demangle : Bytes → Bytes) (w : Stage) → IsNextStage platform demangle db known w → IsLoaded w found.loaded.items
  pub targets : (demangle : Bytes → Bytes) (w : Stage) → IsNextStage platform demangle db known w → (targets : List (Option ℕ))
      → AreTargetsRead (length (symbol_names db)) known.targets found.found.items targets → targets ≡ each_from (loaded_target w found.loaded.items) 0 w.symbols
  pub below : AreFoundBelow (length (symbol_names db)) found.found.items
  pub read : IsReadNext platform db known before workers found.loaded.items found.read

-- ---- what is so once symbols are pointed to what they stand for

-- at this stage, of which these objects are loaded: all is known of its selection, and each symbol points to what it stands for before rivals are settled
pub record IsPointedAt {P : Type 0} (platform : PlatformRules) (demangle : Bytes → Bytes) (w : Stage) (marks : List Bool) (db : Database P) (r : Resolving) : Type 0 where
  pub selection : IsSelection platform demangle db r.known (selection_of w marks)
  pub groups : AreGroupsOf marks w.objects r.groups
  pub table : db.table ≡ reference_table (selection_of w marks)

-- the database has another table, with an entry for each symbol; targets are its symbols, and each symbol of a file binds somehow
pub record IsPointed {P : Type 0} (old new : Database P) (known : Known) : Type 0 where
  pub rest : new ≡ record old { table = new.table }
  pub whole : HasTable new
  pub targets : AreBelow (length (symbol_names new)) known.targets
  pub strengths : length known.strengths ≡ length (symbols_in new.mapping.files.groups)
