-- How far a link has come, batch by batch.
use Rattle.std.specs.Prelude.{ℕ, ◌≡◌, ◌⊎◌, ◌+◌, ◌*◌, ◌<◌, ◌^◌, ◌&&◌, ◌++◌, Bool, List, [], ◌∷◌, filter, is_some, length, map, not, None, Ok, Option, Some}
use Rattle.std.specs.List.{flat_map}
use Rattle.link_flags.specs.declared.value_flags.RawFlags.{RawFlags}
use Rattle.link_flags.specs.FlagWords.{numbers_of}
use Rattle.link_resolve_discarded.specs.Checked.{WereGroupsFine}
use Rattle.link_resolve_discarded.specs.Indexed.{AreGroupsOf, IndexedGroups}
use Rattle.link_db_files.specs.GroupFiles.{symbols_in}
use Rattle.link_db_files.specs.Inputs.{objects_in}
use Rattle.link_input_groups.specs.Held as held
use Rattle.link_input.specs.declared.options.Options.{Options}
use Rattle.link_input.specs.declared.world.ProcessedLinkerScript.{ProcessedLinkerScript}
use Rattle.link_input.specs.declared.world.Scripts.{Scripts}
use Rattle.link_input.specs.InputFiles.{Batch, input_files}
use Rattle.link_input.specs.Symbols.{symbols_of}
use Rattle.link_rules.specs.declared.refusal.LinkError.{LinkError}
use Rattle.link_rules.specs.declared.refusal.LinkError.TheVariants.{Memory}
use Rattle.link_rules.specs.Answer.{BatchesEnd, End, LinksBatch}
use Rattle.link_rules.specs.FinalFlags.{final_flags}
use Rattle.link_rules.specs.Loading.{IsLoaded}
use Rattle.link_rules.specs.Marking.{flags_before, marked_flags}
use Rattle.link_rules.specs.Orderly.{IsOrderly}
use Rattle.link_rules.specs.Places.{Bytes, each_from, is_empty}
use Rattle.link_rules.specs.Refusals.{duplicate_lines, first_cause, group_refusal, late_refusal, limit_refusal, linker_script_cause, text_refusal, unless_none}
use Rattle.link_rules.specs.Rivals.{reference_table, versioned_table}
use Rattle.link_rules.specs.Rules.{PlatformRules, rules_of, taken_text}
use Rattle.link_rules.specs.Selection.{Selection, selection_of}
use Rattle.link_rules.specs.Undefined.{boundary_makers, is_boundary_maker, is_last_alike, left_undefined, resolved}
use Rattle.link_rules.specs.Visibility.{narrowed_symbol}
use Rattle.link_rules.specs.World.{Earlier, Stage, World, start_of, with_batch, world_of}
use Rattle.link_db_texts.specs.Holds.{AreRulesOf, HoldsTexts}
use Rattle.link_db_mapping.specs.Mapped.{AreListed, mapping_of}
use Rattle.link_db_symbols.specs.Lookups.{AreBelow}
use Rattle.link_db.specs.Database.{Database, HasTable, symbol_names}
use Rattle.link_db_stage.specs.AtStage.{IsAtStage}
use Rattle.link_resolve.specs.Known.{IsListed, IsLoadedSelection, IsSelection, Known}
use Rattle.link_resolve.specs.Resolving.{Resolving, known_of, nothing_known}
use Rattle.link_resolve.specs.Settled.{IsEnded, IsSettled, meaning_at_end}
use Rattle.link_core.specs.Given.{given_in_batches}

-- ---- what is so of any database on the way

-- the table and the flags have an entry for each symbol, and there is room for a group and for the symbols of custom sections
pub record HasRoom {P : Type 0} (db : Database P) (words : List RawFlags) : Type 0 where
  pub table : HasTable db
  pub flags : length words ≡ length (symbol_names db)
  pub groups : length db.mapping.files.groups < 2 ^ 24
  pub fits : length (symbol_names db) + 2 * length db.options.custom_sections < 2 ^ 32

-- the table and the flags have an entry for each symbol, names are listed, and targets are symbols
pub record IsSteady {P : Type 0} (db : Database P) (words : List RawFlags) (known : Known) : Type 0 where
  pub table : HasTable db
  pub flags : length words ≡ length (symbol_names db)
  pub listed : IsListed db
  pub targets : AreBelow (length (symbol_names db)) known.targets

-- ---- what is so of a world's link

-- a stage has the files of these batches
pub record HasFilesOf (options : Options) (batches : List Batch) (w : Stage) : Type 0 where
  pub options_are : w.options ≡ options
  pub symbols : w.symbols ≡ symbols_of 0 (input_files options batches)
  pub objects : w.objects ≡ flat_map (λ b. b.objects) batches
  pub scripts : w.scripts ≡ flat_map (λ b. b.scripts) batches
  pub stubs : w.stubs ≡ flat_map (λ b. b.stubs) batches

-- the linker scripts of the first of these batches, of which one may bring the version script
abbrev pub first_scripts : List Batch → List ProcessedLinkerScript
first_scripts [] = []
first_scripts (b ∷ bs) = b.scripts

-- the rules of a world are those of its texts
abbrev pub HasRules : PlatformRules → (Bytes → Bytes) → World → Type 0
HasRules platform demangle w = w.rules ≡ rules_of platform demangle w.options w.texts w.first.scripts

-- what batches left by what is known of them
abbrev pub left_by : Known → List ℕ → Earlier
left_by known numbers = record { loaded = known.marks; targets = known.targets; flags = numbers }

-- all batches of a world but its last one are linked, which comes behind this stage
pub record IsBefore (platform : PlatformRules) (demangle : Bytes → Bytes) (w : World) (done : List Batch) (b : Batch) (before : Stage) : Type 0 where
  pub batches : w.first ∷ w.later ≡ done ++ b ∷ []
  pub rules : HasRules platform demangle w
  pub texts : text_refusal w ≡ None
  pub ends : (end : End) → LinksBatch (not (is_empty done)) before b (λ l. end ≡ Ok l) end → BatchesEnd w end
  pub orderly : IsOrderly before
  pub fine : WereGroupsFine before
  pub files : HasFilesOf w.options done before
  pub texts_are : before.texts ≡ w.texts
  pub rules_are : before.rules ≡ w.rules
  pub taken : is_some (taken_text w.texts before.scripts) ≡ is_some (taken_text w.texts (first_scripts done))

-- the database holds those batches, and this is known of them
pub record IsReady {P : Type 0} (platform : PlatformRules) (w : World) (done : List Batch) (before : Stage) (db : Database P) (numbers : List ℕ) (known : Known) : Type 0 where
  pub options : db.options ≡ w.options
  pub groups : held.AreGroupsOf db.options done db.mapping.files.groups
  pub lists : AreListed (symbols_in db.mapping.files.groups) db.mapping
  pub added : db.mapping.files.added ≡ []
  pub holds : HoldsTexts platform w.options w.texts (first_scripts done) db.rules
  pub left : before.earlier ≡ left_by known numbers

-- why the files of a batch are refused before any object is loaded: but for the want of an object
abbrev pub inputs_refusal : Bool → Stage → Batch → Option LinkError
inputs_refusal is_late before b = first_cause
    (linker_script_cause before.options.script_profile is_late (is_some (taken_text before.texts before.scripts)) (length before.scripts) b.scripts ∷ limit_refusal (with_batch before b) ∷ [])

-- the files of the last batch are added, and names are wrapped
pub record IsAdded {P : Type 0} (platform : PlatformRules) (demangle : Bytes → Bytes) (w : World) (s : Stage) (db : Database P) (numbers : List ℕ) : Type 0 where
  pub stage : IsAtStage platform demangle db s
  pub flags : numbers ≡ each_from (flags_before s) 0 s.symbols
  pub groups : held.AreGroupsOf db.options (w.first ∷ w.later) db.mapping.files.groups
  pub holds : HoldsTexts platform w.options w.texts w.first.scripts db.rules

-- the link ends with this selection, unless it is refused behind that
pub record Selects (w : World) (l : Selection) : Type 0 where
  pub texts : text_refusal w ≡ None
  pub ends : BatchesEnd w (Ok l)

-- its batches end with a selection, and this is the first cause that shows behind them
abbrev pub IsRefusedBehind : World → LinkError → Type 0
IsRefusedBehind w cause = (l : Selection) × Selects w l × (late_refusal (resolved l) ≡ Some cause)

-- so it is refused, or memory runs out
abbrev pub IsRefusedWith : World → LinkError → Type 0
IsRefusedWith w error = IsRefusedBehind w error ⊎ (error ≡ Memory)

-- the objects that count are loaded
pub record IsLoadedWith {P : Type 0} (platform : PlatformRules) (demangle : Bytes → Bytes) (w : World) (l : Selection) (db : Database P) (numbers : List ℕ) (r : Resolving) : Type 0 where
  pub selects : Selects w l
  pub selection : IsLoadedSelection platform demangle db r.known l
  pub is : l ≡ selection_of l.stage l.marks
  pub fine : group_refusal l ≡ None
  pub flags : numbers ≡ marked_flags l

-- so they are, and another batch may come behind those of the world
pub record IsHeldAt {P : Type 0} (platform : PlatformRules) (demangle : Bytes → Bytes) (w : World) (l : Selection) (db : Database P) (numbers : List ℕ) (r : Resolving) : Type 0 where
  pub loaded : IsLoadedWith platform demangle w l db numbers r
  pub least : IsLoaded l.stage l.marks
  pub orderly : IsOrderly l.stage
  pub rules : HasRules platform demangle w
  pub rules_are : l.stage.rules ≡ w.rules
  pub files : HasFilesOf w.options (w.first ∷ w.later) l.stage
  pub texts_are : l.stage.texts ≡ w.texts
  pub taken : is_some (taken_text w.texts l.stage.scripts) ≡ is_some (taken_text w.texts w.first.scripts)
  pub groups : held.AreGroupsOf db.options (w.first ∷ w.later) db.mapping.files.groups
  pub holds : HoldsTexts platform w.options w.texts w.first.scripts db.rules

-- no batch came: the texts of the options were read, and the first batch of any world with these may come
pub record IsNew {P : Type 0} (platform : PlatformRules) (demangle : Bytes → Bytes) (options : Options) (texts : Scripts) (db : Database P) (words : List RawFlags) (known : Known) : Type 0 where
  pub groups : db.mapping.files.groups ≡ []
  pub known_is : known ≡ nothing_known
  pub texts_read : (first : Batch) (later : List Batch) → text_refusal (world_of platform demangle (given_in_batches first later options texts)) ≡ None
  pub ready : (w : World) → w.options ≡ options → w.texts ≡ texts → IsReady platform w [] (start_of w) db (numbers_of words) known

-- all batches of the world are held, and there is room for the rest
pub record IsHeld {P : Type 0} (platform : PlatformRules) (demangle : Bytes → Bytes) (w : World) (db : Database P) (words : List RawFlags) (r : Resolving) : Type 0 where
  pub selection : Selection
  pub held : IsHeldAt platform demangle w selection db (numbers_of words) r
  pub room : HasRoom db words

-- these batches came to a link with these options and texts
abbrev pub IsOpenWith : {P : Type 0} → PlatformRules → (Bytes → Bytes) → Options → Scripts → List Batch → Database P → List RawFlags → Resolving → Type 0
IsOpenWith platform demangle options texts [] db words r = IsNew platform demangle options texts db words r.known
IsOpenWith platform demangle options texts (b ∷ bs) db words r = IsHeld platform demangle (world_of platform demangle (given_in_batches b bs options texts)) db words r

-- the references that stand for undefined names, where this is selected
abbrev pub undefined_ids : Selection → List ℕ
undefined_ids l = map (λ u. u.0) (filter (λ u. is_last_alike (left_undefined l) u && not (is_boundary_maker l.stage (left_undefined l) u)) (left_undefined l))

-- behind the last batch the groups that are kept are chosen, each symbol points to what it stands for, and it is known how strongly each binds
pub record IsPointedWith {P : Type 0} (platform : PlatformRules) (demangle : Bytes → Bytes) (w : World) (l : Selection) (db : Database P) (numbers : List ℕ) (r : Resolving) : Type 0 where
  pub selects : Selects w l
  pub selection : IsSelection platform demangle db r.known l
  pub groups : AreGroupsOf r.known.marks l.stage.objects r.groups
  pub table : db.table ≡ reference_table l
  pub flags : numbers ≡ marked_flags l

-- rivals are settled
pub record IsSettledWith {P : Type 0} (platform : PlatformRules) (demangle : Bytes → Bytes) (w : World) (l : Selection) (db : Database P) (numbers : List ℕ) (r : Resolving) : Type 0 where
  pub selects : Selects w l
  pub duplicates : unless_none (duplicate_lines l) ≡ None
  pub settled : IsSettled db r.known l
  pub known : r.known ≡ known_of l
  pub rules : AreRulesOf platform demangle db.rules l.stage.rules
  pub groups : AreGroupsOf r.known.marks l.stage.objects r.groups
  pub table : db.table ≡ versioned_table l
  pub flags : numbers ≡ each_from (narrowed_symbol l.stage (marked_flags l)) 0 l.stage.symbols

-- what is kept of a link that ends with this selection: the options, the objects, the symbols of files, what names are mapped to, which objects are loaded, what
-- references stand for and how strongly symbols bind, and which section groups of the loaded regular objects are kept
pub record IsKept {P : Type 0} (l : Selection) (db : Database P) (known : Known) (groups : IndexedGroups) : Type 0 where
  pub options : db.options ≡ l.stage.options
  pub objects : objects_in db.mapping.files.groups ≡ l.stage.objects
  pub symbols : symbols_in db.mapping.files.groups ≡ l.stage.symbols
  pub names : (name : Bytes) → mapping_of db.mapping name ≡ meaning_at_end l name
  pub known_is : known ≡ known_of l
  pub groups_are : AreGroupsOf l.marks l.stage.objects groups

-- what stands for undefined references is found, and all symbols have their flags
pub record IsEndedWith {P : Type 0} (platform : PlatformRules) (demangle : Bytes → Bytes) (w : World) (l : Selection) (db : Database P) (numbers : List ℕ) (r : Resolving) : Type 0 where
  pub selects : Selects w l
  pub duplicates : unless_none (duplicate_lines l) ≡ None
  pub ended : IsEnded platform demangle db r.known l
  pub objects : l.stage.objects ≡ objects_in db.mapping.files.groups
  pub groups : AreGroupsOf r.known.marks l.stage.objects r.groups
  pub added : db.mapping.files.added ≡ map (λ m. m.1.name) (boundary_makers l.stage (left_undefined l))
  pub kept : IsKept l db r.known r.groups
  pub flags : numbers ≡ final_flags (resolved l)
