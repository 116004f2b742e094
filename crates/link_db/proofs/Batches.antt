-- The groups of a batch behind those that are held, and what is read of them.
use Rattle.std.proofs.Common.{◌≡◌, ◌+◌, ◌<◌, ◌^◌, ◌++◌, ◌∙◌, ℕ, List, [], ◌∷◌, drop, length, map, sym, ap, subst, arith, length-append}
use Rattle.std.specs.List.{flat_map}
use Rattle.std.proofs.Math.Seq.{drop-append_seam}
use Rattle.std.proofs.lemmas.List.{length-map, nil_from_length}
use Rattle.link_flags.specs.declared.value_flags.RawFlags.{RawFlags}
use Rattle.link_input.specs.InputFiles.{Batch}
use Rattle.link_input.specs.SequencedFiles.{SequencedFile}
use Rattle.link_input.specs.Symbols.{Symbol, symbols_of}
use Rattle.link_input_groups.specs.declared.group.Group.{Group}
use Rattle.link_input_groups.specs.Asked.{AllCanBeAsked}
use Rattle.link_input_groups.specs.Groups.{files_of}
use Rattle.link_input_groups.specs.Held.{AreGroupsOf}
use Rattle.link_db_files.specs.GroupFiles.{AreGroupsOfLink, symbols_in}
use Rattle.link_db_files.specs.HeldFiles.{HeldFiles, names_in}
use Rattle.link_db_files.specs.Inputs.{objects_in}
use Rattle.link_db_files.proofs.Batches.{of-link}
use Rattle.link_db_files.proofs.Joining.{symbols-join}
use Rattle.link_db_files.proofs.Numbered.{tabled-count}
use Rattle.link_rules.specs.Opening.{opening_flags}
use Rattle.link_rules.specs.World.{Stage}
use Rattle.link_db_mapping.specs.Batches.{symbols_behind}
use Rattle.link_db_ingest.specs.Files.{AllCanBeRead, file_flags}
use Rattle.link_db_ingest.proofs.Parts.{all_can_be_read}
use Rattle.link_db_ingest.proofs.Runs.{all-flags}
use Rattle.link_flags.specs.FlagWords.{numbers_of}
use Rattle.link_db.proofs.GroupCounts.{asked-count}

-- of groups that can be asked the last ones can
last-asked : {P : Type 0} (old new : List (Group P)) → AllCanBeAsked (old ++ new) → AllCanBeAsked new
last-asked [] new all = all
last-asked (g ∷ gs) new all = last-asked gs new all.1

-- groups of a link that follow others can be asked
pub can-be-asked : {P : Type 0} (old new : List (Group P)) → AreGroupsOfLink (old ++ new) → AllCanBeAsked new
can-be-asked {P} old new link = by link.1.0 link.1.1
  where
    by : (batches : List Batch) → AreGroupsOf link.0 batches (old ++ new) → AllCanBeAsked new
    by [] none = last-asked old new (subst (λ (gs : List (Group P)). AllCanBeAsked gs) (sym none) tt)
    by (b ∷ bs) held = last-asked old new held.asked

-- and read
pub can-be-read : {P : Type 0} (old new : List (Group P)) → AreGroupsOfLink (old ++ new) → AllCanBeRead new
can-be-read old new link = all_can_be_read new (can-be-asked old new link)

-- the symbols behind, whatever number of objects comes before
pub behind-count : {P : Type 0} (old new : List (Group P)) (k : ℕ) → AreGroupsOfLink (old ++ new)
    → length (symbols_of k (map (λ (f : SequencedFile). f.file) (flat_map (λ (g : Group P). files_of g) new))) ≡ length (symbols_in new)
behind-count old new k link =
    let asked = can-be-asked old new link in
    asked-count k new asked ∙ sym (asked-count 0 new asked)

-- as many names as before, and those of the new symbols
pub names-grown : {P : Type 0} (files : HeldFiles P) (new : List (Group P)) → AreGroupsOfLink (files.groups ++ new)
    → length (names_in (record files { groups = files.groups ++ new })) ≡ length (names_in files) + length (symbols_in new)
names-grown {P} files new link =
    let all = symbols_in (files.groups ++ new) in
    let name = λ (x : Symbol). x.name in
    let joined = ap (λ (l : List Symbol). length l) (symbols-join files.groups new) in
    let named : length (map name all) ≡ length all = length-map all name in
    let held : length (map name (symbols_in files.groups)) ≡ length (symbols_in files.groups) = length-map (symbols_in files.groups) name in
    omega (
      arith,
      length-append (map name all) files.added,
      length-append (map name (symbols_in files.groups)) files.added,
      named,
      held,
      joined,
      length-append (symbols_in files.groups) (symbols_behind files.groups new),
      behind-count files.groups new (length (objects_in files.groups)) link,
    )

-- no number of an id is too large
pub names-fit : {P : Type 0} (files : HeldFiles P) (new : List (Group P)) → AreGroupsOfLink (files.groups ++ new) → length (names_in files) ≡ length (symbols_in files.groups)
    → length (names_in files) + length (symbols_in new) < 2 ^ 32
names-fit {P} files new link tabled =
    let all = of-link (files.groups ++ new) link in
    let joined = ap (λ (l : List Symbol). length l) (symbols-join files.groups new) in
    omega (
      arith,
      tabled,
      all.few,
      tabled-count 0 (flat_map (λ (g : Group P). files_of g) (files.groups ++ new)) all.tables,
      joined,
      length-append (symbols_in files.groups) (symbols_behind files.groups new),
      behind-count files.groups new (length (objects_in files.groups)) link,
    )

-- before the groups of a batch the linker has added no symbol
pub none-added : {P : Type 0} (files : HeldFiles P) → length (names_in files) ≡ length (symbols_in files.groups) → files.added ≡ []
none-added {P} files tabled =
    let name = λ (x : Symbol). x.name in
    let held : length (map name (symbols_in files.groups)) ≡ length (symbols_in files.groups) = length-map (symbols_in files.groups) name in
    nil_from_length files.added (omega (arith, tabled, held, length-append (map name (symbols_in files.groups)) files.added))

-- the flags that are read of groups are the opening flags of the symbols behind those before
pub flags-behind : {P : Type 0} (w : Stage) (old new : List (Group P))
    → flat_map (file_flags w) (flat_map (λ (g : Group P). files_of g) new) ≡ map (opening_flags w) (drop (length (symbols_in old)) (symbols_in (old ++ new)))
flags-behind {P} w old new =
    let behind : drop (length (symbols_in old)) (symbols_in (old ++ new)) ≡ symbols_behind old new =
    ap (λ (l : List Symbol). drop (length (symbols_in old)) l) (symbols-join old new) ∙ drop-append_seam (symbols_in old) (symbols_behind old new) in
    all-flags w (length (objects_in old)) (flat_map (λ (g : Group P). files_of g) new) ∙ ap (map (opening_flags w)) (sym behind)

-- as many words as before, and those that were added
pub words-grown : (before after : List RawFlags) (more : List ℕ) → numbers_of after ≡ numbers_of before ++ more → length after ≡ length before + length more
words-grown before after more grown =
    let all : length (numbers_of after) ≡ length after = length-map after (λ (w : RawFlags). w.0) in
    let old : length (numbers_of before) ≡ length before = length-map before (λ (w : RawFlags). w.0) in
    omega (arith, all, old, ap (λ (l : List ℕ). length l) grown, length-append (numbers_of before) more)

-- before the groups of a batch all symbols stand in tables
pub tabled-names : {P : Type 0} (files held : HeldFiles P) (new : List (Group P)) (count : ℕ) → held ≡ files → count ≡ length (names_in held) → (AreGroupsOfLink (held.groups ++ new) → count ≡ length (symbols_in held.groups))
    → AreGroupsOfLink (files.groups ++ new) → length (names_in files) ≡ length (symbols_in files.groups)
tabled-names {P} files held new count same all tabled link =
    let here : AreGroupsOfLink (held.groups ++ new) = subst (λ (f : HeldFiles P). AreGroupsOfLink (f.groups ++ new)) (sym same) link in
    subst (λ (f : HeldFiles P). length (names_in f) ≡ length (symbols_in f.groups)) same (sym all ∙ tabled here)
