-- What is left when the linker has made symbols.
use Rattle.std.proofs.Common.{◌≡◌, ◌+◌, ◌∙◌, ◌++◌, ℕ, List, [], ◌∷◌, append-nil, append_assoc, arith, ap, length, length-append, map, refl, subst, sym}
use Rattle.std.specs.List.{filter_map, flat_map}
use Rattle.std.proofs.lemmas.List.Concat.{flat_map-append}
use Rattle.std.proofs.lemmas.List.Elements.{filter_map-append}
use Rattle.std.proofs.lemmas.List.Sums.{fold-append}
use Rattle.link_db_files.proofs.Changing.{ends-kept, names-kept, symbols-kept, symbols-last, with-id-last}
use Rattle.link_db_files.specs.Adding.{EndsInSynthetic, next_file, no_ids, synthetic_group, with_id, with_len}
use Rattle.link_db_files.specs.GroupFiles.{symbols_in}
use Rattle.link_db_files.specs.HeldFiles.{names_in}
use Rattle.link_db_files.specs.Inputs.{object_of, objects_in}
use Rattle.link_input_groups.specs.declared.group.Group.{Group}
use Rattle.link_input_groups.specs.declared.group.Group.TheVariants as group
use Rattle.link_input_groups.specs.declared.sequenced.SyntheticSymbols.{SyntheticSymbols}
use Rattle.link_input_groups.specs.Groups.{files_of, synthetic_file}
use Rattle.link_input.specs.SequencedFiles.{SequencedFile}
use Rattle.link_input.specs.Symbols.{Symbol}
use Rattle.link_db_mapping.proofs.Synthetics.{ends_in_group}
use Rattle.link_db_mapping.specs.Changes.{with_group}
use Rattle.link_db_mapping.specs.Mapped.{Mapped}
use Rattle.link_rules.specs.Places.{Bytes}
use Rattle.link_db.specs.Database.{Database, HasTable, symbol_names}
use Rattle.link_db.specs.Synthetic.{with_linker_symbol, with_listed_symbol}
use Rattle.link_resolve.specs.Settled.{with_linker_group, with_linker_symbols}

-- a group of symbols that the linker makes has no object
objects-last : {P : Type 0} (before : List (Group P)) (s : SyntheticSymbols) → objects_in (before ++ group.SyntheticSymbols s ∷ []) ≡ objects_in before
objects-last {P} before s =
    let own = λ (f : SequencedFile). object_of f.file in
    let files = flat_map (λ (g : Group P). files_of g) before in
    ap (λ (fs : List SequencedFile). filter_map own fs) (flat_map-append (λ (g : Group P). files_of g) before (group.SyntheticSymbols s ∷ []))
    ∙ filter_map-append own files (synthetic_file s ∷ [])
    ∙ append-nil (filter_map own files)

-- nor has one that got an id more
objects-kept : {P : Type 0} (groups : List (Group P)) → EndsInSynthetic groups → objects_in (with_id groups) ≡ objects_in groups
objects-kept {P} groups last =
    let more = with_len last.1.0 (last.1.0.symbol_id_range.len + 1) in
    ap (λ (gs : List (Group P)). objects_in (with_id gs)) last.1.1
    ∙ ap (λ (gs : List (Group P)). objects_in gs) (with-id-last last.0 (group.SyntheticSymbols last.1.0))
    ∙ objects-last last.0 more ∙ sym (objects-last last.0 last.1.0) ∙ sym (ap (λ (gs : List (Group P)). objects_in gs) last.1.1)

-- what symbols of these names leave of a mapping: the symbols of files, the objects, and the names that were added
pub record Leaves {P : Type 0} (names : List Bytes) (old new : Mapped P) : Type 0 where
  pub symbols : symbols_in new.files.groups ≡ symbols_in old.files.groups
  pub objects : objects_in new.files.groups ≡ objects_in old.files.groups
  pub added : new.files.added ≡ old.files.added ++ names

-- symbols in the last group
leaves-symbols : {P : Type 0} (names : List Bytes) (m : Mapped P) → EndsInSynthetic m.files.groups → Leaves names m (with_linker_symbols names m)
leaves-symbols [] m last = record { symbols = refl; objects = refl; added = sym (append-nil m.files.added) }
leaves-symbols (name ∷ names) m last =
    let rest = leaves-symbols names (with_listed_symbol name (length (names_in m.files)) m) (ends-kept m.files name last) in
    record {
      symbols = rest.symbols ∙ symbols-kept m.files name last;
      objects = rest.objects ∙ objects-kept m.files.groups last;
      added = rest.added ∙ append_assoc m.files.added (name ∷ []) names;
    }

-- and in a group of their own
leaves-group : {P : Type 0} (names : List Bytes) (m : Mapped P) → Leaves names m (with_linker_group names m)
leaves-group {P} names m =
    let s : SyntheticSymbols = record { file_id = next_file m.files; symbol_id_range = no_ids (length (names_in m.files)) } in
    let rest = leaves-symbols names (with_group (synthetic_group m.files) m) (ends_in_group m.files) in
    record {
      symbols = rest.symbols ∙ symbols-last m.files.groups s;
      objects = rest.objects ∙ objects-last m.files.groups s;
      added = rest.added;
    }

-- a database with this mapping, whatever its symbols point to
abbrev pub IsMade : {P : Type 0} → Mapped P → Database P → Database P → Type 0
IsMade m old new = new ≡ record old { mapping = m; table = new.table }

-- what is left then
pub leaves : {P : Type 0} (names : List Bytes) (old new : Database P) → IsMade (with_linker_group names old.mapping) old new → Leaves names old.mapping new.mapping
leaves {P} names old new made = subst (λ (m : Mapped P). Leaves names old.mapping m) (sym (ap (λ (d : Database P). d.mapping) made)) (leaves-group names old.mapping)

-- a symbol more
pub made-symbol : {P : Type 0} (names : List Bytes) (name : Bytes) (old now new : Database P) → IsMade (with_linker_symbols names old.mapping) old now → new ≡ with_linker_symbol name now
    → IsMade (with_linker_symbols (names ++ name ∷ []) old.mapping) old new
made-symbol {P} names name old now new made is =
    let one = λ (m : Mapped P) (n : Bytes). with_listed_symbol n (length (names_in m.files)) m in
    is ∙ ap (λ (t : List ℕ). record now { mapping = one now.mapping name; table = t }) (sym (ap (λ (d : Database P). d.table) is))
    ∙ ap (λ (d : Database P). record d { mapping = one d.mapping name; table = new.table }) made
    ∙ ap (λ (m : Mapped P). record old { mapping = m; table = new.table }) (sym (fold-append one old.mapping names (name ∷ [])))

-- symbols after a group
pub made-behind : {P : Type 0} (names : List Bytes) (old now new : Database P) → now ≡ record old { mapping = with_group (synthetic_group old.mapping.files) old.mapping }
    → IsMade (with_linker_symbols names now.mapping) now new → IsMade (with_linker_group names old.mapping) old new
made-behind {P} names old now new first made = made ∙ ap (λ (d : Database P). record d { mapping = with_linker_symbols names d.mapping; table = new.table }) first

-- and with another table, over a database that is the same
pub made-at-end : {P : Type 0} (names : List Bytes) (old now made new : Database P) (table : List ℕ) → now ≡ old → IsMade (with_linker_group names now.mapping) now made → new ≡ record made { table = table }
    → IsMade (with_linker_group names old.mapping) old new
made-at-end {P} names old now made new table same is rest =
    rest ∙ ap (λ (t : List ℕ). record made { table = t }) (sym (ap (λ (d : Database P). d.table) rest))
    ∙ ap (λ (d : Database P). record d { table = new.table }) is ∙ ap (λ (d : Database P). record d { mapping = with_linker_group names d.mapping; table = new.table }) same

-- the names of all symbols then
pub names-made : {P : Type 0} (names : List Bytes) (old new : Database P) → Leaves names old.mapping new.mapping → symbol_names new ≡ symbol_names old ++ names
names-made names old new made =
    (λ i. map (λ (x : Symbol). x.name) (made.symbols i) ++ made.added i)
    ∙ sym (append_assoc (map (λ (x : Symbol). x.name) (symbols_in old.mapping.files.groups)) old.mapping.files.added names)

-- how many they are
pub count-made : {P : Type 0} (names : List Bytes) (old new : Database P) → Leaves names old.mapping new.mapping → length (symbol_names new) ≡ length (symbol_names old) + length names
count-made names old new made = ap length (names-made names old new made) ∙ length-append (symbol_names old) names

-- a group for symbols brings no name
pub count-group : {P : Type 0} (db now : Database P) → now ≡ record db { mapping = with_group (synthetic_group db.mapping.files) db.mapping } → length (symbol_names now) ≡ length (symbol_names db)
count-group {P} db now is =
    let made = leaves [] db now (is ∙ ap (λ (t : List ℕ). record db { mapping = with_linker_group [] db.mapping; table = t }) (sym (ap (λ (d : Database P). d.table) is))) in
    count-made [] db now made ∙ omega arith

-- with a symbol more there is a name more
pub count-kept : {P : Type 0} (name : Bytes) (db now : Database P) → EndsInSynthetic db.mapping.files.groups → now ≡ with_linker_symbol name db → length (symbol_names now) ≡ length (symbol_names db) + 1
count-kept {P} name db now last is =
    ap (λ (d : Database P). length (symbol_names d)) is ∙ (ap length (names-kept db.mapping.files name last) ∙ length-append (symbol_names db) (name ∷ []))

-- and an entry more
pub whole-kept : {P : Type 0} (name : Bytes) (db now : Database P) → EndsInSynthetic db.mapping.files.groups → now ≡ with_linker_symbol name db → HasTable db → HasTable now
whole-kept {P} name db now last is whole =
    omega (arith, ap (λ (d : Database P). length d.table) is, length-append db.table (length (symbol_names db) ∷ []), whole, count-kept name db now last is)
