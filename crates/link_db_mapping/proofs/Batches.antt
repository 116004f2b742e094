-- Tables to which the files of a batch come.
use Rattle.std.proofs.Common.{◌≡◌, ◌∙◌, ◌+◌, ◌<◌, ◌&&◌, ◌++◌, ℕ, Bool, List, [], length, map, take, Option, Some, None, refl, sym, ap, subst, arith, if◌then◌else◌}
use Rattle.std.specs.Prelude.{All, slice_get}
use Rattle.std.specs.List.{flat_map, list_any}
use Rattle.std.specs.Option.{option_and_then, option_map}
use Rattle.std.specs.Str.{bytes_eq}
use Rattle.std.proofs.lemmas.List.{append-nil, length-append, length-map, map-append, take_at}
use Rattle.std.proofs.lemmas.Option.{slice_get-map}
use Rattle.link_db_buckets.specs.declared.buckets.Buckets.{Buckets}
use Rattle.link_db_buckets.specs.declared.definition.Definition.{Definition}
use Rattle.link_db_buckets.specs.declared.label.Label.{Label}
use Rattle.link_db_buckets.specs.Buckets.{AreKeyed, definitions_at, ids_with, overridden_at}
use Rattle.link_db_buckets.specs.Keys.{Key, same_key}
use Rattle.link_db_buckets.proofs.Growing.{definitions_kept}
use Rattle.link_db_files.specs.GroupFiles.{AreGroupsOfLink, symbols_in}
use Rattle.link_db_files.specs.HeldFiles.{HeldFiles, names_in, version_of}
use Rattle.link_db_files.proofs.Joining.{follow-on, symbols-join}
use Rattle.link_db_files.proofs.Places.{get-left, get-right}
use Rattle.link_db_files.specs.Inputs.{objects_in}
use Rattle.link_input_groups.specs.declared.group.Group.{Group}
use Rattle.link_input_groups.specs.Groups.{files_of}
use Rattle.link_input.specs.Symbols.{Symbol}
use Rattle.link_db_ingest.specs.Files.{file_definitions}
use Rattle.link_db_ingest.proofs.Runs.{all-definitions}
use Rattle.link_db_ingest.specs.Definitions.{definitions_from}
use Rattle.link_rules.specs.Names.{is_listed, is_version_listed}
use Rattle.link_rules.specs.Places.{places_from, same_version}
use Rattle.link_db_mapping.specs.Batches.{symbols_behind}
use Rattle.link_db_mapping.specs.Keys.{plain_key, versioned_key}
use Rattle.link_db_mapping.specs.Mapped.{AreListed}
use Rattle.link_db_mapping.specs.Seen.{told_by}
use Rattle.link_db_mapping.specs.Tables.{AreNamed, key_at}
use Rattle.link_db_mapping.proofs.Grown.{Grows, Lists, Restores, files_extend, grown_named, listed_named}
use Rattle.link_db_mapping.proofs.Listing.{LeadFrom, ids_within, plain_list, places_from-append, versioned_list}

-- the names of symbols
abbrev names_of : List Symbol → List (List ℕ)
names_of symbols = map (λ x. x.name) symbols

-- the names of symbols and of others, where none was added
names_join : (symbols more all : List Symbol) (added : List (List ℕ)) → added ≡ [] → all ≡ symbols ++ more → names_of all ++ added ≡ (names_of symbols ++ added) ++ names_of more
names_join symbols more all added none joined =
    let name : Symbol → List ℕ = λ x. x.name in
    ap (λ (l : List (List ℕ)). names_of all ++ l) none ∙ append-nil (names_of all) ∙ ap names_of joined ∙ map-append name symbols more
    ∙ ap (λ (l : List (List ℕ)). l ++ names_of more) (sym (append-nil (names_of symbols)) ∙ ap (λ (l : List (List ℕ)). names_of symbols ++ l) (sym none))

-- a version stays
version_left : (symbols more : List Symbol) (id : ℕ) (version : List ℕ) → option_and_then (λ (x : Symbol). x.version) (slice_get symbols id) ≡ Some version → option_and_then (λ (x : Symbol). x.version) (slice_get (symbols ++ more) id) ≡ Some version
version_left symbols more id version is = by (slice_get symbols id) refl is
  where
    by : (o : Option Symbol) → slice_get symbols id ≡ o → option_and_then (λ (x : Symbol). x.version) o ≡ Some version → option_and_then (λ (x : Symbol). x.version) (slice_get (symbols ++ more) id) ≡ Some version
    by None e f = absurd cc
    by (Some x) e f = ap (option_and_then (λ (y : Symbol). y.version)) (get-left symbols more id x e) ∙ f

-- the files of a batch came to those that were held
pub record Comes {P : Type 0} (old new : HeldFiles P) (more : List Symbol) : Type 0 where
  pub symbols : symbols_in new.groups ≡ symbols_in old.groups ++ more
  pub names : names_in new ≡ names_in old ++ names_of more
  pub begin : length (names_in old) ≡ length (symbols_in old.groups)

-- so it is where groups were added before the linker added any symbol
pub comes_added : {P : Type 0} (old new : HeldFiles P) (groups : List (Group P)) → old.added ≡ [] → new ≡ record old { groups = old.groups ++ groups } → Comes old new (symbols_behind old.groups groups)
comes_added {P} old new groups none is =
    subst (λ (h : HeldFiles P). Comes old h (symbols_behind old.groups groups)) (sym is) (record {
      symbols = symbols-join old.groups groups;
      names = names_join (symbols_in old.groups) (symbols_behind old.groups groups) (symbols_in (old.groups ++ groups)) old.added none (symbols-join old.groups groups);
      begin = ap (λ (l : List (List ℕ)). length (names_of (symbols_in old.groups) ++ l)) none ∙ ap (λ (l : List (List ℕ)). length l) (append-nil (names_of (symbols_in old.groups))) ∙ length-map (symbols_in old.groups) (λ (x : Symbol). x.name);
    })

-- there are as many symbols more
pub comes_count : {P : Type 0} (old new : HeldFiles P) (more : List Symbol) → Comes old new more → length (names_in new) ≡ length (names_in old) + length more
comes_count old new more comes = ap (λ (l : List (List ℕ)). length l) comes.names ∙ length-append (names_in old) (names_of more) ∙ ap (λ (n : ℕ). length (names_in old) + n) (length-map more (λ (x : Symbol). x.name))

-- each symbol keeps its name and its version
pub comes_grow : {P : Type 0} (old new : HeldFiles P) (more : List Symbol) → Comes old new more → Grows old new
comes_grow old new more comes = record {
  names = λ id name is. ap (λ (l : List (List ℕ)). slice_get l id) comes.names ∙ get-left (names_in old) (names_of more) id name is;
  versions = λ id version is. ap (λ (l : List Symbol). option_and_then (λ (x : Symbol). x.version) (slice_get l id)) comes.symbols ∙ version_left (symbols_in old.groups) more id version is;
  count = let count = comes_count old new more comes in omega arith;
}

-- the labels of the symbols that came lead to their names
pub comes_lead : {P : Type 0} (old new : HeldFiles P) (more : List Symbol) (names : List (List ℕ)) → Comes old new more → LeadFrom (key_at new names) (length (names_in old)) more
comes_lead {P} old new more names comes = record {
  plain = λ i x is. ap (option_map plain_key) (name_there i x is);
  versioned = λ i x version is some.
      ap (option_and_then (λ (name : List ℕ). option_map (versioned_key name) (version_of new (length (names_in old) + i)))) (name_there i x is)
      ∙ ap (option_map (versioned_key x.name)) (version_there i x is ∙ some);
}
  where
    name_there : (i : ℕ) (x : Symbol) → slice_get more i ≡ Some x → slice_get (names_in new) (length (names_in old) + i) ≡ Some x.name
    name_there i x is =
        ap (λ (l : List (List ℕ)). slice_get l (length (names_in old) + i)) comes.names ∙ get-right (names_in old) (names_of more) i
        ∙ slice_get-map (λ (y : Symbol). y.name) more i ∙ ap (option_map (λ (y : Symbol). y.name)) is

    version_there : (i : ℕ) (x : Symbol) → slice_get more i ≡ Some x → version_of new (length (names_in old) + i) ≡ x.version
    version_there i x is =
        ap (λ (l : List Symbol). option_and_then (λ (y : Symbol). y.version) (slice_get l (length (names_in old) + i))) comes.symbols
        ∙ ap (λ (n : ℕ). option_and_then (λ (y : Symbol). y.version) (slice_get (symbols_in old.groups ++ more) (n + i))) comes.begin
        ∙ ap (option_and_then (λ (y : Symbol). y.version)) (get-right (symbols_in old.groups) more i ∙ is)

-- ---- the definitions of a batch

-- the definitions of the batch were added
abbrev pub BatchLists : {P : Type 0} → HeldFiles P → HeldFiles P → List (List ℕ) → Buckets → Buckets → List Symbol → Type 0
BatchLists old new names before after more = Lists new names before after (λ key. ids_with (key_at new names) (definitions_from (length (names_in old)) more) key)

-- the buckets are those of the names
pub batch_named : {P : Type 0} (old new : HeldFiles P) (names : List (List ℕ)) (before after : Buckets) (more : List Symbol) → Comes old new more → AreNamed old names before → BatchLists old new names before after more → AreNamed new names after
batch_named old new names before after more comes named lists =
    let words = key_at new names in
    let n = length (names_in old) in
    listed_named new names before after (λ key. ids_with words (definitions_from n more) key) (grown_named old new names before (comes_grow old new more comes) named) lists
    (λ key. subst (λ (k : ℕ). All (λ id. id < k) (ids_with words (definitions_from n more) key)) (sym (comes_count old new more comes)) (ids_within words n more (comes_lead old new more names comes) key))

-- the lists are those of all symbols, where they were those of the symbols before
pub batch_listed : {P : Type 0} (old new : HeldFiles P) (names : List (List ℕ)) (before after last : Buckets) (more : List Symbol) → Comes old new more → AreNamed old names before → BatchLists old new names before after more
    → ((asked : Key) → definitions_at (key_at new names) last asked ≡ definitions_at (key_at new names) after asked) → AreListed (symbols_in old.groups) (told_by old names before) → AreListed (symbols_in new.groups) (told_by new names last)
batch_listed {P} old new names before after last more comes named lists same listed = record {
  plain = λ name. whole (plain_key name) (λ x. is_listed x && bytes_eq x.name name) (listed.plain name) (plain_list words n more lead name);
  versioned = λ name version. whole (versioned_key name version) (λ x. is_version_listed x && bytes_eq x.name name && same_version x.version (Some version)) (listed.versioned name version) (versioned_list words n more lead name version);
}
  where
    words : Label → Option Key
    words = key_at new names

    n : ℕ
    n = length (names_in old)

    lead : LeadFrom (key_at new names) (length (names_in old)) more
    lead = comes_lead old new more names comes

    whole : (key : Key) (p : Symbol → Bool) → definitions_at (key_at old names) before key ≡ places_from p 0 (symbols_in old.groups) → ids_with (key_at new names) (definitions_from (length (names_in old)) more) key ≡ places_from p (length (names_in old)) more
        → definitions_at (key_at new names) last key ≡ places_from p 0 (symbols_in new.groups)
    whole key p first next =
        let from : length (names_in old) ≡ 0 + length (symbols_in old.groups) = let begin = comes.begin in omega arith in
        same key ∙ lists.definitions key
        ∙ ap (λ (l : List ℕ). l ++ ids_with (key_at new names) (definitions_from (length (names_in old)) more) key) (definitions_kept (key_at old names) (key_at new names) before key (files_extend old new names (comes_grow old new more comes)) named.keyed ∙ first)
        ∙ ap (λ (l : List ℕ). places_from p 0 (symbols_in old.groups) ++ l) (next ∙ ap (λ (k : ℕ). places_from p k more) from)
        ∙ sym (places_from-append p 0 (symbols_in old.groups) more) ∙ ap (places_from p 0) (sym comes.symbols)

-- ---- groups that are taken back

-- the groups before are all that were held
pub gone_back : {P : Type 0} (old new back : HeldFiles P) (groups : List (Group P)) (held : List (Group P)) → new ≡ record old { groups = old.groups ++ groups } → held ≡ old.groups → back ≡ record new { groups = take (length held) new.groups } → back ≡ old
gone_back {P} old new back groups held is all went =
    let count : length old.groups ≡ length held = ap (λ (l : List (Group P)). length l) (sym all) in
    went ∙ ap (λ (h : HeldFiles P). record h { groups = take (length held) h.groups }) is
    ∙ ap (λ (l : List (Group P)). record old { groups = l }) (take_at old.groups groups (length held) count)

-- so they were, where the definitions that were added are those of the symbols that came
pub batch_lists : {P : Type 0} (old new : HeldFiles P) (names : List (List ℕ)) (before after : Buckets) (more : List Symbol) (definitions : List Definition) → definitions ≡ definitions_from (length (names_in old)) more → AreKeyed (key_at new names) after
    → ((asked : Key) → definitions_at (key_at new names) after asked ≡ definitions_at (key_at new names) before asked ++ ids_with (key_at new names) definitions asked)
    → ((asked : Key) → overridden_at (key_at new names) after asked ≡ overridden_at (key_at new names) before asked) → BatchLists old new names before after more
batch_lists old new names before after more definitions are keyed lists over = record {
  keyed = keyed;
  definitions = λ asked. lists asked ∙ ap (λ (l : List Definition). definitions_at (key_at new names) before asked ++ ids_with (key_at new names) l asked) are;
  overridden = over;
}

-- plain names that were read were restored
pub restores_read : {P : Type 0} (held : HeldFiles P) (names read : List (List ℕ)) (old new : Buckets) → read ≡ names → AreKeyed (key_at held names) new
    → ((asked : Key) → overridden_at (key_at held names) new asked ≡ (if list_any (λ name. same_key (plain_key name) asked) read then None else overridden_at (key_at held names) old asked))
    → ((asked : Key) → definitions_at (key_at held names) new asked ≡ definitions_at (key_at held names) old asked) → Restores held names old new
restores_read held names read old new is keyed over definitions = record {
  keyed = keyed;
  definitions = definitions;
  overridden = λ asked. over asked ∙ ap (λ (l : List (List ℕ)). if list_any (λ name. same_key (plain_key name) asked) l then None else overridden_at (key_at held names) old asked) is;
}

-- ---- what was read of a batch

-- the definitions that were read of groups which follow others are those of the symbols that come
pub read_behind : {P : Type 0} (held : HeldFiles P) (groups : List (Group P)) → AreGroupsOfLink (held.groups ++ groups) → held.added ≡ [] → flat_map file_definitions (flat_map files_of groups) ≡ definitions_from (length (names_in held)) (symbols_behind held.groups groups)
read_behind {P} held groups link none =
    let follow = follow-on held.groups groups link in
    let files = flat_map (λ (g : Group P). files_of g) groups in
    let comes = comes_added held (record held { groups = held.groups ++ groups }) groups none refl in
    all-definitions (length (symbols_in held.groups)) (length (objects_in held.groups)) files follow.runs follow.tables
    ∙ ap (λ (n : ℕ). definitions_from n (symbols_behind held.groups groups)) (sym comes.begin)
