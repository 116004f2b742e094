-- The groups of batches are files whose symbols have ids one after another.
use Rattle.std.proofs.Common.{◌≡◌, ◌+◌, ◌^◌, ◌<◌, ◌++◌, ◌∙◌, ℕ, List, [], ◌∷◌, length, refl, sym, ap, subst, arith}
use Rattle.std.specs.List.{flat_map, AllByRecursion}
use Rattle.std.proofs.lemmas.List.{append-nil}
use Rattle.std.proofs.lemmas.List.Concat.{flat_map-append}
use Rattle.link_input.specs.declared.options.Options.{Options}
use Rattle.link_input.specs.InputFiles.{Batch, InputFile, input_files, section_count, symbol_count}
use Rattle.link_input.specs.Limits.{total}
use Rattle.link_input.specs.SequencedFiles.{SequencedFile, sequenced}
use Rattle.link_input_groups.specs.declared.group.Group.{Group}
use Rattle.link_input_groups.specs.Asked.{HasIdsForAll}
use Rattle.link_input_groups.specs.FileIds.{HavePlaces}
use Rattle.link_input_groups.specs.Groups.{RunsFrom, files_of}
use Rattle.link_input_groups.specs.Held.{AreGroupsOf}
use Rattle.link_db_files.specs.declared.starts.FileStart.{FileStart}
use Rattle.link_db_files.specs.GroupFiles.{AreGroupsOfLink, symbols_in}
use Rattle.link_db_files.specs.HeldFiles.{HeldFiles, names_in}
use Rattle.link_db_files.specs.Numbered.{AreHeld, spans_of}
use Rattle.link_db_files.specs.Starts.{group_starts, starts_of}
use Rattle.link_db_files.proofs.Lookup.{names-count}
use Rattle.link_db_files.proofs.Numbered.{id_count, numbered-count, tabled-count}

-- files that are given ids one after another have them
runs-sequenced : (s c : ℕ) (fs : List InputFile) → RunsFrom s (spans_of (sequenced s c fs))
runs-sequenced s c [] = tt
runs-sequenced s c (f ∷ fs) = (refl, runs-sequenced (s + symbol_count f) (c + section_count f) fs)

-- and each has one for each symbol
tables-sequenced : (s c : ℕ) (fs : List InputFile) → AllByRecursion HasIdsForAll (sequenced s c fs)
tables-sequenced s c [] = tt
tables-sequenced s c (f ∷ fs) = (refl, tables-sequenced (s + symbol_count f) (c + section_count f) fs)

-- they have so many
count-sequenced : (s c : ℕ) (fs : List InputFile) → id_count (sequenced s c fs) ≡ total symbol_count fs
count-sequenced s c [] = refl
count-sequenced s c (f ∷ fs) = ap (λ n. symbol_count f + n) (count-sequenced (s + symbol_count f) (c + section_count f) fs)

-- what is true of the files of a link's batches
pub record AreOfBatches {P : Type 0} (groups : List (Group P)) : Type 0 where
  pub runs : RunsFrom 0 (spans_of (flat_map files_of groups))
  pub tables : AllByRecursion HasIdsForAll (flat_map files_of groups)
  pub few : id_count (flat_map files_of groups) < 2 ^ 32
  pub places : HavePlaces groups

-- it is
pub of-link : {P : Type 0} (groups : List (Group P)) → AreGroupsOfLink groups → AreOfBatches groups
of-link {P} groups link = of-batches link.0 link.1.0 link.1.1
  where
    of-batches : (options : Options) (batches : List Batch) → AreGroupsOf options batches groups → AreOfBatches groups
    of-batches options [] none = subst (λ (gs : List (Group P)). AreOfBatches gs) (sym none) (record { runs = tt; tables = tt; few = omega arith; places = λ g k ids id at. cc })
    of-batches options (b ∷ bs) h =
        let fs = input_files options (b ∷ bs) in
        record {
          runs = subst (λ (l : List SequencedFile). RunsFrom 0 (spans_of l)) (sym h.files) (runs-sequenced 0 0 fs);
          tables = subst (λ (l : List SequencedFile). AllByRecursion HasIdsForAll l) (sym h.files) (tables-sequenced 0 0 fs);
          few = omega (arith, ap id_count h.files, count-sequenced 0 0 fs, h.within.symbols);
          places = h.places;
        }

-- all are of the first part
pub all-left : {A : Type 0} (Q : A → Type 0) (xs ys : List A) → AllByRecursion Q (xs ++ ys) → AllByRecursion Q xs
all-left Q [] ys all = tt
all-left Q (x ∷ xs) ys all = (all.0, all-left Q xs ys all.1)

-- where the groups of a link's batches are added, the linker has added no symbol before
pub none-added : {P : Type 0} (held : HeldFiles P) (starts : List FileStart) (more : List (Group P)) → AreHeld held starts → AreGroupsOfLink (held.groups ++ more) → length held.added ≡ 0
none-added {P} held starts more h link =
    let old = flat_map (λ (g : Group P). files_of g) held.groups in
    let all = of-link (held.groups ++ more) link in
    let tables : AllByRecursion HasIdsForAll old = all-left HasIdsForAll old (flat_map files_of more) (subst (λ (l : List SequencedFile). AllByRecursion HasIdsForAll l) (flat_map-append files_of held.groups more) all.tables) in
    omega (arith, tabled-count 0 old tables, numbered-count old (length held.added) h.numbered)

-- where the groups begin those of a link, all symbols stand in tables
pub all-tabled : {P : Type 0} (held : HeldFiles P) (starts : List FileStart) → AreHeld held starts → (n : ℕ) → n ≡ length (names_in held) → (more : List (Group P)) → AreGroupsOfLink (held.groups ++ more) → n ≡ length (symbols_in held.groups)
all-tabled held starts h n all more link = omega (arith, all, names-count held, none-added held starts more h link)

-- no files
pub held-none : {P : Type 0} (groups : List (Group P)) (added : List (List ℕ)) (starts : List FileStart) → groups ≡ [] → added ≡ [] → starts ≡ [] → AreHeld (record { groups = groups; added = added }) starts
held-none {P} groups added starts no_groups no_names no_starts =
    let none : AreHeld {P = P} (record { groups = []; added = [] }) [] = record {
      numbered = record { tabled = []; behind = []; joined = refl; tables = tt; others = tt; count = refl; runs = tt };
      places = λ g k ids id at. cc;
      fits = omega arith;
      found = refl;
    } in
    subst (λ (l : List FileStart). AreHeld {P = P} (record { groups = groups; added = added }) l) (sym no_starts)
    (subst (λ (l : List (List ℕ)). AreHeld {P = P} (record { groups = groups; added = l }) []) (sym no_names)
    (subst (λ (l : List (Group P)). AreHeld {P = P} (record { groups = l; added = [] }) []) (sym no_groups) none))

-- groups of a link's batches are held
pub held-more : {P : Type 0} (held : HeldFiles P) (starts : List FileStart) (more : List (Group P)) → AreHeld held starts → AreGroupsOfLink (held.groups ++ more)
    → AreHeld (record held { groups = held.groups ++ more }) (starts_of (held.groups ++ more))
held-more {P} held starts more h link =
    let groups = held.groups ++ more in
    let files = flat_map (λ (g : Group P). files_of g) groups in
    let all = of-link groups link in
    let none = none-added held starts more h link in
    record {
      numbered = record { tabled = files; behind = []; joined = sym (append-nil files); tables = all.tables; others = tt; count = sym none; runs = all.runs };
      places = all.places;
      fits = omega (arith, names-count (record held { groups = groups }), none, tabled-count 0 files all.tables, all.few);
      found = refl;
    }

-- groups behind others, where they are held so, as the lists grow
pub held-joined : {P : Type 0} (held : HeldFiles P) (more groups : List (Group P)) (old own all : List FileStart) → AreHeld (record held { groups = held.groups ++ more }) (starts_of (held.groups ++ more))
    → old ≡ starts_of held.groups → groups ≡ held.groups ++ more → own ≡ starts_of more → all ≡ old ++ own → AreHeld (record held { groups = groups }) all
held-joined {P} held more groups old own all h found is have joined =
    let begin : all ≡ starts_of (held.groups ++ more) =
    joined ∙ (ap (λ (l : List FileStart). l ++ own) found ∙ (ap (λ (l : List FileStart). starts_of held.groups ++ l) have ∙ sym (flat_map-append group_starts held.groups more))) in
    subst (λ (gs : List (Group P)). AreHeld (record held { groups = gs }) all) (sym is)
    (subst (λ (l : List FileStart). AreHeld (record held { groups = held.groups ++ more }) l) (sym begin) h)
