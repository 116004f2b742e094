-- All groups of a batch.
use Rattle.std.proofs.Common.{◌≡◌, ℕ, ◌+◌, ◌<◌, ◌≤◌, eqb, false, List, [], ◌∷◌, ◌++◌, length, map, Option, refl, sym, ap, ◌∙◌, subst, arith, append_assoc, length-append}
use Rattle.std.specs.List.{flat_map, AllByRecursion}
use Rattle.std.proofs.lemmas.Bool.{ne_eqb}
use Rattle.std.proofs.lemmas.List.{append-nil, append_cancel_left, map-append}
use Rattle.std.proofs.lemmas.List.Concat.{flat_map-append}
use Rattle.link_input.specs.declared.options.Options.{Options}
use Rattle.link_input.specs.declared.world.ProcessedLinkerScript.{ProcessedLinkerScript}
use Rattle.link_input.specs.declared.world.StubLibrary.{StubLibrary}
use Rattle.link_input.specs.ObjectFile.{ObjectFile}
use Rattle.link_input.specs.InputFiles.{InputFile, object, linker_script, stub_input, symbol_count, section_count, Batch, batch_files}
use Rattle.link_input.specs.Limits.{total, section_total}
use Rattle.link_input_groups.specs.declared.group.Group.{Group}
use Rattle.link_input_groups.specs.declared.sequencing.NextIds.{NextIds}
use Rattle.link_input_groups.specs.GroupsAdded.{Adds, group_files, one_group}
use Rattle.link_input_groups.specs.Cut.{IsCut, IsWithin, symbols_in, symbol_limit}
use Rattle.link_input_groups.specs.Grouping.{AreGrouped, first_groups}
use Rattle.link_input_groups.proofs.Cutting.{total-append}
use Rattle.link_input_groups.proofs.AddsLemmas.{adds-more, one_group-some}

-- the files of cuts, joined, are those of the joined cuts
pub joined-files : {V : Type 0} (items : V → List ObjectFile) (vs : List V) → flat_map (λ v. map object (items v)) vs ≡ map object (flat_map (λ l. l) (map items vs))
joined-files items [] = refl
joined-files items (v ∷ vs) = ap (λ r. map object (items v) ++ r) (joined-files items vs) ∙ sym (map-append object (items v) (flat_map (λ l. l) (map items vs)))

-- the same, of the list of the cuts' files
pub joined-lists : (cuts : List (List ObjectFile)) → flat_map (λ (l : List InputFile). l) (map (λ cut. map object cut) cuts) ≡ map object (flat_map (λ l. l) cuts)
joined-lists [] = refl
joined-lists (c ∷ cs) = ap (λ r. map object c ++ r) (joined-lists cs) ∙ sym (map-append object c (flat_map (λ l. l) cs))

-- the files of each cut
pub lists-of-cuts : {V : Type 0} (items : V → List ObjectFile) (vs : List V) → map (λ v. map object (items v)) vs ≡ map (λ cut. map object cut) (map items vs)
lists-of-cuts items [] = refl
lists-of-cuts items (v ∷ vs) = ap (λ r. map object (items v) ∷ r) (lists-of-cuts items vs)

pub joined-one : {A : Type 0} (xs : List A) → flat_map (λ (l : List A). l) (one_group xs) ≡ xs
joined-one [] = refl
joined-one (x ∷ xs) =
    let some : eqb (length (x ∷ xs)) 0 ≡ false = ne_eqb (length (x ∷ xs)) 0 (λ e. omega (arith, e)) in
    rw (one_group-some (x ∷ xs) some) (append-nil (x ∷ xs))

-- symbols of objects, counted in either way
pub symbols-of-objects : (objects : List ObjectFile) → total symbol_count (map object objects) ≡ symbols_in objects
symbols-of-objects [] = refl
symbols-of-objects (o ∷ os) = ap (λ n. length o.object.symbols + n) (symbols-of-objects os)

-- no cut is empty, so there are no more cuts than objects
pub count-cuts : (cuts : List (List ObjectFile)) → AllByRecursion (λ g. 0 < length g) cuts → length cuts ≤ length (flat_map (λ g. g) cuts)
count-cuts [] some = omega arith
count-cuts (c ∷ cs) some = omega (arith, some.0, count-cuts cs some.1, length-append c (flat_map (λ g. g) cs))

-- no cut has more objects than a group may
pub few-cuts : {V : Type 0} (items : V → List ObjectFile) (files : ℕ) (limit : Option ℕ) (vs : List V) → files ≤ 256 → AllByRecursion (IsWithin files limit) (map items vs) → AllByRecursion (λ v. length (items v) ≤ 256) vs
few-cuts items files limit [] le within = tt
few-cuts items files limit (v ∷ vs) le within = (omega (arith, within.0.0), few-cuts items files limit vs le within.1)

-- the counts of a batch's files, kind by kind
pub in-batch : (count : InputFile → ℕ) (batch : Batch) → total count (batch_files batch) ≡ total count (map object batch.objects) + (total count (map linker_script batch.scripts) + total count (map stub_input batch.stubs))
in-batch count batch =
    let objects = map object batch.objects in
    let scripts = map linker_script batch.scripts in
    let stubs = map stub_input batch.stubs in
    omega (arith, total-append count objects (scripts ++ stubs), total-append count scripts stubs)

-- sections of objects, counted in either way
pub sections-of-objects : (objects : List ObjectFile) → total section_count (map object objects) ≡ section_total objects
sections-of-objects [] = refl
sections-of-objects (o ∷ os) = ap (λ n. section_count (object o) + n) (sections-of-objects os)

-- the groups that are added behind those that a batch begins with
abbrev pub added_lists : Batch → List (List ObjectFile) → List (List InputFile)
added_lists batch cuts = map (λ cut. map object cut) cuts ++ one_group (map linker_script batch.scripts) ++ one_group (map stub_input batch.stubs)

-- they were added
pub record Added {P : Type 0} (options : Options) (held : List (Group P)) (batch : Batch) (first : NextIds) (cuts : List (List ObjectFile)) (groups : List (Group P)) : Type 0 where
  pub last : NextIds
  pub adds : Adds (held ++ first_groups options held) (held ++ groups) first last (added_lists batch cuts)

-- joined, all files are those of the batch
pub all-joined : (batch : Batch) (cuts : List (List ObjectFile)) → flat_map (λ g. g) cuts ≡ batch.objects → flat_map (λ (l : List InputFile). l) (added_lists batch cuts) ≡ batch_files batch
all-joined batch cuts joined =
    let a = map (λ cut. map object cut) cuts in
    let b = one_group (map linker_script batch.scripts) in
    let c = one_group (map stub_input batch.stubs) in
    let objects : flat_map (λ (l : List InputFile). l) a ≡ map object batch.objects = joined-lists cuts ∙ ap (map object) joined in
    rw (flat_map-append (λ (l : List InputFile). l) (a ++ b) c, flat_map-append (λ (l : List InputFile). l) a b, objects, joined-one (map linker_script batch.scripts), joined-one (map stub_input batch.stubs))
    (append_assoc (map object batch.objects) (map linker_script batch.scripts) (map stub_input batch.stubs))

-- the files of the new groups
pub groups-added : {P : Type 0} (options : Options) (held : List (Group P)) (batch : Batch) (first : NextIds) (workers : ℕ) (cuts : List (List ObjectFile)) (groups : List (Group P)) → IsCut options.files_per_group (symbol_limit workers (symbols_in batch.objects)) batch.objects cuts → Added options held batch first cuts groups → AreGrouped options held batch workers (map group_files groups)
groups-added options held batch first workers cuts groups is_cut added =
    let a = map (λ cut. map object cut) cuts in
    let b = one_group (map linker_script batch.scripts) in
    let c = one_group (map stub_input batch.stubs) in
    let start = map group_files (first_groups options held) in
    let lists : map group_files held ++ map group_files groups ≡ map group_files held ++ (start ++ (a ++ (b ++ c))) =
    sym (map-append group_files held groups) ∙ added.adds.groups
    ∙ ap (λ l. l ++ (a ++ b ++ c)) (map-append group_files held (first_groups options held))
    ∙ append_assoc (map group_files held) start (a ++ b ++ c)
    ∙ ap (λ l. map group_files held ++ (start ++ l)) (append_assoc a b c) in
    record {
      cuts = cuts;
      is_cut = is_cut;
      groups_are = append_cancel_left (map group_files held) (map group_files groups) (start ++ (a ++ (b ++ c))) lists;
    }

-- the files of cuts as lists, joined
pub joined-both : {V : Type 0} (items : V → List ObjectFile) (vs : List V) → flat_map (λ (l : List InputFile). l) (map (λ v. map object (items v)) vs) ≡ map object (flat_map (λ l. l) (map items vs))
joined-both items vs = rw (lists-of-cuts items vs) (joined-lists (map items vs))

-- all that is added
pub added-all : {P V : Type 0} (options : Options) (held : List (Group P)) (batch : Batch) (items : V → List ObjectFile) (vs : List V) (scripts : List ProcessedLinkerScript) (stubs : List StubLibrary) (g0 g1 g2 g3 : List (Group P)) (n0 n1 n2 n3 : NextIds) → g0 ≡ first_groups options held → scripts ≡ batch.scripts → stubs ≡ batch.stubs → Adds (held ++ g0) (held ++ g1) n0 n1 (map (λ v. map object (items v)) vs) → Adds (held ++ g1) (held ++ g2) n1 n2 (one_group (map linker_script scripts)) → Adds (held ++ g2) (held ++ g3) n2 n3 (one_group (map stub_input stubs)) → Added options held batch n0 (map items vs) g3
added-all {P} options held batch items vs scripts stubs g0 g1 g2 g3 n0 n1 n2 n3 first_is scripts_are stubs_are objects_added scripts_added stubs_added =
    let a = map (λ v. map object (items v)) vs in
    let b = one_group (map linker_script scripts) in
    let c = one_group (map stub_input stubs) in
    let all : Adds (held ++ g0) (held ++ g3) n0 n3 (a ++ b ++ c) = adds-more (held ++ g0) (held ++ g2) (held ++ g3) n0 n2 n3 (a ++ b) c (adds-more (held ++ g0) (held ++ g1) (held ++ g2) n0 n1 n2 a b objects_added scripts_added) stubs_added in
    let lists : (a ++ b ++ c) ≡ added_lists batch (map items vs) = rw (lists-of-cuts items vs, scripts_are, stubs_are) refl in
    let F : List (List InputFile) → Type 0 = λ l. Adds (held ++ g0) (held ++ g3) n0 n3 l in
    let G : List (Group P) → Type 0 = λ l. Adds (held ++ l) (held ++ g3) n0 n3 (added_lists batch (map items vs)) in
    record { last = n3; adds = subst G first_is (subst F lists all) }

-- a cut by an equal limit, of equal objects
pub cut-as : (files : ℕ) (l m : Option ℕ) (o p : List ObjectFile) (cuts : List (List ObjectFile)) → l ≡ m → o ≡ p → IsCut files l o cuts → IsCut files m p cuts
cut-as files l m o p cuts same_limit same_objects is =
    let F : Option ℕ → Type 0 = λ x. IsCut files x o cuts in
    let G : List ObjectFile → Type 0 = λ x. IsCut files m x cuts in
    subst G same_objects (subst F same_limit is)
