-- Where the files of groups stand.
use Rattle.std.proofs.Common.{◌≡◌, ◌+◌, ◌++◌, ◌∙◌, ℕ, zero, suc, List, [], ◌∷◌, length, map, Some, refl, sym, ap, arith, length-append, take}
use Rattle.std.specs.Prelude.{slice_get, option_map, option_and_then}
use Rattle.std.specs.List.{flat_map}
use Rattle.std.proofs.Math.Seq.{take-append-add}
use Rattle.std.proofs.lemmas.List.{map-append, take-append-le}
use Rattle.std.proofs.lemmas.Option.{same_Some, slice_get-map, slice_get_within}
use Rattle.link_ids.specs.FilePlace.{FilePlace}
use Rattle.link_input.specs.InputFiles.{object_count}
use Rattle.link_input.specs.Limits.{total}
use Rattle.link_input.specs.ObjectFile.{ObjectFile}
use Rattle.link_input.specs.SequencedFiles.{SequencedFile}
use Rattle.link_input_groups.specs.declared.group.Group.{Group}
use Rattle.link_input_groups.specs.declared.group.Group.TheVariants as group
use Rattle.link_input_groups.specs.declared.sequenced.SequencedInputObject.{SequencedInputObject}
use Rattle.link_input_groups.specs.declared.sequenced.SequencedLinkerScript.{SequencedLinkerScript}
use Rattle.link_input_groups.specs.declared.sequenced.SequencedStubLibrary.{SequencedStubLibrary}
use Rattle.link_input_groups.specs.Groups.{files_of, file_ids, object_file, script_file, stub_file}
use Rattle.link_input_groups.specs.FileIds.{HavePlaces}
use Rattle.link_input_groups.proofs.Cutting.{total-append}
use Rattle.link_db_files.specs.declared.starts.FileStart.{FileStart}
use Rattle.link_db_files.specs.Starts.{start_of, group_starts, starts_of}
use Rattle.link_db_files.specs.GroupFiles.{file_at}
use Rattle.link_db_files.specs.Inputs.{object_of, objects_before, objects_in}
use Rattle.link_db_files.proofs.ObjectCounts.{count_of, object-in-group, objects-counted}

-- an element of the first of two lists stands at its place
pub get-left : {A : Type 0} (xs ys : List A) (i : ℕ) (x : A) → slice_get xs i ≡ Some x → slice_get (xs ++ ys) i ≡ Some x
get-left [] ys i x h = cc
get-left (z ∷ zs) ys zero x h = h
get-left (z ∷ zs) ys (suc i) x h = get-left zs ys i x h

-- one of the second stands behind all of the first
pub get-right : {A : Type 0} (xs ys : List A) (i : ℕ) → slice_get (xs ++ ys) (length xs + i) ≡ slice_get ys i
get-right [] ys i = let e : 0 + i ≡ i = omega arith in ap (slice_get ys) e
get-right (z ∷ zs) ys i =
    let e : length (z ∷ zs) + i ≡ suc (length zs + i) = omega arith in
    ap (slice_get (z ∷ (zs ++ ys))) e ∙ get-right zs ys i

-- the file and its id that stand where a start does
pub record IsStart (files : List SequencedFile) (ids : List FilePlace) (j : ℕ) (x : FileStart) : Type 0 where
  pub file : SequencedFile
  pub there : slice_get files j ≡ Some file
  pub id : slice_get ids j ≡ Some x.id
  pub start : file.symbols.start ≡ x.start

-- what is mapped from the same elements stands side by side
pub mapped-start : {A : Type 0} (start : A → FileStart) (file : A → SequencedFile) (id : A → FilePlace) → ((a : A) → (start a).id ≡ id a) → ((a : A) → (file a).symbols.start ≡ (start a).start)
    → (xs : List A) (j : ℕ) (x : FileStart) → slice_get (map start xs) j ≡ Some x → IsStart (map file xs) (map id xs) j x
mapped-start start file id ids starts [] j x is = cc
mapped-start start file id ids starts (a ∷ xs) zero x is =
    let e : start a ≡ x = same_Some (start a) x is in
    record {
      file = file a;
      there = refl;
      id = ap Some (sym (ids a) ∙ ap (λ (s : FileStart). s.id) e);
      start = starts a ∙ ap (λ (s : FileStart). s.start) e;
    }
mapped-start start file id ids starts (a ∷ xs) (suc j) x is =
    let r = mapped-start start file id ids starts xs j x is in
    record { file = r.file; there = r.there; id = r.id; start = r.start }

-- in a group
pub group-start : {P : Type 0} (g : Group P) (j : ℕ) (x : FileStart) → slice_get (group_starts g) j ≡ Some x → IsStart (files_of g) (file_ids g) j x
group-start (group.Prelude symbols) zero x is =
    let e = same_Some (start_of (record { start = 0; len = 0 }) (record { group = 0; file = 0 })) x is in
    record { file = _; there = refl; id = ap (λ (s : FileStart). Some s.id) e; start = ap (λ (s : FileStart). s.start) e }
group-start (group.Prelude symbols) (suc j) x is = cc
group-start {P} (group.Objects objects) j x is =
    mapped-start (λ (o : SequencedInputObject P). start_of o.symbol_id_range o.file_id) (λ (o : SequencedInputObject P). object_file o) (λ (o : SequencedInputObject P). o.file_id) (λ o. refl) (λ o. refl) objects j x is
group-start (group.LinkerScripts scripts) j x is =
    mapped-start (λ (s : SequencedLinkerScript). start_of s.symbol_id_range s.file_id) script_file (λ (s : SequencedLinkerScript). s.file_id) (λ o. refl) (λ o. refl) scripts j x is
group-start (group.StubLibraries stubs) j x is =
    mapped-start (λ (s : SequencedStubLibrary). start_of s.symbol_id_range s.file_id) stub_file (λ (s : SequencedStubLibrary). s.file_id) (λ o. refl) (λ o. refl) stubs j x is
group-start (group.SyntheticSymbols s) zero x is =
    let e = same_Some (start_of s.symbol_id_range s.file_id) x is in
    record { file = _; there = refl; id = ap (λ (s : FileStart). Some s.id) e; start = ap (λ (s : FileStart). s.start) e }
group-start (group.SyntheticSymbols s) (suc j) x is = cc

-- where a start stands among groups: in which group, at which place
pub record IsInGroup {P : Type 0} (groups : List (Group P)) (k : ℕ) (x : FileStart) : Type 0 where
  pub number : ℕ
  pub place : ℕ
  pub group : Group P
  pub held : slice_get groups number ≡ Some group
  pub found : IsStart (files_of group) (file_ids group) place x
  pub file : slice_get (flat_map files_of groups) k ≡ Some found.file
  pub before : (o : ObjectFile) → object_of found.file.file ≡ Some o → count_of (take k (flat_map files_of groups)) ≡ length (objects_in (take number groups)) + place

-- lists that are mapped from one list are as long
same-lengths : {A B C : Type 0} (f : A → B) (g : A → C) (xs : List A) → length (map f xs) ≡ length (map g xs)
same-lengths f g [] = refl
same-lengths f g (x ∷ xs) = ap suc (same-lengths f g xs)

-- as many starts as files, in a group
length-starts : {P : Type 0} (g : Group P) → length (group_starts g) ≡ length (files_of g)
length-starts (group.Prelude symbols) = refl
length-starts {P} (group.Objects objects) = same-lengths (λ (o : SequencedInputObject P). start_of o.symbol_id_range o.file_id) (λ (o : SequencedInputObject P). object_file o) objects
length-starts (group.LinkerScripts scripts) = same-lengths (λ (s : SequencedLinkerScript). start_of s.symbol_id_range s.file_id) script_file scripts
length-starts (group.StubLibraries stubs) = same-lengths (λ (s : SequencedStubLibrary). start_of s.symbol_id_range s.file_id) stub_file stubs
length-starts (group.SyntheticSymbols s) = refl

-- the element at a place of one list behind another is in the first or the second
pub get-split : {A B : Type 0} (xs ys : List A) (i : ℕ) (x : A) → slice_get (xs ++ ys) i ≡ Some x → (slice_get xs i ≡ Some x → B) → ((j : ℕ) → i ≡ length xs + j → slice_get ys j ≡ Some x → B) → B
get-split [] ys i x is left right = right i (omega arith) is
get-split (z ∷ zs) ys zero x is left right = left is
get-split (z ∷ zs) ys (suc i) x is left right = get-split zs ys i x is left (λ j e found. right j (omega (arith, e)) found)

-- objects of files and of others
count-append : (xs ys : List SequencedFile) → count_of (xs ++ ys) ≡ count_of xs + count_of ys
count-append xs ys = ap (total object_count) (map-append (λ (f : SequencedFile). f.file) xs ys) ∙ total-append object_count (map (λ (f : SequencedFile). f.file) xs) (map (λ (f : SequencedFile). f.file) ys)

-- the start at a place of all groups
pub start-in : {P : Type 0} (groups : List (Group P)) (k : ℕ) (x : FileStart) → slice_get (starts_of groups) k ≡ Some x → IsInGroup groups k x
start-in [] k x is = cc
start-in {P} (g ∷ gs) k x is = get-split (group_starts g) (starts_of gs) k x is
    (λ here. let r = group-start g k x here in
    let front = λ (o : ObjectFile) (some : object_of r.file.file ≡ Some o).
    take-append-le k (files_of g) (flat_map files_of gs) (omega (arith, slice_get_within (files_of g) k r.file r.there)) in
    record {
      number = 0;
      place = k;
      group = g;
      held = refl;
      found = r;
      file = get-left (files_of g) (flat_map files_of gs) k r.file r.there;
      before = λ o some. omega (arith, ap count_of (front o some), object-in-group g k r.file o r.there some);
    })
    (λ j e there. let r = start-in gs j x there in
    let at : k ≡ length (files_of g) + j = e ∙ ap (λ n. n + j) (length-starts g) in
    record {
      number = suc r.number;
      place = r.place;
      group = r.group;
      held = r.held;
      found = r.found;
      file = ap (slice_get (files_of g ++ flat_map files_of gs)) at ∙ get-right (files_of g) (flat_map files_of gs) j ∙ r.file;
      before = λ o some.
          let fs = files_of g in
          let rest = flat_map (λ (h : Group P). files_of h) gs in
          let earlier = flat_map (λ (h : Group P). files_of h) (take r.number gs) in
          let files : take k (fs ++ rest) ≡ fs ++ take j rest = ap (λ n. take n (fs ++ rest)) at ∙ take-append-add fs rest j in
          let all : count_of (take k (fs ++ rest)) ≡ count_of fs + count_of (take j rest) = ap count_of files ∙ count-append fs (take j rest) in
          let both : length (objects_in (g ∷ take r.number gs)) ≡ count_of fs + length (objects_in (take r.number gs)) =
          sym (objects-counted (fs ++ earlier)) ∙ (count-append fs earlier ∙ ap (λ n. count_of fs + n) (objects-counted earlier)) in
          omega (arith, all, both, r.before o some);
    })

-- its id is that place
start-id : {P : Type 0} (groups : List (Group P)) (k : ℕ) (x : FileStart) → HavePlaces groups → (r : IsInGroup groups k x) → x.id ≡ record { group = r.number; file = r.place }
start-id {P} groups k x places r =
    places r.number r.place (file_ids r.group) x.id (slice_get-map (λ (g : Group P). file_ids g) groups r.number ∙ ap (option_map (λ (g : Group P). file_ids g)) r.held) r.found.id

-- the file of a start's id is the one that stands at the same place among all files
pub start-file : {P : Type 0} (groups : List (Group P)) (k : ℕ) (x : FileStart) → HavePlaces groups → slice_get (starts_of groups) k ≡ Some x
    → (f : SequencedFile) × ((slice_get (flat_map files_of groups) k ≡ Some f) × ((file_at groups x.id ≡ Some f) × (f.symbols.start ≡ x.start)))
start-file {P} groups k x places is =
    let r = start-in groups k x is in
    let id = start-id groups k x places r in
    let at : file_at groups (record { group = r.number; file = r.place }) ≡ Some r.found.file =
    ap (option_and_then (λ (g : Group P). slice_get (files_of g) r.place)) r.held ∙ r.found.there in
    (r.found.file, (r.file, (ap (λ (i : FilePlace). file_at groups i) id ∙ at, r.found.start)))

-- if it is an object, so many objects stand before it
pub start-object : {P : Type 0} (groups : List (Group P)) (k : ℕ) (x : FileStart) → HavePlaces groups → slice_get (starts_of groups) k ≡ Some x → (f : SequencedFile) → slice_get (flat_map files_of groups) k ≡ Some f
    → (o : ObjectFile) → object_of f.file ≡ Some o → count_of (take k (flat_map files_of groups)) ≡ objects_before groups x.id
start-object groups k x places is f there o some =
    let r = start-in groups k x is in
    let same : r.found.file ≡ f = same_Some r.found.file f (sym r.file ∙ there) in
    r.before o (ap (λ (g : SequencedFile). object_of g.file) same ∙ some) ∙ ap (λ (i : FilePlace). objects_before groups i) (sym (start-id groups k x places r))

-- as many starts as files
pub length-all-starts : {P : Type 0} (groups : List (Group P)) → length (starts_of groups) ≡ length (flat_map files_of groups)
length-all-starts [] = refl
length-all-starts (g ∷ gs) =
    omega (arith, length-append (group_starts g) (starts_of gs), length-append (files_of g) (flat_map files_of gs), length-starts g, length-all-starts gs)
