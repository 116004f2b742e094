-- Groups that are added behind others.
use Rattle.std.proofs.Common.{◌≡◌, ℕ, zero, suc, ◌+◌, ◌⊎◌, eqb, false, List, [], ◌∷◌, ◌++◌, length, map, Some, slice_get, refl, sym, ap, ◌∙◌, subst, inl, inr, ⊎_elim, arith, append_assoc}
use Rattle.std.specs.List.{flat_map}
use Rattle.std.proofs.lemmas.List.{append-nil, map-append, length-map}
use Rattle.std.proofs.lemmas.List.Concat.{flat_map-append}
use Rattle.std.proofs.lemmas.Option.{same_Some}
use Rattle.link_ids.specs.FilePlace.{FilePlace}
use Rattle.link_input_groups.specs.declared.group.Group.{Group}
use Rattle.link_input_groups.specs.declared.sequencing.NextIds.{NextIds}
use Rattle.link_input.specs.InputFiles.{InputFile, linker_script, symbol_count, section_count, stub_input}
use Rattle.link_input.specs.declared.world.ProcessedLinkerScript.{ProcessedLinkerScript}
use Rattle.link_input.specs.declared.world.StubLibrary.{StubLibrary}
use Rattle.link_input.specs.SequencedFiles.{SequencedFile, file_sections, sequenced}
use Rattle.link_input_groups.specs.Groups.{files_of, file_ids}
use Rattle.link_input.specs.Limits.{total}
use Rattle.link_input_groups.specs.FileIds.{ids_from, HavePlaces}
use Rattle.link_input_groups.specs.GroupsAdded.{Adds, group_files, one_group}
use Rattle.link_input_groups.proofs.Cutting.{total-append}

-- the files of files with ids are these files
pub file-sequenced : (s c : ℕ) (fs : List InputFile) → map (λ f. f.file) (sequenced s c fs) ≡ fs
file-sequenced s c [] = refl
file-sequenced s c (f ∷ fs) = ap (λ r. f ∷ r) (file-sequenced (s + symbol_count f) (c + section_count f) fs)

-- files in two parts, the second with the ids behind those of the first
pub sequenced-append : (s c : ℕ) (xs ys : List InputFile) → sequenced s c (xs ++ ys) ≡ sequenced s c xs ++ sequenced (s + total symbol_count xs) (c + total section_count xs) ys
sequenced-append s c [] ys =
    let s_is : s + 0 ≡ s = omega arith in
    let c_is : c + 0 ≡ c = omega arith in
    rw (s_is, c_is) refl
sequenced-append s c (x ∷ xs) ys =
    let s_is : s + (symbol_count x + total symbol_count xs) ≡ s + symbol_count x + total symbol_count xs = omega arith in
    let c_is : c + (section_count x + total section_count xs) ≡ c + section_count x + total section_count xs = omega arith in
    rw (s_is, c_is) (ap (λ r. record { file = x; symbols = record { start = s; len = symbol_count x }; sections = file_sections c x } ∷ r) (sequenced-append (s + symbol_count x) (c + section_count x) xs ys))

-- no group is added
pub adds-none : {P : Type 0} (groups : List (Group P)) (ids : NextIds) → Adds groups groups ids ids []
adds-none groups ids = record {
  groups = sym (append-nil _);
  files = sym (append-nil _);
  places = λ h. h;
  symbols = omega arith;
  sections = omega arith;
}

-- some groups are added, and then others
pub adds-more : {P : Type 0} (a b c : List (Group P)) (o n m : NextIds) (xs ys : List (List InputFile)) → Adds a b o n xs → Adds b c n m ys → Adds a c o m (xs ++ ys)
adds-more a b c o n m xs ys first then =
    let fx = flat_map (λ (fs : List InputFile). fs) xs in
    let fy = flat_map (λ (fs : List InputFile). fs) ys in
    let all : flat_map (λ (fs : List InputFile). fs) (xs ++ ys) ≡ fx ++ fy = flat_map-append (λ (fs : List InputFile). fs) xs ys in
    let symbols : m.symbols ≡ o.symbols + total symbol_count (fx ++ fy) = omega (arith, first.symbols, then.symbols, total-append symbol_count fx fy) in
    let sections : m.sections ≡ o.sections + total section_count (fx ++ fy) = omega (arith, first.sections, then.sections, total-append section_count fx fy) in
    let seq : sequenced o.symbols o.sections (fx ++ fy) ≡ sequenced o.symbols o.sections fx ++ sequenced n.symbols n.sections fy = rw (first.symbols, first.sections) (sequenced-append o.symbols o.sections fx fy) in
    let files : flat_map files_of c ≡ flat_map files_of a ++ sequenced o.symbols o.sections (fx ++ fy) = rw (then.files, first.files, seq) (append_assoc (flat_map files_of a) (sequenced o.symbols o.sections fx) (sequenced n.symbols n.sections fy)) in
    record {
      groups = rw (then.groups, first.groups) (append_assoc (map group_files a) xs ys);
      files = rw all files;
      places = λ h. then.places (first.places h);
      symbols = rw all symbols;
      sections = rw all sections;
    }

-- what stands in a list to which one item was added
get-push : {A : Type 0} (xs : List A) (y z : A) (i : ℕ) → slice_get (xs ++ y ∷ []) i ≡ Some z → (slice_get xs i ≡ Some z) ⊎ ((i ≡ length xs) × (y ≡ z))
get-push [] y z zero is = inr (refl, same_Some y z is)
get-push [] y z (suc i) is = cc
get-push (x ∷ xs) y z zero is = inl is
get-push (x ∷ xs) y z (suc i) is =
    ⊎_elim (λ h. inl h) (λ h. let at : suc i ≡ suc (length xs) = omega (arith, h.0) in inr (at, h.1)) (get-push xs y z i is)

-- the id at a place
ids-at : {A : Type 0} (g k : ℕ) (xs : List A) (i : ℕ) (id : FilePlace) → slice_get (ids_from g k xs) i ≡ Some id → id ≡ record { group = g; file = k + i }
ids-at g k [] i id is = cc
ids-at g k (x ∷ xs) zero id is =
    let k_is : k + 0 ≡ k = omega arith in rw k_is (sym (same_Some (record { group = g; file = k }) id is))
ids-at g k (x ∷ xs) (suc i) id is =
    let k_is : k + suc i ≡ k + 1 + i = omega arith in rw k_is (ids-at g (k + 1) xs i id is)

-- a group with the ids of its place
pub places-push : {P A : Type 0} (groups : List (Group P)) (g : Group P) (xs : List A) → file_ids g ≡ ids_from (length groups) 0 xs → HavePlaces groups → HavePlaces (groups ++ g ∷ [])
places-push groups g xs ids before = λ i k got id at at_id.
    let pushed : slice_get (map file_ids groups ++ file_ids g ∷ []) i ≡ Some got = subst (λ (l : List (List FilePlace)). slice_get l i ≡ Some got) (map-append file_ids groups (g ∷ [])) at in
    ⊎_elim
    (λ old. before i k got id old at_id)
    (λ new.
    let i_is : i ≡ length groups = new.0 ∙ length-map groups file_ids in
    let from : slice_get (ids_from (length groups) 0 xs) k ≡ Some id = rw (← ids, new.1) at_id in
    let k_is : 0 + k ≡ k = omega arith in
    rw (i_is, ← k_is) (ids-at (length groups) 0 xs k id from))
    (get-push (map file_ids groups) (file_ids g) got i pushed)

-- one group is added
pub adds-one : {P A : Type 0} (groups : List (Group P)) (g : Group P) (o n : NextIds) (fs : List InputFile) (xs : List A) → files_of g ≡ sequenced o.symbols o.sections fs → file_ids g ≡ ids_from (length groups) 0 xs → n.symbols ≡ o.symbols + total symbol_count fs → n.sections ≡ o.sections + total section_count fs → Adds groups (groups ++ g ∷ []) o n (fs ∷ [])
adds-one groups g o n fs xs files ids symbols sections =
    let one : flat_map (λ (l : List InputFile). l) (fs ∷ []) ≡ fs = append-nil fs in
    let of_group : group_files g ≡ fs = ap (λ l. map (λ (f : SequencedFile). f.file) l) files ∙ file-sequenced o.symbols o.sections fs in
    record {
      groups = map-append group_files groups (g ∷ []) ∙ ap (λ r. map group_files groups ++ r ∷ []) of_group;
      files = rw one (flat_map-append files_of groups (g ∷ []) ∙ ap (λ r. flat_map files_of groups ++ r) (append-nil (files_of g) ∙ files));
      places = places-push groups g xs ids;
      symbols = rw one symbols;
      sections = rw one sections;
    }

-- one group is added, of which the ids are known from a count of groups
pub adds-group : {P A : Type 0} (before after : List (Group P)) (g : Group P) (m : ℕ) (o n : NextIds) (fs : List InputFile) (xs : List A) → after ≡ before ++ g ∷ [] → files_of g ≡ sequenced o.symbols o.sections fs → file_ids g ≡ ids_from m 0 xs → m ≡ length before → n.symbols ≡ o.symbols + total symbol_count fs → n.sections ≡ o.sections + total section_count fs → Adds before after o n (fs ∷ [])
adds-group {P} before after g m o n fs xs pushed files ids at symbols sections =
    let place : file_ids g ≡ ids_from (length before) 0 xs = rw (← at) ids in
    let P' : List (Group P) → Type 0 = λ l. Adds before l o n (fs ∷ []) in
    subst P' (sym pushed) (adds-one before g o n fs xs files place symbols sections)

-- some files are one group
pub one_group-some : {A : Type 0} (xs : List A) → eqb (length xs) 0 ≡ false → one_group xs ≡ xs ∷ []
one_group-some xs e = rw e refl

-- linker scripts and stub libraries have no sections
pub no-script-sections : (scripts : List ProcessedLinkerScript) → total section_count (map linker_script scripts) ≡ 0
no-script-sections [] = refl
no-script-sections (s ∷ ss) = omega (arith, no-script-sections ss)

pub no-stub-sections : (stubs : List StubLibrary) → total section_count (map stub_input stubs) ≡ 0
no-stub-sections [] = refl
no-stub-sections (s ∷ ss) = omega (arith, no-stub-sections ss)

-- what is left, one item on
pub left-sum : {A : Type 0} (count : InputFile → ℕ) (f : A → List InputFile) (n m : ℕ) (left rest : List A) (x : A) → left ≡ x ∷ rest → n + total count (flat_map f left) ≡ m → n + total count (f x) + total count (flat_map f rest) ≡ m
left-sum count f n m left rest x is sum =
    let h : n + total count (f x ++ flat_map f rest) ≡ m = rw is at sum in
    omega (arith, h, total-append count (f x) (flat_map f rest))

-- one group's sum
pub one-sum : (count : InputFile → ℕ) (fs : List InputFile) → total count (flat_map (λ (l : List InputFile). l) (fs ∷ [])) ≡ total count fs
one-sum count fs = ap (total count) (append-nil fs)
