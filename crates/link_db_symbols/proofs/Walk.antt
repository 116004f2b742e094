-- Files one after another, and their symbols.
use Rattle.std.proofs.Common.{◌≡◌, ◌+◌, ◌<◌, ◌^◌, ◌++◌, ◌∙◌, ℕ, List, ◌∷◌, Some, length, map, slice_get, sym, ap, arith, length-append}
use Rattle.std.specs.List.{flat_map}
use Rattle.std.proofs.lemmas.List.{length-map}
use Rattle.link_input.specs.SequencedFiles.{SequencedFile}
use Rattle.link_input.specs.Symbols.{Symbol}
use Rattle.link_input_groups.specs.declared.group.Group.{Group}
use Rattle.link_input_groups.specs.Groups.{files_of}
use Rattle.link_input_groups.proofs.FileTotals.{drop-at}
use Rattle.link_db_files.specs.GroupFiles.{symbols_in}
use Rattle.link_db_files.specs.HeldFiles.{HeldFiles, names_in}
use Rattle.link_db_files.specs.Inputs.{objects_in}
use Rattle.link_db_symbols.specs.Walk.{CanBeNumbered, files_from}

-- the next file of the first group, and those behind it
pub files-next : {P : Type 0} (place : ℕ) (groups : List (Group P)) (g : Group P) (gs : List (Group P)) (f : SequencedFile) → groups ≡ g ∷ gs → slice_get (files_of g) place ≡ Some f
    → files_from place groups ≡ f ∷ files_from (place + 1) groups
files-next {P} place groups g gs f is at =
    let first : files_from place (g ∷ gs) ≡ f ∷ files_from (place + 1) (g ∷ gs) = ap (λ (l : List SequencedFile). l ++ flat_map (λ (k : Group P). files_of k) gs) (drop-at (files_of g) place f at) in
    ap (λ (l : List (Group P)). files_from place l) is ∙ (first ∙ ap (λ (l : List (Group P)). f ∷ files_from (place + 1) l) (sym is))

-- the symbols of files that are held have ids, and their objects can be counted
pub held-numbered : {P : Type 0} (held : HeldFiles P) → length (names_in held) < 2 ^ 32 → length (objects_in held.groups) < 2 ^ 64
    → CanBeNumbered (record { next = 0; left = symbols_in held.groups }) 0 (flat_map (λ (g : Group P). files_of g) held.groups)
held-numbered held ids places =
    let names = map (λ (x : Symbol). x.name) (symbols_in held.groups) in
    let counted : length names ≡ length (symbols_in held.groups) = length-map (symbols_in held.groups) (λ (x : Symbol). x.name) in
    record { ids = omega (arith, ids, counted, length-append names held.added); places = omega (arith, places) }
