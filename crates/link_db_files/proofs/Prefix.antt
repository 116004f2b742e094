-- The first groups of a link's batches.
use Rattle.std.proofs.Common.{◌≡◌, ◌∙◌, ◌++◌, ℕ, List, [], length, map, take, drop, Some, sym, ap, subst, arith}
use Rattle.std.specs.Prelude.{slice_get}
use Rattle.std.specs.List.{flat_map, AllByRecursion}
use Rattle.std.proofs.lemmas.List.{append-nil, map-append, take-append-drop, take_at}
use Rattle.std.proofs.lemmas.List.Concat.{flat_map-append}
use Rattle.link_ids.specs.FilePlace.{FilePlace}
use Rattle.link_input.specs.SequencedFiles.{SequencedFile}
use Rattle.link_input_groups.specs.declared.group.Group.{Group}
use Rattle.link_input_groups.specs.Asked.{HasIdsForAll}
use Rattle.link_input_groups.specs.FileIds.{HavePlaces}
use Rattle.link_input_groups.specs.Groups.{RunsFrom, file_ids, files_of}
use Rattle.link_db_files.specs.declared.starts.FileStart.{FileStart}
use Rattle.link_db_files.specs.GroupFiles.{AreGroupsOfLink}
use Rattle.link_db_files.specs.HeldFiles.{HeldFiles}
use Rattle.link_db_files.specs.Numbered.{AreHeld, spans_of}
use Rattle.link_db_files.specs.Starts.{group_starts, starts_of}
use Rattle.link_db_files.proofs.Batches.{all-left, none-added, of-link}
use Rattle.link_db_files.proofs.Lookup.{names-count}
use Rattle.link_db_files.proofs.Numbered.{id-count-append, id_count, runs-split, tabled-count}
use Rattle.link_db_files.proofs.Places.{get-left, length-all-starts}

-- the first groups have the places that all have
places-first : {P : Type 0} (first rest : List (Group P)) → HavePlaces (first ++ rest) → HavePlaces first
places-first {P} first rest places g k ids id at there =
    let all : slice_get (map file_ids (first ++ rest)) g ≡ Some ids = ap (λ (l : List (List FilePlace)). slice_get l g) (map-append (λ (x : Group P). file_ids x) first rest) ∙ get-left (map file_ids first) (map file_ids rest) g ids at in
    places g k ids id all there

-- the first groups of a link's batches are held as they were
pub held-first : {P : Type 0} (held : HeldFiles P) (starts : List FileStart) (first rest : List (Group P)) (k : ℕ) → AreHeld held starts → AreGroupsOfLink held.groups → held.groups ≡ first ++ rest → k ≡ length (flat_map files_of first)
    → AreHeld (record held { groups = first }) (take k starts)
held-first {P} held starts first rest k h link split count =
    let fs = flat_map (λ (g : Group P). files_of g) first in
    let more = flat_map (λ (g : Group P). files_of g) rest in
    let all = of-link held.groups link in
    let joined : flat_map files_of held.groups ≡ fs ++ more = ap (λ (l : List (Group P)). flat_map files_of l) split ∙ flat_map-append files_of first rest in
    let tables : AllByRecursion HasIdsForAll fs = all-left HasIdsForAll fs more (subst (λ (l : List SequencedFile). AllByRecursion HasIdsForAll l) joined all.tables) in
    let runs = runs-split 0 fs more (subst (λ (l : List SequencedFile). RunsFrom 0 (spans_of l)) joined all.runs) in
    let none : length held.added ≡ 0 = none-added held starts [] h (subst (λ (l : List (Group P)). AreGroupsOfLink l) (sym (append-nil held.groups)) link) in
    let begin : starts ≡ starts_of first ++ starts_of rest = h.found ∙ ap (λ (l : List (Group P)). starts_of l) split ∙ flat_map-append group_starts first rest in
    let number : length (starts_of first) ≡ k = length-all-starts first ∙ sym count in
    record {
      numbered = record { tabled = fs; behind = []; joined = sym (append-nil fs); tables = tables; others = tt; count = sym none; runs = runs.0 };
      places = places-first first rest (subst (λ (l : List (Group P)). HavePlaces l) split all.places);
      fits = omega (arith, names-count (record held { groups = first }), none, tabled-count 0 fs tables, all.few, ap id_count joined, id-count-append fs more);
      found = ap (take k) begin ∙ take_at (starts_of first) (starts_of rest) k number;
    }

-- the same, of so many groups
pub held-so-many : {P : Type 0} (held : HeldFiles P) (starts : List FileStart) (n k : ℕ) → AreHeld held starts → AreGroupsOfLink held.groups → k ≡ length (flat_map files_of (take n held.groups))
    → AreHeld (record held { groups = take n held.groups }) (take k starts)
held-so-many held starts n k h link count = held-first held starts (take n held.groups) (drop n held.groups) k h link (sym (take-append-drop n held.groups)) count
