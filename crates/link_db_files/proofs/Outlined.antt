-- The outlines of files, as groups are added and taken back.
use Rattle.std.proofs.Common.{◌≡◌, ◌+◌, ◌<◌, ◌++◌, ◌∙◌, ℕ, zero, suc, List, [], ◌∷◌, Some, get_or, length, length-append, map, take, drop, refl, slice_get, sym, ap, arith}
use Rattle.std.specs.List.{flat_map}
use Rattle.std.proofs.lemmas.List.{append_assoc, length-map, map-append, take-append-drop, take_at}
use Rattle.std.proofs.lemmas.List.Concat.{flat_map-append}
use Rattle.link_input_groups.proofs.FileTotals.{drop-at}
use Rattle.link_input_groups.specs.declared.group.Group.{Group}
use Rattle.link_input_groups.specs.declared.group.Group.TheVariants as group
use Rattle.link_input_groups.specs.declared.sequenced.SyntheticSymbols.{SyntheticSymbols}
use Rattle.link_input_groups.specs.Groups.{files_of}
use Rattle.link_input.specs.SequencedFiles.{SequencedFile}
use Rattle.link_db_files.specs.Adding.{EndsInSynthetic, with_id, with_len}
use Rattle.link_db_files.specs.Outlines.{group_outlines, outline_of, outlines_of}
use Rattle.link_db_files.specs.declared.outlines.FileOutline.{FileOutline}
use Rattle.link_db_files.proofs.Changing.{with-id-is}

-- one file more
pub outline-more : (files : List SequencedFile) (place : ℕ) (f : SequencedFile) (old new all : List FileOutline) → slice_get files place ≡ Some f
    → new ≡ old ++ outline_of f.file ∷ [] → old ++ map (λ (x : SequencedFile). outline_of x.file) (drop place files) ≡ all
    → new ++ map (λ (x : SequencedFile). outline_of x.file) (drop (place + 1) files) ≡ all
outline-more files place f old new all at more before =
    let rest = map (λ (x : SequencedFile). outline_of x.file) (drop (place + 1) files) in
    ap (λ l. l ++ rest) more ∙ (append_assoc old (outline_of f.file ∷ []) rest
    ∙ (ap (λ (l : List SequencedFile). old ++ map (λ (x : SequencedFile). outline_of x.file) l) (sym (drop-at files place f at)) ∙ before))

-- they are as many as files
pub count-outlines : {P : Type 0} (groups : List (Group P)) → length (outlines_of groups) ≡ length (flat_map files_of groups)
count-outlines [] = refl
count-outlines (g ∷ gs) =
    length-append (group_outlines g) (outlines_of gs)
    ∙ (ap (λ n. n + length (outlines_of gs)) (length-map (files_of g) (λ (x : SequencedFile). outline_of x.file))
    ∙ (ap (λ n. length (files_of g) + n) (count-outlines gs) ∙ sym (length-append (files_of g) (flat_map files_of gs))))

-- the first groups have the first of them
pub outlines-first : {P : Type 0} (groups : List (Group P)) (n k : ℕ) → k ≡ length (flat_map files_of (take n groups)) → take k (outlines_of groups) ≡ outlines_of (take n groups)
outlines-first {P} groups n k count =
    ap (λ (gs : List (Group P)). take k (outlines_of gs)) (sym (take-append-drop n groups))
    ∙ (ap (take k) (flat_map-append group_outlines (take n groups) (drop n groups))
    ∙ take_at (outlines_of (take n groups)) (outlines_of (drop n groups)) k (count-outlines (take n groups) ∙ sym count))

-- the outlines of groups of which the last is of symbols that the linker adds don't tell how many it has
outlines-last : {P : Type 0} (before : List (Group P)) (s : SyntheticSymbols) (len : ℕ) → outlines_of (before ++ group.SyntheticSymbols (with_len s len) ∷ []) ≡ outlines_of (before ++ group.SyntheticSymbols s ∷ [])
outlines-last before s len =
    flat_map-append group_outlines before (group.SyntheticSymbols (with_len s len) ∷ []) ∙ sym (flat_map-append group_outlines before (group.SyntheticSymbols s ∷ []))

-- with an id more they are the same
pub outlines-kept : {P : Type 0} (groups : List (Group P)) → EndsInSynthetic groups → outlines_of (with_id groups) ≡ outlines_of groups
outlines-kept {P} groups last =
    ap (λ (gs : List (Group P)). outlines_of gs) (with-id-is (with_id groups) groups last refl)
    ∙ (outlines-last last.0 last.1.0 (last.1.0.symbol_id_range.len + 1) ∙ sym (ap (λ (gs : List (Group P)). outlines_of gs) last.1.1))

-- they are those of all files
pub outlines-are : {P : Type 0} (groups : List (Group P)) → outlines_of groups ≡ map (λ (x : SequencedFile). outline_of x.file) (flat_map files_of groups)
outlines-are [] = refl
outlines-are (g ∷ gs) =
    ap (λ l. group_outlines g ++ l) (outlines-are gs) ∙ sym (map-append (λ (x : SequencedFile). outline_of x.file) (files_of g) (flat_map files_of gs))

-- the outlines of files
abbrev pub outlines : List SequencedFile → List FileOutline
outlines files = map (λ (f : SequencedFile). outline_of f.file) files

-- what is read of a list rests on no default
get_or_any : {A : Type 0} (xs : List A) (i : ℕ) (d e : A) → i < length xs → get_or xs i d ≡ get_or xs i e
get_or_any [] i d e lt = absurd (omega arith)
get_or_any (x ∷ xs) zero d e lt = refl
get_or_any (x ∷ xs) (suc i) d e lt = get_or_any xs i d e (omega (arith, lt))

-- they are as many
pub length-outlines : (files : List SequencedFile) → length (outlines files) ≡ length files
length-outlines files = length-map files (λ (f : SequencedFile). outline_of f.file)

-- an element that is read of a list is read of the same list
pub get_or_default : {A : Type 0} (xs ys : List A) (i : ℕ) (d : A) → xs ≡ ys → i < length xs → get_or xs i d ≡ get_or ys i (get_or xs i d)
get_or_default {A} xs ys i d same lt = get_or_any xs i d (get_or xs i d) lt ∙ ap (λ (l : List A). get_or l i (get_or xs i d)) same

-- an outline that is read is that of the file at its place
pub file-at : (files : List SequencedFile) (i : ℕ) (o : FileOutline) → i < length (outlines files) → o ≡ get_or (outlines files) i o
    → (f : SequencedFile) × (slice_get files i ≡ Some f) × (o ≡ outline_of f.file)
file-at [] i o lt is = absurd (omega arith)
file-at (f ∷ files) zero o lt is = (f, refl, is)
file-at (f ∷ files) (suc i) o lt is = file-at files i o (omega (arith, lt)) is
