-- Marks for the objects of files, made one file after another.
use Rattle.std.proofs.Common.{◌≡◌, ◌+◌, ◌++◌, ◌∙◌, ℕ, List, [], ◌∷◌, Bool, Some, drop, length, slice_get, sym, ap, length-append}
use Rattle.std.proofs.lemmas.List.{append_assoc}
use Rattle.std.proofs.lemmas.List.Elements.{filter_map-append}
use Rattle.link_input.specs.ObjectFile.{ObjectFile}
use Rattle.link_input.specs.SequencedFiles.{SequencedFile}
use Rattle.link_input_groups.proofs.FileTotals.{drop-at}
use Rattle.link_db_files.specs.Inputs.{object_of}
use Rattle.link_rules.specs.Places.{each_from}
use Rattle.link_db_symbols.specs.Walk.{objects_among}
use Rattle.link_db_symbols.proofs.Listed.{each-append, each-length}

-- marks of the objects of one file more
pub marks-more : (f : ℕ → ObjectFile → Bool) (files : List SequencedFile) (i : ℕ) (file : SequencedFile) (old new all : List Bool) → slice_get files i ≡ Some file
    → new ≡ old ++ each_from f (length old) (objects_among (file ∷ []))
    → old ++ each_from f (length old) (objects_among (drop i files)) ≡ all → new ++ each_from f (length new) (objects_among (drop (i + 1) files)) ≡ all
marks-more f files i file old new all at more before =
    let own = objects_among (file ∷ []) in
    let left = objects_among (drop (i + 1) files) in
    let here : objects_among (drop i files) ≡ own ++ left =
    ap (λ (l : List SequencedFile). objects_among l) (drop-at files i file at) ∙ filter_map-append (λ (x : SequencedFile). object_of x.file) (file ∷ []) (drop (i + 1) files) in
    let long : length new ≡ length old + length own = ap (λ (l : List Bool). length l) more ∙ (length-append old (each_from f (length old) own) ∙ ap (λ n. length old + n) (each-length f (length old) own)) in
    ap (λ n. new ++ each_from f n left) long
    ∙ (ap (λ (l : List Bool). l ++ each_from f (length old + length own) left) more
    ∙ (append_assoc old (each_from f (length old) own) (each_from f (length old + length own) left)
    ∙ (ap (λ (l : List Bool). old ++ l) (sym (each-append f (length old) own left))
    ∙ (ap (λ (l : List ObjectFile). old ++ each_from f (length old) l) (sym here) ∙ before))))
