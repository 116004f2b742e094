-- The objects of groups, each with its place, one group after another.
use Rattle.std.proofs.Common.{◌≡◌, ◌+◌, ◌<◌, ◌++◌, ◌∙◌, ℕ, List, [], ◌∷◌, drop, get_or, length, map, refl, sym, ap, arith, length-append}
use Rattle.std.specs.List.{enumerate_from, filter_map, flat_map}
use Rattle.std.proofs.lemmas.List.{append-nil, append_assoc, drop_more}
use Rattle.std.proofs.lemmas.List.Elements.{filter_map-append}
use Rattle.std.proofs.lemmas.List.FromFn.{length-enumerate_from}
use Rattle.link_input.specs.ObjectFile.{ObjectFile}
use Rattle.link_input.specs.SequencedFiles.{SequencedFile}
use Rattle.link_input_groups.specs.declared.group.Group.{Group}
use Rattle.link_input_groups.specs.declared.group.Group.TheVariants as group
use Rattle.link_input_groups.specs.declared.sequenced.SequencedInputObject.{SequencedInputObject}
use Rattle.link_input_groups.specs.Groups.{files_of}
use Rattle.link_db_files.specs.Inputs.{object_of, objects_in}

-- the objects of the first group, and those of the rest
pub objects-first : {P : Type 0} (g : Group P) (gs : List (Group P)) → objects_in (g ∷ gs) ≡ objects_in (g ∷ []) ++ objects_in gs
objects-first {P} g gs =
    let of_file = λ (f : SequencedFile). object_of f.file in
    filter_map-append of_file (files_of g) (flat_map files_of gs)
    ∙ ap (λ (l : List SequencedFile). filter_map of_file l ++ objects_in gs) (sym (append-nil (files_of g)))

-- the objects of a group of them
pub objects-there : {P : Type 0} (objects : List (SequencedInputObject P)) → map (λ o. o.parsed) objects ≡ objects_in {P = P} (group.Objects objects ∷ [])
objects-there [] = refl
objects-there (o ∷ os) = ap (λ (l : List ObjectFile). o.parsed ∷ l) (objects-there os)

-- the places of two lists, one behind the other
enumerate-append : {X : Type 0} (n : ℕ) (xs ys : List X) → enumerate_from n (xs ++ ys) ≡ enumerate_from n xs ++ enumerate_from (n + length xs) ys
enumerate-append n [] ys = let same : n ≡ n + 0 = omega arith in ap (λ m. enumerate_from m ys) same
enumerate-append n (x ∷ xs) ys =
    let next : n + 1 + length xs ≡ n + length (x ∷ xs) = omega arith in
    ap (λ l. (n, x) ∷ l) (enumerate-append (n + 1) xs ys ∙ ap (λ m. enumerate_from (n + 1) xs ++ enumerate_from m ys) next)

-- the objects of one group more
pub placed-more : {P : Type 0} (groups : List (Group P)) (i : ℕ) (g : Group P) (own : List ObjectFile) (old new all : List (ℕ × ObjectFile))
    → i < length groups → g ≡ get_or groups i g → own ≡ objects_in (g ∷ []) → new ≡ old ++ enumerate_from (length old) own
    → old ++ enumerate_from (length old) (objects_in (drop i groups)) ≡ all → new ++ enumerate_from (length new) (objects_in (drop (i + 1) groups)) ≡ all
placed-more {P} groups i g own old new all lt is there more before =
    let left = objects_in (drop (i + 1) groups) in
    let Placed : List (ℕ × ObjectFile) = enumerate_from (length old) own in
    let next : drop i groups ≡ g ∷ drop (i + 1) groups = drop_more groups i g lt ∙ ap (λ (h : Group P). h ∷ drop (i + 1) groups) (sym is) in
    let here : objects_in (drop i groups) ≡ own ++ left =
    ap (λ (gs : List (Group P)). objects_in gs) next ∙ (objects-first g (drop (i + 1) groups) ∙ ap (λ (l : List ObjectFile). l ++ left) (sym there)) in
    let long : length new ≡ length old + length own = ap (λ (l : List (ℕ × ObjectFile)). length l) more ∙ (length-append old Placed ∙ ap (λ n. length old + n) (length-enumerate_from (length old) own)) in
    ap (λ n. new ++ enumerate_from n left) long
    ∙ (ap (λ (l : List (ℕ × ObjectFile)). l ++ enumerate_from (length old + length own) left) more
    ∙ (append_assoc old Placed (enumerate_from (length old + length own) left)
    ∙ (ap (λ (l : List (ℕ × ObjectFile)). old ++ l) (sym (enumerate-append (length old) own left))
    ∙ (ap (λ (l : List ObjectFile). old ++ enumerate_from (length old) l) (sym here) ∙ before))))
