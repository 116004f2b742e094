-- The entry of the last linker script that has one.
use Rattle.std.proofs.Common.{◌≡◌, ◌++◌, ◌∙◌, List, [], ◌∷◌, map, Option, Some, None, refl, sym, ap}
use Rattle.std.specs.List.{cons_option, filter_map, flat_map}
use Rattle.std.specs.Option.{option_or}
use Rattle.std.proofs.lemmas.List.{append-nil}
use Rattle.std.proofs.lemmas.List.Elements.{filter_map-append}
use Rattle.link_input.specs.declared.world.ProcessedLinkerScript.{ProcessedLinkerScript}
use Rattle.link_input.specs.SequencedFiles.{SequencedFile}
use Rattle.link_input_groups.specs.declared.group.Group.{Group}
use Rattle.link_input_groups.specs.declared.group.Group.TheVariants as group
use Rattle.link_input_groups.specs.declared.sequenced.SequencedLinkerScript.{SequencedLinkerScript}
use Rattle.link_input_groups.specs.Groups.{files_of}
use Rattle.link_db_files.specs.Inputs.{script_of, scripts_in}
use Rattle.link_rules.specs.Places.{last_of}

-- where there is a last one, it does not matter what else there would be
last-there : {X : Type 0} (x : X) (xs : List X) (a b : Option X) → option_or (last_of (x ∷ xs)) a ≡ option_or (last_of (x ∷ xs)) b
last-there x [] a b = refl
last-there x (y ∷ ys) a b = last-there y ys a b

-- one more in front
pub last-in-front : {X : Type 0} (o : Option X) (xs : List X) (b : Option X) → option_or (last_of (cons_option o xs)) b ≡ option_or (last_of xs) (option_or o b)
last-in-front None xs b = refl
last-in-front (Some x) [] b = refl
last-in-front (Some x) (y ∷ ys) b = last-there y ys b (Some x)

-- two lists, one after the other
pub last-joined : {X : Type 0} (xs ys : List X) (b : Option X) → option_or (last_of (xs ++ ys)) b ≡ option_or (last_of ys) (option_or (last_of xs) b)
last-joined [] ys b = refl
last-joined (x ∷ xs) ys b =
    last-in-front (Some x) (xs ++ ys) b ∙ last-joined xs ys (Some x) ∙ ap (option_or (last_of ys)) (sym (last-in-front (Some x) xs b))

-- the linker scripts of the first group, and those of the rest
pub scripts-first : {P : Type 0} (g : Group P) (gs : List (Group P)) → scripts_in (g ∷ gs) ≡ scripts_in (g ∷ []) ++ scripts_in gs
scripts-first {P} g gs =
    let of_file = λ (f : SequencedFile). script_of f.file in
    filter_map-append of_file (files_of g) (flat_map files_of gs)
    ∙ ap (λ (l : List SequencedFile). filter_map of_file l ++ scripts_in gs) (sym (append-nil (files_of g)))

-- the linker scripts of a group of them
pub scripts-there : (P : Type 0) (scripts : List SequencedLinkerScript) → map (λ s. s.parsed) scripts ≡ scripts_in {P = P} (group.LinkerScripts scripts ∷ [])
scripts-there P [] = refl
scripts-there P (s ∷ ss) = ap (λ (l : List ProcessedLinkerScript). s.parsed ∷ l) (scripts-there P ss)
