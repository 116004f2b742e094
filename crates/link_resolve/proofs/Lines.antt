-- The lines of clashes, by the names of symbols and of files.
use Rattle.std.proofs.Common.{◌≡◌, ◌∙◌, ◌++◌, ◌+◌, ◌<◌, ℕ, List, [], ◌∷◌, Option, Some, None, sym, ap, map, drop, get_or, length, append_assoc}
use Rattle.std.specs.Prelude.{codes, slice_get}
use Rattle.std.specs.Option.{option_map_or}
use Rattle.std.proofs.lemmas.List.{map-append}
use Rattle.link_names.specs.NameText.{name_text}
use Rattle.link_input.specs.ObjectFile.{ObjectFile}
use Rattle.link_input.specs.Symbols.{Symbol}
use Rattle.link_input_groups.specs.declared.group.Group.{Group}
use Rattle.link_db_files.specs.Inputs.{objects_in}
use Rattle.link_db_texts.proofs.Forced.{rest_is}
use Rattle.link_resolve_discarded.proofs.Placing.{objects-first}
use Rattle.link_resolve_rivals.specs.Settled.{clash_line, name_at}
use Rattle.link_resolve_rivals.specs.declared.settling.Clash.{Clash}
use Rattle.link_rules.specs.Places.{Bytes}
use Rattle.link_rules.specs.Refusals.{file_name}
use Rattle.link_rules.specs.World.{Stage}
use Rattle.link_resolve.proofs.Behind.{name-at}

-- the file names of the objects of one group more
pub names-more : {P : Type 0} (groups : List (Group P)) (i : ℕ) (g : Group P) (own : List ObjectFile) (old new all : List Bytes)
    → i < length groups → g ≡ get_or groups i g → own ≡ objects_in (g ∷ []) → new ≡ old ++ map (λ o. o.input) own
    → old ++ map (λ o. o.input) (objects_in (drop i groups)) ≡ all → new ++ map (λ o. o.input) (objects_in (drop (i + 1) groups)) ≡ all
names-more {P} groups i g own old new all lt is there more before =
    let input = λ (o : ObjectFile). o.input in
    let left = objects_in (drop (i + 1) groups) in
    let here : objects_in (drop i groups) ≡ own ++ left =
    ap (λ (gs : List (Group P)). objects_in gs) (rest_is groups i g lt is) ∙ (objects-first g (drop (i + 1) groups) ∙ ap (λ (l : List ObjectFile). l ++ left) (sym there)) in
    ap (λ names. names ++ map input left) more ∙ append_assoc old (map input own) (map input left) ∙ ap (λ names. old ++ names) (sym (map-append input own left))
    ∙ sym (ap (λ objects. old ++ map input objects) here) ∙ before

-- the name that stands among all names is that of the symbol
pub symbol-named : (symbols : List Symbol) (added : List Bytes) (s : ℕ) (name : Bytes) → added ≡ [] → slice_get (map (λ x. x.name) symbols ++ added) s ≡ Some name
    → option_map_or (λ x. x.name) (slice_get symbols s) [] ≡ name
symbol-named symbols added s name none is = by (slice_get symbols s) (sym (name-at symbols added s none) ∙ is)
  where
    by : (o : Option Symbol) → option_map_or (λ x. Some x.name) o None ≡ Some name → option_map_or (λ x. x.name) o [] ≡ name
    by None found = cc
    by (Some x) found = cc

-- the line of a name and two files is that of the clash
pub line-is : (w : Stage) (c : Clash) (name first second line : Bytes) → line ≡ name_text name ++ codes ", defined in " ++ name_text first ++ codes " and " ++ name_text second
    → name_at w c.head ≡ name → first ≡ file_name w c.first → second ≡ file_name w c.second → line ≡ clash_line w c
line-is w c name first second line is named at_first at_second =
    is ∙ ap (λ n. name_text n ++ codes ", defined in " ++ name_text first ++ codes " and " ++ name_text second) (sym named)
    ∙ ap (λ f. name_text (name_at w c.head) ++ codes ", defined in " ++ name_text f ++ codes " and " ++ name_text second) at_first
    ∙ ap (λ f. name_text (name_at w c.head) ++ codes ", defined in " ++ name_text (file_name w c.first) ++ codes " and " ++ name_text f) at_second

-- the line of one clash more
pub line-more : (w : Stage) (clashes : List Clash) (i : ℕ) (c : Clash) (old new : List Bytes) (line : Bytes) (all : List Bytes)
    → i < length clashes → c ≡ get_or clashes i c → line ≡ clash_line w c → new ≡ old ++ line ∷ []
    → old ++ map (clash_line w) (drop i clashes) ≡ all → new ++ map (clash_line w) (drop (i + 1) clashes) ≡ all
line-more w clashes i c old new line all lt is told more before =
    let rest = map (clash_line w) (drop (i + 1) clashes) in
    ap (λ lines. lines ++ rest) (more ∙ ap (λ l. old ++ l ∷ []) told) ∙ append_assoc old (clash_line w c ∷ []) rest
    ∙ sym (ap (λ (cs : List Clash). old ++ map (clash_line w) cs) (rest_is clashes i c lt is)) ∙ before
