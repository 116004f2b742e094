-- What is gathered of a link that ends with a selection, and marked, are its live sections.
use Rattle.std.proofs.Common.{◌≡◌, ◌↔◌, ◌+◌, ◌∙◌, ℕ, Bool, List, [], ◌∷◌, Option, ap, arith, length, map, refl, subst, sym}
use Rattle.std.specs.List.{enumerate_from}
use Rattle.std.proofs.lemmas.List.{take_all}
use Rattle.link_closure.specs.Closure.{IsLeastClosed}
use Rattle.link_closure.specs.Graph.{IsEdge, IsMarked}
use Rattle.link_closure.specs.declared.Edge.{Edge}
use Rattle.link_core_answer.specs.Parts.{Parts}
use Rattle.link_db_files.specs.GroupFiles.{symbols_in}
use Rattle.link_db_files.specs.Inputs.{objects_in}
use Rattle.link_input.specs.InputFiles.{sections_of}
use Rattle.link_input.specs.Limits.{total}
use Rattle.link_input.specs.ObjectFile.{ObjectFile}
use Rattle.link_input.specs.Symbols.{Symbol}
use Rattle.link_resolve.specs.Known.{Known}
use Rattle.link_resolve_discarded.specs.Indexed.{AreGroupsOf, IndexedGroups}
use Rattle.link_rules.specs.Selection.{Selection}
use Rattle.link_rules.specs.Undefined.{resolved}
use Rattle.link_gc_sections.specs.LiveSections.{IsRootNumber, section_count}
use Rattle.link_gc.specs.declared.numbers.SectionSpan.{SectionSpan}
use Rattle.link_gc.specs.Gathering.{IsGatheredEdge}
use Rattle.link_gc.specs.Live.{AreLiveAt}
use Rattle.link_gc.specs.Numbering.{AreNumbersOf, IsOf, placed_number, spans_from}
use Rattle.link_gc.proofs.Alike.{are-live}

-- what is listed with its place, without that
unplaced : {X : Type 0} (n : ℕ) (xs : List X) → map (λ (o : ℕ × X). o.1) (enumerate_from n xs) ≡ xs
unplaced n [] = refl
unplaced {X} n (x ∷ xs) = ap (λ (ys : List X). x ∷ ys) (unplaced (n + 1) xs)

-- the sections in which the symbols of a list stand, by their numbers
abbrev pub placed_of : Selection → List Symbol → List (Option ℕ)
placed_of l symbols = map (λ x. placed_number l x.origin) symbols

-- the objects of a link are those of its selection
pub objects-are : {P : Type 0} (l : Selection) (x : Parts P) (objects : List (ℕ × ObjectFile)) → IsOf l x → objects ≡ enumerate_from 0 (objects_in x.db.mapping.files.groups)
    → objects ≡ enumerate_from 0 l.stage.objects
objects-are l x objects of placed = placed ∙ ap (λ (os : List ObjectFile). enumerate_from 0 os) of.kept.objects

-- their sections have their numbers
pub numbers-are : {P : Type 0} (l : Selection) (x : Parts P) (loaded : List Bool) (objects : List (ℕ × ObjectFile)) (spans : List SectionSpan) (groups : IndexedGroups) → IsOf l x
    → loaded ≡ x.known.marks → objects ≡ enumerate_from 0 (objects_in x.db.mapping.files.groups) → spans ≡ spans_from loaded 0 objects → groups ≡ x.groups → AreNumbersOf l spans groups
numbers-are l x loaded objects spans groups of marked placed spanned grouped =
    let marks : loaded ≡ l.marks = marked ∙ ap (λ (k : Known). k.marks) of.kept.known_is in
    record {
      spans_are = spanned ∙ (ap (λ (ms : List Bool). spans_from ms 0 objects) marks ∙ ap (spans_from l.marks 0) (objects-are l x objects of placed));
      groups_are = subst (AreGroupsOf l.marks l.stage.objects) (sym grouped) of.kept.groups_are;
    }

-- and that is how many there are
pub count-is : {P : Type 0} (l : Selection) (x : Parts P) (objects : List (ℕ × ObjectFile)) (count : ℕ) → IsOf l x → objects ≡ enumerate_from 0 (objects_in x.db.mapping.files.groups)
    → count ≡ total sections_of (map (λ o. o.1) objects) → count ≡ section_count l.stage
count-is l x objects count of placed counted =
    let os : List ObjectFile = l.stage.objects in
    let are : map (λ (o : ℕ × ObjectFile). o.1) objects ≡ os = ap (map (λ (o : ℕ × ObjectFile). o.1)) (objects-are l x objects of placed) ∙ unplaced 0 os in
    counted ∙ ap (total sections_of) (are ∙ sym (take_all (length os) os (omega arith)))

-- what is marked from the roots are the live sections
pub collected : {P : Type 0} (l : Selection) (x : Parts P) (loaded : List Bool) (objects : List (ℕ × ObjectFile)) (spans : List SectionSpan) (groups : IndexedGroups) (count : ℕ)
    (placed : List (Option ℕ)) (roots : List Bool) (edges : List Edge) (marks : List Bool) → IsOf l x → loaded ≡ x.known.marks
    → objects ≡ enumerate_from 0 (objects_in x.db.mapping.files.groups) → spans ≡ spans_from loaded 0 objects → groups ≡ x.groups
    → count ≡ total sections_of (map (λ o. o.1) objects) → (AreNumbersOf l spans groups → placed ≡ placed_of l (symbols_in x.db.mapping.files.groups)) → length roots ≡ count
    → (AreNumbersOf l spans groups → objects ≡ enumerate_from 0 l.stage.objects → placed ≡ placed_of l l.stage.symbols → count ≡ section_count l.stage
    → (n : ℕ) → IsMarked roots n ↔ IsRootNumber (resolved l) n)
    → (AreNumbersOf l spans groups → placed ≡ placed_of l l.stage.symbols → (n m : ℕ) → IsEdge edges n m ↔ IsGatheredEdge l n m)
    → IsLeastClosed (IsMarked roots) (IsEdge edges) (length roots) marks → AreLiveAt l spans marks
collected l x loaded objects spans groups count placed roots edges marks of marked listed spanned grouped counted stand each rooted led least =
    let numbers = numbers-are l x loaded objects spans groups of marked listed spanned grouped in
    let stands : placed ≡ placed_of l l.stage.symbols = stand numbers ∙ ap (placed_of l) of.kept.symbols in
    let counts = count-is l x objects count of listed counted in
    let all = objects-are l x objects of listed in
    record {
      spans_are = numbers.spans_are;
      live = are-live l roots edges (length roots) marks (each ∙ counts) (rooted numbers all stands counts) (led numbers stands) least;
    }
