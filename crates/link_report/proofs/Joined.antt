-- The lines of runs, one after another.
use Rattle.std.proofs.Common.{◌≡◌, ◌∙◌, ◌+◌, ◌++◌, ◌≤◌, ℕ, List, [], ◌∷◌, Result, Ok, Err, arith, length, length-append, map, refl, subst, sym, ap, ap₂}
use Rattle.std.specs.Prelude.{IfOk, MatchResult}
use Rattle.std.specs.List.{AllZip, Contains, enumerate_from, flat_map}
use Rattle.std.proofs.lemmas.Grind.{flat_map-append}
use Rattle.link_input_groups.specs.declared.group.Group.{Group}
use Rattle.link_db_files.specs.HeldFiles.{HeldFiles, names_in}
use Rattle.link_rules.specs.Places.{Bytes, each_from}
use Rattle.link_rules.specs.Report.{joined_lines, symbol_line}
use Rattle.link_core_answer.specs.Parts.{Parts, answer_of}
use Rattle.link_report.specs.declared.runs.Run.{Run}
use Rattle.link_report.specs.Runs.{AreBelow, lines_of_names, lines_of_run, names_of_groups, names_of_run, symbols_of_runs}
use Rattle.link_report.proofs.Walked.{held-names}

-- where a text was made of each run, all texts are those of all runs
texts-joined : {X T : Type 0} (E : Type 0) (of_text : T → Bytes) (of_run : X → Bytes) (runs : List X) (texts : List T)
    → AllZip (λ run (r : Result T E). IfOk r (λ text. of_text text ≡ of_run run)) runs (map Ok texts) → flat_map of_text texts ≡ flat_map of_run runs
texts-joined E of_text of_run [] [] made = refl
texts-joined E of_text of_run [] (t ∷ ts) made = absurd made
texts-joined E of_text of_run (run ∷ runs) [] made = absurd made
texts-joined E of_text of_run (run ∷ runs) (t ∷ ts) made = ap₂ (λ s rest. s ++ rest) made.0 (texts-joined E of_text of_run runs ts made.1)

-- the same of texts that were collected, of which none was refused
pub collected : {X T E V : Type 0} (of_text : T → Bytes) (of_run : X → Bytes) (items : V → List T) (runs : List X) (results : List (Result T E)) (r : Result V E)
    → AllZip (λ run made. IfOk made (λ text. of_text text ≡ of_run run)) runs results
    → MatchResult r (λ v. (parts : List T) × (results ≡ map Ok parts) × (items v ≡ parts)) (λ e. Contains results (Err e))
    → IfOk r (λ v. flat_map of_text (items v) ≡ flat_map of_run runs)
collected of_text of_run items runs results (Err e) made given = tt
collected {E = E} of_text of_run items runs results (Ok v) made given =
    ap (flat_map of_text) given.2
    ∙ texts-joined E of_text of_run runs given.0 (subst (AllZip (λ run made. IfOk made (λ text. of_text text ≡ of_run run)) runs) given.1 made)

-- the lines of names, each with its id
names-lines : (f : ℕ → Bytes → Bytes) (n : ℕ) (names : List Bytes) → flat_map (λ (p : ℕ × Bytes). f p.0 p.1) (enumerate_from n names) ≡ joined_lines (each_from f n names)
names-lines f n [] = refl
names-lines f n (x ∷ xs) = ap (λ (t : Bytes). f n x ++ t) (names-lines f (n + 1) xs)

-- the lines of the symbols of runs are those of each run
runs-lines : {P : Type 0} (f : ℕ → Bytes → Bytes) (runs : List (Run P))
    → flat_map (λ (p : ℕ × Bytes). f p.0 p.1) (symbols_of_runs runs) ≡ flat_map (λ (r : Run P). joined_lines (each_from f r.first (names_of_run r))) runs
runs-lines f [] = refl
runs-lines f (r ∷ rs) =
    flat_map-append (λ (p : ℕ × Bytes). f p.0 p.1) (enumerate_from r.first (names_of_run r)) (symbols_of_runs rs)
    ∙ ap₂ (λ s t. s ++ t) (names-lines f r.first (names_of_run r)) (runs-lines f rs)

-- runs that have the names of groups have their lines
pub lines-of-runs : {P : Type 0} (x : Parts P) (runs : List (Run P)) (names : List Bytes) → symbols_of_runs runs ≡ enumerate_from 0 names
    → flat_map (lines_of_run x) runs ≡ lines_of_names x 0 names
lines-of-runs x runs names are =
    let line = symbol_line (answer_of x).table (answer_of x).flags in
    sym (runs-lines line runs) ∙ (ap (λ (ps : List (ℕ × Bytes)). flat_map (λ (p : ℕ × Bytes). line p.0 p.1) ps) are ∙ names-lines line 0 names)

-- what is below a number is below a larger one
pub below-larger : {P : Type 0} (n m : ℕ) (runs : List (Run P)) → n ≤ m → AreBelow n runs → AreBelow m runs
below-larger n m [] le below = tt
below-larger n m (r ∷ rs) le below = (omega (arith, le, below.0), below-larger n m rs le below.1)

-- files have no more symbols than the link
pub names-within : {P : Type 0} (held : HeldFiles P) (groups : List (Group P)) → groups ≡ held.groups → length (names_of_groups groups) ≤ length (names_in held)
names-within {P} held groups are = omega (arith, all, own)
  where
    own : length (names_of_groups groups) ≡ length (names_of_groups held.groups)
    own = ap (λ (gs : List (Group P)). length (names_of_groups gs)) are

    all : length (names_in held) ≡ length (names_of_groups held.groups) + length held.added
    all = ap (λ (l : List Bytes). length l) (held-names held) ∙ length-append (names_of_groups held.groups) held.added
