-- Groups that are cut into runs.
use Rattle.std.proofs.Common.{◌≡◌, ◌∙◌, ◌+◌, ◌++◌, ◌≤◌, ℕ, suc, List, [], ◌∷◌, Result, Ok, Err, append-nil, append_assoc, arith, length, length-append, subst, sym, ap}
use Rattle.std.specs.Prelude.{OnOk}
use Rattle.std.specs.List.{enumerate_from}
use Rattle.std.proofs.lemmas.Grind.{flat_map-append}
use Rattle.link_input_groups.specs.declared.group.Group.{Group}
use Rattle.link_input_groups.specs.Groups.{files_of}
use Rattle.link_rules.specs.Places.{Bytes}
use Rattle.link_report.specs.declared.runs.Run.{Run}
use Rattle.link_report.specs.Runs.{AreBelow, names_of_files, names_of_groups, names_of_run, symbols_of_runs}

-- what follows from a result's fact holds of the result
pub on_ok : {T E : Type 0} (r : Result T E) {A B : Type 0} → (A → B) → OnOk r A → OnOk r B
on_ok (Ok t) f a = f a
on_ok (Err e) f a = tt

-- two lists, each element with its place
enumerate-append : {X : Type 0} (n : ℕ) (xs ys : List X) → enumerate_from n (xs ++ ys) ≡ enumerate_from n xs ++ enumerate_from (n + length xs) ys
enumerate-append n [] ys = let same : n ≡ n + 0 = omega arith in ap (λ m. enumerate_from m ys) same
enumerate-append n (x ∷ xs) ys =
    let next : n + 1 + length xs ≡ n + suc (length xs) = omega arith in
    ap (λ l. (n, x) ∷ l) (enumerate-append (n + 1) xs ys ∙ ap (λ m. enumerate_from (n + 1) xs ++ enumerate_from m ys) next)

-- the names of groups, and of those behind them
names-append : {P : Type 0} (front back : List (Group P)) → names_of_groups (front ++ back) ≡ names_of_groups front ++ names_of_groups back
names-append {P} front back = flat_map-append (λ (g : Group P). names_of_files (files_of g)) front back

-- one run more
pub one-more : {P : Type 0} (old : List (Run P)) (r : Run P) → symbols_of_runs (old ++ r ∷ []) ≡ symbols_of_runs old ++ enumerate_from r.first (names_of_run r)
one-more {P} old r =
    flat_map-append (λ (run : Run P). enumerate_from run.first (names_of_run run)) old (r ∷ [])
    ∙ ap (λ l. symbols_of_runs old ++ l) (append-nil (enumerate_from r.first (names_of_run r)))

-- the symbols of groups in front as a run, and those of the groups behind
pub run-more : {P : Type 0} (new mid old : List (Run P)) (r : Run P) (groups front back : List (Group P)) (first next : ℕ)
    → mid ≡ old ++ r ∷ [] → groups ≡ front ++ back → r.groups.now ≡ front → r.first ≡ first → next ≡ first + length (names_of_groups front)
    → symbols_of_runs new ≡ symbols_of_runs mid ++ enumerate_from next (names_of_groups back)
    → symbols_of_runs new ≡ symbols_of_runs old ++ enumerate_from first (names_of_groups groups)
run-more {P} new mid old r groups front back first next pushed cut run begins on after =
    let own = enumerate_from first (names_of_groups front) in
    let behind = enumerate_from (first + length (names_of_groups front)) (names_of_groups back) in
    let all : enumerate_from first (names_of_groups groups) ≡ own ++ behind =
    ap (λ (gs : List (Group P)). enumerate_from first (names_of_groups gs)) cut
    ∙ (ap (λ (l : List Bytes). enumerate_from first l) (names-append front back) ∙ enumerate-append first (names_of_groups front) (names_of_groups back)) in
    let this : enumerate_from r.first (names_of_run r) ≡ own =
    ap (λ (gs : List (Group P)). enumerate_from r.first (names_of_groups gs)) run ∙ ap (λ n. enumerate_from n (names_of_groups front)) begins in
    after
    ∙ (ap (λ n. symbols_of_runs mid ++ enumerate_from n (names_of_groups back)) on
    ∙ (ap (λ (rs : List (Run P)). symbols_of_runs rs ++ behind) pushed
    ∙ (ap (λ l. l ++ behind) (one-more old r ∙ ap (λ l. symbols_of_runs old ++ l) this)
    ∙ (append_assoc (symbols_of_runs old) own behind ∙ ap (λ l. symbols_of_runs old ++ l) (sym all)))))

-- one run more is below a number
pub below-push : {P : Type 0} (count : ℕ) (old : List (Run P)) (r : Run P) → AreBelow count old → r.first + length (names_of_run r) ≤ count → AreBelow count (old ++ r ∷ [])
below-push count [] r old below = (below, tt)
below-push count (o ∷ os) r old below = (old.0, below-push count os r old.1 below)

-- groups in front as a run, and those behind, are below what all are below
pub below-more : {P : Type 0} (new mid old : List (Run P)) (r : Run P) (groups front back : List (Group P)) (first next : ℕ)
    → mid ≡ old ++ r ∷ [] → groups ≡ front ++ back → r.groups.now ≡ front → r.first ≡ first → next ≡ first + length (names_of_groups front)
    → ((count : ℕ) → next + length (names_of_groups back) ≤ count → AreBelow count mid → AreBelow count new)
    → (count : ℕ) → first + length (names_of_groups groups) ≤ count → AreBelow count old → AreBelow count new
below-more {P} new mid old r groups front back first next pushed cut run begins on after count below olds =
    after count (omega (arith, all, on, below))
    (subst (λ (rs : List (Run P)). AreBelow count rs) (sym pushed) (below-push count old r olds (omega (arith, all, own, begins, below))))
  where
    all : length (names_of_groups groups) ≡ length (names_of_groups front) + length (names_of_groups back)
    all =
        ap (λ (gs : List (Group P)). length (names_of_groups gs)) cut
        ∙ (ap (λ (l : List Bytes). length l) (names-append front back) ∙ length-append (names_of_groups front) (names_of_groups back))

    own : length (names_of_run r) ≡ length (names_of_groups front)
    own = ap (λ (gs : List (Group P)). length (names_of_groups gs)) run
