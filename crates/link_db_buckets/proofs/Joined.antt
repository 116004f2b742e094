-- Definitions that come in parts.
use Rattle.std.proofs.Common.{◌≡◌, ◌∙◌, ◌+◌, ◌<◌, ◌++◌, ℕ, suc, List, [], ◌∷◌, length, Option, Some, sym, ap, subst, arith, drop, take, get_or}
use Rattle.std.specs.Borrow.{Bor}
use Rattle.std.specs.Prelude.{All}
use Rattle.std.proofs.lemmas.Grind.{flat_map-append}
use Rattle.std.proofs.lemmas.List.{append-nil, take-append-drop, take_more}
use Rattle.std.proofs.lemmas.List.Elements.{All-cons, All-nil}
use Rattle.link_db_buckets.specs.declared.definition.Definition.{Definition}
use Rattle.link_db_buckets.specs.declared.label.Label.{Label}
use Rattle.link_db_buckets.specs.Buckets.{AreHashed}
use Rattle.link_db_buckets.specs.Keys.{Key, number_of}
use Rattle.link_db_buckets.specs.Runs.{joined}

-- one part more
pub joined_more : (parts : List (Bor (List Definition))) (i : ℕ) (z : Bor (List Definition)) → i < length parts → joined (take (i + 1) parts) ≡ joined (take i parts) ++ (get_or parts i z).now
joined_more parts i z lt =
    let f : Bor (List Definition) → List Definition = λ p. p.now in
    ap joined (take_more parts i z lt) ∙ flat_map-append f (take i parts) (get_or parts i z ∷ []) ∙ ap (λ (l : List Definition). joined (take i parts) ++ l) (append-nil (get_or parts i z).now)

-- what holds of all holds of those in front, and of those behind
all_left : {X : Type 0} (P : X → Type 0) (xs ys : List X) → All P (xs ++ ys) → All P xs
all_left P [] ys all = All-nil P
all_left P (x ∷ xs) ys all = let lt : 0 < length (x ∷ xs ++ ys) = omega arith in All-cons P x xs (all 0 x lt) (all_left P xs ys (λ k d less. all (suc k) d (omega arith)))

all_right : {X : Type 0} (P : X → Type 0) (xs ys : List X) → All P (xs ++ ys) → All P ys
all_right P [] ys all = all
all_right P (x ∷ xs) ys all = all_right P xs ys (λ k d less. all (suc k) d (omega arith))

-- the definitions of the first parts have their hash numbers
pub first_hashed : (names : Label → Option Key) (parts : List (Bor (List Definition))) (i : ℕ) → AreHashed names (joined parts) → AreHashed names (joined (take i parts))
first_hashed names parts i hashed =
    let f : Bor (List Definition) → List Definition = λ p. p.now in
    let whole : joined parts ≡ joined (take i parts) ++ joined (drop i parts) = ap joined (sym (take-append-drop i parts)) ∙ flat_map-append f (take i parts) (drop i parts) in
    all_left (λ (d : Definition). number_of names d.label ≡ Some d.hash) (joined (take i parts)) (joined (drop i parts)) (subst (λ (l : List Definition). AreHashed names l) whole hashed)

-- those of a part have theirs
pub part_hashed : (names : Label → Option Key) (parts : List (Bor (List Definition))) (i : ℕ) (z : Bor (List Definition)) → AreHashed names (joined parts) → i < length parts → AreHashed names (get_or parts i z).now
part_hashed names parts i z hashed lt =
    all_right (λ (d : Definition). number_of names d.label ≡ Some d.hash) (joined (take i parts)) (get_or parts i z).now (subst (λ (l : List Definition). AreHashed names l) (joined_more parts i z lt) (first_hashed names parts (i + 1) hashed))
