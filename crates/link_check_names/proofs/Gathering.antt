-- The definitions of names, one symbol after another.
use Rattle.std.proofs.Common.{◌≡◌, ◌+◌, ◌++◌, ◌&&◌, ◌∙◌, ℕ, suc, Bool, true, false, List, [], ◌∷◌, Option, Some, None, length, take, slice_get, refl, sym, ap, arith, add-zero, length-take, if◌then◌else◌}
use Rattle.std.specs.Option.{is_some}
use Rattle.std.proofs.lemmas.List.{append-nil}
use Rattle.std.proofs.lemmas.Option.{slice_get_within}
use Rattle.link_rules.specs.Places.{kept_if, places_from, same_version}
use Rattle.link_check_symbols.proofs.Filing.{next-taken}

-- an element, if the test passed, behind a list
pub kept-behind : {X : Type 0} (xs : List X) (x : X) (b : Bool) → (if b then xs ++ x ∷ [] else xs) ≡ xs ++ kept_if b x []
kept-behind xs x true = refl
kept-behind xs x false = sym (append-nil xs)

kept-append : {X : Type 0} (b : Bool) (x : X) (xs ys : List X) → kept_if b x (xs ++ ys) ≡ kept_if b x xs ++ ys
kept-append true x xs ys = refl
kept-append false x xs ys = refl

-- the place of one element more
places-more : {X : Type 0} (p : X → Bool) (n : ℕ) (xs : List X) (x : X) → places_from p n (xs ++ x ∷ []) ≡ places_from p n xs ++ kept_if (p x) (n + length xs) []
places-more p n [] x = ap (λ k. kept_if (p x) k []) (sym (add-zero n))
places-more p n (y ∷ ys) x =
    let at : n + 1 + length ys ≡ n + suc (length ys) = omega arith in
    ap (kept_if (p y) n) (places-more p (n + 1) ys x ∙ ap (λ k. places_from p (n + 1) ys ++ kept_if (p x) k []) at)
    ∙ kept-append (p y) n (places_from p (n + 1) ys) (kept_if (p x) (n + suc (length ys)) [])

-- the places of the first elements, and that of the next one
pub places-grow : {X : Type 0} (p : X → Bool) (xs : List X) (i : ℕ) (x : X) (so_far : List ℕ) → slice_get xs i ≡ Some x → so_far ≡ places_from p 0 (take i xs)
    → so_far ++ kept_if (p x) i [] ≡ places_from p 0 (take (i + 1) xs)
places-grow {X} p xs i x so_far at is =
    let place : 0 + length (take i xs) ≡ i = omega (arith, length-take {A = X}, slice_get_within xs i x at) in
    ap (λ l. l ++ kept_if (p x) i []) is
    ∙ sym (ap (places_from p 0) (next-taken xs i x at) ∙ (places-more p 0 (take i xs) x ∙ ap (λ k. places_from p 0 (take i xs) ++ kept_if (p x) k []) place))

-- ---- the lists of plain names and those of names with versions are apart

and_true : (b : Bool) → (b && true) ≡ b
and_true true = refl
and_true false = refl

and_false : (b : Bool) → (b && false) ≡ false
and_false true = refl
and_false false = refl

-- what stands in the list of a version has one
absent : (named same : Bool) (version : Option (List ℕ)) → ((named && is_some version) && same && same_version version None) ≡ false
absent true same None = refl
absent false same None = refl
absent true same (Some v) = and_false same
absent false same (Some v) = refl

-- the list of a plain name grows where the symbol is listed by its plain name
pub plain-more : (old : List ℕ) (listed named same : Bool) (version : Option (List ℕ)) (id : ℕ)
    → old ++ kept_if (listed && same && true) id [] ++ kept_if ((named && is_some version) && same && same_version version None) id [] ≡ old ++ kept_if (listed && same) id []
plain-more old listed named same version id =
    ap (λ b. old ++ kept_if (listed && same && true) id [] ++ kept_if b id []) (absent named same version)
    ∙ (append-nil (old ++ kept_if (listed && same && true) id []) ∙ ap (λ b. old ++ kept_if b id []) (and_true (listed && same)))

-- the list of a name and version grows where the symbol is listed by these
pub versioned-more : (old : List ℕ) (listed same versioned : Bool) (id : ℕ)
    → old ++ kept_if (listed && same && false) id [] ++ kept_if versioned id [] ≡ old ++ kept_if versioned id []
versioned-more old listed same versioned id =
    ap (λ b. old ++ kept_if b id [] ++ kept_if versioned id []) (and_false (listed && same)) ∙ ap (λ l. l ++ kept_if versioned id []) (append-nil old)
