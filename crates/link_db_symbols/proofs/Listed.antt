-- What stands in lists that are made place by place.
use Rattle.std.proofs.Common.{◌≡◌, ℕ, suc, ◌+◌, ◌∙◌, ◌++◌, List, [], ◌∷◌, length, refl, ap, arith}
use Rattle.link_rules.specs.Places.{each_from}

-- two lists place by place
pub each-append : {X Y : Type 0} (f : ℕ → X → Y) (i : ℕ) (xs ys : List X) → each_from f i (xs ++ ys) ≡ each_from f i xs ++ each_from f (i + length xs) ys
each-append f i [] ys = let same : i ≡ i + 0 = omega arith in ap (λ n. each_from f n ys) same
each-append f i (x ∷ xs) ys =
    let next : i + 1 + length xs ≡ i + suc (length xs) = omega arith in
    ap (λ l. f i x ∷ l) (each-append f (i + 1) xs ys ∙ ap (λ n. each_from f (i + 1) xs ++ each_from f n ys) next)

-- there are as many
pub each-length : {X Y : Type 0} (f : ℕ → X → Y) (i : ℕ) (xs : List X) → length (each_from f i xs) ≡ length xs
each-length f i [] = refl
each-length f i (x ∷ xs) = ap suc (each-length f (i + 1) xs)
