-- Numbers in a row.
use Rattle.std.proofs.Common.{rules, ◌≡◌, ◌+◌, ◌-◌, ◌<◌, ◌≤◌, ◌++◌, ◌∙◌, sym, length, ℕ, zero, suc, List, [], ◌∷◌, All, ap, arith}
use Rattle.std.proofs.lemmas.List.Elements.{All-append, All-cons, All-head, All-tail}
use Rattle.std.specs.List.{range_with_len}

-- the numbers below an end begin with the first
pub range_next : (a end : ℕ) → a < end → range_with_len a (end - a) ≡ a ∷ range_with_len (a + 1) (end - (a + 1))
range_next a end lt =
    let count : end - a ≡ suc (end - (a + 1)) = omega arith in
    ap (range_with_len a) count

-- none is below nothing
none-below : (m : ℕ) → All (λ e. e < m) []
none-below m = search rules

-- what is below a count is below a larger one
below-more : (n m : ℕ) (xs : List ℕ) → n ≤ m → All (λ e. e < n) xs → All (λ e. e < m) xs
below-more n m [] le all = none-below m
below-more n m (x ∷ xs) le all =
    let head : x < n = All-head (λ (e : ℕ). e < n) x xs all in
    All-cons (λ (e : ℕ). e < m) x xs (omega (arith, head, le)) (below-more n m xs le (All-tail (λ (e : ℕ). e < n) x xs all))

-- numbers in a row are below their end
row-below : (a n m : ℕ) → a + n ≤ m → All (λ e. e < m) (range_with_len a n)
row-below a zero m le = none-below m
row-below a (suc n) m le = All-cons (λ (e : ℕ). e < m) a (range_with_len (a + 1) n) (omega (arith, le)) (row-below (a + 1) n m (omega (arith, le)))

-- entries below a count, and numbers from there on, are below the new count
pub grown-within : (n more : ℕ) (xs : List ℕ) → All (λ e. e < n) xs → All (λ e. e < n + more) (xs ++ range_with_len n more)
grown-within n more xs all =
    All-append (λ (e : ℕ). e < n + more) xs (range_with_len n more) (below-more n (n + more) xs (omega arith) all) (row-below n more (n + more) (omega arith))

-- a table behind which the entries of new symbols stand
pub table-grown : (table entries grown : List ℕ) (held more n m : ℕ) → grown ≡ table ++ entries → entries ≡ range_with_len held (held + more - held) → held ≡ n → more ≡ m
    → grown ≡ table ++ range_with_len n m
table-grown table entries grown held more n m joined row same_held same_more =
    let count : held + more - held ≡ m = omega (arith, same_more) in
    joined ∙ ap (λ (l : List ℕ). table ++ l) (row ∙ ap (range_with_len held) count ∙ ap (λ (k : ℕ). range_with_len k m) same_held)

-- the same, as it is counted
pub table-counted : (table : List ℕ) (n m all : ℕ) → length table ≡ n → all ≡ n + m → table ++ range_with_len n m ≡ table ++ range_with_len (length table) (all - length table)
table-counted table n m all whole total =
    let count : m ≡ all - length table = omega (arith, whole, total) in
    ap (λ (l : List ℕ). table ++ l) (ap (λ (k : ℕ). range_with_len k m) (sym whole) ∙ ap (range_with_len (length table)) count)
