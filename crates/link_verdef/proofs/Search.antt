-- A number is found among rising ones.
use Rattle.std.proofs.Common.{◌≡◌, ℕ, ◌<◌, ◌≤◌, List, length, get_or, Result, Ok, Err, arith, ap, ⊎_elim}
use Rattle.std.proofs.lemmas.Bool.{cases_lt, cases_order}
use Rattle.std.proofs.lemmas.List.Kept.{AllPairs-from_increasing}
use Rattle.std.proofs.lemmas.List.Sorted.{searched}
use Rattle.std.specs.List.Sorted.{IsBinarySearchResult, IsStrictlyIncreasing}
use Rattle.std.specs.Ordering.{nat_cmp}

-- each number is below the later ones
rising : (xs : List ℕ) → IsStrictlyIncreasing xs → (i j : ℕ) → i < j → j < length xs → get_or xs i 0 < get_or xs j 0
rising xs up i j below within = AllPairs-from_increasing xs up i j 0 below within

never_falling : (xs : List ℕ) → IsStrictlyIncreasing xs → (i j : ℕ) → i ≤ j → j < length xs → get_or xs i 0 ≤ get_or xs j 0
never_falling xs up i j below within =
    ⊎_elim (λ e. omega (arith, ap (λ k. get_or xs k 0) e))
    (λ o. ⊎_elim (λ lt. omega (arith, rising xs up i j lt within)) (λ gt. omega arith) o) (cases_order i j)

-- where the number stands at k, a binary search finds it there
pub found_number : (xs : List ℕ) (x k : ℕ) (r : Result ℕ ℕ) → IsBinarySearchResult (λ y. nat_cmp y x) xs r → IsStrictlyIncreasing xs → k < length xs
    → get_or xs k 0 ≡ x → r ≡ Ok k
found_number xs x k (Ok i) h up within is =
    let s = searched xs x (Ok i) h (never_falling xs up) in
    ap (λ n. Ok n) (⊎_elim (λ e. e) (λ o. ⊎_elim (λ lt. omega (arith, rising xs up i k lt within, s.1))
    (λ gt. omega (arith, rising xs up k i gt s.0, s.1)) o) (cases_order i k))
found_number xs x k (Err i) h up within is =
    let s = searched xs x (Err i) h (never_falling xs up) in
    absurd (⊎_elim (λ lt. omega (arith, s.1 k lt)) (λ ge. omega (arith, s.2 k ge within)) (cases_lt k i))
