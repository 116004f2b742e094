-- Files one after another, as their symbols are counted.
use Rattle.std.proofs.Common.{◌≡◌, ◌+◌, ◌++◌, ◌∙◌, ℕ, zero, suc, List, [], ◌∷◌, Some, drop, length, length-append, slice_get, sym, ap, arith}
use Rattle.link_input_groups.proofs.Numbering.{own-symbols}
use Rattle.link_input.specs.InputFiles.{object_count, symbol_count}
use Rattle.link_input.specs.SequencedFiles.{SequencedFile}
use Rattle.link_input.specs.Symbols.{file_symbols, symbols_of}
use Rattle.link_db_symbols.specs.Walk.{SymbolsLeft, own_symbols, without_ids}
use Rattle.link_db_symbols.proofs.OwnSymbols.{own-count}

-- what begins a list that is left stands at the place behind which that is left
pub left-at : {A : Type 0} (xs : List A) (k : ℕ) (x : A) (ys : List A) → drop k xs ≡ x ∷ ys → (slice_get xs k ≡ Some x) × (drop (k + 1) xs ≡ ys)
left-at [] zero x ys is = cc
left-at [] (suc k) x ys is = cc
left-at (z ∷ xs) zero x ys is = (first, rest)
  where
    first : Some z ≡ Some x
    first = cc

    rest : xs ≡ ys
    rest = cc
left-at (z ∷ xs) (suc k) x ys is =
    let next : suc k + 1 ≡ suc (k + 1) = omega arith in
    let rest = left-at xs k x ys is in
    (rest.0, ap (λ n. drop n (z ∷ xs)) next ∙ rest.1)

-- a file more, of those whose symbols are counted
pub objects-counted-on : (items new : List SymbolsLeft) (first next count : ℕ) (files rest : List SequencedFile) (f : SequencedFile) → files ≡ f ∷ rest
    → new ≡ items ++ own_symbols (length items) first f.file → next ≡ first + symbol_count f.file
    → first + length (symbols_of (length items) (without_ids files)) ≡ count → next + length (symbols_of (length new) (without_ids rest)) ≡ count
objects-counted-on items new first next count files rest f is more on before =
    let own = own_symbols (length items) first f.file in
    let many : length new ≡ length items + object_count f.file = ap length more ∙ (length-append items own ∙ ap (λ n. length items + n) (own-count (length items) first f.file)) in
    let all : length (symbols_of (length items) (without_ids files)) ≡ length (file_symbols (length items) f.file) + length (symbols_of (length items + object_count f.file) (without_ids rest)) =
    ap (λ (l : List SequencedFile). length (symbols_of (length items) (without_ids l))) is
    ∙ length-append (file_symbols (length items) f.file) (symbols_of (length items + object_count f.file) (without_ids rest)) in
    let own-many : length (file_symbols (length items) f.file) ≡ symbol_count f.file = sym (own-symbols (length items) f.file) in
    let left : length (symbols_of (length new) (without_ids rest)) ≡ length (symbols_of (length items + object_count f.file) (without_ids rest)) = ap (λ n. length (symbols_of n (without_ids rest))) many in
    omega (arith, all, own-many, left, on, before)
