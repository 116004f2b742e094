-- Lists of rivals by their heads: for each symbol the first of the list in which it stands, if it stands in one.
use Rattle.std.specs.Prelude.{◌≡◌, ℕ, ◌+◌, ◌≤◌, ◌<◌, ◌&&◌, List, [], ◌∷◌, Bool, Option, None, Some, Vec, filter, if◌then◌else◌, length, map, nat_le, nat_lt, option_and_then, slice_get}
use Rattle.std.specs.List.{range_with_len}
use Rattle.std.specs.Option.{option_map_or}
use Rattle.std.specs.declared.alloc.Global.{Global}
use Rattle.link_rules.specs.Places.{is_number}

-- the head of the list in which the symbol of an id stands
abbrev pub head_in : List (Option ℕ) → ℕ → Option ℕ
head_in heads s = option_map_or (λ head. head) (slice_get heads s) None

-- the head, where it doesn't come behind the symbol and heads its own list
abbrev pub head_if : List (Option ℕ) → ℕ → ℕ → Option ℕ
head_if heads s head = if nat_le head s && is_number (head_in heads head) head then Some head else None

-- the head of the symbol, where it is such a one
abbrev pub checked_head : List (Option ℕ) → ℕ → Option ℕ
checked_head heads s = option_and_then (head_if heads s) (head_in heads s)

-- the heads of all symbols, as far as they are such
abbrev pub checked_heads : List (Option ℕ) → List (Option ℕ)
checked_heads heads = map (checked_head heads) (range_with_len 0 (length heads))

-- a symbol comes not before its head, which heads its own list
abbrev pub AreHeads : List (Option ℕ) → Type 0
AreHeads heads = (s head : ℕ) → head_in heads s ≡ Some head → (head ≤ s) × (head_in heads head ≡ Some head)

-- the head, if it stands before the symbol
abbrev pub before : ℕ → Option ℕ → Option ℕ
before s None = None
before s (Some head) = if nat_lt head s then Some head else None

-- the head behind which the symbol stands, if it stands behind one
abbrev pub head_before : List (Option ℕ) → ℕ → Option ℕ
head_before heads s = before s (head_in heads s)

-- the symbol stands behind this head
abbrev pub is_behind : List (Option ℕ) → ℕ → ℕ → Bool
is_behind heads head s = is_number (head_before heads s) head

-- those of the symbols below a number that stand behind the head
abbrev pub behind_below : List (Option ℕ) → ℕ → ℕ → List ℕ
behind_below heads n head = filter (is_behind heads head) (range_with_len 0 n)

-- the head with all that stand behind it
abbrev pub headed : List (Option ℕ) → Option ℕ → List ℕ
headed heads None = []
headed heads (Some head) = head ∷ behind_below heads (length heads) head

-- the list in which the symbol of an id stands
abbrev pub gathered : List (Option ℕ) → ℕ → List ℕ
gathered heads s = headed heads (head_in heads s)

-- the numbers of a row
abbrev pub row_in : List (Vec ℕ Global) → ℕ → List ℕ
row_in rows h = option_map_or (λ row. row.items) (slice_get rows h) []

-- in each row stand the symbols below a number that stand behind its head
abbrev pub AreRows : List (Option ℕ) → ℕ → List (Vec ℕ Global) → Type 0
AreRows heads n rows = (h : ℕ) → h < length heads → row_in rows h ≡ behind_below heads n h

-- numbers from this one on, each below the next
abbrev pub AscendFrom : ℕ → List ℕ → Type 0
AscendFrom n [] = Unit {0}
AscendFrom n (x ∷ xs) = (n ≤ x) × AscendFrom (x + 1) xs
