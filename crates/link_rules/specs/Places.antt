-- Lists, and the places of what passes a test.
use Rattle.std.specs.Prelude.{ℕ, ◌+◌, ◌==◌, List, [], ◌∷◌, ◌++◌, Bool, true, false, not, Option, Some, None, if◌then◌else◌, option_map, option_to_list, find}
use Rattle.std.specs.List.{list_any}
use Rattle.std.specs.Str.{bytes_eq}

-- a text as bytes
abbrev pub Bytes : Type 0
Bytes = List ℕ

-- x in front, if the test passed
abbrev pub kept_if : {X : Type 0} → Bool → X → List X → List X
kept_if true x xs = x ∷ xs
kept_if false x xs = xs

-- the places, counted from a number on, of what passes a test
abbrev pub places_from : {X : Type 0} → (X → Bool) → ℕ → List X → List ℕ
places_from p i [] = []
places_from p i (x ∷ xs) = kept_if (p x) i (places_from p (i + 1) xs)

-- what a function of place and element gives, from the first on
abbrev pub each_from : {X Y : Type 0} → (ℕ → X → Y) → ℕ → List X → List Y
each_from f i [] = []
each_from f i (x ∷ xs) = f i x ∷ each_from f (i + 1) xs

-- the same, where the function gives something
abbrev pub some_from : {X Y : Type 0} → (ℕ → X → Option Y) → ℕ → List X → List Y
some_from f i [] = []
some_from f i (x ∷ xs) = option_to_list (f i x) ++ some_from f (i + 1) xs

-- the first, if there is one
abbrev pub first_of : {X : Type 0} → List X → Option X
first_of [] = None
first_of (x ∷ xs) = Some x

-- the last, if there is one
abbrev pub last_of : {X : Type 0} → List X → Option X
last_of [] = None
last_of (x ∷ []) = Some x
last_of (x ∷ y ∷ ys) = last_of (y ∷ ys)

-- it is this number
abbrev pub is_number : Option ℕ → ℕ → Bool
is_number None s = false
is_number (Some t) s = t == s

-- what stands behind the first, where that is s
abbrev pub behind_head : ℕ → List ℕ → List ℕ
behind_head s [] = []
behind_head s (x ∷ xs) = if x == s then xs else []

-- two or more
abbrev pub are_several : {X : Type 0} → List X → Bool
are_several [] = false
are_several (x ∷ []) = false
are_several (x ∷ y ∷ ys) = true

-- the first, with the next that is not the same number
abbrev pub first_two : List ℕ → Option (ℕ × ℕ)
first_two [] = None
first_two (x ∷ xs) = option_map (λ y. (x, y)) (find (λ y. not (y == x)) xs)

-- there is none
abbrev pub is_empty : {X : Type 0} → List X → Bool
is_empty [] = true
is_empty (x ∷ xs) = false

-- the number is one of these
abbrev pub contains : ℕ → List ℕ → Bool
contains n xs = list_any (λ x. x == n) xs

-- the same number, or both are missing
abbrev pub same_number : Option ℕ → Option ℕ → Bool
same_number None None = true
same_number None (Some t) = false
same_number (Some s) None = false
same_number (Some s) (Some t) = s == t

-- the same version, or both are missing
abbrev pub same_version : Option Bytes → Option Bytes → Bool
same_version None None = true
same_version None (Some w) = false
same_version (Some v) None = false
same_version (Some v) (Some w) = bytes_eq v w
