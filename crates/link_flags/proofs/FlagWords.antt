-- Words for the printing of flags.
use Rattle.std.proofs.Common.{◌≡◌, ◌+◌, ◌<◌, ℕ, Bool, true, false, List, [], ◌∷◌, ◌++◌, length, get_or, take, map, filter, refl, sym, ap, ◌∙◌, codes, arith}
use Rattle.std.proofs.lemmas.List.{take_more, flat_map_more, map-append, append-nil}
use Rattle.std.proofs.lemmas.List.Elements.{filter-append}
use Rattle.std.proofs.lemmas.Grind.{common_steps}
use Rattle.bitflags.specs.declared.Flag.{Flag}
use Rattle.link_flags.specs.declared.value_flags.ValueFlags.{ValueFlags}
use Rattle.link_flags.specs.FlagText.{joined, names_of, piece, row_of, has_row}

-- nothing is in the list
abbrev pub is_none : {A : Type 0} → List A → Bool
is_none [] = true
is_none (x ∷ xs) = false

pub joined_more : (ps : List (List ℕ)) (p : List ℕ) → joined (ps ++ p ∷ []) ≡ joined ps ++ piece (is_none ps) p
joined_more [] p = grind (arith, common_steps)
joined_more (q ∷ ps) p = sym (flat_map_more (λ r. codes " | " ++ r) q ps p)

pub is_none_more : (ps : List (List ℕ)) (p : List ℕ) → is_none (ps ++ p ∷ []) ≡ false
is_none_more [] p = refl
is_none_more (q ∷ ps) p = refl

-- the names of one row more
pub names-append : (n : ℕ) (a b : List (List ℕ × ℕ)) → names_of n (a ++ b) ≡ names_of n a ++ names_of n b
names-append n a b = ap (map (λ r. r.0)) (filter-append (has_row n) a b) ∙ map-append (λ r. r.0) (filter (has_row n) a) (filter (has_row n) b)

pub names_more : (n : ℕ) (rows : List (Flag ValueFlags)) (i : ℕ) (d : Flag ValueFlags) → i < length rows → names_of n (map row_of (take (i + 1) rows)) ≡ names_of n (map row_of (take i rows)) ++ names_of n (row_of (get_or rows i d) ∷ [])
names_more n rows i d h = rw (take_more rows i d h, map-append) (names-append n (map row_of (take i rows)) (row_of (get_or rows i d) ∷ []))

-- a row that the set has is one name more
pub names_hit : (n : ℕ) (rows : List (Flag ValueFlags)) (i : ℕ) (d : Flag ValueFlags) → i < length rows → has_row n (row_of (get_or rows i d)) ≡ true → names_of n (map row_of (take (i + 1) rows)) ≡ names_of n (map row_of (take i rows)) ++ (get_or rows i d).name.now ∷ []
names_hit n rows i d h has =
    let one : names_of n (row_of (get_or rows i d) ∷ []) ≡ (get_or rows i d).name.now ∷ [] = rw has refl in
    names_more n rows i d h ∙ ap (λ p. names_of n (map row_of (take i rows)) ++ p) one

-- another row is none
pub names_miss : (n : ℕ) (rows : List (Flag ValueFlags)) (i : ℕ) (d : Flag ValueFlags) → i < length rows → has_row n (row_of (get_or rows i d)) ≡ false → names_of n (map row_of (take (i + 1) rows)) ≡ names_of n (map row_of (take i rows))
names_miss n rows i d h has =
    let none : names_of n (row_of (get_or rows i d) ∷ []) ≡ [] = rw has refl in
    names_more n rows i d h ∙ ap (λ p. names_of n (map row_of (take i rows)) ++ p) none ∙ append-nil _
