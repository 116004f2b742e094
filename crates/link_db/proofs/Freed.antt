-- Symbols that are local no more.
use Rattle.std.proofs.Common.{◌≡◌, ◌+◌, ◌-◌, ◌<◌, ◌||◌, ◌==◌, ◌∙◌, ℕ, zero, suc, Bool, true, false, List, [], ◌∷◌, length, map, refl, ap, arith, slice_set, bit_and, if◌then◌else◌}
use Rattle.std.specs.Prelude.{slice_index_or}
use Rattle.std.specs.Int.Bits.{and_self}
use Rattle.std.proofs.lemmas.Nat.{and_assoc}
use Rattle.link_flags.specs.FlagWords.{numbers_of}
use Rattle.link_flags.specs.FlagBits as flag
use Rattle.link_flags.specs.declared.value_flags.RawFlags.{RawFlags}
use Rattle.link_rules.specs.Flags.{all_flags, without_flag}
use Rattle.link_rules.specs.Places.{contains, each_from}
use Rattle.link_rules.specs.Visibility.{closed_if_local, rust_flags}
use Rattle.link_db.specs.RustForm.{freed}

-- no symbol behind the freed one changes
pub freed-behind : (s n : ℕ) (xs : List ℕ) → s < n → each_from (freed (s ∷ [])) n xs ≡ xs
freed-behind s n [] lt = refl
freed-behind s n (x ∷ xs) lt = grind (arith, freed-behind s (n + 1) xs (omega arith))

-- the word of the freed symbol is set, and no other
pub freed-one : (n at : ℕ) (ws : List RawFlags) (w d : RawFlags) → at < length ws → w.0 ≡ without_flag (slice_index_or ws at d).0 flag.downgrade_to_local
    → numbers_of (slice_set ws at w) ≡ each_from (freed ((n + at) ∷ [])) n (numbers_of ws)
freed-one n at [] w d lt is = absurd (omega arith)
freed-one n zero (x ∷ ws) w d lt is = grind (arith, freed-behind n (n + 1) (numbers_of ws) (omega arith))
freed-one n (suc at) (x ∷ ws) w d lt is =
    let same : n + 1 + at ≡ n + suc at = omega arith in
    grind (arith, freed-one (n + 1) at ws w d (omega arith) is)

-- who is freed twice is freed
freed-twice : (f : ℕ) → without_flag (without_flag f flag.downgrade_to_local) flag.downgrade_to_local ≡ without_flag f flag.downgrade_to_local
freed-twice f =
    let kept = all_flags - flag.downgrade_to_local in
    and_assoc kept f kept ∙ ap (bit_and f) (and_self kept)

-- of one symbol: one freed symbol more
freed-step : (a b : Bool) (f : ℕ) → (if b then without_flag (if a || false then without_flag f flag.downgrade_to_local else f) flag.downgrade_to_local else (if a || false then without_flag f flag.downgrade_to_local else f))
    ≡ (if a || b then without_flag f flag.downgrade_to_local else f)
freed-step true true f = freed-twice f
freed-step true false f = refl
freed-step false true f = refl
freed-step false false f = refl

-- one freed symbol more
pub freed-more : (x : ℕ) (xs : List ℕ) (n : ℕ) (ws : List ℕ) → each_from (freed xs) n (each_from (freed (x ∷ [])) n ws) ≡ each_from (freed (x ∷ xs)) n ws
freed-more x xs n [] = refl
freed-more x xs n (w ∷ ws) =
    ap (λ f. f ∷ each_from (freed xs) (n + 1) (each_from (freed (x ∷ [])) (n + 1) ws)) (freed-step (x == n) (contains n xs) w)
    ∙ ap (λ rest. freed (x ∷ xs) n w ∷ rest) (freed-more x xs (n + 1) ws)

-- no freed symbol changes nothing
pub freed-none : (n : ℕ) (ws : List ℕ) → each_from (freed []) n ws ≡ ws
freed-none n [] = refl
freed-none n (w ∷ ws) = ap (λ rest. w ∷ rest) (freed-none (n + 1) ws)

-- as many stay
pub freed-length : (xs : List ℕ) (n : ℕ) (ws : List ℕ) → length (each_from (freed xs) n ws) ≡ length ws
freed-length xs n [] = refl
freed-length xs n (w ∷ ws) = ap suc (freed-length xs (n + 1) ws)

-- what is freed, and then closed where it stays local
pub freed-closed : (xs : List ℕ) (n : ℕ) (ws : List ℕ) → map closed_if_local (each_from (freed xs) n ws) ≡ each_from (rust_flags xs) n ws
freed-closed xs n [] = refl
freed-closed xs n (w ∷ ws) = ap (λ rest. rust_flags xs n w ∷ rest) (freed-closed xs (n + 1) ws)
