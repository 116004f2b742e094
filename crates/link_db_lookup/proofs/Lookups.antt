-- What names are mapped to, and the pick among definitions.
use Rattle.std.proofs.Common.{◌≡◌, ◌<◌, ℕ, Bool, true, false, List, [], ◌∷◌, map, Option, Some, None, refl, All}
use Rattle.std.specs.Prelude.{IfSome, filter, filter_map, find, not, option_map, if◌then◌else◌}
use Rattle.std.specs.Option.{option_or}
use Rattle.link_flags.specs.declared.strength.SymbolStrength.TheVariants.{Undefined, Weak, GnuUnique, Strong, Common}
use Rattle.link_flags.specs.Pick.{Candidate, common_of, first_strong, first_weak, is_largest, is_strong, is_weak, largest_common, pick}
use Rattle.link_rules.specs.Places.{Bytes}
use Rattle.link_rules.specs.Targets.{mapped_in}
use Rattle.link_db_mapping.specs.Mapped.{Mapped, mapped_key}
use Rattle.std.proofs.lemmas.List.Elements.{All-head, All-tail}
use Rattle.link_db_files.specs.HeldFiles.{HeldFiles, is_shared_in, strength_of}
use Rattle.link_db_lookup.specs.Tables.{name_table_in}
use Rattle.link_db_lookup.specs.Unshared.{unshared}

-- what a key is mapped to, as the table of names says it
pub mapped_by_key : {P : Type 0} (m : Mapped P) (name : Bytes) (version : Option Bytes)
    → mapped_key m (record { name = name; version = version }) ≡ mapped_in (name_table_in m) name version
mapped_by_key m name None = refl
mapped_by_key m name (Some v) = refl

-- each candidate is a symbol below a count
abbrev pub Below : ℕ → List Candidate → Type 0
Below n [] = Unit {0}
Below n (c ∷ cs) = (c.0 < n) × Below n cs

-- a candidate that is found is one of them
found-below : (n : ℕ) (p : Candidate → Bool) (cs : List Candidate) → Below n cs → IfSome (option_map (λ c. c.0) (find p cs)) (λ id. id < n)
found-below n p [] all = tt
found-below n p (c ∷ cs) all = step (found-below n p cs all.1) (p c)
  where
    step : IfSome (option_map (λ x. x.0) (find p cs)) (λ id. id < n) → (b : Bool) → IfSome (option_map (λ x. x.0) (if b then Some c else find p cs)) (λ id. id < n)
    step rest true = all.0
    step rest false = rest

-- tentative ones are below the count as all are
commons-below : (n : ℕ) (p : ℕ × ℕ → Bool) (cs : List Candidate) → Below n cs → IfSome (option_map (λ c. c.0) (find p (filter_map common_of cs))) (λ id. id < n)
commons-below n p [] all = tt
commons-below n p ((id, Undefined) ∷ cs) all = commons-below n p cs all.1
commons-below n p ((id, Weak) ∷ cs) all = commons-below n p cs all.1
commons-below n p ((id, GnuUnique) ∷ cs) all = commons-below n p cs all.1
commons-below n p ((id, Strong) ∷ cs) all = commons-below n p cs all.1
commons-below n p ((id, Common size) ∷ cs) all = step (commons-below n p cs all.1) (p (id, size))
  where
    step : IfSome (option_map (λ x. x.0) (find p (filter_map common_of cs))) (λ i. i < n)
        → (b : Bool) → IfSome (option_map (λ x. x.0) (if b then Some (id, size) else find p (filter_map common_of cs))) (λ i. i < n)
    step rest true = all.0
    step rest false = rest

-- one of two, if there is one
either-below : (n : ℕ) (a b : Option ℕ) → IfSome a (λ id. id < n) → IfSome b (λ id. id < n) → IfSome (option_or a b) (λ id. id < n)
either-below n None b first second = second
either-below n (Some x) b first second = first

-- the pick is one of the candidates
pub pick-below : (n : ℕ) (weak : Bool) (cs : List Candidate) → Below n cs → IfSome (pick weak cs) (λ id. id < n)
pick-below n weak cs all =
    either-below n (first_strong cs) (if weak then option_or (first_weak cs) (largest_common cs) else option_or (largest_common cs) (first_weak cs))
    (found-below n (λ c. is_strong c.1) cs all)
    (others (found-below n (λ c. is_weak c.1) cs all) (commons-below n (is_largest (filter_map common_of cs)) cs all) weak)
  where
    others : IfSome (first_weak cs) (λ id. id < n) → IfSome (largest_common cs) (λ id. id < n)
        → (b : Bool) → IfSome (if b then option_or (first_weak cs) (largest_common cs) else option_or (largest_common cs) (first_weak cs)) (λ id. id < n)
    others by_weak by_common true = either-below n (first_weak cs) (largest_common cs) by_weak by_common
    others by_weak by_common false = either-below n (largest_common cs) (first_weak cs) by_common by_weak

-- of symbols below a count those that are not shared are below it
pub unshared-below : {P : Type 0} (held : HeldFiles P) (n : ℕ) (xs : List ℕ) → All (λ id. id < n) xs → Below n (unshared held xs)
unshared-below held n [] all = tt
unshared-below held n (x ∷ xs) all = step (unshared-below held n xs (All-tail (λ id. id < n) x xs all)) (is_shared_in held x)
  where
    step : Below n (unshared held xs)
        → (b : Bool) → Below n (map (λ s. (s, strength_of held s)) (if not b then x ∷ filter (λ s. not (is_shared_in held s)) xs else filter (λ s. not (is_shared_in held s)) xs))
    step rest true = rest
    step rest false = (All-head (λ id. id < n) x xs all, rest)
