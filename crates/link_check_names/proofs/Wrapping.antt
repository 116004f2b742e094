-- What names are mapped to where some are wrapped.
use Rattle.std.proofs.Common.{◌≡◌, ◌+◌, ◌∙◌, ℕ, Bool, true, false, cond, List, [], ◌∷◌, Option, Some, None, map, take, slice_get, refl, sym, ap}
use Rattle.std.specs.Prelude.{fold}
use Rattle.std.specs.Option.{option_or}
use Rattle.std.specs.Str.{bytes_eq}
use Rattle.std.proofs.lemmas.List.{map-append}
use Rattle.std.proofs.lemmas.List.Sums.{fold-append}
use Rattle.link_input.specs.Symbols.{Symbol}
use Rattle.link_names.specs.Names.{Noted, value_in}
use Rattle.link_rules.specs.Names.{Mapping, definitions_of, mapping_with, unwrapped, wrapped}
use Rattle.link_rules.specs.Places.{first_of}
use Rattle.link_check_symbols.proofs.Filing.{next-taken}
use Rattle.link_check_names.specs.Lists.{Listed, list_in}
use Rattle.link_check_names.specs.Named.{mapped_by}

-- two mappings are one where they map each name alike
pub same-mapping : (f g : Mapping) → ((name : List ℕ) → f name ≡ g name) → f ≡ g
same-mapping f g same = λ i. λ name. same name i

-- the first of a list stands at place 0
pub first-at : (xs : List ℕ) → slice_get xs 0 ≡ first_of xs
first-at [] = refl
first-at (x ∷ xs) = refl

-- what is noted of a name is what it is mapped to
pub noted-maps : (lists : Listed) (old new : Noted ℕ) (name : List ℕ) (id : Option ℕ) → ((asked : List ℕ) → value_in new asked ≡ mapping_with name id (value_in old) asked)
    → (asked : List ℕ) → mapped_by lists new asked ≡ mapping_with name id (mapped_by lists old) asked
noted-maps lists old new name None noted asked = ap (λ o. option_or o (first_of (list_in lists asked None))) (noted asked)
noted-maps lists old new name (Some s) noted asked =
    ap (λ o. option_or o (first_of (list_in lists asked None))) (noted asked) ∙ by (bytes_eq asked name)
  where
    by : (b : Bool) → option_or (cond b (Some s) (value_in old asked)) (first_of (list_in lists asked None)) ≡ cond b (Some s) (mapped_by lists old asked)
    by true = refl
    by false = refl

-- one name more is wrapped
pub wraps-next : {W : Type 0} (name_of : W → List ℕ) (wraps : List W) (i : ℕ) (w : W) (first old new : Mapping) → slice_get wraps i ≡ Some w
    → ((asked : List ℕ) → old asked ≡ fold wrapped first (map name_of (take i wraps)) asked) → ((asked : List ℕ) → new asked ≡ wrapped old (name_of w) asked)
    → (asked : List ℕ) → new asked ≡ fold wrapped first (map name_of (take (i + 1) wraps)) asked
wraps-next name_of wraps i w first old new at so_far more asked =
    more asked
    ∙ (ap (λ f. wrapped f (name_of w) asked) (same-mapping old (fold wrapped first (map name_of (take i wraps))) so_far)
    ∙ sym (ap (λ l. fold wrapped first (map name_of l) asked) (next-taken wraps i w at)
    ∙ (ap (λ l. fold wrapped first l asked) (map-append name_of (take i wraps) (w ∷ []))
    ∙ ap (λ f. f asked) (fold-append wrapped first (map name_of (take i wraps)) (name_of w ∷ [])))))

-- before any wrap each name is mapped to its first definition
pub unwrapped-is : (lists : Listed) (symbols : List Symbol) (wraps : List (List ℕ)) → ((name : List ℕ) → list_in lists name None ≡ definitions_of symbols name)
    → (name : List ℕ) → fold wrapped (mapped_by lists []) wraps name ≡ fold wrapped (unwrapped symbols) wraps name
unwrapped-is lists symbols wraps plain name =
    ap (λ f. fold wrapped f wraps name) (same-mapping (mapped_by lists []) (unwrapped symbols) (λ n. ap first_of (plain n)))
