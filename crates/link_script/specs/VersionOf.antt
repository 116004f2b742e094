-- The version of a symbol.
use Rattle.std.specs.Prelude.{◌≡◌, ℕ, zero, suc, ◌<◌, ◌==◌, Bool, true, false, if◌then◌else◌, List, [], ◌∷◌, map, length, slice_get, Option, Some, None, Result, Ok, Err}
use Rattle.std.specs.Str.{bytes_eq}
use Rattle.link_script_syntax.specs.declared.body.Side.{Side}
use Rattle.link_script_syntax.specs.declared.body.Side.TheVariants.{Global, Local}
use Rattle.link_script.specs.declared.rules.Version.{Version}
use Rattle.link_script.specs.declared.symbol_version.UndefinedVersion.{UndefinedVersion}
use Rattle.link_script.specs.Filter.{Filter}
use Rattle.link_script.specs.Lookup.{Asked}
use Rattle.link_script.specs.Rules.{best_match}
use Rattle.link_script.specs.Rank.{IsBest}

-- a name that asks for a version that is not declared
pub record Undeclared : Type 0 where
  pub name : List ℕ
  pub version : List ℕ

-- what a look-up answered, without where the refusal's names lie in memory
abbrev pub answered : Result (Option ℕ) UndefinedVersion → Result (Option ℕ) Undeclared
answered (Ok v) = Ok v
answered (Err e) = Err (record { name = e.name.now; version = e.version.now })

abbrev pub version_names : List Version → List (List ℕ)
version_names versions = map (λ (v : Version). v.name) versions

-- the version of what is global without a version's name (`VER_NDX_GLOBAL` of the LSB)
abbrev pub ver_ndx_global : ℕ
ver_ndx_global = 1

-- the version of a match: 1 more than its number, and none for number 0
abbrev pub matched : Option (ℕ × Side) → Option ℕ
matched None = None
matched (Some x) = if x.0 == 0 then None else Some (suc x.0)

-- whether a match stands in a local section
abbrev pub is_local_match : Option (ℕ × Side) → Bool
is_local_match None = false
is_local_match (Some (n, Global)) = false
is_local_match (Some (n, Local)) = true

-- the last of the names that is this one has number n
abbrev pub IsLastNamed : List (List ℕ) → List ℕ → ℕ → Type 0
IsLastNamed names name n = (slice_get names n ≡ Some name) × ((j : ℕ) → n < j → slice_get names j ≡ Some name → ⊥)

abbrev pub IsUndeclared : List (List ℕ) → List ℕ → Type 0
IsUndeclared names name = (j : ℕ) → slice_get names j ≡ Some name → ⊥

-- An explicit version is 1 where it is empty, and otherwise 1 more than its number, which must be declared. Without
-- one the version is that of the name's rank.
abbrev pub IsVersionOf : (ℕ → Side → Bool → Filter → Type 0) → List (List ℕ) → Asked → Option (List ℕ) → Result (Option ℕ) Undeclared → Type 0
IsVersionOf has names a None (Ok v) = (r : Option (ℕ × Side)) × IsBest has a r × (v ≡ matched r)
IsVersionOf has names a None (Err e) = ⊥
IsVersionOf has names a (Some []) (Ok v) = v ≡ Some ver_ndx_global
IsVersionOf has names a (Some []) (Err e) = ⊥
IsVersionOf has names a (Some (c ∷ version)) (Ok v) = (n : ℕ) × IsLastNamed names (c ∷ version) n × (v ≡ Some (suc n))
IsVersionOf has names a (Some (c ∷ version)) (Err e) = IsUndeclared names (c ∷ version) × (e ≡ record { name = a.bytes; version = c ∷ version })

abbrev pub is_named : Option Version → List ℕ → Bool
is_named None name = false
is_named (Some v) name = bytes_eq v.name name

-- the last of the versions below n that has this name
abbrev pub last_named : List Version → List ℕ → ℕ → Option ℕ
last_named versions name zero = None
last_named versions name (suc n) = if is_named (slice_get versions n) name then Some n else last_named versions name n

abbrev pub declared_as : Undeclared → Option ℕ → Result (Option ℕ) Undeclared
declared_as e None = Err e
declared_as e (Some n) = Ok (Some (suc n))

-- the version that there is, as a function
abbrev pub version_of : List Version → Asked → Option (List ℕ) → Result (Option ℕ) Undeclared
version_of versions a None = Ok (matched (best_match versions a))
version_of versions a (Some version) =
    if length version == 0 then Ok (Some ver_ndx_global) else declared_as (record { name = a.bytes; version = version }) (last_named versions version (length versions))

-- whether the strongest match of a name is local, as a function
abbrev pub is_local_in : List Version → Asked → Bool
is_local_in versions a = is_local_match (best_match versions a)
