-- What stands at a place of a list that is made of another.
use Rattle.std.proofs.Common.{◌≡◌, ℕ, zero, suc, List, [], ◌∷◌, map, Option, None, Some, ◌<◌, length, slice_get, refl, sym, ap, ◌-◌, arith}
use Rattle.std.specs.Prelude.{option_map}
use Rattle.std.specs.Option.{option_and_then}
use Rattle.link_ids.specs.Span.{IsInside, offset_in}
use Rattle.link_flags.specs.declared.strength.SymbolStrength.TheVariants.{Undefined}
use Rattle.link_input.specs.Symbols.{Symbol, binding_strength, in_prelude, in_script, in_stub, strength_at, stub_strength, symbol_of, version_at}
use Rattle.link_input_groups.specs.declared.sequenced_input.SequencedInput.{SequencedInput}
use Rattle.link_input_groups.specs.declared.sequenced_input.SequencedInput.TheVariants as input
use Rattle.link_input_groups.specs.Asked.{AreIdsOf}
use Rattle.link_input_groups.specs.SequencedInputs.{sequenced_file}

pub get-map : {A B C : Type 0} (f : B → C) (g : A → B) (xs : List A) (i : ℕ) → option_map f (slice_get (map g xs) i) ≡ option_map (λ x. f (g x)) (slice_get xs i)
get-map f g [] i = refl
get-map f g (x ∷ xs) zero = refl
get-map f g (x ∷ xs) (suc i) = get-map f g xs i

pub get-none : {A B C : Type 0} (f : B → Option C) (g : A → B) (xs : List A) (i : ℕ) → ((x : A) → f (g x) ≡ None) → option_and_then f (slice_get (map g xs) i) ≡ None
get-none f g [] i none = refl
get-none f g (x ∷ xs) zero none = none x
get-none f g (x ∷ xs) (suc i) none = get-none f g xs i none

pub get-same : {A B C : Type 0} (f : B → C) (g : A → B) (z : C) (xs : List A) (i : ℕ) → ((x : A) → f (g x) ≡ z) → i < length xs → option_map f (slice_get (map g xs) i) ≡ Some z
get-same f g z [] i same inside = absurd (omega arith)
get-same f g z (x ∷ xs) zero same inside = ap (λ y. Some y) (same x)
get-same f g z (x ∷ xs) (suc i) same inside = get-same f g z xs i same (omega arith)

-- a file of symbols that the linker defines itself
abbrev pub IsLinkers : {P : Type 0} → SequencedInput P → Type 0
IsLinkers (input.Prelude prelude) = Unit {0}
IsLinkers (input.Object object) = ⊥
IsLinkers (input.LinkerScript script) = Unit {0}
IsLinkers (input.StubLibrary stub) = ⊥
IsLinkers (input.SyntheticSymbols synthetic) = Unit {0}

-- its symbols count as undefined
pub strength-linkers : {P : Type 0} (f : SequencedInput P) (id : ℕ) → AreIdsOf (sequenced_file f).file (sequenced_file f).symbols.len → IsInside (sequenced_file f).symbols id → IsLinkers f → strength_at (sequenced_file f).file (offset_in (sequenced_file f).symbols id) ≡ Some Undefined
strength-linkers (input.Prelude prelude) id table inside is =
    get-same (λ (x : Symbol). binding_strength x.origin) (λ d. symbol_of d.name (in_prelude d)) Undefined prelude.now (id - 0) (λ d. refl) (omega (arith, table, inside.0, inside.1))
strength-linkers (input.Object object) id table inside is = absurd is
strength-linkers (input.LinkerScript script) id table inside is =
    get-same (λ (x : Symbol). binding_strength x.origin) (λ d. symbol_of d.name (in_script d)) Undefined script.now.parsed.symbol_defs (id - script.now.symbol_id_range.start) (λ d. refl) (omega (arith, table, inside.0, inside.1))
strength-linkers (input.StubLibrary stub) id table inside is = absurd is
strength-linkers (input.SyntheticSymbols synthetic) id table inside is = refl

-- a file that is no object
abbrev pub IsNoObject : {P : Type 0} → SequencedInput P → Type 0
IsNoObject (input.Prelude prelude) = Unit {0}
IsNoObject (input.Object object) = ⊥
IsNoObject (input.LinkerScript script) = Unit {0}
IsNoObject (input.StubLibrary stub) = Unit {0}
IsNoObject (input.SyntheticSymbols synthetic) = Unit {0}

-- its symbols have no version
pub no-version : {P : Type 0} (f : SequencedInput P) (i : ℕ) → IsNoObject f → None ≡ version_at (sequenced_file f).file i
no-version (input.Prelude prelude) i is = sym (get-none (λ (x : Symbol). x.version) (λ d. symbol_of d.name (in_prelude d)) prelude.now i (λ d. refl))
no-version (input.Object object) i is = absurd is
no-version (input.LinkerScript script) i is = sym (get-none (λ (x : Symbol). x.version) (λ d. symbol_of d.name (in_script d)) script.now.parsed.symbol_defs i (λ d. refl))
no-version (input.StubLibrary stub) i is = sym (get-none (λ (x : Symbol). x.version) (λ s. symbol_of s.name (in_stub (stub_strength s))) stub.now.defined_symbols i (λ s. refl))
no-version (input.SyntheticSymbols synthetic) i is = refl
