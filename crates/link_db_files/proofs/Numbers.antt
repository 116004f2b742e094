-- What files say of their symbols.
use Rattle.std.proofs.Common.{◌≡◌, ◌+◌, ◌-◌, ◌<◌, ◌≤◌, ◌++◌, ◌∙◌, ℕ, zero, suc, List, [], ◌∷◌, length, map, get_or, Option, Some, None, refl, sym, ap, subst, arith, length-append}
use Rattle.std.specs.Prelude.{slice_get, option_map, true, false}
use Rattle.std.specs.Option.{option_map_or}
use Rattle.std.proofs.lemmas.List.{length-map}
use Rattle.std.proofs.lemmas.Option.{same_Some, slice_get-map, slice_get_read}
use Rattle.link_flags.specs.declared.strength.SymbolStrength.{SymbolStrength}
use Rattle.link_flags.specs.declared.strength.SymbolStrength.TheVariants.{Undefined}
use Rattle.link_input.specs.InputFiles.{InputFile, prelude, object, linker_script, stub_library, synthetic, is_shared_file, symbol_count}
use Rattle.link_input.specs.ObjectFile.{ObjectFile}
use Rattle.link_input.specs.declared.symbol_entry.SymbolEntry.{SymbolEntry}
use Rattle.link_input.specs.declared.internal_symbols.InternalSymDefInfo.{InternalSymDefInfo}
use Rattle.link_input.specs.declared.world.StubSymbol.{StubSymbol}
use Rattle.link_input.specs.Symbols.{Symbol, binding_strength, file_symbols, in_prelude, in_script, in_stub, is_shared, object_symbol, strength_at, stub_strength, symbol_at, symbol_of}
use Rattle.link_input_groups.specs.Asked.{AreIdsOf}
use Rattle.link_input_groups.proofs.Numbering.{own-symbols}
use Rattle.link_db_files.proofs.Places.{get-left, get-right}

-- a place within a list holds an element
pub held-at : {A B : Type 0} (xs : List A) (i : ℕ) → i < length xs → ((x : A) → slice_get xs i ≡ Some x → B) → B
held-at [] i lt then = absurd (omega arith)
held-at (x ∷ xs) zero lt then = then x refl
held-at (x ∷ xs) (suc i) lt then = held-at xs i (omega arith) then

-- the place of an object doesn't count for what is asked of its symbols
pub same-asked : {X : Type 0} (ask : Option Symbol → X) → ((m : ℕ) (o : ObjectFile) (e : SymbolEntry) → ask (Some (object_symbol m o e)) ≡ ask (Some (object_symbol 0 o e)))
    → (m : ℕ) (f : InputFile) (j : ℕ) → ask (slice_get (file_symbols m f) j) ≡ ask (symbol_at f j)
same-asked ask same m (prelude symbols) j = refl
same-asked ask same m (object o) j = same-entries o.object.symbols j
  where
    same-entries : (es : List SymbolEntry) (i : ℕ) → ask (slice_get (map (object_symbol m o) es) i) ≡ ask (slice_get (map (object_symbol 0 o) es) i)
    same-entries [] i = refl
    same-entries (e ∷ es) zero = same m o e
    same-entries (e ∷ es) (suc i) = same-entries es i
same-asked ask same m (linker_script s) j = refl
same-asked ask same m (stub_library input symbols) j = refl
same-asked ask same m synthetic j = refl

-- an element of a mapped list is mapped from some element
pub mapped-element : {A B : Type 0} (f : A → B) (Q : B → Type 0) → ((a : A) → Q (f a)) → (xs : List A) (j : ℕ) (x : B) → slice_get (map f xs) j ≡ Some x → Q x
mapped-element f Q q [] j x is = cc
mapped-element f Q q (a ∷ xs) zero x is = subst Q (same_Some (f a) x is) (q a)
mapped-element f Q q (a ∷ xs) (suc j) x is = mapped-element f Q q xs j x is

-- a file is shared as its symbols are
shared-file : (m : ℕ) (f : InputFile) (j : ℕ) (x : Symbol) → slice_get (file_symbols m f) j ≡ Some x → is_shared x.origin ≡ is_shared_file f
shared-file m (prelude symbols) j x is = mapped-element (λ (d : InternalSymDefInfo). symbol_of d.name (in_prelude d)) (λ (y : Symbol). is_shared y.origin ≡ false) (λ d. refl) symbols j x is
shared-file m (object o) j x is = mapped-element (object_symbol m o) (λ (y : Symbol). is_shared y.origin ≡ o.object.is_dynamic) (λ e. refl) o.object.symbols j x is
shared-file m (linker_script s) j x is = mapped-element (λ (d : InternalSymDefInfo). symbol_of d.name (in_script d)) (λ (y : Symbol). is_shared y.origin ≡ false) (λ d. refl) s.symbol_defs j x is
shared-file m (stub_library input symbols) j x is = mapped-element (λ (s : StubSymbol). symbol_of s.name (in_stub (stub_strength s))) (λ (y : Symbol). is_shared y.origin ≡ true) (λ d. refl) symbols j x is
shared-file m synthetic j x is = cc

-- where a file's ids are those of its symbols, each has a symbol
there : {B : Type 0} (m : ℕ) (f : InputFile) (len j : ℕ) → len ≡ symbol_count f → j < len → ((x : Symbol) → slice_get (file_symbols m f) j ≡ Some x → B) → B
there m f len j whole lt then = held-at (file_symbols m f) j (omega (arith, own-symbols m f, whole, lt)) then

-- what a file says of whether the symbol of an id is shared
pub shared-asked : (m : ℕ) (f : InputFile) (len j : ℕ) → AreIdsOf f len → j < len → is_shared_file f ≡ option_map_or (λ (x : Symbol). is_shared x.origin) (slice_get (file_symbols m f) j) false
shared-asked m (prelude symbols) len j ids lt = there m (prelude symbols) len j ids lt (λ x found. sym (ap (λ (o : Option Symbol). option_map_or (λ (x : Symbol). is_shared x.origin) o false) found ∙ shared-file m (prelude symbols) j x found))
shared-asked m (object o) len j ids lt = there m (object o) len j ids lt (λ x found. sym (ap (λ (o : Option Symbol). option_map_or (λ (x : Symbol). is_shared x.origin) o false) found ∙ shared-file m (object o) j x found))
shared-asked m (linker_script s) len j ids lt = there m (linker_script s) len j ids lt (λ x found. sym (ap (λ (o : Option Symbol). option_map_or (λ (x : Symbol). is_shared x.origin) o false) found ∙ shared-file m (linker_script s) j x found))
shared-asked m (stub_library input symbols) len j ids lt = there m (stub_library input symbols) len j ids lt (λ x found. sym (ap (λ (o : Option Symbol). option_map_or (λ (x : Symbol). is_shared x.origin) o false) found ∙ shared-file m (stub_library input symbols) j x found))
shared-asked m synthetic len j ids lt = refl

-- what is there is mapped
mapped-there : {A B : Type 0} (f : A → B) (o : Option A) (d y : B) → option_map f o ≡ Some y → y ≡ option_map_or f o d
mapped-there f None d y is = cc
mapped-there f (Some x) d y is = sym (same_Some (f x) y is)

-- what a file says of how strongly a symbol binds
pub strength-asked : (f : InputFile) (j : ℕ) (s : SymbolStrength) → strength_at f j ≡ Some s → s ≡ option_map_or (λ (x : Symbol). binding_strength x.origin) (symbol_at f j) Undefined
strength-asked (prelude symbols) j s is = mapped-there (λ (x : Symbol). binding_strength x.origin) (symbol_at (prelude symbols) j) Undefined s is
strength-asked (object o) j s is = mapped-there (λ (x : Symbol). binding_strength x.origin) (symbol_at (object o) j) Undefined s is
strength-asked (linker_script d) j s is = mapped-there (λ (x : Symbol). binding_strength x.origin) (symbol_at (linker_script d) j) Undefined s is
strength-asked (stub_library input symbols) j s is = mapped-there (λ (x : Symbol). binding_strength x.origin) (symbol_at (stub_library input symbols) j) Undefined s is
strength-asked synthetic j s is = sym (same_Some Undefined s is)

-- a file that has a symbol in a table has an id for each
pub ids-for-all : (m : ℕ) (f : InputFile) (len j : ℕ) (x : Symbol) → AreIdsOf f len → slice_get (file_symbols m f) j ≡ Some x → len ≡ symbol_count f
ids-for-all m (prelude symbols) len j x ids found = ids
ids-for-all m (object o) len j x ids found = ids
ids-for-all m (linker_script s) len j x ids found = ids
ids-for-all m (stub_library input symbols) len j x ids found = ids
ids-for-all m synthetic len j x ids found = cc

-- a name of the first of two lists of names
pub name-left : (symbols : List Symbol) (added : List (List ℕ)) (id : ℕ) (name : List ℕ) → option_map (λ (x : Symbol). x.name) (slice_get symbols id) ≡ Some name → slice_get (map (λ (x : Symbol). x.name) symbols ++ added) id ≡ Some name
name-left symbols added id name is =
    get-left (map (λ (x : Symbol). x.name) symbols) added id name (slice_get-map (λ (x : Symbol). x.name) symbols id ∙ is)

-- a name of the second
pub name-right : (symbols : List Symbol) (added : List (List ℕ)) (id first : ℕ) (name : List ℕ) → first ≡ length symbols → first ≤ id → id < length (map (λ (x : Symbol). x.name) symbols ++ added) → name ≡ get_or added (id - first) name → slice_get (map (λ (x : Symbol). x.name) symbols ++ added) id ≡ Some name
name-right symbols added id first name at from lt read =
    let own = map (λ (x : Symbol). x.name) symbols in
    let count = length-map symbols (λ (x : Symbol). x.name) in
    let place : id ≡ length own + (id - first) = omega (arith, at, from, count) in
    let within : id - first < length added = omega (arith, at, from, count, lt, length-append own added) in
    ap (slice_get (own ++ added)) place ∙ (get-right own added (id - first) ∙ slice_get_read added (length added) (id - first) name refl within read)
