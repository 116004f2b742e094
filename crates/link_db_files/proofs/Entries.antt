-- What files say of the entries and definitions of their symbols.
use Rattle.std.proofs.Common.{◌≡◌, ◌<◌, ℕ, zero, suc, List, [], ◌∷◌, arith, length, map, Option, Some, None, refl, subst, sym}
use Rattle.std.specs.Prelude.{false, IfSome, slice_get}
use Rattle.std.specs.Option.{option_and_then, option_map_or}
use Rattle.link_flags.specs.declared.visibility.Visibility.TheVariants.{Default}
use Rattle.link_input.specs.declared.internal_symbols.InternalSymDefInfo.{InternalSymDefInfo}
use Rattle.link_input.specs.declared.symbol_entry.SymbolEntry.{SymbolEntry}
use Rattle.link_input.specs.declared.world.StubSymbol.{StubSymbol}
use Rattle.link_input.specs.Entries.{is_undefined}
use Rattle.link_input.specs.InputFiles.{InputFile, prelude, object, linker_script, stub_library, synthetic}
use Rattle.link_input.specs.ObjectFile.{ObjectFile}
use Rattle.link_input.specs.Symbols.{Origin, Symbol, entry_in, entry_passes, file_symbols, in_object, in_prelude, in_script, in_stub, object_in, object_symbol, stub_strength, symbol_of, visibility_in}
use Rattle.std.specs.Borrow.{Bor}
use Rattle.link_input_groups.specs.declared.sequenced.SequencedInputObject.{SequencedInputObject}
use Rattle.link_input_groups.specs.declared.sequenced_input.SequencedInput.{SequencedInput}
use Rattle.link_input_groups.specs.declared.sequenced_input.SequencedInput.TheVariants as input
use Rattle.link_input_groups.specs.SequencedInputs.{sequenced_file}
use Rattle.link_db_files.specs.Inputs.{object_of}
use Rattle.link_db_files.specs.Origins.{definition_in}

-- the entry of an object's symbol
abbrev pub entry_at : InputFile → ℕ → Option SymbolEntry
entry_at (prelude symbols) j = None
entry_at (object o) j = slice_get o.object.symbols j
entry_at (linker_script s) j = None
entry_at (stub_library input symbols) j = None
entry_at synthetic j = None

-- the definition of a symbol of the prelude
abbrev pub definition_at : InputFile → ℕ → Option InternalSymDefInfo
definition_at (prelude symbols) j = slice_get symbols j
definition_at (object o) j = None
definition_at (linker_script s) j = None
definition_at (stub_library input symbols) j = None
definition_at synthetic j = None

-- where no element has an answer, there is none
none-asked : {A X : Type 0} (ask : Origin → Option X) (symbol : A → Symbol) → ((a : A) → ask (symbol a).origin ≡ None) → (xs : List A) (j : ℕ) → option_and_then (λ (x : Symbol). ask x.origin) (slice_get (map symbol xs) j) ≡ None
none-asked ask symbol none [] j = refl
none-asked ask symbol none (x ∷ xs) zero = none x
none-asked ask symbol none (x ∷ xs) (suc j) = none-asked ask symbol none xs j

-- where each element is its own answer, it is the one
all-asked : {X : Type 0} (ask : Origin → Option X) (symbol : X → Symbol) → ((x : X) → ask (symbol x).origin ≡ Some x) → (xs : List X) (j : ℕ) → option_and_then (λ (x : Symbol). ask x.origin) (slice_get (map symbol xs) j) ≡ slice_get xs j
all-asked ask symbol all [] j = refl
all-asked ask symbol all (x ∷ xs) zero = all x
all-asked ask symbol all (x ∷ xs) (suc j) = all-asked ask symbol all xs j

-- the entry of a symbol is that of its file
pub entry-asked : (m : ℕ) (f : InputFile) (j : ℕ) → option_and_then (λ (x : Symbol). entry_in x.origin) (slice_get (file_symbols m f) j) ≡ entry_at f j
entry-asked m (prelude symbols) j = none-asked entry_in (λ (d : InternalSymDefInfo). symbol_of d.name (in_prelude d)) (λ d. refl) symbols j
entry-asked m (object o) j = all-asked entry_in (object_symbol m o) (λ e. refl) o.object.symbols j
entry-asked m (linker_script s) j = none-asked entry_in (λ (d : InternalSymDefInfo). symbol_of d.name (in_script d)) (λ d. refl) s.symbol_defs j
entry-asked m (stub_library input symbols) j = none-asked entry_in (λ (s : StubSymbol). symbol_of s.name (in_stub (stub_strength s))) (λ s. refl) symbols j
entry-asked m synthetic j = refl

-- the definition of a symbol is that of its file
pub definition-asked : (m : ℕ) (f : InputFile) (j : ℕ) → option_and_then (λ (x : Symbol). definition_in x.origin) (slice_get (file_symbols m f) j) ≡ definition_at f j
definition-asked m (prelude symbols) j = all-asked definition_in (λ (d : InternalSymDefInfo). symbol_of d.name (in_prelude d)) (λ d. refl) symbols j
definition-asked m (object o) j = none-asked definition_in (object_symbol m o) (λ e. refl) o.object.symbols j
definition-asked m (linker_script s) j = none-asked definition_in (λ (d : InternalSymDefInfo). symbol_of d.name (in_script d)) (λ d. refl) s.symbol_defs j
definition-asked m (stub_library input symbols) j = none-asked definition_in (λ (s : StubSymbol). symbol_of s.name (in_stub (stub_strength s))) (λ s. refl) symbols j
definition-asked m synthetic j = refl

-- the object of a symbol, before whose file stand so many
pub object-told : (m : ℕ) (f : InputFile) (j n : ℕ) → ((o : ObjectFile) → object_of f ≡ Some o → m ≡ n) → IfSome (option_and_then (λ (x : Symbol). object_in x.origin) (slice_get (file_symbols m f) j)) (λ k. k ≡ n)
object-told m (prelude symbols) j n counted =
    subst (λ (o : Option ℕ). IfSome o (λ k. k ≡ n)) (sym (none-asked object_in (λ (d : InternalSymDefInfo). symbol_of d.name (in_prelude d)) (λ d. refl) symbols j)) tt
object-told m (object o) j n counted = by o.object.symbols j
  where
    by : (es : List SymbolEntry) (i : ℕ) → IfSome (option_and_then (λ (x : Symbol). object_in x.origin) (slice_get (map (object_symbol m o) es) i)) (λ k. k ≡ n)
    by [] i = tt
    by (e ∷ es) zero = counted o refl
    by (e ∷ es) (suc i) = by es i
object-told m (linker_script s) j n counted =
    subst (λ (o : Option ℕ). IfSome o (λ k. k ≡ n)) (sym (none-asked object_in (λ (d : InternalSymDefInfo). symbol_of d.name (in_script d)) (λ d. refl) s.symbol_defs j)) tt
object-told m (stub_library input symbols) j n counted =
    subst (λ (o : Option ℕ). IfSome o (λ k. k ≡ n)) (sym (none-asked object_in (λ (s : StubSymbol). symbol_of s.name (in_stub (stub_strength s))) (λ s. refl) symbols j)) tt
object-told m synthetic j n counted = tt

-- each symbol in the table of an object has it
pub object-there : (m : ℕ) (o : ObjectFile) (j : ℕ) → j < length o.object.symbols → option_and_then (λ (x : Symbol). object_in x.origin) (slice_get (file_symbols m (object o)) j) ≡ Some m
object-there m o j within = by o.object.symbols j within
  where
    by : (es : List SymbolEntry) (i : ℕ) → i < length es → option_and_then (λ (x : Symbol). object_in x.origin) (slice_get (map (object_symbol m o) es) i) ≡ Some m
    by [] i lt = absurd (omega (arith, lt))
    by (e ∷ es) zero lt = refl
    by (e ∷ es) (suc i) lt = by es i (omega (arith, lt))

-- and a symbol of another file has none
pub no-object : {P : Type 0} (i : SequencedInput P) (m j : ℕ) → ((o : Bor (SequencedInputObject P)) → i ≡ input.Object o → ⊥)
    → option_and_then (λ (x : Symbol). object_in x.origin) (slice_get (file_symbols m (sequenced_file i).file) j) ≡ None
no-object (input.Prelude p) m j other = none-asked object_in (λ (d : InternalSymDefInfo). symbol_of d.name (in_prelude d)) (λ d. refl) p.now j
no-object (input.Object o) m j other = absurd (other o refl)
no-object (input.LinkerScript s) m j other = none-asked object_in (λ (d : InternalSymDefInfo). symbol_of d.name (in_script d)) (λ d. refl) s.now.parsed.symbol_defs j
no-object (input.StubLibrary s) m j other = none-asked object_in (λ (y : StubSymbol). symbol_of y.name (in_stub (stub_strength y))) (λ y. refl) s.now.defined_symbols j
no-object (input.SyntheticSymbols s) m j other = refl

-- the visibility of a symbol is its entry's
pub visibility-of-entry : (o : Option Symbol) → option_map_or (λ (e : SymbolEntry). e.visibility) (option_and_then (λ (x : Symbol). entry_in x.origin) o) Default ≡ option_map_or (λ (x : Symbol). visibility_in x.origin) o Default
visibility-of-entry None = refl
visibility-of-entry (Some x) = by-origin x.origin
  where
    by-origin : (o : Origin) → option_map_or (λ (e : SymbolEntry). e.visibility) (entry_in o) Default ≡ visibility_in o
    by-origin (in_prelude d) = refl
    by-origin (in_object n shared e) = refl
    by-origin (in_script d) = refl
    by-origin (in_stub strength) = refl

-- a symbol is undefined as its entry is
pub undefined-of-entry : (o : Option Symbol) → option_map_or (λ (e : SymbolEntry). is_undefined e.place) (option_and_then (λ (x : Symbol). entry_in x.origin) o) false ≡ option_map_or (λ (x : Symbol). entry_passes (λ (e : SymbolEntry). is_undefined e.place) x.origin) o false
undefined-of-entry None = refl
undefined-of-entry (Some x) = refl

-- a file that is no object has no entry
pub no-entry : {P : Type 0} (i : SequencedInput P) (j : ℕ) → ((o : Bor (SequencedInputObject P)) → i ≡ input.Object o → ⊥) → None ≡ entry_at (sequenced_file i).file j
no-entry (input.Prelude p) j other = refl
no-entry (input.Object o) j other = absurd (other o refl)
no-entry (input.LinkerScript s) j other = refl
no-entry (input.StubLibrary s) j other = refl
no-entry (input.SyntheticSymbols s) j other = refl

-- a file that isn't the prelude has no definition of its
pub no-definition : {P : Type 0} (i : SequencedInput P) (j : ℕ) → ((p : Bor (List InternalSymDefInfo)) → i ≡ input.Prelude p → ⊥) → None ≡ definition_at (sequenced_file i).file j
no-definition (input.Prelude p) j other = absurd (other p refl)
no-definition (input.Object o) j other = refl
no-definition (input.LinkerScript s) j other = refl
no-definition (input.StubLibrary s) j other = refl
no-definition (input.SyntheticSymbols s) j other = refl
