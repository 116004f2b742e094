-- A batch that defines a name maps it.
use Rattle.std.proofs.Common.{ℕ, ◌≡◌, ◌+◌, ◌++◌, ◌∙◌, ◌||◌, Bool, true, false, List, [], ◌∷◌, length, map, Option, Some, None, cond, refl, sym, ap, rules}
use Rattle.std.specs.Prelude.{Ok}
use Rattle.std.specs.List.{fold, list_any}
use Rattle.std.specs.Str.{bytes_eq}
use Rattle.std.proofs.lemmas.List.Folds.{list_any-append}
use Rattle.std.proofs.lemmas.Option.{none-some}
use Rattle.link_input.specs.declared.symbol_entry.SymbolEntry.{SymbolEntry}
use Rattle.link_input.specs.InputFiles.{Batch, InputFile, batch_files, linker_script, object, object_count, prelude, stub_library, synthetic}
use Rattle.link_input.specs.ObjectFile.{ObjectFile}
use Rattle.link_input.specs.Symbols.{Symbol, file_symbols, object_symbol, symbols_of}
use Rattle.link_rules.specs.Answer.{EndsWith}
use Rattle.link_rules.specs.Marking.{ended}
use Rattle.link_rules.specs.Names.{Mapping, first_definition, mapping_with, original_of, wrapped}
use Rattle.link_rules.specs.Places.{Bytes, first_of, kept_if, places_from}
use Rattle.link_rules.specs.Selection.{Selection, selection_of}
use Rattle.link_rules.specs.World.{Stage, World, start_of, with_batch}
use Rattle.link_core.specs.Steps.{Selects}
use Rattle.link_desk.specs.Seeing.{defines, is_definition_of}
use Rattle.link_desk.proofs.Selections.{is_last_batch, is_later_batch}

-- ---- whether a symbol defines a name doesn't depend on the place of its object

object_any : (name : Bytes) (n m : ℕ) (o : ObjectFile) (es : List SymbolEntry)
    → list_any (is_definition_of name) (map (object_symbol n o) es) ≡ list_any (is_definition_of name) (map (object_symbol m o) es)
object_any name n m o [] = refl
object_any name n m o (e ∷ es) = ap (λ (rest : Bool). is_definition_of name (object_symbol n o e) || rest) (object_any name n m o es)

file_any : (name : Bytes) (n m : ℕ) (f : InputFile) → list_any (is_definition_of name) (file_symbols n f) ≡ list_any (is_definition_of name) (file_symbols m f)
file_any name n m (prelude symbols) = refl
file_any name n m (object o) = object_any name n m o o.object.symbols
file_any name n m (linker_script s) = refl
file_any name n m (stub_library input symbols) = refl
file_any name n m synthetic = refl

files_any : (name : Bytes) (n m : ℕ) (fs : List InputFile) → list_any (is_definition_of name) (symbols_of n fs) ≡ list_any (is_definition_of name) (symbols_of m fs)
files_any name n m [] = refl
files_any name n m (f ∷ fs) =
    let T = is_definition_of name in
    list_any-append T (file_symbols n f) (symbols_of (n + object_count f) fs)
    ∙ (ap (λ (b : Bool). b || list_any T (symbols_of (n + object_count f) fs)) (file_any name n m f)
    ∙ (ap (λ (b : Bool). list_any T (file_symbols m f) || b) (files_any name (n + object_count f) (m + object_count f) fs)
    ∙ sym (list_any-append T (file_symbols m f) (symbols_of (m + object_count f) fs))))

-- ---- the symbols behind the last batch

or-false : (a : Bool) → (a || false) ≡ a
or-false true = refl
or-false false = refl

or-assoc : (a b c : Bool) → ((a || b) || c) ≡ (a || (b || c))
or-assoc true b c = refl
or-assoc false b c = refl

-- the symbols of a stage with one batch more
batch_any : (name : Bytes) (before : Stage) (b : Batch)
    → list_any (is_definition_of name) (with_batch before b).symbols ≡ (list_any (is_definition_of name) before.symbols || defines name b)
batch_any name before b =
    list_any-append (is_definition_of name) before.symbols (symbols_of (length before.objects) (batch_files b))
    ∙ ap (λ (r : Bool). list_any (is_definition_of name) before.symbols || r) (files_any name (length before.objects) 0 (batch_files b))

-- a definition behind the last batch is one of before, or one that a batch brings
all_any : (name : Bytes) (is_late : Bool) (before : Stage) (b : Batch) (later : List Batch) (l : Selection) → EndsWith is_late before b later (Ok l)
    → list_any (is_definition_of name) l.stage.symbols ≡ (list_any (is_definition_of name) before.symbols || list_any (defines name) (b ∷ later))
all_any name is_late before b [] l ends =
    let is = is_last_batch is_late before b l ends in
    ap (λ (k : Selection). list_any (is_definition_of name) k.stage.symbols) is.1
    ∙ (batch_any name before b ∙ ap (λ (r : Bool). list_any (is_definition_of name) before.symbols || r) (sym (or-false (defines name b))))
all_any name is_late before b (c ∷ cs) l ends =
    let goes = is_later_batch is_late before b c cs l ends in
    all_any name true (ended (selection_of (with_batch before b) goes.0)) c cs l goes.1
    ∙ (ap (λ (r : Bool). r || list_any (defines name) (c ∷ cs)) (batch_any name before b)
    ∙ or-assoc (list_any (is_definition_of name) before.symbols) (defines name b) (list_any (defines name) (c ∷ cs)))

-- ---- what is mapped stays mapped

kept_mapped : (b r : Bool) (i : ℕ) (ps : List ℕ) → (first_of ps ≡ None → r ≡ true → ⊥) → first_of (kept_if b i ps) ≡ None → (b || r) ≡ true → ⊥
kept_mapped true r i ps rest none some = none-some i (sym none)
kept_mapped false r i ps rest none some = rest none some

listed_mapped : (test : Symbol → Bool) (i : ℕ) (xs : List Symbol) → first_of (places_from test i xs) ≡ None → list_any test xs ≡ true → ⊥
listed_mapped test i [] none some = absurd (cc)
listed_mapped test i (x ∷ xs) none some = kept_mapped (test x) (list_any test xs) i (places_from test (i + 1) xs) (listed_mapped test (i + 1) xs) none some

either_mapped : (b : Bool) (s : ℕ) (o : Option ℕ) → (o ≡ None → ⊥) → cond b (Some s) o ≡ None → ⊥
either_mapped true s o mapped none = none-some s (sym none)
either_mapped false s o mapped none = mapped none

with_mapped : (n : Bytes) (s : Option ℕ) (old : Mapping) (name : Bytes) → (old name ≡ None → ⊥) → mapping_with n s old name ≡ None → ⊥
with_mapped n None old name mapped none = mapped none
with_mapped n (Some s) old name mapped none = either_mapped (bytes_eq name n) s (old name) mapped none

wrapped_mapped : (old : Mapping) (w name : Bytes) → (old name ≡ None → ⊥) → wrapped old w name ≡ None → ⊥
wrapped_mapped old w name mapped none = with_mapped _ (original_of old w) _ name (with_mapped w _ old name mapped) none

wraps_mapped : (wraps : List Bytes) (old : Mapping) (name : Bytes) → (old name ≡ None → ⊥) → fold wrapped old wraps name ≡ None → ⊥
wraps_mapped [] old name mapped none = mapped none
wraps_mapped (w ∷ ws) old name mapped none = wraps_mapped ws (wrapped old w) name (wrapped_mapped old w name mapped) none

or-right : (a b : Bool) → b ≡ true → (a || b) ≡ true
or-right true b is = refl
or-right false b is = is

-- a name that one of the batches defines is mapped behind the last one
pub defined_mapped : (w : World) (l : Selection) (name : Bytes) → Selects w l → list_any (defines name) (w.first ∷ w.later) ≡ true → first_definition l.stage name ≡ None → ⊥
defined_mapped w l name selects some none =
    let any = all_any name false (start_of w) w.first w.later l selects.ends ∙ or-right (list_any (is_definition_of name) (start_of w).symbols) (list_any (defines name) (w.first ∷ w.later)) some in
    wraps_mapped l.stage.options.wrap (λ n. first_of (places_from (is_definition_of n) 0 l.stage.symbols)) name
    (λ unmapped. listed_mapped (is_definition_of name) 0 l.stage.symbols unmapped any) none
