-- Where the symbols of an object stand among those of all files.
use Rattle.std.proofs.Common.{◌≡◌, ◌<◌, ◌≤◌, ◌+◌, ◌==◌, ◌∙◌, ◌++◌, ℕ, zero, suc, true, false, List, [], ◌∷◌, length, get_or, map, Option, Some, None, refl, sym, ap, subst, arith, length-append}
use Rattle.std.specs.Prelude.{slice_get, unwrap_or}
use Rattle.std.specs.List.{cons_option, enumerate_from, filter_map, flat_map}
use Rattle.std.proofs.lemmas.Bool.{eq-eqb, ne_eqb}
use Rattle.std.proofs.lemmas.List.{length-map}
use Rattle.std.proofs.lemmas.List.FromFn.{length-enumerate_from, get_or-enumerate_from}
use Rattle.std.proofs.lemmas.Option.{same_Some, slice_get-get_or}
use Rattle.link_input.specs.InputFiles.{InputFile, prelude, object, linker_script, stub_library, synthetic}
use Rattle.link_input.specs.ObjectFile.{ObjectFile}
use Rattle.link_input.specs.declared.symbol_entry.SymbolEntry.{SymbolEntry}
use Rattle.link_input.specs.Symbols.{Symbol, object_in, object_symbol, stub_strength, symbol_of, in_prelude, in_script, in_stub, symbols_of}
use Rattle.link_input.specs.SequencedFiles.{SequencedFile}
use Rattle.link_input_groups.specs.declared.group.Group.{Group}
use Rattle.link_input_groups.specs.Groups.{files_of}
use Rattle.link_db_files.specs.GroupFiles.{symbols_in}
use Rattle.link_db_files.specs.Inputs.{object_of, objects_in}
use Rattle.link_rules.specs.Places.{is_number}
use Rattle.link_resolve_comdat.proofs.FirstPlace.{first_place-below}
use Rattle.link_resolve_discarded.specs.Indexed.{index_at}
use Rattle.link_resolve_discarded.specs.Signatures.{first_id}

-- a first symbol is one of these, or there is none
first-within : (f next : ℕ) (symbols : List Symbol) → unwrap_or (first_id f next symbols) next ≤ next + length symbols
first-within f next symbols = by (first_id f next symbols) refl
  where
    by : (r : Option ℕ) → first_id f next symbols ≡ r → unwrap_or r next ≤ next + length symbols
    by None e = omega arith
    by (Some s) e = let below = first_place-below (λ i x. is_number (object_in x.origin) f) next symbols s e in omega arith

-- symbols that aren't of the object are passed over
passed-over : {X : Type 0} (f next : ℕ) (make : X → Symbol) (xs : List X) (symbols : List Symbol) → ((x : X) → is_number (object_in (make x).origin) f ≡ false)
    → first_id f next (map make xs ++ symbols) ≡ first_id f (next + length xs) symbols
passed-over f next make [] symbols other = let same : next ≡ next + 0 = omega arith in ap (λ n. first_id f n symbols) same
passed-over f next make (x ∷ xs) symbols other =
    let more : next + 1 + length xs ≡ next + length (x ∷ xs) = omega arith in
    rw (other x) (passed-over f (next + 1) make xs symbols other ∙ ap (λ n. first_id f n symbols) more)

-- a later start gives no earlier symbol
later-start : (r : Option ℕ) (next n : ℕ) → next ≤ n → unwrap_or r next ≤ unwrap_or r n
later-start None next n le = le
later-start (Some s) next n le = omega arith

-- behind the first symbol of an object, or the first of all where it has none, there is room for its symbols
abbrev pub Room : ℕ → ℕ → ℕ → List Symbol → Type 0
Room f next count symbols = unwrap_or (first_id f next symbols) next + count ≤ next + length symbols

-- files before it make no difference
room-behind : {X : Type 0} (f next count : ℕ) (make : X → Symbol) (xs : List X) (symbols : List Symbol) → ((x : X) → is_number (object_in (make x).origin) f ≡ false)
    → Room f (next + length xs) count symbols → Room f next count (map make xs ++ symbols)
room-behind f next count make xs symbols other room =
    let first = first_id f (next + length xs) symbols in
    let over = passed-over f next make xs symbols other in
    let start = later-start first next (next + length xs) (omega arith) in
    let same : unwrap_or (first_id f next (map make xs ++ symbols)) next ≡ unwrap_or first next = ap (λ r. unwrap_or r next) over in
    let long : length (map make xs ++ symbols) ≡ length xs + length symbols = grind (arith, length-append, length-map) in
    omega (arith, room, start, same, long)

-- of the object at a place
pub room : (n k next f : ℕ) (files : List InputFile) (o : ObjectFile) → n + k ≡ f → slice_get (filter_map object_of files) k ≡ Some o → Room f next (length o.object.symbols) (symbols_of n files)
room n k next f [] o place there = absurd cc
room n k next f (prelude ds ∷ fs) o place there =
    room-behind f next (length o.object.symbols) (λ d. symbol_of d.name (in_prelude d)) ds (symbols_of (n + 0) fs) (λ d. refl) (room (n + 0) k (next + length ds) f fs o (omega (arith, place)) there)
room n k next f (linker_script s ∷ fs) o place there =
    room-behind f next (length o.object.symbols) (λ d. symbol_of d.name (in_script d)) s.symbol_defs (symbols_of (n + 0) fs) (λ d. refl) (room (n + 0) k (next + length s.symbol_defs) f fs o (omega (arith, place)) there)
room n k next f (stub_library input ss ∷ fs) o place there =
    room-behind f next (length o.object.symbols) (λ s. symbol_of s.name (in_stub (stub_strength s))) ss (symbols_of (n + 0) fs) (λ s. refl) (room (n + 0) k (next + length ss) f fs o (omega (arith, place)) there)
room n k next f (synthetic ∷ fs) o place there = room (n + 0) k next f fs o (omega (arith, place)) there
room n zero next f (object p ∷ fs) o place there = subst Has (same_Some p o there) (own p.object.symbols)
  where
    later : List Symbol
    later = symbols_of (n + 1) fs

    Has : ObjectFile → Type 0
    Has x = Room f next (length x.object.symbols) (map (object_symbol n p) p.object.symbols ++ later)

    own : (entries : List SymbolEntry) → Room f next (length entries) (map (object_symbol n p) entries ++ later)
    own [] = let within = first-within f next later in omega (arith, within)
    own (e ∷ es) =
        let here : (n == f) ≡ true = eq-eqb n f (omega (arith, place)) in
        let long : length (map (object_symbol n p) es ++ later) ≡ length es + length later = grind (arith, length-append, length-map) in
        rw here (omega (arith, long))
room n (suc k) next f (object p ∷ fs) o place there =
    let other : (n == f) ≡ false = ne_eqb n f (λ same. omega (arith, place)) in
    room-behind f next (length o.object.symbols) (object_symbol n p) p.object.symbols (symbols_of (n + 1) fs) (λ e. other) (room (n + 1) k (next + length p.object.symbols) f fs o (omega (arith, place)) there)

-- what is picked of files, with their ids or without
picked : {A B C : Type 0} (pick : B → Option C) (file : A → B) (xs : List A) → filter_map (λ x. pick (file x)) xs ≡ filter_map pick (map file xs)
picked pick file [] = refl
picked pick file (x ∷ xs) = ap (cons_option (pick (file x))) (picked pick file xs)

-- an object of groups, with its place: it stands at that place
placed-at : {X : Type 0} (xs : List X) (k : ℕ) (x : ℕ × X) → k < length (enumerate_from 0 xs) → x ≡ get_or (enumerate_from 0 xs) k x → (x.0 ≡ k) × (slice_get xs k ≡ Some x.1)
placed-at {X} xs k x lt is =
    let within : k < length xs = omega (arith, lt, length-enumerate_from 0 xs) in
    let at : x ≡ (0 + k, get_or xs k x.1) = is ∙ get_or-enumerate_from 0 xs k x within in
    let place : x.0 ≡ k = (let first : x.0 ≡ 0 + k = ap (λ (y : ℕ × X). y.0) at in omega (arith, first)) in
    (place, slice_get-get_or xs k x.1 within ∙ ap (λ y. Some y) (sym (ap (λ (y : ℕ × X). y.1) at)))

-- the place of an object of groups, and room for its symbols
pub placed-room : {P : Type 0} (groups : List (Group P)) (objects : List (ℕ × ObjectFile)) (k : ℕ) (o : ℕ × ObjectFile) → objects ≡ enumerate_from 0 (objects_in groups) → k < length objects → o ≡ get_or objects k o
    → (o.0 < length objects) × (unwrap_or (first_id o.0 0 (symbols_in groups)) 0 + length o.1.object.symbols ≤ length (symbols_in groups))
placed-room {P} groups objects k o are lt is =
    let all = objects_in groups in
    let files = map (λ (f : SequencedFile). f.file) (flat_map files_of groups) in
    let inside : k < length (enumerate_from 0 all) = subst (λ (xs : List (ℕ × ObjectFile)). k < length xs) are lt in
    let placed = placed-at all k o inside (is ∙ ap (λ (xs : List (ℕ × ObjectFile)). get_or xs k o) are) in
    let there : slice_get (filter_map object_of files) k ≡ Some o.1 =
    ap (λ (xs : List ObjectFile). slice_get xs k) (sym (picked object_of (λ (f : SequencedFile). f.file) (flat_map files_of groups))) ∙ placed.1 in
    let held = room 0 k 0 o.0 files o.1 (omega (arith, placed.0)) there in
    (omega (arith, placed.0, lt), omega (arith, held))

-- what a column of first symbols says of an object of groups, and room for its symbols
pub first-there : {P : Type 0} (groups : List (Group P)) (objects : List (ℕ × ObjectFile)) (k count place first : ℕ) (o : ℕ × ObjectFile) (firsts : List (Option ℕ)) → objects ≡ enumerate_from 0 (objects_in groups)
    → k < length objects → o ≡ get_or objects k o → count ≡ length objects → place ≡ o.0 → first ≡ unwrap_or (index_at firsts place) 0 → ((f : ℕ) → f < count → index_at firsts f ≡ first_id f 0 (symbols_in groups))
    → (first ≡ unwrap_or (first_id o.0 0 (symbols_in groups)) 0) × (first + length o.1.object.symbols ≤ length (symbols_in groups))
first-there groups objects k count place first o firsts are lt is long at read noted =
    let held = placed-room groups objects k o are lt is in
    let same : first ≡ unwrap_or (first_id o.0 0 (symbols_in groups)) 0 =
    read ∙ (ap (λ f. unwrap_or (index_at firsts f) 0) at ∙ ap (λ r. unwrap_or r 0) (noted o.0 (omega (arith, held.0, long)))) in
    (same, omega (arith, held.1, same))
