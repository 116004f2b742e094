-- What is held grows behind the files of batches.
use Rattle.std.proofs.Common.{◌≡◌, ◌+◌, ◌<◌, ◌^◌, ◌++◌, ◌∙◌, ◌⊎◌, ℕ, zero, suc, List, [], ◌∷◌, length, map, Some, refl, sym, ap, subst, inl, inr, ⊎_elim, arith}
use Rattle.std.specs.Prelude.{slice_get}
use Rattle.std.specs.List.{flat_map, AllByRecursion}
use Rattle.std.proofs.lemmas.List.{append_assoc, append-nil, map-append, length-map}
use Rattle.std.proofs.lemmas.List.Concat.{flat_map-append}
use Rattle.std.proofs.lemmas.Option.{same_Some}
use Rattle.link_ids.specs.FilePlace.{FilePlace}
use Rattle.link_ids.specs.Span.{Span}
use Rattle.link_input.specs.SequencedFiles.{SequencedFile}
use Rattle.link_input.specs.Symbols.{Symbol, symbols_of}
use Rattle.link_input_groups.specs.declared.group.Group.{Group}
use Rattle.link_input_groups.specs.FileIds.{HavePlaces, ids_from}
use Rattle.link_input_groups.specs.Groups.{RunsFrom, file_ids, files_of}
use Rattle.link_db_files.specs.declared.starts.FileStart.{FileStart}
use Rattle.link_db_files.specs.Adding.{CanFollow, HasNoSymbols}
use Rattle.link_db_files.specs.GroupFiles.{symbols_in}
use Rattle.link_db_files.specs.HeldFiles.{HeldFiles, names_in}
use Rattle.link_db_files.specs.Numbered.{AreHeld, AreNumbered, HasNoTable, spans_of}
use Rattle.link_db_files.specs.Starts.{starts_of}
use Rattle.link_db_files.proofs.Lookup.{ids-count}
use Rattle.link_db_files.proofs.Numbered.{bare, id_count, id-count-append, ids-of-table, tabled-symbols}

-- what stands in a list to which one item was added
get-push : {A : Type 0} (xs : List A) (y z : A) (i : ℕ) → slice_get (xs ++ y ∷ []) i ≡ Some z → (slice_get xs i ≡ Some z) ⊎ ((i ≡ length xs) × (y ≡ z))
get-push [] y z zero is = inr (refl, same_Some y z is)
get-push [] y z (suc i) is = cc
get-push (x ∷ xs) y z zero is = inl is
get-push (x ∷ xs) y z (suc i) is =
    ⊎_elim (λ h. inl h) (λ h. let at : suc i ≡ suc (length xs) = omega (arith, h.0) in inr (at, h.1)) (get-push xs y z i is)

-- the id at a place of a group
id-at : {A : Type 0} (g k : ℕ) (xs : List A) (i : ℕ) (id : FilePlace) → slice_get (ids_from g k xs) i ≡ Some id → id ≡ record { group = g; file = k + i }
id-at g k [] i id is = cc
id-at g k (x ∷ xs) zero id is =
    let e : k + 0 ≡ k = omega arith in rw e (sym (same_Some (record { group = g; file = k }) id is))
id-at g k (x ∷ xs) (suc i) id is =
    let e : k + suc i ≡ k + 1 + i = omega arith in rw e (id-at g (k + 1) xs i id is)

-- a group with the ids of the next place
pub places-more : {P A : Type 0} (groups : List (Group P)) (g : Group P) (xs : List A) → file_ids g ≡ ids_from (length groups) 0 xs → HavePlaces groups → HavePlaces (groups ++ g ∷ [])
places-more groups g xs ids before = λ i k got id at at_id.
    let pushed : slice_get (map file_ids groups ++ file_ids g ∷ []) i ≡ Some got = subst (λ (l : List (List FilePlace)). slice_get l i ≡ Some got) (map-append file_ids groups (g ∷ [])) at in
    ⊎_elim
    (λ old. before i k got id old at_id)
    (λ new.
    let i_is : i ≡ length groups = new.0 ∙ length-map groups file_ids in
    let from : slice_get (ids_from (length groups) 0 xs) k ≡ Some id = rw (← ids, new.1) at_id in
    let k_is : 0 + k ≡ k = omega arith in
    rw (i_is, ← k_is) (id-at (length groups) 0 xs k id from))
    (get-push (map file_ids groups) (file_ids g) got i pushed)

-- a run and what follows it
pub runs-join : (n : ℕ) (xs ys : List SequencedFile) → RunsFrom n (spans_of xs) → RunsFrom (n + id_count xs) (spans_of ys) → RunsFrom n (spans_of (xs ++ ys))
runs-join n [] ys left right = let e : n + 0 ≡ n = omega arith in subst (λ m. RunsFrom m (spans_of ys)) e right
runs-join n (x ∷ xs) ys left right =
    let e : n + id_count (x ∷ xs) ≡ n + x.symbols.len + id_count xs = omega arith in
    (left.0, runs-join (n + x.symbols.len) xs ys left.1 (subst (λ m. RunsFrom m (spans_of ys)) e right))

-- what is true of two lists is true of both in one
pub all-join : {A : Type 0} (Q : A → Type 0) (xs ys : List A) → AllByRecursion Q xs → AllByRecursion Q ys → AllByRecursion Q (xs ++ ys)
all-join Q [] ys left right = right
all-join Q (x ∷ xs) ys left right = (left.0, all-join Q xs ys left.1 right)

-- files without symbols have no table
pub no-tables : (next : ℕ) (fs : List SequencedFile) → AllByRecursion (HasNoSymbols next) fs → AllByRecursion HasNoTable fs
no-tables next [] none = tt
no-tables next (f ∷ fs) none =
    ((none.0.0, ids-of-table f.file f.symbols.len (ap (λ (s : Span). s.len) none.0.1 ∙ sym none.0.0)), no-tables next fs none.1)

-- they have no ids
no-count : (next : ℕ) (fs : List SequencedFile) → AllByRecursion (HasNoSymbols next) fs → id_count fs ≡ 0
no-count next [] none = refl
no-count next (f ∷ fs) none = omega (arith, ap (λ (s : Span). s.len) none.0.1, no-count next fs none.1)

-- and run on from where the next id would be
no-runs : (next : ℕ) (fs : List SequencedFile) → AllByRecursion (HasNoSymbols next) fs → RunsFrom next (spans_of fs)
no-runs next [] none = tt
no-runs next (f ∷ fs) none =
    let e : next ≡ next + f.symbols.len = omega (arith, ap (λ (s : Span). s.len) none.0.1) in
    (ap (λ (s : Span). s.start) none.0.1, subst (λ n. RunsFrom n (spans_of fs)) e (no-runs next fs none.1))

-- files without symbols follow others
numbered-more : (fs more : List SequencedFile) (added : ℕ) → AreNumbered fs added → AllByRecursion (HasNoSymbols (id_count fs)) more → AreNumbered (fs ++ more) added
numbered-more fs more added h none =
    record {
      tabled = h.tabled;
      behind = h.behind ++ more;
      joined = ap (λ l. l ++ more) h.joined ∙ append_assoc h.tabled h.behind more;
      tables = h.tables;
      others = all-join HasNoTable h.behind more h.others (no-tables (id_count fs) more none);
      count = omega (arith, id-count-append h.behind more, h.count, no-count (id_count fs) more none);
      runs = runs-join 0 fs more h.runs (let e : id_count fs ≡ 0 + id_count fs = omega arith in subst (λ n. RunsFrom n (spans_of more)) e (no-runs (id_count fs) more none));
    }

-- the symbols of groups, behind which a group without symbols follows
pub symbols-more : {P : Type 0} (groups : List (Group P)) (g : Group P) → AllByRecursion HasNoTable (files_of g) → symbols_in (groups ++ g ∷ []) ≡ symbols_in groups
symbols-more {P} groups g none =
    let fs = flat_map (λ (k : Group P). files_of k) groups in
    let all : flat_map files_of (groups ++ g ∷ []) ≡ fs ++ files_of g = flat_map-append files_of groups (g ∷ []) ∙ ap (λ l. fs ++ l) (append-nil (files_of g)) in
    ap (λ (l : List SequencedFile). symbols_of 0 (bare l)) all ∙ tabled-symbols fs (files_of g) none

-- a group more is held
pub held-group : {P : Type 0} (held : HeldFiles P) (starts : List FileStart) (g : Group P) → AreHeld held starts → CanFollow held g
    → AreHeld (record held { groups = held.groups ++ g ∷ [] }) (starts_of (held.groups ++ g ∷ []))
held-group {P} held starts g h can =
    let groups = held.groups in
    let fs = flat_map (λ (k : Group P). files_of k) groups in
    let none : AllByRecursion (HasNoSymbols (id_count fs)) (files_of g) = subst (λ n. AllByRecursion (HasNoSymbols n) (files_of g)) (ids-count held starts h) can.none in
    let all : flat_map files_of (groups ++ g ∷ []) ≡ fs ++ files_of g = flat_map-append files_of groups (g ∷ []) ∙ ap (λ l. fs ++ l) (append-nil (files_of g)) in
    let same = symbols-more groups g (no-tables (id_count fs) (files_of g) none) in
    record {
      numbered = subst (λ (l : List SequencedFile). AreNumbered l (length held.added)) (sym all) (numbered-more fs (files_of g) (length held.added) h.numbered none);
      places = places-more groups g (files_of g) can.ids h.places;
      fits = subst (λ (l : List Symbol). length (map (λ (x : Symbol). x.name) l ++ held.added) < 2 ^ 32) (sym same) h.fits;
      found = refl;
    }

-- behind a group without symbols the names are those that were held
pub names-more : {P : Type 0} (held : HeldFiles P) (g : Group P) → CanFollow held g → names_in (record held { groups = held.groups ++ g ∷ [] }) ≡ names_in held
names-more held g can =
    ap (λ (l : List Symbol). map (λ (x : Symbol). x.name) l ++ held.added) (symbols-more held.groups g (no-tables (length (names_in held)) (files_of g) can.none))
