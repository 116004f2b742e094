-- The file of a symbol.
use Rattle.std.proofs.Common.{◌≡◌, ◌+◌, ◌-◌, ◌<◌, ◌≤◌, ◌∙◌, ◌^◌, ℕ, zero, suc, List, [], ◌∷◌, length, map, get_or, Option, Some, refl, sym, ap, subst, arith, length-append}
use Rattle.std.specs.Prelude.{IfSome, IsTrue, is_some, option_and_then, slice_get}
use Rattle.std.specs.List.{flat_map}
use Rattle.std.proofs.lemmas.List.{length-map}
use Rattle.std.proofs.lemmas.Option.{same_Some, slice_get_read, slice_get_within}
use Rattle.link_ids.specs.FilePlace.{FilePlace}
use Rattle.link_ids.specs.Span.{IsInside, offset_in}
use Rattle.link_input.specs.SequencedFiles.{SequencedFile}
use Rattle.link_input.specs.Symbols.{Symbol, object_in}
use Rattle.link_input_groups.specs.declared.group.Group.{Group}
use Rattle.link_input_groups.specs.Groups.{RunsFrom, files_of}
use Rattle.link_db_files.specs.declared.starts.FileStart.{FileStart}
use Rattle.link_db_files.specs.GroupFiles.{IsFileOf, file_at, symbols_in}
use Rattle.link_db_files.specs.HeldFiles.{HeldFiles, names_in}
use Rattle.link_db_files.specs.Inputs.{objects_before}
use Rattle.link_db_files.specs.Numbered.{AreHeld, spans_of}
use Rattle.link_db_files.specs.Starts.{IsLastFrom, starts_of}
use Rattle.link_db_files.proofs.Entries.{object-told}
use Rattle.link_db_files.proofs.Numbered.{id_count, id-count-append, is-there, numbered-count, run-last, run-within}
use Rattle.link_db_files.proofs.Numbers.{held-at}
use Rattle.link_db_files.proofs.Places.{length-all-starts, start-file, start-object}

-- each symbol has a name
pub names-count : {P : Type 0} (held : HeldFiles P) → length (names_in held) ≡ length (symbols_in held.groups) + length held.added
names-count held = length-append (map (λ (x : Symbol). x.name) (symbols_in held.groups)) held.added ∙ ap (λ n. n + length held.added) (length-map (symbols_in held.groups) (λ (x : Symbol). x.name))

-- and an id
pub ids-count : {P : Type 0} (held : HeldFiles P) (starts : List FileStart) → AreHeld held starts → length (names_in held) ≡ id_count (flat_map files_of held.groups)
ids-count held starts h = names-count held ∙ sym (numbered-count (flat_map files_of held.groups) (length held.added) h.numbered)

-- a file at a place has no more ids than all files
few-at : (fs : List SequencedFile) (k : ℕ) (f : SequencedFile) → slice_get fs k ≡ Some f → f.symbols.len ≤ id_count fs
few-at [] k f is = cc
few-at (x ∷ xs) zero f is = omega (arith, ap (λ (y : SequencedFile). y.symbols.len) (same_Some x f is))
few-at (x ∷ xs) (suc k) f is = omega (arith, few-at xs k f is)

-- nor has a file with an id
few-in : {P : Type 0} (groups : List (Group P)) (number place : ℕ) (f : SequencedFile) → file_at groups (record { group = number; file = place }) ≡ Some f → f.symbols.len ≤ id_count (flat_map files_of groups)
few-in [] number place f is = cc
few-in (g ∷ gs) zero place f is = omega (arith, few-at (files_of g) place f is, id-count-append (files_of g) (flat_map files_of gs))
few-in (g ∷ gs) (suc number) place f is = omega (arith, few-in gs number place f is, id-count-append (files_of g) (flat_map files_of gs))

-- the file that is read of a group has its id
file-read : {P : Type 0} (groups : List (Group P)) (number place : ℕ) (g : Group P) (f : SequencedFile) → IsTrue (is_some (file_at groups (record { group = number; file = place }))) → g ≡ get_or groups number g
    → slice_get (files_of g) place ≡ Some f → file_at groups (record { group = number; file = place }) ≡ Some f
file-read [] number place g f some read is = cc
file-read {P} (h ∷ gs) zero place g f some read is = subst (λ (k : Group P). slice_get (files_of k) place ≡ Some f) read is
file-read (h ∷ gs) (suc number) place g f some read is = file-read gs number place g f some read is

-- and 32 bits can say how many ids it has
pub few-read : {P : Type 0} (held : HeldFiles P) (starts : List FileStart) → AreHeld held starts → (number place : ℕ) (g : Group P) (f : SequencedFile) → IsTrue (is_some (file_at held.groups (record { group = number; file = place })))
    → g ≡ get_or held.groups number g → slice_get (files_of g) place ≡ Some f → f.symbols.len < 2 ^ 32
few-read held starts h number place g f some read is =
    omega (arith, few-in held.groups number place f (file-read held.groups number place g f some read is), ids-count held starts h, h.fits)

-- the file that is found for a symbol: it has the symbol, and if it is an object, so many stand before it
pub record IsFound {P : Type 0} (groups : List (Group P)) (id : ℕ) (place : FilePlace) : Type 0 where
  pub file : IsFileOf groups id place
  pub object : IfSome (option_and_then (λ (x : Symbol). object_in x.origin) (slice_get (symbols_in groups) id)) (λ n. n ≡ objects_before groups place)

-- the last file that begins at a symbol or before it has the symbol
has-symbol : {P : Type 0} (held : HeldFiles P) → AreHeld held (starts_of held.groups) → (id k : ℕ) → IsLastFrom (starts_of held.groups) id k → id < length (names_in held)
    → (x : FileStart) → slice_get (starts_of held.groups) k ≡ Some x → x.start ≤ id → IsFound held.groups id x.id
has-symbol {P} held h id k last lt x is from =
    let groups = held.groups in
    let fs = flat_map (λ (g : Group P). files_of g) groups in
    let s = start-file groups k x h.places is in
    let f = s.0 in
    let next : (g : SequencedFile) → slice_get fs (suc k) ≡ Some g → id < g.symbols.start = λ g there.
    let at : k + 1 < length (starts_of groups) = omega (arith, slice_get_within fs (suc k) g there, length-all-starts groups) in
    let e : k + 1 ≡ suc k = omega arith in
    held-at (starts_of groups) (k + 1) at (λ y found.
    let t = start-file groups (k + 1) y h.places found in
    let same : t.0 ≡ g = same_Some t.0 g (sym t.1.0 ∙ (ap (slice_get fs) e ∙ there)) in
    omega (arith, last.next y found, t.1.1.1, ap (λ (q : SequencedFile). q.symbols.start) same)) in
    let all : id < 0 + id_count fs = omega (arith, lt, ids-count held (starts_of groups) h) in
    let inside : IsInside f.symbols id = (omega (arith, from, s.1.1.1), run-within 0 fs h.numbered.runs k f s.1.0 id all next) in
    let r = is-there fs (length held.added) h.numbered k f s.1.0 id inside in
    record {
      file = (f, (s.1.1.0, record { inside = inside; ids = r.ids; before = r.before; same = r.same }));
      object = subst (λ (o : Option Symbol). IfSome (option_and_then (λ (y : Symbol). object_in y.origin) o) (λ n. n ≡ objects_before groups x.id)) (sym r.same)
          (object-told r.before f.file (offset_in f.symbols id) (objects_before groups x.id) (λ o some. r.counted ∙ start-object groups k x h.places is f s.1.0 o some));
    }

-- the file that is found for a symbol has it
pub found-file : {P : Type 0} (held : HeldFiles P) (starts : List FileStart) → AreHeld held starts → (id k : ℕ) → IsLastFrom starts id k → id < length (names_in held)
    → (x : FileStart) → slice_get starts k ≡ Some x → IsFound held.groups id x.id
found-file {P} held starts h id k last lt x is =
    let same : last.file ≡ x = same_Some last.file x (sym last.here ∙ is) in
    let from : x.start ≤ id = subst (λ (y : FileStart). y.start ≤ id) same last.from in
    has-symbol held (subst (λ (l : List FileStart). AreHeld held l) h.found h) id k (subst (λ (l : List FileStart). IsLastFrom l id k) h.found last) lt x (subst (λ (l : List FileStart). slice_get l k ≡ Some x) h.found is) from

-- where there is a symbol, there is a file
some-files : (fs : List SequencedFile) (id : ℕ) → id < id_count fs → 0 < length fs
some-files [] id lt = absurd (omega (arith, lt))
some-files (f ∷ fs) id lt = omega arith

-- the first file of a run begins with it
pub first-run : (n : ℕ) (fs : List SequencedFile) → RunsFrom n (spans_of fs) → (f : SequencedFile) → slice_get fs 0 ≡ Some f → f.symbols.start ≡ n
first-run n [] runs f is = cc
first-run n (x ∷ xs) runs f is = subst (λ (g : SequencedFile). g.symbols.start ≡ n) (same_Some x f is) runs.0

-- where there is a symbol, the first file begins at 0
pub first-start : {P : Type 0} (held : HeldFiles P) (starts : List FileStart) → AreHeld held starts → (id : ℕ) → id < length (names_in held) → (0 < length starts) × ((x : FileStart) → slice_get starts 0 ≡ Some x → x.start ≡ 0)
first-start {P} held starts h id lt =
    let fs = flat_map (λ (g : Group P). files_of g) held.groups in
    let some : 0 < length fs = some-files fs id (omega (arith, lt, ids-count held starts h)) in
    let many : length starts ≡ length fs = ap (λ (l : List FileStart). length l) h.found ∙ length-all-starts held.groups in (
      omega (arith, some, many),
      λ x is.
          let s = start-file held.groups 0 x h.places (subst (λ (l : List FileStart). slice_get l 0 ≡ Some x) h.found is) in
          omega (arith, first-run 0 fs h.numbered.runs s.0 s.1.0, s.1.1.1),
    )

-- the first file begins at no symbol or before it
pub begins-there : (starts : List FileStart) (id : ℕ) → ((x : FileStart) → slice_get starts 0 ≡ Some x → x.start ≡ 0) → IfSome (slice_get starts 0) (λ first. first.start ≤ id)
begins-there [] id begin = tt
begins-there (x ∷ xs) id begin = let none = begin x refl in omega (arith, none)

-- no file, no symbol
pub none-held : {P : Type 0} (held : HeldFiles P) (starts : List FileStart) → AreHeld held starts → length starts ≡ 0 → 0 ≡ length (names_in held)
none-held {P} held starts h none =
    let fs = flat_map (λ (g : Group P). files_of g) held.groups in
    let many : length starts ≡ length fs = ap (λ (l : List FileStart). length l) h.found ∙ length-all-starts held.groups in
    omega (arith, no-files fs (omega (arith, many, none)), ids-count held starts h)
  where
    no-files : (fs : List SequencedFile) → length fs ≡ 0 → id_count fs ≡ 0
    no-files [] e = refl
    no-files (f ∷ fs) e = absurd (omega (arith, e))

-- the file that begins last ends with the symbols
last-held : {P : Type 0} (held : HeldFiles P) (starts : List FileStart) → AreHeld held starts → (k : ℕ) (x : FileStart) → suc k ≡ length starts → slice_get starts k ≡ Some x
    → (f : SequencedFile) × ((file_at held.groups x.id ≡ Some f) × (f.symbols.start + f.symbols.len ≡ length (names_in held)))
last-held {P} held starts h k x last is =
    let fs = flat_map (λ (g : Group P). files_of g) held.groups in
    let many : length starts ≡ length fs = ap (λ (l : List FileStart). length l) h.found ∙ length-all-starts held.groups in
    let s = start-file held.groups k x h.places (subst (λ (l : List FileStart). slice_get l k ≡ Some x) h.found is) in
    (s.0, (s.1.1.0, omega (arith, run-last 0 fs h.numbered.runs k s.0 s.1.0 (last ∙ many), ids-count held starts h)))

-- the same, of the last start as it is read
pub last-read : {P : Type 0} (held : HeldFiles P) (starts : List FileStart) → AreHeld held starts → (n : ℕ) (x : FileStart) → n ≡ length starts → (n ≡ 0 → ⊥) → x ≡ get_or starts (n - 1) x
    → (f : SequencedFile) × ((file_at held.groups x.id ≡ Some f) × (f.symbols.start + f.symbols.len ≡ length (names_in held)))
last-read held starts h zero x all some read = absurd (some refl)
last-read held starts h (suc k) x all some read =
    let place : suc k - 1 ≡ k = omega arith in
    let there : slice_get starts (suc k - 1) ≡ Some x = slice_get_read starts (length starts) (suc k - 1) x refl (omega (arith, all)) read in
    last-held held starts h k x all (subst (λ n. slice_get starts n ≡ Some x) place there)
