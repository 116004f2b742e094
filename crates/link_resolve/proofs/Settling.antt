-- What is known of selections once their rivals are settled.
use Rattle.std.proofs.Common.{◌≡◌, ◌+◌, ◌<◌, ◌∙◌, ◌++◌, ℕ, zero, suc, List, [], ◌∷◌, Bool, Option, Some, append-nil, append_assoc, ap, drop, get_or, length, map, refl, subst, sym}
use Rattle.std.specs.Prelude.{slice_get, slice_index_or, take}
use Rattle.std.specs.Option.{option_map_or, option_or}
use Rattle.std.proofs.lemmas.List.{length-map}
use Rattle.link_db_files.specs.GroupFiles.{symbols_in}
use Rattle.link_db_files.specs.HeldFiles.{HeldFiles, names_in}
use Rattle.link_input.specs.Symbols.{Symbol}
use Rattle.link_rules.specs.Places.{Bytes, first_of}
use Rattle.link_rules.specs.Rules.{PlatformRules}
use Rattle.link_rules.specs.Selection.{Selection}
use Rattle.link_rules.specs.Undefined.{Numbered, boundary_makers, is_boundary_maker, left_undefined, stays_undefined}
use Rattle.std.specs.List.{enumerate_from}
use Rattle.link_db_texts.proofs.Forced.{rest_is}
use Rattle.link_db_mapping.specs.Keys.{plain_key}
use Rattle.link_resolve_undefined.proofs.Numbering.{AreAt, all-at, filter-at, reverse-at}
use Rattle.link_resolve_undefined.specs.Records.{TellsOf}
use Rattle.link_db.specs.Database.{Database, symbol_names}
use Rattle.link_resolve.specs.Known.{IsSelection, Known}
use Rattle.link_resolve.specs.Settled.{IsSettled}

-- the first of a list is the first of its head alone
first-kept : (xs : List ℕ) → first_of (take 1 xs) ≡ first_of xs
first-kept [] = refl
first-kept (x ∷ xs) = refl

-- what is known of a selection is told once later definitions are given up, whatever symbols point to
pub settled-by : {P : Type 0} (platform : PlatformRules) (demangle : Bytes → Bytes) (old left : Database P) (known : Known) (l : Selection)
    → left ≡ record old { table = left.table; mapping = record old.mapping { lists = λ key. take 1 (old.mapping.lists key) } }
    → IsSelection platform demangle old known l → IsSettled left known l
settled-by {P} platform demangle old left known l is sel = subst (λ (d : Database P). IsSettled d known l) (sym is) (record {
  objects = sel.stage.objects;
  symbols = sel.stage.symbols;
  options = sel.stage.options;
  names = λ name. ap (option_or (old.mapping.overridden name)) (first-kept (old.mapping.lists (plain_key name))) ∙ sel.stage.names name;
  marks = sel.marks;
  targets = sel.targets;
})

-- the names of all symbols are as many as the symbols of files, where the linker made none
pub count-symbols : {P : Type 0} (held files : HeldFiles P) → held ≡ files → files.added ≡ [] → length (symbols_in held.groups) ≡ length (names_in files)
count-symbols {P} held files is none =
    let names = map (λ (x : Symbol). x.name) (symbols_in files.groups) in
    ap (λ (f : HeldFiles P). length (symbols_in f.groups)) is
    ∙ sym (ap (λ (more : List Bytes). length (names ++ more)) none ∙ ap length (append-nil names) ∙ length-map (symbols_in files.groups) (λ (x : Symbol). x.name))

-- columns tell of a selection that is settled
pub told-of : {P : Type 0} (db : Database P) (known : Known) (held : HeldFiles P) (marks : List Bool) (targets : List (Option ℕ)) (l : Selection)
    → IsSettled db known l → held ≡ db.mapping.files → marks ≡ known.marks → targets ≡ known.targets → TellsOf (symbols_in held.groups) marks targets l
told-of {P} db known held marks targets l settled files loaded stands = record {
  symbols_are = settled.symbols ∙ sym (ap (λ (f : HeldFiles P). symbols_in f.groups) files);
  marks_are = settled.marks ∙ sym loaded;
  targets_are = settled.targets ∙ sym stands;
}

-- the references for which symbols are made are found by their ids
makers-at : (l : Selection) → AreAt l.stage.symbols (boundary_makers l.stage (left_undefined l))
makers-at l =
    let symbols = l.stage.symbols in
    let left = left_undefined l in
    let makes = λ (u : Numbered). is_boundary_maker l.stage left u in
    reverse-at symbols _ (filter-at symbols makes left (filter-at symbols (λ (u : Numbered). stays_undefined l u) (enumerate_from 0 symbols) (all-at symbols)))

name-read : (symbols : List Symbol) (s : ℕ) (x : Symbol) → slice_get symbols s ≡ Some x → slice_index_or (map (λ (y : Symbol). y.name) symbols) s [] ≡ x.name
name-read [] s x at = absurd (cc)
name-read (y ∷ ys) zero x at = ap (λ (o : Option Symbol). option_map_or (λ z. z.name) o []) at
name-read (y ∷ ys) (suc s) x at = name-read ys s x at

-- the names of symbols by their ids, where the linker made none
pub names-at : (symbols : List Symbol) (added : List Bytes) (us : List Numbered) → added ≡ [] → AreAt symbols us
    → map (λ s. slice_index_or (map (λ (y : Symbol). y.name) symbols ++ added) s []) (map (λ (u : Numbered). u.0) us) ≡ map (λ (u : Numbered). u.1.name) us
names-at symbols added us none at =
    let ids = map (λ (u : Numbered). u.0) us in
    let own = map (λ (y : Symbol). y.name) symbols in
    ap (λ (more : List Bytes). map (λ s. slice_index_or (own ++ more) s []) ids) none
    ∙ ap (λ (names : List Bytes). map (λ s. slice_index_or names s []) ids) (append-nil own) ∙ each us at
  where
    each : (us : List Numbered) → AreAt symbols us → map (λ s. slice_index_or (map (λ (y : Symbol). y.name) symbols) s []) (map (λ (u : Numbered). u.0) us) ≡ map (λ (u : Numbered). u.1.name) us
    each [] at = refl
    each (u ∷ us) at = (λ i. name-read symbols u.0 u.1 at.0 i ∷ each us at.1 i)

-- the names for which symbols are made
pub names-made-for : {P : Type 0} (db : Database P) (known : Known) (l : Selection) → IsSettled db known l → db.mapping.files.added ≡ []
    → map (λ s. slice_index_or (symbol_names db) s []) (map (λ (u : Numbered). u.0) (boundary_makers l.stage (left_undefined l))) ≡ map (λ (u : Numbered). u.1.name) (boundary_makers l.stage (left_undefined l))
names-made-for db known l settled none =
    let us = boundary_makers l.stage (left_undefined l) in
    names-at (symbols_in db.mapping.files.groups) db.mapping.files.added us none (subst (λ (xs : List Symbol). AreAt xs us) settled.symbols (makers-at l))

read-at : (all : List Bytes) (s : ℕ) (name : Bytes) → slice_get all s ≡ Some name → slice_index_or all s [] ≡ name
read-at [] s name at = absurd (cc)
read-at (n ∷ ns) zero name at = ap (λ (o : Option Bytes). option_map_or (λ own. own) o []) at
read-at (n ∷ ns) (suc s) name at = read-at ns s name at

-- the name of one symbol more
pub name-more : (all : List Bytes) (ids : List ℕ) (i s : ℕ) (name : Bytes) (old new whole : List Bytes) → i < length ids → s ≡ get_or ids i s → slice_get all s ≡ Some name → new ≡ old ++ name ∷ []
    → old ++ map (λ s. slice_index_or all s []) (drop i ids) ≡ whole → new ++ map (λ s. slice_index_or all s []) (drop (i + 1) ids) ≡ whole
name-more all ids i s name old new whole lt is at more before =
    let rest = map (λ s. slice_index_or all s []) (drop (i + 1) ids) in
    ap (λ (names : List Bytes). names ++ rest) (more ∙ ap (λ (n : Bytes). old ++ n ∷ []) (sym (read-at all s name at))) ∙ append_assoc old (slice_index_or all s [] ∷ []) rest
    ∙ sym (ap (λ (left : List ℕ). old ++ map (λ s. slice_index_or all s []) left) (rest_is ids i s lt is)) ∙ before
