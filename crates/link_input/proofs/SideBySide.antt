-- Columns side by side.
use Rattle.std.proofs.Common.{◌≡◌, ◌<◌, ◌∙◌, ℕ, zero, suc, Bool, List, [], ◌∷◌, length, map, slice_get, Option, Some, option_map, refl, ap, sym, subst, arith}
use Rattle.std.specs.List.{zip, All, AllZip}
use Rattle.std.proofs.lemmas.List.{length-map}
use Rattle.std.proofs.lemmas.Option.{same_Some, slice_get-get_or, slice_get-map, slice_get_within, get_or_from_slice_get}
use Rattle.std.proofs.lemmas.Slice.Zip.{AllZip-long}
use Rattle.link_flags.specs.declared.visibility.Visibility.{Visibility}
use Rattle.link_input.specs.declared.symbol_entry.SymbolEntry.{SymbolEntry}
use Rattle.link_input.specs.declared.symbol_entry.SymbolBinding.{SymbolBinding}
use Rattle.link_input.specs.declared.symbol_entry.SymbolKind.{SymbolKind}
use Rattle.link_input.specs.declared.symbol_entry.Place.{Place}
use Rattle.link_input.specs.declared.name_block.Span.{Span}
use Rattle.link_input.specs.declared.symbol_columns.SymbolColumns.TheInside.{Inside}
use Rattle.link_input.specs.NameBlock.{bytes_at, IsAt, IsVersionAt}
use Rattle.link_input.specs.Columns.{entry_at, entry_of, null_entry, side_by_side, entries_of, AreColumns}
use Rattle.link_input.proofs.InBlock.{names_read, versions_read, names_inside, versions_inside}

-- the fields of entries side by side are the entries
fields_of : (es : List SymbolEntry) → side_by_side (map (λ (e : SymbolEntry). e.name) es) (map (λ (e : SymbolEntry). e.version) es) (map (λ (e : SymbolEntry). e.is_default) es)
    (map (λ (e : SymbolEntry). e.binding) es) (map (λ (e : SymbolEntry). e.visibility) es) (map (λ (e : SymbolEntry). e.kind) es) (map (λ (e : SymbolEntry). e.size) es) (map (λ (e : SymbolEntry). e.place) es) ≡ es
fields_of [] = refl
fields_of (e ∷ es) = ap (λ (rest : List SymbolEntry). e ∷ rest) (fields_of es)

pub same_entries : (es : List SymbolEntry) (names : List (List ℕ)) (versions : List (Option (List ℕ))) (defaults : List Bool) (bindings : List SymbolBinding) (visibilities : List Visibility)
    (kinds : List SymbolKind) (sizes : List ℕ) (places : List Place)
    → names ≡ map (λ (e : SymbolEntry). e.name) es → versions ≡ map (λ (e : SymbolEntry). e.version) es → defaults ≡ map (λ (e : SymbolEntry). e.is_default) es
    → bindings ≡ map (λ (e : SymbolEntry). e.binding) es → visibilities ≡ map (λ (e : SymbolEntry). e.visibility) es → kinds ≡ map (λ (e : SymbolEntry). e.kind) es
    → sizes ≡ map (λ (e : SymbolEntry). e.size) es → places ≡ map (λ (e : SymbolEntry). e.place) es
    → side_by_side names versions defaults bindings visibilities kinds sizes places ≡ es
same_entries es names versions defaults bindings visibilities kinds sizes places n v d b w k z p = rw (n, v, d, b, w, k, z, p) (fields_of es)

-- what stands at a place of two lists side by side
zip_at : {A B : Type 0} (xs : List A) (ys : List B) (i : ℕ) (x : A) (y : B) → slice_get xs i ≡ Some x → slice_get ys i ≡ Some y → slice_get (zip xs ys) i ≡ Some (x, y)
zip_at [] ys i x y at with = cc
zip_at (a ∷ xs) [] i x y at with = cc
zip_at (a ∷ xs) (b ∷ ys) zero x y at with = cc
zip_at (a ∷ xs) (b ∷ ys) (suc i) x y at with = zip_at xs ys i x y at with

-- the entry at a place has the fields that stand there
pub fields_at : (names : List (List ℕ)) (versions : List (Option (List ℕ))) (defaults : List Bool) (bindings : List SymbolBinding) (visibilities : List Visibility)
    (kinds : List SymbolKind) (sizes : List ℕ) (places : List Place) (i : ℕ) (e : SymbolEntry)
    → slice_get names i ≡ Some e.name → slice_get versions i ≡ Some e.version → slice_get defaults i ≡ Some e.is_default
    → slice_get bindings i ≡ Some e.binding → slice_get visibilities i ≡ Some e.visibility → slice_get kinds i ≡ Some e.kind
    → slice_get sizes i ≡ Some e.size → slice_get places i ≡ Some e.place
    → slice_get (side_by_side names versions defaults bindings visibilities kinds sizes places) i ≡ Some e
fields_at names versions defaults bindings visibilities kinds sizes places i e n v d b w k z p =
    let seven = zip_at sizes places i _ _ z p in
    let six = zip_at kinds (zip sizes places) i _ _ k seven in
    let five = zip_at visibilities (zip kinds (zip sizes places)) i _ _ w six in
    let four = zip_at bindings (zip visibilities (zip kinds (zip sizes places))) i _ _ b five in
    let three = zip_at defaults (zip bindings (zip visibilities (zip kinds (zip sizes places)))) i _ _ d four in
    let two = zip_at versions (zip defaults (zip bindings (zip visibilities (zip kinds (zip sizes places))))) i _ _ v three in
    let all = zip names (zip versions (zip defaults (zip bindings (zip visibilities (zip kinds (zip sizes places)))))) in
    let one = zip_at names (zip versions (zip defaults (zip bindings (zip visibilities (zip kinds (zip sizes places)))))) i _ _ n two in
    slice_get-map entry_of all i ∙ ap (option_map entry_of) one

length_zip : {A B : Type 0} (n : ℕ) (xs : List A) (ys : List B) → length xs ≡ n → length ys ≡ n → length (zip xs ys) ≡ n
length_zip n [] ys at with = at
length_zip n (x ∷ xs) [] at with = absurd (omega arith)
length_zip n (x ∷ xs) (y ∷ ys) at with = omega (arith, length_zip (length xs) xs ys refl (omega arith))

-- as many entries as fields in each column
pub how_many : (n : ℕ) (names : List (List ℕ)) (versions : List (Option (List ℕ))) (defaults : List Bool) (bindings : List SymbolBinding) (visibilities : List Visibility)
    (kinds : List SymbolKind) (sizes : List ℕ) (places : List Place)
    → length names ≡ n → length versions ≡ n → length defaults ≡ n → length bindings ≡ n → length visibilities ≡ n → length kinds ≡ n → length sizes ≡ n → length places ≡ n
    → length (side_by_side names versions defaults bindings visibilities kinds sizes places) ≡ n
how_many n names versions defaults bindings visibilities kinds sizes places a b c d e f g h =
    length-map (zip names (zip versions (zip defaults (zip bindings (zip visibilities (zip kinds (zip sizes places))))))) entry_of
    ∙ length_zip n names _ a (length_zip n versions _ b (length_zip n defaults _ c (length_zip n bindings _ d (length_zip n visibilities _ e (length_zip n kinds _ f (length_zip n sizes places g h))))))

-- each column has what its field is of some entries
pub record HoldsEntries (c : Inside) (es : List SymbolEntry) : Type 0 where
  pub names : AllZip (IsAt c.block.items) c.names.items (map (λ (e : SymbolEntry). e.name) es)
  pub versions : AllZip (IsVersionAt c.block.items) c.versions.items (map (λ (e : SymbolEntry). e.version) es)
  pub defaults : c.defaults.items ≡ map (λ (e : SymbolEntry). e.is_default) es
  pub bindings : c.bindings.items ≡ map (λ (e : SymbolEntry). e.binding) es
  pub visibilities : c.visibilities.items ≡ map (λ (e : SymbolEntry). e.visibility) es
  pub kinds : c.kinds.items ≡ map (λ (e : SymbolEntry). e.kind) es
  pub sizes : c.sizes.items ≡ map (λ (e : SymbolEntry). e.size) es
  pub places : c.places.items ≡ map (λ (e : SymbolEntry). e.place) es

-- then they are the entries of the columns
pub are_entries : (c : Inside) (es : List SymbolEntry) → HoldsEntries c es → entries_of c ≡ es
are_entries c es holds =
    same_entries es _ _ _ _ _ _ _ _
    (names_read c.block.items c.names.items (map (λ (e : SymbolEntry). e.name) es) holds.names)
    (versions_read c.block.items c.versions.items (map (λ (e : SymbolEntry). e.version) es) holds.versions)
    holds.defaults holds.bindings holds.visibilities holds.kinds holds.sizes holds.places

-- a column that is a field of each of some entries has as many
as_many : {A : Type 0} (field : SymbolEntry → A) (n : ℕ) (column : List A) (es : List SymbolEntry) → length es ≡ n → column ≡ map field es → length column ≡ n
as_many field n column es count same = ap length same ∙ length-map es field ∙ count

-- and the columns are in order
pub are_columns : (c : Inside) (es : List SymbolEntry) → HoldsEntries c es → AreColumns c
are_columns c es holds =
    let names : length es ≡ length c.names.items = omega (arith, AllZip-long (IsAt c.block.items) c.names.items (map (λ (e : SymbolEntry). e.name) es) holds.names, length-map es (λ (e : SymbolEntry). e.name)) in
    let count = length c.names.items in
    record {
      names_inside = names_inside c.block.items c.names.items (map (λ (e : SymbolEntry). e.name) es) holds.names;
      versions_inside = versions_inside c.block.items c.versions.items (map (λ (e : SymbolEntry). e.version) es) holds.versions;
      versions = omega (arith, names, AllZip-long (IsVersionAt c.block.items) c.versions.items (map (λ (e : SymbolEntry). e.version) es) holds.versions, length-map es (λ (e : SymbolEntry). e.version));
      defaults = as_many (λ (e : SymbolEntry). e.is_default) count c.defaults.items es names holds.defaults;
      bindings = as_many (λ (e : SymbolEntry). e.binding) count c.bindings.items es names holds.bindings;
      visibilities = as_many (λ (e : SymbolEntry). e.visibility) count c.visibilities.items es names holds.visibilities;
      kinds = as_many (λ (e : SymbolEntry). e.kind) count c.kinds.items es names holds.kinds;
      sizes = as_many (λ (e : SymbolEntry). e.size) count c.sizes.items es names holds.sizes;
      places = as_many (λ (e : SymbolEntry). e.place) count c.places.items es names holds.places;
    }

-- as many entries as names
pub num_entries : (c : Inside) → AreColumns c → length (entries_of c) ≡ length c.names.items
num_entries c are =
    how_many (length c.names.items) (map (bytes_at c.block.items) c.names.items) (map (option_map (bytes_at c.block.items)) c.versions.items)
    c.defaults.items c.bindings.items c.visibilities.items c.kinds.items c.sizes.items c.places.items
    (length-map c.names.items (bytes_at c.block.items)) (length-map c.versions.items (option_map (bytes_at c.block.items)) ∙ are.versions)
    are.defaults are.bindings are.visibilities are.kinds are.sizes are.places

-- a place is one of each column
pub record HasPlace (c : Inside) (i : ℕ) : Type 0 where
  pub names : i < length c.names.items
  pub versions : i < length c.versions.items
  pub defaults : i < length c.defaults.items
  pub bindings : i < length c.bindings.items
  pub visibilities : i < length c.visibilities.items
  pub kinds : i < length c.kinds.items
  pub sizes : i < length c.sizes.items
  pub places : i < length c.places.items

-- the place of an entry is one of each column
pub has_place : (c : Inside) (es : List SymbolEntry) (i : ℕ) → entries_of c ≡ es → AreColumns c → i < length es → HasPlace c i
has_place c es i view are within =
    let count : length es ≡ length c.names.items = ap length (sym view) ∙ num_entries c are in
    record {
      names = omega (arith, within, count);
      versions = omega (arith, within, count, are.versions);
      defaults = omega (arith, within, count, are.defaults);
      bindings = omega (arith, within, count, are.bindings);
      visibilities = omega (arith, within, count, are.visibilities);
      kinds = omega (arith, within, count, are.kinds);
      sizes = omega (arith, within, count, are.sizes);
      places = omega (arith, within, count, are.places);
    }

-- what holds of each holds of the one at a place
pub holds_at : {A : Type 0} (P : A → Type 0) (xs : List A) (i : ℕ) (x : A) → All P xs → slice_get xs i ≡ Some x → P x
holds_at P xs i x all at = subst P (get_or_from_slice_get xs i x x at) (all i x (slice_get_within xs i x at))

-- the entry at a place is what the columns have there
pub row_of : (c : Inside) (i : ℕ) (span : Span) (version : Option Span) (e : SymbolEntry)
    → slice_get c.names.items i ≡ Some span → e.name ≡ bytes_at c.block.items span
    → slice_get c.versions.items i ≡ Some version → e.version ≡ option_map (bytes_at c.block.items) version
    → slice_get c.defaults.items i ≡ Some e.is_default → slice_get c.bindings.items i ≡ Some e.binding → slice_get c.visibilities.items i ≡ Some e.visibility
    → slice_get c.kinds.items i ≡ Some e.kind → slice_get c.sizes.items i ≡ Some e.size → slice_get c.places.items i ≡ Some e.place
    → slice_get (entries_of c) i ≡ Some e
row_of c i span version e at name at_version is_version d b w k z p =
    fields_at (map (bytes_at c.block.items) c.names.items) (map (option_map (bytes_at c.block.items)) c.versions.items)
    c.defaults.items c.bindings.items c.visibilities.items c.kinds.items c.sizes.items c.places.items i e
    (slice_get-map (bytes_at c.block.items) c.names.items i ∙ ap (option_map (bytes_at c.block.items)) at ∙ ap Some (sym name))
    (slice_get-map (option_map (bytes_at c.block.items)) c.versions.items i ∙ ap (option_map (option_map (bytes_at c.block.items))) at_version ∙ ap Some (sym is_version))
    d b w k z p

-- something stands at each place
there : {A : Type 0} (xs : List A) (i : ℕ) → i < length xs → (x : A) × (slice_get xs i ≡ Some x)
there [] i lt = absurd (omega arith)
there (x ∷ xs) zero lt = (x, refl)
there (x ∷ xs) (suc i) lt = there xs i (omega (arith, lt))

-- the entry at a place, and what the columns have of it there
pub record RowAt (c : Inside) (es : List SymbolEntry) (i : ℕ) : Type 0 where
  pub entry : SymbolEntry
  pub here : slice_get es i ≡ Some entry
  pub span : Span
  pub at : slice_get c.names.items i ≡ Some span
  pub name : entry.name ≡ bytes_at c.block.items span
  pub version_span : Option Span
  pub version_at : slice_get c.versions.items i ≡ Some version_span
  pub version : entry.version ≡ option_map (bytes_at c.block.items) version_span
  pub is_default : slice_get c.defaults.items i ≡ Some entry.is_default
  pub binding : slice_get c.bindings.items i ≡ Some entry.binding
  pub visibility : slice_get c.visibilities.items i ≡ Some entry.visibility
  pub kind : slice_get c.kinds.items i ≡ Some entry.kind
  pub size : slice_get c.sizes.items i ≡ Some entry.size
  pub place : slice_get c.places.items i ≡ Some entry.place

pub row_at : (c : Inside) (es : List SymbolEntry) (i : ℕ) → entries_of c ≡ es → AreColumns c → i < length es → RowAt c es i
row_at c es i view are within =
    let h = has_place c es i view are within in
    let name = there c.names.items i h.names in
    let version = there c.versions.items i h.versions in
    let is_default = there c.defaults.items i h.defaults in
    let binding = there c.bindings.items i h.bindings in
    let visibility = there c.visibilities.items i h.visibilities in
    let kind = there c.kinds.items i h.kinds in
    let size = there c.sizes.items i h.sizes in
    let place = there c.places.items i h.places in
    let e : SymbolEntry = record {
      name = bytes_at c.block.items name.0;
      version = option_map (bytes_at c.block.items) version.0;
      is_default = is_default.0;
      binding = binding.0;
      visibility = visibility.0;
      kind = kind.0;
      size = size.0;
      place = place.0;
    } in
    record {
      entry = e;
      here = subst (λ (xs : List SymbolEntry). slice_get xs i ≡ Some e) view
          (row_of c i name.0 version.0 e name.1 refl version.1 refl is_default.1 binding.1 visibility.1 kind.1 size.1 place.1);
      span = name.0;
      at = name.1;
      name = refl;
      version_span = version.0;
      version_at = version.1;
      version = refl;
      is_default = is_default.1;
      binding = binding.1;
      visibility = visibility.1;
      kind = kind.1;
      size = size.1;
      place = place.1;
    }

-- a field of the entry at a place is what is read of it
pub field_of : {A : Type 0} (field : SymbolEntry → A) (es : List SymbolEntry) (i : ℕ) (e : SymbolEntry) (x : A) → entry_at es i ≡ e → i < length es → option_map field (slice_get es i) ≡ Some x → x ≡ field e
field_of field es i e x is within read =
    same_Some x (field e) (sym read ∙ (ap (option_map field) (slice_get-get_or es i null_entry within) ∙ ap (λ (y : SymbolEntry). Some (field y)) is))
