-- The symbols of the objects of a made-up link: which of them define a name, and that none has a version.
use Rattle.std.proofs.Common.{◌≡◌, ℕ, ◌+◌, ◌*◌, List, [], ◌∷◌, ◌++◌, Bool, true, false, map, cond, refl, sym, ◌∙◌, ap, inl, inr, ◌⊎◌, None, Contains}
use Rattle.std.specs.Prelude.{◌%◌, ◌==◌, nat_le}
use Rattle.link_closure.proofs.Joins.{contains_append}
use Rattle.link_input.specs.declared.symbol_entry.SymbolEntry.{SymbolEntry}
use Rattle.link_input.specs.declared.symbol_entry.Place.{Place}
use Rattle.link_input.specs.declared.symbol_entry.Place.TheVariants.{Undefined, Section}
use Rattle.link_input.specs.Entries.{is_undefined}
use Rattle.link_input.specs.ObjectFile.{ObjectFile}
use Rattle.link_input.specs.Symbols.{Symbol, object_symbol}
use Rattle.link_rules.specs.Names.{is_listed}
use Rattle.link_rules.proofs.Settled.{here_or_there, nothing_in}
use Rattle.link_rules.proofs.Members.{map_from}
use Rattle.link_manifest_bulk.specs.Names.{own_name, shared_name}
use Rattle.link_manifest_bulk.specs.Tables.{null_entry, global_entry, reference_to, references}
use Rattle.link_manifest_bulk.specs.Bulk.{main_object, member_object, bulk_object}

-- the object at a place, by whether it is the first
abbrev pub object_by : Bool → ℕ → ℕ → ObjectFile
object_by is_first members i = cond is_first main_object (member_object members i)

-- the symbols of an object
abbrev pub symbols_in : ℕ → ObjectFile → List Symbol
symbols_in i o = map (object_symbol i o) o.object.symbols

-- the symbol that a member alone defines
abbrev pub own_symbol : ℕ → ℕ → Symbol
own_symbol members i = object_symbol i (member_object members i) (global_entry (own_name i) (Section 1))

-- the symbol that a member shares
abbrev pub shared_symbol : ℕ → ℕ → Symbol
shared_symbol members i = object_symbol i (member_object members i) (global_entry (shared_name i) (Section 2))

-- a reference to a member's own name
IsReference : SymbolEntry → Type 0
IsReference e = (k : ℕ) × (global_entry (own_name k) Undefined ≡ e)

-- what refers to a member is a reference
reference-is : (members i : ℕ) (e : SymbolEntry) → Contains (reference_to members i) e → IsReference e
unfolding IsReference
reference-is members i e within = by_test (nat_le i members) within
  where
    by_test : (b : Bool) → Contains (cond b (global_entry (own_name i) Undefined ∷ []) []) e → (k : ℕ) × (global_entry (own_name k) Undefined ≡ e)
    by_test true one = elim (here_or_there (global_entry (own_name i) Undefined) [] e one) [
      | inl is ↦ (i, is)
      | inr none ↦ absurd (nothing_in e none)
    ]
    by_test false none = absurd (nothing_in e none)

-- so is each reference of a member
references-are : (members i : ℕ) (e : SymbolEntry) → Contains (references members i) e → IsReference e
references-are members i e within = by_test (i % 5 == 0) within
  where
    by_test : (b : Bool) → Contains (cond b [] (reference_to members (2 * i) ++ reference_to members (2 * i + 1))) e → IsReference e
    by_test true none = absurd (nothing_in e none)
    by_test false some = elim (contains_append e (reference_to members (2 * i)) (reference_to members (2 * i + 1)) some) [
      | inl first ↦ reference-is members (2 * i) e first
      | inr second ↦ reference-is members (2 * i + 1) e second
    ]

-- ---- definitions

-- among the symbols of entries that stand nowhere none is a definition
none-listed : (i : ℕ) (o : ObjectFile) (es : List SymbolEntry) → ((e : SymbolEntry) → Contains es e → is_undefined e.place ≡ true)
    → (x : Symbol) → Contains (map (object_symbol i o) es) x → is_listed x ≡ true → ⊥
none-listed i o es all x within listed =
    let from = map_from (object_symbol i o) es x within in
    let never : false ≡ true = sym (unlisted from.0 (all from.0 from.1)) ∙ ap is_listed from.2 ∙ listed in
    cc
  where
    unlisted : (e : SymbolEntry) → is_undefined e.place ≡ true → is_listed (object_symbol i o e) ≡ false
    unlisted e undefined = rw undefined refl

-- so it is for the references of a member
pub references-unlisted : (i : ℕ) (o : ObjectFile) (members k : ℕ) (x : Symbol) → Contains (map (object_symbol i o) (references members k)) x → is_listed x ≡ true → ⊥
unfolding IsReference
references-unlisted i o members k = none-listed i o (references members k) (λ e within. ap (λ (d : SymbolEntry). is_undefined d.place) (sym (references-are members k e within).1))

-- so it is for the null entry
pub null-unlisted : (i : ℕ) (o : ObjectFile) (x : Symbol) → Contains (map (object_symbol i o) (null_entry ∷ [])) x → is_listed x ≡ true → ⊥
null-unlisted i o = none-listed i o (null_entry ∷ []) (λ e within. elim (here_or_there null_entry [] e within) [
  | inl is ↦ ap (λ (d : SymbolEntry). is_undefined d.place) (sym is)
  | inr none ↦ absurd (nothing_in e none)
])

-- so it is for the object that is linked in any case
pub main-unlisted : (i : ℕ) (x : Symbol) → Contains (symbols_in i main_object) x → is_listed x ≡ true → ⊥
main-unlisted i = none-listed i main_object main_object.object.symbols (λ e within. elim (here_or_there null_entry (global_entry (own_name 1) Undefined ∷ []) e within) [
  | inl is ↦ ap (λ (d : SymbolEntry). is_undefined d.place) (sym is)
  | inr deeper ↦ elim (here_or_there (global_entry (own_name 1) Undefined) [] e deeper) [
    | inl is ↦ ap (λ (d : SymbolEntry). is_undefined d.place) (sym is)
    | inr none ↦ absurd (nothing_in e none)
  ]
])

-- the definitions of a member are its own symbol and the one that it shares
member-definitions : (members i : ℕ) (x : Symbol) → Contains (symbols_in i (member_object members i)) x → is_listed x ≡ true
    → (x ≡ own_symbol members i) ⊎ (x ≡ shared_symbol members i)
member-definitions members i x within listed =
    let o = member_object members i in
    elim (contains_append x (map (object_symbol i o) (null_entry ∷ [])) (own_symbol members i ∷ shared_symbol members i ∷ map (object_symbol i o) (references members i)) within) [
      | inl null ↦ absurd (null-unlisted i o x null listed)
      | inr rest ↦ elim (here_or_there (own_symbol members i) (shared_symbol members i ∷ map (object_symbol i o) (references members i)) x rest) [
        | inl own ↦ inl (sym own)
        | inr deeper ↦ elim (here_or_there (shared_symbol members i) (map (object_symbol i o) (references members i)) x deeper) [
          | inl shared ↦ inr (sym shared)
          | inr other ↦ absurd (references-unlisted i o members i x other listed)
        ]
      ]
    ]

-- the object of a definition is a member, and the definition is one of its two
pub record IsOfMember (members i : ℕ) (x : Symbol) : Type 0 where
  pub member : bulk_object members i ≡ member_object members i
  pub kind : (x ≡ own_symbol members i) ⊎ (x ≡ shared_symbol members i)

-- each definition is so
pub definition-of : (members i : ℕ) (x : Symbol) → Contains (symbols_in i (bulk_object members i)) x → is_listed x ≡ true → IsOfMember members i x
definition-of members i x within listed = by_first (i == 0) refl within
  where
    by_first : (b : Bool) → (i == 0) ≡ b → Contains (symbols_in i (object_by b members i)) x → IsOfMember members i x
    by_first true is main = absurd (main-unlisted i x main listed)
    by_first false is member = record {
      member = ap (λ b. object_by b members i) is;
      kind = member-definitions members i x member listed;
    }

-- ---- versions

-- a global entry has no version
global-unversioned : (name : List ℕ) (place : Place) (e : SymbolEntry) → global_entry name place ≡ e → e.version ≡ None
global-unversioned name place e is = ap (λ (d : SymbolEntry). d.version) (sym is)

-- nor has any entry of an object
pub entry-unversioned : (members i : ℕ) (e : SymbolEntry) → Contains (bulk_object members i).object.symbols e → e.version ≡ None
unfolding IsReference
entry-unversioned members i e within = by_first (i == 0) within
  where
    by_first : (b : Bool) → Contains (object_by b members i).object.symbols e → e.version ≡ None
    by_first true at = elim (here_or_there null_entry (global_entry (own_name 1) Undefined ∷ []) e at) [
      | inl is ↦ ap (λ (d : SymbolEntry). d.version) (sym is)
      | inr deeper ↦ elim (here_or_there (global_entry (own_name 1) Undefined) [] e deeper) [
        | inl is ↦ global-unversioned (own_name 1) Undefined e is
        | inr none ↦ absurd (nothing_in e none)
      ]
    ]
    by_first false at = elim (here_or_there null_entry (global_entry (own_name i) (Section 1) ∷ global_entry (shared_name i) (Section 2) ∷ references members i) e at) [
      | inl is ↦ ap (λ (d : SymbolEntry). d.version) (sym is)
      | inr deeper ↦ elim (here_or_there (global_entry (own_name i) (Section 1)) (global_entry (shared_name i) (Section 2) ∷ references members i) e deeper) [
        | inl is ↦ global-unversioned (own_name i) (Section 1) e is
        | inr further ↦ elim (here_or_there (global_entry (shared_name i) (Section 2)) (references members i) e further) [
          | inl is ↦ global-unversioned (shared_name i) (Section 2) e is
          | inr other ↦ let it = references-are members i e other in global-unversioned (own_name it.0) Undefined e it.1
        ]
      ]
    ]
