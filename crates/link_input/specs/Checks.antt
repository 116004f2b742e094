-- The checks of an object's table, in their order (ELF gABI, "Symbol Table", "Section Groups" and "Relocation").
use Rattle.std.specs.Prelude.{ℕ, Bool, false, ◌&&◌, ◌||◌, ◌+◌, ◌==◌, not, is_none, nat_le, length, List, [], ◌∷◌, take, Option, Some, None, option_map, find, if◌then◌else◌}
use Rattle.std.specs.Option.{option_or, option_map_or}
use Rattle.std.specs.List.{list_any}
use Rattle.link_input.specs.declared.symbol_entry.SymbolEntry.{SymbolEntry}
use Rattle.link_input.specs.declared.object.SectionGroup.{SectionGroup}
use Rattle.link_input.specs.declared.object.SectionReference.{SectionReference}
use Rattle.link_input.specs.declared.object.ObjectTable.{ObjectTable}
use Rattle.link_input.specs.declared.table_error.TableError.{TableError}
use Rattle.link_input.specs.declared.table_error.TableError.TheVariants.{NullEntry, UndefinedLocal, VersionlessNotDefault, SectionRange, SignatureRange, MemberRange, HeaderTwice, HeaderIsMember, ReferenceRange, RetainRange}
use Rattle.link_input.specs.Entries.{is_undefined, is_local, section_of}
use Rattle.link_input.specs.Interposition.{is_default_visibility}

-- the least place, counted from a number on, where a test of place and item holds
abbrev pub first_place : {A : Type 0} → (ℕ → A → Bool) → ℕ → List A → Option ℕ
first_place p i [] = None
first_place p i (x ∷ xs) = if p i x then Some i else first_place p (i + 1) xs

-- an entry that stands for no symbol
abbrev pub is_null : SymbolEntry → Bool
is_null e = is_undefined e.place && is_local e.binding && (length e.name == 0) && is_default_visibility e.visibility && is_none e.version

-- entry 0 is there and is to stand for no symbol, and doesn't
abbrev pub lacks_null : Bool → List SymbolEntry → Bool
lacks_null has_null [] = false
lacks_null has_null (e ∷ es) = has_null && not (is_null e)

-- undefined and local, and not the null entry
abbrev pub is_undefined_local : Bool → ℕ → SymbolEntry → Bool
is_undefined_local has_null i e = is_undefined e.place && is_local e.binding && not (has_null && (i == 0))

-- without a version, and yet not default
abbrev pub is_versionless_not_default : SymbolEntry → Bool
is_versionless_not_default e = is_none e.version && not e.is_default

-- it stands in a section that a table of so many sections lacks
abbrev pub is_outside : ℕ → SymbolEntry → Bool
is_outside sections e = option_map_or (λ n. nat_le sections n) (section_of e.place) false

-- the header of a group, or its first member, that is no section of so many
abbrev pub missing_section : ℕ → SectionGroup → Option ℕ
missing_section sections g = find (λ n. nat_le sections n) (g.index ∷ g.members)

-- the first group that names a section that isn't there, with that section
abbrev pub missing_member : ℕ → ℕ → List SectionGroup → Option TableError
missing_member sections i [] = None
missing_member sections i (g ∷ gs) = option_or (option_map (λ n. MemberRange i n) (missing_section sections g)) (missing_member sections (i + 1) gs)

-- an earlier group has the same header
abbrev pub repeats_header : List SectionGroup → ℕ → SectionGroup → Bool
repeats_header groups i g = list_any (λ earlier. earlier.index == g.index) (take i groups)

-- the section is a member of a group
abbrev pub is_member : List SectionGroup → ℕ → Bool
is_member groups section = list_any (λ g. list_any (λ member. member == section) g.members) groups

-- the header is a member of a group
abbrev pub has_member_header : List SectionGroup → SectionGroup → Bool
has_member_header groups g = is_member groups g.index

-- the first check that the symbols of a table with so many sections fail, on a platform that has a null entry or has none
abbrev pub symbol_fault : Bool → ℕ → List SymbolEntry → Option TableError
symbol_fault has_null sections symbols =
    option_or (if lacks_null has_null symbols then Some NullEntry else None)
    (option_or (option_map UndefinedLocal (first_place (is_undefined_local has_null) 0 symbols))
    (option_or (option_map VersionlessNotDefault (first_place (λ i. is_versionless_not_default) 0 symbols))
    (option_map SectionRange (first_place (λ i. is_outside sections) 0 symbols))))

-- the first check that the groups of a table with so many sections and symbols fail
abbrev pub group_fault : ℕ → ℕ → List SectionGroup → Option TableError
group_fault sections symbols groups =
    option_or (option_map SignatureRange (first_place (λ i g. nat_le symbols g.signature_symbol) 0 groups))
    (option_or (missing_member sections 0 groups)
    (option_or (option_map HeaderTwice (first_place (repeats_header groups) 0 groups))
    (option_map HeaderIsMember (first_place (λ i. has_member_header groups) 0 groups))))

-- the section that refers, or the symbol, is none of so many
abbrev pub is_outside_reference : ℕ → ℕ → SectionReference → Bool
is_outside_reference sections symbols r = nat_le sections r.from || nat_le symbols r.to

-- the first check that the references of the sections, of so many, to symbols, of so many, and the retained sections fail
abbrev pub section_fault : ℕ → ℕ → List SectionReference → List ℕ → Option TableError
section_fault sections symbols references retained =
    option_or (option_map ReferenceRange (first_place (λ i. is_outside_reference sections symbols) 0 references))
    (option_map RetainRange (first_place (λ i section. nat_le sections section) 0 retained))

-- the first check that a table fails: those of its symbols, then those of its groups, then those of what its sections refer to and of which are retained
abbrev pub first_fault : Bool → ObjectTable → Option TableError
first_fault has_null t =
    option_or (symbol_fault has_null t.sections t.symbols)
    (option_or (group_fault t.sections (length t.symbols) t.groups)
    (section_fault t.sections (length t.symbols) t.section_references t.retained_sections))
