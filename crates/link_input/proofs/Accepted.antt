-- What an accepted table keeps: a lemma for each check that it passes.
use Rattle.std.proofs.Common.{◌≡◌, ◌+◌, ◌<◌, ◌≢◌, ◌==◌, ◌&&◌, ℕ, Bool, true, false, not, List, [], ◌∷◌, length, get_or, get_or-take, take, slice_get, refl, sym, subst, if◌then◌else◌, add-zero, zero, suc, Option, Some, None, is_none, option_map, find, length-take, nat_le, IfSome, All, AllPairs, Contains, arith}
use Rattle.std.specs.Option.{option_or, option_map_or}
use Rattle.std.specs.List.{list_any}
use Rattle.std.proofs.lemmas.Bool.{leb-false, both_ways, eq-eqb, or_parts, not-false}
use Rattle.std.proofs.lemmas.Bool.Decides.{nat_tests}
use Rattle.std.proofs.lemmas.Option.{slice_get_within, get_or_from_slice_get}
use Rattle.std.proofs.lemmas.List.Elements.{All-nil, All-cons, All-head, All-tail}
use Rattle.std.proofs.lemmas.List.Folds.{list_any_at}
use Rattle.link_input.specs.declared.symbol_entry.SymbolEntry.{SymbolEntry}
use Rattle.link_input.specs.declared.object.SectionGroup.{SectionGroup}
use Rattle.link_input.specs.declared.object.SectionReference.{SectionReference}
use Rattle.link_input.specs.declared.object.ObjectTable.{ObjectTable}
use Rattle.link_input.specs.declared.table_error.TableError.TheVariants.{NullEntry, UndefinedLocal, VersionlessNotDefault, SectionRange, SignatureRange, MemberRange, HeaderTwice, HeaderIsMember, ReferenceRange, RetainRange}
use Rattle.link_input.specs.Entries.{is_undefined, is_local, section_of}
use Rattle.link_input.specs.Checks.{first_place, is_null, lacks_null, is_undefined_local, is_versionless_not_default, is_outside, missing_section, missing_member, repeats_header, has_member_header, is_outside_reference, symbol_fault, group_fault, first_fault}

-- neither of two is there
option_or-none : {A : Type 0} (a b : Option A) → option_or a b ≡ None → (a ≡ None) × (b ≡ None)
option_or-none None b e = (refl, e)
option_or-none (Some x) b e = cc

-- nothing was there to map
option_map-none : {A B : Type 0} (f : A → B) (o : Option A) → option_map f o ≡ None → o ≡ None
option_map-none f None e = refl
option_map-none f (Some x) e = cc

-- a choice that is nothing is the second, and that is nothing
cond-none : {A : Type 0} (b : Bool) (x : A) (o : Option A) → (if b then Some x else o) ≡ None → (b ≡ false) × (o ≡ None)
cond-none true x o e = cc
cond-none false x o e = (refl, e)

-- where a test holds at no place, it fails at each
first_place-none : {A : Type 0} (p : ℕ → A → Bool) (i : ℕ) (xs : List A) → first_place p i xs ≡ None → (k : ℕ) (d : A) → k < length xs → p (i + k) (get_or xs k d) ≡ false
first_place-none p i [] e k d lt = absurd (omega arith)
first_place-none p i (x ∷ xs) e zero d lt = rw add-zero ((cond-none (p i x) i (first_place p (i + 1) xs) e).0)
first_place-none p i (x ∷ xs) e (suc k) d lt =
    let later = first_place-none p (i + 1) xs ((cond-none (p i x) i (first_place p (i + 1) xs) e).1) k d (omega arith) in
    let same : i + 1 + k ≡ i + suc k = omega arith in
    rw same at later

-- the same for a test of the item alone
first_place-none_pass : {A : Type 0} (p : A → Bool) (xs : List A) → first_place (λ i. p) 0 xs ≡ None → All (λ x. p x ≡ false) xs
first_place-none_pass p xs e = λ k d lt. first_place-none (λ i. p) 0 xs e k d lt

-- where no element passes, each fails
list_any-false : {A : Type 0} (p : A → Bool) (xs : List A) → list_any p xs ≡ false → All (λ x. p x ≡ false) xs
list_any-false p [] e = All-nil (λ x. p x ≡ false)
list_any-false p (x ∷ xs) e =
    let parts = or_parts (p x) (list_any p xs) e in
    All-cons (λ x. p x ≡ false) x xs parts.0 (list_any-false p xs parts.1)

-- where none is found, each fails
find-none : {A : Type 0} (p : A → Bool) (xs : List A) → find p xs ≡ None → All (λ x. p x ≡ false) xs
find-none p [] e = All-nil (λ x. p x ≡ false)
find-none p (x ∷ xs) e =
    let parts = cond-none (p x) x (find p xs) e in
    All-cons (λ x. p x ≡ false) x xs parts.0 (find-none p xs parts.1)

-- where no group names a section that isn't there, each names its own
missing_member-none : (sections i : ℕ) (groups : List SectionGroup) → missing_member sections i groups ≡ None → All (λ g. missing_section sections g ≡ None) groups
missing_member-none sections i [] e = All-nil (λ g. missing_section sections g ≡ None)
missing_member-none sections i (g ∷ gs) e =
    let parts = option_or-none (option_map (λ n. MemberRange i n) (missing_section sections g)) (missing_member sections (i + 1) gs) e in
    All-cons (λ g. missing_section sections g ≡ None) g gs (option_map-none (λ n. MemberRange i n) (missing_section sections g) parts.0) (missing_member-none sections (i + 1) gs parts.1)

-- the checks of the symbols, passed
record SymbolsPass (has_null : Bool) (sections : ℕ) (symbols : List SymbolEntry) : Type 0 where
  null : lacks_null has_null symbols ≡ false
  local : first_place (is_undefined_local has_null) 0 symbols ≡ None
  default : first_place (λ i. is_versionless_not_default) 0 symbols ≡ None
  section : first_place (λ i. is_outside sections) 0 symbols ≡ None

-- the checks of the groups, passed
record GroupsPass (sections symbols : ℕ) (groups : List SectionGroup) : Type 0 where
  signature : first_place (λ i g. nat_le symbols g.signature_symbol) 0 groups ≡ None
  members : missing_member sections 0 groups ≡ None
  once : first_place (repeats_header groups) 0 groups ≡ None
  no_member : first_place (λ i. has_member_header groups) 0 groups ≡ None

-- the checks of references and of retained sections, passed
record SectionsPass (sections symbols : ℕ) (references : List SectionReference) (retained : List ℕ) : Type 0 where
  refer : first_place (λ i. is_outside_reference sections symbols) 0 references ≡ None
  retain : first_place (λ i section. nat_le sections section) 0 retained ≡ None

symbols_pass : (has_null : Bool) (t : ObjectTable) → first_fault has_null t ≡ None → SymbolsPass has_null t.sections t.symbols
symbols_pass has_null t none =
    let a = (option_or-none (symbol_fault has_null t.sections t.symbols) _ none).0 in
    let b = option_or-none (if lacks_null has_null t.symbols then Some NullEntry else None) _ a in
    let c = option_or-none (option_map UndefinedLocal (first_place (is_undefined_local has_null) 0 t.symbols)) _ b.1 in
    let d = option_or-none (option_map VersionlessNotDefault (first_place (λ i. is_versionless_not_default) 0 t.symbols)) _ c.1 in
    record {
      null = (cond-none (lacks_null has_null t.symbols) NullEntry None b.0).0;
      local = option_map-none UndefinedLocal _ c.0;
      default = option_map-none VersionlessNotDefault _ d.0;
      section = option_map-none SectionRange _ d.1;
    }

groups_pass : (has_null : Bool) (t : ObjectTable) → first_fault has_null t ≡ None → GroupsPass t.sections (length t.symbols) t.groups
groups_pass has_null t none =
    let a = (option_or-none (group_fault t.sections (length t.symbols) t.groups) _ (option_or-none (symbol_fault has_null t.sections t.symbols) _ none).1).0 in
    let b = option_or-none (option_map SignatureRange (first_place (λ i g. nat_le (length t.symbols) g.signature_symbol) 0 t.groups)) _ a in
    let c = option_or-none (missing_member t.sections 0 t.groups) _ b.1 in
    let d = option_or-none (option_map HeaderTwice (first_place (repeats_header t.groups) 0 t.groups)) _ c.1 in
    record {
      signature = option_map-none SignatureRange _ b.0;
      members = c.0;
      once = option_map-none HeaderTwice _ d.0;
      no_member = option_map-none HeaderIsMember _ d.1;
    }

sections_pass : (has_null : Bool) (t : ObjectTable) → first_fault has_null t ≡ None → SectionsPass t.sections (length t.symbols) t.section_references t.retained_sections
sections_pass has_null t none =
    let a = (option_or-none (group_fault t.sections (length t.symbols) t.groups) _ (option_or-none (symbol_fault has_null t.sections t.symbols) _ none).1).1 in
    let b = option_or-none (option_map ReferenceRange (first_place (λ i. is_outside_reference t.sections (length t.symbols)) 0 t.section_references)) _ a in
    record {
      refer = option_map-none ReferenceRange _ b.0;
      retain = option_map-none RetainRange _ b.1;
    }

-- the first symbol of a list that doesn't lack the null entry
is_null_first : (symbols : List SymbolEntry) → lacks_null true symbols ≡ false → IfSome (slice_get symbols 0) (λ e. is_null e ≡ true)
is_null_first [] e = tt
is_null_first (s ∷ ss) e = not-false (is_null s) e

-- no version, and not one that isn't default
default_of : (e : SymbolEntry) → is_versionless_not_default e ≡ false → is_none e.version ≡ true → e.is_default ≡ true
default_of e ok versionless = grind (arith, ok, versionless)

-- a section that isn't outside is inside
inside : (sections : ℕ) (o : Option ℕ) → option_map_or (λ n. nat_le sections n) o false ≡ false → IfSome o (λ section. section < sections)
inside sections None ok = tt
inside sections (Some n) ok = leb-false sections n ok

-- what is not held against an undefined local symbol
null_place : (has_null : Bool) (k : ℕ) → (true && true && not (has_null && (k == 0))) ≡ false → (has_null ≡ true) × (k ≡ 0)
null_place has_null k ok = grind (arith, nat_tests)

-- entry 0 stands for no symbol, where the platform has such an entry
pub null_entry : (has_null : Bool) (t : ObjectTable) → first_fault has_null t ≡ None → has_null ≡ true → IfSome (slice_get t.symbols 0) (λ e. is_null e ≡ true)
null_entry has_null t none has = is_null_first t.symbols (rw has at ((symbols_pass has_null t none).null))

-- an undefined local symbol is the null entry
pub undefined_local : (has_null : Bool) (t : ObjectTable) → first_fault has_null t ≡ None → (k : ℕ) (e : SymbolEntry) → slice_get t.symbols k ≡ Some e → is_undefined e.place ≡ true → is_local e.binding ≡ true → (has_null ≡ true) × (k ≡ 0)
undefined_local has_null t none k e there undefined local =
    let left = first_place-none (is_undefined_local has_null) 0 t.symbols ((symbols_pass has_null t none).local) k e (slice_get_within t.symbols k e there) in
    let place : 0 + k ≡ k = omega arith in
    null_place has_null k (rw (place, get_or_from_slice_get t.symbols k e e there, undefined, local) at left)

-- a symbol without a version is default
pub versionless_default : (has_null : Bool) (t : ObjectTable) → first_fault has_null t ≡ None → All (λ e. is_none e.version ≡ true → e.is_default ≡ true) t.symbols
versionless_default has_null t none = λ k d lt versionless.
    default_of (get_or t.symbols k d) (first_place-none_pass is_versionless_not_default t.symbols ((symbols_pass has_null t none).default) k d lt) versionless

-- the section of a symbol is one of the object's
pub section_inside : (has_null : Bool) (t : ObjectTable) → first_fault has_null t ≡ None → All (λ e. IfSome (section_of e.place) (λ section. section < t.sections)) t.symbols
section_inside has_null t none = λ k d lt.
    inside t.sections (section_of (get_or t.symbols k d).place) (first_place-none_pass (is_outside t.sections) t.symbols ((symbols_pass has_null t none).section) k d lt)

-- the signature of a group is a symbol of the object
pub signature_inside : (has_null : Bool) (t : ObjectTable) → first_fault has_null t ≡ None → All (λ g. g.signature_symbol < length t.symbols) t.groups
signature_inside has_null t none = λ k d lt.
    leb-false (length t.symbols) _ (first_place-none_pass (λ g. nat_le (length t.symbols) g.signature_symbol) t.groups ((groups_pass has_null t none).signature) k d lt)

-- the header of a group and its members are sections of the object
pub members_inside : (has_null : Bool) (t : ObjectTable) → first_fault has_null t ≡ None → All (λ g. All (λ section. section < t.sections) (g.index ∷ g.members)) t.groups
members_inside has_null t none = λ k d lt.
    let g = get_or t.groups k d in
    let each = find-none (λ n. nat_le t.sections n) (g.index ∷ g.members) (missing_member-none t.sections 0 t.groups ((groups_pass has_null t none).members) k d lt) in
    λ j e within. leb-false t.sections _ (each j e within)

-- a header heads one group
pub header_once : (has_null : Bool) (t : ObjectTable) → first_fault has_null t ≡ None → AllPairs (λ g h. g.index ≢ h.index) t.groups
header_once has_null t none = λ i j d before lt same.
    let groups = t.groups in
    let header = (get_or groups j d).index in
    let alone = first_place-none (repeats_header groups) 0 groups ((groups_pass has_null t none).once) j d lt in
    let place : 0 + j ≡ j = omega arith in
    let there : i < length (take j groups) = omega (arith, length-take j groups) in
    let differs = list_any-false (λ earlier. earlier.index == header) (take j groups) (rw place at alone) i d there in
    both_ways _ (rw (get_or-take j groups i d before) at differs) (eq-eqb _ header same)

-- no header is a member of a group
pub header_no_member : (has_null : Bool) (t : ObjectTable) → first_fault has_null t ≡ None → All (λ g. All (λ h. Contains h.members g.index → ⊥) t.groups) t.groups
header_no_member has_null t none = λ k d lt j e within member.
    let header = (get_or t.groups k d).index in
    let alone = first_place-none_pass (has_member_header t.groups) t.groups ((groups_pass has_null t none).no_member) k d lt in
    let absent = list_any-false (λ g. list_any (λ section. section == header) g.members) t.groups alone j e within in
    both_ways _ absent (list_any_at (λ section. section == header) (get_or t.groups j e).members member.0 header member.1 (eq-eqb _ header member.2))

-- what is read at a place of the groups of an accepted table
pub record GroupInside (t : ObjectTable) (g : SectionGroup) : Type 0 where
  pub signature : g.signature_symbol < length t.symbols
  pub header : g.index < t.sections
  pub members : All (λ member. member < t.sections) g.members

pub group_inside : (has_null : Bool) (t : ObjectTable) → first_fault has_null t ≡ None → (k : ℕ) (g : SectionGroup) → k < length t.groups → g ≡ get_or t.groups k g → GroupInside t g
group_inside has_null t none k g lt read =
    let signature = signature_inside has_null t none k g lt in
    let sections = members_inside has_null t none k g lt in
    let P : SectionGroup → Type 0 = GroupInside t in
    subst P (sym read) (record {
      signature = signature;
      header = All-head (λ section. section < t.sections) _ _ sections;
      members = All-tail (λ section. section < t.sections) _ _ sections;
    })

-- what refers is a section of the object, and what it refers to a symbol
pub references_inside : (has_null : Bool) (t : ObjectTable) → first_fault has_null t ≡ None → All (λ r. (r.from < t.sections) × (r.to < length t.symbols)) t.section_references
references_inside has_null t none = λ k d lt.
    let r = get_or t.section_references k d in
    let parts = or_parts (nat_le t.sections r.from) (nat_le (length t.symbols) r.to)
    (first_place-none_pass (is_outside_reference t.sections (length t.symbols)) t.section_references ((sections_pass has_null t none).refer) k d lt) in
    (leb-false t.sections r.from parts.0, leb-false (length t.symbols) r.to parts.1)

-- a retained section is one of the object's
pub retained_inside : (has_null : Bool) (t : ObjectTable) → first_fault has_null t ≡ None → All (λ section. section < t.sections) t.retained_sections
retained_inside has_null t none = λ k d lt.
    leb-false t.sections _ (first_place-none_pass (λ section. nat_le t.sections section) t.retained_sections ((sections_pass has_null t none).retain) k d lt)
