-- What a database lists behind a symbol is what stands behind it in its list of rivals.
use Rattle.std.proofs.Common.{◌≡◌, ◌∙◌, ◌++◌, ℕ, zero, suc, Bool, true, false, List, [], ◌∷◌, Contains, Option, Some, None, refl, sym, ap, map, inl, inr, subst, append-nil, length, if◌then◌else◌}
use Rattle.std.specs.Prelude.{slice_get}
use Rattle.std.specs.Option.{option_map_or}
use Rattle.std.proofs.lemmas.Bool.Decides.{eqb_tells}
use Rattle.link_input.specs.declared.options.Options.{Options}
use Rattle.link_input.specs.Symbols.{Symbol}
use Rattle.link_rules.proofs.Settled.{here, listed_in, some_same}
use Rattle.link_rules.specs.Names.{definitions_of, is_listed, is_version_listed, versioned_definitions_of}
use Rattle.link_rules.specs.Places.{Bytes, behind_head}
use Rattle.link_rules.specs.Rules.{PlatformRules, rules_of}
use Rattle.link_rules.specs.World.{Stage, nothing_earlier}
use Rattle.link_resolve_rivals.proofs.NameLists.{plain-lists, versioned-lists, versioned_in}
use Rattle.link_resolve_rivals.specs.Lists.{AreLists}
use Rattle.link_db_files.specs.GroupFiles.{symbols_in}
use Rattle.link_db_mapping.specs.Mapped.{later_in, later_versioned_in, later_with}
use Rattle.link_db.specs.Database.{Database}
use Rattle.link_resolve.specs.Known.{IsListed}
use Rattle.link_resolve.specs.Lists.{plain_rivals, versioned_rivals}

-- some stage with these symbols
abbrev stage_with : PlatformRules → Options → List Symbol → Stage
stage_with platform options symbols = record {
  objects = [];
  scripts = [];
  stubs = [];
  options = options;
  texts = record { version_script = None; export_list = None };
  rules = rules_of platform (λ name. name) options (record { version_script = None; export_list = None }) [];
  symbols = symbols;
  earlier = nothing_earlier;
}

-- the definitions of plain names are lists of rivals
pub plain-are : (platform : PlatformRules) (options : Options) (symbols : List Symbol) → AreLists (plain_rivals symbols) (length symbols)
plain-are platform options symbols = plain-lists (stage_with platform options symbols)

-- so are those of names with versions
pub versioned-are : (platform : PlatformRules) (options : Options) (symbols : List Symbol) → AreLists (versioned_rivals symbols) (length symbols)
versioned-are platform options symbols = versioned-lists (stage_with platform options symbols)

-- nothing stands behind what is not in a list
behind-none : (s : ℕ) (xs : List ℕ) → (Contains xs s → ⊥) → behind_head s xs ≡ []
behind-none s [] outside = refl
behind-none s (x ∷ xs) outside = elim (eqb_tells x s) [
  | inl told ↦ absurd (outside (subst (λ t. Contains (x ∷ xs) t) told.1 (here x xs)))
  | inr told ↦ rw told.0 refl
]

-- what stands behind a symbol among the definitions of its name stands behind it in its list
plain-behind : (w : Stage) (s : ℕ) (x : Symbol) → slice_get w.symbols s ≡ Some x
    → behind_head s (definitions_of w.symbols x.name) ≡ behind_head s (if is_listed x then definitions_of w.symbols x.name else [])
plain-behind w s x at = by (is_listed x) refl
  where
    by : (b : Bool) → is_listed x ≡ b → behind_head s (definitions_of w.symbols x.name) ≡ behind_head s (if b then definitions_of w.symbols x.name else [])
    by true is = refl
    by false is = behind-none s (definitions_of w.symbols x.name) (λ within.
        let it = listed_in w x.name s within in
        let same : x ≡ it.0 = some_same x it.0 (sym at ∙ it.1.at) in
        let wrong : false ≡ true = sym is ∙ ap is_listed same ∙ it.1.listed in
        cc)

-- the same of its name and version
versioned-behind : (w : Stage) (s : ℕ) (x : Symbol) (version : Bytes) → slice_get w.symbols s ≡ Some x
    → behind_head s (versioned_definitions_of w.symbols x.name version) ≡ behind_head s (if is_version_listed x then versioned_definitions_of w.symbols x.name version else [])
versioned-behind w s x version at = by (is_version_listed x) refl
  where
    by : (b : Bool) → is_version_listed x ≡ b → behind_head s (versioned_definitions_of w.symbols x.name version) ≡ behind_head s (if b then versioned_definitions_of w.symbols x.name version else [])
    by true is = refl
    by false is = behind-none s (versioned_definitions_of w.symbols x.name version) (λ within.
        let it = versioned_in w x.name version s within in
        let same : x ≡ it.0 = some_same x it.0 (sym at ∙ it.1.at) in
        let wrong : false ≡ true = sym is ∙ ap is_version_listed same ∙ it.1.listed in
        cc)

-- the name of a symbol among all names
pub name-at : (xs : List Symbol) (added : List Bytes) (s : ℕ) → added ≡ [] → slice_get (map (λ x. x.name) xs ++ added) s ≡ option_map_or (λ x. Some x.name) (slice_get xs s) None
name-at xs added s none = ap (λ more. slice_get (map (λ x. x.name) xs ++ more) s) none ∙ ap (λ names. slice_get names s) (append-nil (map (λ x. x.name) xs)) ∙ mapped xs s
  where
    mapped : (xs : List Symbol) (s : ℕ) → slice_get (map (λ x. x.name) xs) s ≡ option_map_or (λ x. Some x.name) (slice_get xs s) None
    mapped [] s = refl
    mapped (x ∷ xs) zero = refl
    mapped (x ∷ xs) (suc s) = mapped xs s

-- what a database lists behind a symbol by its plain name
pub plain-later : {P : Type 0} (platform : PlatformRules) (db : Database P) → IsListed db
    → (s : ℕ) → later_in db.mapping s ≡ behind_head s (plain_rivals (symbols_in db.mapping.files.groups) s)
plain-later platform db listed s = by (slice_get symbols s) refl
  where
    symbols : List Symbol
    symbols = symbols_in db.mapping.files.groups

    by : (o : Option Symbol) → slice_get symbols s ≡ o → later_in db.mapping s ≡ behind_head s (plain_rivals symbols s)
    by None at = rw (name-at symbols db.mapping.files.added s listed.added, at) refl
    by (Some x) at =
        rw (name-at symbols db.mapping.files.added s listed.added, at)
        (ap (behind_head s) (listed.lists.plain x.name) ∙ plain-behind (stage_with platform db.options symbols) s x at)

-- the same by its name and version
pub versioned-later : {P : Type 0} (platform : PlatformRules) (db : Database P) → IsListed db
    → (s : ℕ) → later_versioned_in db.mapping s ≡ behind_head s (versioned_rivals (symbols_in db.mapping.files.groups) s)
versioned-later platform db listed s = by (slice_get symbols s) refl
  where
    symbols : List Symbol
    symbols = symbols_in db.mapping.files.groups

    by_version : (x : Symbol) → slice_get symbols s ≡ Some x → (o : Option Bytes) → x.version ≡ o
        → option_map_or (λ version. later_with db.mapping (Some version) s) o [] ≡ behind_head s (if is_version_listed x then option_map_or (versioned_definitions_of symbols x.name) o [] else [])
    by_version x at None of = by_bool (is_version_listed x)
      where
        by_bool : (b : Bool) → [] ≡ behind_head s (if b then [] else [])
        by_bool true = refl
        by_bool false = refl
    by_version x at (Some v) of =
        rw (name-at symbols db.mapping.files.added s listed.added, at)
        (ap (behind_head s) (listed.lists.versioned x.name v) ∙ versioned-behind (stage_with platform db.options symbols) s x v at)

    by : (o : Option Symbol) → slice_get symbols s ≡ o → later_versioned_in db.mapping s ≡ behind_head s (versioned_rivals symbols s)
    by None at = rw at refl
    by (Some x) at = rw at (by_version x at x.version refl)
