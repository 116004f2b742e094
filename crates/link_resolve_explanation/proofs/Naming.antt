-- What is known of names tells their first definitions, and what is gathered from these are the lists of names.
use Rattle.std.proofs.Common.{◌≡◌, ◌∙◌, ℕ, Bool, true, false, List, [], Option, Some, None, if◌then◌else◌, length, map, refl, sym, ap}
use Rattle.std.specs.Prelude.{fold, option_and_then, option_map, slice_get, unwrap_or}
use Rattle.std.specs.Option.{option_map_or}
use Rattle.std.proofs.lemmas.List.{length-map}
use Rattle.std.proofs.lemmas.Option.{slice_get-map}
use Rattle.link_input.specs.Symbols.{Symbol}
use Rattle.link_input.specs.declared.options.Options.{Options}
use Rattle.link_rules.specs.Names.{Mapping, definitions_of, first_versioned_definition, is_listed, is_version_listed, unwrapped, versioned_definitions_of, wrapped}
use Rattle.link_rules.specs.Places.{Bytes, first_of}
use Rattle.link_rules.specs.Selection.{Selection}
use Rattle.link_rules.specs.Targets.{NameTable, beside_in, target_in}
use Rattle.link_resolve_rivals.proofs.NameLists.{plain-lists, versioned-lists}
use Rattle.link_resolve_rivals.specs.Lists.{plain_lists, versioned_lists}
use Rattle.link_db_files.specs.GroupFiles.{symbols_in}
use Rattle.link_db_mapping.specs.Keys.{versioned_key}
use Rattle.link_db_mapping.specs.Mapped.{mapped_key, mapping_of}
use Rattle.link_db.specs.Database.{Database}
use Rattle.link_resolve.specs.Known.{Known}
use Rattle.link_resolve_explanation.specs.Gathered.{checked_heads, gathered, head_in}
use Rattle.link_resolve_explanation.specs.Heads.{known_first, plain_head, versioned_head}
use Rattle.link_resolve_explanation.specs.Told.{IsTold}
use Rattle.link_resolve_explanation.specs.Wraps.{is_wrapped, wrapped_first}
use Rattle.link_resolve_explanation.proofs.CheckedHeads.{gathered-told}
use Rattle.link_resolve_explanation.proofs.HeadedLists.{plain-ascend, versioned-ascend}
use Rattle.link_resolve_explanation.proofs.Wrapping.{wraps-leave}

-- what is known of a name is its first definition
known-is : (symbols : List Symbol) (wraps : List Bytes) (mapping : Mapping) (noted : Bytes → Option (Option ℕ)) (name : Bytes)
    → mapping name ≡ fold wrapped (unwrapped symbols) wraps name → noted name ≡ wrapped_first wraps symbols name → known_first mapping noted name ≡ first_of (definitions_of symbols name)
known-is symbols wraps mapping noted name maps notes = ap (λ (o : Option (Option ℕ)). unwrap_or o (mapping name)) notes ∙ by (is_wrapped wraps name) refl
  where
    by : (b : Bool) → is_wrapped wraps name ≡ b → unwrap_or (if b then Some (first_of (definitions_of symbols name)) else None) (mapping name) ≡ first_of (definitions_of symbols name)
    by true is = refl
    by false is = maps ∙ wraps-leave wraps (unwrapped symbols) name is

-- what is known of the name of a definition is its head
pub listed-first : (first : Mapping) (x : Symbol) (name : Bytes) (found : Option ℕ) → found ≡ first name → name ≡ x.name → is_listed x ≡ true → found ≡ plain_head first x
listed-first first x name found is own listed = is ∙ ap first own ∙ sym (ap (λ b. if b then first x.name else None) listed)

-- the head of a symbol is the first definition of its plain name
plain-first : (symbols : List Symbol) (first : Mapping) → ((name : Bytes) → first name ≡ first_of (definitions_of symbols name)) → (s : ℕ)
    → head_in (map (plain_head first) symbols) s ≡ first_of (option_map_or (λ x. if is_listed x then definitions_of symbols x.name else []) (slice_get symbols s) [])
plain-first symbols first firsts s = ap (λ (o : Option (Option ℕ)). option_map_or (λ head. head) o None) (slice_get-map (plain_head first) symbols s) ∙ by (slice_get symbols s)
  where
    of : (x : Symbol) (b : Bool) → (if b then first x.name else None) ≡ first_of (if b then definitions_of symbols x.name else [])
    of x true = firsts x.name
    of x false = refl

    by : (o : Option Symbol) → option_map_or (λ head. head) (option_map (plain_head first) o) None
        ≡ first_of (option_map_or (λ x. if is_listed x then definitions_of symbols x.name else []) o [])
    by None = refl
    by (Some x) = of x (is_listed x)

-- the same of its name and version
versioned-first : (symbols : List Symbol) (first : Bytes → Bytes → Option ℕ) → ((name version : Bytes) → first name version ≡ first_versioned_definition symbols name version) → (s : ℕ)
    → head_in (map (versioned_head first) symbols) s
    ≡ first_of (option_map_or (λ x. if is_version_listed x then option_map_or (versioned_definitions_of symbols x.name) x.version [] else []) (slice_get symbols s) [])
versioned-first symbols first firsts s = ap (λ (o : Option (Option ℕ)). option_map_or (λ head. head) o None) (slice_get-map (versioned_head first) symbols s) ∙ by (slice_get symbols s)
  where
    of : (x : Symbol) (b : Bool) (version : Option Bytes) → (if b then option_and_then (first x.name) version else None)
        ≡ first_of (if b then option_map_or (versioned_definitions_of symbols x.name) version [] else [])
    of x true (Some v) = firsts x.name v
    of x true None = refl
    of x false version = refl

    by : (o : Option Symbol) → option_map_or (λ head. head) (option_map (versioned_head first) o) None
        ≡ first_of (option_map_or (λ x. if is_version_listed x then option_map_or (versioned_definitions_of symbols x.name) x.version [] else []) o [])
    by None = refl
    by (Some x) = of x (is_version_listed x) x.version

-- a reference of default visibility stands for what its name and version are mapped to
pub open-target : (weak : Bool) (t : NameTable) (name version : Bytes) → target_in weak t true name (Some version) ≡ t.versioned name version
open-target weak t name version = by (t.versioned name version)
  where
    by : (o : Option ℕ) → option_and_then (beside_in weak t true) o ≡ o
    by None = refl
    by (Some s) = refl

module _ {P : Type 0} {weak : Bool} (db : Database P) (known : Known) (l : Selection) (is : IsTold weak db known l) (heads : List (Option ℕ)) where
  -- a column of the symbols is as long as they are many
  column-length : (f : Symbol → Option ℕ) → heads ≡ map f (symbols_in db.mapping.files.groups) → length heads ≡ length l.stage.symbols
  column-length f are =
      ap (λ (xs : List (Option ℕ)). length xs) are ∙ length-map (symbols_in db.mapping.files.groups) f ∙ ap (λ (xs : List Symbol). length xs) (sym is.symbols)

  -- the definitions of plain names are gathered
  pub plain-told : (noted : Bytes → Option (Option ℕ)) → ((name : Bytes) → noted name ≡ wrapped_first db.options.wrap (symbols_in db.mapping.files.groups) name)
      → heads ≡ map (plain_head (known_first (mapping_of db.mapping) noted)) (symbols_in db.mapping.files.groups)
      → (s : ℕ) → gathered (checked_heads heads) s ≡ plain_lists l.stage s
  plain-told noted notes are =
      let first = known_first (mapping_of db.mapping) noted in
      let firsts : (name : Bytes) → first name ≡ first_of (definitions_of l.stage.symbols name) = λ name.
      known-is l.stage.symbols l.stage.options.wrap (mapping_of db.mapping) noted name (is.names name)
      (notes name ∙ ap (λ (o : Options). wrapped_first o.wrap (symbols_in db.mapping.files.groups) name) (sym is.options)
      ∙ ap (λ (xs : List Symbol). wrapped_first l.stage.options.wrap xs name) (sym is.symbols)) in
      let column : heads ≡ map (plain_head first) l.stage.symbols = are ∙ ap (λ (xs : List Symbol). map (plain_head first) xs) (sym is.symbols) in
      gathered-told (plain_lists l.stage) (length l.stage.symbols) heads (plain-lists l.stage) (plain-ascend l.stage) (column-length (plain_head first) are)
      (λ s lt. ap (λ (xs : List (Option ℕ)). head_in xs s) column ∙ plain-first l.stage.symbols first firsts s)

  -- those of names with versions are gathered
  pub versioned-told : heads ≡ map (versioned_head (λ name version. mapped_key db.mapping (versioned_key name version))) (symbols_in db.mapping.files.groups)
      → (s : ℕ) → gathered (checked_heads heads) s ≡ versioned_lists l.stage s
  versioned-told are =
      let first : Bytes → Bytes → Option ℕ = λ name version. mapped_key db.mapping (versioned_key name version) in
      let column : heads ≡ map (versioned_head first) l.stage.symbols = are ∙ ap (λ (xs : List Symbol). map (versioned_head first) xs) (sym is.symbols) in
      gathered-told (versioned_lists l.stage) (length l.stage.symbols) heads (versioned-lists l.stage) (versioned-ascend l.stage) (column-length (versioned_head first) are)
      (λ s lt. ap (λ (xs : List (Option ℕ)). head_in xs s) column ∙ versioned-first l.stage.symbols first is.versions s)
