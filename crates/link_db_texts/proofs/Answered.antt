-- What is answered of a name is what the rules of the link say.
use Rattle.std.proofs.Common.{◌≡◌, ℕ, List, [], ◌∷◌, Bool, true, false, Option, Some, None, Result, refl, sym, ap, subst, ◌∙◌}
use Rattle.std.specs.Prelude.{◌↔◌, ◌||◌, IsTrue, not, is_some, option_map}
use Rattle.std.specs.List.{list_any}
use Rattle.link_names.specs.Names.{Names, is_member}
use Rattle.link_script_syntax.specs.declared.body.Side.{Side}
use Rattle.link_script_syntax.specs.declared.named.RawVersion.{RawVersion}
use Rattle.link_script_syntax.specs.declared.script.RawScript.{RawScript}
use Rattle.link_script_syntax.specs.declared.matcher.ParsedSymbolMatcher.{ParsedSymbolMatcher}
use Rattle.link_script.specs.declared.export_list.ExportList.{ExportList}
use Rattle.link_script.specs.declared.rules.Version.{Version}
use Rattle.link_script.specs.declared.rust_form.RustVersionScript.{RustVersionScript}
use Rattle.link_script.specs.declared.script.VersionScript.{VersionScript}
use Rattle.link_script.specs.declared.script.VersionScript.TheVariants.{Regular, Rust}
use Rattle.link_script.specs.ExportList.{IsListed, IsListOf}
use Rattle.link_script.specs.Filter.{AreVersions}
use Rattle.link_script.specs.ListedNames.{ListedNames}
use Rattle.link_script.specs.Lookup.{asked}
use Rattle.link_script.specs.Rank.{filters_in, IsBest}
use Rattle.link_script.specs.Script.{versions_in, IsScriptOf, IsVersionBy}
use Rattle.link_script.specs.VersionOf.{Undeclared, is_local_match}
use Rattle.link_flags.specs.FlagBits.{downgrade_to_local}
use Rattle.link_input.specs.declared.options.OutputKind.{OutputKind}
use Rattle.link_input.specs.declared.symbol_entry.SymbolEntry.{SymbolEntry}
use Rattle.link_input.specs.Entries.{is_local, is_undefined}
use Rattle.link_script_syntax.specs.declared.profile.ScriptProfile.{ScriptProfile}
use Rattle.link_rules.specs.Opening.{is_non_interposable, script_flags}
use Rattle.link_rules.specs.World.{Stage}
use Rattle.link_rules.specs.Places.{Bytes}
use Rattle.link_rules.specs.Matching.{entry_fits, is_local_by}
use Rattle.link_rules.specs.Rules.{PlatformRules, Rules, exported_by, list_of, script_of, taken_text}
use Rattle.link_db_texts.specs.Holds.{AreRulesOf, IsListIf, IsListRead, exported_entries, is_listing}
use Rattle.link_db_texts.specs.ReadTexts.{ReadTexts, HasNames}
use Rattle.link_db_texts.proofs.Lists.{listed_is}
use Rattle.link_db_texts.proofs.Matched.{local_is, one-version, rust_local_is}

-- ---- lists

-- where there is one, it has what some entry fits
exported_some : (demangle : Bytes → Bytes) (text : Option Bytes) (forced : List Bytes) (entries : List ParsedSymbolMatcher)
    → is_listing text forced ≡ true → exported_by demangle text forced entries ≡ Some (λ n. list_any (entry_fits (asked demangle n)) entries)
exported_some demangle None [] entries e = absurd cc
exported_some demangle None (name ∷ forced) entries e = refl
exported_some demangle (Some text) [] entries e = refl
exported_some demangle (Some text) (name ∷ forced) entries e = refl

-- where there is a list, it has just these entries
listing_some : (b : Bool) (entries : List ParsedSymbolMatcher) (required : List Bytes) (list : ExportList) → IsListIf b entries required (Some list)
    → (b ≡ true) × IsListOf entries required list
listing_some true entries required list is = (refl, is)
listing_some false entries required list is = absurd is

-- where there is no text of a script of versions, no name is local
none_local : (profile : ScriptProfile) (demangle : Bytes → Bytes) (text : Option Bytes) (name : Bytes) → is_some text ≡ false → is_local_by (script_of profile text) (asked demangle name) ≡ false
none_local profile demangle None name e = refl
none_local profile demangle (Some text) name e = absurd cc

-- ---- answers

module _ (platform : PlatformRules) (demangle : Bytes → Bytes) (read : ReadTexts) (rules : Rules) (are : AreRulesOf platform demangle read rules) where
  -- what the text says that was taken
  raw : RawScript
  raw = script_of are.options.script_profile (taken_text are.texts are.scripts)

  -- the names that the text of an export list has
  names : ListedNames
  names = list_of platform are.options.script_profile are.texts.export_list

  -- the list that was read
  list_is : (list : Option ExportList) → read.list ≡ list
      → IsListIf (is_listing are.texts.export_list are.options.force_export) (exported_entries names are.options.force_export) names.required list
  unfolding names
  list_is list is = subst (λ o. IsListRead (list_of platform are.options.script_profile are.texts.export_list) are.texts.export_list are.options.force_export o) is are.holds.list

  -- the script that was read
  script_is : (script : VersionScript) → read.script ≡ script → IsScriptOf raw script
  unfolding raw
  script_is script is = subst (IsScriptOf (script_of are.options.script_profile (taken_text are.texts are.scripts))) is are.holds.script

  -- whether versions make a name local
  pub regular_local : (versions : List Version) (name : Bytes) (answer : Bool) → read.script ≡ Regular versions
      → ((raws : List RawVersion) → AreVersions raws versions
      → (r : Option (ℕ × Side)) × IsBest (filters_in raws) (asked demangle name) r × (answer ≡ is_local_match r))
      → answer ≡ rules.is_local_name name
  unfolding raw
  regular_local versions name answer is means =
      let best = means (versions_in raw) (script_is (Regular versions) is).1 in
      local_is raw (asked demangle name) answer best.0 best.1 best.2 ∙ sym (ap (λ (r : Rules). r.is_local_name name) are.same)

  -- whether names of a script of the Rust form do
  pub rust_local : (script : RustVersionScript) (set : Names) (name : Bytes) → read.script ≡ Rust script → HasNames script.global set
      → not (is_member set name) ≡ rules.is_local_name name
  unfolding raw
  rust_local script set name is has =
      ap not (has name)
      ∙ rust_local_is raw script (asked demangle name) (script_is (Rust script) is)
      ∙ sym (ap (λ (r : Rules). r.is_local_name name) are.same)

  -- where none was taken, no name is local
  pub untaken_local : (name : Bytes) → read.is_taken ≡ false → false ≡ rules.is_local_name name
  untaken_local name untaken =
      sym (ap (λ (r : Rules). r.is_local_name name) are.same
      ∙ none_local are.options.script_profile demangle (taken_text are.texts are.scripts) name (sym are.holds.taken ∙ untaken))

  -- the version of a name
  pub version_is : (name : Bytes) (explicit : Option Bytes) (answer : Result (Option ℕ) Undeclared)
      → ((text : RawScript) → IsScriptOf text read.script → IsVersionBy text (asked demangle name) explicit answer)
      → answer ≡ rules.version_of name explicit
  unfolding raw
  version_is name explicit answer means =
      one-version raw (asked demangle name) explicit answer (means raw (script_is read.script refl))
      ∙ sym (ap (λ (r : Rules). r.version_of name explicit) are.same)

  -- whether a list has a name
  pub exported_listed : (list : ExportList) (name : Bytes) (answer : Bool) → read.list ≡ Some list
      → IsTrue answer ↔ IsListed list (asked demangle name) → Some answer ≡ option_map (λ is_exported. is_exported name) rules.is_exported
  unfolding names
  exported_listed list name answer is means =
      let some = listing_some (is_listing are.texts.export_list are.options.force_export) (exported_entries names are.options.force_export) names.required list
      (list_is (Some list) is) in
      let same = listed_is list (exported_entries names are.options.force_export) names.required (asked demangle name) answer some.1 means in
      ap (λ (b : Bool). Some b) same
      ∙ sym (ap (λ (f : Option (Bytes → Bool)). option_map (λ is_exported. is_exported name) f)
      (ap (λ (r : Rules). r.is_exported) are.same
      ∙ exported_some demangle are.texts.export_list are.options.force_export (exported_entries names are.options.force_export) some.0))

-- ---- flags

-- there is something in a mapped option where there is something in the option
pub is_some-map : {X Y : Type 0} (f : X → Y) (o : Option X) → is_some (option_map f o) ≡ is_some o
is_some-map f None = refl
is_some-map f (Some x) = refl

-- a definition that no script of versions settles is local at first
pub hidden_by_rust : (w : Stage) (e : SymbolEntry) → (is_undefined e.place || is_local e.binding) ≡ false → is_some w.rules.rust_names ≡ true
    → downgrade_to_local ≡ script_flags w e
hidden_by_rust w e found rust = rw (found, rust) refl

-- the platform's rule, asked for what the rules say of the name
pub keeps_place : (platform : PlatformRules) (demangle : Bytes → Bytes) (read : ReadTexts) (w : Stage) (e : SymbolEntry) (output : OutputKind)
    (listed : Option Bool) → AreRulesOf platform demangle read w.rules → w.options.output ≡ output
    → listed ≡ option_map (λ is_exported. is_exported e.name) w.rules.is_exported
    → platform.is_non_interposable e output listed ≡ is_non_interposable w e
keeps_place platform demangle read w e output listed are same_output is =
    ap (λ (f : SymbolEntry → OutputKind → Option Bool → Bool). f e output listed) (sym (ap (λ (r : Rules). r.is_non_interposable) are.same))
    ∙ ap (λ (o : OutputKind). w.rules.is_non_interposable e o listed) (sym same_output)
    ∙ ap (λ (l : Option Bool). w.rules.is_non_interposable e w.options.output l) is
