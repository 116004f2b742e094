-- The marks of what is kept and of what holds root names are the roots of the definition of loading.
use Rattle.std.proofs.Common.{◌≡◌, ℕ, zero, suc, ◌+◌, ◌<◌, ◌≤◌, ◌∙◌, ◌⊎◌, List, [], ◌∷◌, Bool, false, length, get_or, Option, Some, None, refl, sym, ap, subst, arith, inl, inr}
use Rattle.std.specs.Prelude.{◌||◌, not, option_map, slice_get}
use Rattle.std.specs.List.{list_any}
use Rattle.std.specs.Option.{option_and_then, option_map_or}
use Rattle.std.proofs.Math.Bool.{or_assoc}
use Rattle.std.proofs.lemmas.Bool.{cases_lt, ne_eqb}
use Rattle.std.proofs.lemmas.List.{get_or_past}
use Rattle.std.proofs.lemmas.Option.{slice_get-map, slice_get_past}
use Rattle.link_closure.specs.Closure.{is_marked}
use Rattle.link_input.specs.ObjectFile.{ObjectFile, is_optional}
use Rattle.link_input.specs.Symbols.{Symbol, object_in}
use Rattle.link_rules.specs.Loading.{holds_name, is_root, root_names}
use Rattle.link_rules.specs.Names.{first_definition}
use Rattle.link_rules.specs.Places.{Bytes, each_from, is_number}
use Rattle.link_rules.specs.World.{Stage, object_of}
use Rattle.link_rules.specs.Rules.{PlatformRules}
use Rattle.link_db.specs.Database.{Database}
use Rattle.link_db_stage.specs.AtStage.{IsAtStage}
use Rattle.link_db_files.specs.declared.sources.SymbolSource.{SymbolSource}
use Rattle.link_resolve_requests.specs.Objects.{is_kept, kept_marks}
use Rattle.link_db_files.specs.Sources.{source_of, sources_of}
use Rattle.link_resolve_requests.proofs.Below.{object-below}
use Rattle.link_db_symbols.proofs.Listed.{each-length}

-- the object of a symbol is told by its source
pub object-there : (w : Stage) (s : ℕ) → option_and_then (λ (x : SymbolSource). x.object) (slice_get (sources_of w.symbols) s) ≡ object_of w s
object-there w s = ap (option_and_then (λ (x : SymbolSource). x.object)) (slice_get-map source_of w.symbols s) ∙ by-symbol (slice_get w.symbols s)
  where
    by-symbol : (o : Option Symbol) → option_and_then (λ (x : SymbolSource). x.object) (option_map source_of o) ≡ option_and_then (λ (x : Symbol). object_in x.origin) o
    by-symbol None = refl
    by-symbol (Some x) = refl

-- one of the objects has each symbol that an object has
pub record HasObjects (w : Stage) : Type 0 where
  pub below : (s : ℕ) (x : Symbol) (f : ℕ) → slice_get w.symbols s ≡ Some x → object_in x.origin ≡ Some f → f < length w.objects

-- so it is at every stage that a database is at
pub has-objects : {P : Type 0} (platform : PlatformRules) (demangle : Bytes → Bytes) (db : Database P) (w : Stage) → IsAtStage platform demangle db w → HasObjects w
has-objects {P} platform demangle db w at = record {
  below = λ s x f there is.
      subst (λ (objects : List ObjectFile). f < length objects) (sym at.objects)
      (object-below db.mapping.files.groups s x f (ap (λ (symbols : List Symbol). slice_get symbols s) (sym at.symbols) ∙ there) is);
}

-- a mark of a list that a test makes
made-mark : {X : Type 0} (test : ℕ → X → Bool) (i : ℕ) (xs : List X) (f : ℕ) → get_or (each_from test i xs) f false ≡ option_map_or (test (i + f)) (slice_get xs f) false
made-mark test i [] f = refl
made-mark test i (x ∷ xs) zero = let same : i ≡ i + 0 = omega arith in ap (λ n. test n x) same
made-mark test i (x ∷ xs) (suc f) =
    let next : i + 1 + f ≡ i + suc f = omega arith in
    made-mark test (i + 1) xs f ∙ ap (λ n. option_map_or (test n) (slice_get xs f) false) next

-- no number past them is that of an object
not-past : (count f : ℕ) (o : Option ℕ) → ((t : ℕ) → o ≡ Some t → t < count) → count ≤ f → is_number o f ≡ false
not-past count f None below past = refl
not-past count f (Some t) below past = let less : t < count = below t refl in ne_eqb t f (λ (same : t ≡ f). omega (arith, less, past, same))

-- the object of a symbol that may be there
symbol-object : (w : Stage) → HasObjects w → (s : ℕ) (o : Option Symbol) (t : ℕ) → slice_get w.symbols s ≡ o → option_and_then (λ (x : Symbol). object_in x.origin) o ≡ Some t → t < length w.objects
symbol-object w has s None t at is = absurd (cc)
symbol-object w has s (Some x) t at is = has.below s x t at is

-- the object of what a name is mapped to
mapped-object : (w : Stage) → HasObjects w → (o : Option ℕ) (t : ℕ) → option_and_then (object_of w) o ≡ Some t → t < length w.objects
mapped-object w has None t is = absurd (cc)
mapped-object w has (Some s) t is = symbol-object w has s (slice_get w.symbols s) t refl is

-- what is no object holds no name
holds-none : (w : Stage) → HasObjects w → (f : ℕ) → length w.objects ≤ f → (names : List Bytes) → list_any (holds_name w f) names ≡ false
holds-none w has f past [] = refl
holds-none w has f past (n ∷ ns) =
    ap (λ b. b || list_any (holds_name w f) ns)
    (not-past (length w.objects) f (option_and_then (object_of w) (first_definition w n)) (λ t is. mapped-object w has (first_definition w n) t is) past)
    ∙ holds-none w has f past ns

-- an object stands at each place before the last
there-is : {X : Type 0} (xs : List X) (f : ℕ) → f < length xs → slice_get xs f ≡ None → ⊥
there-is [] f lt is = omega arith
there-is (x ∷ xs) zero lt is = cc
there-is (x ∷ xs) (suc f) lt is = there-is xs f (omega (arith, lt)) is

-- of an object
root-inside : (w : Stage) (f : ℕ) (o : Option ObjectFile) → (o ≡ None → ⊥)
    → (option_map_or (is_kept w.earlier.loaded f) o false || list_any (holds_name w f) (root_names w))
    ≡ (is_marked w.earlier.loaded f || (option_map_or (λ o. not (is_optional o)) o false || list_any (holds_name w f) (root_names w)))
root-inside w f None some = absurd (some refl)
root-inside w f (Some o) some = or_assoc (is_marked w.earlier.loaded f) (not (is_optional o)) (list_any (holds_name w f) (root_names w))

-- what is marked so are the roots
pub roots-are : (w : Stage) (old new : List Bool) → HasObjects w → length w.earlier.loaded ≤ length w.objects
    → old ≡ kept_marks w.earlier.loaded w.objects → length new ≡ length old
    → ((f : ℕ) → f < length old → is_marked new f ≡ (is_marked old f || list_any (holds_name w f) (root_names w)))
    → (f : ℕ) → is_marked new f ≡ is_root w f
roots-are w old new has few kept long marked f =
    let count : length old ≡ length w.objects = ap (λ (l : List Bool). length l) kept ∙ each-length (is_kept w.earlier.loaded) 0 w.objects in
    by-place count (cases_lt f (length w.objects))
  where
    zero_add : 0 + f ≡ f
    zero_add = omega arith

    by-place : length old ≡ length w.objects → (f < length w.objects) ⊎ (length w.objects ≤ f) → is_marked new f ≡ is_root w f
    by-place count (inl lt) =
        marked f (omega (arith, lt, count))
        ∙ (ap (λ (l : List Bool). is_marked l f || list_any (holds_name w f) (root_names w)) kept
        ∙ (ap (λ b. b || list_any (holds_name w f) (root_names w)) (made-mark (is_kept w.earlier.loaded) 0 w.objects f ∙ ap (λ n. option_map_or (is_kept w.earlier.loaded n) (slice_get w.objects f) false) zero_add)
        ∙ root-inside w f (slice_get w.objects f) (there-is w.objects f lt)))
    by-place count (inr past) =
        let none : slice_get w.objects f ≡ None = slice_get_past w.objects f past in
        get_or_past new f false (omega (arith, past, count, long))
        ∙ sym (ap (λ b. b || (option_map_or (λ o. not (is_optional o)) (slice_get w.objects f) false || list_any (holds_name w f) (root_names w))) (get_or_past w.earlier.loaded f false (omega (arith, few, past)))
        ∙ (ap (λ (o : Option ObjectFile). option_map_or (λ o. not (is_optional o)) o false || list_any (holds_name w f) (root_names w)) none ∙ holds-none w has f past (root_names w)))
