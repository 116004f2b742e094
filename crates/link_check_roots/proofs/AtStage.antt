-- The marks are those of the roots of a first stage.
use Rattle.std.proofs.Common.{◌≡◌, ℕ, zero, suc, ◌<◌, ◌∙◌, Bool, false, List, [], ◌∷◌, Option, Some, None, length, map, slice_get, refl, sym, ap, subst}
use Rattle.std.specs.Prelude.{◌||◌, fold, not, option_and_then}
use Rattle.std.specs.List.{list_any}
use Rattle.std.specs.Option.{option_map_or}
use Rattle.std.proofs.lemmas.List.{length-map}
use Rattle.link_closure.specs.Closure.{is_marked}
use Rattle.link_input.specs.declared.internal_symbols.InternalSymDefInfo.{InternalSymDefInfo}
use Rattle.link_input.specs.declared.options.Options.{Options}
use Rattle.link_input.specs.declared.world.ProcessedLinkerScript.{ProcessedLinkerScript}
use Rattle.link_input.specs.InputFiles.{Batch}
use Rattle.link_input.specs.ObjectFile.{ObjectFile, is_optional}
use Rattle.link_input.specs.PreludeSymbols.{prelude_symbols}
use Rattle.link_input.specs.Symbols.{Symbol}
use Rattle.link_rules.specs.Loading.{is_required, is_root}
use Rattle.link_rules.specs.Places.{Bytes}
use Rattle.link_rules.specs.World.{Earlier, Stage, World, first_stage, start_of}
use Rattle.link_rules.proofs.Settled.{none_some}
use Rattle.link_rules.proofs.Stages.{orderly-grows, orderly-start}
use Rattle.link_rules.proofs.WorkItems.{object_below}
use Rattle.link_check_names.specs.Named.{Named, mapped_name}
use Rattle.link_check_symbols.specs.Gathered.{link_symbols}
use Rattle.link_check_targets.specs.Tables.{object_at}
use Rattle.link_check_roots.specs.Given.{given_names}
use Rattle.link_check_roots.specs.Marks.{holds, marked_by}
use Rattle.link_check_roots.specs.Stages.{IsRootStage}
use Rattle.link_check_roots.proofs.MarkedAll.{marked-all}

-- an object that is linked even where nothing asks for it
abbrev pub is_taken : ObjectFile → Bool
is_taken o = not (is_optional o)

-- the symbols and wrapped names of a stage
abbrev named : Stage → Named
named w = record { symbols = w.symbols; wrap = w.options.wrap }

-- the object of a symbol is one of the batch
within : (w : Stage) (b : Batch) → w.symbols ≡ link_symbols (prelude_symbols w.options) b → (s g : ℕ) → object_at w.symbols s ≡ Some g → g < length b.objects
within w b is s g at =
    let world : World = record { first = b; later = []; options = w.options; texts = w.texts; rules = w.rules } in
    object_below (first_stage world) (orderly-grows (start_of world) b (orderly-start world)) s g (ap (λ (l : List Symbol). object_at l s) (sym is) ∙ at)

-- so is the object that holds what a name is mapped to
named-within : (w : Stage) (b : Batch) → w.symbols ≡ link_symbols (prelude_symbols w.options) b → (o : Option ℕ) (g : ℕ) → option_and_then (object_at w.symbols) o ≡ Some g
    → g < length b.objects
named-within w b is None g at = absurd (none_some g at)
named-within w b is (Some s) g at = within w b is s g at

-- the marks of objects that are linked even where nothing asks for them
taken-marks : (os : List ObjectFile) (f : ℕ) → is_marked (map is_taken os) f ≡ option_map_or is_taken (slice_get os f) false
taken-marks [] f = refl
taken-marks (o ∷ os) zero = refl
taken-marks (o ∷ os) (suc f) = taken-marks os f

-- the object is marked once those of these names are
abbrev is_found : ℕ → Named → List ObjectFile → List Bytes → Bool
is_found f n os names = is_marked (fold (marked_by n) (map is_taken os) names) f

-- the roots of a stage before which no batch came, by its own symbols and names
own-roots : (w : Stage) (b : Batch) (f : ℕ) (earlier : Earlier) → w.earlier ≡ earlier → earlier.loaded ≡ [] → w.objects ≡ b.objects
    → w.symbols ≡ link_symbols (prelude_symbols w.options) b
    → is_root w f ≡ is_found f (named w) w.objects (given_names w.options (prelude_symbols w.options) w.scripts w.rules.required_exports)
own-roots w b f earlier first none objects gathered =
    let names = given_names w.options (prelude_symbols w.options) w.scripts w.rules.required_exports in
    let count : length b.objects ≡ length (map is_taken w.objects) = sym (length-map w.objects is_taken ∙ ap length objects) in
    ap (λ (e : Earlier). is_marked e.loaded f || is_required w f) first
    ∙ (ap (λ (l : List Bool). is_marked l f || is_required w f) none
    ∙ (ap (λ (m : Bool). m || list_any (holds (named w) f) names) (sym (taken-marks w.objects f))
    ∙ sym (marked-all (named w) names (map is_taken w.objects) f
    (λ name g at. subst (λ k. g < k) count (named-within w b gathered (mapped_name (named w) name) g at)))))

-- the same by what a link is given
pub roots-are : (definitions : List InternalSymDefInfo) (b : Batch) (options : Options) (required : List Bytes) (n : Named) (w : Stage)
    → IsRootStage definitions b options required n w → (f : ℕ)
    → is_root w f ≡ is_marked (fold (marked_by n) (map is_taken b.objects) (given_names options definitions b.scripts required)) f
roots-are definitions b options required n w is f =
    let exports = w.rules.required_exports in
    let same : named w ≡ n =
    ap (λ (l : List Symbol). record { symbols = l; wrap = w.options.wrap }) is.symbols
    ∙ ap (λ (wrap : List Bytes). record { symbols = n.symbols; wrap = wrap }) is.wrap in
    own-roots w b f _ is.first refl is.objects is.gathered
    ∙ (ap (λ (m : Named). is_found f m w.objects (given_names w.options (prelude_symbols w.options) w.scripts exports)) same
    ∙ (ap (λ (os : List ObjectFile). is_found f n os (given_names w.options (prelude_symbols w.options) w.scripts exports)) is.objects
    ∙ (ap (λ (o : Options). is_found f n b.objects (given_names o (prelude_symbols w.options) w.scripts exports)) is.given
    ∙ (ap (λ (ds : List InternalSymDefInfo). is_found f n b.objects (given_names options ds w.scripts exports)) is.prelude
    ∙ (ap (λ (ss : List ProcessedLinkerScript). is_found f n b.objects (given_names options definitions ss exports)) is.scripts
    ∙ ap (λ (es : List Bytes). is_found f n b.objects (given_names options definitions b.scripts es)) is.exports)))))
