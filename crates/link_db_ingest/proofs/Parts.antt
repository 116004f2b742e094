-- What is read of groups, part by part, is what their files give.
use Rattle.std.proofs.Common.{◌≡◌, List, [], ◌∷◌, ◌++◌, map, Result, Ok, Err, refl, sym, ap, subst, ◌∙◌}
use Rattle.std.specs.Prelude.{IfOk, MatchResult}
use Rattle.std.specs.List.{AllZip, Contains, flat_map}
use Rattle.std.specs.Global.{Global}
use Rattle.std.specs.declared.alloc.AllocError.{AllocError}
use Rattle.std.specs.declared.vec.Vec.{Vec}
use Rattle.std.proofs.lemmas.Grind.{flat_map-append}
use Rattle.link_input.specs.declared.options.OutputKind.{OutputKind}
use Rattle.link_input.specs.SequencedFiles.{SequencedFile}
use Rattle.link_input_groups.specs.declared.group.Group.{Group}
use Rattle.link_input_groups.specs.Asked.{AllCanBeAsked}
use Rattle.link_input_groups.specs.Groups.{files_of}
use Rattle.link_rules.specs.Places.{Bytes}
use Rattle.link_rules.specs.Rules.{PlatformRules}
use Rattle.link_rules.specs.World.{Stage}
use Rattle.link_db_texts.specs.ReadTexts.{ReadTexts}
use Rattle.link_db_ingest.specs.declared.read_symbols.ReadSymbols.{ReadSymbols}
use Rattle.link_db_ingest.specs.Files.{AllCanBeRead, IsStageBy, file_definitions, file_flags, numbers_of}
use Rattle.link_db_ingest.specs.Parts.{HasAllFlags, IsReadOf}

-- groups that can be asked can be read
pub all_can_be_read : {P : Type 0} (groups : List (Group P)) → AllCanBeAsked groups → AllCanBeRead groups
all_can_be_read [] asked = tt
all_can_be_read (g ∷ gs) asked = (record { fits = asked.0.fits; tables = asked.0.tables }, all_can_be_read gs asked.1)

-- what parts of groups give together, where each part gives what its group's files do
joined : {P Z : Type 0} (of_part : ReadSymbols → List Z) (of_file : SequencedFile → List Z) (R : Group P → Result ReadSymbols AllocError → Type 0)
    → ((g : Group P) (r : ReadSymbols) → R g (Ok r) → of_part r ≡ flat_map of_file (files_of g))
    → (groups : List (Group P)) (parts : List ReadSymbols) → AllZip R groups (map Ok parts)
    → flat_map of_part parts ≡ flat_map of_file (flat_map (λ g. files_of g) groups)
joined of_part of_file R gives [] [] zipped = refl
joined of_part of_file R gives [] (r ∷ rs) zipped = absurd zipped
joined of_part of_file R gives (g ∷ gs) [] zipped = absurd zipped
joined {P} of_part of_file R gives (g ∷ gs) (r ∷ rs) zipped =
    ap (λ xs. xs ++ flat_map of_part rs) (gives g r zipped.0)
    ∙ ap (λ xs. flat_map of_file (files_of g) ++ xs) (joined of_part of_file R gives gs rs zipped.1)
    ∙ sym (flat_map-append of_file (files_of g) (flat_map (λ (g : Group P). files_of g) gs))

-- the same of parts of which none was refused
collected : {P Z : Type 0} (of_part : ReadSymbols → List Z) (of_file : SequencedFile → List Z) (R : Group P → Result ReadSymbols AllocError → Type 0)
    → ((g : Group P) (r : ReadSymbols) → R g (Ok r) → of_part r ≡ flat_map of_file (files_of g))
    → (groups : List (Group P)) (results : List (Result ReadSymbols AllocError)) (r : Result (Vec ReadSymbols Global) AllocError) → AllZip R groups results
    → MatchResult r (λ v. (parts : List ReadSymbols) × (results ≡ map Ok parts) × (v.items ≡ parts)) (λ e. Contains results (Err e))
    → IfOk r (λ v. flat_map of_part v.items ≡ flat_map of_file (flat_map (λ g. files_of g) groups))
collected of_part of_file R gives groups results (Err e) zipped given = tt
collected of_part of_file R gives groups results (Ok v) zipped given =
    ap (flat_map of_part) given.2 ∙ joined of_part of_file R gives groups given.0 (subst (AllZip R groups) given.1 zipped)

-- what is said of each group and what was read of it, where nothing was refused
each_part : {P : Type 0} (R : Group P → Result ReadSymbols AllocError → Type 0) (S : Group P → ReadSymbols → Type 0) → ((g : Group P) (r : ReadSymbols) → R g (Ok r) → S g r)
    → (groups : List (Group P)) (parts : List ReadSymbols) → AllZip R groups (map Ok parts) → AllZip S groups parts
each_part R S so [] [] zipped = tt
each_part R S so [] (r ∷ rs) zipped = absurd zipped
each_part R S so (g ∷ gs) [] zipped = absurd zipped
each_part R S so (g ∷ gs) (r ∷ rs) zipped = (so g r zipped.0, each_part R S so gs rs zipped.1)

module _ {P : Type 0} (platform : PlatformRules) (demangle : Bytes → Bytes) (texts : ReadTexts) (output : OutputKind) (groups : List (Group P))
    (results : List (Result ReadSymbols AllocError)) (zipped : AllZip (λ g r. IfOk r (IsReadOf platform demangle texts output g)) groups results) where
  -- the definitions of all parts are those of all files
  pub all_definitions_read : (r : Result (Vec ReadSymbols Global) AllocError)
      → MatchResult r (λ v. (parts : List ReadSymbols) × (results ≡ map Ok parts) × (v.items ≡ parts)) (λ e. Contains results (Err e))
      → IfOk r (λ v. flat_map (λ part. part.definitions.items) v.items ≡ flat_map file_definitions (flat_map (λ g. files_of g) groups))
  all_definitions_read r given =
      collected (λ (part : ReadSymbols). part.definitions.items) file_definitions (λ (g : Group P) r. IfOk r (IsReadOf platform demangle texts output g))
      (λ g r is. is.definitions) groups results r zipped given

  -- and so are their flags
  pub all_flags_read : (r : Result (Vec ReadSymbols Global) AllocError)
      → MatchResult r (λ v. (parts : List ReadSymbols) × (results ≡ map Ok parts) × (v.items ≡ parts)) (λ e. Contains results (Err e))
      → IfOk r (λ v. (w : Stage) → IsStageBy platform demangle texts output w
      → flat_map (λ part. numbers_of part.flags.items) v.items ≡ flat_map (file_flags w) (flat_map (λ g. files_of g) groups))
  all_flags_read (Err e) given = tt
  all_flags_read (Ok v) given = λ w is_stage.
      collected (λ (part : ReadSymbols). numbers_of part.flags.items) (file_flags w) (λ (g : Group P) r. IfOk r (IsReadOf platform demangle texts output g))
      (λ g r is. is.flags w is_stage) groups results (Ok v) zipped given

  -- each part has flags for each id of its group
  pub all_have_flags : (r : Result (Vec ReadSymbols Global) AllocError)
      → MatchResult r (λ v. (parts : List ReadSymbols) × (results ≡ map Ok parts) × (v.items ≡ parts)) (λ e. Contains results (Err e))
      → IfOk r (λ v. AllZip (λ group part. HasAllFlags group part) groups v.items)
  all_have_flags (Err e) given = tt
  all_have_flags (Ok v) given =
      subst (λ (parts : List ReadSymbols). AllZip (λ (g : Group P) part. HasAllFlags g part) groups parts) (sym given.2)
      (each_part (λ (g : Group P) r. IfOk r (IsReadOf platform demangle texts output g)) (λ g part. HasAllFlags g part) (λ g r is. is.count) groups given.0
      (subst (λ (rs : List (Result ReadSymbols AllocError)). AllZip (λ (g : Group P) r. IfOk r (IsReadOf platform demangle texts output g)) groups rs) given.1 zipped))
