-- A link that stands: what is so of it behind each call, and how the calls of a session tell why they refuse.
use Rattle.std.proofs.Common.{◌≡◌, ◌∙◌, ◌⊎◌, ◌<◌, ◌≤◌, ◌++◌, List, [], ◌∷◌, Option, Some, Result, Ok, Err, append-nil, inl, inr, refl, sym, ap, subst, arith, length, length-append, map}
use Rattle.std.specs.Prelude.{IfErr}
use Rattle.std.specs.Option.{IsSomeAnd}
use Rattle.std.specs.Result.{IsErrAnd}
use Rattle.std.proofs.lemmas.List.{length-map}
use Rattle.link_flags.specs.declared.value_flags.RawFlags.{RawFlags}
use Rattle.link_flags.specs.FlagWords.{numbers_of, words_of}
use Rattle.link_input_groups.specs.Held.{AreGroupsOf}
use Rattle.link_input.specs.declared.options.Options.{Options}
use Rattle.link_input.specs.declared.platform.Platform.{Ghosts}
use Rattle.link_input.specs.declared.world.Inputs.{Inputs}
use Rattle.link_input.specs.declared.world.Scripts.{Scripts}
use Rattle.link_input.specs.InputFiles.{Batch, batch_of}
use Rattle.link_db_texts.specs.Causes.{IsGiven, TellsCause}
use Rattle.link_rules.specs.declared.refusal.LinkError.{LinkError}
use Rattle.link_rules.specs.declared.refusal.LinkError.TheVariants as link
use Rattle.link_rules.specs.Answer.{BatchesEnd}
use Rattle.link_rules.specs.FoundRoots.{Passes}
use Rattle.link_rules.specs.Places.{Bytes}
use Rattle.link_rules.specs.Refusals.{text_refusal}
use Rattle.link_rules.specs.Rules.{PlatformRules}
use Rattle.link_rules.specs.Selection.{Selection}
use Rattle.link_rules.specs.World.{Stage, World, start_of, world_of}
use Rattle.link_rules.proofs.AllRoots.{passes-more, passes-with}
use Rattle.link_rules.proofs.Settled.{none_some, some_same}
use Rattle.link_db.specs.Database.{Database}
use Rattle.link_db.specs.Seen.{seen}
use Rattle.link_db_stage.specs.AtStage.{IsAtStage}
use Rattle.link_resolve.specs.Resolving.{Resolving}
use Rattle.link_resolve_roots.specs.Found.{AreFound, Found}
use Rattle.link_core.specs.declared.batch_size.BatchSize.{BatchSize}
use Rattle.link_core.specs.declared.session_error.SessionError.{SessionError}
use Rattle.link_core.specs.Given.{given_in_batches, world_of_batches}
use Rattle.link_core.specs.Results.{IsRefusedFor}
use Rattle.link_core.specs.SessionErrors.{IsCause, IsToldAs}
use Rattle.link_core.specs.Sizes.{batches_in, size_of}
use Rattle.link_core.specs.declared.standing_link.StandingLink.{StandingLink}
use Rattle.link_core.specs.Standing.{HaveNoted, IsStanding, Stands, came_to}
use Rattle.link_core.specs.Steps.{HasRoom, IsHeldAt, IsNew, IsOpenWith, IsSteady, Selects}
use Rattle.link_core.proofs.Cutting.{one-more-held, one-size-more}
use Rattle.link_core.proofs.Holding.{Ends, ForNext, ends-open, for-next, groups-open, open-next}
use Rattle.link_core.proofs.Passing.{told-by}
use Rattle.link_core.proofs.Refusing.{refused-by-text}

-- such a cause, or want of memory, is told as such a cause
told : (Is : LinkError → Type 0) (e : LinkError) (t : SessionError) → Is e ⊎ (e ≡ link.Memory) → IsToldAs e t → IsCause Is t
told Is e t given (inl (memory, is)) = subst (λ (x : SessionError). IsCause Is x) (sym is) tt
told Is e t (inl holds) (inr (other, is)) = subst (λ (x : SessionError). IsCause Is x) (sym is) (holds, other)
told Is e t (inr memory) (inr (other, is)) = absurd (other memory)

-- and so is what a call tells that hands it on
pub told-through : {A : Type 0} (Is : LinkError → Type 0) (e : LinkError) (r : Result A SessionError) → Is e ⊎ (e ≡ link.Memory) → IsErrAnd r (λ t. IsToldAs e t) → IfErr r (IsCause Is)
told-through Is e (Ok x) given through = tt
told-through Is e (Err t) given through = told Is e t given through

module _ {P : Type 0} (platform : PlatformRules) (demangle : Bytes → Bytes) (texts : Scripts) where
  -- no batch has come: the options are the database's
  pub options-new : (options : Options) (db : Database P) (words : List RawFlags) (r : Resolving) → IsNew platform demangle options texts db words r.known → db.options ≡ options
  options-new options db words r new = (new.ready (world_of platform demangle (given_in_batches none [] options texts)) refl refl).options
    where
      none : Batch
      none = record { objects = []; scripts = []; stubs = [] }

  -- and the link stands
  pub stands-new : (options : Options) (db : Database P) (words : List RawFlags) (r : Resolving) (found : Found) → IsNew platform demangle options texts db words r.known
      → IsSteady db words r.known → AreFound [] found → IsStanding platform demangle texts [] db words r found
  stands-new options db words r found new steady none = record {
    came = subst (λ (o : Options). IsNew platform demangle o texts db words r.known) (sym (options-new options db words r new)) new;
    steady = steady;
    sizes_are = refl;
    noted = none;
  }

  -- what is found at a stage of the database stands behind what was found
  abbrev pub IsNotedWith : Database P → Found → Found → Type 0
  IsNotedWith new found noted = (w : Stage) → IsAtStage platform demangle new w → (ws : List Stage) → AreFound ws found → AreFound (ws ++ w ∷ []) noted

  -- what was found at the stages of the batches, with what is found with one more
  noted-next : (options : Options) (done : List Batch) (b : Batch) (new : Database P) (after : List RawFlags) (next : Resolving) (found noted : Found)
      → IsOpenWith platform demangle options texts (done ++ b ∷ []) new after next → HaveNoted platform demangle options texts done found → IsNotedWith new found noted
      → HaveNoted platform demangle options texts (done ++ b ∷ []) noted
  noted-next options [] b new after next found noted came none note = λ ws last passes.
      let w = world_of platform demangle (given_in_batches b [] options texts) in
      let same = passes-with w ws last came.selection passes came.held.loaded.selects.ends in
      let at = subst (λ (k : Selection). IsAtStage platform demangle new k.stage) (sym same) came.held.loaded.selection.stage in
      let one : ws ≡ last.stage ∷ [] = passes.2 ∙ ap (λ (k : Selection). k.stage ∷ []) (sym passes.3) in
      subst (λ (vs : List Stage). AreFound vs noted) (sym one) (note last.stage at [] none)
  noted-next options (f ∷ fs) b new after next found noted came before note = λ ws last passes.
      let w = world_of platform demangle (given_in_batches f (fs ++ b ∷ []) options texts) in
      let same = passes-with w ws last came.selection passes came.held.loaded.selects.ends in
      let at = subst (λ (k : Selection). IsAtStage platform demangle new k.stage) (sym same) came.held.loaded.selection.stage in
      let more = passes-more (start_of w) f fs b ws last passes in
      subst (λ (vs : List Stage). AreFound vs noted) (sym more.3) (note last.stage at more.0 (before more.0 more.1 more.2))

  -- one batch more came, and one size more
  pub record StandsNext (sizes more : List BatchSize) (b : Batch) (db new : Database P) (after : List RawFlags) (next : Resolving) (noted : Found) : Type 0 where
    pub standing : IsStanding platform demangle texts more new after next noted
    pub batches : batches_in more new.mapping.files.groups ≡ batches_in sizes db.mapping.files.groups ++ b ∷ []
    pub options : new.options ≡ db.options
    pub selects : IsSomeAnd (world_of_batches platform demangle db.options texts (batches_in sizes db.mapping.files.groups ++ b ∷ [])) (λ w. (l : Selection) × Selects w l)

  pub stands-next : (sizes more : List BatchSize) (b : Batch) (db new : Database P) (words after : List RawFlags) (r next : Resolving) (found noted : Found) → more ≡ sizes ++ size_of b ∷ []
      → IsStanding platform demangle texts sizes db words r found → HasRoom new after → IsSteady new after next.known
      → ((batches : List Batch) → AreGroupsOf db.options batches db.mapping.files.groups → AreGroupsOf new.options (batches ++ b ∷ []) new.mapping.files.groups)
      → ForNext platform demangle db.options texts b db words r.known (λ w. (l : Selection) × IsHeldAt platform demangle w l new (numbers_of after) next)
      → IsNotedWith new found noted → StandsNext sizes more b db new after next noted
  stands-next sizes more b db new words after r next found noted one stands room steady grown gives note =
      let done = batches_in sizes db.mapping.files.groups in
      let came = open-next platform demangle db.options texts done b db new words after r next stands.came room gives in
      let some : 0 < length (done ++ b ∷ []) = omega (arith, length-append done (b ∷ [])) in
      let ends = ends-open platform demangle db.options texts (done ++ b ∷ []) new after next some came in
      let held = grown done (groups-open platform demangle db.options texts done db words r stands.came) in
      let cut = ap (λ (ns : List BatchSize). batches_in ns new.mapping.files.groups) one ∙ one-more-held new.options sizes b db.mapping.files.groups new.mapping.files.groups stands.sizes_are held in
      record {
        standing = record {
          came = subst (λ (bs : List Batch). IsOpenWith platform demangle new.options texts bs new after next) (sym cut)
              (subst (λ (o : Options). IsOpenWith platform demangle o texts (done ++ b ∷ []) new after next) (sym ends.options_are) came);
          steady = steady;
          sizes_are = ap (λ (bs : List Batch). map size_of bs) cut ∙ (one-size-more done b sizes stands.sizes_are ∙ sym one);
          noted = subst (λ (bs : List Batch). HaveNoted platform demangle new.options texts bs noted) (sym cut)
              (subst (λ (o : Options). HaveNoted platform demangle o texts (done ++ b ∷ []) noted) (sym ends.options_are)
              (noted-next db.options done b new after next found noted came stands.noted note));
        };
        batches = cut;
        options = ends.options_are;
        selects = subst (λ (o : Option World). IsSomeAnd o (λ w. (l : Selection) × Selects w l)) (sym ends.is) (ends.selection, ends.loaded.selects);
      }

  -- a cause that one batch more brings ends the link of the batches
  pub refused-next : (options : Options) (done : List Batch) (b : Batch) (db : Database P) (words : List RawFlags) (r : Resolving) (e : LinkError)
      → IsOpenWith platform demangle options texts done db words r → ForNext platform demangle options texts b db words r.known (λ w. BatchesEnd w (Err e) ⊎ (e ≡ link.Memory))
      → IsSomeAnd (world_of_batches platform demangle options texts (done ++ b ∷ [])) (λ w. BatchesEnd w (Err e)) ⊎ (e ≡ link.Memory)
  refused-next options [] b db words r e came gives = for-next platform demangle options texts [] b db words r (λ w. BatchesEnd w (Err e) ⊎ (e ≡ link.Memory)) came gives
  refused-next options (f ∷ fs) b db words r e came gives = for-next platform demangle options texts (f ∷ fs) b db words r (λ w. BatchesEnd w (Err e) ⊎ (e ≡ link.Memory)) came gives

-- what is so of a link that stands, where some batch came
pub ends-standing : {P : Type 0} {G : Ghosts P} (platform : PlatformRules) (demangle : Bytes → Bytes) (s : StandingLink P G) → Stands platform demangle s → 0 < length (came_to s)
    → Ends platform demangle (seen s.link.db).options s.texts (came_to s) (seen s.link.db) (words_of s.link.flags) s.link.resolver
ends-standing platform demangle s stands some =
    ends-open platform demangle (seen s.link.db).options s.texts (came_to s) (seen s.link.db) (words_of s.link.flags) s.link.resolver some stands.came

-- what was found for root names at the stages that the link of the batches passes
pub noted-at : (platform : PlatformRules) (demangle : Bytes → Bytes) (options : Options) (texts : Scripts) (batches : List Batch) (found : Found) (w : World)
    → HaveNoted platform demangle options texts batches found → world_of_batches platform demangle options texts batches ≡ Some w
    → (ws : List Stage) (last : Selection) → Passes w ws last → AreFound ws found
noted-at platform demangle options texts [] found w noted is = absurd (none_some w is)
noted-at platform demangle options texts (b ∷ bs) found w noted is = λ ws last passes.
    noted ws last (subst (λ (v : World). Passes v ws last) (sym (some_same (world_of platform demangle (given_in_batches b bs options texts)) w is)) passes)

-- a text is the cause, whatever batches there are
pub refused-text : (platform : PlatformRules) (demangle : Bytes → Bytes) (texts : Scripts) (options : Options) (batches : List Batch) (e : LinkError) → 0 < length batches
    → ((w : World) → IsGiven platform options texts w → TellsCause {A = Unit {0}} (text_refusal w) (Err e)) → IsRefusedFor platform demangle options texts batches e ⊎ (e ≡ link.Memory)
refused-text platform demangle texts options [] e some tells = absurd (omega (arith, some))
refused-text platform demangle texts options (b ∷ bs) e some tells =
    let w : World = world_of platform demangle (given_in_batches b bs options texts) in
    told-by (Unit {0}) (IsRefusedFor platform demangle options texts (b ∷ bs) e) (text_refusal w) e (λ is. refused-by-text w e is)
    (tells w (record { same_options = refl; same_texts = refl; list_fault = refl }))

-- fewer batches came than there are, where one is left
pub few-left : {P : Type 0} (done : List Batch) (rest all : List (Inputs P)) (x : Inputs P) (others : List (Inputs P)) → done ++ map batch_of rest ≡ map batch_of all → rest ≡ x ∷ others
    → length all ≤ 256 → length done < 256
few-left {P} done rest all x others is left most =
    let whole = ap (λ (bs : List Batch). length bs) is in
    let both = length-append done (map (batch_of {P = P}) rest) in
    let of_rest = length-map rest (batch_of {P = P}) in
    let of_all = length-map all (batch_of {P = P}) in
    let one = ap (λ (xs : List (Inputs P)). length xs) left in
    omega (arith, whole, both, of_rest, of_all, one, most)

-- all came where none is left
pub all-came : {P : Type 0} (done : List Batch) (rest all : List (Inputs P)) → length rest ≡ 0 → done ++ map batch_of rest ≡ map batch_of all → done ≡ map batch_of all
all-came done [] all none is = sym (append-nil done) ∙ is
all-came done (x ∷ xs) all none is = absurd (omega (arith, none))
