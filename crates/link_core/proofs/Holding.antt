-- A link to which batches come, one after another.
use Rattle.std.proofs.Common.{◌≡◌, ◌∙◌, ◌⊎◌, ◌<◌, ◌≤◌, ◌++◌, List, [], ◌∷◌, Some, append_assoc, false, Err, inl, inr, refl, sym, ap, subst, arith, length}
use Rattle.std.specs.List.{flat_map}
use Rattle.std.specs.Option.{IsSomeAnd}
use Rattle.link_flags.specs.declared.value_flags.RawFlags.{RawFlags}
use Rattle.link_flags.specs.FlagWords.{numbers_of}
use Rattle.link_db_files.specs.Inputs.{objects_in}
use Rattle.link_input_groups.specs.Held.{AreGroupsOf}
use Rattle.link_input.specs.declared.options.Options.{Options}
use Rattle.link_input.specs.declared.world.Scripts.{Scripts}
use Rattle.link_input.specs.InputFiles.{Batch}
use Rattle.link_input.specs.ObjectFile.{ObjectFile}
use Rattle.link_rules.specs.declared.refusal.LinkError.{LinkError}
use Rattle.link_rules.specs.declared.refusal.LinkError.TheVariants.{Memory}
use Rattle.link_rules.specs.Answer.{BatchesEnd, EndsWith}
use Rattle.link_rules.specs.Marking.{ended}
use Rattle.link_rules.specs.Places.{Bytes}
use Rattle.link_rules.specs.Rules.{PlatformRules}
use Rattle.link_rules.specs.Selection.{Selection}
use Rattle.link_rules.specs.World.{Stage, World, start_of, world_of}
use Rattle.link_db.specs.Database.{Database}
use Rattle.link_resolve.specs.Known.{Known}
use Rattle.link_resolve.specs.Resolving.{Resolving}
use Rattle.link_core.specs.Given.{given_in_batches, world_of_batches}
use Rattle.link_core.specs.Results.{IsRefusedFor}
use Rattle.link_core.specs.Steps.{HasRoom, IsBefore, IsHeldAt, IsLoadedWith, IsOpenWith, IsReady}
use Rattle.link_core.proofs.Batches.{fails-behind}
use Rattle.link_core.proofs.Passing.{before-first, before-next, few-known, ready-next}
use Rattle.link_core.proofs.Refusing.{refused-by-batch}

-- the world of these batches with one more, on a platform and with a demangler
abbrev pub world_after : PlatformRules → (Bytes → Bytes) → Options → Scripts → List Batch → Batch → World
world_after platform demangle options texts [] b = world_of platform demangle (given_in_batches b [] options texts)
world_after platform demangle options texts (f ∷ fs) b = world_of platform demangle (given_in_batches f (fs ++ b ∷ []) options texts)

module _ {P : Type 0} (platform : PlatformRules) (demangle : Bytes → Bytes) (options : Options) (texts : Scripts) where
  -- what follows for one batch more, of whatever world it is the last
  abbrev pub ForNext : Batch → Database P → List RawFlags → Known → (World → Type 0) → Type 0
  ForNext b db words known Gives = (w : World) (done : List Batch) (before : Stage) → IsBefore platform demangle w done b before → IsReady platform w done before db (numbers_of words) known → Gives w

  -- it follows for the world of the batches that came and this one
  pub for-next : (done : List Batch) (b : Batch) (db : Database P) (words : List RawFlags) (r : Resolving) (Gives : World → Type 0)
      → IsOpenWith platform demangle options texts done db words r → ForNext b db words r.known Gives → Gives (world_after platform demangle options texts done b)
  for-next [] b db words r Gives came gives =
      let w = world_of platform demangle (given_in_batches b [] options texts) in
      gives w [] (start_of w) (before-first platform demangle w refl refl (came.texts_read b [])) (came.ready w refl refl)
  for-next (f ∷ fs) b db words r Gives came gives =
      let w = world_of platform demangle (given_in_batches f fs options texts) in
      gives (world_of platform demangle (given_in_batches f (fs ++ b ∷ []) options texts)) (f ∷ fs) (ended came.selection)
      (before-next platform demangle w b came.selection db (numbers_of words) r came.held) (ready-next platform demangle w b came.selection db (numbers_of words) r came.held)

  -- the groups are those of the batches that came
  pub groups-open : (done : List Batch) (db : Database P) (words : List RawFlags) (r : Resolving) → IsOpenWith platform demangle options texts done db words r
      → AreGroupsOf db.options done db.mapping.files.groups
  groups-open [] db words r came = came.groups
  groups-open (f ∷ fs) db words r came = came.held.groups

  -- what is known is of objects of these
  pub few-open : (done : List Batch) (db : Database P) (words : List RawFlags) (r : Resolving) → IsOpenWith platform demangle options texts done db words r
      → length r.known.marks ≤ length (objects_in db.mapping.files.groups)
  few-open [] db words r came = few-known r.known (length (objects_in db.mapping.files.groups)) came.known_is
  few-open (f ∷ fs) db words r came =
      let each = came.held.least.each in
      let marks = ap (λ l. length l) came.held.loaded.selection.marks in
      let objects = ap (λ (os : List ObjectFile). length os) came.held.loaded.selection.stage.objects in
      omega (arith, each, marks, objects)

  -- with one batch more, these are open
  pub open-next : (done : List Batch) (b : Batch) (db new : Database P) (words after : List RawFlags) (r next : Resolving) → IsOpenWith platform demangle options texts done db words r
      → HasRoom new after → ForNext b db words r.known (λ w. (l : Selection) × IsHeldAt platform demangle w l new (numbers_of after) next) → IsOpenWith platform demangle options texts (done ++ b ∷ []) new after next
  open-next [] b db new words after r next came room gives =
      let found = for-next [] b db words r (λ w. (l : Selection) × IsHeldAt platform demangle w l new (numbers_of after) next) came gives in
      record { selection = found.0; held = found.1; room = room }
  open-next (f ∷ fs) b db new words after r next came room gives =
      let found = for-next (f ∷ fs) b db words r (λ w. (l : Selection) × IsHeldAt platform demangle w l new (numbers_of after) next) came gives in
      record { selection = found.0; held = found.1; room = room }

  -- a cause that one batch more brings is that of the link of all batches, whatever comes behind it
  pub fails-open : (done : List Batch) (b : Batch) (more : List Batch) (db : Database P) (words : List RawFlags) (r : Resolving) (e : LinkError)
      → IsOpenWith platform demangle options texts done db words r → IsSomeAnd (world_of_batches platform demangle options texts (done ++ b ∷ [])) (λ w. BatchesEnd w (Err e)) ⊎ (e ≡ Memory)
      → IsRefusedFor platform demangle options texts (done ++ b ∷ more) e ⊎ (e ≡ Memory)
  fails-open done b more db words r e came (inr memory) = inr memory
  fails-open [] b more db words r e came (inl ends) =
      inl (refused-by-batch (world_of platform demangle (given_in_batches b more options texts)) e (came.texts_read b more)
      (fails-behind false (start_of (world_of platform demangle (given_in_batches b [] options texts))) b [] more e ends))
  fails-open (f ∷ fs) b more db words r e came (inl ends) =
      let start = start_of (world_of platform demangle (given_in_batches f (fs ++ b ∷ []) options texts)) in
      inl (refused-by-batch (world_of platform demangle (given_in_batches f (fs ++ b ∷ more) options texts)) e came.held.loaded.selects.texts
      (subst (λ (bs : List Batch). EndsWith false start f bs (Err e)) (append_assoc fs (b ∷ []) more) (fails-behind false start f (fs ++ b ∷ []) more e ends)))

  -- what is so where some batch came: their world is linked so far, and there is room for the rest
  pub record Ends (done : List Batch) (db : Database P) (words : List RawFlags) (r : Resolving) : Type 0 where
    pub world : World
    pub is : world_of_batches platform demangle options texts done ≡ Some world
    pub selection : Selection
    pub loaded : IsLoadedWith platform demangle world selection db (numbers_of words) r
    pub options_are : db.options ≡ options
    pub objects : selection.stage.objects ≡ flat_map (λ (b : Batch). b.objects) done
    pub room : HasRoom db words

  pub ends-open : (done : List Batch) (db : Database P) (words : List RawFlags) (r : Resolving) → 0 < length done → IsOpenWith platform demangle options texts done db words r → Ends done db words r
  ends-open [] db words r some came = absurd (omega (arith, some))
  ends-open (f ∷ fs) db words r some came = record {
    world = world_of platform demangle (given_in_batches f fs options texts);
    is = refl;
    selection = came.selection;
    loaded = came.held.loaded;
    options_are = sym came.held.loaded.selection.stage.options ∙ came.held.files.options_are;
    objects = came.held.files.objects;
    room = came.room;
  }
