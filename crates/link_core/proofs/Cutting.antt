-- Batches are what their sizes cut off their files.
use Rattle.std.proofs.Common.{◌≡◌, ◌∙◌, ◌++◌, List, [], ◌∷◌, ap, length, map, refl, subst}
use Rattle.std.specs.List.{flat_map}
use Rattle.std.proofs.lemmas.List.{drop_at, take_at}
use Rattle.link_db_files.proofs.Joining.{objects-of-batches, scripts-of-batches, stubs-of-batches}
use Rattle.link_input_groups.specs.declared.group.Group.{Group}
use Rattle.link_input_groups.specs.Held.{AreGroupsOf}
use Rattle.link_input.specs.declared.options.Options.{Options}
use Rattle.link_input.specs.InputFiles.{Batch}
use Rattle.link_core.specs.declared.batch_size.BatchSize.{BatchSize}
use Rattle.link_core.specs.Sizes.{batches_in, cut_by, size_of}

-- the sizes of batches cut these batches off their files
cut-all : (bs : List Batch) → cut_by (map size_of bs) (flat_map (λ b. b.objects) bs) (flat_map (λ b. b.scripts) bs) (flat_map (λ b. b.stubs) bs) ≡ bs
cut-all [] = refl
cut-all (b ∷ bs) =
    rw (
      take_at b.objects (flat_map (λ (x : Batch). x.objects) bs) (length b.objects) refl,
      take_at b.scripts (flat_map (λ (x : Batch). x.scripts) bs) (length b.scripts) refl,
      take_at b.stubs (flat_map (λ (x : Batch). x.stubs) bs) (length b.stubs) refl,
      drop_at b.objects (flat_map (λ (x : Batch). x.objects) bs) (length b.objects) refl,
      drop_at b.scripts (flat_map (λ (x : Batch). x.scripts) bs) (length b.scripts) refl,
      drop_at b.stubs (flat_map (λ (x : Batch). x.stubs) bs) (length b.stubs) refl,
    )
    (ap (λ (l : List Batch). b ∷ l) (cut-all bs))

-- so they cut them off the groups that hold them
pub batches-held : {P : Type 0} (options : Options) (bs : List Batch) (groups : List (Group P)) → AreGroupsOf options bs groups → batches_in (map size_of bs) groups ≡ bs
batches-held options bs groups held =
    rw (objects-of-batches options bs groups held, scripts-of-batches options bs groups held, stubs-of-batches options bs groups held) (cut-all bs)

-- one batch more has one size more
pub one-size-more : (bs : List Batch) (b : Batch) (sizes : List BatchSize) → map size_of bs ≡ sizes → map size_of (bs ++ b ∷ []) ≡ sizes ++ size_of b ∷ []
one-size-more bs b sizes are = added bs ∙ ap (λ (ns : List BatchSize). ns ++ size_of b ∷ []) are
  where
    added : (cs : List Batch) → map size_of (cs ++ b ∷ []) ≡ map size_of cs ++ size_of b ∷ []
    added [] = refl
    added (c ∷ cs) = ap (λ (ns : List BatchSize). size_of c ∷ ns) (added cs)

-- so groups that hold one batch more are cut by one size more
pub one-more-held : {P Q : Type 0} (options : Options) (sizes : List BatchSize) (b : Batch) (old : List (Group P)) (new : List (Group Q)) → map size_of (batches_in sizes old) ≡ sizes
    → AreGroupsOf options (batches_in sizes old ++ b ∷ []) new → batches_in (sizes ++ size_of b ∷ []) new ≡ batches_in sizes old ++ b ∷ []
one-more-held options sizes b old new are held =
    let bs = batches_in sizes old in
    subst (λ (ns : List BatchSize). batches_in ns new ≡ bs ++ b ∷ []) (one-size-more bs b sizes are) (batches-held options (bs ++ b ∷ []) new held)
