-- Files that are resolved one after another.
use Rattle.std.proofs.Common.{◌≡◌, ◌+◌, ◌<◌, ◌++◌, ◌∙◌, ℕ, List, [], ◌∷◌, Bool, ap, append_assoc, drop, get_or, length, map, sym, arith}
use Rattle.std.proofs.lemmas.List.{drop_more, map-append}
use Rattle.link_input_groups.specs.declared.group.Group.{Group}
use Rattle.link_input_groups.specs.declared.sequenced.SequencedInputObject.{SequencedInputObject}
use Rattle.link_resolve_discarded.specs.Indexed.{IndexedGroups}
use Rattle.link_resolve_files.specs.declared.resolved_file.ResolvedFile.{ResolvedFile}
use Rattle.link_resolve_files.specs.declared.resolved_file.ResolvedGroup.{ResolvedGroup}
use Rattle.link_resolve_files.specs.ResolvedFiles.{resolved_file, resolved_group}
use Rattle.link_resolve_files.specs.Resolving.{num_objects, resolved_from, resolved_in, resolved_object, resolved_objects}

-- one item more
one-more : {A B : Type 0} (f : A → B) (old new : List A) (x : A) (y : B) (rest : List B) → new ≡ old ++ x ∷ [] → f x ≡ y → map f new ++ rest ≡ map f old ++ y ∷ rest
one-more {A} {B} f old new x y rest is to =
    ap (λ (xs : List A). map f xs ++ rest) is
    ∙ (ap (λ (ys : List B). ys ++ rest) (map-append f old (x ∷ []))
    ∙ (append_assoc (map f old) (f x ∷ []) rest ∙ ap (λ (z : B). map f old ++ z ∷ rest) to))

module _ {P : Type 0} (marks : List Bool) (kept : IndexedGroups) where
  -- one object more, of those behind n objects
  pub object-more : (n k : ℕ) (o : SequencedInputObject P) (objects : List (SequencedInputObject P)) (old new : List (ResolvedFile P)) (x : ResolvedFile P) → k < length objects → o ≡ get_or objects k o
      → new ≡ old ++ x ∷ [] → resolved_file x ≡ resolved_object marks kept (n + k) o
      → map resolved_file new ++ resolved_objects marks kept (n + (k + 1)) (drop (k + 1) objects) ≡ map resolved_file old ++ resolved_objects marks kept (n + k) (drop k objects)
  object-more n k o objects old new x below here is to =
      let rest = drop (k + 1) objects in
      let e : n + (k + 1) ≡ n + k + 1 = omega arith in
      let next : drop k objects ≡ o ∷ rest = drop_more objects k o below ∙ ap (λ (p : SequencedInputObject P). p ∷ rest) (sym here) in
      ap (λ (m : ℕ). map resolved_file new ++ resolved_objects marks kept m rest) e
      ∙ (one-more resolved_file old new x (resolved_object marks kept (n + k) o) (resolved_objects marks kept (n + k + 1) rest) is to
      ∙ ap (λ (os : List (SequencedInputObject P)). map resolved_file old ++ resolved_objects marks kept (n + k) os) (sym next))

  -- one group more, before which there are n objects
  pub group-more : (n k : ℕ) (g : Group P) (groups : List (Group P)) (old new : List (ResolvedGroup P)) (x : ResolvedGroup P) → k < length groups → g ≡ get_or groups k g → new ≡ old ++ x ∷ []
      → resolved_group x ≡ resolved_in marks kept n g
      → map resolved_group new ++ resolved_from marks kept (n + num_objects g) (drop (k + 1) groups) ≡ map resolved_group old ++ resolved_from marks kept n (drop k groups)
  group-more n k g groups old new x below here is to =
      let next : drop k groups ≡ g ∷ drop (k + 1) groups = drop_more groups k g below ∙ ap (λ (h : Group P). h ∷ drop (k + 1) groups) (sym here) in
      one-more resolved_group old new x (resolved_in marks kept n g) (resolved_from marks kept (n + num_objects g) (drop (k + 1) groups)) is to
      ∙ ap (λ (gs : List (Group P)). map resolved_group old ++ resolved_from marks kept n gs) (sym next)
