-- What edges there are after some more.
use Rattle.std.proofs.Common.{◌≡◌, ◌↔◌, ◌+◌, ◌∙◌, ℕ, ◌⊎◌, ◌++◌, List, [], ◌∷◌, Option, Some, None, ◌<◌, length, get_or, slice_get, take, All, Contains, IfSome, inl, inr, ap, append-nil, refl, subst, sym, arith}
use Rattle.std.proofs.lemmas.List.Elements.{All-head, filter_map-append, Contains-append_left, Contains-push, Contains-push_cases}
use Rattle.std.specs.List.{cons_option, filter_map}
use Rattle.std.proofs.lemmas.List.{take_more}
use Rattle.std.proofs.lemmas.Option.{same_Some}
use Rattle.link_input.specs.declared.object.SectionReference.{SectionReference}
use Rattle.link_input.specs.ObjectFile.{ObjectFile}
use Rattle.link_rules.specs.Selection.{Selection}
use Rattle.link_rules.specs.Places.{first_of}
use Rattle.link_rules.specs.World.{first_symbol_of}
use Rattle.link_gc.specs.Numbering.{home_number, node_number}
use Rattle.link_gc.specs.Gathering.{IsHubEdge, IsReferenceEdge, kept_members}
use Rattle.link_input.specs.declared.object.SectionGroup.{SectionGroup}
use Rattle.link_closure.specs.declared.Edge.{Edge}
use Rattle.link_closure.specs.Graph.{IsEdge}

-- the edges are those that were there, and those that come of the items
abbrev pub AreGathered : {X : Type 0} → (X → ℕ → ℕ → Type 0) → List Edge → List X → List Edge → Type 0
AreGathered {X} Gives old xs new = (n m : ℕ) → IsEdge new n m ↔ (IsEdge old n m ⊎ ((x : X) × Contains xs x × Gives x n m))

-- of no items comes none
pub gathered-none : {X : Type 0} (Gives : X → ℕ → ℕ → Type 0) (edges : List Edge) → AreGathered Gives edges [] edges
gathered-none {X} Gives edges n m = ((λ is. inl is), (λ is. back is))
  where
    back : IsEdge edges n m ⊎ ((x : X) × Contains [] x × Gives x n m) → IsEdge edges n m
    back (inl is) = is
    back (inr (x, (k, lt, at), gives)) = absurd (omega arith)

-- of one item more come its edges
pub gathered-more : {X : Type 0} (Gives : X → ℕ → ℕ → Type 0) (old mid new : List Edge) (xs : List X) (x : X) → AreGathered Gives old xs mid
    → ((n m : ℕ) → IsEdge new n m ↔ (IsEdge mid n m ⊎ Gives x n m)) → AreGathered Gives old (xs ++ x ∷ []) new
gathered-more {X} Gives old mid new xs x before step n m = ((λ is. forth ((step n m).0 is)), (λ is. (step n m).1 (back is)))
  where
    After : Type 0
    After = IsEdge old n m ⊎ ((y : X) × Contains (xs ++ x ∷ []) y × Gives y n m)

    earlier : IsEdge old n m ⊎ ((y : X) × Contains xs y × Gives y n m) → IsEdge old n m ⊎ ((y : X) × Contains (xs ++ x ∷ []) y × Gives y n m)
    earlier (inl is) = inl is
    earlier (inr (y, within, gives)) = inr (y, Contains-append_left xs (x ∷ []) y within, gives)

    forth : IsEdge mid n m ⊎ Gives x n m → IsEdge old n m ⊎ ((y : X) × Contains (xs ++ x ∷ []) y × Gives y n m)
    forth (inl is) = earlier ((before n m).0 is)
    forth (inr gives) = inr (x, Contains-push xs x, gives)

    back : IsEdge old n m ⊎ ((y : X) × Contains (xs ++ x ∷ []) y × Gives y n m) → IsEdge mid n m ⊎ Gives x n m
    back (inl is) = inl ((before n m).1 (inl is))
    back (inr (y, within, gives)) = by (Contains-push_cases xs x y within)
      where
        by : Contains xs y ⊎ (x ≡ y) → IsEdge mid n m ⊎ Gives x n m
        by (inl held) = inl ((before n m).1 (inr (y, held, gives)))
        by (inr same) = inr (subst (λ z. Gives z n m) (sym same) gives)

-- the same at a place of a list
pub gathered-next : {X : Type 0} (Gives : X → ℕ → ℕ → Type 0) (old mid new : List Edge) (xs : List X) (i : ℕ) (x d : X) → i < length xs → x ≡ get_or xs i d → AreGathered Gives old (take i xs) mid
    → ((n m : ℕ) → IsEdge new n m ↔ (IsEdge mid n m ⊎ Gives x n m)) → AreGathered Gives old (take (i + 1) xs) new
gathered-next {X} Gives old mid new xs i x d lt is before step =
    let next : take (i + 1) xs ≡ take i xs ++ x ∷ [] = take_more xs i d lt ∙ ap (λ y. take i xs ++ y ∷ []) (sym is) in
    subst (λ ys. AreGathered Gives old ys new) (sym next) (gathered-more Gives old mid new (take i xs) x before step)

-- the first one by its place
pub first-get : {X : Type 0} (xs : List X) → slice_get xs 0 ≡ first_of xs
first-get [] = refl
first-get (x ∷ xs) = refl

-- a member leads to the hub, and this to the member
abbrev pub IsSpoke : Option ℕ → ℕ → ℕ → ℕ → Type 0
IsSpoke hub member n m = ((Some member ≡ Some n) × (hub ≡ Some m)) ⊎ ((hub ≡ Some n) × (Some member ≡ Some m))

-- an edge of a reference of the object at this place
abbrev pub IsReferenceOf : Selection → ℕ → SectionReference → ℕ → ℕ → Type 0
IsReferenceOf l f reference n m = (node_number l (f, reference.from) ≡ Some n) × (home_number l (first_symbol_of l.stage f + reference.to) ≡ Some m)

-- an edge of a group of the object at this place
abbrev pub IsGroupOf : Selection → ℕ → SectionGroup → ℕ → ℕ → Type 0
IsGroupOf l f group n m = IsHubEdge (kept_members l f group) (node_number l (f, group.index)) n m

-- an edge more is that of a reference
pub reference-more : (l : Selection) (place f first to : ℕ) (reference : SectionReference) (from home : Option ℕ) (mid new : List Edge) → place ≡ f → first ≡ first_symbol_of l.stage f → to ≡ first + reference.to
    → from ≡ node_number l (place, reference.from) → home ≡ home_number l to → ((n m : ℕ) → IsEdge new n m ↔ (IsEdge mid n m ⊎ ((from ≡ Some n) × (home ≡ Some m))))
    → (n m : ℕ) → IsEdge new n m ↔ (IsEdge mid n m ⊎ IsReferenceOf l f reference n m)
reference-more l place f first to reference from home mid new at starts is from_is home_is step =
    let starting : from ≡ node_number l (f, reference.from) = from_is ∙ ap (λ p. node_number l (p, reference.from)) at in
    let ending : home ≡ home_number l (first_symbol_of l.stage f + reference.to) = home_is ∙ ap (home_number l) (is ∙ ap (λ k. k + reference.to) starts) in
    subst (λ (o : Option ℕ). (n m : ℕ) → IsEdge new n m ↔ (IsEdge mid n m ⊎ ((o ≡ Some n) × (home_number l (first_symbol_of l.stage f + reference.to) ≡ Some m)))) starting
    (subst (λ (o : Option ℕ). (n m : ℕ) → IsEdge new n m ↔ (IsEdge mid n m ⊎ ((from ≡ Some n) × (o ≡ Some m)))) ending step)

-- the edges of all references of an object
pub reference-edges : (l : Selection) (f : ℕ) (o : ObjectFile) (old new : List Edge) → AreGathered (IsReferenceOf l f) old o.object.section_references new
    → (n m : ℕ) → IsEdge new n m ↔ (IsEdge old n m ⊎ IsReferenceEdge l f o n m)
reference-edges l f o old new all n m = ((λ is. forth ((all n m).0 is)), (λ is. (all n m).1 (back is)))
  where
    forth : IsEdge old n m ⊎ ((x : SectionReference) × Contains o.object.section_references x × IsReferenceOf l f x n m) → IsEdge old n m ⊎ IsReferenceEdge l f o n m
    forth (inl is) = inl is
    forth (inr (x, within, (from, to))) = inr (x, within, from, to)

    back : IsEdge old n m ⊎ IsReferenceEdge l f o n m → IsEdge old n m ⊎ ((x : SectionReference) × Contains o.object.section_references x × IsReferenceOf l f x n m)
    back (inl is) = inl is
    back (inr (x, within, from, to)) = inr (x, within, (from, to))

-- edges more are those of a group
pub group-more : (l : Selection) (place f : ℕ) (group : SectionGroup) (members : List ℕ) (header : Option ℕ) (mid new : List Edge) → place ≡ f → members ≡ kept_members l place group
    → header ≡ node_number l (place, group.index) → ((n m : ℕ) → IsEdge new n m ↔ (IsEdge mid n m ⊎ IsHubEdge members header n m))
    → (n m : ℕ) → IsEdge new n m ↔ (IsEdge mid n m ⊎ IsGroupOf l f group n m)
group-more l place f group members header mid new at are is step =
    let kept : members ≡ kept_members l f group = are ∙ ap (λ p. kept_members l p group) at in
    let heading : header ≡ node_number l (f, group.index) = is ∙ ap (λ p. node_number l (p, group.index)) at in
    subst (λ (ns : List ℕ). (n m : ℕ) → IsEdge new n m ↔ (IsEdge mid n m ⊎ IsHubEdge ns (node_number l (f, group.index)) n m)) kept
    (subst (λ (o : Option ℕ). (n m : ℕ) → IsEdge new n m ↔ (IsEdge mid n m ⊎ IsHubEdge members o n m)) heading step)

-- a member more that may be kept
pub kept-more : {X Y : Type 0} (h : X → Option Y) (old new : List Y) (xs : List X) (i : ℕ) (d : X) (y : Y) → i < length xs → old ≡ filter_map h (take i xs) → h (get_or xs i d) ≡ Some y → new ≡ old ++ y ∷ []
    → new ≡ filter_map h (take (i + 1) xs)
kept-more {Y = Y} h old new xs i d y lt before gives more =
    more ∙ ap (λ (ys : List Y). ys ++ y ∷ []) before ∙ ap (λ (o : Option Y). filter_map h (take i xs) ++ cons_option o []) (sym gives)
    ∙ sym (filter_map-append h (take i xs) (get_or xs i d ∷ [])) ∙ ap (filter_map h) (sym (take_more xs i d lt))

-- a member more that may not
pub lost-more : {X Y : Type 0} (h : X → Option Y) (old new : List Y) (xs : List X) (i : ℕ) (d : X) → i < length xs → old ≡ filter_map h (take i xs) → h (get_or xs i d) ≡ None → new ≡ old
    → new ≡ filter_map h (take (i + 1) xs)
lost-more {Y = Y} h old new xs i d lt before gives same =
    same ∙ before ∙ sym (append-nil (filter_map h (take i xs))) ∙ ap (λ (o : Option Y). filter_map h (take i xs) ++ cons_option o []) (sym gives)
    ∙ sym (filter_map-append h (take i xs) (get_or xs i d ∷ [])) ∙ ap (filter_map h) (sym (take_more xs i d lt))

-- two edges more are those of a spoke
pub two-more : (hub : Option ℕ) (member : ℕ) (old mid new : List Edge) → ((n m : ℕ) → IsEdge mid n m ↔ (IsEdge old n m ⊎ ((Some member ≡ Some n) × (hub ≡ Some m))))
    → ((n m : ℕ) → IsEdge new n m ↔ (IsEdge mid n m ⊎ ((hub ≡ Some n) × (Some member ≡ Some m)))) → (n m : ℕ) → IsEdge new n m ↔ (IsEdge old n m ⊎ IsSpoke hub member n m)
two-more hub member old mid new first second n m = ((λ is. forth ((second n m).0 is)), (λ is. (second n m).1 (back is)))
  where
    forth : IsEdge mid n m ⊎ ((hub ≡ Some n) × (Some member ≡ Some m)) → IsEdge old n m ⊎ IsSpoke hub member n m
    forth (inr gives) = inr (inr gives)
    forth (inl is) = by ((first n m).0 is)
      where
        by : IsEdge old n m ⊎ ((Some member ≡ Some n) × (hub ≡ Some m)) → IsEdge old n m ⊎ IsSpoke hub member n m
        by (inl held) = inl held
        by (inr gives) = inr (inl gives)

    back : IsEdge old n m ⊎ IsSpoke hub member n m → IsEdge mid n m ⊎ ((hub ≡ Some n) × (Some member ≡ Some m))
    back (inl is) = inl ((first n m).1 (inl is))
    back (inr (inl gives)) = inl ((first n m).1 (inr gives))
    back (inr (inr gives)) = inr gives

-- with the edge from the hub to the header, they are the edges of a hub
pub hub-edges : (members : List ℕ) (hub header : Option ℕ) (old mid new : List Edge) → hub ≡ first_of members → AreGathered (IsSpoke hub) old members mid
    → ((n m : ℕ) → IsEdge new n m ↔ (IsEdge mid n m ⊎ ((hub ≡ Some n) × (header ≡ Some m)))) → (n m : ℕ) → IsEdge new n m ↔ (IsEdge old n m ⊎ IsHubEdge members header n m)
hub-edges members hub header old mid new first before step n m = ((λ is. forth ((step n m).0 is)), (λ is. (step n m).1 (back is)))
  where
    forth : IsEdge mid n m ⊎ ((hub ≡ Some n) × (header ≡ Some m)) → IsEdge old n m ⊎ IsHubEdge members header n m
    forth (inr (from, to)) = inr (n, sym first ∙ from, inr (inr (refl, to)))
    forth (inl is) = by ((before n m).0 is)
      where
        by : IsEdge old n m ⊎ ((x : ℕ) × Contains members x × IsSpoke hub x n m) → IsEdge old n m ⊎ IsHubEdge members header n m
        by (inl held) = inl held
        by (inr (x, within, inl (from, to))) = inr (m, sym first ∙ to, inl (subst (Contains members) (same_Some x n from) within, refl))
        by (inr (x, within, inr (from, to))) = inr (n, sym first ∙ from, inr (inl (refl, subst (Contains members) (same_Some x m to) within)))

    back : IsEdge old n m ⊎ IsHubEdge members header n m → IsEdge mid n m ⊎ ((hub ≡ Some n) × (header ≡ Some m))
    back (inl held) = inl ((before n m).1 (inl held))
    back (inr (h, is, inl (within, to))) = inl ((before n m).1 (inr (n, within, inl (refl, first ∙ is ∙ ap (λ x. Some x) (sym to)))))
    back (inr (h, is, inr (inl (from, within)))) = inl ((before n m).1 (inr (m, within, inr (first ∙ is ∙ ap (λ x. Some x) (sym from), refl))))
    back (inr (h, is, inr (inr (from, to)))) = inr (first ∙ is ∙ ap (λ x. Some x) (sym from), to)

-- what is so of all is so of the first
pub first-holds : {X : Type 0} (P : X → Type 0) (xs : List X) → All P xs → IfSome (first_of xs) P
first-holds P [] all = tt
first-holds P (x ∷ xs) all = All-head P x xs all
