-- What edges there are of all objects of a link.
use Rattle.std.proofs.Common.{◌≡◌, ◌↔◌, ◌+◌, ◌≤◌, ◌<◌, ◌∙◌, ℕ, ◌⊎◌, Bool, List, [], ◌∷◌, Some, length, get_or, map, slice_get, take, Contains, inl, inr, ap, refl, subst, sym, arith, length-append, if◌then◌else◌}
use Rattle.std.specs.Prelude.{unwrap_or}
use Rattle.std.specs.List.{enumerate_from, position_from}
use Rattle.std.proofs.lemmas.Iterator.Adapters.{position_from-zero}
use Rattle.std.proofs.lemmas.List.{length-map, take_all}
use Rattle.std.proofs.lemmas.List.FromFn.{get_or-enumerate_from, length-enumerate_from}
use Rattle.std.proofs.lemmas.Option.{get_or_from_slice_get, slice_get-get_or, slice_get_within}
use Rattle.link_closure.specs.declared.Edge.{Edge}
use Rattle.link_closure.specs.Graph.{IsEdge}
use Rattle.link_core_answer.specs.Parts.{Parts}
use Rattle.link_db.specs.Database.{symbol_names}
use Rattle.link_db_files.specs.GroupFiles.{symbols_in}
use Rattle.link_db_files.specs.Inputs.{objects_in}
use Rattle.link_input.specs.Checks.{first_place}
use Rattle.link_input.specs.ObjectFile.{ObjectFile}
use Rattle.link_input.specs.Symbols.{Symbol, object_in}
use Rattle.link_resolve_discarded.specs.Signatures.{first_id}
use Rattle.link_rules.specs.Places.{is_number}
use Rattle.link_rules.specs.Selection.{Selection}
use Rattle.link_rules.specs.World.{Stage, first_symbol_of}
use Rattle.link_rules.proofs.Settled.{nothing_in}
use Rattle.link_gc.specs.Gathering.{IsGatheredEdge, IsGroupEdge, IsReferenceEdge}
use Rattle.link_gc.specs.Numbering.{IsOf}
use Rattle.link_gc.proofs.Gathered.{AreGathered, gathered-next}

-- an edge of the object at a place
abbrev pub IsEdgeOf : Selection → ℕ × ObjectFile → ℕ → ℕ → Type 0
IsEdgeOf l o n m = IsReferenceEdge l o.0 o.1 n m ⊎ IsGroupEdge l o.0 o.1 n m

-- the edges of references, and then those of groups, are those of an object
pub object-more : (l : Selection) (o : ℕ × ObjectFile) (old mid new : List Edge) → ((n m : ℕ) → IsEdge mid n m ↔ (IsEdge old n m ⊎ IsReferenceEdge l o.0 o.1 n m))
    → ((n m : ℕ) → IsEdge new n m ↔ (IsEdge mid n m ⊎ IsGroupEdge l o.0 o.1 n m)) → (n m : ℕ) → IsEdge new n m ↔ (IsEdge old n m ⊎ IsEdgeOf l o n m)
object-more l o old mid new first second n m = ((λ is. forth ((second n m).0 is)), (λ is. (second n m).1 (back is)))
  where
    forth : IsEdge mid n m ⊎ IsGroupEdge l o.0 o.1 n m → IsEdge old n m ⊎ IsEdgeOf l o n m
    forth (inr gives) = inr (inr gives)
    forth (inl is) = by ((first n m).0 is)
      where
        by : IsEdge old n m ⊎ IsReferenceEdge l o.0 o.1 n m → IsEdge old n m ⊎ IsEdgeOf l o n m
        by (inl held) = inl held
        by (inr gives) = inr (inl gives)

    back : IsEdge old n m ⊎ IsEdgeOf l o n m → IsEdge mid n m ⊎ IsGroupEdge l o.0 o.1 n m
    back (inl is) = inl ((first n m).1 (inl is))
    back (inr (inl gives)) = inl ((first n m).1 (inr gives))
    back (inr (inr gives)) = inr gives

-- what is listed with its place stands at that place
pub placed-in : {X : Type 0} (xs : List X) (x : ℕ × X) → Contains (enumerate_from 0 xs) x → slice_get xs x.0 ≡ Some x.1
placed-in {X} xs x (k, lt, at) =
    let within : k < length xs = omega (arith, lt, length-enumerate_from 0 xs) in
    let is : x ≡ (0 + k, get_or xs k x.1) = sym at ∙ get_or-enumerate_from 0 xs k x within in
    let place : x.0 ≡ k = (let first : x.0 ≡ 0 + k = ap (λ (y : ℕ × X). y.0) is in omega (arith, first)) in
    ap (slice_get xs) place ∙ (slice_get-get_or xs k x.1 within ∙ ap (λ y. Some y) (sym (ap (λ (y : ℕ × X). y.1) is)))

-- what stands at a place is listed with that
pub in-placed : {X : Type 0} (xs : List X) (f : ℕ) (x : X) → slice_get xs f ≡ Some x → Contains (enumerate_from 0 xs) (f, x)
in-placed {X} xs f x at =
    let within : f < length xs = slice_get_within xs f x at in
    let zero_more : 0 + f ≡ f = omega arith in
    (f, omega (arith, within, length-enumerate_from 0 xs), get_or-enumerate_from 0 xs f (f, x) within ∙ (ap (λ (k : ℕ). (k, get_or xs f x)) zero_more ∙ ap (λ (y : X). (f, y)) (get_or_from_slice_get xs f x x at)))

-- the edges of all objects with their places are those that are gathered
pub all-edges : (l : Selection) (edges : List Edge) → AreGathered (IsEdgeOf l) [] (enumerate_from 0 l.stage.objects) edges → (n m : ℕ) → IsEdge edges n m ↔ IsGatheredEdge l n m
all-edges l edges all n m = ((λ is. forth ((all n m).0 is)), (λ is. (all n m).1 (back is)))
  where
    forth : IsEdge [] n m ⊎ ((o : ℕ × ObjectFile) × Contains (enumerate_from 0 l.stage.objects) o × IsEdgeOf l o n m) → IsGatheredEdge l n m
    forth (inl is) = absurd (nothing_in _ is)
    forth (inr (o, within, gives)) = (o.0, o.1, placed-in l.stage.objects o within, gives)

    back : IsGatheredEdge l n m → IsEdge [] n m ⊎ ((o : ℕ × ObjectFile) × Contains (enumerate_from 0 l.stage.objects) o × IsEdgeOf l o n m)
    back (f, o, at, gives) = inr ((f, o), in-placed l.stage.objects f o at, gives)

-- a position is a first place
position-first : {X : Type 0} (p : X → Bool) (n : ℕ) (xs : List X) → position_from p n xs ≡ first_place (λ i x. p x) n xs
position-first p n [] = refl
position-first p n (x ∷ xs) = ap (λ r. if p x then Some n else r) (position-first p (n + 1) xs)

-- the first symbol of an object is the first that has its place
first-symbol : (w : Stage) (f : ℕ) → first_symbol_of w f ≡ unwrap_or (first_id f 0 w.symbols) 0
first-symbol w f =
    let Own : Symbol → Bool = λ x. is_number (object_in x.origin) f in
    ap (λ r. unwrap_or r 0) (position_from-zero Own w.symbols ∙ position-first Own 0 w.symbols)

-- the first symbol of an object in the tables is that of the stage
pub first-of-stage : {P : Type 0} (l : Selection) (x : Parts P) → IsOf l x → (f first : ℕ) → first ≡ unwrap_or (first_id f 0 (symbols_in x.db.mapping.files.groups)) 0 → first ≡ first_symbol_of l.stage f
first-of-stage l x of f first is = is ∙ (ap (λ (ss : List Symbol). unwrap_or (first_id f 0 ss) 0) of.kept.symbols ∙ sym (first-symbol l.stage f))

-- of one object more come its edges
pub objects-next : (l : Selection) (objects : List (ℕ × ObjectFile)) (i : ℕ) (o : ℕ × ObjectFile) (old mid new : List Edge) → i < length objects → o ≡ get_or objects i o → AreGathered (IsEdgeOf l) [] (take i objects) old
    → ((n m : ℕ) → IsEdge mid n m ↔ (IsEdge old n m ⊎ IsReferenceEdge l o.0 o.1 n m)) → ((n m : ℕ) → IsEdge new n m ↔ (IsEdge mid n m ⊎ IsGroupEdge l o.0 o.1 n m)) → AreGathered (IsEdgeOf l) [] (take (i + 1) objects) new
objects-next l objects i o old mid new lt is before first second = gathered-next (IsEdgeOf l) [] old new objects i o o lt is before (object-more l o old mid new first second)

-- at the end they are those that are gathered
pub objects-all : {P : Type 0} (l : Selection) (x : Parts P) (objects : List (ℕ × ObjectFile)) (i : ℕ) (edges : List Edge) → IsOf l x → objects ≡ enumerate_from 0 (objects_in x.db.mapping.files.groups) → length objects ≤ i
    → AreGathered (IsEdgeOf l) [] (take i objects) edges → (n m : ℕ) → IsEdge edges n m ↔ IsGatheredEdge l n m
objects-all l x objects i edges of are past all =
    let are_its : take i objects ≡ enumerate_from 0 l.stage.objects = take_all i objects past ∙ (are ∙ ap (λ (os : List ObjectFile). enumerate_from 0 os) of.kept.objects) in
    all-edges l edges (subst (λ (os : List (ℕ × ObjectFile)). AreGathered (IsEdgeOf l) [] os edges) are_its all)

-- symbols in the tables have names
pub named-below : {P : Type 0} (x : Parts P) (n : ℕ) → n ≤ length (symbols_in x.db.mapping.files.groups) → n ≤ length (symbol_names x.db)
named-below x n le =
    let symbols = symbols_in x.db.mapping.files.groups in
    let added = x.db.mapping.files.added in
    let named : length (symbol_names x.db) ≡ length symbols + length added =
    length-append (map (λ (s : Symbol). s.name) symbols) added ∙ ap (λ k. k + length added) (length-map symbols (λ (s : Symbol). s.name)) in
    omega (arith, named, le)
