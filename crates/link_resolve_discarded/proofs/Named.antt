-- The symbols that name groups whose headers stay are those of a link.
use Rattle.std.proofs.Common.{◌≡◌, ◌<◌, ◌+◌, ◌==◌, ◌&&◌, ◌∙◌, ◌++◌, ℕ, zero, suc, Bool, true, false, cond, not, if◌then◌else◌, List, [], ◌∷◌, map, Option, Some, None, refl, sym, ap, arith}
use Rattle.std.specs.Prelude.{filter, is_some, slice_get, unwrap_or}
use Rattle.std.specs.Option.{option_map, option_map_or, option_and_then}
use Rattle.std.specs.List.{flat_map, enumerate_from, position_from}
use Rattle.std.proofs.lemmas.Bool.{eq-eqb, ne_eqb}
use Rattle.std.proofs.lemmas.Iterator.Adapters.{position_from-zero}
use Rattle.std.proofs.lemmas.List.{map-append}
use Rattle.std.proofs.lemmas.List.Elements.{filter-append}
use Rattle.std.proofs.lemmas.Option.{same_Some, slice_get-map}
use Rattle.link_closure.specs.Closure.{is_marked}
use Rattle.link_input.specs.Checks.{first_place}
use Rattle.link_input.specs.ObjectFile.{ObjectFile}
use Rattle.link_input.specs.declared.object.SectionGroup.{SectionGroup}
use Rattle.link_input.specs.Symbols.{Symbol, object_in}
use Rattle.link_rules.specs.Comdat.{PlacedGroup, discarded_groups, groups_of, is_discarded_by, placed_group}
use Rattle.link_rules.specs.FinalFlags.{groups_with_header, has_header}
use Rattle.link_rules.specs.Places.{is_number}
use Rattle.link_rules.specs.World.{Stage, first_symbol_of}
use Rattle.link_resolve_comdat.specs.ObjectGroups.{ObjectGroups, is_discarded}
use Rattle.link_resolve_comdat.specs.Selected.{SelectedGroups, object_groups}
use Rattle.link_resolve_discarded.specs.Indexed.{AreGroupsOf, IndexedGroups, groups_at, index_of}
use Rattle.link_resolve_discarded.specs.Regular.{regular_among}
use Rattle.link_resolve_discarded.specs.Signatures.{first_id, signatures_at, signatures_of}
use Rattle.link_resolve_discarded.proofs.Found.{discarded-found}
use Rattle.link_resolve_discarded.proofs.Same.{same-sections}
use Rattle.link_resolve_discarded.proofs.Searching.{first_place-holds}

-- a position is a first place
position-first : {X : Type 0} (p : X → Bool) (n : ℕ) (xs : List X) → position_from p n xs ≡ first_place (λ i x. p x) n xs
position-first p n [] = refl
position-first p n (x ∷ xs) = ap (λ r. if p x then Some n else r) (position-first p (n + 1) xs)

-- the first symbol of an object is the first that has its place
first-symbol : (w : Stage) (f : ℕ) → first_symbol_of w f ≡ unwrap_or (first_id f 0 w.symbols) 0
first-symbol w f =
    let Own : Symbol → Bool = λ x. is_number (object_in x.origin) f in
    ap (λ r. unwrap_or r 0) (position_from-zero Own w.symbols ∙ position-first Own 0 w.symbols)

-- objects behind a place don't have it
later-none : (p : ℕ × ObjectFile → Bool) (c f m : ℕ) (objects : List ObjectFile) → f < m → first_place (λ j x. x.0 == f) c (filter p (enumerate_from m objects)) ≡ None
later-none p c f m [] lt = refl
later-none p c f m (o ∷ os) lt = by (p (m, o)) (λ n. later-none p n f (m + 1) os (omega (arith, lt)))
  where
    other : (m == f) ≡ false
    other = ne_eqb m f (λ same. omega (arith, lt))

    later : List (ℕ × ObjectFile)
    later = filter p (enumerate_from (m + 1) os)

    by : (b : Bool) → ((n : ℕ) → first_place (λ j x. x.0 == f) n later ≡ None) → first_place (λ j x. x.0 == f) c (cond b ((m, o) ∷ later) later) ≡ None
    by true rest = rw other (rest (c + 1))
    by false rest = rest c

-- an object is found by its place where it passes the test
found-here : (p : ℕ × ObjectFile → Bool) (c m k f : ℕ) (objects : List ObjectFile) (o : ObjectFile) → m + k ≡ f → slice_get objects k ≡ Some o
    → is_some (first_place (λ j x. x.0 == f) c (filter p (enumerate_from m objects))) ≡ p (f, o)
found-here p c m k f [] o place there = absurd cc
found-here p c m zero f (q ∷ qs) o place there = by (p (m, q)) refl
  where
    same : m ≡ f
    same = omega (arith, place)

    is : p (m, q) ≡ p (f, o)
    is = ap (λ n. p (n, q)) same ∙ ap (λ x. p (f, x)) (same_Some q o there)

    by : (b : Bool) → p (m, q) ≡ b → is_some (first_place (λ j x. x.0 == f) c (cond b ((m, q) ∷ filter p (enumerate_from (m + 1) qs)) (filter p (enumerate_from (m + 1) qs)))) ≡ p (f, o)
    by true e = rw (eq-eqb m f same) (sym e ∙ is)
    by false e = ap is_some (later-none p c f (m + 1) qs (omega (arith, same))) ∙ (sym e ∙ is)
found-here p c m (suc k) f (q ∷ qs) o place there = by (p (m, q)) (λ n. found-here p n (m + 1) k f qs o (omega (arith, place)) there)
  where
    other : (m == f) ≡ false
    other = ne_eqb m f (λ same. omega (arith, place))

    later : List (ℕ × ObjectFile)
    later = filter p (enumerate_from (m + 1) qs)

    by : (b : Bool) → ((n : ℕ) → is_some (first_place (λ j x. x.0 == f) n later) ≡ p (f, o)) → is_some (first_place (λ j x. x.0 == f) c (cond b ((m, q) ∷ later) later)) ≡ p (f, o)
    by true rest = rw other (rest (c + 1))
    by false rest = rest c

-- the id of the symbol that names a group in a link
unfoldable name_in : Stage → PlacedGroup → ℕ
name_in w h = first_symbol_of w h.place.0 + h.group.signature_symbol

-- the groups of one object
own-names : (w : Stage) (discarded : List PlacedGroup) (own : ObjectGroups) (f first : ℕ) (o : ObjectFile) (n : ℕ) (groups : List SectionGroup)
    → first ≡ first_symbol_of w f → ((section : ℕ) → is_discarded own section ≡ is_discarded_by discarded f section)
    → signatures_of first own groups ≡ map (name_in w) (filter (has_header discarded) (map (placed_group f o) (enumerate_from n groups)))
unfolding name_in
own-names w discarded own f first o n [] start same = refl
own-names w discarded own f first o n (h ∷ hs) start same =
    ap (λ (b : Bool). map (λ x. first + x.signature_symbol) (cond (not b) (h ∷ filter (λ x. not (is_discarded own x.index)) hs) (filter (λ x. not (is_discarded own x.index)) hs))) (same h.index)
    ∙ by (is_discarded_by discarded f h.index) (own-names w discarded own f first o (n + 1) hs start same)
  where
    later : List PlacedGroup
    later = filter (has_header discarded) (map (placed_group f o) (enumerate_from (n + 1) hs))

    by : (b : Bool) → signatures_of first own hs ≡ map (name_in w) later → map (λ x. first + x.signature_symbol) (cond (not b) (h ∷ filter (λ x. not (is_discarded own x.index)) hs) (filter (λ x. not (is_discarded own x.index)) hs))
        ≡ map (name_in w) (cond (not b) (placed_group f o (n, h) ∷ later) later)
    by true rest = rest
    by false rest = ap (λ m. (m + h.signature_symbol) ∷ signatures_of first own hs) start ∙ ap (λ ns. (first_symbol_of w f + h.signature_symbol) ∷ ns) rest

-- the groups of an object that passes a test, if it does
unfoldable groups_if : Bool → ℕ × ObjectFile → List PlacedGroup
groups_if b o = cond b (groups_of o) []

-- object by object
listed-names : (w : Stage) (g : IndexedGroups) (p : ℕ × ObjectFile → Bool) (h : PlacedGroup → Bool) (m : ℕ) (objects : List ObjectFile)
    → ((k : ℕ) (o : ObjectFile) → slice_get objects k ≡ Some o → signatures_at g w.symbols (m + k, o) ≡ map (name_in w) (filter h (groups_if (p (m + k, o)) (m + k, o))))
    → flat_map (signatures_at g w.symbols) (enumerate_from m objects) ≡ map (name_in w) (filter h (flat_map groups_of (filter p (enumerate_from m objects))))
unfolding groups_if
listed-names w g p h m [] each = refl
listed-names w g p h m (o ∷ os) each =
    let same : m + 0 ≡ m = omega arith in
    let next : (k : ℕ) → m + suc k ≡ m + 1 + k = λ k. omega arith in
    let here : signatures_at g w.symbols (m, o) ≡ map (name_in w) (filter h (groups_if (p (m, o)) (m, o))) = rw same at (each 0 o refl) in
    let rest = listed-names w g p h (m + 1) os (λ k x there. rw (next k) at (each (suc k) x there)) in
    ap (λ ns. ns ++ flat_map (signatures_at g w.symbols) (enumerate_from (m + 1) os)) here
    ∙ (ap (λ ns. map (name_in w) (filter h (groups_if (p (m, o)) (m, o))) ++ ns) rest ∙ by (p (m, o)))
  where
    later : List (ℕ × ObjectFile)
    later = filter p (enumerate_from (m + 1) os)

    by : (b : Bool) → map (name_in w) (filter h (groups_if b (m, o))) ++ map (name_in w) (filter h (flat_map groups_of later))
        ≡ map (name_in w) (filter h (flat_map groups_of (cond b ((m, o) ∷ later) later)))
    by true =
        sym (map-append (name_in w) (filter h (groups_of (m, o))) (filter h (flat_map groups_of later)))
        ∙ ap (map (name_in w)) (sym (filter-append h (groups_of (m, o)) (flat_map groups_of later)))
    by false = refl

-- the symbols that name the groups of a link whose headers stay
pub names-of-link : (w : Stage) (marks : List Bool) (g : IndexedGroups) → AreGroupsOf marks w.objects g
    → flat_map (signatures_at g w.symbols) (enumerate_from 0 w.objects) ≡ map (λ h. first_symbol_of w h.place.0 + h.group.signature_symbol) (groups_with_header w marks)
unfolding name_in groups_if
names-of-link w marks g are = listed-names w g is_regular (has_header discarded) 0 w.objects each
  where
    is_regular : ℕ × ObjectFile → Bool
    is_regular o = is_marked marks o.0 && not o.1.object.is_dynamic

    regular : List (ℕ × ObjectFile)
    regular = regular_among marks w.objects

    discarded : List PlacedGroup
    discarded = discarded_groups w marks

    one : (k : ℕ) (o : ObjectFile) → slice_get w.objects k ≡ Some o → signatures_at g w.symbols (k, o) ≡ map (name_in w) (filter (has_header discarded) (groups_if (is_regular (k, o)) (k, o)))
    one k o there = by (index_of regular k) refl
      where
        here : is_some (index_of regular k) ≡ is_regular (k, o)
        here = found-here is_regular 0 0 k k w.objects o (omega arith) there

        by : (r : Option ℕ) → index_of regular k ≡ r → signatures_at g w.symbols (k, o) ≡ map (name_in w) (filter (has_header discarded) (groups_if (is_regular (k, o)) (k, o)))
        by None e =
            let none : groups_at g k ≡ None = ap (λ (r : Option ℕ). option_and_then (slice_get g.groups.objects) r) (are.indices k ∙ e) in
            let test : is_regular (k, o) ≡ false = sym here ∙ ap is_some e in
            ap (λ (own : Option ObjectGroups). option_map_or (λ x. signatures_of (unwrap_or (first_id k 0 w.symbols) 0) x o.object.groups) own []) none
            ∙ ap (λ (b : Bool). map (name_in w) (filter (has_header discarded) (groups_if b (k, o)))) (sym test)
        by (Some i) e =
            let Groups : ℕ × ObjectFile → ObjectGroups = object_groups (flat_map groups_of regular) in
            let held = first_place-holds (λ j x. x.0 == k) 0 regular i e in
            let own = Groups held.1 in
            let at : i ≡ held.0 = omega (arith, held.2) in
            let found : groups_at g k ≡ Some own =
            ap (λ (r : Option ℕ). option_and_then (slice_get g.groups.objects) r) (are.indices k ∙ e)
            ∙ (ap (λ (s : SelectedGroups). slice_get s.objects i) are.groups
            ∙ (slice_get-map Groups regular i ∙ ap (option_map Groups) (ap (slice_get regular) at ∙ held.3))) in
            let same : (section : ℕ) → is_discarded own section ≡ is_discarded_by discarded k section =
            λ section. sym (discarded-found g k section ∙ ap (λ (x : Option ObjectGroups). option_map_or (λ y. is_discarded y section) x false) found)
            ∙ same-sections w marks g are k section in
            let test : is_regular (k, o) ≡ true = sym here ∙ ap is_some e in
            ap (λ (x : Option ObjectGroups). option_map_or (λ y. signatures_of (unwrap_or (first_id k 0 w.symbols) 0) y o.object.groups) x []) found
            ∙ (own-names w discarded own k (unwrap_or (first_id k 0 w.symbols) 0) o 0 o.object.groups (sym (first-symbol w k)) same
            ∙ ap (λ (b : Bool). map (name_in w) (filter (has_header discarded) (groups_if b (k, o)))) (sym test))

    each : (k : ℕ) (o : ObjectFile) → slice_get w.objects k ≡ Some o → signatures_at g w.symbols (0 + k, o) ≡ map (name_in w) (filter (has_header discarded) (groups_if (is_regular (0 + k, o)) (0 + k, o)))
    each k o there = let same : 0 + k ≡ k = omega arith in rw same (one k o there)
