-- The first COMDAT group of a signature that is met is the one that is kept, where groups come in the order of their places.
use Rattle.std.proofs.Common.{◌≡◌, ◌||◌, ◌&&◌, ℕ, Bool, true, false, cond, not, List, [], ◌∷◌, ◌++◌, map, Option, Some, None, refl, sym, ap, subst, ◌∙◌, append_assoc, arith}
use Rattle.std.specs.Prelude.{filter}
use Rattle.std.specs.Option.{option_map_or}
use Rattle.std.specs.List.{list_any, flat_map, zip}
use Rattle.std.specs.Str.{bytes_eq}
use Rattle.std.specs.Cmp.Lexicographic.{nat_list_eq_equiv, bytes_decides}
use Rattle.std.proofs.lemmas.Option.{same_Some}
use Rattle.std.proofs.lemmas.List.{map-append}
use Rattle.std.proofs.lemmas.List.Elements.{filter-append}
use Rattle.std.proofs.lemmas.List.Folds.{list_any-append}
use Rattle.link_input.specs.ObjectFile.{ObjectFile}
use Rattle.link_rules.specs.Places.{Bytes}
use Rattle.link_rules.specs.Comdat.{GroupPlace, Comdat, PlacedGroup, is_before, is_same_place, lesser, least_place, kept_place, groups_of, comdats_among, is_kept_among}
use Rattle.link_rules.specs.declared.linked.KeptGroup.{KeptGroup}
use Rattle.link_resolve_comdat.specs.ObjectGroups.{ObjectGroups}
use Rattle.link_resolve_comdat.specs.Selected.{object_groups, told}
use Rattle.link_resolve_comdat.specs.InOrder.{is_comdat_of, met_with, is_kept_after, kept_in_order, objects_in_order, comdats_told, comdats_in_order}
use Rattle.link_resolve_comdat.proofs.Truth.{or-assoc}

-- ---- places in order

-- each group comes behind a place
unfoldable pub AreBehind : GroupPlace → List PlacedGroup → Type 0
AreBehind p [] = Unit {0}
AreBehind p (g ∷ gs) = (is_before p g.place ≡ true) × AreBehind p gs

-- each group comes before a place
AreAhead : List PlacedGroup → GroupPlace → Type 0
AreAhead [] p = Unit {0}
AreAhead (g ∷ gs) p = (is_before g.place p ≡ true) × AreAhead gs p

-- the groups stand in the order of their places
unfoldable pub AreInOrder : List PlacedGroup → Type 0
AreInOrder [] = Unit {0}
AreInOrder (g ∷ gs) = AreBehind g.place gs × AreInOrder gs

-- what stands around a group in order
record Around (before : List PlacedGroup) (g : PlacedGroup) (after : List PlacedGroup) : Type 0 where
  ahead : AreAhead before g.place
  behind : AreBehind g.place after

behind_at : (p : GroupPlace) (before : List PlacedGroup) (g : PlacedGroup) (after : List PlacedGroup) → AreBehind p (before ++ g ∷ after) → is_before p g.place ≡ true
unfolding AreBehind
behind_at p [] g after all = all.0
behind_at p (b ∷ bs) g after all = behind_at p bs g after all.1

around : (before : List PlacedGroup) (g : PlacedGroup) (after : List PlacedGroup) → AreInOrder (before ++ g ∷ after) → Around before g after
unfolding AreBehind AreAhead AreInOrder
around [] g after order = record { ahead = tt; behind = order.0 }
around (b ∷ bs) g after order =
    let rest = around bs g after order.1 in
    record { ahead = (behind_at b.place bs g after order.0, rest.ahead); behind = rest.behind }

-- ---- the least place

-- a place that comes before another is not the same
not_same : (p q : GroupPlace) → is_before q p ≡ true → is_same_place p q ≡ false
not_same p q before = grind arith

same_as_itself : (p : GroupPlace) → is_same_place p p ≡ true
same_as_itself p = grind arith

through : (p q r : GroupPlace) → is_before p q ≡ true → is_before q r ≡ true → is_before p r ≡ true
through p q r first second = grind arith

not_back : (p q : GroupPlace) → is_before p q ≡ true → is_before q p ≡ false
not_back p q before = grind arith

-- the places of the COMDAT groups of a signature
places_of : Bytes → List PlacedGroup → List GroupPlace
places_of signature groups = map (λ g. g.place) (filter (is_comdat_of signature) groups)

-- the place and the signature of a group
comdat_at : PlacedGroup → Comdat
comdat_at g = record { place = g.place; signature = g.signature }

-- the places of the candidates of a signature
candidates : Bytes → List PlacedGroup → List GroupPlace
candidates signature groups = map (λ c. c.place) (filter (λ c. bytes_eq c.signature signature) (comdats_among groups))

candidates-head : (signature : Bytes) (g : PlacedGroup) (gs : List PlacedGroup) (is_comdat named : Bool) → bytes_eq g.signature signature ≡ named → candidates signature gs ≡ places_of signature gs
    → map (λ c. c.place) (filter (λ c. bytes_eq c.signature signature) (map comdat_at (cond is_comdat (g ∷ filter (λ x. x.group.is_comdat) gs) (filter (λ x. x.group.is_comdat) gs))))
    ≡ map (λ x. x.place) (cond (is_comdat && bytes_eq signature g.signature) (g ∷ filter (is_comdat_of signature) gs) (filter (is_comdat_of signature) gs))
unfolding places_of candidates comdat_at
candidates-head signature g gs true true is rest = rw (nat_list_eq_equiv.symm signature g.signature, is) (ap (λ (ps : List GroupPlace). g.place ∷ ps) rest)
candidates-head signature g gs true false is rest = rw (nat_list_eq_equiv.symm signature g.signature, is) rest
candidates-head signature g gs false named is rest = rest

candidates-are : (signature : Bytes) (groups : List PlacedGroup) → candidates signature groups ≡ places_of signature groups
unfolding places_of candidates comdat_at
candidates-are signature [] = refl
candidates-are signature (g ∷ gs) = candidates-head signature g gs g.group.is_comdat (bytes_eq g.signature signature) refl (candidates-are signature gs)

-- the kept place is the least of these
kept_is_least : (groups : List PlacedGroup) (signature : Bytes) → kept_place (comdats_among groups) signature ≡ least_place (places_of signature groups)
unfolding candidates
kept_is_least groups signature = ap least_place (candidates-are signature groups)

-- where a place of some comes before another place, the least of them does
least-before : (q : GroupPlace) (ps : List GroupPlace) (p r : GroupPlace) → is_before q r ≡ true → least_place (q ∷ ps) ≡ Some p → is_before p r ≡ true
least-before q ps p r before is = by (least_place ps) is
  where
    turn : (m : GroupPlace) (b : Bool) → is_before m q ≡ b → is_before (cond b m q) r ≡ true
    turn m true first = through m q r first before
    turn m false first = before

    same : (x : GroupPlace) → Some x ≡ Some p → is_before x r ≡ true → is_before p r ≡ true
    same x e first = subst (λ (y : GroupPlace). is_before y r ≡ true) (same_Some x p e) first

    by : (o : Option GroupPlace) → Some (lesser q o) ≡ Some p → is_before p r ≡ true
    by None e = same q e before
    by (Some m) e = same (cond (is_before m q) m q) e (turn m (is_before m q) refl)

-- the least place before which no other comes
least-first : (p : GroupPlace) (ps : List GroupPlace) → ((m : GroupPlace) → least_place ps ≡ Some m → is_before m p ≡ false) → least_place (p ∷ ps) ≡ Some p
least-first p ps behind = by (least_place ps) refl
  where
    by : (o : Option GroupPlace) → least_place ps ≡ o → Some (lesser p o) ≡ Some p
    by None e = refl
    by (Some m) e = let none = behind m e in rw none refl

-- the places of groups around one of the signature
places-around : (signature : Bytes) (before : List PlacedGroup) (g : PlacedGroup) (after : List PlacedGroup) → is_comdat_of signature g ≡ true
    → places_of signature (before ++ g ∷ after) ≡ places_of signature before ++ g.place ∷ places_of signature after
unfolding places_of
places-around signature before g after is =
    ap (map (λ x. x.place)) (filter-append (is_comdat_of signature) before (g ∷ after))
    ∙ map-append (λ x. x.place) (filter (is_comdat_of signature) before) (cond (is_comdat_of signature g) (g ∷ filter (is_comdat_of signature) after) (filter (is_comdat_of signature) after))
    ∙ (rw is refl)

-- none of the signature behind a place comes before it
none-before : (signature : Bytes) (p : GroupPlace) (after : List PlacedGroup) → AreBehind p after → (m : GroupPlace) → least_place (places_of signature after) ≡ Some m → is_before m p ≡ false
unfolding AreBehind places_of
none-before signature p [] behind m e = cc
none-before signature p (a ∷ later) behind m e = by (is_comdat_of signature a) e (none-before signature p later behind.1)
  where
    turn : (x q : GroupPlace) (b : Bool) → is_before p x ≡ true → is_before q p ≡ false → is_before (cond b q x) p ≡ false
    turn x q true first none = none
    turn x q false first none = not_back p x first

    same : (x : GroupPlace) → Some x ≡ Some m → is_before x p ≡ false → is_before m p ≡ false
    same x is first = subst (λ (y : GroupPlace). is_before y p ≡ false) (same_Some x m is) first

    least : (o : Option GroupPlace) → ((q : GroupPlace) → o ≡ Some q → is_before q p ≡ false) → Some (lesser a.place o) ≡ Some m → is_before m p ≡ false
    least None rest is = same a.place is (not_back p a.place behind.0)
    least (Some q) rest is = same (cond (is_before q a.place) q a.place) is (turn a.place q (is_before q a.place) behind.0 (rest q refl))

    by : (b : Bool) → least_place (map (λ x. x.place) (cond b (a ∷ filter (is_comdat_of signature) later) (filter (is_comdat_of signature) later))) ≡ Some m
        → ((q : GroupPlace) → least_place (map (λ x. x.place) (filter (is_comdat_of signature) later)) ≡ Some q → is_before q p ≡ false) → is_before m p ≡ false
    by true is rest = least (least_place (map (λ x. x.place) (filter (is_comdat_of signature) later))) rest is
    by false is rest = rest m is

-- whether the least place is that of a group, by the groups of the signature before it
least-is_same : (signature : Bytes) (before : List PlacedGroup) (g : PlacedGroup) (after : List PlacedGroup) → AreAhead before g.place → AreBehind g.place after
    → option_map_or (is_same_place g.place) (least_place (places_of signature before ++ g.place ∷ places_of signature after)) false ≡ not (list_any (is_comdat_of signature) before)
unfolding AreAhead places_of
least-is_same signature [] g after ahead behind =
    ap (λ (o : Option GroupPlace). option_map_or (is_same_place g.place) o false) (least-first g.place (places_of signature after) (none-before signature g.place after behind)) ∙ same_as_itself g.place
least-is_same signature (b ∷ bs) g after ahead behind = by (is_comdat_of signature b) (least-is_same signature bs g after ahead.1 behind)
  where
    rest : List GroupPlace
    rest = map (λ x. x.place) (filter (is_comdat_of signature) bs) ++ g.place ∷ places_of signature after

    other : (o : Option GroupPlace) → least_place (b.place ∷ rest) ≡ o → option_map_or (is_same_place g.place) o false ≡ false
    other None is = refl
    other (Some p) is = not_same g.place p (least-before b.place rest p g.place ahead.0 is)

    by : (here : Bool)
        → option_map_or (is_same_place g.place) (least_place rest) false ≡ not (list_any (is_comdat_of signature) bs)
        → option_map_or (is_same_place g.place) (least_place (map (λ x. x.place) (cond here (b ∷ filter (is_comdat_of signature) bs) (filter (is_comdat_of signature) bs)) ++ g.place ∷ places_of signature after)) false
        ≡ not (here || list_any (is_comdat_of signature) bs)
    by true later = other (least_place (b.place ∷ rest)) refl
    by false later = later

-- a group is kept where it is no COMDAT group, or none of its signature stands before it
kept-first : (before : List PlacedGroup) (g : PlacedGroup) (after : List PlacedGroup) → AreInOrder (before ++ g ∷ after)
    → is_kept_after (met_with (λ name. false) before) g ≡ is_kept_among (comdats_among (before ++ g ∷ after)) g
kept-first before g after order = by g.group.is_comdat refl
  where
    stands : Around before g after
    stands = around before g after order

    own : bytes_eq g.signature g.signature ≡ true
    own = (bytes_decides g.signature g.signature).1 refl

    by : (b : Bool) → g.group.is_comdat ≡ b → (not b || not (list_any (is_comdat_of g.signature) before))
        ≡ (not b || option_map_or (is_same_place g.place) (kept_place (comdats_among (before ++ g ∷ after)) g.signature) false)
    by false is = refl
    by true is =
        sym (ap (λ (o : Option GroupPlace). option_map_or (is_same_place g.place) o false)
        (kept_is_least (before ++ g ∷ after) g.signature ∙ ap least_place (places-around g.signature before g after (rw (is, own) refl)))
        ∙ least-is_same g.signature before g after stands.ahead stands.behind)

-- ---- in order

-- signatures that are met one after another
met-append : (met : Bytes → Bool) (xs ys : List PlacedGroup) → met_with (met_with met xs) ys ≡ met_with met (xs ++ ys)
met-append met xs ys = λ i name. each name i
  where
    each : (name : Bytes) → met_with (met_with met xs) ys name ≡ met_with met (xs ++ ys) name
    each name = or-assoc (met name) (list_any (is_comdat_of name) xs) (list_any (is_comdat_of name) ys) ∙ ap (λ (b : Bool). met name || b) (sym (list_any-append (is_comdat_of name) xs ys))

-- no signature is met at first
abbrev pub none_met : Bytes → Bool
none_met name = false

-- which groups are kept, as they are met, is which ones are kept among all
pub kept-in-order : (before gs after : List PlacedGroup) → AreInOrder (before ++ (gs ++ after))
    → kept_in_order (met_with none_met before) gs ≡ map (is_kept_among (comdats_among (before ++ (gs ++ after)))) gs
kept-in-order before [] after order = refl
kept-in-order before (g ∷ gs) after order =
    let moved : (before ++ g ∷ []) ++ (gs ++ after) ≡ before ++ (g ∷ gs ++ after) = append_assoc before (g ∷ []) (gs ++ after) in
    let rest = kept-in-order (before ++ g ∷ []) gs after (subst AreInOrder (sym moved) order) in
    ap (λ (b : Bool). b ∷ kept_in_order (met_with (met_with none_met before) (g ∷ [])) gs) (kept-first before g (gs ++ after) order)
    ∙ ap (λ (bs : List Bool). is_kept_among (comdats_among (before ++ (g ∷ gs ++ after))) g ∷ bs)
    (ap (λ (met : Bytes → Bool). kept_in_order met gs) (met-append none_met before (g ∷ [])) ∙ rest
    ∙ ap (λ (all : List PlacedGroup). map (is_kept_among (comdats_among all)) gs) moved)

-- ---- object by object

-- the groups of each object
pub objects-in-order : (before : List PlacedGroup) (objects : List (ℕ × ObjectFile)) → AreInOrder (before ++ flat_map groups_of objects)
    → objects_in_order (met_with none_met before) objects ≡ map (object_groups (before ++ flat_map groups_of objects)) objects
objects-in-order before [] order = refl
objects-in-order before (o ∷ os) order =
    let moved = append_assoc before (groups_of o) (flat_map groups_of os) in
    let rest = objects-in-order (before ++ groups_of o) os (subst AreInOrder (sym moved) order) in
    let with_kept : List Bool → ObjectGroups = λ kept. record { sections = o.1.object.sections; groups = o.1.object.groups; kept = kept; pending = map (λ g. true) o.1.object.groups } in
    ap (λ (kept : List Bool). with_kept kept ∷ objects_in_order (met_with (met_with none_met before) (groups_of o)) os) (kept-in-order before (groups_of o) (flat_map groups_of os) order)
    ∙ ap (λ (xs : List ObjectGroups). object_groups (before ++ flat_map groups_of (o ∷ os)) o ∷ xs)
    (ap (λ (met : Bytes → Bool). objects_in_order met os) (met-append none_met before (groups_of o)) ∙ rest
    ∙ ap (λ (all : List PlacedGroup). map (object_groups all) os) moved)

-- what is told by truth values is what is told by the test that they give
told-by : (test : PlacedGroup → Bool) (groups : List PlacedGroup) → comdats_told groups (map test groups) ≡ map told (filter (λ g. g.group.is_comdat) (filter test groups))
told-by test [] = refl
told-by test (g ∷ gs) = by g.group.is_comdat (test g) refl (told-by test gs)
  where
    rest : List (PlacedGroup × Bool)
    rest = filter (λ (x : PlacedGroup × Bool). x.0.group.is_comdat && x.1) (zip gs (map test gs))

    by : (comdat kept : Bool) → g.group.is_comdat ≡ comdat → map (λ (x : PlacedGroup × Bool). told x.0) rest ≡ map told (filter (λ x. x.group.is_comdat) (filter test gs))
        → map (λ (x : PlacedGroup × Bool). told x.0) (cond (comdat && kept) ((g, test g) ∷ rest) rest) ≡ map told (filter (λ x. x.group.is_comdat) (cond kept (g ∷ filter test gs) (filter test gs)))
    by true true is later = rw is (ap (λ (ks : List KeptGroup). told g ∷ ks) later)
    by true false is later = later
    by false true is later = rw is later
    by false false is later = later

-- the COMDAT groups that are told, object by object
pub comdats-in-order : (before : List PlacedGroup) (objects : List (ℕ × ObjectFile)) → AreInOrder (before ++ flat_map groups_of objects)
    → comdats_in_order (met_with none_met before) objects
    ≡ map told (filter (λ g. g.group.is_comdat) (filter (is_kept_among (comdats_among (before ++ flat_map groups_of objects))) (flat_map groups_of objects)))
comdats-in-order before [] order = refl
comdats-in-order before (o ∷ os) order =
    let moved = append_assoc before (groups_of o) (flat_map groups_of os) in
    let rest = comdats-in-order (before ++ groups_of o) os (subst AreInOrder (sym moved) order) in
    let test : PlacedGroup → Bool = is_kept_among (comdats_among (before ++ flat_map groups_of (o ∷ os))) in
    let here = ap (comdats_told (groups_of o)) (kept-in-order before (groups_of o) (flat_map groups_of os) order) ∙ told-by test (groups_of o) in
    let later = ap (λ (met : Bytes → Bool). comdats_in_order met os) (met-append none_met before (groups_of o)) ∙ rest
    ∙ ap (λ (all : List PlacedGroup). map told (filter (λ g. g.group.is_comdat) (filter (is_kept_among (comdats_among all)) (flat_map groups_of os)))) moved in
    ap (λ (ks : List KeptGroup). ks ++ comdats_in_order (met_with (met_with none_met before) (groups_of o)) os) here
    ∙ ap (λ (ks : List KeptGroup). map told (filter (λ g. g.group.is_comdat) (filter test (groups_of o))) ++ ks) later
    ∙ sym (joined test (groups_of o) (flat_map groups_of os))
  where
    joined : (test : PlacedGroup → Bool) (xs ys : List PlacedGroup) → map told (filter (λ g. g.group.is_comdat) (filter test (xs ++ ys)))
        ≡ map told (filter (λ g. g.group.is_comdat) (filter test xs)) ++ map told (filter (λ g. g.group.is_comdat) (filter test ys))
    joined test xs ys = ap (λ (gs : List PlacedGroup). map told (filter (λ g. g.group.is_comdat) gs)) (filter-append test xs ys)
        ∙ ap (map told) (filter-append (λ g. g.group.is_comdat) (filter test xs) (filter test ys))
        ∙ map-append told (filter (λ g. g.group.is_comdat) (filter test xs)) (filter (λ g. g.group.is_comdat) (filter test ys))
