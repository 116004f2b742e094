-- Objects whose groups are selected one after another.
use Rattle.std.proofs.Common.{◌≡◌, ◌<◌, ◌≤◌, ◌+◌, ℕ, Bool, List, [], ◌∷◌, ◌++◌, map, length, get_or, drop, None, refl, sym, ap, ◌∙◌, append_assoc}
use Rattle.std.specs.Prelude.{filter_map}
use Rattle.std.specs.List.{flat_map}
use Rattle.std.specs.List.Sorted.{IsStrictlyIncreasing}
use Rattle.std.proofs.lemmas.List.{drop_more, at_drop_all, append-nil}
use Rattle.link_input.specs.ObjectFile.{ObjectFile}
use Rattle.link_rules.specs.declared.linked.KeptGroup.{KeptGroup}
use Rattle.link_rules.specs.Places.{Bytes, first_of}
use Rattle.link_rules.specs.Comdat.{groups_of}
use Rattle.link_rules.specs.Refusals.{group_cause}
use Rattle.link_resolve_comdat.specs.ObjectGroups.{ObjectGroups}
use Rattle.link_resolve_comdat.specs.Selected.{object_groups, comdats_kept_among}
use Rattle.link_resolve_comdat.specs.InOrder.{met_with, kept_in_order, object_in_order, objects_in_order, comdats_told, comdats_in_order}
use Rattle.link_resolve_comdat.proofs.FirstMet.{none_met, objects-in-order, comdats-in-order}
use Rattle.link_resolve_comdat.proofs.Rising.{rising, groups-in-order}

-- the objects from one on
from : (objects : List (ℕ × ObjectFile)) (i : ℕ) (o : ℕ × ObjectFile) → i < length objects → o ≡ get_or objects i o → drop i objects ≡ o ∷ drop (i + 1) objects
from objects i o lt is = drop_more objects i o lt ∙ ap (λ (x : ℕ × ObjectFile). x ∷ drop (i + 1) objects) (sym is)

-- a turn: the object lists no section twice
pub cause-turn : (objects : List (ℕ × ObjectFile)) (i : ℕ) (o : ℕ × ObjectFile) → i < length objects → o ≡ get_or objects i o → group_cause o ≡ None
    → first_of (filter_map group_cause (drop (i + 1) objects)) ≡ first_of (filter_map group_cause (drop i objects))
cause-turn objects i o lt is none = rw (from objects i o lt is, none) refl

-- a turn: the groups of the object
pub objects-turn : (now new : Bytes → Bool) (groups : List ObjectGroups) (objects : List (ℕ × ObjectFile)) (i : ℕ) (o : ℕ × ObjectFile) (x : ObjectGroups) → i < length objects → o ≡ get_or objects i o
    → x ≡ object_in_order now o → ((name : Bytes) → new name ≡ met_with now (groups_of o) name)
    → (groups ++ x ∷ []) ++ objects_in_order new (drop (i + 1) objects) ≡ groups ++ objects_in_order now (drop i objects)
objects-turn now new groups objects i o x lt is made met =
    append_assoc groups (x ∷ []) (objects_in_order new (drop (i + 1) objects))
    ∙ ap (λ (y : ObjectGroups). groups ++ y ∷ objects_in_order new (drop (i + 1) objects)) made
    ∙ ap (λ (m : Bytes → Bool). groups ++ object_in_order now o ∷ objects_in_order m (drop (i + 1) objects)) (λ j name. met name j)
    ∙ ap (λ (os : List (ℕ × ObjectFile)). groups ++ objects_in_order now os) (sym (from objects i o lt is))

-- a turn: the COMDAT groups of the object that are kept
pub comdats-turn : (now new : Bytes → Bool) (old : List KeptGroup) (objects : List (ℕ × ObjectFile)) (i : ℕ) (o : ℕ × ObjectFile) (kept : List Bool) → i < length objects → o ≡ get_or objects i o
    → kept ≡ kept_in_order now (groups_of o) → ((name : Bytes) → new name ≡ met_with now (groups_of o) name)
    → (old ++ comdats_told (groups_of o) kept) ++ comdats_in_order new (drop (i + 1) objects) ≡ old ++ comdats_in_order now (drop i objects)
comdats-turn now new old objects i o kept lt is made met =
    append_assoc old (comdats_told (groups_of o) kept) (comdats_in_order new (drop (i + 1) objects))
    ∙ ap (λ (ks : List Bool). old ++ (comdats_told (groups_of o) ks ++ comdats_in_order new (drop (i + 1) objects))) made
    ∙ ap (λ (m : Bytes → Bool). old ++ (comdats_told (groups_of o) (kept_in_order now (groups_of o)) ++ comdats_in_order m (drop (i + 1) objects))) (λ j name. met name j)
    ∙ ap (λ (os : List (ℕ × ObjectFile)). old ++ comdats_in_order now os) (sym (from objects i o lt is))

-- at the end: the groups of all objects
pub objects-end : (met : Bytes → Bool) (groups : List ObjectGroups) (objects : List (ℕ × ObjectFile)) (i : ℕ) → length objects ≤ i → IsStrictlyIncreasing (map (λ o. o.0) objects)
    → groups ++ objects_in_order met (drop i objects) ≡ objects_in_order none_met objects → groups ≡ map (object_groups (flat_map groups_of objects)) objects
objects-end met groups objects i over rise is =
    sym (append-nil groups) ∙ ap (λ (xs : List ObjectGroups). groups ++ xs) (sym (at_drop_all (objects_in_order met) objects i over)) ∙ is
    ∙ objects-in-order [] objects (groups-in-order objects (rising objects rise))

-- at the end: all COMDAT groups that are kept
pub comdats-end : (met : Bytes → Bool) (kept : List KeptGroup) (objects : List (ℕ × ObjectFile)) (i : ℕ) → length objects ≤ i → IsStrictlyIncreasing (map (λ o. o.0) objects)
    → kept ++ comdats_in_order met (drop i objects) ≡ comdats_in_order none_met objects → kept ≡ comdats_kept_among (flat_map groups_of objects)
comdats-end met kept objects i over rise is =
    sym (append-nil kept) ∙ ap (λ (xs : List KeptGroup). kept ++ xs) (sym (at_drop_all (comdats_in_order met) objects i over)) ∙ is
    ∙ comdats-in-order [] objects (groups-in-order objects (rising objects rise))
