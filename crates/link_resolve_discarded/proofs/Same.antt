-- What is discarded by places is what a link discards.
use Rattle.std.proofs.Common.{◌≡◌, ◌+◌, ◌==◌, ◌&&◌, ◌∙◌, ◌++◌, ℕ, Bool, true, false, cond, not, if◌then◌else◌, List, [], ◌∷◌, map, Option, Some, None, refl, sym, ap, arith}
use Rattle.std.specs.Prelude.{filter, slice_get}
use Rattle.std.specs.Option.{option_map, option_map_or, option_and_then}
use Rattle.std.specs.List.{flat_map, enumerate_from}
use Rattle.std.proofs.lemmas.Bool.{eqb-true}
use Rattle.std.proofs.lemmas.List.Elements.{filter-append}
use Rattle.std.proofs.lemmas.Option.{slice_get-map}
use Rattle.link_flags.specs.declared.strength.SymbolStrength.{SymbolStrength}
use Rattle.link_flags.specs.declared.strength.SymbolStrength.TheVariants.{Undefined}
use Rattle.link_closure.specs.Closure.{is_marked}
use Rattle.link_input.specs.BindingStrength.{binding_strength}
use Rattle.link_input.specs.Checks.{first_place}
use Rattle.link_input.specs.Entries.{section_of}
use Rattle.link_input.specs.ObjectFile.{ObjectFile}
use Rattle.link_input.specs.declared.object.SectionGroup.{SectionGroup}
use Rattle.link_input.specs.Symbols.{Symbol, Origin, in_prelude, in_object, in_script, in_stub}
use Rattle.link_rules.specs.Comdat.{PlacedGroup, comdats_among, discarded_groups, groups_of, is_discarded_by, is_kept_among, loaded_groups, loaded_regular, placed_group}
use Rattle.link_rules.specs.Selection.{surviving_origin, surviving_strengths}
use Rattle.link_rules.specs.World.{Stage}
use Rattle.link_resolve_comdat.specs.ObjectGroups.{ObjectGroups, is_discarded}
use Rattle.link_resolve_comdat.specs.Selected.{SelectedGroups, object_groups, selected}
use Rattle.link_resolve_comdat.proofs.Discarding.{discarded-of}
use Rattle.link_resolve_comdat.proofs.Rising.{rising-filter}
use Rattle.link_resolve_discarded.specs.Indexed.{AreGroupsOf, IndexedGroups, index_at, index_of}
use Rattle.link_resolve_discarded.specs.Discarded.{discarded_in}
use Rattle.link_resolve_discarded.proofs.Found.{discarded-append, discarded-found}
use Rattle.link_resolve_discarded.proofs.Searching.{first_place-holds}

-- of the groups of an object nothing is discarded in another one
other-object : (p : PlacedGroup → Bool) (f section : ℕ) (o : ℕ × ObjectFile) (n : ℕ) (groups : List SectionGroup) → (o.0 == f) ≡ false
    → is_discarded_by (filter p (map (placed_group o.0 o.1) (enumerate_from n groups))) f section ≡ false
other-object p f section o n [] other = refl
other-object p f section o n (g ∷ gs) other = by (p (placed_group o.0 o.1 (n, g))) (other-object p f section o (n + 1) gs other)
  where
    later : List PlacedGroup
    later = filter p (map (placed_group o.0 o.1) (enumerate_from (n + 1) gs))

    by : (b : Bool) → is_discarded_by later f section ≡ false → is_discarded_by (cond b (placed_group o.0 o.1 (n, g) ∷ later) later) f section ≡ false
    by true rest = rw other rest
    by false rest = rest

-- nothing is discarded of an object that has none of the groups
not-there : (p : PlacedGroup → Bool) (f section n : ℕ) (objects : List (ℕ × ObjectFile)) → first_place (λ i o. o.0 == f) n objects ≡ None
    → is_discarded_by (filter p (flat_map groups_of objects)) f section ≡ false
not-there p f section n [] none = refl
not-there p f section n (o ∷ os) none = by (o.0 == f) refl none (not-there p f section (n + 1) os)
  where
    by : (b : Bool) → (o.0 == f) ≡ b → (if b then Some n else first_place (λ i x. x.0 == f) (n + 1) os) ≡ None
        → (first_place (λ i x. x.0 == f) (n + 1) os ≡ None → is_discarded_by (filter p (flat_map groups_of os)) f section ≡ false)
        → is_discarded_by (filter p (groups_of o ++ flat_map groups_of os)) f section ≡ false
    by true e absent rest = absurd cc
    by false e absent rest =
        ap (λ (xs : List PlacedGroup). is_discarded_by xs f section) (filter-append p (groups_of o) (flat_map groups_of os))
        ∙ (discarded-append (filter p (groups_of o)) (filter p (flat_map groups_of os)) f section
        ∙ rw (other-object p f section o 0 o.1.object.groups e) (rest absent))

-- a section is discarded where the link discards it
pub same-sections : (w : Stage) (marks : List Bool) (g : IndexedGroups) → AreGroupsOf marks w.objects g → (f section : ℕ)
    → is_discarded_by (discarded_in g) f section ≡ is_discarded_by (discarded_groups w marks) f section
same-sections w marks g are f section =
    discarded-found g f section
    ∙ (ap (λ (s : SelectedGroups). option_map_or (λ o. is_discarded o section) (option_and_then (slice_get s.objects) (index_at g.indices f)) false) are.groups
    ∙ (ap (λ (r : Option ℕ). option_map_or (λ o. is_discarded o section) (option_and_then (slice_get (selected objects).objects) r) false) (are.indices f)
    ∙ by (index_of objects f) refl))
  where
    objects : List (ℕ × ObjectFile)
    objects = loaded_regular w marks

    kept : PlacedGroup → Bool
    kept = is_kept_among (comdats_among (loaded_groups w marks))

    by : (r : Option ℕ) → index_of objects f ≡ r → option_map_or (λ o. is_discarded o section) (option_and_then (slice_get (selected objects).objects) r) false
        ≡ is_discarded_by (discarded_groups w marks) f section
    by None absent = sym (not-there (λ x. not (kept x)) f section 0 objects absent)
    by (Some i) found =
        let held = first_place-holds (λ j x. x.0 == f) 0 objects i found in
        let o = held.1 in
        let at : i ≡ held.0 = omega (arith, held.2) in
        let here : slice_get objects i ≡ Some o = ap (slice_get objects) at ∙ held.3 in
        let own : slice_get (selected objects).objects i ≡ Some (object_groups (loaded_groups w marks) o) =
        slice_get-map (object_groups (loaded_groups w marks)) objects i ∙ ap (option_map (object_groups (loaded_groups w marks))) here in
        let place : o.0 ≡ f = eqb-true o.0 f held.4 in
        ap (λ (x : Option ObjectGroups). option_map_or (λ y. is_discarded y section) x false) own
        ∙ (discarded-of kept section objects i o (rising-filter (λ x. is_marked marks x.0 && not x.1.object.is_dynamic) 0 w.objects) here
        ∙ ap (λ h. is_discarded_by (discarded_groups w marks) h section) place)

-- where the same sections are discarded, a symbol binds as strongly
same-strength : (marks : List Bool) (some others : List PlacedGroup) → ((f section : ℕ) → is_discarded_by some f section ≡ is_discarded_by others f section)
    → (origin : Origin) → surviving_origin marks some origin ≡ surviving_origin marks others origin
same-strength marks some others same (in_prelude d) = refl
same-strength marks some others same (in_object f shared e) =
    ap (λ (b : Bool). if is_marked marks f then (if b then Undefined else binding_strength e) else Undefined) (at (section_of e.place))
  where
    at : (section : Option ℕ) → option_map_or (is_discarded_by some f) section false ≡ option_map_or (is_discarded_by others f) section false
    at None = refl
    at (Some section) = same f section
same-strength marks some others same (in_script d) = refl
same-strength marks some others same (in_stub strength) = refl

-- so each symbol binds as strongly as in the link
pub same-strengths : (w : Stage) (marks : List Bool) (g : IndexedGroups) → AreGroupsOf marks w.objects g
    → map (λ x. surviving_origin marks (discarded_in g) x.origin) w.symbols ≡ surviving_strengths w marks (discarded_groups w marks)
same-strengths w marks g are =
    let each : (x : Symbol) → surviving_origin marks (discarded_in g) x.origin ≡ surviving_origin marks (discarded_groups w marks) x.origin =
    λ x. same-strength marks (discarded_in g) (discarded_groups w marks) (same-sections w marks g are) x.origin in
    ap (λ (f : Symbol → SymbolStrength). map f w.symbols) (λ i x. each x i)
