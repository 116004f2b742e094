-- Of the strong definitions of a name in a made-up link at most one is left.
use Rattle.std.proofs.Common.{◌≡◌, ℕ, zero, suc, ◌+◌, ◌<◌, ◌≤◌, List, [], ◌++◌, Bool, true, false, map, cond, refl, sym, ◌∙◌, ap, subst, inl, inr, arith, Some, Contains, slice_get}
use Rattle.std.specs.Prelude.{◌==◌}
use Rattle.std.specs.List.{range_with_len}
use Rattle.std.specs.Option.{option_map_or}
use Rattle.link_closure.specs.Closure.{is_marked}
use Rattle.link_closure.proofs.Joins.{contains_append}
use Rattle.link_flags.specs.declared.strength.SymbolStrength.TheVariants.{Undefined, Strong}
use Rattle.link_flags.specs.Pick.{is_strong}
use Rattle.link_input.specs.InputFiles.{object}
use Rattle.link_input.specs.Symbols.{Symbol, object_symbol, symbols_of}
use Rattle.link_rules.specs.Places.{Bytes}
use Rattle.link_rules.specs.Names.{is_listed}
use Rattle.link_rules.specs.World.{Stage}
use Rattle.link_rules.specs.Comdat.{PlacedGroup, is_same_place, comdats_among, kept_place, loaded_groups, discarded_groups, is_discarded_by}
use Rattle.link_rules.specs.Selection.{surviving_origin}
use Rattle.link_rules.proofs.Settled.{here, here_or_there, nothing_in}
use Rattle.link_manifest_bulk.specs.Names.{shared_name}
use Rattle.link_manifest_bulk.specs.Tables.{null_entry, references, shared_group}
use Rattle.link_manifest_bulk.specs.Bulk.{main_object, member_object, bulk_object}
use Rattle.link_manifest_bulk.proofs.Single.{IsAtMostOne, one-none, one-append}
use Rattle.link_manifest_bulk.proofs.Apart.{own-once, own-unshared}
use Rattle.link_manifest_bulk.proofs.Kept.{left-kept, same-object}
use Rattle.link_manifest_bulk.proofs.Definitions.{object_by, symbols_in, own_symbol, shared_symbol, references-unlisted, null-unlisted, main-unlisted, IsOfMember, definition-of}

-- it is a definition of the name, and binds strongly where these groups are discarded
pub record IsLeft (name : Bytes) (marks : List Bool) (discarded : List PlacedGroup) (x : Symbol) : Type 0 where
  pub listed : is_listed x ≡ true
  pub named : x.name ≡ name
  pub strong : is_strong (surviving_origin marks discarded x.origin) ≡ true

-- of the symbols of one object at most one is left
left-within : (name : Bytes) (marks : List Bool) (discarded : List PlacedGroup) (members i : ℕ)
    → IsAtMostOne (IsLeft name marks discarded) (symbols_in i (bulk_object members i))
left-within name marks discarded members i = by_first (i == 0)
  where
    none-other : (x : Symbol) → Contains (map (object_symbol i (member_object members i)) (references members i)) x → IsLeft name marks discarded x → ⊥
    none-other x within left = references-unlisted i (member_object members i) members i x within left.listed

    by_first : (b : Bool) → IsAtMostOne (IsLeft name marks discarded) (symbols_in i (object_by b members i))
    by_first true = one-none (IsLeft name marks discarded) (symbols_in i main_object) (λ x within left. main-unlisted i x within left.listed)
    by_first false = (
      λ left x within more. null-unlisted i (member_object members i) (object_symbol i (member_object members i) null_entry)
          (here (object_symbol i (member_object members i) null_entry) []) left.listed,
      (
        λ left x within more. elim (here_or_there (shared_symbol members i) (map (object_symbol i (member_object members i)) (references members i)) x within) [
          | inl shared ↦ own-unshared i i (left.named ∙ sym more.named ∙ ap (λ (y : Symbol). y.name) (sym shared))
          | inr other ↦ none-other x other more
        ],
        (
          λ left x within more. none-other x within more,
          one-none (IsLeft name marks discarded) (map (object_symbol i (member_object members i)) (references members i)) none-other,
        ),
      ),
    )

-- a stage that has these objects
pub record HasObjects (members : ℕ) (w : Stage) : Type 0 where
  pub at : (i : ℕ) → i ≤ members → slice_get w.objects i ≡ Some (bulk_object members i)

-- what binds strongly is of a loaded object, and stands in no discarded section
strong-by : (loaded gone : Bool) → is_strong (cond loaded (cond gone Undefined Strong) Undefined) ≡ true → (loaded ≡ true) × (gone ≡ false)
strong-by true true is = absurd cc
strong-by true false is = (refl, refl)
strong-by false gone is = absurd cc

-- the group of a shared symbol that is left is kept
shared-kept : (w : Stage) (marks : List Bool) (members i : ℕ) → i ≤ members → HasObjects members w → bulk_object members i ≡ member_object members i
    → is_strong (surviving_origin marks (discarded_groups w marks) (shared_symbol members i).origin) ≡ true
    → option_map_or (is_same_place (i, 0)) (kept_place (comdats_among (loaded_groups w marks)) (shared_name i)) false ≡ true
shared-kept w marks members i within has is_member strong =
    let both = strong-by (is_marked marks i) (is_discarded_by (discarded_groups w marks) i 2) strong in
    left-kept w marks i (member_object members i) 0 shared_group 2
    (record { at = has.at i within ∙ ap Some is_member; loaded = both.0; regular = refl })
    refl (here 2 []) both.1

-- what is left of two objects is of one
left-across : (w : Stage) (marks : List Bool) (members : ℕ) (name : Bytes) (i j : ℕ) (x y : Symbol) → members ≤ 100000 → HasObjects members w
    → i ≤ members → j ≤ members → Contains (symbols_in i (bulk_object members i)) x → Contains (symbols_in j (bulk_object members j)) y
    → IsLeft name marks (discarded_groups w marks) x → IsLeft name marks (discarded_groups w marks) y → i ≡ j
left-across w marks members name i j x y few has first second in_first in_second left also =
    by_kind (definition-of members i x in_first left.listed) (definition-of members j y in_second also.listed)
  where
    same : x.name ≡ y.name
    same = left.named ∙ sym also.named

    name_of : (z u : Symbol) → z ≡ u → z.name ≡ u.name
    name_of z u is = ap (λ (v : Symbol). v.name) is

    strong_of : (z u : Symbol) → z ≡ u → is_strong (surviving_origin marks (discarded_groups w marks) z.origin) ≡ true → is_strong (surviving_origin marks (discarded_groups w marks) u.origin) ≡ true
    strong_of z u is strong = subst (λ (v : Symbol). is_strong (surviving_origin marks (discarded_groups w marks) v.origin) ≡ true) is strong

    by_kind : IsOfMember members i x → IsOfMember members j y → i ≡ j
    by_kind a b = elim a.kind [
      | inl own ↦ elim b.kind [
        | inl owned ↦ own-once i j (omega arith) (omega arith) (sym (name_of x (own_symbol members i) own) ∙ same ∙ name_of y (own_symbol members j) owned)
        | inr shared ↦ absurd (own-unshared i j (sym (name_of x (own_symbol members i) own) ∙ same ∙ name_of y (shared_symbol members j) shared))
      ]
      | inr shared ↦ elim b.kind [
        | inl owned ↦ absurd (own-unshared j i (sym (name_of y (own_symbol members j) owned) ∙ sym same ∙ name_of x (shared_symbol members i) shared))
        | inr shares ↦
            let signature : shared_name i ≡ shared_name j = sym (name_of x (shared_symbol members i) shared) ∙ same ∙ name_of y (shared_symbol members j) shares in
            let kept = shared-kept w marks members i first has a.member (strong_of x (shared_symbol members i) shared left.strong) in
            let keeps = shared-kept w marks members j second has b.member (strong_of y (shared_symbol members j) shares also.strong) in
            same-object (kept_place (comdats_among (loaded_groups w marks)) (shared_name j)) (i, 0) (j, 0)
            (subst (λ s. option_map_or (is_same_place (i, 0)) (kept_place (comdats_among (loaded_groups w marks)) s) false ≡ true) signature kept) keeps
      ]
    ]

-- ---- the symbols of all objects

-- the symbols of the objects from a place on
abbrev pub symbols_from : ℕ → ℕ → ℕ → List Symbol
symbols_from members i count = symbols_of i (map object (map (bulk_object members) (range_with_len i count)) ++ [])

-- each is a symbol of one of them
pub object_from : (members i count : ℕ) (x : Symbol) → Contains (symbols_from members i count) x
    → (j : ℕ) × (i ≤ j) × (j < i + count) × Contains (symbols_in j (bulk_object members j)) x
object_from members i zero x within = absurd (nothing_in x within)
object_from members i (suc count) x within = elim (contains_append x (symbols_in i (bulk_object members i)) (symbols_from members (i + 1) count) within) [
  | inl first ↦ (i, omega arith, omega arith, first)
  | inr later ↦ let found = object_from members (i + 1) count x later in (found.0, (let from = found.1 in omega arith), (let below = found.2 in omega arith), found.3)
]

-- of all of them at most one is left
pub left-once : (w : Stage) (marks : List Bool) (members : ℕ) (name : Bytes) → members ≤ 100000 → HasObjects members w
    → (i count : ℕ) → i + count ≤ members + 1 → IsAtMostOne (IsLeft name marks (discarded_groups w marks)) (symbols_from members i count)
left-once w marks members name few has i zero within = tt
left-once w marks members name few has i (suc count) within =
    one-append (IsLeft name marks (discarded_groups w marks)) (symbols_in i (bulk_object members i)) (symbols_from members (i + 1) count)
    (left-within name marks (discarded_groups w marks) members i)
    (left-once w marks members name few has (i + 1) count (omega arith))
    (λ x at_head left y later also.
    let found = object_from members (i + 1) count y later in
    let same = left-across w marks members name i found.0 x y few has (omega arith) (let below = found.2 in omega arith) at_head found.3 left also in
    let from = found.1 in
    omega arith)
