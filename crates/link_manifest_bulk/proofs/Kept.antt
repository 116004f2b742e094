-- A section that is left in a loaded object stands in a group that is kept.
use Rattle.std.proofs.Common.{◌≡◌, ℕ, ◌+◌, List, [], ◌∷◌, Bool, true, false, cond, refl, sym, ◌∙◌, ap, subst, arith, Some, None, Option, Contains, slice_get}
use Rattle.std.specs.Prelude.{◌&&◌, ◌==◌, not}
use Rattle.std.specs.List.{enumerate_from, flat_map}
use Rattle.std.specs.Option.{option_map_or}
use Rattle.std.proofs.lemmas.Bool.{eqb-true, eq-eqb}
use Rattle.link_closure.specs.Closure.{is_marked}
use Rattle.link_input.specs.declared.object.SectionGroup.{SectionGroup}
use Rattle.link_input.specs.ObjectFile.{ObjectFile}
use Rattle.link_rules.specs.World.{Stage}
use Rattle.link_rules.specs.Comdat.{GroupPlace, is_same_place, placed_group, groups_of, loaded_regular, loaded_groups, comdats_among, is_kept_among, discarded_groups, sections_in, is_discarded_by}
use Rattle.link_rules.proofs.Settled.{there, both_true}
use Rattle.link_rules.proofs.Members.{map_in, joined_in, kept_in, numbered_in}
use Rattle.link_rules.proofs.Rounds.{in-contains}

-- an object of a stage, not shared, that is loaded
pub record IsLoadedRegular (w : Stage) (marks : List Bool) (i : ℕ) (o : ObjectFile) : Type 0 where
  pub at : slice_get w.objects i ≡ Some o
  pub loaded : is_marked marks i ≡ true
  pub regular : o.object.is_dynamic ≡ false

-- its groups are among those of all loaded regular objects
group_in : (w : Stage) (marks : List Bool) (i : ℕ) (o : ObjectFile) (k : ℕ) (g : SectionGroup) → IsLoadedRegular w marks i o
    → slice_get o.object.groups k ≡ Some g → Contains (loaded_groups w marks) (placed_group i o (k, g))
group_in w marks i o k g it at =
    let zero_add : k ≡ 0 + k = omega arith in
    let first : i ≡ 0 + i = omega arith in
    let passes : (is_marked marks i && not o.object.is_dynamic) ≡ true = rw (it.loaded, it.regular) refl in
    joined_in groups_of (loaded_regular w marks) (i, o) (placed_group i o (k, g))
    (kept_in (λ (q : ℕ × ObjectFile). is_marked marks q.0 && not q.1.object.is_dynamic) (enumerate_from 0 w.objects) (i, o) (numbered_in 0 w.objects i i o it.at first) passes)
    (map_in (placed_group i o) (enumerate_from 0 o.object.groups) (k, g) (numbered_in 0 o.object.groups k k g at zero_add))

-- a member of a group is one of the sections of the group
member_in : (i : ℕ) (o : ObjectFile) (k : ℕ) (g : SectionGroup) (section : ℕ) → Contains g.members section
    → Contains (sections_in i (placed_group i o (k, g))) section
member_in i o k g section within =
    let same = eq-eqb i i refl in
    subst (λ b. Contains (cond b (g.index ∷ g.members) []) section) (sym same) (there g.index g.members section within)

-- where a member of a group is left, the group is kept
pub left-kept : (w : Stage) (marks : List Bool) (i : ℕ) (o : ObjectFile) (k : ℕ) (g : SectionGroup) (section : ℕ) → IsLoadedRegular w marks i o
    → slice_get o.object.groups k ≡ Some g → Contains g.members section → is_discarded_by (discarded_groups w marks) i section ≡ false
    → is_kept_among (comdats_among (loaded_groups w marks)) (placed_group i o (k, g)) ≡ true
left-kept w marks i o k g section it at within left = by_kept (is_kept_among (comdats_among (loaded_groups w marks)) (placed_group i o (k, g))) refl
  where
    by_kept : (b : Bool) → is_kept_among (comdats_among (loaded_groups w marks)) (placed_group i o (k, g)) ≡ b → b ≡ true
    by_kept true is = refl
    by_kept false is =
        let goes = kept_in (λ q. not (is_kept_among (comdats_among (loaded_groups w marks)) q)) (loaded_groups w marks) (placed_group i o (k, g))
        (group_in w marks i o k g it at) (ap not is) in
        let gone = in-contains section (flat_map (sections_in i) (discarded_groups w marks))
        (joined_in (sections_in i) (discarded_groups w marks) (placed_group i o (k, g)) section goes (member_in i o k g section within)) in
        sym left ∙ gone

-- groups at one place are of one object
pub same-object : (o : Option GroupPlace) (p q : GroupPlace) → option_map_or (is_same_place p) o false ≡ true → option_map_or (is_same_place q) o false ≡ true → p.0 ≡ q.0
same-object None p q first second = absurd cc
same-object (Some r) p q first second =
    let a = (both_true (p.0 == r.0) (p.1 == r.1) first).0 in
    let b = (both_true (q.0 == r.0) (q.1 == r.1) second).0 in
    eqb-true p.0 r.0 a ∙ sym (eqb-true q.0 r.0 b)
