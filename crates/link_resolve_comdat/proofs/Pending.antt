-- The pending group of a section, by the table of members.
use Rattle.std.proofs.Common.{◌≡◌, ◌+◌, ◌-◌, ◌≤◌, ◌<◌, ◌==◌, ℕ, suc, Bool, true, false, ◌||◌, ◌&&◌, if◌then◌else◌, List, [], ◌∷◌, length, get_or, Option, Some, None, refl, sym, ap, ◌∙◌, arith}
use Rattle.std.specs.Option.{option_or, option_and_then}
use Rattle.std.specs.List.{zip}
use Rattle.std.proofs.lemmas.Bool.{or_parts}
use Rattle.std.proofs.lemmas.List.Folds.{list_any-append}
use Rattle.link_input.specs.declared.object.SectionGroup.{SectionGroup}
use Rattle.link_input.specs.Checks.{first_place}
use Rattle.link_rules.specs.Places.{contains}
use Rattle.link_rules.specs.Refusals.{first_repeated}
use Rattle.link_resolve_comdat.specs.ObjectGroups.{ObjectGroups, pending_group}
use Rattle.link_resolve_comdat.specs.Tables.{AreTabled, members_of, group_with, group_at, first_again}
use Rattle.link_resolve_comdat.proofs.FirstPlace.{first_place-from, first_place-below}
use Rattle.link_resolve_comdat.proofs.Noting.{first_again-append, first_repeated-again, not-again}

-- the first group from a place on that has the section as a member
abbrev with_member : ℕ → ℕ → List SectionGroup → Option ℕ
with_member section i groups = first_place (λ j g. contains section g.members) i groups

-- the same among groups that are pending
abbrev pub pending_with : ℕ → ℕ → List SectionGroup → List Bool → Option ℕ
pending_with section i groups pending = first_place (λ j g. g.1 && contains section g.0.members) i (zip groups pending)

-- the truth value at a place that counts from another on
abbrev if_pending : List Bool → ℕ → ℕ → Option ℕ
if_pending pending i g = if get_or pending (g - i) false then Some g else None

option_or-none : {A : Type 0} (a b : Option A) → option_or a b ≡ None → (a ≡ None) × (b ≡ None)
option_or-none None b e = (refl, e)
option_or-none (Some x) b e = cc

-- a section that is a member of no group is one of no pending group
pub none_pending : (section i : ℕ) (groups : List SectionGroup) (pending : List Bool) → contains section (members_of groups) ≡ false → pending_with section i groups pending ≡ None
none_pending section i [] pending absent = refl
none_pending section i (g ∷ gs) [] absent = refl
none_pending section i (g ∷ gs) (p ∷ ps) absent =
    let parts = or_parts (contains section g.members) (contains section (members_of gs)) (sym (list_any-append (λ n. n == section) g.members (members_of gs)) ∙ absent) in
    by p (contains section g.members) parts.0 (none_pending section (i + 1) gs ps parts.1)
  where
    by : (p here : Bool) → here ≡ false → pending_with section (i + 1) gs ps ≡ None → (if p && here then Some i else pending_with section (i + 1) gs ps) ≡ None
    by p true e rest = cc
    by true false e rest = rest
    by false false e rest = rest

-- where no section is a member twice, the pending group is the group of the section, if that is pending
pending-by : (before : ℕ → Bool) (section i : ℕ) (groups : List SectionGroup) (pending : List Bool) → first_again before (members_of groups) ≡ None → length pending ≡ length groups
    → pending_with section i groups pending ≡ option_and_then (if_pending pending i) (with_member section i groups)
pending-by before section i [] pending once each = refl
pending-by before section i (g ∷ gs) [] once each = absurd (omega arith)
pending-by before section i (g ∷ gs) (p ∷ ps) once each =
    let parts = option_or-none (first_again before g.members) (first_again (λ n. contains n g.members || before n) (members_of gs)) (sym (first_again-append before g.members (members_of gs)) ∙ once) in
    by p (contains section g.members) refl (λ here. none_pending section (i + 1) gs ps (not-again (λ n. contains n g.members || before n) (members_of gs) section parts.1 (rw here refl)))
    (pending-by (λ n. contains n g.members || before n) section (i + 1) gs ps parts.1 (omega arith))
  where
    start : i - i ≡ 0
    start = omega arith

    at : (b : Bool) (q : ℕ) → i + 1 ≤ q → if_pending ps (i + 1) q ≡ if_pending (b ∷ ps) i q
    at b q le = let next : q - i ≡ suc (q - (i + 1)) = omega arith in rw next refl

    later : (b : Bool) (o : Option ℕ) → with_member section (i + 1) gs ≡ o → option_and_then (if_pending ps (i + 1)) o ≡ option_and_then (if_pending (b ∷ ps) i) o
    later b None e = refl
    later b (Some q) e = at b q (first_place-from (λ j x. contains section x.members) (i + 1) gs q e)

    by : (b here : Bool) → contains section g.members ≡ here → (here ≡ true → pending_with section (i + 1) gs ps ≡ None)
        → pending_with section (i + 1) gs ps ≡ option_and_then (if_pending ps (i + 1)) (with_member section (i + 1) gs)
        → (if b && here then Some i else pending_with section (i + 1) gs ps) ≡ option_and_then (if_pending (b ∷ ps) i) (if here then Some i else with_member section (i + 1) gs)
    by true true e none rest = rw start refl
    by false true e none rest = rw start (none refl)
    by true false e none rest = rest ∙ later true (with_member section (i + 1) gs) refl
    by false false e none rest = rest ∙ later false (with_member section (i + 1) gs) refl

-- the pending group of a section is the group of which it is a member, if that is pending
pub pending_group-by : (o : ObjectGroups) (section : ℕ) → first_repeated [] (members_of o.groups) ≡ None → length o.pending ≡ length o.groups
    → pending_group o section ≡ option_and_then (λ g. if get_or o.pending g false then Some g else None) (group_with o.groups section)
pending_group-by o section once each =
    pending-by (λ n. false) section 0 o.groups o.pending (sym (first_repeated-again [] (members_of o.groups)) ∙ once) each ∙ ap (λ (f : ℕ → Option ℕ). option_and_then f (group_with o.groups section)) start
  where
    start : if_pending o.pending 0 ≡ (λ g. if get_or o.pending g false then Some g else None)
    start = λ i g. (let none : g - 0 ≡ g = omega arith in ap (λ (k : ℕ). if get_or o.pending k false then Some g else None) none) i

-- a section that the table does not know is a member of no pending group
pub pending-none : (o : ObjectGroups) (member_of : List (Option ℕ)) (discarded : List Bool) (section : ℕ) → AreTabled o member_of discarded → group_at member_of section ≡ None
    → pending_group o section ≡ None
pending-none o member_of discarded section tabled none =
    pending_group-by o section tabled.once tabled.each_pending ∙ ap (option_and_then (λ g. if get_or o.pending g false then Some g else None)) (sym (tabled.members section) ∙ none)

-- of a section that it knows the group counts, if it is pending
pub pending-some : (o : ObjectGroups) (member_of : List (Option ℕ)) (discarded : List Bool) (section g : ℕ) → AreTabled o member_of discarded → group_at member_of section ≡ Some g
    → pending_group o section ≡ (if get_or o.pending g false then Some g else None)
pending-some o member_of discarded section g tabled some =
    pending_group-by o section tabled.once tabled.each_pending ∙ ap (option_and_then (λ g. if get_or o.pending g false then Some g else None)) (sym (tabled.members section) ∙ some)

-- the table names groups of the object
pub group-within : (o : ObjectGroups) (member_of : List (Option ℕ)) (discarded : List Bool) (section g : ℕ) → AreTabled o member_of discarded → group_at member_of section ≡ Some g
    → g < length o.groups
group-within o member_of discarded section g tabled some =
    let below = first_place-below (λ j x. contains section x.members) 0 o.groups g (sym (tabled.members section) ∙ some) in omega arith
