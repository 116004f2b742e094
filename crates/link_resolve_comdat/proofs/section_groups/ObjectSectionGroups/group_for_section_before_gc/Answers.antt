use Rattle.std.proofs.Common.{◌≡◌, ◌<◌, ◌∙◌, sym, ap, ℕ, None, Some, if◌then◌else◌, Bool, true, false, get_or, refl, arith}
use Rattle.std.proofs.lemmas.List.{get_or_default}
use Rattle.std.specs.Prelude.{IfSome}
use Rattle.std.specs.Bool.{then_some}
use Rattle.link_resolve_comdat.specs.ObjectGroups.{ObjectGroups, pending_group}
use Rattle.link_resolve_comdat.specs.Tables.{group_at}
use Rattle.link_resolve_comdat.proofs.Pending.{pending-none, pending-some, group-within}
use Rattle.link_resolve_comdat.proofs.section_groups.ObjectSectionGroups.group_for_section_before_gc.Goals as goal

-- a choice of a group below a bound
some_below : (b : Bool) (g n : ℕ) → g < n → IfSome (then_some b g) (λ x. x < n)
some_below true g n lt = lt
some_below false g n lt = tt

-- a choice of a group, as the code makes it
chosen : (b : Bool) (g : ℕ) → then_some b g ≡ (if b then Some g else None)
chosen true g = refl
chosen false g = refl

pub returns-in_err-group-clause-group : goal.returns-in_err-group-clause-group
returns-in_err-group-clause-group c =
    let none : group_at c.self.inside.member_of.items c.args.section ≡ None = cc (c.in_err-group.was) in
    c.from_residual.ensures ∙ sym (pending-none _ _ _ c.args.section c.self.invariant none) ∙ ap (λ (o : ObjectGroups). pending_group o c.args.section) c.self.view_is

pub index-requires : goal.index-requires
index-requires c =
    let some : group_at c.self.inside.member_of.items c.args.section ≡ Some c.in_ok-group.group = cc (c.in_ok-group.was) in
    let within = group-within _ _ _ c.args.section c.in_ok-group.group c.self.invariant some in
    omega (arith, c.self.invariant.each_pending)

pub returns-clause-group : goal.returns-clause-group
returns-clause-group c =
    let g = c.in_ok-group.group in
    let pending = c.self.inside.pending.items in
    let some : group_at c.self.inside.member_of.items c.args.section ≡ Some g = cc (c.in_ok-group.was) in
    let within = group-within _ _ _ c.args.section g c.self.invariant some in
    let read : c.index.result.now ≡ get_or pending g false = c.index.ensures ∙ get_or_default pending g c.index.result.now false (omega (arith, c.self.invariant.each_pending)) in
    c.then_some.ensures ∙ ap (λ (b : Bool). then_some b g) read ∙ chosen (get_or pending g false) g ∙ sym (pending-some _ _ _ c.args.section g c.self.invariant some) ∙ ap (λ (o : ObjectGroups). pending_group o c.args.section) c.self.view_is

pub returns-clause-within : goal.returns-clause-within
returns-clause-within c =
    let g = c.in_ok-group.group in
    let some : group_at c.self.inside.member_of.items c.args.section ≡ Some g = cc (c.in_ok-group.was) in
    let within = group-within _ _ _ c.args.section g c.self.invariant some in
    rw (c.then_some.ensures, ← c.self.view_is) (some_below c.index.result.now g _ within)
