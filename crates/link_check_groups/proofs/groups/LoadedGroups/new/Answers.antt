use Rattle.std.proofs.Common.{◌∙◌, ap, subst, sym}
use Rattle.link_check_groups.specs.Groups.{first_comdat}
use Rattle.link_check_groups.proofs.FirstKept.{first-kept}
use Rattle.link_check_groups.proofs.Places.{AreOrdered, groups-ordered}
use Rattle.link_check_groups.proofs.groups.LoadedGroups.new.Goals as goal

pub invariant_of-result : goal.invariant_of-result
invariant_of-result g c = λ signature.
    let groups = c.in_ok-groups.groups.items in
    c.in_ok-first.ensures signature
    ∙ (ap (λ gs. first_comdat gs signature) c.deref.ensures.value
    ∙ first-kept groups signature (subst AreOrdered (sym c.in_ok-groups.ensures) (groups-ordered c.args.objects.now c.args.marks.now)))
