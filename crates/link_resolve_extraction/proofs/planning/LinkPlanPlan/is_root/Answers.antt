use Rattle.std.proofs.Common.{◌≡◌, ◌<◌, ◌∙◌, arith, length, refl, sym}
use Rattle.std.proofs.lemmas.Option.{get_or_from_slice_get, slice_get_read}
use Rattle.link_closure.specs.Closure.{is_marked}
use Rattle.link_resolve_extraction.proofs.Told.{root-is}
use Rattle.link_resolve_extraction.proofs.planning.LinkPlanPlan.is_root.Goals as goal

-- it is marked just where it is a root
pub returns : goal.returns
returns g c =
    let plan = c.args.self.now in
    let marks = plan.is_root.items in
    let below : c.args.file < length marks = omega (arith, c.requires, plan.each) in
    let same : c.index.result.now ≡ is_marked marks c.args.file =
    sym (get_or_from_slice_get marks c.args.file c.index.result.now _ (slice_get_read marks (length marks) c.args.file c.index.result.now refl below c.index.ensures)) in
    let both = root-is marks plan.roots.items c.args.file plan.rooted below in
    (λ is. both.0 (sym same ∙ is), λ root. same ∙ both.1 root)
