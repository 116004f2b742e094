use Rattle.std.proofs.Common.{◌≡◌, ◌<◌, ◌&&◌, ◌∙◌, Bool, false, length, get_or, arith}
use Rattle.std.proofs.lemmas.List.{get_or_default}
use Rattle.link_input.specs.declared.object.SectionGroup.{SectionGroup}
use Rattle.link_resolve_comdat.specs.ObjectGroups.{has_two}
use Rattle.link_resolve_comdat.proofs.Keeping.{kept-step}
use Rattle.link_resolve_comdat.proofs.participation.keep_pending.Goals as goal

pub loop-i-preserved : goal.loop-i-preserved
loop-i-preserved c =
    let g = c.index-groups-i.result in
    let i = c.loop-i.i in
    let pending = c.loop-i.pending in
    let p = get_or pending i false in
    let stays : SectionGroup × Bool → Bool = λ x. c.args.enabled && x.1 && has_two c.args.marks.now x.0 in
    let room : i < length pending = omega (arith, c.requires.each) in
    let read : p ≡ get_or pending i p = get_or_default pending i false p room in
    let gives : c.stays_pending.result ≡ stays (g, p) = c.stays_pending.ensures in
    record { done = kept-step stays c.args.groups.now pending i g p c.stays_pending.result c.loop-i-test.true room c.index-groups-i.is read gives ∙ c.loop-i.invariant.done }
