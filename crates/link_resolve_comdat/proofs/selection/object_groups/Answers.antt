use Rattle.std.proofs.Common.{◌≡◌, ◌∙◌, ap, sym, ℕ, length}
use Rattle.link_input.specs.declared.object.ObjectTable.{ObjectTable}
use Rattle.link_input.specs.ObjectFile.{ObjectFile}
use Rattle.link_rules.specs.Comdat.{groups_of}
use Rattle.link_resolve_comdat.specs.InOrder.{is_met}
use Rattle.link_resolve_comdat.proofs.Placed.{length-groups_of, length-kept}
use Rattle.link_resolve_comdat.proofs.selection.object_groups.Goals as goal

pub new-requires-clause-each : goal.new-requires-clause-each
new-requires-clause-each g c =
    let o = c.args.candidate.now in
    let file : c.object-object.result.now ≡ o.1.object = c.object-object.ensures ∙ ap (λ (x : ℕ × ObjectFile). x.1.object) c.candidate.view_is in
    let groups : c.in_ok-groups.groups ≡ o.1.object.groups = c.in_ok-groups.ensures.same ∙ ap (λ (t : ObjectTable). t.groups) file in
    ap length c.in_ok-kept.ensures.kept ∙ length-kept (is_met c.args.signatures.now) (groups_of o) ∙ length-groups_of o ∙ sym (ap length groups)
