use Rattle.std.proofs.Common.{◌≡◌, ◌++◌, ◌+◌, ◌∙◌, ap, List, drop, map}
use Rattle.std.specs.List.{flat_map}
use Rattle.link_rules.specs.declared.linked.KeptGroup.{KeptGroup}
use Rattle.link_rules.specs.Comdat.{groups_of}
use Rattle.link_resolve_comdat.specs.ObjectGroups.{ObjectGroups}
use Rattle.link_resolve_comdat.specs.Selected.{SelectedGroups, object_groups, comdats_kept_among}
use Rattle.link_resolve_comdat.specs.InOrder.{is_met, kept_in_order, objects_in_order, comdats_in_order}
use Rattle.link_resolve_comdat.proofs.OneByOne.{cause-turn, objects-turn, comdats-turn, objects-end, comdats-end}
use Rattle.link_resolve_comdat.proofs.selection.Selection.select.Goals as goal

pub loop-candidate-preserved : goal.loop-candidate-preserved
loop-candidate-preserved g c =
    let objects = c.args.objects.now in
    let i = c.loop-candidate.candidate-index in
    let o = c.candidate-item.result in
    let lt = c.loop-candidate-test.true in
    let now = is_met c.loop-candidate.signatures in
    let new = is_met c.object_groups.new.signatures in
    let made = c.in_ok-object.ensures.groups in
    let met = c.in_ok-object.ensures.met in
    let truths = c.kept-in-loop-candidate.result.now in
    let kept : truths ≡ kept_in_order now (groups_of o) = c.kept-in-loop-candidate.ensures ∙ ap (λ (x : ObjectGroups). x.kept) made in
    record {
      cause = cause-turn objects i o lt c.candidate-item.is c.in_ok-object.ensures.cause ∙ c.loop-candidate.invariant.cause;
      groups = ap (λ (xs : List ObjectGroups). xs ++ objects_in_order new (drop (i + 1) objects)) c.in_ok-push.ensures.ok
          ∙ objects-turn now new c.loop-candidate.groups objects i o c.in_ok-object.object lt c.candidate-item.is made met ∙ c.loop-candidate.invariant.groups;
      kept = ap (λ (xs : List KeptGroup). xs ++ comdats_in_order new (drop (i + 1) objects)) c.in_ok-tell_comdats.ensures
          ∙ comdats-turn now new c.loop-candidate.kept objects i o truths lt c.candidate-item.is kept met ∙ c.loop-candidate.invariant.kept;
    }

pub returns-clause-ok : goal.returns-clause-ok
returns-clause-ok g c =
    let objects = c.args.objects.now in
    let met = is_met c.loop-candidate.signatures in
    let With : List ObjectGroups → List KeptGroup → SelectedGroups = λ xs ks. record { objects = xs; kept = ks } in
    let groups : c.into_vec.result.items ≡ map (object_groups (flat_map groups_of objects)) objects =
    c.into_vec.ensures ∙ objects-end met c.loop-candidate.groups objects c.loop-candidate.candidate-index c.loop-candidate-test.false c.requires c.loop-candidate.invariant.groups in
    let kept : c.loop-candidate.kept ≡ comdats_kept_among (flat_map groups_of objects) =
    comdats-end met c.loop-candidate.kept objects c.loop-candidate.candidate-index c.loop-candidate-test.false c.requires c.loop-candidate.invariant.kept in
    ap (λ (xs : List ObjectGroups). With xs c.loop-candidate.kept) groups ∙ ap (With (map (object_groups (flat_map groups_of objects)) objects)) kept
