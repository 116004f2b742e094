use Rattle.std.proofs.Common.{◌≡◌, ◌<◌, ◌++◌, ◌∷◌, [], ◌∙◌, sym, ap, subst, List, length, get_or, All, arith}
use Rattle.std.proofs.lemmas.List.{take_more}
use Rattle.std.proofs.lemmas.List.Elements.{All-more}
use Rattle.std.proofs.lemmas.Option.{get_or_from_slice_get}
use Rattle.link_input.specs.declared.object.SectionGroup.{SectionGroup}
use Rattle.link_resolve_comdat.specs.ObjectGroups.{sections_of}
use Rattle.link_resolve_comdat.proofs.Marks.{all-inside}
use Rattle.link_resolve_comdat.proofs.selection.copied_groups.Goals as goal

pub loop-group-preserved : goal.loop-group-preserved
loop-group-preserved g c =
    let groups = c.args.object.now.groups in
    let i = c.loop-group.group in
    let x = c.group.result.now in
    let lt : i < length groups = omega (arith, ap length c.groups-group-end.ensures) in
    let read : get_or groups i x ≡ x = get_or_from_slice_get groups i x x c.group.ensures.group in
    let Inside : SectionGroup → Type 0 = λ h. All (λ section. section < c.args.object.now.sections) (sections_of h) in
    let inside : Inside x = all-inside _ x c.group.ensures.header c.group.ensures.members in
    let pushed : c.push.new.self ≡ c.loop-group.groups ++ c.in_ok-copied_group.field-0 ∷ [] = c.in_ok-push.ensures.ok in
    record {
      copied = pushed ∙ ap (λ (h : SectionGroup). c.loop-group.groups ++ h ∷ []) (c.in_ok-copied_group.ensures ∙ sym read)
          ∙ ap (λ (xs : List SectionGroup). xs ++ get_or groups i x ∷ []) c.loop-group.invariant.copied ∙ sym (take_more groups i x lt);
      inside = All-more Inside groups i x lt c.loop-group.invariant.inside (subst Inside (sym read) inside);
    }
