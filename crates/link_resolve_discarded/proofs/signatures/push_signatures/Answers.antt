use Rattle.std.proofs.Common.{◌≡◌, ◌<◌, ◌≤◌, ◌+◌, ◌++◌, ◌∙◌, [], ◌∷◌, Vec, All, List, length, get_or, ap, sym, subst, arith}
use Rattle.std.specs.Global.{Global}
use Rattle.std.proofs.lemmas.List.{take_all}
use Rattle.std.proofs.lemmas.List.Elements.{All-more}
use Rattle.std.proofs.lemmas.Option.{get_or_from_slice_get}
use Rattle.link_ids.specs.declared.symbol_id.SymbolId.{SymbolId}
use Rattle.link_input.specs.declared.object.SectionGroup.{SectionGroup}
use Rattle.link_resolve_discarded.proofs.Listing.{signature-more, signature-lost}
use Rattle.link_resolve_discarded.proofs.signatures.push_signatures.Goals as goal
use Rattle.link_resolve_discarded.proofs.signatures.push_signatures.Goals.{then-not-is_discarded+in_ok-push, else-not-is_discarded}

-- one group more
pub loop-place-preserved : goal.loop-place-preserved
loop-place-preserved g c =
    let groups = c.args.object.now.groups in
    let i = c.loop-place.place in
    let h = c.group-group.result.now in
    let lt : i < length groups = omega (arith, c.loop-place-test.true, ap (λ (xs : List SectionGroup). length xs) c.groups-place-end.ensures) in
    let Inside : SectionGroup → Type 0 = λ x. x.signature_symbol < length c.args.object.now.symbols in
    let read : get_or groups i h ≡ h = get_or_from_slice_get groups i h h c.group-group.ensures.group in
    record {
      ids = elim c.if-not-is_discarded.branch [
        | then-not-is_discarded+in_ok-push w ↦
            let more : c.if-not-is_discarded.ids.items ≡ c.loop-place.ids.items ++ (c.args.first + h.signature_symbol) ∷ [] =
            ap (λ (v : Vec SymbolId Global). v.items) w.ids-is ∙ (w.in_ok-push.ensures.items ∙ ap (λ n. c.loop-place.ids.items ++ n ∷ []) w.from_usize.ensures) in
            signature-more c.args.first c.args.groups.now groups i h c.loop-place.ids.items c.if-not-is_discarded.ids.items _ lt c.group-group.ensures.group
            (sym c.is_discarded.ensures ∙ w.if-not-is_discarded.true) more c.loop-place.invariant.ids
        | else-not-is_discarded w ↦
            signature-lost c.args.first c.args.groups.now groups i h c.loop-place.ids.items c.if-not-is_discarded.ids.items _ lt c.group-group.ensures.group
            (sym c.is_discarded.ensures ∙ w.if-not-is_discarded.false) (ap (λ (v : Vec SymbolId Global). v.items) w.ids-is) c.loop-place.invariant.ids
      ];
      within = All-more Inside groups i h lt c.loop-place.invariant.within (subst Inside (sym read) c.group-group.ensures.signature);
    }

-- all groups were looked at
pub returns-clause-within : goal.returns-clause-within
returns-clause-within g c =
    let groups = c.args.object.now.groups in
    let Inside : SectionGroup → Type 0 = λ x. x.signature_symbol < length c.args.object.now.symbols in
    let over : length groups ≤ c.loop-place.place = omega (arith, c.loop-place-test.false, ap (λ (xs : List SectionGroup). length xs) c.groups-place-end.ensures) in
    subst (λ (xs : List SectionGroup). All Inside xs) (take_all c.loop-place.place groups over) c.loop-place.invariant.within
