use Rattle.std.proofs.Common.{◌≡◌, ◌∙◌, ap, map, false, List, Bool, length, replicate, arith}
use Rattle.std.proofs.lemmas.List.{with_items_is}
use Rattle.link_resolve_comdat.specs.ObjectGroups.{ObjectGroups}
use Rattle.link_resolve_comdat.proofs.Keeping.{replicate-map}
use Rattle.link_resolve_comdat.proofs.section_groups.ObjectSectionGroups.release_gc_phase_resources.Goals as goal

pub returns : goal.returns
returns c =
    let with_pending : List Bool → ObjectGroups = λ pending. record { sections = c.self.inside.sections; groups = c.self.inside.groups; kept = c.self.inside.kept.items; pending = pending } in
    let none : c.fill.new.self ≡ map (λ p. false) c.self.inside.pending.items =
    c.fill.ensures.after (λ y e. e) ∙ ap (λ (xs : List Bool). replicate (length xs) false) c.as_mut_slice.ensures.value ∙ replicate-map false c.self.inside.pending.items in
    rw (← c.self.view_is) (ap with_pending (with_items_is c.self.inside.pending c.fill.new.self (omega arith) ∙ none))
