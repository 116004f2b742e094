use Rattle.std.proofs.Common.{◌≡◌, ◌∙◌, ap, map, true, ℕ, List, Bool, replicate}
use Rattle.link_resolve_comdat.specs.ObjectGroups.{ObjectGroups}
use Rattle.link_resolve_comdat.proofs.Keeping.{replicate-map}
use Rattle.link_resolve_comdat.proofs.section_groups.ObjectSectionGroups.new.Goals as goal

pub returns : goal.returns
returns c =
    let with_pending : List Bool → ObjectGroups = λ pending. record { sections = c.args.sections; groups = c.args.groups; kept = c.args.kept.items; pending = pending } in
    let all : c.in_ok-pending.pending.items ≡ map (λ g. true) c.args.groups =
    c.in_ok-pending.ensures.items_if_clones_equal (λ y e. e) ∙ ap (λ (n : ℕ). replicate n true) c.len.ensures ∙ replicate-map true c.args.groups in
    ap with_pending all
