use Rattle.std.proofs.Common.{◌≡◌, ◌∙◌, Bool, Option, Some, None, false, sym, ap}
use Rattle.std.specs.Option.{option_map_or}
use Rattle.link_resolve_comdat.specs.ObjectGroups.{ObjectGroups, is_discarded}
use Rattle.link_resolve_discarded.specs.Indexed.{groups_at}
use Rattle.link_resolve_discarded.proofs.Found.{discarded-found}
use Rattle.link_resolve_discarded.proofs.loaded_groups.LoadedGroupsDiscardedSections.is_discarded.Goals as goal

-- its groups say so
pub returns-in-Some : goal.returns-in-Some
returns-in-Some c =
    let Lost : Option ObjectGroups → Bool = λ own. option_map_or (λ o. is_discarded o c.args.section) own false in
    let found : Some c.in-Some.groups.now ≡ groups_at c.args.self.now c.args.object = c.in-Some.ensures in
    c.is_discarded.ensures ∙ (ap Lost found ∙ sym (discarded-found c.args.self.now c.args.object c.args.section))

-- it has none
pub returns-in-None : goal.returns-in-None
returns-in-None c =
    let Lost : Option ObjectGroups → Bool = λ own. option_map_or (λ o. is_discarded o c.args.section) own false in
    let found : None ≡ groups_at c.args.self.now c.args.object = c.in-None.ensures in
    ap Lost found ∙ sym (discarded-found c.args.self.now c.args.object c.args.section)
