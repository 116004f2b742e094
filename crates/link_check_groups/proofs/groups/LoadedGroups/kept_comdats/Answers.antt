use Rattle.std.proofs.Common.{◌∙◌, List, ap, map}
use Rattle.std.specs.Prelude.{filter}
use Rattle.std.specs.List.{flat_map}
use Rattle.std.proofs.lemmas.List.{take_all}
use Rattle.link_check_claims.specs.Claims.{claimed_group}
use Rattle.link_rules.specs.Comdat.{PlacedGroup, comdats_among, is_kept_among}
use Rattle.link_check_groups.specs.Groups.{claims_of}
use Rattle.link_check_groups.proofs.Listing.{claims-are, told}
use Rattle.link_check_groups.proofs.groups.LoadedGroups.kept_comdats.Goals as goal

pub returns : goal.returns
returns c = λ w marks same.
    let groups = c.args.self.now in
    let comdats = comdats_among groups in
    c.loop-group.invariant
    ∙ (ap (flat_map (claims_of comdats)) (take_all c.loop-group.group-index c.groups-groups.result.now c.loop-group-test.false ∙ c.groups-groups.ensures)
    ∙ (claims-are comdats groups
    ∙ ap (λ (gs : List PlacedGroup). map claimed_group (map told (filter (λ g. g.group.is_comdat) (filter (is_kept_among (comdats_among gs)) gs)))) same))
