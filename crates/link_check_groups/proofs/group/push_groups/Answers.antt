use Rattle.std.proofs.Common.{◌∙◌, ◌++◌, ◌≤◌, ap, arith, length}
use Rattle.std.proofs.lemmas.List.{take_all}
use Rattle.link_rules.specs.Comdat.{groups_of}
use Rattle.link_check_groups.proofs.Listing.{groups-count, list-grow}
use Rattle.link_check_groups.proofs.group.push_groups.Goals as goal

pub loop-index-preserved : goal.loop-index-preserved
loop-index-preserved g c =
    list-grow (groups_of (c.args.place, c.args.object.now)) c.loop-index.index c.new.result c.args.groups.now.items c.loop-index.groups.items c.push.new.self.items
    c.new.ensures c.loop-index.invariant c.in_ok-push.ensures.items

pub returns : goal.returns
returns g c =
    let o = c.args.object.now in
    let groups = groups_of (c.args.place, o) in
    let all : length groups ≤ c.loop-index.index =
    omega (arith, groups-count c.args.place o, ap (λ t. length t.groups) c.object.ensures, ap length c.groups-index-end.ensures, c.loop-index-test.false) in
    c.loop-index.invariant ∙ ap (λ l. c.args.groups.now.items ++ l) (take_all c.loop-index.index groups all)
