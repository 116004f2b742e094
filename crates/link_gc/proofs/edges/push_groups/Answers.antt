use Rattle.std.proofs.Common.{◌≡◌, ◌∙◌, ◌<◌, ◌≤◌, ℕ, All, List, ap, arith, length, subst, sym}
use Rattle.std.proofs.lemmas.List.{take_all}
use Rattle.link_input.specs.declared.object.ObjectTable.{ObjectTable}
use Rattle.link_input.specs.declared.object.SectionGroup.{SectionGroup}
use Rattle.link_input.specs.ObjectFile.{ObjectFile}
use Rattle.link_gc.proofs.Gathered.{AreGathered, IsGroupOf, gathered-next, group-more}
use Rattle.link_gc.proofs.edges.push_groups.Goals as goal

-- one group more
pub loop-group-preserved : goal.loop-group-preserved
loop-group-preserved g c =
    let groups = c.groups-group-items.result.now in
    let i = c.loop-group.group-index in
    let group = c.group-item.result in
    let f = c.args.object.now.0 in
    let at : c.object.inside.place ≡ f = ap (λ (x : ℕ × ObjectFile). x.0) c.object.view_is in
    let mid = c.loop-group.edges.items in
    let new = c.push_hub.new.edges.items in
    record {
      edges = λ s are.
          gathered-next (IsGroupOf s f) c.args.edges.now.items mid new groups i group group c.loop-group-test.true c.group-item.is (c.loop-group.invariant.edges s are)
          (group-more s c.object.inside.place f group c.deref.result.now c.number-header.result mid new at (c.deref.ensures.value ∙ c.in_ok-members.ensures.members s are) (c.number-header.ensures.number s are)
          c.in_ok-push_hub.ensures.edges);
      in_range = λ start.
          let count = c.args.numbers.now.count in
          let below : All (λ n. n < count) c.deref.result.now = subst (λ (ns : List ℕ). All (λ n. n < count) ns) (sym c.deref.ensures.value) c.in_ok-members.ensures.within in
          c.in_ok-push_hub.ensures.in_range count below c.number-header.ensures.within (c.loop-group.invariant.in_range start);
    }

-- the edges are those of the groups
pub returns-clause-edges : goal.returns-clause-edges
returns-clause-edges g c = λ s are.
    let groups = c.groups-group-items.result.now in
    let o = c.args.object.now in
    let are_its : groups ≡ o.1.object.groups = c.groups-group-items.ensures ∙ ap (λ (t : ObjectTable). t.groups) (c.object-2.ensures ∙ ap (λ (x : ℕ × ObjectFile). x.1.object) c.object.view_is) in
    let past : length groups ≤ c.loop-group.group-index = omega arith in
    let Gathered : List SectionGroup → Type 0 = λ xs. AreGathered (IsGroupOf s o.0) c.args.edges.now.items xs c.loop-group.edges.items in
    subst Gathered (take_all c.loop-group.group-index groups past ∙ are_its) (c.loop-group.invariant.edges s are)
