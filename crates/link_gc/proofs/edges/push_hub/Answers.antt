use Rattle.std.proofs.Common.{◌≡◌, ◌∙◌, ◌<◌, ◌≤◌, ℕ, IfSome, List, Option, get_or, length, refl, subst, sym, arith}
use Rattle.std.proofs.lemmas.List.{take_all}
use Rattle.std.proofs.lemmas.List.Elements.{All-get_or}
use Rattle.link_rules.specs.Places.{first_of}
use Rattle.link_gc.proofs.Gathered.{AreGathered, IsSpoke, first-get, first-holds, gathered-next, hub-edges, two-more}
use Rattle.link_gc.proofs.edges.push_hub.Goals as goal

-- one member more
pub loop-member-preserved : goal.loop-member-preserved
loop-member-preserved c =
    let members = c.args.members.now in
    let i = c.loop-member.member-index in
    let hub = c.copied-hub.result in
    let first : hub ≡ first_of members = c.copied-hub.ensures ∙ c.first.ensures.value ∙ first-get members in
    let old = c.loop-member.edges.items in
    let mid = c.push_edge.new.edges.items in
    let new = c.push_edge-in-loop-member.new.edges.items in
    record {
      edges = gathered-next (IsSpoke hub) c.args.edges.now.items old new members i (get_or members i 0) 0 c.loop-member-test.true refl c.loop-member.invariant.edges
          (two-more hub (get_or members i 0) old mid new c.in_ok-push_edge.ensures.edges c.in_ok-push_edge-2.ensures.edges);
      in_range = λ count all start.
          let below : IfSome hub (λ n. n < count) = subst (λ (o : Option ℕ). IfSome o (λ n. n < count)) (sym first) (first-holds (λ n. n < count) members all) in
          let one : get_or members i 0 < count = All-get_or (λ n. n < count) members i 0 c.loop-member-test.true all in
          c.in_ok-push_edge-2.ensures.in_range count below one (c.in_ok-push_edge.ensures.in_range count one below (c.loop-member.invariant.in_range count all start));
    }

-- the edges are those of the hub
pub returns-clause-edges : goal.returns-clause-edges
returns-clause-edges c =
    let members = c.args.members.now in
    let hub = c.copied-hub.result in
    let first : hub ≡ first_of members = c.copied-hub.ensures ∙ c.first.ensures.value ∙ first-get members in
    let past : length members ≤ c.loop-member.member-index = omega arith in
    let all : AreGathered (IsSpoke hub) c.args.edges.now.items members c.loop-member.edges.items =
    subst (λ (xs : List ℕ). AreGathered (IsSpoke hub) c.args.edges.now.items xs c.loop-member.edges.items) (take_all c.loop-member.member-index members past) c.loop-member.invariant.edges in
    hub-edges members hub c.args.header c.args.edges.now.items c.loop-member.edges.items c.push_edge-2.new.edges.items first all c.in_ok-push_edge-3.ensures.edges

-- they stay in range
pub returns-clause-in_range : goal.returns-clause-in_range
returns-clause-in_range c = λ count all header start.
    let members = c.args.members.now in
    let hub = c.copied-hub.result in
    let first : hub ≡ first_of members = c.copied-hub.ensures ∙ c.first.ensures.value ∙ first-get members in
    let below : IfSome hub (λ n. n < count) = subst (λ (o : Option ℕ). IfSome o (λ n. n < count)) (sym first) (first-holds (λ n. n < count) members all) in
    c.in_ok-push_edge-3.ensures.in_range count below header (c.loop-member.invariant.in_range count all start)
