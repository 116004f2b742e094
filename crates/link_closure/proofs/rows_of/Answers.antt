use Rattle.std.proofs.Common.{◌≡◌, ◌+◌, ℕ, List, ◌∷◌, [], ◌++◌, length, take, drop, get_or, subst, arith}
use Rattle.std.proofs.lemmas.Grind.{common_steps}
use Rattle.std.proofs.lemmas.List.Elements.{Contains-push_cases, Contains-append_left}
use Rattle.link_closure.specs.declared.Edge.{Edge}
use Rattle.link_closure.specs.Graph.{Leads}
use Rattle.link_closure.proofs.Turn.{either}
use Rattle.link_closure.proofs.Rows.{empty-leads, empty-below, edge-at}
use Rattle.link_closure.proofs.rows_of.Goals as goal

pub loop-edge-init : goal.loop-edge-init
loop-edge-init c = record {
  each = c.in_ok-rows.ensures.each;
  listed = λ f g has. absurd (omega (arith, has.1));
  only = λ f g leads. absurd (empty-leads c.in_ok-rows.rows.items f g c.in_ok-rows.ensures.empty leads);
  below = empty-below c.args.count c.in_ok-rows.rows.items c.in_ok-rows.ensures.empty;
}

pub loop-edge-preserved : goal.loop-edge-preserved
loop-edge-preserved c =
    let i : ℕ = c.loop-edge.edge-index in
    let edges : List Edge = c.args.edges.now in
    let edge : Edge = get_or edges i (record { from = 0; to = 0 }) in
    let same : take c.loop-edge.rows.len (c.push_to_row.new.rows ++ drop (length c.push_to_row.new.rows) c.loop-edge.rows.items) ≡ c.push_to_row.new.rows =
    grind (arith, common_steps, c.push_to_row.auto.rows) in
    let next : take (i + 1) edges ≡ take i edges ++ edge ∷ [] = grind (arith, common_steps) in
    let each : length c.push_to_row.new.rows ≡ c.args.count = grind (arith, common_steps, c.push_to_row.auto.rows, c.loop-edge.invariant.each) in
    rw (same, next) (record {
      each = each;
      listed = λ f g has. either (Contains-push_cases (take i edges) edge (record { from = f; to = g }) has)
          (λ before. c.in_ok-push_to_row.ensures.old f g (rw c.deref_mut.ensures.value (c.loop-edge.invariant.listed f g before)))
          (λ is. subst (λ (e : Edge). Leads c.push_to_row.new.rows e.from e.to) is c.in_ok-push_to_row.ensures.new);
      only = λ f g leads. either (c.in_ok-push_to_row.ensures.only f g leads)
          (λ before. Contains-append_left (take i edges) (edge ∷ []) (record { from = f; to = g }) (c.loop-edge.invariant.only f g (rw c.deref_mut.ensures.value at before)))
          (λ is. edge-at (take i edges) edge f g is.0 is.1);
      below = c.push_to_row.ensures.below c.args.count (c.requires i (record { from = 0; to = 0 }) (omega (arith, c.loop-edge-test.true))).1 (rw c.deref_mut.ensures.value c.loop-edge.invariant.below);
    })

pub returns-clause-leads : goal.returns-clause-leads
returns-clause-leads c =
    let edges : List Edge = c.args.edges.now in
    let all : take c.loop-edge.edge-index edges ≡ edges = grind (arith, common_steps) in
    λ f g. (λ leads. rw all at (c.loop-edge.invariant.only f g leads), λ has. c.loop-edge.invariant.listed f g (rw all has))
