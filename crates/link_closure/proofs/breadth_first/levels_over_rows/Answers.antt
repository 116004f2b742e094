use Rattle.std.proofs.Common.{◌≡◌, ◌<◌, ◌≤◌, ◌+◌, ℕ, List, Option, [], ◌++◌, length, take, drop, get_or, None, arith, rules}
use Rattle.std.specs.Prelude.{is_none, replicate}
use Rattle.std.specs.List.{Contains}
use Rattle.std.proofs.lemmas.Grind.{common_steps}
use Rattle.std.proofs.lemmas.List.Sums.{count_by-le-length}
use Rattle.std.proofs.lemmas.List.Elements.{Contains-get_or}
use Rattle.std.proofs.lemmas.Option.{slice_get_within}
use Rattle.link_closure.specs.Graph.{IsMarked, Leads}
use Rattle.link_closure.specs.Levels.{HasLevel, Layered}
use Rattle.link_closure.proofs.Layers.{up-to-roots, up-to-next, levels-known, none-listed}
use Rattle.link_closure.proofs.breadth_first.levels_over_rows.Goals as goal

pub loop-alloc-init : goal.loop-alloc-init
loop-alloc-init c =
    let same : take c.in_ok-levels.levels.len (c.root_layer.new.levels ++ drop (length c.root_layer.new.levels) c.in_ok-levels.levels.items) ≡ c.root_layer.new.levels =
    grind (arith, common_steps, c.root_layer.auto.levels) in
    let none : c.in_ok-levels.levels.items ≡ replicate (length c.args.roots.now) None = search (rules, common_steps) in
    let step : Layered (IsMarked c.args.roots.now) 0 (replicate (length c.args.roots.now) None) c.root_layer.new.levels [] c.in_ok-layer.layer.items =
    rw (c.deref_mut.ensures.value, none) at c.in_ok-layer.ensures in
    let most = count_by-le-length is_none (replicate {A = Option ℕ} (length c.args.roots.now) None) in
    let each : length c.root_layer.new.levels ≡ length c.args.roots.now = grind (arith, common_steps, step.each) in
    rw same (record {
      each = each;
      known = up-to-roots (IsMarked c.args.roots.now) (Leads c.args.graph.now) (replicate (length c.args.roots.now) None) c.root_layer.new.levels c.in_ok-layer.layer.items
          (none-listed (length c.args.roots.now)) step;
      few = grind (arith, common_steps, step.fewer, most);
    })

-- what stands in the layer has a level, so it is in range
within : (levels : List (Option ℕ)) (layer : List ℕ) (level : ℕ) → ((f : ℕ) → Contains layer f → HasLevel levels f level)
    → (k d : ℕ) → k < length layer → get_or layer k d < length levels
within levels layer level listed k d lt = slice_get_within levels (get_or layer k d) _ (listed (get_or layer k d) (Contains-get_or layer k d lt))

pub next_layer-requires-clause-layer : goal.next_layer-requires-clause-layer
next_layer-requires-clause-layer c =
    rw (c.deref.ensures.value, c.deref_mut-in-loop-alloc.ensures.value)
    (within c.loop-alloc.levels.items c.loop-alloc.layer.items c.loop-alloc.level c.loop-alloc.invariant.known.in_layer)

pub loop-alloc-preserved : goal.loop-alloc-preserved
loop-alloc-preserved c =
    let same : take c.loop-alloc.levels.len (c.next_layer.new.levels ++ drop (length c.next_layer.new.levels) c.loop-alloc.levels.items) ≡ c.next_layer.new.levels =
    grind (arith, common_steps, c.next_layer.auto.levels) in
    let step : Layered (λ g. (f : ℕ) × Contains c.loop-alloc.layer.items f × Leads c.args.graph.now f g) (c.loop-alloc.level + 1)
    c.loop-alloc.levels.items c.next_layer.new.levels [] c.in_ok-layer-2.layer.items =
    rw (c.deref_mut-in-loop-alloc.ensures.value, c.deref.ensures.value) at c.in_ok-layer-2.ensures in
    let some : 1 ≤ length c.loop-alloc.layer.items = grind (arith, common_steps) in
    let each : length c.next_layer.new.levels ≡ length c.args.roots.now = grind (arith, common_steps, step.each, c.loop-alloc.invariant.each) in
    rw same (record {
      each = each;
      known = up-to-next (IsMarked c.args.roots.now) (Leads c.args.graph.now) c.loop-alloc.level c.loop-alloc.levels.items c.next_layer.new.levels
          c.loop-alloc.layer.items c.in_ok-layer-2.layer.items c.loop-alloc.invariant.known step;
      few = grind (arith, common_steps, step.fewer, c.loop-alloc.invariant.few, some);
    })

pub returns : goal.returns
returns c =
    let empty : c.loop-alloc.layer.items ≡ [] = grind (arith, common_steps) in
    levels-known (IsMarked c.args.roots.now) (Leads c.args.graph.now) (length c.args.roots.now) c.loop-alloc.level c.loop-alloc.levels.items
    c.loop-alloc.invariant.each (rw empty at c.loop-alloc.invariant.known)
