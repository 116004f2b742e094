use Rattle.std.proofs.Common.{◌≡◌, ◌<◌, ℕ, List, ◌∷◌, [], ◌++◌, length, take, drop, get_or, Some, sym, inl, arith, rules}
use Rattle.std.specs.List.{All, slice_get}
use Rattle.std.proofs.lemmas.Option.{slice_get_read}
use Rattle.std.proofs.lemmas.Grind.{common_steps}
use Rattle.std.proofs.lemmas.List.Elements.{Contains-push, Contains-append_left, All-contains}
use Rattle.link_closure.specs.Graph.{IsMarked}
use Rattle.link_closure.proofs.Turn.{Turn, least-turn, done-turn, either}
use Rattle.link_closure.proofs.closed_over_rows.Goals as goal

front : {X : Type 0} (P : X → Type 0) (xs ys : List X) → All P (xs ++ ys) → All P xs
front P xs ys all = λ k d lt.
    let within : k < length (xs ++ ys) = grind (arith, common_steps) in
    let here : get_or (xs ++ ys) k d ≡ get_or xs k d = grind (arith, common_steps) in
    rw here at (all k d within)

pub loop-number-preserved : goal.loop-number-preserved
loop-number-preserved c =
    let same : take c.loop-number.marks.len (c.mark_row.new.marks ++ drop (length c.mark_row.new.marks) c.loop-number.marks.items) ≡ c.mark_row.new.marks =
    grind (arith, common_steps, c.mark_row.auto.marks) in
    let each : length c.mark_row.new.marks ≡ length c.args.roots.now = grind (arith, common_steps, c.mark_row.auto.marks, c.loop-number.invariant.each) in
    let popped : c.loop-number.todo.items ≡ c.pop.new.self.items ++ c.in-Some.number ∷ [] = c.in-Some.ensures.items in
    let is_marked : IsMarked c.loop-number.marks.items c.in-Some.number =
    c.loop-number.invariant.listed c.in-Some.number (rw popped (Contains-push c.pop.new.self.items c.in-Some.number)) in
    let inside : c.in-Some.number < length c.args.roots.now =
    All-contains (λ f. f < length c.args.roots.now) c.loop-number.todo.items c.in-Some.number c.loop-number.invariant.below
    (rw popped (Contains-push c.pop.new.self.items c.in-Some.number)) in
    let at : slice_get c.args.graph.now c.in-Some.number ≡ Some c.index-graph-number.result =
    slice_get_read c.args.graph.now (length c.args.roots.now) c.in-Some.number c.index-graph-number.result (sym c.requires.same_length) inside c.index-graph-number.is in
    let turn : Turn c.args.graph.now c.loop-number.marks.items c.mark_row.new.marks c.pop.new.self.items c.mark_row.new.todo.items c.in-Some.number c.index-graph-number.result = record {
      at = at;
      row_marked = rw c.deref.ensures.value at c.in_ok-mark_row.ensures.row;
      kept = rw c.deref_mut.ensures.value at c.mark_row.ensures.kept;
      waits = rw c.deref_mut.ensures.value at c.in_ok-mark_row.ensures.waits;
      only = rw (c.deref_mut.ensures.value, c.deref.ensures.value) at c.mark_row.ensures.only;
      waiting = c.mark_row.ensures.waiting;
    } in
    let marks_each : length c.deref_mut.result.now ≡ length c.args.roots.now = grind (arith, common_steps, c.loop-number.invariant.each) in
    let below = (rw marks_each at c.mark_row.ensures.below) (front (λ (f : ℕ). f < length c.args.roots.now) c.pop.new.self.items (c.in-Some.number ∷ []) (rw popped at c.loop-number.invariant.below)) in
    rw same (record {
      each = each;
      roots = λ f root. turn.kept f (c.loop-number.invariant.roots f root);
      least = least-turn _ c.args.graph.now c.loop-number.marks.items c.mark_row.new.marks c.pop.new.self.items c.mark_row.new.todo.items c.in-Some.number c.index-graph-number.result
          turn is_marked c.loop-number.invariant.least;
      below = below;
      listed = λ f held. either (c.mark_row.ensures.listed f held)
          (λ before. turn.kept f (c.loop-number.invariant.listed f (rw popped (Contains-append_left c.pop.new.self.items (c.in-Some.number ∷ []) f before))))
          (λ marked. marked);
      done = done-turn c.args.graph.now c.loop-number.marks.items c.mark_row.new.marks c.pop.new.self.items c.loop-number.todo.items c.mark_row.new.todo.items c.in-Some.number c.index-graph-number.result
          popped turn c.loop-number.invariant.done;
    })

pub loop-number-init : goal.loop-number-init
loop-number-init c =
    let same : c.in_ok-marks.marks.items ≡ c.args.roots.now = search rules in
    record {
      each = grind (arith, common_steps, same);
      roots = λ f root. rw same root;
      least = λ other closed f held. closed.0 f (rw same at held);
      below = c.in_ok-todo.ensures.below;
      listed = λ f held. rw same (c.in_ok-todo.ensures.only f held);
      done = λ f held. inl (c.in_ok-todo.ensures.listed f (rw same at held));
    }
