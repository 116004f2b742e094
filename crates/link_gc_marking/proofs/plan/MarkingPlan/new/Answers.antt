use Rattle.std.proofs.Common.{rules}
use Rattle.std.proofs.lemmas.List.Sorted.{IsNonDecreasingBy-from_sort_by_key}
use Rattle.link_closure.specs.declared.Edge.{Edge}
use Rattle.link_gc_marking.proofs.Work.{work-fits, work-sound}
use Rattle.link_gc_marking.proofs.plan.MarkingPlan.new.Goals as goal

pub invariant_of-result-clause-in_order : goal.invariant_of-result-clause-in_order
invariant_of-result-clause-in_order c = IsNonDecreasingBy-from_sort_by_key (λ (e : Edge). e.from) _ c.sort_unstable_by_key.ensures.sorted (λ a r f' h. search rules)

pub invariant_of-result-clause-is_sound : goal.invariant_of-result-clause-is_sound
invariant_of-result-clause-is_sound c = work-sound c.args.roots.now c.args.edges.items c.sort_unstable_by_key.new.self.items c.sort_unstable_by_key.ensures.permutation c.requires.in_range

pub invariant_of-result-clause-does_fit : goal.invariant_of-result-clause-does_fit
invariant_of-result-clause-does_fit c = work-fits c.args.roots.now c.sort_unstable_by_key.new.self.items
