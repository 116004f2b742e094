use Rattle.std.proofs.Common.{◌≡◌, ◌+◌, ◌++◌, ℕ, drop}
use Rattle.link_rules.specs.Places.{each_from}
use Rattle.link_resolve_undefined.proofs.asked_names.AskedNames.new_ids.Given as goal

abbrev pub invariant-loop-place : goal.invariant-loop-place
invariant-loop-place l =
    l.ids.items ++ each_from (λ (s m : ℕ). s) (l.first + l.place) (drop l.place l.self.makers.items) ≡ each_from (λ (s m : ℕ). s) l.first l.self.makers.items
