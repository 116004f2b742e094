use Rattle.std.proofs.Common.{◌≡◌, ◌+◌, ◌++◌, drop}
use Rattle.link_rules.specs.Places.{each_from}
use Rattle.link_check_undefined.proofs.entries.push_new.Given as goal

abbrev pub invariant-loop-place : goal.invariant-loop-place
invariant-loop-place l =
    l.entries.items ++ each_from (λ s m. s) (l.first + l.place) (drop l.place l.makers) ≡ l.initial.entries.items ++ each_from (λ s m. s) l.first l.makers
