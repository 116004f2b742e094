use Rattle.std.proofs.Common.{◌≡◌, option_map, filter_map, take}
use Rattle.link_rules.specs.Places.{last_of}
use Rattle.link_check_roots.proofs.entry.last_entry.Given as goal

abbrev pub invariant-loop-script : goal.invariant-loop-script
invariant-loop-script l = option_map (λ n. n.now) l.last ≡ last_of (filter_map (λ s. s.entry) (take l.script-index l.scripts))
