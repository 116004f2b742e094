use Rattle.std.proofs.Common.{◌≡◌, drop, map}
use Rattle.std.specs.Prelude.{filter_map, option_map}
use Rattle.std.specs.Option.{option_or}
use Rattle.link_rules.specs.Places.{last_of}
use Rattle.link_db.proofs.entry.last_entry.Given as goal

abbrev pub invariant-loop-script : goal.invariant-loop-script
invariant-loop-script l =
    option_or (last_of (filter_map (λ s. s.entry) (map (λ s. s.parsed) (drop l.script-index l.scripts)))) (option_map (λ n. n.now) l.last)
    ≡ option_or (last_of (filter_map (λ s. s.entry) (map (λ s. s.parsed) l.scripts))) (option_map (λ n. n.now) l.before)
