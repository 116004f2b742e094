use Rattle.std.proofs.Common.{◌≡◌, drop}
use Rattle.std.specs.Prelude.{filter_map, option_map}
use Rattle.std.specs.Option.{option_or}
use Rattle.link_db_files.specs.Inputs.{scripts_in}
use Rattle.link_rules.specs.Places.{last_of}
use Rattle.link_db.proofs.entry.entry_of_scripts.Given as goal

abbrev pub invariant-loop-group : goal.invariant-loop-group
invariant-loop-group g l =
    option_or (last_of (filter_map (λ s. s.entry) (scripts_in (drop l.group-index l.groups)))) (option_map (λ n. n.now) l.last)
    ≡ last_of (filter_map (λ s. s.entry) (scripts_in l.groups))
