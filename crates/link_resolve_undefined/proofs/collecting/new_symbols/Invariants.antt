use Rattle.std.proofs.Common.{◌≡◌, drop, option_map, ◌+◌}
use Rattle.std.specs.List.{position_from}
use Rattle.std.specs.Option.{option_or}
use Rattle.link_db_files.specs.GroupFiles.{symbols_in}
use Rattle.link_input.specs.Symbols.{Symbol}
use Rattle.link_rules.specs.Undefined.{Numbered, asks_same}
use Rattle.link_resolve_undefined.specs.NameIds.{id_in}
use Rattle.link_resolve_undefined.specs.Records.{numbered_at}
use Rattle.link_resolve_undefined.proofs.collecting.new_symbols.Given as goal

abbrev pub invariant-loop-place : goal.invariant-loop-place
invariant-loop-place g l = (x : Symbol) →
    option_or (id_in l.made x.name x.version) (option_map (λ i. l.first_new + i) (position_from (λ (m : Numbered). asks_same m.1 x) l.place (numbered_at (symbols_in l.files.groups) (drop l.place l.makers))))
    ≡ option_map (λ i. l.first_new + i) (position_from (λ (m : Numbered). asks_same m.1 x) 0 (numbered_at (symbols_in l.files.groups) l.makers))
