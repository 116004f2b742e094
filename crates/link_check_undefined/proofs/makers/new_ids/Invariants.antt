use Rattle.std.proofs.Common.{◌≡◌, ◌+◌, drop, option_map}
use Rattle.std.specs.List.{position_from}
use Rattle.std.specs.Option.{option_or}
use Rattle.link_input.specs.Symbols.{Symbol}
use Rattle.link_rules.specs.Undefined.{Numbered, asks_same}
use Rattle.link_check_undefined.specs.Made.{new_id}
use Rattle.link_check_undefined.specs.Noted.{id_of}
use Rattle.link_check_undefined.proofs.makers.new_ids.Given as goal

abbrev pub invariant-loop-place : goal.invariant-loop-place
invariant-loop-place l = (x : Symbol) →
    option_or (id_of l.made x) (option_map (λ i. l.first + i) (position_from (λ (m : Numbered). asks_same m.1 x) l.place (drop l.place l.makers)))
    ≡ new_id l.first l.makers x
