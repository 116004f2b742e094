use Rattle.std.proofs.Common.{◌≡◌, ◌++◌, drop, codes, decimal}
use Rattle.std.specs.List.{flat_map}
use Rattle.std.specs.Prelude.{string_bytes}
use Rattle.link_report.proofs.why.write_ids.Given as goal

abbrev pub invariant-loop-id : goal.invariant-loop-id
invariant-loop-id l =
    string_bytes l.text ++ flat_map (λ s. codes " " ++ decimal s) (drop l.id-index l.ids)
    ≡ string_bytes l.initial.text ++ flat_map (λ s. codes " " ++ decimal s) l.ids
