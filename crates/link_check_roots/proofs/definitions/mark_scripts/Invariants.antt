use Rattle.std.proofs.Common.{◌≡◌, drop}
use Rattle.std.specs.Prelude.{fold}
use Rattle.std.specs.List.{flat_map}
use Rattle.link_check_roots.specs.Given.{redirected_in}
use Rattle.link_check_roots.specs.Marks.{marked_by}
use Rattle.link_check_roots.proofs.definitions.mark_scripts.Given as goal

abbrev pub invariant-loop-script : goal.invariant-loop-script
invariant-loop-script l =
    fold (marked_by l.names) l.marks (redirected_in (flat_map (λ s. s.symbol_defs) (drop l.script-index l.scripts)))
    ≡ fold (marked_by l.names) l.initial.marks (redirected_in (flat_map (λ s. s.symbol_defs) l.scripts))
