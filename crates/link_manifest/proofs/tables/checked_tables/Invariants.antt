use Rattle.std.proofs.Common.{◌≡◌, ◌++◌, Ok}
use Rattle.link_manifest.specs.Checked.{tables_checked}
use Rattle.link_manifest.specs.Reading.{and_read}
use Rattle.link_manifest.proofs.tables.checked_tables.Given as goal

-- what is left passes exactly where all does, and then comes behind what was checked
abbrev pub invariant-loop-place : goal.invariant-loop-place
invariant-loop-place g l =
    and_read (tables_checked g.P.Platform.HAS_NULL_SYMBOL_ENTRY l.place-iterator.count l.place-iterator.iter.rest.items) (λ _. Ok (l.checked.items ++ l.place-iterator.iter.rest.items))
    ≡ and_read (tables_checked g.P.Platform.HAS_NULL_SYMBOL_ENTRY 0 l.fn.objects.items) (λ _. Ok l.fn.objects.items)
