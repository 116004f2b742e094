use Rattle.std.proofs.Common.{◌≡◌, ◌++◌, map, Ok}
use Rattle.link_manifest.specs.Batches.{inputs_of}
use Rattle.link_manifest.specs.Checked.{batches_checked}
use Rattle.link_manifest.specs.Reading.{and_read}
use Rattle.link_manifest.proofs.batches.checked_items.Given as goal

-- what is left passes exactly where all does, and then comes behind what was checked
abbrev pub invariant-loop-place : goal.invariant-loop-place
invariant-loop-place g l =
    and_read (batches_checked g.P.Platform.HAS_NULL_SYMBOL_ENTRY l.place-iterator.count l.place-iterator.iter.rest.items) (λ _. Ok (l.checked.items ++ map inputs_of l.place-iterator.iter.rest.items))
    ≡ and_read (batches_checked g.P.Platform.HAS_NULL_SYMBOL_ENTRY 0 l.fn.batches.items) (λ _. Ok (map inputs_of l.fn.batches.items))
