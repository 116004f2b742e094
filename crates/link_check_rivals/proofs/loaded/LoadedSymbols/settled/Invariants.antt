use Rattle.std.proofs.Common.{◌≡◌, slice_index, take}
use Rattle.link_rules.specs.Places.{each_from}
use Rattle.link_check_rivals.specs.Lists.{noted_entry}
use Rattle.link_check_rivals.proofs.loaded.LoadedSymbols.settled.Given as goal

abbrev pub invariant-loop-place : goal.invariant-loop-place
invariant-loop-place l =
    l.settled.items ≡ each_from (λ s x. noted_entry l.naming l.symbols l.choices.items x (slice_index l.table s)) 0 (take l.place l.symbols)
