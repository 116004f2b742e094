use Rattle.std.proofs.Common.{◌≡◌, ◌∷◌, ℕ, drop, if◌then◌else◌, slice_index}
use Rattle.link_flags.specs.FlagWords.{numbers_of}
use Rattle.link_rules.specs.Places.{contains}
use Rattle.link_resolve_rivals.specs.Narrowed.{joined_unless}
use Rattle.link_resolve_rivals.proofs.narrowing.join_flags.Given as goal

abbrev pub invariant-loop-symbol : goal.invariant-loop-symbol
invariant-loop-symbol l =
    (s : ℕ) → (if contains s (drop l.symbol-index l.later) then joined_unless l.dynamic l.bits.0 s (slice_index (numbers_of l.words) s) else slice_index (numbers_of l.words) s)
    ≡ (if contains s (l.fn.head ∷ l.later) then joined_unless l.dynamic l.bits.0 s (slice_index (numbers_of l.fn.words) s) else slice_index (numbers_of l.fn.words) s)
