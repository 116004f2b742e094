use Rattle.std.proofs.Common.{◌≡◌, ◌∷◌, drop, map}
use Rattle.std.specs.Prelude.{fold}
use Rattle.link_flags.specs.Strictness as visibility
use Rattle.link_input.specs.Symbols.{visibility_in}
use Rattle.link_rules.specs.Visibility.{strictest, visibility_of}
use Rattle.link_rules.specs.World.{Stage}
use Rattle.link_resolve_rivals.proofs.narrowing.strictest_of.Given as goal

abbrev pub invariant-loop-symbol : goal.invariant-loop-symbol
invariant-loop-symbol l =
    (w : Stage) → l.visibilities ≡ map (λ x. visibility_in x.origin) w.symbols
    → fold visibility.strictest l.strictest (map (visibility_of w) (drop l.symbol-index l.later)) ≡ strictest w (l.fn.head ∷ l.later)
