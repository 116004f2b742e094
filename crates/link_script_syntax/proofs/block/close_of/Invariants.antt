use Rattle.std.proofs.Common.{◌≡◌, ◌+◌, length}
use Rattle.std.specs.Option.{option_map}
use Rattle.link_script_syntax.specs.Block.{close_place}
use Rattle.link_script_syntax.proofs.block.close_of.Given as goal

abbrev pub invariant-places : goal.invariant-places
invariant-places l = (option_map (λ n. l.at + n) (close_place l.rest) ≡ close_place l.text) × (l.at + length l.rest ≡ length l.text)

abbrev pub decreases-places : goal.decreases-places
decreases-places l = length l.rest
