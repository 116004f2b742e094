use Rattle.std.proofs.Common.{◌≡◌, ◌≤◌, length}
use Rattle.link_script_syntax.specs.Many.{alone, grow, many}
use Rattle.link_script_syntax.specs.Block.{StillFirst, block_turn}
use Rattle.link_script_syntax.proofs.block.block_at.Given as goal

abbrev pub invariant-turns : goal.invariant-turns
invariant-turns l = record {
  reads : grow (alone block_turn) l.matchers l.rest ≡ many block_turn l.text;
  shorter : length l.rest ≤ length l.text;
  kept : StillFirst l.close.left l.rest;
}

abbrev pub decreases-turns : goal.decreases-turns
decreases-turns l = length l.rest
