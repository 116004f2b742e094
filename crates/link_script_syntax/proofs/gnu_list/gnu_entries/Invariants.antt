use Rattle.std.proofs.Common.{◌≡◌, ◌≤◌, length}
use Rattle.link_script_syntax.specs.Many.{alone, grow, many}
use Rattle.link_script_syntax.specs.GnuList.{list_turn}
use Rattle.link_script_syntax.proofs.gnu_list.gnu_entries.Given as goal

abbrev pub invariant-turns : goal.invariant-turns
invariant-turns l = record {
  reads : grow (alone (list_turn l.profile)) l.entries l.rest ≡ many (list_turn l.profile) l.text;
  shorter : length l.rest ≤ length l.text;
}

abbrev pub decreases-turns : goal.decreases-turns
decreases-turns l = length l.rest
