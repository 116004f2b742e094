use Rattle.std.proofs.Common.{◌≡◌, ◌≤◌, length}
use Rattle.std.specs.Option.{option_map}
use Rattle.link_script_syntax.specs.MachoList.{starts_of, size_of, lines_of, macho_list}
use Rattle.link_script_syntax.proofs.LineByLine.{with_rest}
use Rattle.link_script_syntax.proofs.macho_list.macho_list.Given as goal

abbrev pub invariant-lines : goal.invariant-lines
invariant-lines l = record {
  reads : with_rest l.matchers (lines_of (starts_of (option_map (λ t. t.now) l.rest))) ≡ macho_list l.text;
  shorter : size_of (option_map (λ t. t.now) l.rest) ≤ length l.text;
}

abbrev pub decreases-lines : goal.decreases-lines
decreases-lines l = length (starts_of (option_map (λ t. t.now) l.rest))
