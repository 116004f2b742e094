use Rattle.std.proofs.Common.{◌≡◌, map, take}
use Rattle.std.specs.Fmt.{HasWritten, IsPlainFormatter}
use Rattle.link_flags.specs.FlagText.{joined, names_of, row_of}
use Rattle.link_flags.proofs.FlagWords.{is_none}
use Rattle.link_flags.proofs.value_flags.write_flags.Given as goal

abbrev pub invariant-loop-row : goal.invariant-loop-row
invariant-loop-row g l =
    record {
      written : IsPlainFormatter l.initial.f → HasWritten g.W.Write.write_str_gives l.initial.f (joined (names_of l.set.0 (map row_of (take l.row-index l.rows)))) l.f;
      first_is : l.first ≡ is_none (names_of l.set.0 (map row_of (take l.row-index l.rows)));
    }
