use Rattle.std.proofs.Common.{◌≡◌, ◌+◌, ◌<◌, ◌^◌, length}
use Rattle.link_db_symbols.specs.Walk.{objects_among, symbols_left}
use Rattle.link_db_symbols.proofs.all_symbols.AllSymbolsIterator.next.Given as goal

abbrev pub invariant-loop-symbol : goal.invariant-loop-symbol
invariant-loop-symbol g l =
    let here = l.self-inside in
    let first = l.initial.self-inside in
    record {
      next : here.next ≡ first.next;
      left : symbols_left here.own here.objects here.files ≡ symbols_left first.own first.objects first.files;
      places : here.objects + length (objects_among here.files) < 2 ^ 64;
    }

abbrev pub decreases-loop-symbol : goal.decreases-loop-symbol
decreases-loop-symbol g l = length l.self-inside.files
