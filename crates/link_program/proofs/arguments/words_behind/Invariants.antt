use Rattle.std.proofs.Common.{◌≡◌, ◌++◌, drop, map, string_bytes}
use Rattle.std.specs.Vec.Iter.{into_iter_items}
use Rattle.link_program.proofs.arguments.words_behind.Given as goal

abbrev pub invariant-loop-arg : goal.invariant-loop-arg
invariant-loop-arg l = l.words.items ++ map string_bytes (into_iter_items l.arg-iterator) ≡ map string_bytes (drop 1 (into_iter_items l.fn.args))
