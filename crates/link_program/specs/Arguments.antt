-- The arguments of a process.
use Rattle.std.specs.Prelude.{List, [], Result, Ok, Err, String, drop, map, string_bytes}
use Rattle.std.specs.declared.vec.IntoIter.{IntoIter}
use Rattle.std.specs.Vec.Iter.{into_iter_items}
use Rattle.link_rules.specs.Places.{Bytes}

-- the words of a command: the arguments behind the first, which is the program's name; none where one of them is no text
abbrev pub words_of_arguments : {E Z : Type 0} → Result (IntoIter (String Z) Z) E → List Bytes
words_of_arguments (Ok args) = map string_bytes (drop 1 (into_iter_items args))
words_of_arguments (Err error) = []
