use Rattle.std.proofs.Common.{◌≡◌, ℕ, List}
use Rattle.std.specs.Prelude.{take}
use Rattle.link_names.specs.Names.{is_member}
use Rattle.link_script.specs.Room.{HasNameRoom}
use Rattle.link_script.proofs.rules.reserve_names.Given as goal

abbrev pub invariant-loop-matcher : goal.invariant-loop-matcher
invariant-loop-matcher l = record {
  same : (asked : List ℕ) → is_member l.names asked ≡ is_member l.fn.names asked;
  room : HasNameRoom (take l.matcher-index l.matchers) l.names;
}
