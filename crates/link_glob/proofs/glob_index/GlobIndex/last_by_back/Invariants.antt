use Rattle.std.proofs.Common.{◌≡◌, length, take, reverse}
use denote.Text.{Utf8}
use denote.Shadow.{shadow}
use Rattle.std.specs.Str.{chars}
use Rattle.link_glob.specs.GlobList.{later}
use Rattle.link_glob.specs.GlobKey.{filed, back_key, last_under_some}
use Rattle.link_glob.proofs.glob_index.GlobIndex.last_by_back.Given as goal

abbrev pub invariant-backs : goal.invariant-backs
invariant-backs g l = shadow (Utf8 l.rest)
    × (later l.found (last_under_some (g.G.Globs.globs l.globs) l.key (take l.left (reverse (chars l.rest))) (chars l.name) (filed l.self)) ≡ last_under_some (g.G.Globs.globs l.globs) back_key (take l.self.longest_back (reverse (chars l.name))) (chars l.name) (filed l.self))

abbrev pub decreases-backs : goal.decreases-backs
decreases-backs g l = length (reverse (chars l.rest))
