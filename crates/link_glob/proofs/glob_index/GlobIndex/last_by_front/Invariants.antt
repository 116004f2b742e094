use Rattle.std.proofs.Common.{◌≡◌, length, take}
use denote.Text.{Utf8}
use denote.Shadow.{shadow}
use Rattle.std.specs.Str.{chars}
use Rattle.link_glob.specs.GlobList.{later}
use Rattle.link_glob.specs.GlobKey.{filed, front_key, last_under_some}
use Rattle.link_glob.proofs.glob_index.GlobIndex.last_by_front.Given as goal

abbrev pub invariant-fronts : goal.invariant-fronts
invariant-fronts g l = shadow (Utf8 l.rest)
    × (later l.found (last_under_some (g.G.Globs.globs l.globs) l.key (take l.left (chars l.rest)) (chars l.name) (filed l.self)) ≡ last_under_some (g.G.Globs.globs l.globs) front_key (take l.self.longest_front (chars l.name)) (chars l.name) (filed l.self))

abbrev pub decreases-fronts : goal.decreases-fronts
decreases-fronts g l = length (chars l.rest)
