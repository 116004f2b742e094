use Rattle.std.proofs.Common.{◌∙◌, ap₂}
use Rattle.std.specs.Str.{chars}
use Rattle.link_glob.specs.GlobList.{later}
use Rattle.link_glob.specs.GlobKey.{filed}
use Rattle.link_glob.proofs.Keys.{found}
use Rattle.link_glob.proofs.glob_index.GlobIndex.last_match.Goals as goal

pub returns : goal.returns
returns g c = c.later.ensures ∙ ap₂ later c.last_by_front.ensures c.last_by_back.ensures ∙ found c.args.self.now.longest_front c.args.self.now.longest_back (g.G.Globs.globs c.args.globs.now) (chars c.args.name.now) (filed c.args.self.now) c.requires.within
