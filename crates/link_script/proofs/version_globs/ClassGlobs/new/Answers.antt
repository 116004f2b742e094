use Rattle.std.proofs.Common.{false, true}
use Rattle.link_script.proofs.version_globs.ClassGlobs.new.Goals as goal

pub returns : goal.returns
returns c = λ class. record { plain = c.new.ensures class false; cxx = c.new-2.ensures class true }
