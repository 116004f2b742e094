use Rattle.std.proofs.Common.{◌∙◌, ap₂}
use Rattle.link_script.specs.VersionGlobs.{stronger}
use Rattle.link_script.proofs.version_globs.ClassGlobs.strongest.Goals as goal

pub returns : goal.returns
returns c = c.stronger.ensures ∙ ap₂ stronger (rw c.text_of.ensures at c.strongest.ensures) (rw c.text_of-2.ensures at c.strongest-2.ensures)
