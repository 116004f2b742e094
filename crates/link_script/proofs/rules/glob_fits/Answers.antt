use Rattle.std.proofs.Common.{◌∙◌, ap}
use Rattle.std.specs.Option.{is_some}
use Rattle.std.specs.Str.{chars}
use Rattle.link_script.proofs.Globs.{some_fits}
use Rattle.link_script.proofs.rules.glob_fits.Goals as goal

pub returns-in-Some : goal.returns-in-Some
returns-in-Some c = rw c.in-Some.is (c.is_some.ensures ∙ ap is_some c.last_match.ensures ∙ some_fits c.args.globs.now.items (chars c.in-Some.text.now))
