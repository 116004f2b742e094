use Rattle.std.proofs.Common.{rules, arith}
use Rattle.std.proofs.lemmas.Grind.{common_steps}
use Rattle.std.specs.Str.{chars}
use Rattle.link_glob.proofs.Grammatical.{marks}
use Rattle.link_glob.proofs.compile.characters.Goals as goal

pub chars-init : goal.chars-init
chars-init c = (search rules, grind (arith, common_steps, marks (chars c.args.text.now)))
