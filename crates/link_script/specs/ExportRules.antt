-- Whether some pattern of a list fits a name.
use Rattle.std.specs.Prelude.{Bool, ◌||◌}
use Rattle.link_script.specs.declared.rules.Class.{Class}
use Rattle.link_script.specs.declared.rules.Class.TheVariants.{Exact, Nonstar, Star, Every}
use Rattle.link_script.specs.declared.rules.MatchRules.{MatchRules}
use Rattle.link_script.specs.Lookup.{Asked}
use Rattle.link_script.specs.Rules.{plain_fits, cxx_fits}

-- a pattern of this class fits the name
abbrev pub class_fits : MatchRules → Asked → Class → Bool
class_fits rules a class = plain_fits rules class a || cxx_fits rules class a

-- a pattern of some class fits it
unfoldable pub some_fits : MatchRules → Asked → Bool
some_fits rules a = class_fits rules a Exact || (class_fits rules a Every || (class_fits rules a Nonstar || class_fits rules a Star))
