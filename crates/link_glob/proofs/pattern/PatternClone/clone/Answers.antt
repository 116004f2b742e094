use Rattle.std.proofs.Common.{◌∙◌}
use Rattle.link_glob.proofs.Copied.{copied}
use Rattle.link_glob.proofs.pattern.PatternClone.clone.Goals as goal

pub returns : goal.returns
returns c = let h = c.in_ok-clone.ensures in record { cases = copied c.self.inside.tokens.items c.in_ok-clone.field-0.items h.cases.0 ∙ c.self.view_is }
