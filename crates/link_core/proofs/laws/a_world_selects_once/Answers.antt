use Rattle.std.proofs.Common.{◌≡◌, Ok, false}
use Rattle.link_rules.proofs.WorldOnce.{one-end}
use Rattle.link_rules.specs.Answer.{End}
use Rattle.link_rules.specs.Selection.{Selection}
use Rattle.link_rules.specs.World.{start_of}
use Rattle.link_core.proofs.laws.a_world_selects_once.Goals as goal

-- what is selected is the same at one end
ok-same : (a b : Selection) → ◌≡◌ {A = End} (Ok a) (Ok b) → a ≡ b
ok-same a b same = cc

pub returns : goal.returns
returns c = λ w a b first second. ok-same a b (one-end false (start_of w) w.first w.later (Ok a) (Ok b) first.ends second.ends)
