-- The loaded objects of a selection, by what is loaded without a reference.
use Rattle.std.specs.Prelude.{List, IsTrue, length}
use Rattle.link_closure.specs.Closure.{IsLeastClosed}
use Rattle.link_rules.specs.declared.explanation.FoundRoot.{FoundRoot}
use Rattle.link_rules.specs.Reasons.{Loads, is_rooted}
use Rattle.link_rules.specs.Selection.{Selection}

-- they are the least closed set of what is loaded in any case or for one of these roots, and what references ask for, as at the end of each link
abbrev pub FollowsFrom : List FoundRoot → Selection → Type 0
FollowsFrom roots l = IsLeastClosed (λ g. IsTrue (is_rooted l.stage roots g)) (Loads l) (length l.stage.objects) l.marks
