use Rattle.std.proofs.Common.{subst, add-one}
use Rattle.std.specs.Prelude.{IsTrue}
use Rattle.link_closure.specs.Levels.{IsLevel}
use Rattle.link_closure.proofs.Layers.{one-level, level-leads}
use Rattle.link_closure.proofs.Reaching.{chain-in_closed, level-of-marked}
use Rattle.link_closure.specs.Closure.{is_marked}
use Rattle.link_closure.proofs.breadth_first.levels_of_the_least_closed_set.Goals as goal

pub returns-clause-some : goal.returns-clause-some
returns-clause-some c = λ root leads count f marks least marked. level-of-marked root leads count marks least f marked

pub returns-clause-only : goal.returns-clause-only
returns-clause-only c = λ root leads count n f marks least chain. chain-in_closed _ _ (is_marked marks) least.closed n f chain

pub returns-clause-one : goal.returns-clause-one
returns-clause-one c = λ root leads n m f a b. one-level _ _ n m f a b

pub returns-clause-root : goal.returns-clause-root
returns-clause-root c = λ root leads f level. level.chain

pub returns-clause-step : goal.returns-clause-step
returns-clause-step c = λ root leads n f level.
    level-leads (λ g. IsTrue (root g)) (λ g h. IsTrue (leads g h)) n f
    (subst (λ k. IsLevel (λ g. IsTrue (root g)) (λ g h. IsTrue (leads g h)) k f) (add-one n) level)
