-- Each stage of a link has loaded objects.
use Rattle.std.proofs.Common.{List, Bool}
use Rattle.link_rules.specs.World.{World, Stage}
use Rattle.link_rules.specs.Loading.{IsLoaded}
use Rattle.link_rules.specs.Orderly.{IsOrderly}
use Rattle.link_rules.specs.Work.{IsStageOf, workload_of}
use Rattle.link_rules.proofs.Stages.{orderly-stage}
use Rattle.link_rules.proofs.Rounds.{some-least}
use Rattle.link_rules.proofs.WorkDone.{work-sound}
use Rattle.link_rules.proofs.WorkItems.{work-loaded}

-- they are the least closed set of the stage's work
pub orderly-loads : (w : Stage) → IsOrderly w → (marks : List Bool) × IsLoaded w marks
orderly-loads w orderly =
    let found = some-least (workload_of w) (work-sound w orderly) in
    (found.0, (work-loaded w found.0 orderly).1 found.1)

-- so it is of each stage that a link comes to
pub stage-loads : (world : World) (w : Stage) → IsStageOf world w → (marks : List Bool) × IsLoaded w marks
stage-loads world w to = orderly-loads w (orderly-stage world w to)
