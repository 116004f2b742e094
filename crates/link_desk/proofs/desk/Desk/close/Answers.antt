use Rattle.link_desk.specs.Closing.{IsClosed}
use Rattle.link_desk.proofs.Closings.{closed_of, closed_sees, closed_sees_own}
use Rattle.link_desk.proofs.desk.Desk.close.Goals as goal

pub returns-clause-closed : goal.returns-clause-closed
returns-clause-closed g c =
    closed_of g.L.Opening.options g.L.Opening.texts c.into_inner.result c.args.passes.items c.settle.result c.settle.ensures.replayed c.settle.ensures.settled

-- what is given back sees what was added
pub returns-clause-sees : goal.returns-clause-sees
returns-clause-sees g c = closed_sees g.L.Opening.options g.L.Opening.texts c.args.passes.items c.settle.result (returns-clause-closed g c)

-- and each pass sees its own
pub returns-clause-own : goal.returns-clause-own
returns-clause-own g c = closed_sees_own g.L.Opening.options g.L.Opening.texts c.args.passes.items c.settle.result (returns-clause-closed g c)
