use Rattle.std.proofs.Common.{rules}
use Rattle.link_desk.proofs.Selections.{session_loaded_in, session_loaded_past}
use Rattle.link_desk.proofs.session_calls.is_loaded.Goals as goal

pub returns-in-Some : goal.returns-in-Some
returns-in-Some c =
    session_loaded_in c.args.session.now c.args.symbol c.in-Some.object c.is_loaded.result c.in-Some.ensures.value c.is_loaded.ensures

pub returns-in-Some-2 : goal.returns-in-Some-2
returns-in-Some-2 c =
    session_loaded_past c.args.session.now c.args.symbol c.in-Some.object c.in-Some.ensures.value (let count = c.num_objects.ensures in let past = c.if-object-num_objects.false in search (rules, count, past))
