use Rattle.link_desk.proofs.Selections.{known_reply}
use Rattle.link_desk.proofs.session_calls.ask_of.Goals as goal

pub returns-in-Some : goal.returns-in-Some
returns-in-Some c =
    known_reply c.args.session.now c.args.name.now c.in-Some.symbol c.is_loaded.result c.in-Some.ensures.value c.in-Some.ensures.none c.is_loaded.ensures
