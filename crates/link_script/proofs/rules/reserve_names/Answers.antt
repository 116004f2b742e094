use Rattle.std.proofs.Common.{◌∙◌}
use Rattle.link_script.proofs.Roomy.{room_on}
use Rattle.link_script.proofs.rules.reserve_names.Goals as goal
use Rattle.link_script.proofs.rules.reserve_names.Goals.{in-Some+in_ok-clone+in_ok-reserve, in_default}

pub loop-matcher-preserved : goal.loop-matcher-preserved
loop-matcher-preserved c = elim c.match-exact_name.branch [
  | in-Some+in_ok-clone+in_ok-reserve w ↦ rw w.names-is (record {
    same = λ asked. w.reserve.ensures.same asked ∙ c.loop-matcher.invariant.same asked;
    room = room_on c.args.matchers.now c.loop-matcher.matcher-index c.matcher-item.result c.loop-matcher.names w.reserve.new.self c.matcher-item.is c.loop-matcher-test.true c.loop-matcher.invariant.room w.reserve.ensures.room (rw (← w.in-Some.ensures, ← w.in_ok-clone.ensures.cases) w.in_ok-reserve.ensures.ok);
  })
  | in_default w ↦ rw w.names-is (record {
    same = c.loop-matcher.invariant.same;
    room = room_on c.args.matchers.now c.loop-matcher.matcher-index c.matcher-item.result c.loop-matcher.names c.loop-matcher.names c.matcher-item.is c.loop-matcher-test.true c.loop-matcher.invariant.room (λ asked has. has) (rw (← w.in_default.ensures) tt);
  })
]
