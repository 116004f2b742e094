use Rattle.std.proofs.Common.{◌≡◌, ◌+◌, Bool, None, subst}
use Rattle.std.specs.Prelude.{◌||◌, is_some}
use Rattle.link_rules.specs.Refusals.{version_text_cause}
use Rattle.link_db_texts.proofs.Taken.{cause_passed, cause_taken, found_at, passed_at}
use Rattle.link_db_texts.proofs.scripts.batch_script.Goals as goal
use Rattle.link_db_texts.proofs.scripts.batch_script.Goals.{in-Some+in_ok-script, in_default}

pub loop-i-preserved : goal.loop-i-preserved
loop-i-preserved c =
    let profile = c.args.profile in
    let late = c.args.is_late in
    let s = c.index-scripts-i.result in
    let scripts = c.args.scripts.now in
    elim c.match-script.branch [
      | in-Some+in_ok-script w ↦
          let none = subst (λ (b : Bool). version_text_cause profile late b (c.args.first + c.loop-i.i) w.in-Some.text ≡ None) w.is_second-is_second.ensures w.in_ok-script.ensures.cause in
          rw w.taken-is (record {
            cause = cause_taken profile late c.args.is_taken (c.args.is_taken || is_some c.loop-i.taken) c.args.first scripts c.loop-i.i s w.in-Some.text _
                c.loop-i-test.true c.index-scripts-i.is w.in-Some.is none c.loop-i.invariant.cause;
            found = found_at profile late c.args.is_taken (c.args.first + c.loop-i.i) scripts c.loop-i.i s w.in-Some.text c.loop-i.taken w.in_ok-script.script
                c.loop-i-test.true c.index-scripts-i.is w.in-Some.is none w.in_ok-script.ensures.script c.loop-i.invariant.found;
          })
      | in_default w ↦ rw w.taken-is (record {
        cause = cause_passed profile late (c.args.is_taken || is_some c.loop-i.taken) c.args.first scripts c.loop-i.i s _
            c.loop-i-test.true c.index-scripts-i.is w.in_default.is c.loop-i.invariant.cause;
        found = passed_at profile scripts c.loop-i.i s c.loop-i.taken c.loop-i-test.true c.index-scripts-i.is w.in_default.is c.loop-i.invariant.found;
      })
    ]
