use Rattle.std.proofs.Common.{refl}
use Rattle.link_script.proofs.Pushing.{on_ok, on_err, adds_single, adds_several, adds_cxx, same_general, same_cxx}
use Rattle.link_script.proofs.rules.MatchRules.push.Goals as goal

pub returns-in-Single-clause-ok : goal.returns-in-Single-clause-ok
returns-in-Single-clause-ok c = rw c.in-Single.is (on_ok c.push.result _ _ (λ adds. adds_single c.args.self.now (record { general = c.push.new.self; cxx = c.args.self.now.cxx }) c.in-Single.matcher adds refl) c.push.ensures.ok)

pub returns-in-Single-clause-err : goal.returns-in-Single-clause-err
returns-in-Single-clause-err c = on_err c.push.result _ _ (λ same. same_general c.args.self.now (record { general = c.push.new.self; cxx = c.args.self.now.cxx }) same refl) c.push.ensures.err

pub returns-in-Multiple-clause-ok : goal.returns-in-Multiple-clause-ok
returns-in-Multiple-clause-ok c = rw c.in-Multiple.is (on_ok c.push_all.result _ _ (λ adds. adds_several c.args.self.now (record { general = c.push_all.new.self; cxx = c.args.self.now.cxx }) c.in-Multiple.matchers adds refl) c.push_all.ensures.ok)

pub returns-in-Multiple-clause-err : goal.returns-in-Multiple-clause-err
returns-in-Multiple-clause-err c = on_err c.push_all.result _ _ (λ same. same_general c.args.self.now (record { general = c.push_all.new.self; cxx = c.args.self.now.cxx }) same refl) c.push_all.ensures.err

pub returns-in-CxxMatchers-clause-ok : goal.returns-in-CxxMatchers-clause-ok
returns-in-CxxMatchers-clause-ok c = rw c.in-CxxMatchers.is (on_ok c.push_all-in-CxxMatchers.result _ _ (λ adds. adds_cxx c.args.self.now (record { general = c.args.self.now.general; cxx = c.push_all-in-CxxMatchers.new.self }) c.in-CxxMatchers.matchers adds refl) c.push_all-in-CxxMatchers.ensures.ok)

pub returns-in-CxxMatchers-clause-err : goal.returns-in-CxxMatchers-clause-err
returns-in-CxxMatchers-clause-err c = on_err c.push_all-in-CxxMatchers.result _ _ (λ same. same_cxx c.args.self.now (record { general = c.args.self.now.general; cxx = c.push_all-in-CxxMatchers.new.self }) same refl) c.push_all-in-CxxMatchers.ensures.err
