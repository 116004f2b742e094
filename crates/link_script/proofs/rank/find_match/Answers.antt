use Rattle.link_script.specs.Lookup.{asked}
use Rattle.link_script.proofs.Best.{is_best, best_of_text}
use Rattle.link_script.proofs.rank.find_match.Goals as goal

pub returns-clause-best : goal.returns-clause-best
returns-clause-best g c = rw (c.best_match.ensures.value, c.look_up.ensures) (is_best c.args.versions.now (asked (g.D.Demangler.demangled c.args.demangler.now) c.args.name.now))

pub returns-clause-of_text : goal.returns-clause-of_text
returns-clause-of_text g c = λ raws are. best_of_text raws c.args.versions.now (asked (g.D.Demangler.demangled c.args.demangler.now) c.args.name.now) _ are
    (rw (c.best_match.ensures.value, c.look_up.ensures) (is_best c.args.versions.now (asked (g.D.Demangler.demangled c.args.demangler.now) c.args.name.now)))
