use Rattle.link_script.specs.Lookup.{asked}
use Rattle.link_script.specs.Rank.{glob_class}
use Rattle.link_script.proofs.Best.{fit_iff}
use Rattle.link_script.proofs.rules.BasicMatchRules.matches_glob.Goals as goal

pub returns : goal.returns
returns g c = rw (c.fits.ensures, c.look_up.ensures, c.glob_class.ensures) (fit_iff c.args.self.now (glob_class c.args.non_star) (asked (g.D.Demangler.demangled c.args.demangler.now) c.args.name.now) c.args.mangled)
