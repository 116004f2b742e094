use Rattle.link_script.specs.declared.rules.Class.TheVariants.{Exact}
use Rattle.link_script.specs.Lookup.{asked}
use Rattle.link_script.proofs.Best.{fit_iff}
use Rattle.link_script.proofs.rules.BasicMatchRules.matches_exact.Goals as goal

pub returns : goal.returns
returns g c = rw (c.fits.ensures, c.look_up.ensures) (fit_iff c.args.self.now Exact (asked (g.D.Demangler.demangled c.args.demangler.now) c.args.name.now) c.args.mangled)
