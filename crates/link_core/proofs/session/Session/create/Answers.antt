use Rattle.std.proofs.Common.{Some}
use Rattle.link_core.proofs.session.Session.create.Goals as goal

-- no batch came yet
pub invariant_of-held : goal.invariant_of-held
invariant_of-held g c = c.in_ok-standing.ensures.standing (g.D.Demangler.demangled c.args.demangler)

pub returns-clause-held : goal.returns-clause-held
returns-clause-held g c =
    let e = c.in_ok-standing.ensures in
    λ i. Some (record { demangler = c.args.demangler; options = e.options i; texts = e.texts i; batches = e.batches i })
