use Rattle.std.proofs.Common.{sym, ◌∙◌, ap}
use Rattle.link_script.specs.ExportRules.{some_fits}
use Rattle.link_script.specs.Lookup.{asked}
use Rattle.link_script.proofs.Listing.{some_found, some_is}
use Rattle.link_script.proofs.export_list.ExportList.contains.Goals as goal

pub returns : goal.returns
returns g c =
    let name = asked (g.D.Demangler.demangled c.args.demangler.now) c.args.name.now in
    let same = c.some_fits.ensures ∙ ap (some_fits c.args.self.now.rules) c.look_up.ensures in
    (λ t. some_found c.args.self.now.rules name (sym same ∙ t), λ s. same ∙ some_is c.args.self.now.rules name s)
