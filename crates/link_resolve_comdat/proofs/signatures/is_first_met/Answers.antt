use Rattle.std.proofs.Common.{◌≡◌, ◌||◌, ◌&&◌, ◌∙◌, ap, Bool, true, arith}
use Rattle.std.specs.Str.{bytes_eq}
use Rattle.link_resolve_comdat.specs.InOrder.{is_met}
use Rattle.link_resolve_comdat.proofs.MetNames.{met-added}
use Rattle.link_resolve_comdat.proofs.signatures.is_first_met.Goals as goal

pub returns-clause-met : goal.returns-clause-met
returns-clause-met c = λ name.
    let comdat : true ≡ c.args.is_comdat = grind arith in
    met-added c.args.signatures.now c.insert.new.self c.args.signature.now name c.in_ok-insert.ensures.updates
    ∙ ap (λ (b : Bool). is_met c.args.signatures.now name || (b && bytes_eq name c.args.signature.now)) comdat
