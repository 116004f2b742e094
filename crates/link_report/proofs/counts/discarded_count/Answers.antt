use Rattle.std.proofs.Common.{◌∙◌, Bool, ap}
use Rattle.std.proofs.Math.Path.{fun_ext}
use Rattle.link_input.specs.Limits.{total}
use Rattle.link_rules.specs.Comdat.{GroupPlace}
use Rattle.link_report.specs.Summary.{discarded_of}
use Rattle.link_report.proofs.counts.discarded_count.Goals as goal

-- the set has the places of the kept groups
pub returns : goal.returns
returns g c =
    c.discarded_in.ensures ∙ ap (λ (kept : GroupPlace → Bool). total (discarded_of kept) c.args.objects.now) (fun_ext (λ place. c.in_ok-kept.ensures place))
