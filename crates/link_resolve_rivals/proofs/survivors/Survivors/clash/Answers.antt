use Rattle.std.proofs.Common.{◌≡◌, ◌∙◌, false, sym}
use Rattle.link_resolve_rivals.specs.Survivors.{strong_entries}
use Rattle.link_resolve_rivals.proofs.Entries.{two-differ}
use Rattle.link_resolve_rivals.proofs.survivors.Survivors.clash.Goals as goal

pub returns-clause-value : goal.returns-clause-value
returns-clause-value c = λ l tells.
    let asked : l.stage.options.allow_multiple ≡ false = sym tells.allow_multiple ∙ c.if-self.false in
    rw asked (two-differ (strong_entries l c.args.entries.now) c.in_ok-first.first c.in_ok-second.second (c.in_ok-first.ensures.value l tells) (c.in_ok-second.ensures.value l tells))
