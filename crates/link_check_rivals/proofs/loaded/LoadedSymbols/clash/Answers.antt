use Rattle.std.proofs.Common.{◌≡◌, ◌∙◌, false}
use Rattle.link_check_rivals.specs.Lists.{strong_entries}
use Rattle.link_check_rivals.proofs.OneList.{two-differ}
use Rattle.link_check_rivals.proofs.loaded.LoadedSymbols.clash.Goals as goal

pub returns : goal.returns
returns c = λ l tells.
    let asked : l.stage.options.allow_multiple ≡ false = tells.multiple ∙ c.if-self.false in
    rw asked (two-differ (strong_entries l c.args.entries.now) c.in_ok-first.first c.in_ok-second.second (c.in_ok-first.ensures l tells) (c.in_ok-second.ensures l tells))
