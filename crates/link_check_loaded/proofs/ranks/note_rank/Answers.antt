use Rattle.std.proofs.Common.{◌∙◌, Bool, Some, ap, if◌then◌else◌}
use Rattle.std.specs.BTreeMap.{get}
use Rattle.std.specs.Ordering.{nat_cmp}
use Rattle.link_check_loaded.proofs.Rising.{is-eq}
use Rattle.link_check_loaded.proofs.ranks.note_rank.Goals as goal

pub returns : goal.returns
returns c = λ f.
    c.in_ok-insert.ensures.updates.0 f
    ∙ ap (λ (b : Bool). if b then Some c.args.claimed.now.rank else get nat_cmp c.args.ranks.now f) (is-eq c.args.claimed.now.object f)
