use Rattle.std.proofs.Common.{◌+◌, ◌<◌, sym, subst, ap, ◌∙◌}
use Rattle.std.specs.Prelude.{◌==◌}
use Rattle.std.specs.Mem.Slots.{slots_items}
use Rattle.link_closure.specs.Closure.{is_marked}
use Rattle.link_claim.specs.Seats.{Ending, claimed_in}
use Rattle.link_claim.proofs.Calls.{value_at}
use Rattle.link_claim.proofs.Settled.{mark_at, ending_wide}
use Rattle.link_claim.proofs.closed.Closed.is_claimed.Goals as goal

pub returns : goal.returns
returns c =
    let words = slots_items c.self.inside.closed.words in
    let lt = subst (λ (e : Ending). c.args.file < e.view.work.files) (sym c.self.view_is) c.requires in
    ap (λ n. n == 1) (value_at words (1 + c.args.file) c.word.result c.word.ensures)
    ∙ sym (mark_at _ words (ending_wide words _ c.self.invariant.2) c.args.file lt)
    ∙ ap (λ (e : Ending). is_marked (claimed_in e) c.args.file) c.self.view_is
