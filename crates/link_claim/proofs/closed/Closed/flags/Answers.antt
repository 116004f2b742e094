use Rattle.std.proofs.Common.{◌+◌, ◌<◌, ◌^◌, length, get_or, sym, subst, ap, ◌∙◌}
use Rattle.std.specs.Mem.Slots.{slots_items}
use Rattle.link_claim.specs.Seats.{Ending, flags_in}
use Rattle.link_claim.proofs.Calls.{value_at, ending_fits}
use Rattle.link_claim.proofs.closed.Closed.flags.Goals as goal

pub flags_of_word-requires : goal.flags_of_word-requires
flags_of_word-requires c =
    let placed = c.self.invariant.3 in
    let words = slots_items c.self.inside.closed.words in
    let view = c.self.inside.seat.value.me.0 in
    let lt = subst (λ (e : Ending). c.args.symbol < length e.view.work.opening) (sym c.self.view_is) c.requires in
    let found = value_at words (1 + c.self.inside.files + c.self.inside.items + c.as_usize.result) c.word.result c.word.ensures
    ∙ (λ i. get_or words (1 + placed.files_is i + placed.items_is i + c.as_usize.ensures.value i) 0) in
    subst (λ n. n < 2 ^ 32) (sym found) (ending_fits words view c.args.symbol c.self.invariant.2 placed.live placed.fits lt)

pub returns : goal.returns
returns c =
    let placed = c.self.invariant.3 in
    let words = slots_items c.self.inside.closed.words in
    c.flags_of_word.ensures ∙ value_at words (1 + c.self.inside.files + c.self.inside.items + c.as_usize.result) c.word.result c.word.ensures
    ∙ (λ i. get_or words (1 + placed.files_is i + placed.items_is i + c.as_usize.ensures.value i) 0)
    ∙ ap (λ (e : Ending). flags_in e c.args.symbol) c.self.view_is
