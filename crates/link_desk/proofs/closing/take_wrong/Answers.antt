use Rattle.std.proofs.Common.{◌≡◌, ◌∙◌, ◌<◌, ap, sym, subst, List, length, slice_get, rules}
use Rattle.std.proofs.lemmas.Option.{slice_get_within, same_Some}
use Rattle.link_desk.specs.Passes.{AreRight, Carried}
use Rattle.link_desk.proofs.Calls.{pass_within}
use Rattle.link_desk.proofs.closing.take_wrong.Goals as goal

pub returns-in_default-clause-call : goal.returns-in_default-clause-call
returns-in_default-clause-call g c =
    let P : List Carried → Type 0 = λ cs. AreRight c.args.history.now cs in
    subst P c.as_slice.ensures.value c.in_default.ensures.first

pub taken_at-call-requires-clause-pass : goal.taken_at-call-requires-clause-pass
taken_at-call-requires-clause-pass g c =
    let w = c.in-Some.ensures.first in
    let within = pass_within c.as_slice.result.now c.in-Some.p c.in-Some.k w.0 w.1.stands in
    search (rules, within)

pub taken_at-call-requires-clause-call : goal.taken_at-call-requires-clause-call
taken_at-call-requires-clause-call g c d at =
    let w = c.in-Some.ensures.first in
    let at' = ap (λ (cs : List Carried). slice_get cs c.in-Some.p) c.as_slice.ensures.value ∙ at in
    let same : w.1.stands.pass ≡ d = same_Some _ _ (sym w.1.stands.stands ∙ at') in
    let P : Carried → Type 0 = λ e. c.in-Some.k < length e.calls in
    subst P same (slice_get_within w.1.stands.pass.calls c.in-Some.k w.0 w.1.stands.holds)
