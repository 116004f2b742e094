use Rattle.std.proofs.Common.{◌≡◌, ◌∙◌, Ok, ap, length, sym, subst, arith}
use Rattle.std.proofs.lemmas.Result.{err_from_is_err_and}
use Rattle.link_manifest.proofs.Gathering.{IsLeft, Passes, fault-left, none-left, one_more-left}
use Rattle.link_manifest.proofs.cut.gathered_items.Goals as goal

pub returns-in_err-at_item : goal.returns-in_err-at_item
returns-in_err-at_item g c = λ read values all.
    let l = c.loop-place in
    let rest = c.next.new.self.iter.rest.items in
    let steps = c.in-Some.ensures.steps in
    let left = subst (IsLeft read values l.place-iterator.count l.gathered.items) steps.0.0 (l.invariant read values all) in
    let passes = subst (λ n. Passes n c.in-Some.answer c.at_item.result) steps.1 c.at_item.ensures in
    let fails = subst (Passes l.place-iterator.count c.in-Some.answer) c.in_err-at_item.was passes in
    let told = err_from_is_err_and c.from_residual.result c.from_residual.ensures.1 in
    let fault = fault-left read values l.place-iterator.count l.gathered.items c.in-Some.answer rest c.in_err-at_item.field-0.0 left fails in
    rw (told.1, told.2) fault

pub loop-place-preserved : goal.loop-place-preserved
loop-place-preserved g c = λ read values all.
    let l = c.loop-place in
    let rest = c.next.new.self.iter.rest.items in
    let steps = c.in-Some.ensures.steps in
    let left = subst (IsLeft read values l.place-iterator.count l.gathered.items) steps.0.0 (l.invariant read values all) in
    let passes = subst (λ n. Passes n c.in-Some.answer c.at_item.result) steps.1 c.at_item.ensures in
    let reads = subst (Passes l.place-iterator.count c.in-Some.answer) c.in_ok-at_item.was passes in
    let more = one_more-left read values l.place-iterator.count l.gathered.items c.in-Some.answer rest c.in_ok-at_item.field-0 left reads in
    rw (c.in_ok-push.ensures.items, steps.2) more

pub returns : goal.returns
returns g c = λ read values all.
    let l = c.loop-place in
    let none : length l.place-iterator.iter.rest.items ≡ 0 = grind (arith, c.in-None.ensures.steps.0.0, l.place-iterator.iter.rest.ok) in
    none-left read values l.place-iterator.count l.gathered.items l.place-iterator.iter.rest.items none (l.invariant read values all)
    ∙ ap (λ xs. Ok xs) (sym c.from_vec.ensures)
