use Rattle.std.proofs.Common.{◌++◌, ◌∙◌, ap, arith, length, sym}
use Rattle.std.specs.Prelude.{option_to_list}
use Rattle.std.proofs.lemmas.List.{append-nil}
use Rattle.link_resolve_rivals.specs.Chosen.{list_choice}
use Rattle.link_resolve_rivals.proofs.SettlePass.{told-more}
use Rattle.link_resolve_rivals.proofs.choosing.choices.Goals as goal
use Rattle.link_resolve_rivals.proofs.choosing.choices.Goals.{in-Some+in_ok-push, in_default}

-- one head more
pub loop-number-preserved : goal.loop-number-preserved
loop-number-preserved g c = λ selection tells.
    let listed = g.L.RivalLists.listed c.args.lists.now in
    let table = c.args.table.now in
    let told = c.loop-number.told.items in
    let found = c.in_ok-found.ensures selection tells ∙ ap (λ h. list_choice selection c.args.is_versioned (listed h) table h) c.from_usize-head.ensures in
    told-more (λ s. list_choice selection c.args.is_versioned (listed s) table s) told _ c.loop-number.number (length table) c.in_ok-found.found (omega arith) found
    (elim c.match-found.branch [
      | in-Some+in_ok-push w ↦ ap (λ v. v.items) w.told-is ∙ w.in_ok-push.ensures.items ∙ sym (ap (λ o. told ++ option_to_list o) w.in-Some.is)
      | in_default w ↦ ap (λ v. v.items) w.told-is ∙ sym (ap (λ o. told ++ option_to_list o) w.in_default.is ∙ append-nil told)
    ])
    ∙ c.loop-number.invariant selection tells
