use Rattle.std.proofs.Common.{◌++◌, ◌∙◌, ap, arith, length, subst, sym, zero-add}
use Rattle.std.specs.Prelude.{All, IfSome, option_to_list}
use Rattle.std.proofs.lemmas.List.{append-nil}
use Rattle.std.proofs.lemmas.List.Elements.{All-push}
use Rattle.link_resolve_rivals.specs.Settled.{IsInside, clash_at, settled_at, settled_on}
use Rattle.link_resolve_rivals.proofs.Passes.{list-is, number-at}
use Rattle.link_resolve_rivals.proofs.SettlePass.{clash-same, settled-all, settled-more, told-more}
use Rattle.link_resolve_rivals.proofs.settling.settle.Goals as goal
use Rattle.link_resolve_rivals.proofs.settling.settle.Goals.{in-Some+in_ok-push, in_default}

pub loop-number-preserved : goal.loop-number-preserved
loop-number-preserved g c =
    let listed = g.L.RivalLists.listed c.args.lists.now in
    let old = c.args.table.now in
    let table = c.loop-number.table in
    let i = c.loop-number.number in
    let so_far = c.loop-number.invariant in
    record {
      inside = c.in_ok-told.ensures.inside;
      table = λ selection tells s.
          c.in_ok-told.ensures.table selection tells s ∙ ap (λ h. settled_on selection (listed h) table h s) c.from_usize-head.ensures
          ∙ settled-more selection listed (length old) c.requires.lists old i table (so_far.table selection tells) s;
      clashes = λ selection tells.
          let told = c.in_ok-told.ensures.clash selection tells ∙ ap (λ h. clash_at selection (listed h) table h) c.from_usize-head.ensures
          ∙ clash-same selection listed (length old) c.requires.lists old i table (so_far.table selection tells) in
          told-more (λ s. clash_at selection (listed s) old s) c.loop-number.clashes.items _ i (length old) c.in_ok-told.told (omega arith) told
          (elim c.match-told.branch [
            | in-Some+in_ok-push w ↦
                ap (λ v. v.items) w.clashes-is ∙ w.in_ok-push.ensures.items ∙ sym (ap (λ o. c.loop-number.clashes.items ++ option_to_list o) w.in-Some.is)
            | in_default w ↦
                ap (λ v. v.items) w.clashes-is
                ∙ sym (ap (λ o. c.loop-number.clashes.items ++ option_to_list o) w.in_default.is ∙ append-nil c.loop-number.clashes.items)
          ])
          ∙ so_far.clashes selection tells;
      told = elim c.match-told.branch [
        | in-Some+in_ok-push w ↦
            let one : IsInside (length table) w.in-Some.clash = subst (λ o. IfSome o (IsInside (length table))) w.in-Some.is c.in_ok-told.ensures.told in
            subst (All (IsInside (length old))) (sym (ap (λ v. v.items) w.clashes-is ∙ w.in_ok-push.ensures.items))
            (All-push (IsInside (length old)) c.loop-number.clashes.items w.in-Some.clash so_far.told (subst (λ n. IsInside n w.in-Some.clash) (omega arith) one))
        | in_default w ↦ subst (All (IsInside (length old))) (sym (ap (λ v. v.items) w.clashes-is)) so_far.told
      ];
    }

pub returns-clause-table : goal.returns-clause-table
returns-clause-table g c = λ l tells.
    let listed = g.L.RivalLists.listed c.args.lists.now in
    let old = c.args.table.now in
    list-is (settled_at l listed old) 0 c.loop-number.table old (omega arith)
    (λ s t at. c.loop-number.invariant.table l tells s ∙ settled-all l listed (length old) c.requires.lists old c.loop-number.number s (omega arith)
    ∙ ap (settled_at l listed old s) (number-at old s t at) ∙ ap (λ k. settled_at l listed old k t) (sym (zero-add s)))
