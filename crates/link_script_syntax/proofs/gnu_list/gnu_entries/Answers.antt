use Rattle.std.proofs.Common.{arith, refl, sym, ◌∙◌}
use Rattle.std.proofs.lemmas.Result.{err_from_is_err_and}
use Rattle.link_script_syntax.specs.Many.{alone}
use Rattle.link_script_syntax.specs.GnuList.{list_turn, gnu_entries}
use Rattle.link_script_syntax.proofs.Repeat.{grow_step, grow_fails, grow_ends}
use Rattle.link_script_syntax.proofs.gnu_list.gnu_entries.Goals as goal

pub returns-in_err-entry-clause-gives : goal.returns-in_err-entry-clause-gives
unfolding gnu_entries
returns-in_err-entry-clause-gives c =
    let p = err_from_is_err_and c.from_residual.result c.from_residual.ensures.1 in
    rw (p.1, p.2, ← c.turns.invariant.reads) (grow_fails (alone (list_turn c.args.profile)) c.in_err-entry.field-0.0 c.turns.entries c.turns.rest.now c.in_err-entry.ensures.gives)

pub returns-in_default-clause-gives : goal.returns-in_default-clause-gives
unfolding gnu_entries
returns-in_default-clause-gives c = sym c.turns.invariant.reads ∙ grow_ends (alone (list_turn c.args.profile)) c.turns.entries c.turns.rest.now c.in_ok-entry.after.now (rw c.in_default.is at c.in_ok-entry.ensures.gives)

pub turns-preserved : goal.turns-preserved
turns-preserved c =
    let less = rw c.in-Some.is at c.in_ok-entry.ensures.shorter in
    record {
      reads = rw c.in_ok-push.ensures.ok
          (sym (grow_step (alone (list_turn c.args.profile)) c.turns.entries c.turns.rest.now c.in_ok-entry.after.now c.in-Some.entry (rw c.in-Some.is at c.in_ok-entry.ensures.gives) (less refl)) ∙ c.turns.invariant.reads);
      shorter = omega (arith, c.in_ok-entry.ensures.no_longer);
    }
