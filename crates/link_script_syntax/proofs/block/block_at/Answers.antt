use Rattle.std.proofs.Common.{arith, refl, sym, ◌∙◌}
use Rattle.std.proofs.lemmas.Result.{err_from_is_err_and}
use Rattle.link_script_syntax.specs.Many.{alone}
use Rattle.link_script_syntax.specs.Block.{block_turn, block_at}
use Rattle.link_script_syntax.proofs.Repeat.{grow_step, grow_fails, grow_ends}
use Rattle.link_script_syntax.proofs.block.block_at.Goals as goal

pub returns-in_err-matcher-clause-gives : goal.returns-in_err-matcher-clause-gives
unfolding block_at
returns-in_err-matcher-clause-gives c =
    let p = err_from_is_err_and c.from_residual.result c.from_residual.ensures.1 in
    rw (p.1, p.2, ← c.turns.invariant.reads) (grow_fails (alone block_turn) c.in_err-matcher.field-0.0 c.turns.matchers c.turns.rest.now c.in_err-matcher.ensures.gives)

pub returns-in_default-clause-gives : goal.returns-in_default-clause-gives
unfolding block_at
returns-in_default-clause-gives c = sym c.turns.invariant.reads ∙ grow_ends (alone block_turn) c.turns.matchers c.turns.rest.now c.in_ok-matcher.after.now (rw c.in_default.is at c.in_ok-matcher.ensures.gives)

pub turns-preserved : goal.turns-preserved
turns-preserved c =
    let less = rw c.in-Some.is at c.in_ok-matcher.ensures.shorter in
    record {
      reads = rw c.in_ok-push.ensures.ok
          (sym (grow_step (alone block_turn) c.turns.matchers c.turns.rest.now c.in_ok-matcher.after.now c.in-Some.matcher (rw c.in-Some.is at c.in_ok-matcher.ensures.gives) (less refl)) ∙ c.turns.invariant.reads);
      shorter = omega (arith, c.in_ok-matcher.ensures.no_longer);
      kept = (rw c.in-Some.is at c.in_ok-matcher.ensures.kept) refl;
    }
