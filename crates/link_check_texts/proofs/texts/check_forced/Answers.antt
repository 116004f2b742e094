use Rattle.std.proofs.Common.{◌≡◌, get_or, sym, subst}
use Rattle.link_rules.specs.Places.{Bytes}
use Rattle.link_check_texts.proofs.Forced.{refused_at, cause_kept}
use Rattle.link_check_texts.proofs.texts.check_forced.Goals as goal

pub returns-in-Err : goal.returns-in-Err
returns-in-Err c =
    let is = subst (λ (n : Bytes). n ≡ get_or c.args.forced.now c.loop-i.i n) (sym c.as_slice.ensures) c.index-forced-i.is in
    record {
      cause = refused_at c.args.forced.now c.loop-i.i c.as_slice.result.now c.in-Err.fault c.error_of.result c.loop-i-test.true is
          c.loop-i.invariant c.in-Err.ensures.refused c.error_of.ensures;
    }

pub loop-i-preserved : goal.loop-i-preserved
loop-i-preserved c =
    let is = subst (λ (n : Bytes). n ≡ get_or c.args.forced.now c.loop-i.i n) (sym c.as_slice.ensures) c.index-forced-i.is in
    let added = c.in_default.ensures.added in
    cause_kept c.args.forced.now c.loop-i.i c.as_slice.result.now added.0 c.loop-i-test.true is c.loop-i.invariant added.1
